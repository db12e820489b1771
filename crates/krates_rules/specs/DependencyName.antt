-- When the name of a resolved dependency is a declared one (Cargo Book, "cargo metadata", `resolve`).
use Rattle.std.specs.Prelude.{◌≡◌, ◌⊎◌, ℕ}
use Rattle.std.specs.List.{AllZip}
use Rattle.krates_cm.specs.Document.{Text}

-- '_'
abbrev pub underscore : ℕ
underscore = 95

-- '-'
abbrev pub hyphen : ℕ
hyphen = 45

-- the byte is the declared one, or may replace it: cargo resolves the name `a-b` as `a_b`
abbrev pub IsByteOf : ℕ → ℕ → Type 0
IsByteOf resolved declared = (resolved ≡ declared) ⊎ ((resolved ≡ underscore) × (declared ≡ hyphen))

-- the resolved name is the declared one, byte by byte
abbrev pub IsNameOf : Text → Text → Type 0
IsNameOf resolved declared = AllZip IsByteOf resolved declared
