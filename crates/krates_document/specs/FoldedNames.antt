-- The order of names in which '-' and '_' are the same.
use Rattle.std.specs.Prelude.{◌==◌, ℕ, Bool, cond, map}
use Rattle.std.specs.declared.cmp.Ordering.{Ordering}
use Rattle.std.specs.Cmp.Lexicographic.{slice_cmp}
use Rattle.std.specs.Ordering.{nat_cmp, on, eq_by_cmp}
use Rattle.krates_cm.specs.Document.{Text}
use Rattle.krates_rules.specs.DependencyName.{hyphen, underscore}
use Rattle.krates_document.specs.declared.folded_name.FoldedName.{FoldedName}

-- the byte, '-' as '_'
abbrev pub folded_byte : ℕ → ℕ
folded_byte byte = cond (byte == hyphen) underscore byte

-- the name, each '-' as '_'
abbrev pub folded : Text → Text
folded name = map folded_byte name

-- how two names compare by their bytes, with '-' as '_'
abbrev pub folded_order : Text → Text → Ordering
folded_order = on folded (slice_cmp nat_cmp)

abbrev pub name_cmp : FoldedName → FoldedName → Ordering
name_cmp = on (λ n. n.text.now) folded_order

abbrev pub same_name : FoldedName → FoldedName → Bool
same_name = eq_by_cmp name_cmp
