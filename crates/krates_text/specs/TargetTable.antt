-- The targets that are known by their triple, and what each is.
use Rattle.std.specs.Prelude.{ℕ, Bool, true, false, List, [], ◌∷◌, Option, map, find, codes, string_bytes}
use Rattle.std.specs.Option.{option_map_or}
use Rattle.std.specs.Str.{bytes_eq}
use Rattle.krates_text.specs.declared.target.TargetInfo.{TargetInfo}
use Rattle.krates_text.specs.declared.target.Target.{Target}
use Rattle.krates_text.specs.declared.target.Target.TheVariants as variant

-- what a target is, by the texts that a cfg expression compares
pub record Description : Type 0 where
  pub triple : List ℕ
  pub arch : List ℕ
  pub os : List ℕ
  pub env : List ℕ
  pub abi : List ℕ
  pub vendor : List ℕ
  pub pointer_width : List ℕ
  pub endian : List ℕ
  pub panic : List ℕ
  pub families : List (List ℕ)
  pub atomics : List (List ℕ)

-- a row of the table: triple, arch, os, env, vendor, family, pointer width and panic; the rest is the same in each
abbrev pub row : (triple arch os env vendor family pointer_width panic : List ℕ) → Description
row triple arch os env vendor family pointer_width panic = record {
  triple = triple;
  arch = arch;
  os = os;
  env = env;
  abi = [];
  vendor = vendor;
  pointer_width = pointer_width;
  endian = codes "little";
  panic = panic;
  families = family ∷ [];
  atomics = codes "8" ∷ codes "16" ∷ codes "32" ∷ codes "64" ∷ codes "ptr" ∷ [];
}

abbrev pub table : List Description
table =
    row (codes "x86_64-unknown-linux-gnu") (codes "x86_64") (codes "linux") (codes "gnu") (codes "unknown") (codes "unix") (codes "64") (codes "unwind")
    ∷ row (codes "x86_64-unknown-linux-musl") (codes "x86_64") (codes "linux") (codes "musl") (codes "unknown") (codes "unix") (codes "64") (codes "unwind")
    ∷ row (codes "aarch64-unknown-linux-gnu") (codes "aarch64") (codes "linux") (codes "gnu") (codes "unknown") (codes "unix") (codes "64") (codes "unwind")
    ∷ row (codes "x86_64-pc-windows-msvc") (codes "x86_64") (codes "windows") (codes "msvc") (codes "pc") (codes "windows") (codes "64") (codes "unwind")
    ∷ row (codes "x86_64-apple-darwin") (codes "x86_64") (codes "macos") [] (codes "apple") (codes "unix") (codes "64") (codes "unwind")
    ∷ row (codes "aarch64-apple-darwin") (codes "aarch64") (codes "macos") [] (codes "apple") (codes "unix") (codes "64") (codes "unwind")
    ∷ row (codes "wasm32-unknown-unknown") (codes "wasm32") (codes "unknown") [] (codes "unknown") (codes "wasm") (codes "32") (codes "abort")
    ∷ []

-- the row with this triple, if the table has one
abbrev pub row_of : List ℕ → Option Description
row_of triple = find (λ d. bytes_eq d.triple triple) table

-- what is known of a target, as the bytes of its texts
abbrev pub description_of : TargetInfo → Description
description_of info = record {
  triple = string_bytes info.triple;
  arch = string_bytes info.arch;
  os = string_bytes info.os;
  env = string_bytes info.env;
  abi = string_bytes info.abi;
  vendor = string_bytes info.vendor;
  pointer_width = string_bytes info.pointer_width;
  endian = string_bytes info.endian;
  panic = string_bytes info.panic;
  families = map string_bytes info.families.items;
  atomics = map string_bytes info.atomics.items;
}

-- a target: one that is described, or a text about which nothing is known
pub data DescribedTarget : Type 0 where
  builtin : Description → DescribedTarget
  unknown : List ℕ → DescribedTarget

-- a target as clauses see it: described, or a text of which nothing is known
abbrev pub target_of : Target → DescribedTarget
target_of (variant.Builtin info) = builtin (description_of info)
target_of (variant.Unknown text) = unknown (string_bytes text)

-- the target that a text names
abbrev pub target_named : List ℕ → DescribedTarget
target_named text = option_map_or builtin (row_of text) (unknown text)

-- whether the target is described
abbrev pub is_described : DescribedTarget → Bool
is_described (builtin d) = true
is_described (unknown text) = false

-- the text that a target is printed as
abbrev pub printed : DescribedTarget → List ℕ
printed (builtin d) = d.triple
printed (unknown text) = text
