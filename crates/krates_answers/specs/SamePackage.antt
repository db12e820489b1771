-- When packages mean the same, each in its checkout of a workspace.
use Rattle.std.specs.Prelude.{◌≡◌, ◌==◌, ◌||◌, ◌∷◌, ◌++◌, [], Bool, IsTrue, None, Option, Some, false, option_map, string_bytes}
use Rattle.krates_cm.specs.Document.{Text, source_view, text_view}
use Rattle.krates_cm.specs.declared.package.Package.{Package}
use Rattle.semver.specs.Identifiers.{parts_of}

-- The text begins with what separates the parts of a path. 47 is `/`, and 92 is `\`.
abbrev pub begins_with_separator : Text → Bool
begins_with_separator [] = false
begins_with_separator (first ∷ rest) = first == 47 || first == 92

-- behind the root comes this rest of the path, from a separator on
pub record IsBelow (root path rest : Text) : Type 0 where
  pub is : path ≡ root ++ rest
  pub separated : IsTrue (begins_with_separator rest)

-- the path isn't below the root
abbrev pub IsElsewhere : Text → Text → Type 0
IsElsewhere root path = (rest : Text) → IsBelow root path rest → ⊥

-- Two paths are the same place: they have one rest below their roots, or neither is below its root, and they are equal.
pub data IsSamePlace (root path other_root other : Text) : Type 0 where
  below : (rest : Text) → IsBelow root path rest → IsBelow other_root other rest → IsSamePlace root path other_root other
  elsewhere : IsElsewhere root path → IsElsewhere other_root other → path ≡ other → IsSamePlace root path other_root other

-- Two packages are of one source; or both are of a machine, which have none, and their manifests are at the same place.
pub data HaveSameHome (root : Text) (pkg : Package) (other_root : Text) (other : Package) : Type 0 where
  of_source : (source : Text) → option_map source_view pkg.source ≡ Some source → option_map source_view other.source ≡ Some source → HaveSameHome root pkg other_root other
  of_machine : pkg.source ≡ None → other.source ≡ None → IsSamePlace root (text_view pkg.manifest_path) other_root (text_view other.manifest_path) → HaveSameHome root pkg other_root other

-- two packages, each in a checkout of a workspace with this root, have one name, one version, and one home
pub record MeanSame (root : Text) (pkg : Package) (other_root : Text) (other : Package) : Type 0 where
  pub name : text_view pkg.name ≡ text_view other.name
  pub version : parts_of pkg.version ≡ parts_of other.version
  pub home : HaveSameHome root pkg other_root other
