-- A build that ignores one more kind, and the crates that kept members reach without it.
use Rattle.std.specs.Prelude.{◌≡◌, Some}
use Rattle.krates_cm.specs.Document.{Text}
use Rattle.krates_rules.specs.Derivation.{Derivable}
use Rattle.krates_rules.specs.Facts.{Id, Crate, Feature}
use Rattle.krates_rules.specs.Kind.{IgnoresMore}
use Rattle.krates_rules.specs.Questions.{questions}
use Rattle.krates_rules.specs.Resolved.{Resolved, ReadsAs, IsMember}
use Rattle.krates_rules.specs.Roots.{IsRoot}
use Rattle.krates_rules.specs.Rules.{Questions}
use Rattle.krates_rules.specs.Setting.{SettingModel}
use Rattle.krates_rules.specs.declared.kind.DepKind.{DepKind}
use Rattle.krates_rules.specs.declared.kind.IgnoredKinds.{IgnoredKinds}
use Rattle.krates_rules.specs.declared.kind.Scope.TheVariants as scopes
use Rattle.krates_drawing.specs.Paths.{IsFiltered}
use Rattle.krates_drawing.specs.Outline.{Outline, IsOutline}

-- the graph has no root, or its root is a member
abbrev pub HasMemberRoot : Resolved → Type 0
HasMemberRoot r = (t : Text) (i : Id) → r.graph.root ≡ Some t → ReadsAs t i → IsMember r i

abbrev pub EnablesNoFeature : Questions → Type 0
EnablesNoFeature q = (p : Id) (f : Text) → Derivable q (Feature p f) → ⊥

abbrev pub MembersAreRoots : Resolved → SettingModel → Type 0
MembersAreRoots r s = (m : Id) → IsMember r m → IsRoot r s m

-- what is reached in the graph of the first setting without the kind, beside what the second keeps, which ignores it
pub record HoldsRebuild (r : Resolved) (first second : SettingModel) (k : DepKind) (t : Outline) : Type 0 where
  -- every crate that the second keeps is reached
  pub all : HasMemberRoot r → (p : Id) → Derivable (questions r second) (Crate p) → IsFiltered r t k p
  -- and no other, where the first enables no feature and each member is one of its roots
  pub no_other : EnablesNoFeature (questions r first) → MembersAreRoots r first
      → (p : Id) → IsFiltered r t k p → Derivable (questions r second) (Crate p)

-- for every document and setting, and every kind that is ignored beside what the setting ignores
abbrev pub FilteredHoldsRebuild : Type 0
FilteredHoldsRebuild = (r : Resolved) (s : SettingModel) (k : DepKind) (ignored : IgnoredKinds) → IgnoresMore s.ignored ignored k scopes.All
    → (t : Outline) → IsOutline r s t → HoldsRebuild r s (record s { ignored = ignored }) k t
