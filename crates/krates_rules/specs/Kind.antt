-- Kinds of dependencies, and which of them are ignored (Cargo Book, "Specifying Dependencies").
use Rattle.std.specs.Prelude.{◌≡◌, ◌↔◌, ◌⊎◌, Bool, true, false, codes, ⊤, ℕ}
use Rattle.krates_cm.specs.declared.dependency.DependencyKind.{DependencyKind}
use Rattle.krates_cm.specs.declared.dependency.DependencyKind.TheVariants as written
use Rattle.krates_cm.specs.Document.{Text}
use Rattle.krates_rules.specs.declared.kind.DepKind.{DepKind}
use Rattle.krates_rules.specs.declared.kind.DepKind.TheVariants as kinds
use Rattle.krates_rules.specs.declared.kind.IgnoredKinds.{IgnoredKinds}
use Rattle.krates_rules.specs.declared.kind.KindSet.{KindSet}
use Rattle.krates_rules.specs.declared.kind.Scope.{Scope}
use Rattle.krates_rules.specs.declared.kind.Scope.TheVariants as scopes

-- the kind that the document writes
abbrev pub kind_of : DependencyKind → DepKind
kind_of written.Normal = kinds.Normal
kind_of written.Development = kinds.Dev
kind_of written.Build = kinds.Build

-- the kind as the document writes it
abbrev pub written_of : DepKind → DependencyKind
written_of kinds.Normal = written.Normal
written_of kinds.Build = written.Build
written_of kinds.Dev = written.Development

-- the text that is printed for a kind
abbrev pub kind_text : DepKind → Text
kind_text kinds.Normal = codes ""
kind_text kinds.Build = codes "build"
kind_text kinds.Dev = codes "dev"

-- the place of a kind in the order of kinds
abbrev pub kind_place : DepKind → ℕ
kind_place kinds.Normal = 0
kind_place kinds.Build = 1
kind_place kinds.Dev = 2

-- whether the kind is in the set
abbrev pub has_kind : KindSet → DepKind → Bool
has_kind set kinds.Normal = set.normal
has_kind set kinds.Build = set.build
has_kind set kinds.Dev = set.dev

-- whether dependencies of this kind are ignored if a member of the workspace has them, or if another crate does
abbrev pub ignores : IgnoredKinds → DepKind → Bool → Bool
ignores ignored kind true = has_kind ignored.of_members kind
ignores ignored kind false = has_kind ignored.of_others kind

-- whether the scope includes the members of the workspace, or the other crates
abbrev pub Covers : Scope → Bool → Type 0
Covers scopes.Workspace is_member = is_member ≡ true
Covers scopes.NonWorkspace is_member = is_member ≡ false
Covers scopes.All is_member = ⊤

-- the set has one more kind
abbrev pub HasOneMore : KindSet → KindSet → DepKind → Type 0
HasOneMore old new kind = (k : DepKind) → (has_kind new k ≡ true) ↔ ((has_kind old k ≡ true) ⊎ (k ≡ kind))

-- what was ignored still is, and so are dependencies of this kind of the crates in the scope; nothing else is
abbrev pub IgnoresMore : IgnoredKinds → IgnoredKinds → DepKind → Scope → Type 0
IgnoresMore old new kind scope = (k : DepKind) (is_member : Bool)
    → (ignores new k is_member ≡ true) ↔ ((ignores old k is_member ≡ true) ⊎ ((k ≡ kind) × Covers scope is_member))
