-- What `krates_filtered` returns for a build, beside a rebuild that ignores that kind of dependency.
use Rattle.std.specs.Prelude.{◌≡◌, ◌↔◌, ℕ, List, Option, Contains, map}
use Rattle.std.specs.List.{filter_map}
use Rattle.std.specs.List.Sorted.{IsStrictlySortedBy}
use Rattle.std.specs.Ordering.{nat_cmp}
use Rattle.krates_cm.specs.Document.{MetadataModel, metadata_view}
use Rattle.krates_cm.specs.declared.metadata.Metadata.{Metadata}
use Rattle.krates_drawing.specs.Rebuilding.{EnablesNoFeature, HasMemberRoot, MembersAreRoots}
use Rattle.krates_drawing.specs.declared.edge.Edge.{Edge}
use Rattle.krates_ids.specs.declared.index.IndexAnswer.{IndexAnswer}
use Rattle.krates_rules.specs.Facts.{Id}
use Rattle.krates_rules.specs.Kind.{IgnoresMore}
use Rattle.krates_rules.specs.Questions.{questions}
use Rattle.krates_rules.specs.Resolved.{HasGraphWith, StandsAt, id_of, resolved}
use Rattle.krates_rules.specs.Setting.{SettingModel}
use Rattle.krates_rules.specs.declared.kind.DepKind.{DepKind}
use Rattle.krates_rules.specs.declared.kind.IgnoredKinds.{IgnoredKinds}
use Rattle.krates_rules.specs.declared.kind.Scope.TheVariants as scopes
use Rattle.krates.specs.Indexed.{IsSeenBy}
use Rattle.krates.specs.Build.{AreKeptMembers, KeepsCrate}
use Rattle.krates_queries.specs.Direct.{value_at}
use Rattle.krates_queries.specs.Drawn.{IsDrawn}
use Rattle.krates_queries.specs.Kept.{KeptCrates, ids_of}

-- ---- a build and a rebuild

-- What a build promises about the crates, the graph and the members that it keeps of the document that it resolves.
pub record Keeps {N : Type 0} (m : MetadataModel) (s : SettingModel) (k : KeptCrates N Edge) : Type 0 where
  pub kept : (i : Id) → KeepsCrate m s i ↔ Contains (map id_of (ids_of k)) i
  pub drawn : IsDrawn (λ edge made. made ≡ edge) m s k.graph
  pub members : AreKeptMembers m (ids_of k) k.members

-- the second setting is the first, with one more kind ignored for all crates
pub record IgnoresToo (kind : DepKind) (first second : SettingModel) : Type 0 where
  pub ignored : IgnoredKinds
  pub more : IgnoresMore first.ignored ignored kind scopes.All
  pub rest : second ≡ record first { ignored = ignored }

-- The first graph is what a build under s keeps of p, and the second what a build that ignores the kind too keeps of q. Both look at the document
-- m: at itself, or at what one answer of an index corrects it to.
pub record AreRebuilt {N M : Type 0} (answer : Option IndexAnswer) (m p q : Metadata) (s : SettingModel) (kind : DepKind) (k : KeptCrates N Edge) (j : KeptCrates M Edge) : Type 0 where
  pub setting : SettingModel
  pub ignores : IgnoresToo kind s setting
  pub first_seen : IsSeenBy answer m p
  pub second_seen : IsSeenBy answer m q
  pub first : Keeps (metadata_view p) s k
  pub second : Keeps (metadata_view q) setting j

-- ---- what is listed for the first beside the second

-- one of the numbers is that of the kept crate with the id
pub record IsListed {N : Type 0} (k : KeptCrates N Edge) (numbers : List ℕ) (i : Id) : Type 0 where
  pub number : ℕ
  pub stands : StandsAt (ids_of k) i number
  pub among : Contains numbers number

-- Where the document's graph has no root, or its root is a member, each crate that the rebuild keeps is listed; and no other is, where
-- the first build enables no feature and each member is one of its roots.
pub record ListsRebuilt {N M : Type 0} (m : MetadataModel) (s : SettingModel) (k : KeptCrates N Edge) (j : KeptCrates M Edge) (numbers : List ℕ) : Type 0 where
  pub all : HasGraphWith m (λ g. HasMemberRoot (resolved m g)) → (i : Id) → Contains (map id_of (ids_of j)) i → IsListed k numbers i
  pub no_other : HasGraphWith m (λ g. EnablesNoFeature (questions (resolved m g) s)) → HasGraphWith m (λ g. MembersAreRoots (resolved m g) s)
      → (i : Id) → IsListed k numbers i → Contains (map id_of (ids_of j)) i

-- The values are those of kept crates, each once, by number; and of whatever document and setting both graphs are, what the rebuild
-- keeps is listed so.
pub record HoldsRebuilt {N M : Type 0} (kind : DepKind) (k : KeptCrates N Edge) (j : KeptCrates M Edge) (values : List N) : Type 0 where
  pub numbers : List ℕ
  pub by_number : IsStrictlySortedBy nat_cmp numbers
  pub are : values ≡ filter_map (value_at k.graph.nodes) numbers
  pub holds : (answer : Option IndexAnswer) (m p q : Metadata) (s : SettingModel) → AreRebuilt answer m p q s kind k j
      → ListsRebuilt (metadata_view p) s k j numbers
