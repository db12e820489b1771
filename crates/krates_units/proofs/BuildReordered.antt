-- Documents that differ only in the order of their lists answer the rules of what cargo builds alike.
use Rattle.std.proofs.Common.{◌≡◌, ◌↔◌, inl, inr, List, Option, Some, None, Contains, IsPermutation, refl, sym, ap, ◌∙◌, subst}
use Rattle.std.proofs.lemmas.List.Sorted.{Contains-permutation, IsPermutation-sym}
use Rattle.std.proofs.lemmas.Option.{same_Some}
use Rattle.krates_cm.specs.Document.{Text, TargetModel, DependencyModel, PackageModel, NodeDepModel, NodeModel, ResolveModel, MetadataModel}
use Rattle.krates_ids.specs.Correction.{with_features}
use Rattle.krates_ids.specs.PackageSpecification.{Specification, SpecFits}
use Rattle.krates_text.specs.FeatureReference.{Reference, krate, weak, strong, simple}
use Rattle.krates_rules.specs.Facts.{Id, Edge}
use Rattle.krates_rules.specs.Features.{HasReference}
use Rattle.krates_rules.specs.Questions.{ListsEdge}
use Rattle.krates_rules.specs.Reordering.{ReordersPackage, ReordersPackages, ReordersNode, ReordersGraph, ReordersResolve, Reorders}
use Rattle.krates_rules.specs.Resolved.{Resolved, resolved, ReadsAs, HasGraphWith, HasPackage, IsMember}
use Rattle.krates_rules.proofs.OnlyOne.{place_in}
use Rattle.krates_rules.proofs.Readings.{left_of, right_of}
use Rattle.krates_rules.proofs.Standings.{contains_at}
use Rattle.krates_units.specs.Answered.{NamesPackage, HasFeatureOf, HasNamed, TakesAsRoot, TakesLacking, NamesFeature, HasIdleFlag, IsAnswered}
use Rattle.krates_units.specs.BuildFacts.{Fact, CompiledUnit}
use Rattle.krates_units.specs.BuildReordering.{IsBuildOrderFree}
use Rattle.krates_units.specs.BuildRules.{IsAsked}
use Rattle.krates_units.specs.BuildSetting.{BuildSettingModel}
use Rattle.krates_units.specs.BuildTargets.{HasTarget, HasTargetThat, HasMacro, IsMacroCrate, LinksNatively}
use Rattle.krates_units.specs.Built.{IsDerivable}
use Rattle.krates_units.specs.Requests as requests
use Rattle.krates_units.specs.Requests.{HasFeature, KnowsName, KnowsOptional, MayAsk, IsCurrent, IsReadAmong, IsDefaultMember, IsSelected, IsSelectedMember, SelectsNoMember, AsksAlike, RootKind, IsBuildRootAs, IsBuildRoot, IsNameOfSome, IsForOther, TakesAlike, Takes, IsRequested}
use Rattle.krates_units.specs.Resolves.{HasDeclared, IsCalled, renamed, by_library, Resolves, LacksEdge}
use Rattle.krates_units.specs.Sides as sides_of
use Rattle.krates_units.specs.Sides.{StartsOn, Counts, Leads, LooksOn}
use Rattle.krates_units.specs.VisitOrder.{DependsOnOrder}
use Rattle.krates_units.specs.declared.sides.Side.{Side}
use Rattle.krates_units.proofs.AnsweredWithin.{AnsweredWithin, derivable_within}

-- ---- documents that say the same

-- for each package of the first there is one of the second that says the same
abbrev HasLikePackages : List PackageModel → List PackageModel → Type 0
HasLikePackages xs ys = (a : PackageModel) → Contains xs a → (b : PackageModel) × Contains ys b × ReordersPackage a b

-- for each node of the first there is one of the second with the same id and the same dependencies
record LikeNode (a b : NodeModel) : Type 0 where
  id : a.id ≡ b.id
  deps : IsPermutation a.deps b.deps

abbrev HasLikeNodes : List NodeModel → List NodeModel → Type 0
HasLikeNodes xs ys = (a : NodeModel) → Contains xs a → (b : NodeModel) × Contains ys b × LikeNode a b

-- the documents say the same, in any order
record SaysLike (r t : Resolved) : Type 0 where
  packages : HasLikePackages r.metadata.packages t.metadata.packages
  packages_back : HasLikePackages t.metadata.packages r.metadata.packages
  members : IsPermutation r.metadata.workspace_members t.metadata.workspace_members
  default_members : r.metadata.workspace_default_members ≡ t.metadata.workspace_default_members
  root : r.graph.root ≡ t.graph.root
  nodes : HasLikeNodes r.graph.nodes t.graph.nodes
  nodes_back : HasLikeNodes t.graph.nodes r.graph.nodes

swapped : (r t : Resolved) → SaysLike r t → SaysLike t r
swapped r t w = record {
  packages = w.packages_back;
  packages_back = w.packages;
  members = IsPermutation-sym r.metadata.workspace_members t.metadata.workspace_members w.members;
  default_members = sym w.default_members;
  root = sym w.root;
  nodes = w.nodes_back;
  nodes_back = w.nodes;
}

-- ---- packages, members and edges

-- the package with this id that says the same
record LikePackage (t : Resolved) (i : Id) (p : PackageModel) : Type 0 where
  pkg : PackageModel
  has_package : HasPackage t i pkg
  same : ReordersPackage p pkg

like_package : (r t : Resolved) (i : Id) (p : PackageModel) → SaysLike r t → HasPackage r i p → LikePackage t i p
like_package r t i p w h =
    let q = w.packages p h.among in
    let id : p.id ≡ q.0.id = sym (ap (λ (x : PackageModel). x.id) q.2.rest) in
    record { pkg = q.0; has_package = record { among = q.1; id = subst (λ text. ReadsAs text i) id h.id }; same = q.2 }

package_back : (a b : PackageModel) → ReordersPackage a b → ReordersPackage b a
package_back a b w = record {
  features = λ name. sym (w.features name);
  rest = ap (λ (x : PackageModel). with_features x a.features) (sym w.rest);
}

dependencies_like : (p q : PackageModel) → ReordersPackage p q → p.dependencies ≡ q.dependencies
dependencies_like p q w = sym (ap (λ (x : PackageModel). x.dependencies) w.rest)

targets_like : (p q : PackageModel) → ReordersPackage p q → p.targets ≡ q.targets
targets_like p q w = sym (ap (λ (x : PackageModel). x.targets) w.rest)

links_like : (p q : PackageModel) → ReordersPackage p q → p.links ≡ q.links
links_like p q w = sym (ap (λ (x : PackageModel). x.links) w.rest)

fits_like : (spec : Specification) (p q : PackageModel) → ReordersPackage p q → SpecFits spec p → SpecFits spec q
fits_like spec p q w x =
    let back = package_back p q w in
    let y : SpecFits spec (with_features q p.features) = subst (SpecFits spec) back.rest x in
    record { name = y.name; version = y.version; url = y.url }

member_like : (r t : Resolved) (i : Id) → SaysLike r t → IsMember r i → IsMember t i
member_like r t i w h = record {
  text = h.text;
  among = Contains-permutation r.metadata.workspace_members t.metadata.workspace_members h.text w.members h.among;
  id = h.id;
}

edge_like : (r t : Resolved) (e : Edge) (d : NodeDepModel) → SaysLike r t → ListsEdge r e d → ListsEdge t e d
edge_like r t e d w x =
    let n = w.nodes x.node x.has_node.among in
    record {
      node = n.0;
      has_node = record { among = n.1; id = subst (λ text. ReadsAs text e.parent) n.2.id x.has_node.id };
      has_dep = record { among = Contains-permutation x.node.deps n.0.deps d n.2.deps x.has_dep.among; id = x.has_dep.id };
      has_kind = x.has_kind;
    }

-- ---- what a package has

feature_like : (r t : Resolved) (i : Id) (f : Text) → SaysLike r t → HasFeature r i f → HasFeature t i f
feature_like r t i f w x =
    let q = like_package r t i x.pkg w x.has_package in
    record { pkg = q.pkg; has_package = q.has_package; values = x.values; is = sym (q.same.features f) ∙ x.is }

reference_like : (r t : Resolved) (i : Id) (f : Text) (v : Reference) → SaysLike r t → HasReference r i f v → HasReference t i f v
reference_like r t i f v w x =
    let q = like_package r t i x.pkg w x.has_package in
    record {
      pkg = q.pkg;
      has_package = q.has_package;
      values = x.values;
      feature = sym (q.same.features f) ∙ x.feature;
      text = x.text;
      among = x.among;
      is = x.is;
    }

declared_like : (r t : Resolved) (i : Id) (d : DependencyModel) → SaysLike r t → HasDeclared r i d → HasDeclared t i d
declared_like r t i d w x =
    let q = like_package r t i x.pkg w x.has_package in
    record {
      pkg = q.pkg;
      has_package = q.has_package;
      among = subst (λ ds. Contains ds d) (dependencies_like x.pkg q.pkg q.same) x.among;
    }

name_like : (r t : Resolved) (i : Id) (name : Text) → SaysLike r t → KnowsName r i name → KnowsName t i name
name_like r t i name w x = (x.0, declared_like r t i x.0 w x.1, x.2)

optional_like : (r t : Resolved) (i : Id) (name : Text) → SaysLike r t → KnowsOptional r i name → KnowsOptional t i name
optional_like r t i name w x = (x.0, declared_like r t i x.0 w x.1, x.2, x.3)

ask_like : (r t : Resolved) (i : Id) (name : Text) → SaysLike r t → MayAsk r i name → MayAsk t i name
ask_like r t i name w (inl x) = inl (feature_like r t i name w x)
ask_like r t i name w (inr x) = inr (optional_like r t i name w x)

target_like : (r t : Resolved) (i : Id) (l : TargetModel) → SaysLike r t → HasTarget r i l → HasTarget t i l
target_like r t i l w x =
    let q = like_package r t i x.pkg w x.has_package in
    record { pkg = q.pkg; has_package = q.has_package; among = subst (λ ts. Contains ts l) (targets_like x.pkg q.pkg q.same) x.among }

that_like : (r t : Resolved) (i : Id) (P : TargetModel → Type 0) → SaysLike r t → HasTargetThat r i P → HasTargetThat t i P
that_like r t i P w x = (x.0, target_like r t i x.0 w x.1, x.2)

native_like : (r t : Resolved) (i : Id) → SaysLike r t → LinksNatively r i → LinksNatively t i
native_like r t i w x =
    let q = like_package r t i x.0 w x.1 in
    (q.pkg, q.has_package, λ none. x.2 (links_like x.0 q.pkg q.same ∙ none))

-- ---- dependencies

called_like : (r t : Resolved) (c : Id) (d : DependencyModel) (name : Text) → SaysLike r t → IsCalled r c d name → IsCalled t c d name
called_like r t c d name w (renamed {name = new} is called) = renamed {name = new} is called
called_like r t c d name w (by_library l none has library called) = by_library l none (target_like r t c l w has) library called

resolves_like : (r t : Resolved) (e : Edge) (d : DependencyModel) → SaysLike r t → Resolves r e d → Resolves t e d
resolves_like r t e d w x =
    let q = like_package r t e.child x.pkg w x.has_package in
    record {
      pkg = q.pkg;
      has_package = q.has_package;
      declared = declared_like r t e.parent d w x.declared;
      dep = x.dep;
      lists = edge_like r t e x.dep w x.lists;
      kind = x.kind;
      target = x.target;
      name = x.name;
      version = x.version;
      called = called_like r t e.child d x.dep.name w x.called;
    }

lacks_like : (r t : Resolved) (i : Id) (d : DependencyModel) → SaysLike r t → LacksEdge r i d → LacksEdge t i d
lacks_like r t i d w x = record {
  declared = declared_like r t i d w x.declared;
  no_edge = λ e parent y. x.no_edge e parent (resolves_like t r e d (swapped r t w) y);
}

-- ---- what is selected

current_like : (r t : Resolved) (i : Id) → SaysLike r t → IsCurrent r i → IsCurrent t i
current_like r t i w x = record { text = x.text; root = sym w.root ∙ x.root; id = x.id; member = member_like r t i w x.member }

default_like : (r t : Resolved) (i : Id) → SaysLike r t → IsDefaultMember r i → IsDefaultMember t i
default_like r t i w (requests.written {ids} is among member) =
    requests.written {ids = ids} (sym w.default_members ∙ is) among (member_like r t i w member)
default_like r t i w (requests.current none here) = requests.current (sym w.default_members ∙ none) (current_like r t i w here)
default_like r t i w (requests.member none no_root member) =
    requests.member (sym w.default_members ∙ none) (sym w.root ∙ no_root) (member_like r t i w member)

selected_like : (r t : Resolved) (s : BuildSettingModel) (i : Id) → SaysLike r t → IsSelected r s i → IsSelected t s i
selected_like r t s i w (requests.by_default is by) = requests.by_default is (default_like r t i w by)
selected_like r t s i w (requests.as_member is by) = requests.as_member is (member_like r t i w by)
selected_like r t s i w (requests.as_specified {specs} {spec} {p} is among has fits) =
    let q = like_package r t i p w has in
    requests.as_specified {specs = specs} {spec = spec} {p = q.pkg} is among q.has_package (fits_like spec p q.pkg q.same fits)

selected_member_like : (r t : Resolved) (s : BuildSettingModel) (i : Id) → SaysLike r t → IsSelectedMember r s i → IsSelectedMember t s i
selected_member_like r t s i w x = (member_like r t i w x.0, selected_like r t s i w x.1)

no_member_like : (r t : Resolved) (s : BuildSettingModel) → SaysLike r t → SelectsNoMember r s → SelectsNoMember t s
no_member_like r t s w none i x = none i (selected_member_like t r s i (swapped r t w) x)

-- ---- roots and what is requested of them

alike_like : (r t : Resolved) (s : BuildSettingModel) → SaysLike r t → AsksAlike r s → AsksAlike t s
alike_like r t s w (inl later) = inl later
alike_like r t s w (inr none) = inr (sym w.root ∙ none)

unlike_like : (r t : Resolved) (s : BuildSettingModel) → SaysLike r t → ¬ AsksAlike r s → ¬ AsksAlike t s
unlike_like r t s w h alike = h (alike_like t r s (swapped r t w) alike)

root_as_like : (r t : Resolved) (s : BuildSettingModel) (i : Id) (kind : RootKind) → SaysLike r t
    → IsBuildRootAs r s i kind → IsBuildRootAs t s i kind
root_as_like r t s i requests.alike w x = (alike_like r t s w x.0, selected_member_like r t s i w x.1)
root_as_like r t s i requests.unselected w x = (alike_like r t s w x.0, no_member_like r t s w x.1, member_like r t i w x.2)
root_as_like r t s i requests.current w x = (unlike_like r t s w x.0, current_like r t i w x.1)
root_as_like r t s i requests.other w x =
    (unlike_like r t s w x.0, λ here. x.1 (current_like t r i (swapped r t w) here), selected_member_like r t s i w x.2)

root_like : (r t : Resolved) (s : BuildSettingModel) (i : Id) → SaysLike r t → IsBuildRoot r s i → IsBuildRoot t s i
root_like r t s i w x = (x.0, root_as_like r t s i x.0 w x.1)

for_other_like : (r t : Resolved) (s : BuildSettingModel) (v : Reference) → SaysLike r t → IsForOther r s v → IsForOther t s v
for_other_like r t s v w x = record {
  name = x.name;
  feature = x.feature;
  names = x.names;
  other = (
    x.other.0,
    (member_like r t x.other.0 w x.other.1.0, λ here. x.other.1.1 (current_like t r x.other.0 (swapped r t w) here)),
    x.other.2,
  );
  selected = (x.selected.0, selected_like r t s x.selected.0 w x.selected.1, x.selected.2);
}

takes_alike_like : (r t : Resolved) (i : Id) (v u : Reference) → SaysLike r t → TakesAlike r i v u → TakesAlike t i v u
takes_alike_like r t i v _ w (requests.own {f} is may) = requests.own {f = f} is (ask_like r t i f w may)
takes_alike_like r t i v _ w (requests.of_dependency name f names knows) =
    requests.of_dependency name f names (name_like r t i name w knows)
takes_alike_like r t i v _ w (requests.by_crate name f names unknown is may) =
    requests.by_crate name f names (λ x. unknown (name_like t r i name (swapped r t w) x)) is (ask_like r t i f w may)

takes_like : (r t : Resolved) (s : BuildSettingModel) (i : Id) (kind : RootKind) (v u : Reference) → SaysLike r t
    → Takes r s i kind v u → Takes t s i kind v u
takes_like r t s i requests.alike v u w x = takes_alike_like r t i v u w x
takes_like r t s i requests.unselected v u w x = x
takes_like r t s i requests.current v u w x = (λ y. x.0 (for_other_like t r s v (swapped r t w) y), x.1)
takes_like r t s i requests.other v u w x = x

requested_like : (r t : Resolved) (s : BuildSettingModel) (i : Id) (v : Reference) → SaysLike r t → IsRequested r s i v → IsRequested t s i v
requested_like r t s i _ w (requests.default kind root asks has) =
    requests.default kind (root_as_like r t s i kind w root) asks (feature_like r t i _ w has)
requested_like r t s i _ w (requests.each {f} kind root known all has) =
    requests.each {f = f} kind (root_as_like r t s i kind w root) known all (feature_like r t i f w has)
requested_like r t s i v w (requests.taken {v = u} kind root given takes) =
    requests.taken {v = u} kind (root_as_like r t s i kind w root) given (takes_like r t s i kind u v w takes)

-- ---- sides

macro_like : (r t : Resolved) (i : Id) → SaysLike r t → IsMacroCrate r i → IsMacroCrate t i
macro_like r t i w x = that_like r t i _ w x

has_macro_like : (r t : Resolved) (i : Id) → SaysLike r t → HasMacro r i → HasMacro t i
has_macro_like r t i w x = that_like r t i _ w x

starts_like : (r t : Resolved) (s : BuildSettingModel) (i : Id) (n : Side) → SaysLike r t → StartsOn r s i n → StartsOn t s i n
starts_like r t s i _ w sides_of.on_targets = sides_of.on_targets
starts_like r t s i _ w (sides_of.on_host later has) = sides_of.on_host later (has_macro_like r t i w has)

counts_like : (r t : Resolved) (s : BuildSettingModel) (n : Side) (e : Edge) → SaysLike r t → Counts r s n e → Counts t s n e
counts_like r t s n e w x = record {
  of_root = λ dev. (root_like r t s e.parent w (x.of_root dev).0, (x.of_root dev).1);
  passes = x.passes;
}

leads_like : (r t : Resolved) (s : BuildSettingModel) (n : Side) (e : Edge) (m : Side) → SaysLike r t → Leads r s n e m → Leads t s n e m
leads_like r t s n e _ w (sides_of.as_one first) = sides_of.as_one first
leads_like r t s n e _ w (sides_of.to_host later (inl host)) = sides_of.to_host later (inl host)
leads_like r t s n e _ w (sides_of.to_host later (inr (inl build))) = sides_of.to_host later (inr (inl build))
leads_like r t s n e _ w (sides_of.to_host later (inr (inr is))) = sides_of.to_host later (inr (inr (macro_like r t e.child w is)))
leads_like r t s n e _ w (sides_of.to_targets later from kind none) =
    sides_of.to_targets later from kind (λ is. none (macro_like t r e.child (swapped r t w) is))

looks_like : (r t : Resolved) (s : BuildSettingModel) (e : Edge) (m : Side) → SaysLike r t → LooksOn r s e m → LooksOn t s e m
looks_like r t s e _ w (sides_of.as_one first) = sides_of.as_one first
looks_like r t s e _ w (sides_of.on_host later (inl build)) = sides_of.on_host later (inl build)
looks_like r t s e _ w (sides_of.on_host later (inr has)) = sides_of.on_host later (inr (has_macro_like r t e.child w has))
looks_like r t s e _ w (sides_of.on_targets later kind none) =
    sides_of.on_targets later kind (λ has. none (has_macro_like t r e.child (swapped r t w) has))

-- ---- all questions of the rules

asked_like : (r t : Resolved) (s : BuildSettingModel) (u : CompiledUnit) → SaysLike r t → IsAsked r s u → IsAsked t s u
asked_like r t s u w x = record {
  selected = selected_like r t s u.krate w x.selected;
  has = target_like r t u.krate u.target w x.has;
  no_script = x.no_script;
  asked = x.asked;
  target = x.target;
  among = x.among;
  goes = x.goes;
}

like_within : (r t : Resolved) (s : BuildSettingModel) → SaysLike r t → AnsweredWithin r s t s
like_within r t s w = record {
  root = λ i x. root_like r t s i w x;
  requested = λ i v x. requested_like r t s i v w x;
  reference = λ i f v x. reference_like r t i f v w x;
  feature = λ i f x. feature_like r t i f w x;
  optional = λ i name x. optional_like r t i name w x;
  resolves = λ e d x. resolves_like r t e d w x;
  lacks = λ i d x. lacks_like r t i d w x;
  starts = λ i n x. starts_like r t s i n w x;
  counts = λ n e x. counts_like r t s n e w x;
  leads = λ n e m x. leads_like r t s n e m w x;
  looks = λ e m x. looks_like r t s e m w x;
  asked = λ u x. asked_like r t s u w x;
  target = λ i l x. target_like r t i l w x;
  native = λ i x. native_like r t i w x;
  passes = λ k cfg x. x;
  features_of = λ n m x. x;
}

derivable_like : (r t : Resolved) (s : BuildSettingModel) (f : Fact) → SaysLike r t → IsDerivable r s f → IsDerivable t s f
derivable_like r t s f w x = derivable_within r s t s (like_within r t s w) x

-- ---- requests

feature_of_like : (r t : Resolved) (i : Id) (name f : Text) → SaysLike r t → HasFeatureOf r i name f → HasFeatureOf t i name f
feature_of_like r t i name f w x = record {
  knows = name_like r t i name w x.knows;
  one_slash = x.one_slash;
  each = λ e d resolves parent is. feature_like r t e.child f w (x.each e d (resolves_like t r e d (swapped r t w) resolves) parent is);
}

named_like : (r t : Resolved) (i : Id) (v : Reference) → SaysLike r t → HasNamed r i v → HasNamed t i v
named_like r t i (krate d) w x = x
named_like r t i (weak d f) w x = feature_of_like r t i d f w x
named_like r t i (strong d f) w x = feature_of_like r t i d f w x
named_like r t i (simple f) w x = feature_like r t i f w x

takes_as_root_like : (r t : Resolved) (s : BuildSettingModel) (i : Id) (v u : Reference) → SaysLike r t
    → TakesAsRoot r s i v u → TakesAsRoot t s i v u
takes_as_root_like r t s i v u w x = record {
  kind = x.kind;
  root = root_as_like r t s i x.kind w x.root;
  takes = takes_like r t s i x.kind v u w x.takes;
}

lacking_like : (r t : Resolved) (s : BuildSettingModel) (v : Reference) (i : Id) → SaysLike r t
    → TakesLacking r s v i → TakesLacking t s v i
lacking_like r t s v i w x =
    (x.0, takes_as_root_like r t s i v x.0 w x.1, λ has. x.2 (named_like t r i x.0 (swapped r t w) has))

feature_named_like : (r t : Resolved) (s : BuildSettingModel) (text : Text) → SaysLike r t → NamesFeature r s text → NamesFeature t s text
feature_named_like r t s text w x =
    let taken = x.taken in
    record {
      reference = x.reference;
      is = x.is;
      taken = (taken.0, (taken.1.0, takes_as_root_like r t s taken.0 x.reference taken.1.0 w taken.1.1));
      none_lacking = λ i y. x.none_lacking i (lacking_like t r s x.reference i (swapped r t w) y);
    }

package_named_like : (r t : Resolved) (spec : Specification) → SaysLike r t → NamesPackage r spec → NamesPackage t spec
package_named_like r t spec w x =
    let q = w.packages x.pkg x.among in
    record { pkg = q.0; among = q.1; fits = fits_like spec x.pkg q.0 q.2 x.fits }

idle_like : (r t : Resolved) (s : BuildSettingModel) → SaysLike r t → HasIdleFlag r s → HasIdleFlag t s
idle_like r t s w x = record {
  flag = x.flag;
  alike = alike_like r t s w x.alike;
  none_selected = no_member_like r t s w x.none_selected;
}

answered_like : (r t : Resolved) (s : BuildSettingModel) → SaysLike r t → IsAnswered r s → IsAnswered t s
answered_like r t s w x = record {
  packages = λ spec among. package_named_like r t spec w (x.packages spec among);
  some_selected = (x.some_selected.0, selected_like r t s x.some_selected.0 w x.some_selected.1);
  features = λ text among. feature_named_like r t s text w (x.features text among);
  no_idle_flag = λ y. x.no_idle_flag (idle_like t r s (swapped r t w) y);
}

-- ---- the order of visits

visits_like : (r t : Resolved) (s : BuildSettingModel) (i : Id) → SaysLike r t → DependsOnOrder r s i → DependsOnOrder t s i
visits_like r t s i w x = record {
  later = x.later;
  compiled = λ n. derivable_like r t s _ w (x.compiled n);
  same_features = λ n m f y. derivable_like r t s _ w (x.same_features n m f (derivable_like t r s _ (swapped r t w) y));
  edge = x.edge;
  dep = x.dep;
  of_script = record {
    parent = x.of_script.parent;
    kind = x.of_script.kind;
    optional = x.of_script.optional;
    passes = x.of_script.passes;
    linked = derivable_like r t s _ w x.of_script.linked;
  };
  turned_on_once = record {
    on = x.turned_on_once.on;
    off = x.turned_on_once.off;
    turned_on = derivable_like r t s _ w x.turned_on_once.turned_on;
    turned_off = λ y. x.turned_on_once.turned_off (derivable_like t r s _ (swapped r t w) y);
  };
}

-- ---- documents in another order say the same

node_like : (a b : NodeModel) → ReordersNode a b → LikeNode a b
node_like a b w = record { id = sym (ap (λ (n : NodeModel). n.id) w.rest); deps = w.deps }

node_back : (a b : NodeModel) → LikeNode a b → LikeNode b a
node_back a b w = record { id = sym w.id; deps = IsPermutation-sym a.deps b.deps w.deps }

nodes_there : (g h : ResolveModel) → ReordersGraph g h → HasLikeNodes g.nodes h.nodes
nodes_there g h w a among =
    let at = place_in g.nodes a among in
    let b = right_of ReordersNode g.nodes w.nodes at.0 a w.each at.1 in
    (b.0, Contains-permutation w.nodes h.nodes b.0 w.moved (contains_at w.nodes at.0 b.0 b.1), node_like a b.0 b.2)

nodes_from : (g h : ResolveModel) → ReordersGraph g h → HasLikeNodes h.nodes g.nodes
nodes_from g h w b among =
    let at = place_in w.nodes b (Contains-permutation h.nodes w.nodes b (IsPermutation-sym w.nodes h.nodes w.moved) among) in
    let a = left_of ReordersNode g.nodes w.nodes at.0 b w.each at.1 in
    (a.0, contains_at g.nodes at.0 a.0 a.1, node_back a.0 b (node_like a.0 b a.2))

packages_there : (all other : List PackageModel) → ReordersPackages all other → HasLikePackages all other
packages_there all other w a among =
    let at = place_in all a among in
    let b = right_of ReordersPackage all w.packages at.0 a w.each at.1 in
    (b.0, Contains-permutation w.packages other b.0 w.moved (contains_at w.packages at.0 b.0 b.1), b.2)

packages_from : (all other : List PackageModel) → ReordersPackages all other → HasLikePackages other all
packages_from all other w b among =
    let at = place_in w.packages b (Contains-permutation other w.packages b (IsPermutation-sym w.packages other w.moved) among) in
    let a = left_of ReordersPackage all w.packages at.0 b w.each at.1 in
    (a.0, contains_at all at.0 a.0 a.1, package_back a.0 b a.2)

says_like : (m n : MetadataModel) (g h : ResolveModel) → Reorders m n → ReordersGraph g h → SaysLike (resolved m g) (resolved n h)
says_like m n g h w x = record {
  packages = packages_there m.packages n.packages w.packages;
  packages_back = packages_from m.packages n.packages w.packages;
  members = w.members;
  default_members = sym (ap (λ (k : MetadataModel). k.workspace_default_members) w.rest);
  root = sym x.root;
  nodes = nodes_there g h x;
  nodes_back = nodes_from g h x;
}

-- ---- the law

graph_there : (a b : Option ResolveModel) (g : ResolveModel) → ReordersResolve a b → a ≡ Some g
    → (h : ResolveModel) × (b ≡ Some h) × ReordersGraph g h
graph_there None b g w is = absurd cc
graph_there (Some x) None g w is = absurd w
graph_there (Some x) (Some h) g w is = (h, refl, subst (λ y. ReordersGraph y h) (same_Some x g is) w)

graph_back : (a b : Option ResolveModel) (h : ResolveModel) → ReordersResolve a b → b ≡ Some h
    → (g : ResolveModel) × (a ≡ Some g) × ReordersGraph g h
graph_back None b h w is = absurd cc
graph_back (Some g) None h w is = absurd cc
graph_back (Some g) (Some x) h w is = (g, refl, subst (λ y. ReordersGraph g y) (same_Some x h is) w)

-- a property of documents that say the same holds of both documents
both : (m n : MetadataModel) → Reorders m n → (P : Resolved → Type 0) → ((r t : Resolved) → SaysLike r t → P r → P t)
    → HasGraphWith m (λ g. P (resolved m g)) ↔ HasGraphWith n (λ h. P (resolved n h))
both m n w P keeps = (
  λ x.
      let h = graph_there m.resolve n.resolve x.graph w.resolve x.has_graph in
      let same = says_like m n x.graph h.0 w h.2 in
      record { graph = h.0; has_graph = h.1; holds = keeps (resolved m x.graph) (resolved n h.0) same x.holds },
  λ x.
      let g = graph_back m.resolve n.resolve x.graph w.resolve x.has_graph in
      let same = swapped (resolved m g.0) (resolved n x.graph) (says_like m n g.0 x.graph w g.2) in
      record { graph = g.0; has_graph = g.1; holds = keeps (resolved n x.graph) (resolved m g.0) same x.holds },
)

pub build_order_free : IsBuildOrderFree
build_order_free m n w = record {
  facts = λ s f. both m n w (λ r. IsDerivable r s f) (λ r t same x. derivable_like r t s f same x);
  answered = λ s. both m n w (λ r. IsAnswered r s) (λ r t same x. answered_like r t s same x);
  visits = λ s i. both m n w (λ r. DependsOnOrder r s i) (λ r t same x. visits_like r t s i same x);
}
