-- Documents that differ only in the order of their lists answer the rules alike.
use Rattle.std.proofs.Common.{◌≡◌, ◌↔◌, ℕ, Bool, List, [], ◌∷◌, map, Option, Some, None, Contains, IsPermutation, string_bytes, refl, sym, ap, ◌∙◌, subst}
use Rattle.std.proofs.lemmas.List.Sorted.{Contains-permutation, IsPermutation-sym, IsPermutation-map}
use Rattle.std.proofs.lemmas.Option.{same_Some}
use Rattle.std.specs.List.{AllZip}
use Rattle.krates_cm.specs.Document.{Text, DependencyModel, PackageModel, NodeDepModel, NodeModel, ResolveModel, MetadataModel}
use Rattle.krates_ids.specs.Correction.{with_features}
use Rattle.krates_ids.specs.PackageSpecification.{SpecFits}
use Rattle.krates_ids.specs.declared.error.Error.{Error}
use Rattle.krates_ids.specs.declared.error.Error.TheVariants as errors
use Rattle.krates_text.specs.Path.{components}
use Rattle.krates_rules.specs.Admission.{NoneDoubled, package_texts, node_texts, dep_texts, StandsForId, of_package, of_member, of_root, of_node, of_dep, IsInvalidId, unread, bad_version, IsDoubled, doubled_package, doubled_node, doubled_dep}
use Rattle.krates_rules.specs.AdmissionRefusals.{AdmissionRefusal}
use Rattle.krates_rules.specs.DeclaredDependency.{dependency_entry, IsDeclared, IsUndeclared}
use Rattle.krates_rules.specs.Derivation.{Derivable}
use Rattle.krates_rules.specs.Facts.{Id, Edge}
use Rattle.krates_rules.specs.Questions.{IsIncluded, ListsEdge, Declares, kind_info_of, questions}
use Rattle.krates_rules.specs.Referent.{IsLibraryRename, AnswersTo, by_name, by_library, AnswersIn, IsReferent}
use Rattle.krates_rules.specs.Reordering.{SayAlike, ReordersPackage, ReordersPackages, ReordersNode, ReordersGraph, ReordersResolve, Reorders, HasInvalidId, HasDoubledId, IsOrderFree}
use Rattle.krates_rules.specs.Resolved.{Resolved, resolved, id_of, ReadsAs, HasGraphWith, HasPackage, HasNode, HasDep, IsMember}
use Rattle.krates_rules.specs.Roots.{AsksForWorkspace, AsksForMembers, by_setting, without_root, by_manifest, HasManifest, IsRoot, of_graph, of_workspace, of_manifests}
use Rattle.krates_rules.specs.SelectionRefusals.{SelectionRefusal}
use Rattle.krates_rules.specs.Setting as settings
use Rattle.krates_rules.specs.Setting.{SettingModel, IsExcluded, IsIgnored}
use Rattle.krates_rules.proofs.Readings.{left_of, right_of}
use Rattle.krates_rules.proofs.DerivationLaws.{Within, derivable_within}
use Rattle.krates_rules.proofs.Moved.{twice_moved}
use Rattle.krates_rules.proofs.OnlyOne.{place_in, one_package, one_node, one_dep}
use Rattle.krates_rules.proofs.Standings.{contains_at}

-- ---- documents that say the same

-- for each package of the first there is one of the second that says the same
abbrev HasSamePackages : List PackageModel → List PackageModel → Type 0
HasSamePackages xs ys = (a : PackageModel) → Contains xs a → (b : PackageModel) × Contains ys b × ReordersPackage a b

record SameNode (a b : NodeModel) : Type 0 where
  id : a.id ≡ b.id
  deps : IsPermutation a.deps b.deps
  features : IsPermutation a.features b.features

-- for each node of the first there is one of the second that says the same
abbrev HasSameNodes : List NodeModel → List NodeModel → Type 0
HasSameNodes xs ys = (a : NodeModel) → Contains xs a → (b : NodeModel) × Contains ys b × SameNode a b

-- the documents say the same, in any order
record SaySame (r t : Resolved) : Type 0 where
  package_ids : IsPermutation (package_texts r.metadata) (package_texts t.metadata)
  packages : HasSamePackages r.metadata.packages t.metadata.packages
  packages_back : HasSamePackages t.metadata.packages r.metadata.packages
  members : IsPermutation r.metadata.workspace_members t.metadata.workspace_members
  workspace_root : r.metadata.workspace_root ≡ t.metadata.workspace_root
  root : r.graph.root ≡ t.graph.root
  node_ids : IsPermutation (node_texts r.graph) (node_texts t.graph)
  there : HasSameNodes r.graph.nodes t.graph.nodes
  back : HasSameNodes t.graph.nodes r.graph.nodes

swapped : (r t : Resolved) → SaySame r t → SaySame t r
swapped r t w = record {
  package_ids = IsPermutation-sym (package_texts r.metadata) (package_texts t.metadata) w.package_ids;
  packages = w.packages_back;
  packages_back = w.packages;
  members = IsPermutation-sym r.metadata.workspace_members t.metadata.workspace_members w.members;
  workspace_root = sym w.workspace_root;
  root = sym w.root;
  node_ids = IsPermutation-sym (node_texts r.graph) (node_texts t.graph) w.node_ids;
  there = w.back;
  back = w.there;
}

-- ---- look-ups

-- the package with this id that says the same
record TwinPackage (t : Resolved) (i : Id) (p : PackageModel) : Type 0 where
  pkg : PackageModel
  has_package : HasPackage t i pkg
  same : ReordersPackage p pkg

package_same : (r t : Resolved) (i : Id) (p : PackageModel) → SaySame r t → HasPackage r i p → TwinPackage t i p
package_same r t i p w h =
    let q = w.packages p h.among in
    let id : p.id ≡ q.0.id = sym (ap (λ (x : PackageModel). x.id) q.2.rest) in
    record { pkg = q.0; has_package = record { among = q.1; id = subst (λ text. ReadsAs text i) id h.id }; same = q.2 }

dependencies_same : (p q : PackageModel) → ReordersPackage p q → p.dependencies ≡ q.dependencies
dependencies_same p q w = sym (ap (λ (x : PackageModel). x.dependencies) w.rest)

library_same : (p q : PackageModel) (name : Text) → ReordersPackage p q → IsLibraryRename p name → IsLibraryRename q name
library_same p q name w x =
    let y : IsLibraryRename (with_features p q.features) name = record { place = x.place; target = x.target; first = x.first; is = x.is; other = x.other } in
    subst (λ (z : PackageModel). IsLibraryRename z name) (sym w.rest) y

excluded_same : (s : SettingModel) (p q : PackageModel) → ReordersPackage p q → IsExcluded s q → IsExcluded s p
excluded_same s p q w x =
    let y : SpecFits x.spec (with_features p q.features) = subst (SpecFits x.spec) w.rest x.fits in
    record { spec = x.spec; among = x.among; fits = record { name = y.name; version = y.version; url = y.url } }

member_same : (r t : Resolved) (i : Id) → SaySame r t → IsMember r i → IsMember t i
member_same r t i w h = record {
  text = h.text;
  among = Contains-permutation r.metadata.workspace_members t.metadata.workspace_members h.text w.members h.among;
  id = h.id;
}

-- the node with this id that says the same
record Twin (t : Resolved) (i : Id) (n : NodeModel) : Type 0 where
  node : NodeModel
  has_node : HasNode t i node
  same : SameNode n node

twin : (r t : Resolved) (i : Id) (n : NodeModel) → SaySame r t → HasNode r i n → Twin t i n
twin r t i n w h =
    let m = w.there n h.among in
    record { node = m.0; has_node = record { among = m.1; id = subst (λ text. ReadsAs text i) m.2.id h.id }; same = m.2 }

dep_same : (n m : NodeModel) (c : Id) (d : NodeDepModel) → SameNode n m → HasDep n c d → HasDep m c d
dep_same n m c d w h = record { among = Contains-permutation n.deps m.deps d w.deps h.among; id = h.id }

feature_same : (n m : NodeModel) (f : Text) → SameNode n m → Contains n.features f → Contains m.features f
feature_same n m f w h = Contains-permutation n.features m.features f w.features h

feature_back : (n m : NodeModel) (f : Text) → SameNode n m → Contains m.features f → Contains n.features f
feature_back n m f w h = Contains-permutation m.features n.features f (IsPermutation-sym n.features m.features w.features) h

-- ---- roots

workspace_same : (r t : Resolved) (s : SettingModel) → SaySame r t → AsksForWorkspace r s → AsksForWorkspace t s
workspace_same r t s w x = record {
  manifest = x.manifest;
  alone = x.alone;
  parent = x.parent;
  is_parent = x.is_parent;
  is_root = x.is_root ∙ ap components w.workspace_root;
}

members_same : (r t : Resolved) (s : SettingModel) → SaySame r t → AsksForMembers r s → AsksForMembers t s
members_same r t s w (by_setting none on) = by_setting none on
members_same r t s w (without_root none no_root) = without_root none (sym w.root ∙ no_root)
members_same r t s w (by_manifest x) = by_manifest (workspace_same r t s w x)

manifest_same : (r t : Resolved) (s : SettingModel) (i : Id) → SaySame r t → HasManifest r s i → HasManifest t s i
manifest_same r t s i w h =
    let q = package_same r t i h.pkg w h.has_package in
    record {
      pkg = q.pkg;
      has_package = q.has_package;
      manifest = h.manifest;
      among = h.among;
      same = h.same ∙ ap (λ (x : PackageModel). components x.manifest_path) (sym q.same.rest);
    }

root_same : (r t : Resolved) (s : SettingModel) (i : Id) → SaySame r t → IsRoot r s i → IsRoot t s i
root_same r t s i w (of_graph {t = text} none off is reads) = of_graph {t = text} none off (sym w.root ∙ is) reads
root_same r t s i w (of_workspace asks member) = of_workspace (members_same r t s w asks) (member_same r t i w member)
root_same r t s i w (of_manifests not member h) =
    of_manifests (λ x. not (workspace_same t r s (swapped r t w) x)) (member_same r t i w member) (manifest_same r t s i w h)

-- ---- references

answers_same : (r t : Resolved) (c : Id) (d : NodeDepModel) (name : Text) → SaySame r t
    → AnswersTo r c d name → AnswersTo t c d name
answers_same r t c d name w (by_name h) = by_name h
answers_same r t c d name w (by_library {p} e h renamed) =
    let q = package_same r t c p w h in
    by_library {p = q.pkg} e q.has_package (library_same p q.pkg d.name q.same renamed)

named_same : (r t : Resolved) (i : Id) (name : Text) (c : Id) → SaySame r t → AnswersIn r i name c → AnswersIn t i name c
named_same r t i name c w x =
    let m = twin r t i x.node w x.has_node in
    record {
      node = m.node;
      has_node = m.has_node;
      dep = x.dep;
      has_dep = dep_same x.node m.node c x.dep m.same x.has_dep;
      answers = answers_same r t c x.dep name w x.answers;
    }

referent_same : (r t : Resolved) (all : Bool) (i : Id) (name : Text) (c : Id) → SaySame r t → IsReferent r all i name c → IsReferent t all i name c
referent_same r t all i name c w x = record {
  is_named = named_same r t i name c w x.is_named;
  least = λ off other y. x.least off other (named_same t r i name other (swapped r t w) y);
}

-- ---- edges

edge_same : (r t : Resolved) (e : Edge) (d : NodeDepModel) → SaySame r t → ListsEdge r e d → ListsEdge t e d
edge_same r t e d w x =
    let m = twin r t e.parent x.node w x.has_node in
    record {
      node = m.node;
      has_node = m.has_node;
      has_dep = dep_same x.node m.node e.child d m.same x.has_dep;
      has_kind = x.has_kind;
    }

ignored_same : (r t : Resolved) (s : SettingModel) (e : Edge) → SaySame r t → IsIgnored r s e → IsIgnored t s e
ignored_same r t s e w (settings.of_member member told) = settings.of_member (member_same r t e.parent w member) told
ignored_same r t s e w (settings.of_other other told) =
    settings.of_other (λ x. other (member_same t r e.parent (swapped r t w) x)) told

declares_same : (r t : Resolved) (e : Edge) (place : ℕ) (d : DependencyModel) → SaySame r t → Declares r e place d → Declares t e place d
declares_same r t e place d w x =
    let q = package_same r t e.parent x.pkg w x.has_package in
    record {
      dep = x.dep;
      lists = edge_same r t e x.dep w x.lists;
      pkg = q.pkg;
      has_package = q.has_package;
      declared = subst (λ ds. IsDeclared ds (dependency_entry e.child x.dep) (kind_info_of e) place d) (dependencies_same x.pkg q.pkg q.same) x.declared;
    }

-- ---- all questions of the rules

included_same : (r t : Resolved) (s : SettingModel) (i : Id) → SaySame r t → IsIncluded r s i → IsIncluded t s i
included_same r t s i w x =
    let q = package_same r t i x.pkg w x.has_package in
    record { pkg = q.pkg; has_package = q.has_package; not_excluded = λ y. x.not_excluded (excluded_same s x.pkg q.pkg q.same y) }

same_within : (r t : Resolved) (s : SettingModel) → SaySame r t → Within (questions r s) (questions t s)
unfolding questions
same_within r t s w = record {
  root = λ i x. root_same r t s i w x;
  stands = λ i x.
      let m = twin r t i x.node w x.has_node in
      record { included = included_same r t s i w x.included; node = m.node; has_node = m.has_node };
  no_package = λ i x p h.
      let q = package_same t r i p (swapped r t w) h in
      x q.pkg q.has_package;
  no_node = λ i x. record {
    included = included_same r t s i w x.included;
    no_node = λ n h.
        let m = twin t r i n (swapped r t w) h in
        x.no_node m.node m.has_node;
  };
  lists = λ i f x.
      let m = twin r t i x.node w x.has_node in
      record { node = m.node; has_node = m.has_node; among = feature_same x.node m.node f m.same x.among };
  lacks = λ i f x y.
      let m = twin t r i y.node (swapped r t w) y.has_node in
      x (record { node = m.node; has_node = m.has_node; among = feature_same y.node m.node f m.same y.among });
  refers = λ i f reference x.
      let q = package_same r t i x.pkg w x.has_package in
      record { pkg = q.pkg; has_package = q.has_package; values = x.values; feature = sym (q.same.features f) ∙ x.feature; text = x.text; among = x.among; is = x.is };
  referent = λ i name c x. referent_same r t s.all_named i name c w x;
  declared = λ e d x. (x.0, declares_same r t e x.0 d w x.1);
  wanted = λ e d x. record {
    place = x.place;
    declared = record {
      declares = declares_same r t e x.place d w x.declared.declares;
      not_ignored = λ y. x.declared.not_ignored (ignored_same t r s e (swapped r t w) y);
    };
    passes = x.passes;
  };
  loose = λ e x. record {
    dep = x.dep;
    lists = edge_same r t e x.dep w x.lists;
    not_ignored = λ y. x.not_ignored (ignored_same t r s e (swapped r t w) y);
    undeclared = λ p h.
        let q = package_same t r e.parent p (swapped r t w) h in
        subst (λ ds. IsUndeclared ds (dependency_entry e.child x.dep) (kind_info_of e)) (sym (dependencies_same p q.pkg q.same)) (x.undeclared q.pkg q.has_package);
  };
}

-- ---- what refuses a document

dep_texts_same : (n m : NodeModel) → SameNode n m → IsPermutation (dep_texts n) (dep_texts m)
dep_texts_same n m w = IsPermutation-map (λ (d : NodeDepModel). d.pkg) n.deps m.deps w.deps

text_same : (r t : Resolved) (text : Text) → SaySame r t
    → StandsForId r.metadata r.graph text → StandsForId t.metadata t.graph text
text_same r t text w (of_package h) =
    of_package (Contains-permutation (package_texts r.metadata) (package_texts t.metadata) text w.package_ids h)
text_same r t text w (of_member h) =
    of_member (Contains-permutation r.metadata.workspace_members t.metadata.workspace_members text w.members h)
text_same r t text w (of_root h) = of_root (sym w.root ∙ h)
text_same r t text w (of_node h) = of_node (Contains-permutation (node_texts r.graph) (node_texts t.graph) text w.node_ids h)
text_same r t text w (of_dep n among h) =
    let m = w.there n among in
    of_dep m.0 m.1 (Contains-permutation (dep_texts n) (dep_texts m.0) text (dep_texts_same n m.0 m.2) h)

invalid_same : (r t : Resolved) (text : Text) → SaySame r t
    → IsInvalidId r.metadata r.graph text → IsInvalidId t.metadata t.graph text
invalid_same r t text w (unread stands none) = unread (text_same r t text w stands) none
invalid_same r t text w (bad_version n among h i reads bad) =
    let m = w.there n among in
    bad_version m.0 m.1 (Contains-permutation (dep_texts n) (dep_texts m.0) text (dep_texts_same n m.0 m.2) h) i reads bad

doubled_same : (r t : Resolved) (id : Id) → SaySame r t → IsDoubled r.metadata r.graph id → IsDoubled t.metadata t.graph id
doubled_same r t id w (doubled_package h) =
    doubled_package (twice_moved (package_texts r.metadata) (package_texts t.metadata) id w.package_ids h)
doubled_same r t id w (doubled_node h) = doubled_node (twice_moved (node_texts r.graph) (node_texts t.graph) id w.node_ids h)
doubled_same r t id w (doubled_dep n among h) =
    let m = w.there n among in
    doubled_dep m.0 m.1 (twice_moved (dep_texts n) (dep_texts m.0) id (dep_texts_same n m.0 m.2) h)

unselected_same : (r t : Resolved) (s : SettingModel) (e : Error) → SaySame r t
    → SelectionRefusal (questions r s) e → SelectionRefusal (questions t s) e
unselected_same r t s (errors.Lost what) w d = derivable_within (same_within r t s w) d
unselected_same r t s errors.NoRootKrates w h =
    let back = same_within t r s (swapped r t w) in
    record { no_crate = λ i d. h.no_crate i (derivable_within back d); no_lost = λ c d. h.no_lost c (derivable_within back d) }
unselected_same r t s errors.Memory w h = tt
unselected_same r t s errors.NoResolveGraph w h = absurd h
unselected_same r t s (errors.Metadata x) w h = absurd h
unselected_same r t s (errors.InvalidPkgSpec x) w h = absurd h
unselected_same r t s (errors.InvalidId x) w h = absurd h
unselected_same r t s (errors.Doubled x) w h = absurd h
unselected_same r t s errors.TooMany w h = absurd h

-- ---- documents in another order say the same

node_same : (a b : NodeModel) → ReordersNode a b → SameNode a b
node_same a b w = record { id = sym (ap (λ (n : NodeModel). n.id) w.rest); deps = w.deps; features = w.features }

node_back : (a b : NodeModel) → SameNode a b → SameNode b a
node_back a b w = record {
  id = sym w.id;
  deps = IsPermutation-sym a.deps b.deps w.deps;
  features = IsPermutation-sym a.features b.features w.features;
}

ids_same : (xs ys : List NodeModel) → AllZip ReordersNode xs ys
    → map (λ (n : NodeModel). n.id) xs ≡ map (λ (n : NodeModel). n.id) ys
ids_same [] [] h = refl
ids_same [] (y ∷ ys) h = absurd h
ids_same (x ∷ xs) [] h = absurd h
ids_same (x ∷ xs) (y ∷ ys) h =
    ap (λ id. id ∷ map (λ (n : NodeModel). n.id) xs) (node_same x y h.0).id ∙ ap (λ ids. y.id ∷ ids) (ids_same xs ys h.1)

nodes_there : (g h : ResolveModel) → ReordersGraph g h → HasSameNodes g.nodes h.nodes
nodes_there g h w a among =
    let at = place_in g.nodes a among in
    let b = right_of ReordersNode g.nodes w.nodes at.0 a w.each at.1 in
    (b.0, Contains-permutation w.nodes h.nodes b.0 w.moved (contains_at w.nodes at.0 b.0 b.1), node_same a b.0 b.2)

nodes_back : (g h : ResolveModel) → ReordersGraph g h → HasSameNodes h.nodes g.nodes
nodes_back g h w b among =
    let at = place_in w.nodes b (Contains-permutation h.nodes w.nodes b (IsPermutation-sym w.nodes h.nodes w.moved) among) in
    let a = left_of ReordersNode g.nodes w.nodes at.0 b w.each at.1 in
    (a.0, contains_at g.nodes at.0 a.0 a.1, node_back a.0 b (node_same a.0 b a.2))

ids_moved : (g h : ResolveModel) → ReordersGraph g h → IsPermutation (node_texts g) (node_texts h)
ids_moved g h w =
    let moved = IsPermutation-map (λ (a : NodeModel). a.id) w.nodes h.nodes w.moved in
    subst (λ ids. IsPermutation ids (node_texts h)) (sym (ids_same g.nodes w.nodes w.each)) moved

package_back : (a b : PackageModel) → ReordersPackage a b → ReordersPackage b a
package_back a b w = record {
  features = λ name. sym (w.features name);
  rest = ap (λ (x : PackageModel). with_features x a.features) (sym w.rest);
}

packages_there : (all other : List PackageModel) → ReordersPackages all other → HasSamePackages all other
packages_there all other w a among =
    let at = place_in all a among in
    let b = right_of ReordersPackage all w.packages at.0 a w.each at.1 in
    (b.0, Contains-permutation w.packages other b.0 w.moved (contains_at w.packages at.0 b.0 b.1), b.2)

packages_from : (all other : List PackageModel) → ReordersPackages all other → HasSamePackages other all
packages_from all other w b among =
    let at = place_in w.packages b (Contains-permutation other w.packages b (IsPermutation-sym w.packages other w.moved) among) in
    let a = left_of ReordersPackage all w.packages at.0 b w.each at.1 in
    (a.0, contains_at all at.0 a.0 a.1, package_back a.0 b a.2)

package_ids_same : (xs ys : List PackageModel) → AllZip ReordersPackage xs ys → map (λ (p : PackageModel). p.id) xs ≡ map (λ (p : PackageModel). p.id) ys
package_ids_same [] [] h = refl
package_ids_same [] (y ∷ ys) h = absurd h
package_ids_same (x ∷ xs) [] h = absurd h
package_ids_same (x ∷ xs) (y ∷ ys) h =
    ap (λ id. id ∷ map (λ (p : PackageModel). p.id) xs) (sym (ap (λ (p : PackageModel). p.id) h.0.rest)) ∙ ap (λ ids. y.id ∷ ids) (package_ids_same xs ys h.1)

package_ids_moved : (m n : MetadataModel) → ReordersPackages m.packages n.packages → IsPermutation (package_texts m) (package_texts n)
package_ids_moved m n w =
    let moved = IsPermutation-map (λ (p : PackageModel). p.id) w.packages n.packages w.moved in
    subst (λ ids. IsPermutation ids (package_texts n)) (sym (package_ids_same m.packages w.packages w.each)) moved

say_same : (m n : MetadataModel) (g h : ResolveModel) → Reorders m n → ReordersGraph g h → SaySame (resolved m g) (resolved n h)
say_same m n g h w x = record {
  package_ids = package_ids_moved m n w.packages;
  packages = packages_there m.packages n.packages w.packages;
  packages_back = packages_from m.packages n.packages w.packages;
  members = w.members;
  workspace_root = sym (ap (λ (k : MetadataModel). k.workspace_root) w.rest);
  root = sym x.root;
  node_ids = ids_moved g h x;
  there = nodes_there g h x;
  back = nodes_back g h x;
}

-- ---- the law

graph_there : (a b : Option ResolveModel) (g : ResolveModel) → ReordersResolve a b → a ≡ Some g
    → (h : ResolveModel) × (b ≡ Some h) × ReordersGraph g h
graph_there None b g w is = absurd cc
graph_there (Some x) None g w is = absurd w
graph_there (Some x) (Some h) g w is = (h, refl, subst (λ y. ReordersGraph y h) (same_Some x g is) w)

graph_back : (a b : Option ResolveModel) (h : ResolveModel) → ReordersResolve a b → b ≡ Some h
    → (g : ResolveModel) × (a ≡ Some g) × ReordersGraph g h
graph_back None b h w is = absurd cc
graph_back (Some g) None h w is = absurd cc
graph_back (Some g) (Some x) h w is = (g, refl, subst (λ y. ReordersGraph g y) (same_Some x h is) w)

none_same : (a b : Option ResolveModel) → ReordersResolve a b → (a ≡ None) ↔ (b ≡ None)
none_same None b w = (λ e. w, λ e. refl)
none_same (Some g) None w = absurd w
none_same (Some g) (Some h) w = (λ e. absurd cc, λ e. absurd cc)

-- a property of documents that say the same holds of both documents
both : (m n : MetadataModel) → Reorders m n → (P : Resolved → Type 0) → ((r t : Resolved) → SaySame r t → P r → P t)
    → HasGraphWith m (λ g. P (resolved m g)) ↔ HasGraphWith n (λ h. P (resolved n h))
both m n w P keeps = (
  λ x.
      let h = graph_there m.resolve n.resolve x.graph w.resolve x.has_graph in
      let same = say_same m n x.graph h.0 w h.2 in
      record { graph = h.0; has_graph = h.1; holds = keeps (resolved m x.graph) (resolved n h.0) same x.holds },
  λ x.
      let g = graph_back m.resolve n.resolve x.graph w.resolve x.has_graph in
      let same = swapped (resolved m g.0) (resolved n x.graph) (say_same m n g.0 x.graph w g.2) in
      record { graph = g.0; has_graph = g.1; holds = keeps (resolved n x.graph) (resolved m g.0) same x.holds },
)

invalid_both : (m n : MetadataModel) → Reorders m n → (text : Text) → HasInvalidId m text ↔ HasInvalidId n text
invalid_both m n w text = both m n w (λ r. IsInvalidId r.metadata r.graph text) (λ r t same x. invalid_same r t text same x)

doubled_both : (m n : MetadataModel) → Reorders m n → (id : Id) → HasDoubledId m id ↔ HasDoubledId n id
doubled_both m n w id = both m n w (λ r. IsDoubled r.metadata r.graph id) (λ r t same x. doubled_same r t id same x)

refused_same : (m n : MetadataModel) → Reorders m n → (e : Error) → AdmissionRefusal m e ↔ AdmissionRefusal n e
refused_same m n w errors.NoResolveGraph = none_same m.resolve n.resolve w.resolve
refused_same m n w (errors.InvalidId t) = invalid_both m n w (string_bytes t)
refused_same m n w (errors.Doubled kid) = doubled_both m n w (id_of kid)
refused_same m n w errors.Memory = (λ h. tt, λ h. tt)
refused_same m n w (errors.Metadata x) = (λ h. h, λ h. h)
refused_same m n w (errors.InvalidPkgSpec x) = (λ h. h, λ h. h)
refused_same m n w errors.NoRootKrates = (λ h. h, λ h. h)
refused_same m n w (errors.Lost x) = (λ h. h, λ h. h)
refused_same m n w errors.TooMany = (λ h. h, λ h. h)

-- where no id is doubled, they say the same about each crate, edge and name
say_alike : (r t : Resolved) → SaySame r t → NoneDoubled t.metadata t.graph → SayAlike r t
say_alike r t w none = record {
  packages = λ i p q a b.
      let x = package_same r t i p w a in
      subst (λ z. ReordersPackage p z) (one_package t i x.pkg q none x.has_package b) x.same;
  features = λ i n o a b f.
      let x = twin r t i n w a in
      let same = subst (λ z. SameNode n z) (one_node t i x.node o none x.has_node b) x.same in
      (λ h. feature_same n o f same h, λ h. feature_back n o f same h);
  deps = λ e d c a b.
      let x = edge_same r t e d w a in
      one_dep t e.parent e.child x.node b.node d c none x.has_node b.has_node x.has_dep b.has_dep;
  referents = λ all i name c. (λ x. referent_same r t all i name c w x, λ x. referent_same t r all i name c (swapped r t w) x);
}

says_both : (m n : MetadataModel) → Reorders m n → (g h : ResolveModel) → m.resolve ≡ Some g → n.resolve ≡ Some h → NoneDoubled n h → SayAlike (resolved m g) (resolved n h)
says_both m n w g h has_g has_h none =
    let x = graph_there m.resolve n.resolve g w.resolve has_g in
    let same : x.0 ≡ h = same_Some x.0 h (sym x.1 ∙ has_h) in
    say_alike (resolved m g) (resolved n h) (say_same m n g h w (subst (ReordersGraph g) same x.2)) none

pub order_free : IsOrderFree
order_free m n w = record {
  facts = λ s f. both m n w (λ r. Derivable (questions r s) f) (λ r t same d. derivable_within (same_within r t s same) d);
  no_graph = none_same m.resolve n.resolve w.resolve;
  invalid = invalid_both m n w;
  doubled = doubled_both m n w;
  refused = refused_same m n w;
  unselected = λ s e. both m n w (λ r. SelectionRefusal (questions r s) e) (λ r t same x. unselected_same r t s e same x);
  says = says_both m n w;
}
