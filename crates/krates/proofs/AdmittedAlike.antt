-- Documents that differ only in order are both admitted or both refused.
use Rattle.std.proofs.Common.{◌≡◌, List, [], ◌∷◌, map, Option, Some, None, Contains, IsPermutation, refl, sym, ap, ◌∙◌, subst}
use Rattle.std.proofs.lemmas.List.Sorted.{Contains-permutation, IsPermutation-sym, IsPermutation-map}
use Rattle.std.proofs.lemmas.Option.{same_Some}
use Rattle.std.specs.List.{AllZip}
use Rattle.krates_cm.specs.Document.{Text, PackageModel, NodeDepModel, NodeModel, ResolveModel, MetadataModel}
use Rattle.krates_ids.specs.Correction.{with_features}
use Rattle.krates_rules.specs.Admission.{StandsForId, dep_texts, node_texts, of_dep, of_member, of_node, of_package, of_root, package_texts}
use Rattle.krates_rules.specs.Reordering.{ReordersPackage, ReordersPackages, ReordersNode, ReordersGraph, ReordersResolve, Reorders, ResolveAlike}
use Rattle.krates_rules.proofs.Members.{contains_of, member_of, partner_of, swapped}
use Rattle.krates.specs.Build.{IsResolvable}
use Rattle.krates.proofs.MovedLists.{moved_zip, zip_turned}

-- ---- the other direction

package_turned : (a b : PackageModel) → ReordersPackage a b → ReordersPackage b a
package_turned a b w = record {
  features = λ name. sym (w.features name);
  rest = sym (ap (λ (x : PackageModel). with_features x a.features) w.rest);
}

packages_turned : (xs ys : List PackageModel) → ReordersPackages xs ys → ReordersPackages ys xs
packages_turned xs ys w =
    let back = zip_turned ReordersPackage ReordersPackage xs w.packages w.each package_turned in
    let m = moved_zip ReordersPackage w.packages ys xs w.moved back in
    record { packages = m.list; each = m.zip; moved = IsPermutation-sym xs m.list m.moved }

node_turned : (a b : NodeModel) → ReordersNode a b → ReordersNode b a
node_turned a b w = record {
  deps = IsPermutation-sym a.deps b.deps w.deps;
  dependencies = IsPermutation-sym a.dependencies b.dependencies w.dependencies;
  features = IsPermutation-sym a.features b.features w.features;
  rest = sym (ap (λ (x : NodeModel). record x { deps = a.deps; dependencies = a.dependencies; features = a.features }) w.rest);
}

graph_turned : (g h : ResolveModel) → ReordersGraph g h → ReordersGraph h g
graph_turned g h w =
    let back = zip_turned ReordersNode ReordersNode g.nodes w.nodes w.each node_turned in
    let m = moved_zip ReordersNode w.nodes h.nodes g.nodes w.moved back in
    record { nodes = m.list; each = m.zip; moved = IsPermutation-sym g.nodes m.list m.moved; root = sym w.root }

resolve_turned : (a b : Option ResolveModel) → ReordersResolve a b → ReordersResolve b a
resolve_turned None None w = refl
resolve_turned None (Some h) w = absurd cc
resolve_turned (Some g) None w = absurd w
resolve_turned (Some g) (Some h) w = graph_turned g h w

pub turned : (m n : MetadataModel) → Reorders m n → Reorders n m
turned m n w = record {
  packages = packages_turned m.packages n.packages w.packages;
  members = IsPermutation-sym m.workspace_members n.workspace_members w.members;
  resolve = resolve_turned m.resolve n.resolve w.resolve;
  rest = sym (ap (λ (x : MetadataModel). record x { packages = m.packages; workspace_members = m.workspace_members; resolve = m.resolve }) w.rest);
}

-- ---- ids in another order

same_texts : {A : Type 0} (R : A → A → Type 0) (text : A → Text) (xs ys : List A) → AllZip R xs ys → ((a b : A) → R a b → text a ≡ text b) → map text xs ≡ map text ys
same_texts R text [] [] z h = refl
same_texts R text [] (y ∷ ys) z h = absurd z
same_texts R text (x ∷ xs) [] z h = absurd z
same_texts R text (x ∷ xs) (y ∷ ys) z h = ap (λ t. t ∷ map text xs) (h x y z.0) ∙ ap (λ ts. text y ∷ ts) (same_texts R text xs ys z.1 h)

package_texts_moved : (m n : MetadataModel) → Reorders m n → IsPermutation (package_texts m) (package_texts n)
package_texts_moved m n w =
    let moved = IsPermutation-map (λ (p : PackageModel). p.id) w.packages.packages n.packages w.packages.moved in
    let same = same_texts ReordersPackage (λ (p : PackageModel). p.id) m.packages w.packages.packages w.packages.each (λ a b r. sym (ap (λ (x : PackageModel). x.id) r.rest)) in
    subst (λ ts. IsPermutation ts (package_texts n)) (sym same) moved

node_texts_moved : (g h : ResolveModel) → ReordersGraph g h → IsPermutation (node_texts g) (node_texts h)
node_texts_moved g h w =
    let moved = IsPermutation-map (λ (x : NodeModel). x.id) w.nodes h.nodes w.moved in
    let same = same_texts ReordersNode (λ (x : NodeModel). x.id) g.nodes w.nodes w.each (λ a b r. sym (ap (λ (x : NodeModel). x.id) r.rest)) in
    subst (λ ts. IsPermutation ts (node_texts h)) (sym same) moved

-- a node of the one has a node of the other, whose dependencies have the same ids
node_there : (g h : ResolveModel) (n : NodeModel) → ReordersGraph g h → Contains h.nodes n → (o : NodeModel) × Contains g.nodes o × IsPermutation (dep_texts n) (dep_texts o)
node_there g h n w c =
    let here = Contains-permutation h.nodes w.nodes n (IsPermutation-sym w.nodes h.nodes w.moved) c in
    let p = partner_of (λ y x. ReordersNode x y) w.nodes g.nodes n (swapped ReordersNode g.nodes w.nodes w.each) (member_of w.nodes n here) in
    let deps = IsPermutation-sym p.partner.deps n.deps p.related.deps in
    (p.partner, contains_of g.nodes p.partner p.member, IsPermutation-map (λ (d : NodeDepModel). d.pkg) n.deps p.partner.deps deps)

-- a text that has to be an id of the one has to be one of the other
stands_there : (m n : MetadataModel) (g h : ResolveModel) (t : Text) → Reorders m n → ReordersGraph g h → StandsForId n h t → StandsForId m g t
stands_there m n g h t w x (of_package c) = of_package (Contains-permutation (package_texts n) (package_texts m) t (IsPermutation-sym (package_texts m) (package_texts n) (package_texts_moved m n w)) c)
stands_there m n g h t w x (of_member c) = of_member (Contains-permutation n.workspace_members m.workspace_members t (IsPermutation-sym m.workspace_members n.workspace_members w.members) c)
stands_there m n g h t w x (of_root is) = of_root (sym x.root ∙ is)
stands_there m n g h t w x (of_node c) = of_node (Contains-permutation (node_texts h) (node_texts g) t (IsPermutation-sym (node_texts g) (node_texts h) (node_texts_moved g h x)) c)
stands_there m n g h t w x (of_dep node c d) =
    let o = node_there g h node x c in
    of_dep o.0 o.1 (Contains-permutation (dep_texts node) (dep_texts o.0) t o.2 d)

graph_there : (a b : Option ResolveModel) (g : ResolveModel) → ReordersResolve a b → a ≡ Some g → (h : ResolveModel) × (b ≡ Some h) × ReordersGraph g h
graph_there None b g w is = absurd cc
graph_there (Some x) None g w is = absurd w
graph_there (Some x) (Some h) g w is = (h, refl, subst (λ y. ReordersGraph y h) (same_Some x g is) w)

-- if one can be resolved, the other can
pub resolvable_there : (m n : MetadataModel) → Reorders m n → ResolveAlike m n → IsResolvable m → IsResolvable n
resolvable_there m n w alike r =
    let h = graph_there m.resolve n.resolve r.graph w.resolve r.has_graph in
    record {
      graph = h.0;
      has_graph = h.1;
      read = λ t s. r.read t (stands_there m n r.graph h.0 t w h.2 s);
      versions = λ node t c d.
          let o = node_there r.graph h.0 node h.2 c in
          r.versions o.0 t o.1 (Contains-permutation (dep_texts node) (dep_texts o.0) t o.2 d);
      none_doubled = λ id d.
          let back = (alike.doubled id).1 (record { graph = h.0; has_graph = h.1; holds = d }) in
          let same : back.graph ≡ r.graph = cc (back.has_graph, r.has_graph) in
          r.none_doubled id (rw same at back.holds);
    }
