-- The texts of an admitted document that have to be ids: each is read, and none is invalid.
use Rattle.std.proofs.Common.{◌≡◌, ℕ, zero, suc, ◌<◌, List, [], ◌∷◌, length, get_or, Contains, Option, Some, None, refl, sym, ◌∙◌, subst, arith}
use Rattle.std.proofs.lemmas.Option.{none-some, same_Some}
use Rattle.std.specs.List.{AllZip}
use Rattle.krates_cm.specs.Document.{MetadataModel, NodeModel, ResolveModel, Text, VersionModel}
use Rattle.krates_cm.specs.Names.{version_named}
use Rattle.krates_ids.specs.Identity.{Identity, Reads}
use Rattle.krates_rules.specs.Admission.{AreDepIds, AreIdsOf, HasThisVersion, IdsModel, IsInvalidId, IsRootId, StandsForId, bad_version, dep_texts, node_texts, of_dep, of_member, of_node, of_package, of_root, package_texts, unread}
use Rattle.krates_rules.specs.Resolved.{HasGraphWith}
use Rattle.krates_rules.proofs.Readings.{ReadsOnce}

-- what holds of a document's graph, of the graph that it is known to have
pub of_graph : (m : MetadataModel) (P : ResolveModel → Type 0) (g : ResolveModel) → m.resolve ≡ Some g → HasGraphWith m P → P g
of_graph m P g has h = subst P (same_Some h.graph g (sym h.has_graph ∙ has)) h.holds

-- the counterpart of an element in related lists
beside : {A B : Type 0} (R : A → B → Type 0) (xs : List A) (ys : List B) (x : A) (k : ℕ) → AllZip R xs ys → k < length xs → get_or xs k x ≡ x
    → (y : B) × Contains ys y × R x y
beside R [] ys x k zip lt is = absurd (omega arith)
beside R (a ∷ xs) [] x k zip lt is = absurd zip
beside R (a ∷ xs) (b ∷ ys) x zero zip lt is = (b, (0, omega arith, refl), subst (λ v. R v b) is zip.0)
beside R (a ∷ xs) (b ∷ ys) x (suc k) zip lt is =
    let w = beside R xs ys x k zip.1 (omega arith) is in
    (w.0, (suc w.1.0, omega (arith, w.1.1), w.1.2), w.2)

-- an id of a dependency that is among the nodes, with its version
dep_id : (m : MetadataModel) (g : ResolveModel) (ids : IdsModel) (n : NodeModel) (t : Text) → AreIdsOf m g ids → Contains g.nodes n → Contains (dep_texts n) t
    → (i : Identity) × Reads t i × ((v : VersionModel) × HasThisVersion i v)
dep_id m g ids n t are node dep =
    let list = beside AreDepIds g.nodes ids.deps n node.0 are.deps node.1 node.2 in
    let w = beside Reads (dep_texts n) list.0 t dep.0 list.2 dep.1 dep.2 in
    let versions = beside (AllZip HasThisVersion) ids.deps ids.versions list.0 list.1.0 are.versions list.1.1 list.1.2 in
    let version = beside HasThisVersion list.0 versions.0 w.0 w.1.0 versions.2 w.1.1 w.1.2 in
    (w.0, w.2, (version.0, version.2))

root_id : (text : Option Text) (root : Option Identity) (t : Text) → IsRootId text root → text ≡ Some t → (i : Identity) × Reads t i
root_id None root t is e = absurd (none-some t e)
root_id (Some u) None t is e = absurd is
root_id (Some u) (Some i) t is e = (i, subst (λ v. Reads v i) (same_Some u t e) is)

-- of an admitted document each text that has to be an id is read
stands_read : (m : MetadataModel) (g : ResolveModel) (ids : IdsModel) (t : Text) → AreIdsOf m g ids → StandsForId m g t → (i : Identity) × Reads t i
stands_read m g ids t are (of_package c) = let w = beside Reads (package_texts m) ids.packages t c.0 are.packages c.1 c.2 in (w.0, w.2)
stands_read m g ids t are (of_member c) = let w = beside Reads m.workspace_members ids.members t c.0 are.members c.1 c.2 in (w.0, w.2)
stands_read m g ids t are (of_root e) = root_id g.root ids.root t are.root e
stands_read m g ids t are (of_node c) = let w = beside Reads (node_texts g) ids.nodes t c.0 are.nodes c.1 c.2 in (w.0, w.2)
stands_read m g ids t are (of_dep n c d) = let w = dep_id m g ids n t are c d in (w.0, w.1)

-- of an admitted document no id is invalid
pub none_invalid : ReadsOnce → (m : MetadataModel) (g : ResolveModel) (ids : IdsModel) (t : Text) → AreIdsOf m g ids → IsInvalidId m g t → ⊥
none_invalid once m g ids t are (unread stands none) = let w = stands_read m g ids t are stands in none w.0 w.1
none_invalid once m g ids t are (bad_version n c d i reads none) =
    let w = dep_id m g ids n t are c d in
    none-some w.2.0 (sym (subst (λ (j : Identity). version_named j.version ≡ None) (once t i w.0 reads w.1) none) ∙ w.2.1)
