-- What is needed for an edge of an entry, and for what a node depends on.
use Rattle.std.proofs.Common.{◌≡◌, ◌↔◌, ℕ, ◌<◌, List, Some, option_map, Contains, get_or, length, map, sym, ap, ◌∙◌, subst}
use Rattle.std.proofs.lemmas.Option.{slice_get-map, slice_get-get_or, same_Some}
use Rattle.std.specs.List.{slice_get}
use Rattle.krates_cm.specs.Document.{DependencyModel, DepKindInfoModel, NodeDepModel, NodeModel, node_dep_view, dependency_view}
use Rattle.krates_cm.specs.declared.dependency.Dependency.{Dependency}
use Rattle.krates_ids.specs.Identity.{Reads}
use Rattle.krates_rules.specs.Admission.{NoneDoubled, dep_texts}
use Rattle.krates_rules.specs.DeclaredDependency.{dependency_entry, IsDeclared, IsUndeclared}
use Rattle.krates_rules.specs.Facts.{Id, Edge}
use Rattle.krates_rules.specs.Questions.{Declares, IsDeclaredAs, ListsEdge, edge_between}
use Rattle.krates_rules.specs.Resolved.{Resolved, HasNode, HasDep, id_of}
use Rattle.krates_rules.specs.Setting.{SettingModel, IsIgnored, Passes}
use Rattle.krates_questions.specs.NodeEntry.{IsEntry, parent_of, child_of, declared_in, entry_of, edge_for}
use Rattle.krates_questions.specs.declared.node_entry.NodeEntry.{NodeEntry}
use Rattle.krates_questions.specs.declared.node_entry.NodeParts.{NodeParts}
use Rattle.krates_questions.specs.DocumentAnswers.{ArePartsOf, NoDep, IsEntryBetween, TellsDeclared}
use Rattle.krates_questions.specs.Availability.{HasChild, ListsKind, IsDeclaredOnly, IsWantedAs, TellsNeed}
use Rattle.krates_questions.specs.declared.dependency_questions.Need.TheVariants as needs
use Rattle.krates_rules.proofs.Readings.{ReadsOnce, left_of, right_of}
use Rattle.krates_document.proofs.DeclaredOnce.{declared_once, declared_stands}
use Rattle.krates_rules.proofs.FirstPlaces.{seen_at}
use Rattle.krates_rules.proofs.OnlyOne.{one_dep, one_node, place_in}
use Rattle.krates_rules.proofs.Standings.{contains_at}
use Rattle.krates_questions.proofs.Asked.{declared_told}
use Rattle.krates_questions.proofs.EntryEdges.{Heeds, loose, not_loose, own_dep, wanted, wanted_one}

-- the node's dependency doesn't list the kind and target
pub unlisted_need : (r : Resolved) (s : SettingModel) (x : NodeEntry) (k : DepKindInfoModel) → NoneDoubled r.metadata r.graph → IsEntry r x
    → (Contains (node_dep_view x.dep.now).dep_kinds k → ⊥) → TellsNeed r s (edge_for x k) needs.Nothing
unlisted_need r s x k none e out =
    let never : (d : NodeDepModel) → ListsEdge r (edge_for x k) d → ⊥ = λ d l.
    let same = one_dep r (parent_of x) (child_of x) l.node e.node d (node_dep_view x.dep.now) none l.has_node e.has_node l.has_dep e.has_dep in
    out (subst (λ (m : NodeDepModel). Contains m.dep_kinds k) same l.has_kind) in
    (λ d w. never w.declared.declares.dep w.declared.declares.lists, λ l. never l.dep l.lists)

-- the edge is ignored
pub ignored_need : (r : Resolved) (s : SettingModel) (e : Edge) → IsIgnored r s e → TellsNeed r s e needs.Nothing
ignored_need r s e ignored = (λ d w. w.declared.not_ignored ignored, λ l. l.not_ignored ignored)

-- there is no such dependency
pub absent_need : (r : Resolved) (s : SettingModel) (p c : Id) (k : DepKindInfoModel) → NoDep r p c → TellsNeed r s (edge_between p c k) needs.Nothing
absent_need r s p c k none = (
  λ d w. (let a = w.declared.declares in none a.lists.node a.dep a.lists.has_node a.lists.has_dep),
  λ w. none w.lists.node w.dep w.lists.has_node w.lists.has_dep,
)

-- no declared dependency fits
pub undeclared_need : (r : Resolved) (s : SettingModel) (x : NodeEntry) (k : DepKindInfoModel) → NoneDoubled r.metadata r.graph → Heeds r s x k
    → IsUndeclared (declared_in x) (entry_of x) k → TellsNeed r s (edge_for x k) needs.Undeclared
undeclared_need r s x k none h lacks = (
  loose r s x k h lacks,
  λ d w. (
      let at = w.declared.declares in
      let same = own_dep r x k at.dep none h.at at.lists in
      let ds = h.at.declares.each at.pkg at.has_package in
      let here = subst (λ (ds : List DependencyModel). IsDeclared ds (dependency_entry (child_of x) at.dep) k w.place d) ds at.declared in
      lacks w.place d (subst (λ (dep : NodeDepModel). IsDeclared (declared_in x) (dependency_entry (child_of x) dep) k w.place d) same here)),
)

-- the target doesn't pass
pub barred_need : (r : Resolved) (s : SettingModel) (x : NodeEntry) (k : DepKindInfoModel) (place : ℕ) (d : DependencyModel) → NoneDoubled r.metadata r.graph → IsEntry r x
    → IsDeclared (declared_in x) (entry_of x) k place d → (Passes s k.target → ⊥) → TellsNeed r s (edge_for x k) needs.Nothing
barred_need r s x k place d none e first barred = (λ o w. barred w.passes, not_loose r s x k place d none e first)

-- the edge is wanted
pub wanted_need : (r : Resolved) (s : SettingModel) (x : NodeEntry) (k : DepKindInfoModel) (place : ℕ) (d : DependencyModel) → NoneDoubled r.metadata r.graph → Heeds r s x k
    → IsDeclared (declared_in x) (entry_of x) k place d → Passes s k.target → IsWantedAs r s (edge_for x k) d
wanted_need r s x k place d none h first passes = record {
  wanted = wanted r s x k place d h first passes;
  only = λ o w. wanted_one r s x k place d o none h.at first w;
  not_loose = not_loose r s x k place d none h.at first;
}

-- the declared dependency is at its place in the package's list
pub declared_below : (x : NodeEntry) (k : DepKindInfoModel) (place : ℕ) (d : DependencyModel) → IsDeclared (declared_in x) (entry_of x) k place d → place < length x.declared.now
declared_below x k place d first = (seen_at dependency_view x.declared.now place d (declared_stands (declared_in x) (entry_of x) k place d first)).1

-- and is what the code finds there
declared_same : (x : NodeEntry) (k : DepKindInfoModel) (place : ℕ) (d : DependencyModel) (y : Dependency) → IsDeclared (declared_in x) (entry_of x) k place d → slice_get x.declared.now place ≡ Some y → d ≡ dependency_view y
declared_same x k place d y first at =
    same_Some d (dependency_view y) (sym (declared_stands (declared_in x) (entry_of x) k place d first) ∙ slice_get-map dependency_view x.declared.now place ∙ ap (option_map dependency_view) at)

pub wanted_here : (r : Resolved) (s : SettingModel) (x : NodeEntry) (k : DepKindInfoModel) (place : ℕ) (d : DependencyModel) (y : Dependency) → IsDeclared (declared_in x) (entry_of x) k place d
    → slice_get x.declared.now place ≡ Some y → IsWantedAs r s (edge_for x k) d → IsWantedAs r s (edge_for x k) (dependency_view y)
wanted_here r s x k place d y first at h = subst (IsWantedAs r s (edge_for x k)) (declared_same x k place d y first at) h

-- ---- which dependency the edge is declared as

-- the edge of an entry is declared as only one dependency
declared_one : (r : Resolved) (x : NodeEntry) (k : DepKindInfoModel) (place : ℕ) (d e : DependencyModel) → NoneDoubled r.metadata r.graph → IsEntry r x
    → IsDeclared (declared_in x) (entry_of x) k place d → IsDeclaredAs r (edge_for x k) e → e ≡ d
declared_one r x k place d e none h first (other, at) =
    let same = one_dep r (parent_of x) (child_of x) at.lists.node h.node at.dep (node_dep_view x.dep.now) none at.lists.has_node h.has_node at.lists.has_dep h.has_dep in
    let ds = h.declares.each at.pkg at.has_package in
    let here = subst (λ (ds : List DependencyModel). IsDeclared ds (dependency_entry (child_of x) at.dep) k other e) ds at.declared in
    let there = subst (λ (dep : NodeDepModel). IsDeclared (declared_in x) (dependency_entry (child_of x) dep) k other e) same here in
    (declared_once (declared_in x) (entry_of x) k other place e d there first).1

-- and that is what the code finds at its place
pub declaration_here : (r : Resolved) (x : NodeEntry) (k : DepKindInfoModel) (place : ℕ) (y : Dependency) → NoneDoubled r.metadata r.graph → IsEntry r x → TellsDeclared x k (Some place)
    → slice_get x.declared.now place ≡ Some y → IsDeclaredOnly r (edge_for x k) (dependency_view y)
declaration_here r x k place y none e told at =
    let h = declared_told r x k (Some place) none e told in
    let d = told.dependency in
    subst (IsDeclaredOnly r (edge_for x k)) (declared_same x k place d y told.declared at) (record {
      declared = (place, subst (Declares r (edge_for x k) place) (declared_one r x k place d h.0 none e told.declared (place, h.1)) h.1);
      only = λ other o. declared_one r x k place d other none e told.declared o;
    })

-- ---- what a node depends on

-- the ids of the node's dependencies are those on which the crate depends
pub children_told : ReadsOnce → (r : Resolved) (p child : Id) (x : NodeParts) → NoneDoubled r.metadata r.graph → ArePartsOf r p x → HasChild r p child ↔ Contains (map id_of x.children.now) child
children_told once r p child x none of = (to, back)
  where
    to : HasChild r p child → Contains (map id_of x.children.now) child
    to h =
        let here = subst (λ (i : Id). HasNode r i of.parts.at.node) of.parent of.parts.has_node in
        let same = one_node r p h.node of.parts.at.node none h.has_node here in
        let e = subst (λ (m : NodeModel). HasDep m child h.dep) same h.has_dep in
        let at = place_in of.parts.at.node.deps h.dep e.among in
        let pkg : NodeDepModel → _ = λ m. m.pkg in
        let text : slice_get (dep_texts of.parts.at.node) at.0 ≡ Some h.dep.pkg = slice_get-map pkg of.parts.at.node.deps at.0 ∙ ap (option_map pkg) at.1 in
        let y = right_of Reads (dep_texts of.parts.at.node) x.children.now at.0 h.dep.pkg of.parts.children text in
        let is : id_of y.0 ≡ child = ap id_of (once h.dep.pkg y.0 e.id.read y.2 e.id.reads) ∙ e.id.same in
        contains_at (map id_of x.children.now) at.0 child (slice_get-map id_of x.children.now at.0 ∙ ap (option_map id_of) y.1 ∙ ap (λ z. Some z) is)

    back : Contains (map id_of x.children.now) child → HasChild r p child
    back c =
        let at = place_in (map id_of x.children.now) child c in
        let s = seen_at id_of x.children.now at.0 child at.1 in
        let y = get_or x.children.now at.0 s.0 in
        let there : slice_get x.children.now at.0 ≡ Some y = slice_get-get_or x.children.now at.0 s.0 s.1 in
        let t = left_of Reads (dep_texts of.parts.at.node) x.children.now at.0 y of.parts.children there in
        let pkg : NodeDepModel → _ = λ m. m.pkg in
        let d = seen_at pkg of.parts.at.node.deps at.0 t.0 t.1 in
        let dep = get_or of.parts.at.node.deps at.0 d.0 in
        record {
          node = of.parts.at.node;
          has_node = subst (λ (i : Id). HasNode r i of.parts.at.node) of.parent of.parts.has_node;
          dep = dep;
          has_dep = record { among = contains_at of.parts.at.node.deps at.0 dep (slice_get-get_or of.parts.at.node.deps at.0 d.0 d.1); id = record { read = y; reads = subst (λ b. Reads b y) (sym d.2) t.2; same = s.2 } };
        }

-- the kinds and targets of the entry between two crates are those that the node lists
pub kinds_told : (r : Resolved) (p child : Id) (k : DepKindInfoModel) (x : NodeEntry) → NoneDoubled r.metadata r.graph → IsEntryBetween r p child x → ListsKind r p child k ↔ Contains (node_dep_view x.dep.now).dep_kinds k
kinds_told r p child k x none b =
    let has = subst (λ (i : Id). HasNode r i b.entry.node) b.parent b.entry.has_node in
    let dep = subst (λ (i : Id). HasDep b.entry.node i (node_dep_view x.dep.now)) b.child b.entry.has_dep in (
      λ l. (
          let same = one_dep r p child l.lists.node b.entry.node l.dep (node_dep_view x.dep.now) none l.lists.has_node has l.lists.has_dep dep in
          subst (λ (m : NodeDepModel). Contains m.dep_kinds k) same l.lists.has_kind),
      λ c. record { dep = node_dep_view x.dep.now; lists = record { node = b.entry.node; has_node = has; has_dep = dep; has_kind = c } },
    )
