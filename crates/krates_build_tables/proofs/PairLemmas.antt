-- Lemmas of declared dependencies and the edges by which they are resolved.
use Rattle.std.proofs.Common.{◌≡◌, ◌↔◌, ℕ, ◌<◌, ◌≤◌, List, [], ◌∷◌, length, map, Bool, IsTrue, Option, Some, None, option_map, is_some, Contains, refl, sym, ap, ◌∙◌, subst, arith}
use Rattle.std.proofs.lemmas.Option.{none-some, same_Some, slice_get-map, slice_get_within}
use Rattle.std.specs.List.{slice_get}
use Rattle.krates_cm.specs.Document.{Text, DependencyModel, NodeDepModel, NodeModel, PackageModel, TargetModel, node_dep_view}
use Rattle.krates_ids.specs.Identity.{Identity, Reads}
use Rattle.krates_questions.specs.Lookup.{IsPackageOf}
use Rattle.krates_questions.specs.NodeEntry.{AreParts, IsEntryOf, child_of, krate_of, parent_of}
use Rattle.krates_questions.specs.declared.node_entry.NodeEntry.{NodeEntry}
use Rattle.krates_questions.specs.declared.node_entry.NodeParts.{NodeParts}
use Rattle.krates_questions.proofs.NodeParts.{has_dep_here}
use Rattle.krates_rules.specs.Admission.{NoneDoubled, dep_texts}
use Rattle.krates_rules.specs.DependencyName.{IsNameOf}
use Rattle.krates_rules.specs.Facts.{Id, Edge}
use Rattle.krates_rules.specs.Questions.{edge_between, kind_info_of}
use Rattle.krates_rules.specs.Resolved.{Resolved, HasDep, HasNode, HasPackage, NoNode, id_of}
use Rattle.krates_rules.proofs.OnlyOne.{one_node, place_in}
use Rattle.krates_rules.proofs.Readings.{ReadsOnce, right_of}
use Rattle.krates_units.specs.BuildTargets.{HasTarget}
use Rattle.krates_units.specs.Resolves.{HasDeclared, IsCalled, LacksEdge, Resolves, renamed, by_library}
use Rattle.krates_build_tables.specs.Entries.{HasOneThat}
use Rattle.krates_build_tables.specs.Pairs.{FitsChild, FitsInfo, GivesOf, IsLibraryCalled, IsResolvedBy, IsUnresolved, PairsFor}
use Rattle.krates_build_tables.proofs.Listing.{Reached}

-- ---- packages and names

pub package_told : (r : Resolved) (i : Id) (o : Option PackageModel) (b : Bool) → IsPackageOf r i o → b ≡ is_some o → IsTrue b ↔ ((p : PackageModel) × HasPackage r i p)
package_told r i None b none is = (λ t. absurd cc, λ h. absurd (none h.0 h.1))
package_told r i (Some p) b has is = (λ t. (p, has), λ h. is)

renamed_from : (r : Resolved) (c : Id) (d : DependencyModel) (name rename : Text) → d.rename ≡ Some rename → IsCalled r c d name → IsNameOf name rename
renamed_from r c d name rename is (renamed {name = other} e n) = subst (IsNameOf name) (same_Some other rename (sym e ∙ is)) n
renamed_from r c d name rename is (by_library t none has library n) = absurd (none-some rename (sym none ∙ is))

pub renamed_told : (r : Resolved) (c : Id) (d : DependencyModel) (name rename : Text) (b : Bool) → d.rename ≡ Some rename → (IsTrue b ↔ IsNameOf name rename) → IsTrue b ↔ IsCalled r c d name
renamed_told r c d name rename b is told = (λ t. renamed is (told.0 t), λ h. told.1 (renamed_from r c d name rename is h))

library_from : (r : Resolved) (c : Id) (d : DependencyModel) (name : Text) (ts : List TargetModel) → d.rename ≡ None → ((t : TargetModel) → HasTarget r c t ↔ Contains ts t) → IsCalled r c d name
    → HasOneThat (IsLibraryCalled name) ts
library_from r c d name ts is same (renamed {name = other} e n) = absurd (none-some other (sym is ∙ e))
library_from r c d name ts is same (by_library t none has library n) = (t, (same t).0 has, (library, n))

pub library_told : (r : Resolved) (c : Id) (d : DependencyModel) (name : Text) (ts : List TargetModel) (b : Bool) → d.rename ≡ None → ((t : TargetModel) → HasTarget r c t ↔ Contains ts t)
    → (IsTrue b ↔ HasOneThat (IsLibraryCalled name) ts) → IsTrue b ↔ IsCalled r c d name
library_told r c d name ts b is same told = (
  λ t. (let w = told.0 t in by_library w.0 is ((same w.0).1 w.1) w.2.0 w.2.1),
  λ h. told.1 (library_from r c d name ts is same h),
)

-- ---- edges by which a dependency is resolved

pub by_resolves : (r : Resolved) (e : Edge) (d : DependencyModel) → Resolves r e d → IsResolvedBy r e d
by_resolves r e d h = record {
  dep = h.dep;
  lists = h.lists;
  kind = h.kind;
  target = h.target;
  fits = record { pkg = h.pkg; has_package = h.has_package; name = h.name; version = h.version; called = h.called };
}

pub whole_resolves : (r : Resolved) (i : Id) (e : Edge) (d : DependencyModel) → e.parent ≡ i → HasDeclared r i d → IsResolvedBy r e d → Resolves r e d
whole_resolves r i e d parent declared by = record {
  pkg = by.fits.pkg;
  has_package = by.fits.has_package;
  declared = subst (λ (j : Id). HasDeclared r j d) (sym parent) declared;
  dep = by.dep;
  lists = by.lists;
  kind = by.kind;
  target = by.target;
  name = by.fits.name;
  version = by.fits.version;
  called = by.fits.called;
}

whole_edge : (p c : Id) (d : DependencyModel) (e : Edge) (other : DependencyModel) → e.parent ≡ p → c ≡ e.child → other ≡ d
    → ◌≡◌ {A = Edge × DependencyModel} (e, other) (edge_between p c (kind_info_of e), d)
whole_edge p c d e other parent child same =
    let edge : e ≡ edge_between p c (kind_info_of e) = rw (sym parent, child) refl in
    cc

-- no pair is in the list, so it is empty
all_none : (r : Resolved) (i : Id) (d : DependencyModel) (out : List (Edge × DependencyModel)) → ((p : Edge × DependencyModel) → PairsFor r i d p ↔ Contains out p) → IsUnresolved r i d → out ≡ []
all_none r i d [] pairs none = refl
all_none r i d (p ∷ ps) pairs none =
    let w = (pairs p).1 (0, omega arith, refl) in
    absurd (none p.0 w.1 w.2)

-- ---- a dependency of a node

-- what the dependency of a node at a place gives
abbrev pub GivesAt : Resolved → NodeParts → DependencyModel → ℕ → Edge × DependencyModel → Type 0
GivesAt r x d k b = (dep : NodeDepModel) × (c : Identity) × (slice_get (map node_dep_view x.deps.now) k ≡ Some dep) × (slice_get x.children.now k ≡ Some c) × GivesOf r (krate_of x) (id_of c) dep d b

-- what it gives is what the entry at the place gives
pub gives_here : (r : Resolved) (x : NodeParts) (d : DependencyModel) (k : ℕ) (y : NodeEntry) → IsEntryOf x k y → (b : Edge × DependencyModel)
    → GivesAt r x d k b ↔ GivesOf r (parent_of y) (child_of y) (node_dep_view y.dep.now) d b
gives_here r x d k y e b =
    let dep = slice_get-map node_dep_view x.deps.now k ∙ ap (option_map node_dep_view) e.dep in
    let parent : parent_of y ≡ krate_of x = ap id_of e.parent in (
      λ h. (
          let same_dep = same_Some h.0 (node_dep_view y.dep.now) (sym h.2 ∙ dep) in
          let same_child = ap id_of (same_Some h.1 y.child.now (sym h.3 ∙ e.child)) in
          rw parent (subst (λ (m : NodeDepModel). GivesOf r (krate_of x) (child_of y) m d b) same_dep (subst (λ (i : Id). GivesOf r (krate_of x) i h.0 d b) same_child h.4))),
      λ h. (node_dep_view y.dep.now, y.child.now, dep, e.child, subst (λ (i : Id). GivesOf r i (child_of y) (node_dep_view y.dep.now) d b) parent h),
    )

pub entry_gives : (r : Resolved) (x : NodeParts) (d : DependencyModel) (k : ℕ) (y : NodeEntry) (added : List (Edge × DependencyModel)) → IsEntryOf x k y
    → ((b : Edge × DependencyModel) → GivesOf r (parent_of y) (child_of y) (node_dep_view y.dep.now) d b ↔ Contains added b) → (b : Edge × DependencyModel) → GivesAt r x d k b ↔ Contains added b
entry_gives r x d k y added e told b =
    let here = gives_here r x d k y e b in
    (λ h. (told b).0 (here.0 h), λ h. here.1 ((told b).1 h))

-- ---- a node

-- an edge that a dependency of the node gives
pub gives_for : (r : Resolved) (place : ℕ) (x : NodeParts) (d : DependencyModel) (k : ℕ) (b : Edge × DependencyModel) → AreParts r place x → GivesAt r x d k b → PairsFor r (krate_of x) d b
gives_for r place x d k b p (dep, c, at_dep, at_child, (fits, (kind, among, (info, is)))) =
    let here = has_dep_here p.at.node x.children.now k dep c p.children (ap (λ (ds : List NodeDepModel). slice_get ds k) p.deps ∙ at_dep) at_child in
    subst (PairsFor r (krate_of x) d) (sym is) (
      refl,
      refl,
      record {
        dep = dep;
        lists = record { node = p.at.node; has_node = p.has_node; has_dep = here; has_kind = among };
        kind = info.0;
        target = info.1;
        fits = fits;
      },
    )

-- an edge by which the dependency is resolved is given by some dependency of the node
for_gives : ReadsOnce → (r : Resolved) (place : ℕ) (x : NodeParts) (d : DependencyModel) (b : Edge × DependencyModel) → NoneDoubled r.metadata r.graph → AreParts r place x → PairsFor r (krate_of x) d b
    → (k : ℕ) × (k < length x.children.now) × GivesAt r x d k b
for_gives once r place x d (e, other) none p (same, parent, by) =
    let lists = by.lists in
    let node = one_node r (krate_of x) lists.node p.at.node none (subst (λ (i : Id). HasNode r i lists.node) parent lists.has_node) p.has_node in
    let dep = subst (λ (n : NodeModel). HasDep n e.child by.dep) node lists.has_dep in
    let at = place_in p.at.node.deps by.dep dep.among in
    let pkg : NodeDepModel → Text = λ m. m.pkg in
    let text : slice_get (dep_texts p.at.node) at.0 ≡ Some by.dep.pkg = slice_get-map pkg p.at.node.deps at.0 ∙ ap (option_map pkg) at.1 in
    let y = right_of Reads (dep_texts p.at.node) x.children.now at.0 by.dep.pkg p.children text in
    let child : id_of y.0 ≡ e.child = ap id_of (once by.dep.pkg y.0 dep.id.read y.2 dep.id.reads) ∙ dep.id.same in
    let at_dep = sym (ap (λ (ds : List NodeDepModel). slice_get ds at.0) p.deps) ∙ at.1 in
    let fits : FitsChild r (id_of y.0) by.dep d = subst (λ (i : Id). FitsChild r i by.dep d) (sym child) by.fits in
    let info : FitsInfo (kind_info_of e) d = (by.kind, by.target) in
    let whole = whole_edge (krate_of x) (id_of y.0) d e other parent child same in
    (at.0, slice_get_within x.children.now at.0 y.0 y.1, (by.dep, y.0, at_dep, y.1, (fits, (kind_info_of e, lists.has_kind, (info, whole)))))

pub node_told : ReadsOnce → (r : Resolved) (place : ℕ) (x : NodeParts) (d : DependencyModel) (n : ℕ) (b : Edge × DependencyModel) → NoneDoubled r.metadata r.graph → AreParts r place x → length x.children.now ≤ n
    → PairsFor r (krate_of x) d b ↔ ((k : ℕ) × (k < n) × GivesAt r x d k b)
node_told once r place x d n b none p long = (
  λ h. (let w = for_gives once r place x d b none p h in (w.0, omega (arith, w.1, long), w.2)),
  λ h. gives_for r place x d h.0 b p h.2,
)

pub no_node_pairs : (r : Resolved) (i : Id) (d : DependencyModel) → NoNode r i → (b : Edge × DependencyModel) → PairsFor r i d b ↔ Contains [] b
no_node_pairs r i d none b = (
  λ h. absurd (none h.2.lists.node (subst (λ (j : Id). HasNode r j h.2.lists.node) h.1 h.2.lists.has_node)),
  λ h. absurd (omega (arith, h.1)),
)

-- ---- a crate

-- what its declared dependencies give is what resolves them
pub resolves_told : (r : Resolved) (i : Id) (ds : List DependencyModel) (out : List (Edge × DependencyModel)) → ((d : DependencyModel) → HasDeclared r i d ↔ Contains ds d)
    → ((b : Edge × DependencyModel) → Reached (PairsFor r i) ds b ↔ Contains out b) → (b : Edge × DependencyModel) → (Resolves r b.0 b.1 × (b.0.parent ≡ i)) ↔ Contains out b
resolves_told r i ds out same lists b = (
  λ h. (lists b).0 (b.1, (same b.1).0 (subst (λ (j : Id). HasDeclared r j b.1) h.1 h.0.declared), (refl, h.1, by_resolves r b.0 b.1 h.0)),
  λ h. (
      let w = (lists b).1 h in
      let d = w.2.0 in
      let declared = subst (λ (j : Id). HasDeclared r j b.1) (sym w.2.1) (subst (HasDeclared r i) (sym d) ((same w.0).1 w.1)) in
      let by = subst (IsResolvedBy r b.0) (sym d) w.2.2 in (
        record {
          pkg = by.fits.pkg;
          has_package = by.fits.has_package;
          declared = declared;
          dep = by.dep;
          lists = by.lists;
          kind = by.kind;
          target = by.target;
          name = by.fits.name;
          version = by.fits.version;
          called = by.fits.called;
        },
        w.2.1,
      )),
)

-- ---- what is lacking

pub unresolved_told : (r : Resolved) (i : Id) (d : DependencyModel) (out : List (Edge × DependencyModel)) (b : Bool) → ((p : Edge × DependencyModel) → PairsFor r i d p ↔ Contains out p) → (IsTrue b ↔ (out ≡ []))
    → IsTrue b ↔ IsUnresolved r i d
unresolved_told r i d out b pairs empty = (
  λ t e parent by. (let h = subst (λ ps. Contains ps (e, d)) (empty.0 t) ((pairs (e, d)).0 (refl, parent, by)) in absurd (omega (arith, h.1))),
  λ none. empty.1 (all_none r i d out pairs none),
)

abbrev pub IsLeft : Resolved → Id → DependencyModel → DependencyModel → Type 0
IsLeft r i d other = IsUnresolved r i d × (d ≡ other)

pub lacks_told : (r : Resolved) (i : Id) (ds out : List DependencyModel) → ((d : DependencyModel) → HasDeclared r i d ↔ Contains ds d) → ((d : DependencyModel) → Reached (IsLeft r i) ds d ↔ Contains out d)
    → (d : DependencyModel) → LacksEdge r i d ↔ Contains out d
lacks_told r i ds out same lists d = (
  λ h. (lists d).0 (d, (same d).0 h.declared, (λ e parent by. h.no_edge e parent (whole_resolves r i e d parent h.declared by), refl)),
  λ h. (
      let w = (lists d).1 h in
      record {
        declared = subst (HasDeclared r i) w.2.1 ((same w.0).1 w.1);
        no_edge = λ e parent yes. w.2.0 e parent (subst (IsResolvedBy r e) (sym w.2.1) (by_resolves r e d yes));
      }),
)
