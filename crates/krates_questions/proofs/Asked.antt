-- What the look-ups behind one question say about the document.
use Rattle.std.proofs.Common.{◌≡◌, ◌↔◌, ℕ, zero, suc, ◌+◌, ◌<◌, List, [], ◌∷◌, ◌++◌, length, get_or, take, map, Bool, Option, Some, None, option_map, MatchOption, Contains, Bor, refl, sym, ap, ◌∙◌, subst, arith}
use Rattle.std.proofs.lemmas.List.{map-append, take_more}
use Rattle.std.proofs.lemmas.Option.{slice_get-map, slice_get-get_or, same_Some}
use Rattle.std.specs.List.{AllZip, slice_get}
use Rattle.krates_cm.specs.Document.{Text, DependencyModel, DepKindInfoModel, NodeDepModel, NodeModel, node_dep_view}
use Rattle.krates_ids.specs.Identity.{Identity, Reads}
use Rattle.krates_rules.specs.Admission.{NoneDoubled, dep_texts}
use Rattle.krates_rules.specs.DeclaredDependency.{dependency_entry, IsDeclared, IsFirstPlace}
use Rattle.krates_rules.specs.Facts.{Id, Edge}
use Rattle.krates_questions.specs.Lookup.{resolved_view}
use Rattle.krates_questions.specs.NodeEntry.{AreParts, IsEntry, IsEntryOf, parent_of, child_of, declared_in, entry_of, edge_for}
use Rattle.krates_questions.specs.DocumentAnswers.{ArePartsOf, NoDep, IsEntryBetween, TellsDeclared, AsksFor, ArePicked, nothing, picked, passed, AreInOrder, of_members}
use Rattle.krates_rules.specs.Questions.{edge_between, Declares}
use Rattle.krates_rules.specs.Resolved.{NodeAt, Resolved, id_of, ReadsAs, HasNode, HasDep, StandsAt}
use Rattle.krates_rules.specs.Roots.{IsRoot}
use Rattle.krates_rules.specs.Setting.{SettingModel}
use Rattle.krates_document.specs.CrateTable.{IsPlaceOf}
use Rattle.krates_questions.specs.declared.lookup.Lookup.{Lookup}
use Rattle.krates_questions.specs.declared.node_entry.NodeEntry.{NodeEntry}
use Rattle.krates_questions.specs.declared.node_entry.NodeParts.{NodeParts}
use Rattle.krates_rules.proofs.Readings.{ReadsOnce, right_of}
use Rattle.krates_document.proofs.DeclaredOnce.{declared_stands}
use Rattle.krates_rules.proofs.FirstPlaces.{seen_at}
use Rattle.krates_questions.proofs.Lookups.{one_id}
use Rattle.krates_questions.proofs.NodeParts.{entry_here}
use Rattle.krates_rules.proofs.OnlyOne.{place_in, one_node, one_dep}
use Rattle.krates_questions.proofs.RootLemmas.{root_member}
use Rattle.krates_rules.proofs.Standings.{contains_at}

-- ---- ids in lists

-- the parts of the node at the crate's place are those of its node
pub parts_told : ReadsOnce → (d : Lookup) (krate : Id) (place : ℕ) (x : NodeParts) → NodeAt (resolved_view d) krate place → AreParts (resolved_view d) place x → ArePartsOf (resolved_view d) krate x
parts_told once d krate place x at p =
    let r = resolved_view d in
    record { parts = subst (λ (n : ℕ). AreParts r n x) (sym p.place_is) p; parent = one_id once r (id_of x.parent.now) krate place p.at at }

-- if the child isn't among the ids of the node's dependencies, the node doesn't depend on it
pub no_dep_told : ReadsOnce → (r : Resolved) (parent child : Id) (x : NodeParts) → NoneDoubled r.metadata r.graph → ArePartsOf r parent x → IsPlaceOf x.children.now child None → NoDep r parent child
no_dep_told once r parent child x none of absent n d has dep =
    let p = of.parts in
    let here = subst (λ (i : Id). HasNode r i p.at.node) of.parent p.has_node in
    let same = one_node r parent n p.at.node none has here in
    let e = subst (λ (m : NodeModel). HasDep m child d) same dep in
    let at = place_in p.at.node.deps d e.among in
    let pkg : NodeDepModel → _ = λ m. m.pkg in
    let text : slice_get (dep_texts p.at.node) at.0 ≡ Some d.pkg = slice_get-map pkg p.at.node.deps at.0 ∙ ap (option_map pkg) at.1 in
    let y = right_of Reads (dep_texts p.at.node) x.children.now at.0 d.pkg p.children text in
    absent at.0 (record { there = y.0; at = y.1; same = ap id_of (once d.pkg y.0 e.id.read y.2 e.id.reads) ∙ e.id.same })

-- the entry at the child's place is the one between the two crates
pub entry_told : (r : Resolved) (parent child : Id) (x : NodeParts) (k : ℕ) (y : NodeEntry) → ArePartsOf r parent x → StandsAt x.children.now child k → IsEntryOf x k y → IsEntryBetween r parent child y
entry_told r parent child x k y of s e =
    record {
      entry = entry_here r x.place.index x k y of.parts e;
      parent = ap id_of e.parent ∙ of.parent;
      child = ap id_of (same_Some y.child.now s.there (sym e.child ∙ s.at)) ∙ s.same;
    }

-- ---- edges between two crates

-- what holds of the edge of an entry holds of the edge between its two crates
pub between : (P : Edge → Type 0) (r : Resolved) (p c : Id) (x : NodeEntry) (k : DepKindInfoModel) → IsEntryBetween r p c x → P (edge_for x k) → P (edge_between p c k)
between P r p c x k b h = subst (λ (i : Id). P (edge_between i c k)) b.parent (subst (λ (i : Id). P (edge_between (parent_of x) i k)) b.child h)

-- without the dependency nothing lists the edge, and nothing declares it
pub undeclared_without : (r : Resolved) (p c : Id) (k : DepKindInfoModel) → NoDep r p c → (place : ℕ) (d : DependencyModel) → Declares r (edge_between p c k) place d → ⊥
undeclared_without r p c k none place d h = none h.lists.node h.dep h.lists.has_node h.lists.has_dep

-- what declares the edge of an entry is what the entry finds
pub declared_told : (r : Resolved) (x : NodeEntry) (k : DepKindInfoModel) (answer : Option ℕ) → NoneDoubled r.metadata r.graph → IsEntry r x → TellsDeclared x k answer
    → MatchOption answer ((place : ℕ) (d : DependencyModel) → Declares r (edge_for x k) place d → ⊥) (λ place. (d : DependencyModel) × Declares r (edge_for x k) place d)
declared_told r x k None none e told = λ place d h.
    let same = one_dep r (parent_of x) (child_of x) h.lists.node e.node h.dep (node_dep_view x.dep.now) none h.lists.has_node e.has_node h.lists.has_dep e.has_dep in
    let among = subst (λ (m : NodeDepModel). Contains m.dep_kinds k) same h.lists.has_kind in
    let here = subst (λ (ds : List DependencyModel). IsDeclared ds (dependency_entry (child_of x) h.dep) k place d) (e.declares.each h.pkg h.has_package) h.declared in
    told among place d (subst (λ (m : NodeDepModel). IsDeclared (declared_in x) (dependency_entry (child_of x) m) k place d) same here)
declared_told r x k (Some place) none e told =
    let d = told.dependency in
    let p = e.declares.from place d (declared_stands (declared_in x) (entry_of x) k place d told.declared) in (
      d,
      record {
        dep = node_dep_view x.dep.now;
        lists = record { node = e.node; has_node = e.has_node; has_dep = e.has_dep; has_kind = told.among };
        pkg = p.0;
        has_package = p.1;
        declared = subst (λ (ds : List DependencyModel). IsDeclared ds (entry_of x) k place d) (sym (e.declares.each p.0 p.1)) told.declared;
      },
    )

-- ---- open edges

-- ---- roots

abbrev pub ids_in : List (Bor Identity) → List Id
ids_in roots = map (λ (root : Bor Identity). id_of root.now) roots

-- the list has those of the first members that have the property
abbrev pub HasThoseOf : (Id → Type 0) → List Identity → ℕ → List (Bor Identity) → Type 0
HasThoseOf P members n roots = ArePicked P (map id_of (take n members)) (ids_in roots)

picked_last : {A : Type 0} (P : A → Type 0) (xs ys : List A) (x : A) → P x → ArePicked P xs ys → ArePicked P (xs ++ x ∷ []) (ys ++ x ∷ [])
picked_last P xs ys x here nothing = picked here nothing
picked_last P (y ∷ xs) (_ ∷ ys) x here (picked p h) = picked p (picked_last P xs ys x here h)
picked_last P (y ∷ xs) ys x here (passed p h) = passed p (picked_last P xs ys x here h)

passed_last : {A : Type 0} (P : A → Type 0) (xs ys : List A) (x : A) → (P x → ⊥) → ArePicked P xs ys → ArePicked P (xs ++ x ∷ []) ys
passed_last P xs ys x other nothing = passed other nothing
passed_last P (y ∷ xs) (_ ∷ ys) x other (picked p h) = picked p (passed_last P xs ys x other h)
passed_last P (y ∷ xs) ys x other (passed p h) = passed p (passed_last P xs ys x other h)

-- one more member
next_ids : (members : List Identity) (n : ℕ) (m : Identity) → n < length members → m ≡ get_or members n m → map id_of (take (n + 1) members) ≡ map id_of (take n members) ++ id_of m ∷ []
next_ids members n m lt is =
    let more : take (n + 1) members ≡ take n members ++ m ∷ [] = take_more members n m lt ∙ ap (λ x. take n members ++ x ∷ []) (sym is) in
    rw (more, map-append) refl

-- it has the property and is added
pub root_put : (P : Id → Type 0) (members : List Identity) (n : ℕ) (m : Bor Identity) (old new : List (Bor Identity)) → n < length members → m.now ≡ get_or members n m.now → new ≡ old ++ m ∷ [] → P (id_of m.now)
    → HasThoseOf P members n old → HasThoseOf P members (n + 1) new
root_put P members n m old new lt is put here h =
    let grown : ids_in new ≡ ids_in old ++ id_of m.now ∷ [] = rw (put, map-append) refl in
    subst (λ (ids : List Id). ArePicked P ids (ids_in new)) (sym (next_ids members n m.now lt is))
    (subst (λ (ids : List Id). ArePicked P (map id_of (take n members) ++ id_of m.now ∷ []) ids) (sym grown) (picked_last P _ _ (id_of m.now) here h))

-- it doesn't
pub root_passed : (P : Id → Type 0) (members : List Identity) (n : ℕ) (m : Identity) (roots : List (Bor Identity)) → n < length members → m ≡ get_or members n m → (P (id_of m) → ⊥)
    → HasThoseOf P members n roots → HasThoseOf P members (n + 1) roots
root_passed P members n m roots lt is other h = subst (λ (ids : List Id). ArePicked P ids (ids_in roots)) (sym (next_ids members n m lt is)) (passed_last P _ _ (id_of m) other h)

-- exactly those with the property are picked
picked_has : {A : Type 0} (P : A → Type 0) (xs ys : List A) (x : A) → ArePicked P xs ys → Contains ys x → P x
picked_has P xs [] x nothing (k, lt, is) = absurd (omega (arith, lt))
picked_has P (y ∷ xs) (_ ∷ ys) x (picked p h) (zero, lt, is) = subst P is p
picked_has P (y ∷ xs) (_ ∷ ys) x (picked p h) (suc k, lt, is) = picked_has P xs ys x h (k, omega (arith, lt), is)
picked_has P (y ∷ xs) ys x (passed p h) c = picked_has P xs ys x h c

has_picked : {A : Type 0} (P : A → Type 0) (xs ys : List A) (x : A) → ArePicked P xs ys → P x → Contains xs x → Contains ys x
has_picked P [] ys x nothing here (k, lt, is) = absurd (omega (arith, lt))
has_picked P (y ∷ xs) (_ ∷ ys) x (picked p h) here (zero, lt, is) = (0, omega arith, is)
has_picked P (y ∷ xs) (_ ∷ ys) x (picked p h) here (suc k, lt, is) = let c = has_picked P xs ys x h here (k, omega (arith, lt), is) in (suc c.0, omega (arith, c.1), c.2)
has_picked P (y ∷ xs) ys x (passed p h) here (zero, lt, is) = absurd (p (subst P (sym is) here))
has_picked P (y ∷ xs) ys x (passed p h) here (suc k, lt, is) = has_picked P xs ys x h here (k, omega (arith, lt), is)

-- the ids that were read are those of the members
member_ids : (ts : List Text) (members : List Identity) → AllZip Reads ts members → AllZip ReadsAs ts (map id_of members)
member_ids [] [] z = z
member_ids [] (m ∷ ms) z = absurd z
member_ids (t ∷ ts) [] z = absurd z
member_ids (t ∷ ts) (m ∷ ms) z = (record { read = m; reads = z.0; same = refl }, member_ids ts ms z.1)

-- where members are asked for, the members that are roots are all roots
pub roots_told : ReadsOnce → (r : Resolved) (s : SettingModel) (all : Bool) (members : List Identity) (roots : List Id) → AsksFor r s all → AllZip Reads r.metadata.workspace_members members
    → ArePicked (IsRoot r s) (map id_of members) roots → (i : Id) → IsRoot r s i ↔ Contains roots i
roots_told once r s all members roots asks z h i =
    let there : IsRoot r s i → Contains roots i = λ is.
    let m = root_member r s all i asks is in
    let at = place_in r.metadata.workspace_members m.text m.among in
    let y = right_of Reads r.metadata.workspace_members members at.0 m.text z at.1 in
    let same = ap id_of (once m.text y.0 m.id.read y.2 m.id.reads) ∙ m.id.same in
    let among = contains_at (map id_of members) at.0 (id_of y.0) (slice_get-map id_of members at.0 ∙ ap (option_map id_of) y.1) in
    has_picked (IsRoot r s) (map id_of members) roots i h is (subst (Contains (map id_of members)) same among) in
    (there, picked_has (IsRoot r s) (map id_of members) roots i h)

pub members_in_order : (r : Resolved) (s : SettingModel) (members : List Identity) (roots : List Id) → AllZip Reads r.metadata.workspace_members members → ArePicked (IsRoot r s) (map id_of members) roots → AreInOrder r s roots
members_in_order r s members roots z h = of_members (map id_of members) (member_ids r.metadata.workspace_members members z) h

-- a single root is a list of one
one_in : (i j : Id) → Contains (i ∷ []) j → i ≡ j
one_in i j (zero, lt, is) = is
one_in i j (suc k, lt, is) = absurd (omega (arith, lt))

pub one_root_told : (r : Resolved) (s : SettingModel) (root : Id) (roots : List Id) → IsRoot r s root → ((i : Id) → IsRoot r s i → i ≡ root) → roots ≡ root ∷ [] → (i : Id) → IsRoot r s i ↔ Contains roots i
one_root_told r s root roots is only one i =
    (λ h. subst (λ (ids : List Id). Contains ids i) (sym one) (0, omega arith, sym (only i h)), λ c. subst (IsRoot r s) (one_in root i (subst (λ (ids : List Id). Contains ids i) one c)) is)
