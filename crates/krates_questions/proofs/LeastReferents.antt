-- The least, by id, of the dependencies of a node that answer to a name.
use Rattle.std.proofs.Common.{◌≡◌, ◌≢◌, ◌↔◌, ℕ, ◌+◌, ◌<◌, ◌≤◌, List, [], ◌∷◌, ◌++◌, length, map, take, get_or, Bool, true, false, IsTrue, IfSome, Option, Some, None, Contains, MatchOption, option_map, Ordering, Less, Equal, Greater, refl, sym, ap, ◌∙◌, inl, inr, arith, subst}
use Rattle.std.proofs.lemmas.List.{append-nil, append_assoc, map-append, take_all, take_more}
use Rattle.std.proofs.lemmas.List.Elements.{Contains-append_left, Contains-append_right, Contains-push_cases}
use Rattle.std.proofs.lemmas.Option.{slice_get-map, slice_get_within, same_Some}
use Rattle.std.specs.Cmp.{IsTotalOrder}
use Rattle.std.specs.List.{slice_get}
use Rattle.std.specs.Ordering.{ordering_reverse}
use Rattle.krates_cm.specs.Document.{Text, NodeModel, NodeDepModel, node_dep_view}
use Rattle.krates_document.specs.NamedPlaces.{StandsUnder, no_target, places_in}
use Rattle.krates_document.specs.declared.named_places.NamedPlace.{NamedPlace}
use Rattle.krates_ids.specs.Identity.{Identity, Reads, id_cmp}
use Rattle.krates_rules.specs.Admission.{NoneDoubled, AreDepIds, dep_texts}
use Rattle.krates_rules.specs.Facts.{Id}
use Rattle.krates_questions.specs.NameIndex.{AreDepsOf}
use Rattle.krates_questions.specs.NodeEntry.{AreParts}
use Rattle.krates_rules.specs.Referent.{AnswersTo, AnswersIn, IsReferent, by_library, by_name, id_order}
use Rattle.krates_questions.specs.ReferentPlace.{AnswersAt, AnswersBefore, GoesOn, IsBefore, IsLeastOf, IsReferentAt}
use Rattle.krates_rules.specs.Resolved.{Resolved, HasDep, id_of}
use Rattle.krates_questions.specs.declared.node_entry.NodeParts.{NodeParts}
use Rattle.krates_rules.proofs.Readings.{ReadsOnce, right_of}
use Rattle.krates_rules.proofs.DistinctIds.{OrderTellsSame, same_of}
use Rattle.krates_document.proofs.LeastFitting.{same_folded, under_other}
use Rattle.krates_questions.proofs.NodeParts.{has_dep_here}
use Rattle.krates_questions.proofs.RenamedPlaces.{FindsRenamed}
use Rattle.krates_rules.proofs.OnlyOne.{place_in, one_node}

-- ---- the least so far

-- what is below something is not above what that is not above
not_above : IsTotalOrder id_cmp → (x y z : Identity) → id_cmp x y ≡ Less → (o : Ordering) → id_cmp y z ≡ o → o ≢ Greater → id_cmp x z ≢ Greater
not_above total x y z less Less e n = λ g. absurd (cc (total.trans x y z less e, g))
not_above total x y z less Equal e n = λ g.
    let same : id_cmp x z ≡ id_cmp x y = total.antisymm x z ∙ ap ordering_reverse (sym (total.congr y z x e)) ∙ sym (total.antisymm x y) in
    absurd (cc (same, less, g))
not_above total x y z less Greater e n = absurd (n refl)

not_above_itself : OrderTellsSame → (x y : Identity) → x ≡ y → id_cmp x y ≢ Greater
not_above_itself tells x y is g =
    let equal : id_cmp x y ≡ Equal = (tells x y).1 (same_of x y (ap id_of is)) in
    absurd (cc (equal, g))

not_above_back : IsTotalOrder id_cmp → (x y : Identity) → (id_cmp y x ≡ Less → ⊥) → id_cmp x y ≢ Greater
not_above_back total x y other g = other (total.antisymm y x ∙ ap ordering_reverse g)

-- one more answers, and comes before the least
pub least_put : IsTotalOrder id_cmp → OrderTellsSame → (r : Resolved) (parts : NodeParts) (name : Text) (done : List ℕ) (i : ℕ) (c : Identity) (old : Option ℕ) → AnswersAt r parts name i c → IsBefore parts.children.now c old
    → IsLeastOf r parts name done old → IsLeastOf r parts name (done ++ i ∷ []) (Some i)
least_put total tells r parts name done i c None a before none = record {
  child = c;
  answers = a;
  least = λ j d among b. elim (Contains-push_cases done i j among) [
    | inl old ↦ absurd (none j d old b)
    | inr same ↦ not_above_itself tells c d (same_Some c d (sym a.at ∙ ap (λ k. slice_get parts.children.now k) same ∙ b.at))
  ];
}
least_put total tells r parts name done i c (Some p) a (there, at, less) w = record {
  child = c;
  answers = a;
  least = λ j d among b. elim (Contains-push_cases done i j among) [
    | inl old ↦ (
        let is : w.child ≡ there = same_Some w.child there (sym w.answers.at ∙ at) in
        not_above total c w.child d (ap (id_cmp c) is ∙ less) (id_cmp w.child d) refl (w.least j d old b))
    | inr same ↦ not_above_itself tells c d (same_Some c d (sym a.at ∙ ap (λ k. slice_get parts.children.now k) same ∙ b.at))
  ];
}

-- one more doesn't answer, or doesn't come before the least
pub least_stays : IsTotalOrder id_cmp → (r : Resolved) (parts : NodeParts) (name : Text) (done : List ℕ) (i : ℕ) (old : Option ℕ) → (AnswersBefore r parts name i old → ⊥) → IsLeastOf r parts name done old
    → IsLeastOf r parts name (done ++ i ∷ []) old
least_stays total r parts name done i None other none = λ j d among b. elim (Contains-push_cases done i j among) [
  | inl old ↦ none j d old b
  | inr same ↦ other (d, subst (λ k. AnswersAt r parts name k d) (sym same) b, tt)
]
least_stays total r parts name done i (Some p) other w = record {
  child = w.child;
  answers = w.answers;
  least = λ j d among b. elim (Contains-push_cases done i j among) [
    | inl old ↦ w.least j d old b
    | inr same ↦ not_above_back total w.child d (λ less. other (d, subst (λ k. AnswersAt r parts name k d) (sym same) b, (w.child, w.answers.at, less)))
  ];
}

-- the place of the least is one of a dependency
pub least_within : (r : Resolved) (parts : NodeParts) (name : Text) (done : List ℕ) (least : Option ℕ) → IsLeastOf r parts name done least → IfSome least (λ at. at < length parts.children.now)
least_within r parts name done None none = tt
least_within r parts name done (Some p) w = slice_get_within parts.children.now p w.child w.answers.at

pub none_of_none : (r : Resolved) (parts : NodeParts) (name : Text) → IsLeastOf r parts name [] None
none_of_none r parts name j d among b = absurd (omega (arith, among.1))

-- ---- as the code goes over them

-- some, and the places so far
abbrev pub GoneOver : Resolved → NodeParts → Text → List NamedPlace → ℕ → Option ℕ → Option ℕ → Type 0
GoneOver r parts name places i before least = IfSome least (λ at. at < length parts.children.now) × GoesOn r parts name (places_in (take i places)) before least

more_gone : (some : List ℕ) (xs : List NamedPlace) (i : ℕ) (d : NamedPlace) → i < length xs → some ++ places_in (take (i + 1) xs) ≡ (some ++ places_in (take i xs)) ++ (get_or xs i d).place ∷ []
more_gone some xs i d lt = ap (λ ks. some ++ ks) (ap places_in (take_more xs i d lt) ∙ rw map-append refl) ∙ sym (append_assoc some (places_in (take i xs)) ((get_or xs i d).place ∷ []))

pub gone_none : (r : Resolved) (parts : NodeParts) (name : Text) (places : List NamedPlace) (before : Option ℕ) → IfSome before (λ at. at < length parts.children.now) → GoneOver r parts name places 0 before before
gone_none r parts name places before within = (within, λ some h. subst (λ (ks : List ℕ). IsLeastOf r parts name ks before) (sym (append-nil some)) h)

pub gone_put : IsTotalOrder id_cmp → OrderTellsSame → (r : Resolved) (parts : NodeParts) (name : Text) (xs : List NamedPlace) (i : ℕ) (d : NamedPlace) (before least : Option ℕ) (b : Bool) → i < length xs
    → (IsTrue b ↔ AnswersBefore r parts name (get_or xs i d).place least) → b ≡ true → GoneOver r parts name xs i before least → GoneOver r parts name xs (i + 1) before (Some (get_or xs i d).place)
gone_put total tells r parts name xs i d before least b lt told is h =
    let w = told.0 is in (
      slice_get_within parts.children.now (get_or xs i d).place w.0 w.1.at,
      λ some start. subst (λ (ks : List ℕ). IsLeastOf r parts name ks (Some (get_or xs i d).place)) (sym (more_gone some xs i d lt))
          (least_put total tells r parts name (some ++ places_in (take i xs)) (get_or xs i d).place w.0 least w.1 w.2 (h.1 some start)),
    )

pub gone_by : IsTotalOrder id_cmp → (r : Resolved) (parts : NodeParts) (name : Text) (xs : List NamedPlace) (i : ℕ) (d : NamedPlace) (before least : Option ℕ) (b : Bool) → i < length xs
    → (IsTrue b ↔ AnswersBefore r parts name (get_or xs i d).place least) → b ≡ false → GoneOver r parts name xs i before least → GoneOver r parts name xs (i + 1) before least
gone_by total r parts name xs i d before least b lt told is h = (
  h.0,
  λ some start. subst (λ (ks : List ℕ). IsLeastOf r parts name ks least) (sym (more_gone some xs i d lt))
      (least_stays total r parts name (some ++ places_in (take i xs)) (get_or xs i d).place least (λ w. absurd (cc (told.1 w, is))) (h.1 some start)),
)

pub all_gone : (r : Resolved) (parts : NodeParts) (name : Text) (xs : List NamedPlace) (i : ℕ) (before least : Option ℕ) → length xs ≤ i → GoneOver r parts name xs i before least → GoesOn r parts name (places_in xs) before least
all_gone r parts name xs i before least le h = subst (λ (ys : List NamedPlace). GoesOn r parts name (places_in ys) before least) (take_all i xs le) h.1

-- ---- one dependency, as the code looks at it

pub answers_here : (r : Resolved) (parts : NodeParts) (name : Text) (i : ℕ) (c : Identity) (d : NodeDepModel) (least : Option ℕ) (a b : Bool) → slice_get parts.children.now i ≡ Some c → slice_get (map node_dep_view parts.deps.now) i ≡ Some d
    → (IsTrue a ↔ AnswersTo r (id_of c) d name) → (IsTrue b ↔ IsBefore parts.children.now c least) → a ≡ true → IsTrue b ↔ AnswersBefore r parts name i least
answers_here r parts name i c d least a b at here answers before is = (
  λ t. (c, record { at = at; dep = d; here = here; answers = answers.0 is }, before.0 t),
  λ w. before.1 (subst (λ (x : Identity). IsBefore parts.children.now x least) (same_Some w.0 c (sym w.1.at ∙ at)) w.2),
)

pub not_here : (r : Resolved) (parts : NodeParts) (name : Text) (i : ℕ) (c : Identity) (d : NodeDepModel) (least : Option ℕ) (a : Bool) → slice_get parts.children.now i ≡ Some c → slice_get (map node_dep_view parts.deps.now) i ≡ Some d
    → (IsTrue a ↔ AnswersTo r (id_of c) d name) → a ≡ false → AnswersBefore r parts name i least → ⊥
not_here r parts name i c d least a at here answers is (e, w, before) =
    let child : e ≡ c = same_Some e c (sym w.at ∙ at) in
    let dep : w.dep ≡ d = same_Some w.dep d (sym w.here ∙ here) in
    let yes_it_does = answers.1 (subst (λ x. AnswersTo r (id_of x) d name) child (subst (λ x. AnswersTo r (id_of e) x name) dep w.answers)) in
    absurd (cc (yes_it_does, is))

pub past_here : (r : Resolved) (parts : NodeParts) (name : Text) (i : ℕ) (least : Option ℕ) → length parts.children.now ≤ i → AnswersBefore r parts name i least → ⊥
past_here r parts name i least past (e, w, before) = let lt = slice_get_within parts.children.now i e w.at in omega (arith, lt, past)

-- ---- what the name means

pub has_dep_at : (r : Resolved) (parts : NodeParts) (name : Text) (k : ℕ) (c : Identity) → (p : AreParts r parts.place.index parts) → (a : AnswersAt r parts name k c) → (slice_get p.at.node.deps k ≡ Some a.dep) × HasDep p.at.node (id_of c) a.dep
has_dep_at r parts name k c p a =
    let here : slice_get p.at.node.deps k ≡ Some a.dep = ap (λ ds. slice_get ds k) p.deps ∙ a.here in
    (here, has_dep_here p.at.node parts.children.now k a.dep c p.children here a.at)

-- what answers is named
pub named_there : (r : Resolved) (parts : NodeParts) (name : Text) (k : ℕ) (c : Identity) → AreParts r parts.place.index parts → AnswersAt r parts name k c → AnswersIn r (id_of parts.parent.now) name (id_of c)
named_there r parts name k c p a = record { node = p.at.node; has_node = p.has_node; dep = a.dep; has_dep = (has_dep_at r parts name k c p a).1; answers = a.answers }

-- and what is named answers at some place
pub answers_there : ReadsOnce → (r : Resolved) (parts : NodeParts) (name : Text) (child : Id) → NoneDoubled r.metadata r.graph → AreParts r parts.place.index parts → AnswersIn r (id_of parts.parent.now) name child
    → (k : ℕ) × (c : Identity) × (k < length parts.children.now) × AnswersAt r parts name k c × (id_of c ≡ child)
answers_there once r parts name child none p n =
    let same = one_node r (id_of parts.parent.now) n.node p.at.node none n.has_node p.has_node in
    let d = subst (λ (m : NodeModel). HasDep m child n.dep) same n.has_dep in
    let at = place_in p.at.node.deps n.dep d.among in
    let pkg : NodeDepModel → Text = λ e. e.pkg in
    let text : slice_get (dep_texts p.at.node) at.0 ≡ Some n.dep.pkg = slice_get-map pkg p.at.node.deps at.0 ∙ ap (option_map pkg) at.1 in
    let y = right_of Reads (dep_texts p.at.node) parts.children.now at.0 n.dep.pkg p.children text in
    let is : id_of y.0 ≡ child = ap id_of (once n.dep.pkg y.0 d.id.read y.2 d.id.reads) ∙ d.id.same in
    let here : slice_get (map node_dep_view parts.deps.now) at.0 ≡ Some n.dep = ap (λ ds. slice_get ds at.0) (sym p.deps) ∙ at.1 in (
      at.0,
      y.0,
      slice_get_within parts.children.now at.0 y.0 y.1,
      record { at = y.1; dep = n.dep; here = here; answers = subst (λ i. AnswersTo r i n.dep name) (sym is) n.answers },
      is,
    )

-- ---- those that are found by name

-- two readings of the same texts have the same ids
same_kid : ReadsOnce → (n : NodeModel) (kids others : List Identity) (k : ℕ) (d : NodeDepModel) (c : Identity) → AreDepIds n kids → AreDepIds n others → slice_get n.deps k ≡ Some d → slice_get others k ≡ Some c → slice_get kids k ≡ Some c
same_kid once n kids others k d c these those at there =
    let pkg : NodeDepModel → Text = λ e. e.pkg in
    let text : slice_get (dep_texts n) k ≡ Some d.pkg = slice_get-map pkg n.deps k ∙ ap (option_map pkg) at in
    let one = right_of Reads (dep_texts n) kids k d.pkg these text in
    let other = right_of Reads (dep_texts n) others k d.pkg those text in
    let is : one.0 ≡ c = once d.pkg one.0 other.0 one.2 other.2 ∙ same_Some other.0 c (sym other.1 ∙ there) in
    one.1 ∙ ap (λ x. Some x) is

-- what is looked at of a node: the places that are found by name
pub record AreLookedAt (name : Text) (all : List NamedPlace) (these : List ℕ) : Type 0 where
  pub each : (k : ℕ) → StandsUnder all name no_target k → Contains these k

by_either : (r : Resolved) (parts : NodeParts) (name : Text) (n : NodeModel) (kids : List Identity) (own children : List NamedPlace) (these those : List ℕ) (k : ℕ) (c : Identity) (d : NodeDepModel) → AreDepsOf n own → FindsRenamed r n kids children
    → AreLookedAt name own these → AreLookedAt name children those → slice_get n.deps k ≡ Some d → slice_get kids k ≡ Some c → AnswersTo r (id_of c) d name → Contains (these ++ those) k
by_either r parts name n kids own children these those k c d a b seen shown at there (by_name same) =
    Contains-append_left these those k (seen.each k (under_other own d.name name no_target no_target k (sym (same_folded d.name name same)) refl (a.each k d at)))
by_either r parts name n kids own children these those k c d a b seen shown at there (by_library {p} e h l) =
    Contains-append_right these those k (shown.each k (subst (λ (t : Text). StandsUnder children t no_target k) (sym e) (b.each k c d p there at h l)))

-- each dependency that answers is among them
pub answers_among : ReadsOnce → (r : Resolved) (parts : NodeParts) (name : Text) (kids : List Identity) (own children : List NamedPlace) (these those : List ℕ) (k : ℕ) (c : Identity) → (p : AreParts r parts.place.index parts) → AreDepIds p.at.node kids
    → AreDepsOf p.at.node own → FindsRenamed r p.at.node kids children → AreLookedAt name own these → AreLookedAt name children those → AnswersAt r parts name k c → Contains (these ++ those) k
answers_among once r parts name kids own children these those k c p read a b seen shown w =
    let at = (has_dep_at r parts name k c p w).0 in
    by_either r parts name p.at.node kids own children these those k c w.dep a b seen shown at (same_kid once p.at.node kids parts.children.now k w.dep c read p.children at w.at) w.answers

-- all have been gone over
pub referent_told : ReadsOnce → (r : Resolved) (parts : NodeParts) (name : Text) (kids : List Identity) (own children : List NamedPlace) (these those : List ℕ) (least : Option ℕ) → NoneDoubled r.metadata r.graph
    → (p : AreParts r parts.place.index parts) → AreDepIds p.at.node kids → AreDepsOf p.at.node own → FindsRenamed r p.at.node kids children → AreLookedAt name own these → AreLookedAt name children those → IsLeastOf r parts name (these ++ those) least
    → MatchOption least ((child : Id) → IsReferent r false (id_of parts.parent.now) name child → ⊥) (IsReferentAt r parts name)
referent_told once r parts name kids own children these those None doubled p read a b seen shown none = λ child referent.
    let w = answers_there once r parts name child doubled p referent.is_named in
    none w.0 w.1 (answers_among once r parts name kids own children these those w.0 w.1 p read a b seen shown w.3) w.3
referent_told once r parts name kids own children these those (Some k) doubled p read a b seen shown w =
    let has = has_dep_at r parts name k w.child p w.answers in
    record {
      child = w.child;
      at = w.answers.at;
      dep = record { node = p.at; dep = w.answers.dep; at = has.0; id = has.1.id };
      is = record {
        is_named = named_there r parts name k w.child p w.answers;
        least = λ off other named.
            let o = answers_there once r parts name other doubled p named in
            subst (λ x. id_order (id_of w.child) x ≢ Greater) o.4 (w.least o.0 o.1 (answers_among once r parts name kids own children these those o.0 o.1 p read a b seen shown o.3) o.3);
      };
    }
