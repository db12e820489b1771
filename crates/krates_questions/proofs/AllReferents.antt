-- All that a name means among the dependencies of a node, in the order of ids.
use Rattle.std.proofs.Common.{◌≡◌, ◌↔◌, ℕ, zero, suc, ◌+◌, ◌<◌, ◌≤◌, List, [], ◌∷◌, ◌++◌, length, map, take, get_or, Bool, true, false, ◌&&◌, ◌==◌, IsTrue, IfOk, Result, Ok, Err, None, Some, Contains, option_map, Ordering, Less, Equal, Greater, refl, sym, ap, ◌∙◌, inl, inr, arith, subst, rules, tests}
use Rattle.std.proofs.lemmas.List.{append-nil, append_assoc, map-append, take_all, take_more}
use Rattle.std.proofs.lemmas.List.Elements.{Contains-append_left, Contains-append_right, Contains-push_cases}
use Rattle.std.specs.Cmp.Rules.{comparing}
use Rattle.std.proofs.lemmas.Option.{slice_get-map, slice_get-get_or, same_Some}
use Rattle.std.specs.List.{AllByRecursion, slice_get}
use Rattle.std.specs.List.Sorted.{IsStrictlySortedBy}
use Rattle.std.specs.Ordering.{nat_cmp, on, ordering_then, then_cmp}
use Rattle.krates_cm.specs.Document.{Text, NodeDepModel, node_dep_view}
use Rattle.krates_document.specs.NamedPlaces.{places_in}
use Rattle.krates_document.specs.declared.named_places.NamedPlace.{NamedPlace}
use Rattle.krates_ids.specs.Identity.{Identity, id_cmp, same_id}
use Rattle.krates_rules.specs.Admission.{NoneDoubled}
use Rattle.krates_rules.specs.Facts.{Id}
use Rattle.krates_rules.specs.Referent.{AnswersTo, AreReferents, IsReferent, id_order}
use Rattle.krates_rules.specs.Resolved.{DepAt, HasDep, HasNode, Resolved, id_of}
use Rattle.krates_questions.specs.NodeEntry.{AreParts, krate_of}
use Rattle.krates_questions.specs.declared.node_entry.NodeEntry.{NodeEntry}
use Rattle.krates_questions.specs.declared.node_entry.NodeParts.{NodeParts}
use Rattle.krates_questions.specs.DocumentAnswers.{IsEntryBetween}
use Rattle.krates_questions.specs.ReferentPlace.{AnswersAs, AnswersAt, AnswersBefore, AreReferentsIn, FindsMore, HasAnswering, IsReferentAt, IsReferentIn, referent_id}
use Rattle.krates_questions.specs.declared.referent.Referent.{Referent}
use Rattle.krates_rules.proofs.OnlyOne.{one_dep, place_in}
use Rattle.krates_rules.proofs.Readings.{ReadsOnce}
use Rattle.krates_rules.proofs.Standings.{contains_at}
use Rattle.krates_rules.proofs.DistinctIds.{OrderTellsSame, id_of_same}
use Rattle.krates_rules.proofs.FirstPlaces.{seen_at}
use Rattle.krates_questions.proofs.NodeParts.{dep_of_child}
use Rattle.krates_questions.proofs.DepPlaces.{one_dep_place}
use Rattle.krates_questions.proofs.LeastReferents.{answers_there, named_there}
use Rattle.krates_questions.proofs.OneReferent.{one_referent}

-- ---- none, or one

pub none_meant : (r : Resolved) (all : Bool) (i : Id) (name : Text) → ((c : Id) → IsReferent r all i name c → ⊥) → AreReferents r all i name []
unfolding IsStrictlySortedBy
none_meant r all i name none = record { exactly = λ c. (λ m. absurd (omega (arith, m.1)), λ x. absurd (none c x)); ascending = tt }

only_one : {A : Type 0} (x y : A) (k : ℕ) → slice_get (x ∷ []) k ≡ Some y → x ≡ y
only_one x y zero at = same_Some x y at
only_one x y (suc k) at = absurd cc

pub one_meant : (r : Resolved) (i : Id) (name : Text) (c : Id) → IsReferent r false i name c → AreReferents r false i name (c ∷ [])
unfolding IsStrictlySortedBy
one_meant r i name c x = record {
  exactly = λ d. (
    λ m. (let at = place_in (c ∷ []) d m in subst (IsReferent r false i name) (only_one c d at.0 at.1) x),
    λ y. contains_at (c ∷ []) 0 d (ap (λ z. Some z) (one_referent r i name c d x y)),
  );
  ascending = (tt, tt);
}

pub none_in : (r : Resolved) (parts : NodeParts) (name : Text) → ((c : Id) → IsReferent r false (krate_of parts) name c → ⊥) → AreReferentsIn r false parts name []
none_in r parts name none = record { each = λ x m. absurd (omega (arith, m.1)); are = none_meant r false (krate_of parts) name none }

pub one_in : (r : Resolved) (parts : NodeParts) (name : Text) (x : Referent) → IsReferentAt r parts name x.place → slice_get parts.children.now x.place ≡ Some x.id.now → AreReferentsIn r false parts name (x ∷ [])
one_in r parts name x w at =
    let same : w.child ≡ x.id.now = same_Some w.child x.id.now (sym w.at ∙ at) in
    let is = subst (λ (c : Identity). IsReferent r false (krate_of parts) name (id_of c)) same w.is in
    let here : IsReferentIn r false parts name x = record { at = at; dep = subst (λ (c : Identity). DepAt r (krate_of parts) (id_of c) parts.place.index x.place) same w.dep; is = is } in
    record { each = λ y m. (let w = place_in (x ∷ []) y m in subst (IsReferentIn r false parts name) (only_one x y w.0 w.1) here); are = one_meant r (krate_of parts) name (referent_id x) is }

-- ---- one dependency of a node

-- whether the dependency on the crate answers to the name
pub answering_told : (r : Resolved) (p c : Id) (name : Text) (x : NodeEntry) (b : Bool) → NoneDoubled r.metadata r.graph → IsEntryBetween r p c x → (IsTrue b ↔ AnswersAs r x.child.now x.dep.now name) → IsTrue b ↔ IsReferent r true p name c
answering_told r p c name x b none e told =
    let dep = node_dep_view x.dep.now in
    let has_node = subst (λ (i : Id). HasNode r i e.entry.node) e.parent e.entry.has_node in (
      λ t. record {
        is_named = record {
          node = e.entry.node;
          has_node = has_node;
          dep = dep;
          has_dep = subst (λ (i : Id). HasDep e.entry.node i dep) e.child e.entry.has_dep;
          answers = subst (λ (i : Id). AnswersTo r i dep name) e.child (told.0 t);
        };
        least = λ off. absurd cc;
      },
      λ is. told.1 (
          let n = is.is_named in
          let same = one_dep r p c n.node e.entry.node n.dep dep none n.has_node has_node n.has_dep (subst (λ (i : Id). HasDep e.entry.node i dep) e.child e.entry.has_dep) in
          subst (λ (i : Id). AnswersTo r i dep name) (sym e.child) (subst (λ (d : NodeDepModel). AnswersTo r c d name) same n.answers)),
    )

-- ---- the places in the order in which the code goes over them

more_gone : (some : List ℕ) (xs : List NamedPlace) (i : ℕ) (d : NamedPlace) → i < length xs → some ++ places_in (take (i + 1) xs) ≡ (some ++ places_in (take i xs)) ++ (get_or xs i d).place ∷ []
more_gone some xs i d lt = ap (λ ks. some ++ ks) (ap places_in (take_more xs i d lt) ∙ rw map-append refl) ∙ sym (append_assoc some (places_in (take i xs)) ((get_or xs i d).place ∷ []))

pub none_found : (r : Resolved) (parts : NodeParts) (name : Text) → HasAnswering r parts name [] []
none_found r parts name = record { each = λ x among. absurd (omega (arith, among.1)); whole = λ j c among. absurd (omega (arith, among.1)) }

-- one more dependency answers
found_put : (r : Resolved) (parts : NodeParts) (name : Text) (done : List ℕ) (items : List Referent) (x : Referent) → AnswersAt r parts name x.place x.id.now → HasAnswering r parts name done items
    → HasAnswering r parts name (done ++ x.place ∷ []) (items ++ x ∷ [])
found_put r parts name done items x answers h = record {
  each = λ y among. elim (Contains-push_cases items x y among) [
    | inl old ↦ h.each y old
    | inr same ↦ subst (λ z. AnswersAt r parts name z.place z.id.now) same answers
  ];
  whole = λ j c among b. elim (Contains-push_cases done x.place j among) [
    | inl old ↦ (let w = h.whole j c old b in (w.0, Contains-append_left items (x ∷ []) w.0 w.1, w.2))
    | inr same ↦ (x, Contains-append_right items (x ∷ []) x (contains_at (x ∷ []) 0 x refl), same)
  ];
}

-- one more dependency doesn't answer
found_stays : (r : Resolved) (parts : NodeParts) (name : Text) (done : List ℕ) (items : List Referent) (j : ℕ) → ((c : Identity) → AnswersAt r parts name j c → ⊥) → HasAnswering r parts name done items
    → HasAnswering r parts name (done ++ j ∷ []) items
found_stays r parts name done items j none h = record {
  each = h.each;
  whole = λ k c among b. elim (Contains-push_cases done j k among) [
    | inl old ↦ h.whole k c old b
    | inr same ↦ absurd (none c (subst (λ n. AnswersAt r parts name n c) (sym same) b))
  ];
}

-- the places so far have been gone over
abbrev pub HasGone : Resolved → NodeParts → Text → List NamedPlace → ℕ → List Referent → List Referent → Type 0
HasGone r parts name places i old new = FindsMore r parts name (places_in (take i places)) old new

pub none_gone : (r : Resolved) (parts : NodeParts) (name : Text) (places : List NamedPlace) (xs : List Referent) → HasGone r parts name places 0 xs xs
none_gone r parts name places xs some h = subst (λ (ks : List ℕ). HasAnswering r parts name ks xs) (sym (append-nil some)) h

pub gone_put : (r : Resolved) (parts : NodeParts) (name : Text) (places : List NamedPlace) (i : ℕ) (d : NamedPlace) (old items : List Referent) (x : Referent) (b : Bool) → i < length places
    → (IsTrue b ↔ AnswersBefore r parts name (get_or places i d).place None) → b ≡ true → x.place ≡ (get_or places i d).place → slice_get parts.children.now x.place ≡ Some x.id.now
    → HasGone r parts name places i old items → HasGone r parts name places (i + 1) old (items ++ x ∷ [])
gone_put r parts name places i d old items x b lt told is place at h some start =
    let w = told.0 is in
    let here = subst (λ n. AnswersAt r parts name n w.0) (sym place) w.1 in
    let same : w.0 ≡ x.id.now = same_Some w.0 x.id.now (sym here.at ∙ at) in
    let answers = subst (λ c. AnswersAt r parts name x.place c) same here in
    let more = found_put r parts name (some ++ places_in (take i places)) items x answers (h some start) in
    subst (λ (ks : List ℕ). HasAnswering r parts name ks (items ++ x ∷ [])) (sym (more_gone some places i d lt)) (subst (λ n. HasAnswering r parts name ((some ++ places_in (take i places)) ++ n ∷ []) (items ++ x ∷ [])) place more)

pub gone_by : (r : Resolved) (parts : NodeParts) (name : Text) (places : List NamedPlace) (i : ℕ) (d : NamedPlace) (old items : List Referent) (b : Bool) → i < length places
    → (IsTrue b ↔ AnswersBefore r parts name (get_or places i d).place None) → b ≡ false → HasGone r parts name places i old items → HasGone r parts name places (i + 1) old items
gone_by r parts name places i d old items b lt told is h some start =
    let none : (c : Identity) → AnswersAt r parts name (get_or places i d).place c → ⊥ = λ c a. absurd (cc (told.1 (c, a, tt), is)) in
    subst (λ (ks : List ℕ). HasAnswering r parts name ks items) (sym (more_gone some places i d lt)) (found_stays r parts name (some ++ places_in (take i places)) items (get_or places i d).place none (h some start))

pub all_gone : (r : Resolved) (parts : NodeParts) (name : Text) (places : List NamedPlace) (i : ℕ) (old items : List Referent) → length places ≤ i → HasGone r parts name places i old items → FindsMore r parts name (places_in places) old items
all_gone r parts name places i old items le h = subst (λ (ys : List NamedPlace). FindsMore r parts name (places_in ys) old items) (take_all i places le) h

-- ---- in order

-- by id, and then by place
abbrev pub referent_cmp : Referent → Referent → Ordering
referent_cmp = then_cmp (on (λ x. x.id.now) id_cmp) (on (λ x. x.place) nat_cmp)

less_first : (a b : Ordering) → (a ≡ Equal → b ≡ Less → ⊥) → ordering_then a b ≡ Less → a ≡ Less
less_first Less b none h = refl
less_first Equal b none h = absurd (none refl h)
less_first Greater b none h = absurd cc

-- those with the same id are at different places
abbrev HaveOwnPlaces : List Referent → Type 0
HaveOwnPlaces xs = (j k : ℕ) (x y : Referent) → slice_get xs j ≡ Some x → slice_get xs k ≡ Some y → id_cmp x.id.now y.id.now ≡ Equal → x.place ≡ y.place

not_below : (n m : ℕ) → n ≡ m → nat_cmp n m ≡ Less → ⊥
not_below n m e less = absurd (cc (subst (λ k. nat_cmp n k ≡ Less) (sym e) less, nat_cmp_same n))
  where
    nat_cmp_same : (n : ℕ) → nat_cmp n n ≡ Equal
    nat_cmp_same n = search (comparing, rules)

below_each : (x : Referent) (xs : List Referent) → ((k : ℕ) (y : Referent) → slice_get xs k ≡ Some y → id_cmp x.id.now y.id.now ≡ Equal → x.place ≡ y.place) → AllByRecursion (λ y. referent_cmp x y ≡ Less) xs
    → AllByRecursion (λ i. id_order (referent_id x) i ≡ Less) (map referent_id xs)
below_each x [] own h = tt
below_each x (y ∷ ys) own h =
    (less_first (id_cmp x.id.now y.id.now) (nat_cmp x.place y.place) (λ e l. not_below x.place y.place (own 0 y refl e) l) h.0, below_each x ys (λ k z at. own (suc k) z at) h.1)

ids_ascend : (xs : List Referent) → HaveOwnPlaces xs → IsStrictlySortedBy referent_cmp xs → IsStrictlySortedBy id_order (map referent_id xs)
unfolding IsStrictlySortedBy
ids_ascend [] own h = tt
ids_ascend (x ∷ xs) own h = (below_each x xs (λ k y at. own 0 (suc k) x y refl at) h.0, ids_ascend xs (λ j k y z a b. own (suc j) (suc k) y z a b) h.1)

-- ---- all of them

-- a dependency that answers is meant
meant_here : (r : Resolved) (parts : NodeParts) (name : Text) (x : Referent) → AreParts r parts.place.index parts → AnswersAt r parts name x.place x.id.now → IsReferentIn r true parts name x
meant_here r parts name x p a = record {
  at = a.at;
  dep = dep_of_child r parts.place.index parts x.place x.id.now p a.at;
  is = record { is_named = named_there r parts name x.place x.id.now p a; least = λ off. absurd cc };
}

-- the sorted list has exactly what was found
pub record SortsOut (found sorted : List Referent) : Type 0 where
  pub ascending : IsStrictlySortedBy referent_cmp sorted
  pub from : (x : Referent) → Contains sorted x → Contains found x
  pub kept : (x : Referent) → Contains found x → (y : Referent) × Contains sorted y × (x.place ≡ y.place)

-- referents that compare as equal are at one place
pub same_place : (x y : Referent) → (same_id x.id.now y.id.now && (x.place == y.place)) ≡ true → x.place ≡ y.place
same_place x y told = search (rules, tests)

-- what follows from three clauses of a call that succeeded
pub if_ok_three : {T E : Type 0} {P Q R S : T → Type 0} (result : Result T E) → ((x : T) → P x → Q x → R x → S x) → IfOk result P → IfOk result Q → IfOk result R → IfOk result S
if_ok_three (Ok x) f p q r = f x p q r
if_ok_three (Err e) f p q r = tt

pub sorted_in : ReadsOnce → OrderTellsSame → (r : Resolved) (parts : NodeParts) (name : Text) (places : List ℕ) (found sorted : List Referent) → NoneDoubled r.metadata r.graph → AreParts r parts.place.index parts
    → ((k : ℕ) (c : Identity) → AnswersAt r parts name k c → Contains places k) → HasAnswering r parts name places found → SortsOut found sorted → AreReferentsIn r true parts name sorted
sorted_in once tells r parts name places found sorted none p among h s = record { each = each; are = record { exactly = λ c. (meant c, there c); ascending = ids_ascend sorted own s.ascending } }
  where
    each : (x : Referent) → Contains sorted x → IsReferentIn r true parts name x
    each x m = meant_here r parts name x p (h.each x (s.from x m))

    meant : (c : Id) → Contains (map referent_id sorted) c → IsReferent r true (krate_of parts) name c
    meant c m =
        let at = place_in (map referent_id sorted) c m in
        let w = seen_at referent_id sorted at.0 c at.1 in
        let x = get_or sorted at.0 w.0 in
        subst (IsReferent r true (krate_of parts) name) w.2 (each x (contains_at sorted at.0 x (slice_get-get_or sorted at.0 w.0 w.1))).is

    there : (c : Id) → IsReferent r true (krate_of parts) name c → Contains (map referent_id sorted) c
    there c is =
        let o = answers_there once r parts name c none p is.is_named in
        let x = h.whole o.0 o.1 (among o.0 o.1 o.3) o.3 in
        let y = s.kept x.0 x.1 in
        let b = h.each y.0 (s.from y.0 y.1) in
        let same : y.0.id.now ≡ o.1 = same_Some y.0.id.now o.1 (sym b.at ∙ ap (λ k. slice_get parts.children.now k) (sym y.2 ∙ x.2) ∙ o.3.at) in
        let at = place_in sorted y.0 y.1 in
        contains_at (map referent_id sorted) at.0 c (slice_get-map referent_id sorted at.0 ∙ ap (option_map referent_id) at.1 ∙ ap (λ i. Some (id_of i)) same ∙ ap (λ i. Some i) o.4)

    own : HaveOwnPlaces sorted
    own j k x y a b e =
        let m = each x (contains_at sorted j x a) in
        let n = each y (contains_at sorted k y b) in
        let same : id_of x.id.now ≡ id_of y.id.now = id_of_same x.id.now y.id.now ((tells x.id.now y.id.now).0 e) in
        (one_dep_place r (krate_of parts) (id_of y.id.now) parts.place.index x.place parts.place.index y.place none (subst (λ i. DepAt r (krate_of parts) i parts.place.index x.place) same m.dep) n.dep).1
