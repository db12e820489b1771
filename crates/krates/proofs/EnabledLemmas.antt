-- Putting enabled features into sets, one set for each crate.
use Rattle.std.proofs.Common.{◌≡◌, ◌↔◌, ◌⊎◌, ℕ, zero, suc, ◌<◌, List, [], ◌∷◌, ◌++◌, length, get_or, map, All, Some, slice_get, slice_set, Contains, refl, sym, ap, ◌∙◌, subst, inl, inr, arith}
use Rattle.std.proofs.IntoIterSteps.{takes}
use Rattle.std.proofs.lemmas.List.{get_or-map, length-map, map-append, map-set}
use Rattle.std.proofs.lemmas.Option.{none-some, same_Some}
use Rattle.std.specs.BTreeSet.{BTreeSet, keys}
use Rattle.std.specs.Iterator.{Yields}
use Rattle.std.specs.Prelude.{String}
use Rattle.std.specs.declared.alloc.Global.{Global}
use Rattle.std.specs.declared.vec.IntoIter.{IntoIter}
use Rattle.krates_cm.specs.Document.{Text, text_view}
use Rattle.krates_ids.specs.Identity.{Identity}
use Rattle.krates_rules.specs.Facts.{Id}
use Rattle.krates_rules.specs.Resolved.{id_of, StandsAt}
use Rattle.krates_selection.specs.declared.selection.EnabledFeature.{EnabledFeature}
use Rattle.krates.specs.Enabled.{AreEnabledSets, IsPut, numbered}
use Rattle.krates_queries.specs.Kept.{IsNameAt, names_in_each}
use Rattle.krates_drawing.specs.Node.{names_in}
use Rattle.krates_rules.proofs.Members.{Member, member_of, contains_of, member_append, member_left, member_right}
use Rattle.krates.proofs.NamesIn.{GetsName}

-- ---- places of ids

pub stands_at_some : (ids : List Identity) (i : Id) → Member (map id_of ids) i → (n : ℕ) × StandsAt ids i n
stands_at_some [] i m = absurd m
stands_at_some (x ∷ ids) i (inl e) = (zero, record { there = x; at = refl; same = e })
stands_at_some (x ∷ ids) i (inr m) = let w = stands_at_some ids i m in (suc w.0, record { there = w.1.there; at = w.1.at; same = w.1.same })

pub listed_at : (ids : List Identity) (n : ℕ) (x : Identity) → slice_get ids n ≡ Some x → Member (map id_of ids) (id_of x)
listed_at [] n x at = absurd cc
listed_at (y ∷ ids) zero x at = let first : y ≡ x = cc in inl (ap id_of first)
listed_at (y ∷ ids) (suc n) x at = inr (listed_at ids n x at)

-- ---- by recursion on the lists

-- the name is among those at the place
abbrev NameAt : List (List Text) → ℕ → Text → Type 0
NameAt [] n f = ⊥
NameAt (l ∷ ls) zero f = Member l f
NameAt (l ∷ ls) (suc n) f = NameAt ls n f

name_of : (ls : List (List Text)) (n : ℕ) (f : Text) → IsNameAt ls n f → NameAt ls n f
name_of [] n f h = absurd (none-some h.names h.at)
name_of (l ∷ ls) zero f h = subst (λ (z : List Text). Member z f) (sym (same_Some l h.names h.at)) (member_of h.names f h.among)
name_of (l ∷ ls) (suc n) f h = name_of ls n f (record { names = h.names; at = h.at; among = h.among })

name_at : (ls : List (List Text)) (n : ℕ) (f : Text) → NameAt ls n f → IsNameAt ls n f
name_at [] n f m = absurd m
name_at (l ∷ ls) zero f m = record { names = l; at = refl; among = contains_of l f m }
name_at (l ∷ ls) (suc n) f m = let w = name_at ls n f m in record { names = w.names; at = w.at; among = w.among }

-- ---- one set is replaced

-- what is at a place after one list is replaced, from what was there before
set_names : (ls : List (List Text)) (k : ℕ) (l : List Text) (name : Text) → k < length ls → ((d : List Text) (f : Text) → Member l f ↔ (Member (get_or ls k d) f ⊎ (name ≡ f)))
    → (n : ℕ) (f : Text) → NameAt (slice_set ls k l) n f ↔ (NameAt ls n f ⊎ ((k ≡ n) × (name ≡ f)))
set_names [] k l name lt gets n f = absurd (omega (arith, lt))
set_names (x ∷ ls) zero l name lt gets zero f = (
  λ m. elim ((gets x f).0 m) [ inl had ↦ inl had | inr new ↦ inr (refl, new) ],
  λ either. (gets x f).1 (elim either [ inl had ↦ inl had | inr new ↦ inr new.1 ]),
)
set_names (x ∷ ls) zero l name lt gets (suc n) f = (λ m. inl m, λ either. elim either [ inl had ↦ had | inr new ↦ absurd (let e = new.0 in omega (arith, e)) ])
set_names (x ∷ ls) (suc k) l name lt gets zero f = (λ m. inl m, λ either. elim either [ inl had ↦ had | inr new ↦ absurd (let e = new.0 in omega (arith, e)) ])
set_names (x ∷ ls) (suc k) l name lt gets (suc n) f =
    let w = set_names ls k l name (omega (arith, lt)) gets n f in (
      λ m. elim (w.0 m) [ inl had ↦ inl had | inr new ↦ inr (ap suc new.0, new.1) ],
      λ either. w.1 (elim either [ inl had ↦ inl had | inr new ↦ inr (let e = new.0 in omega (arith, e), new.1) ]),
    )

pub put_there : (feature : EnabledFeature) (sets : List (BTreeSet (String Global))) (set : BTreeSet (String Global)) → feature.krate < length sets → GetsName (get_or sets feature.krate set) set (text_view feature.name)
    → IsPut feature sets (slice_set sets feature.krate set)
put_there feature sets set lt gets n f =
    let lists : List (List Text) = names_in_each sets in
    let k = feature.krate in
    let name : Text = text_view feature.name in
    let here : names_in_each (slice_set sets k set) ≡ slice_set lists k (names_in set) = map-set names_in sets k set in
    let getting : (d : List Text) (g : Text) → Member (names_in set) g ↔ (Member (get_or lists k d) g ⊎ (name ≡ g)) = λ d g.
    subst (λ (had : List Text). Member (names_in set) g ↔ (Member had g ⊎ (name ≡ g))) (sym (get_or-map names_in sets k set d lt)) (gets g) in
    let within : k < length lists = rw length-map lt in
    let step = set_names lists k (names_in set) name within getting n f in (
      λ h. elim (step.0 (name_of (slice_set lists k (names_in set)) n f (subst (λ ls. IsNameAt ls n f) here h))) [
        | inl had ↦ inl (name_at lists n f had)
        | inr new ↦ inr (ap (λ m. (m, name)) new.0 ∙ ap (λ (t : Text). (n, t)) new.1)
      ],
      λ either. subst (λ ls. IsNameAt ls n f) (sym here) (name_at (slice_set lists k (names_in set)) n f (step.1 (elim either [
        | inl had ↦ inl (name_of lists n f had)
        | inr new ↦ inr (ap (λ (p : ℕ × Text). p.0) new, ap (λ (p : ℕ × Text). p.1) new)
      ]))),
    )

-- ---- feature after feature

-- empty sets have no names
none_named : (sets : List (BTreeSet (String Global))) → All (λ set. keys set ≡ []) sets → (n : ℕ) (f : Text) → NameAt (names_in_each sets) n f → ⊥
none_named [] empty n f m = absurd m
none_named (s ∷ sets) empty zero f m = let none : Member [] f = subst (λ (ks : List (String Global)). Member (map text_view ks) f) (empty zero s (omega arith)) m in absurd none
none_named (s ∷ sets) empty (suc n) f m = none_named sets (λ k d lt. empty (suc k) d (omega (arith, lt))) n f m

pub none_enabled : (sets : List (BTreeSet (String Global))) → All (λ set. keys set ≡ []) sets → AreEnabledSets [] sets
none_enabled sets empty n f = (λ h. absurd (none_named sets empty n f (name_of (names_in_each sets) n f h)), λ c. absurd (member_of [] (n, f) c))

pub one_more_enabled : (features : List EnabledFeature) (feature : EnabledFeature) (before after : List (BTreeSet (String Global)))
    → AreEnabledSets features before → IsPut feature before after → AreEnabledSets (features ++ feature ∷ []) after
one_more_enabled features feature before after so put n f =
    let all : map numbered (features ++ feature ∷ []) ≡ map numbered features ++ numbered feature ∷ [] = map-append numbered features (feature ∷ []) in
    let told : Member (map numbered features ++ numbered feature ∷ []) (n, f) → Contains (map numbered (features ++ feature ∷ [])) (n, f) = λ m.
    subst (λ ps. Contains ps (n, f)) (sym all) (contains_of _ (n, f) m) in (
      λ h. elim ((put n f).0 h) [
        | inl had ↦ told (member_left (map numbered features) (numbered feature ∷ []) (n, f) (member_of _ (n, f) ((so n f).0 had)))
        | inr new ↦ told (member_right (map numbered features) (numbered feature ∷ []) (n, f) (inl new))
      ],
      λ c. elim (member_append (map numbered features) (numbered feature ∷ []) (n, f) (member_of _ (n, f) (subst (λ ps. Contains ps (n, f)) all c))) [
        | inl had ↦ (put n f).1 (inl ((so n f).1 (contains_of (map numbered features) (n, f) had)))
        | inr new ↦ elim new [
          | inl is ↦ (put n f).1 (inr is)
          | inr none ↦ absurd none
        ]
      ],
    )

-- ---- an item that was taken from a list is one of the list

pub taken_item : {X A : Type 0} (s t u : IntoIter X A) (xs : List X) (x : X) → Yields takes s xs t → takes t (Some x) u → Member s.rest.items x
taken_item s t u [] x y h = subst (λ (k : IntoIter _ _). Member k.rest.items x) (sym y) (subst (λ is. Member is x) (sym h.0) (inl refl))
taken_item s t u (z ∷ xs) x y h = subst (λ is. Member is x) (sym y.1.0) (inr (taken_item y.0 t u xs x y.2 h))
