-- Which crate a declared dependency is mapped to, edge by edge and by number.
use Rattle.std.proofs.Common.{◌≡◌, ℕ, zero, suc, ◌+◌, ◌<◌, ◌≤◌, ◌==◌, Bool, true, false, ◌||◌, ◌&&◌, List, [], ◌∷◌, All, length, get_or, map, filter, arith, cond, inl, inr, Option, Some, None, option_map, slice_get, replicate, set, refl, sym, ap, ◌∙◌, subst}
use Rattle.std.proofs.lemmas.Bool.{cases_eq, cases_lt, eqb-true, ne_eqb}
use Rattle.std.proofs.lemmas.List.{get_or-map, get_or-set_other, get_or-set_same, get_or_default, get_or_past, length-map, same_lists}
use Rattle.std.proofs.lemmas.List.Elements.{All-filter, All-head, All-tail, filter_agree}
use Rattle.std.proofs.lemmas.List.Folds.{list_any_none}
use Rattle.std.specs.List.{list_any, range_with_len}
use Rattle.krates_ids.specs.Identity.{empty_identity}
use Rattle.krates_selection.specs.Selection.{HasEnds, id_at}
use Rattle.krates_drawing.specs.Drawing.{claims, crate_number, last_from, mapped, mapping}
use Rattle.krates_drawing.specs.Outline as model
use Rattle.krates_drawing.specs.OutlineOrder.{AreByEnds, IsClaimed, claimed_of, entry_at, has_ends}
use Rattle.krates_drawing.specs.Views.{kids_in, krate_at, crate_row_view, no_krate, outline_view}
use Rattle.krates_drawing.specs.declared.outline.CrateRow.{CrateRow}
use Rattle.krates_drawing.specs.declared.outline.EdgeRow.{EdgeRow}
use Rattle.krates_drawing.specs.declared.outline.Outline.{Outline}
use Rattle.krates_drawing.proofs.CratePlaces.{all_below, claimed, crates_seen, id_of_krate, own_number}
use Rattle.krates_drawing.proofs.LinkLines.{not_between}
use Rattle.krates_drawing.proofs.Tests.{equal_self, precedes}
use Rattle.krates_rules.proofs.ListEntries.{all_alike, entries_changed, entries_kept, entry_changed, same_entries}

-- ---- the last number that passes a test

agree_from : (p q : ℕ → Bool) (a len : ℕ) → ((n : ℕ) → a ≤ n → q n ≡ p n) → filter q (range_with_len a len) ≡ filter p (range_with_len a len)
agree_from p q a zero same = refl
agree_from p q a (suc len) same =
    ap (λ b. cond b (a ∷ filter q (range_with_len (a + 1) len)) (filter q (range_with_len (a + 1) len))) (same a (omega arith)) ∙ ap (λ l. cond (p a) (a ∷ l) l) (agree_from p q (a + 1) len (λ n le. same n (omega (arith, le))))

-- one number more passes, and no other is below it: it is as if it had been found before
last_low : (p q : ℕ → Bool) (c : ℕ) → ((n : ℕ) → q n ≡ ((c == n) || p n)) → ((n : ℕ) → n < c → p n ≡ false) → (a len : ℕ) (found : Option ℕ) → a ≤ c → c < a + len
    → last_from found (filter q (range_with_len a len)) ≡ last_from (Some c) (filter p (range_with_len a len))
last_low p q c same low a zero found le lt = absurd (omega (arith, le, lt))
last_low p q c same low a (suc len) found le lt =
    let rest = range_with_len (a + 1) len in
    let passes : ℕ → Bool → Bool = λ n b. b || p n in
    elim (cases_lt a c) [
      | inl l ↦ (
          let fails : q a ≡ false = same a ∙ ap (passes a) (ne_eqb c a (λ e. omega (arith, e, l))) ∙ low a l in
          ap (λ b. last_from found (cond b (a ∷ filter q rest) (filter q rest))) fails ∙ last_low p q c same low (a + 1) len found (omega (arith, l)) (omega (arith, lt))
          ∙ sym (ap (λ b. last_from (Some c) (cond b (a ∷ filter p rest) (filter p rest))) (low a l)))
      | inr ge ↦ (
          let e : c ≡ a = omega (arith, ge, le) in
          let here : q a ≡ true = same a ∙ ap (passes a) (subst (λ n. (c == n) ≡ true) e (equal_self c)) in
          ap (λ b. last_from found (cond b (a ∷ filter q rest) (filter q rest))) here
          ∙ ap (last_from (Some a)) (agree_from p q (a + 1) len (λ n l. same n ∙ ap (passes n) (ne_eqb c n (λ z. omega (arith, z, l, e)))))
          ∙ ap (λ n. last_from (Some n) (filter p rest)) (sym e) ∙ either (p a) (sym e))
    ]
  where
    either : (b : Bool) → a ≡ c → last_from (Some c) (filter p (range_with_len (a + 1) len)) ≡ last_from (Some c) (cond b (a ∷ filter p (range_with_len (a + 1) len)) (filter p (range_with_len (a + 1) len)))
    either true e = ap (λ n. last_from (Some n) (filter p (range_with_len (a + 1) len))) (sym e)
    either false e = refl

-- ---- the edges that are left

-- whether it leads from the one crate to the other, and has the declared dependency at the place as its own
abbrev claims_at : ℕ → ℕ → ℕ → EdgeRow → Bool
claims_at krate place n l = has_ends krate n l && (l.edge.declared == place)

-- what a declared dependency is mapped to after these edges, where something was found before
abbrev finished : Outline → List EdgeRow → ℕ → ℕ → Option ℕ → Option ℕ
finished t ls krate place found = last_from found (filter (λ n. list_any (claims_at krate place n) ls) (range_with_len 0 (length t.krates.items)))

-- after these edges the mappings are those of the outline
abbrev pub IsMappedAfter : Outline → List EdgeRow → List (List (Option ℕ)) → Type 0
IsMappedAfter t ls ms = (krate place : ℕ) → option_map (finished t ls krate place) (entry_at ms krate place) ≡ entry_at (map (mapping (outline_view t)) (outline_view t).krates) krate place

-- ---- one edge

none_claims : (x : EdgeRow) (ls : List EdgeRow) (krate place n : ℕ) → AreByEnds (x ∷ ls) → x.edge.parent ≡ krate → n < x.edge.child → list_any (claims_at krate place n) ls ≡ false
none_claims x ls krate place n by e lt = list_any_none (claims_at krate place n) ls (λ k d within.
    let w = precedes x.edge (get_or ls k d).edge (by 0 (suc k) d (omega arith) (omega (arith, within))) in
    ap (λ b. b && ((get_or ls k d).edge.declared == place)) (not_between krate n x (get_or ls k d) w.parent w.child (inr (sym e, lt))))

finish_step : (t : Outline) (x : EdgeRow) (ls : List EdgeRow) (krate place : ℕ) (found : Option ℕ) → AreByEnds (x ∷ ls) → x.edge.child < length t.krates.items
    → finished t (x ∷ ls) krate place found ≡ finished t ls krate place (claimed_of x krate place found)
finish_step t x ls krate place found by within = by_case (x.edge.parent == krate) (x.edge.declared == place) refl refl
  where
    all : List ℕ
    all = range_with_len 0 (length t.krates.items)

    more : ℕ → Bool
    more n = list_any (claims_at krate place n) ls

    claim : Bool → Bool → ℕ → Bool
    claim b c n = ((b && (x.edge.child == n)) && c) || more n

    and_true : (b c : Bool) → ((b && true) || c) ≡ (b || c)
    and_true true c = refl
    and_true false c = refl

    and_false : (b c : Bool) → ((b && false) || c) ≡ c
    and_false true c = refl
    and_false false c = refl

    by_case : (b c : Bool) → (x.edge.parent == krate) ≡ b → (x.edge.declared == place) ≡ c → last_from found (filter (claim b c) all) ≡ last_from (cond (b && c) (Some x.edge.child) found) (filter more all)
    by_case true true e f = last_low more (claim true true) x.edge.child (λ n. and_true (x.edge.child == n) (more n)) (λ n lt. none_claims x ls krate place n by (eqb-true x.edge.parent krate e) lt) 0 (length t.krates.items) found (omega arith) (omega (arith, within))
    by_case true false e f = ap (last_from found) (filter_agree (claim true false) more (λ n. and_false (x.edge.child == n) (more n)) all)
    by_case false c e f = refl

entry_step : {A B C : Type 0} (f : A → C) (g : B → C) (h : A → B) (o : Option A) → ((x : A) → f x ≡ g (h x)) → option_map f o ≡ option_map g (option_map h o)
entry_step f g h None same = refl
entry_step f g h (Some x) same = ap Some (same x)

pub mapped_more : (t : Outline) (x : EdgeRow) (ls : List EdgeRow) (old new : List (List (Option ℕ))) → AreByEnds (x ∷ ls) → HasEnds (length t.krates.items) x.edge → IsClaimed x old new → IsMappedAfter t (x ∷ ls) old → IsMappedAfter t ls new
mapped_more t x ls old new by ends claimed so_far krate place =
    ap (option_map (finished t ls krate place)) (claimed krate place)
    ∙ sym (entry_step (finished t (x ∷ ls) krate place) (finished t ls krate place) (claimed_of x krate place) (entry_at old krate place) (λ found. finish_step t x ls krate place found by ends.child))
    ∙ so_far krate place

-- ---- what one edge writes

unchanged : {A : Type 0} (f : A → A) (o : Option A) → ((x : A) → f x ≡ x) → o ≡ option_map f o
unchanged f None same = refl
unchanged f (Some x) same = ap Some (sym (same x))

elsewhere : (l : EdgeRow) (krate place : ℕ) (o : Option (Option ℕ)) → (l.edge.parent ≡ krate → ⊥) → o ≡ option_map (claimed_of l krate place) o
elsewhere l krate place o apart = unchanged (claimed_of l krate place) o (λ x. ap (λ b. cond (b && (l.edge.declared == place)) (Some l.edge.child) x) (ne_eqb l.edge.parent krate apart))

-- nor is anything at another place of the same crate
unwritten : (l : EdgeRow) (j : ℕ) (x : Option ℕ) → (j ≡ l.edge.declared → ⊥) → claimed_of l l.edge.parent j x ≡ x
unwritten l j x apart = ap (λ b. cond (b && (l.edge.declared == j)) (Some l.edge.child) x) (equal_self l.edge.parent) ∙ ap (λ b. cond b (Some l.edge.child) x) (ne_eqb l.edge.declared j (λ e. apart (sym e)))

-- its child is written
pub claimed_by : (l : EdgeRow) (old : List (List (Option ℕ))) (n : ℕ) → n ≡ l.edge.child → l.edge.parent < length old → l.edge.declared < length (get_or old l.edge.parent []) → IsClaimed l old (set old l.edge.parent (set (get_or old l.edge.parent []) l.edge.declared (Some n)))
claimed_by l old n is within lt krate place = elim (cases_eq l.edge.parent krate) [
  | inl e ↦ subst (λ k. slice_get (get_or (set old l.edge.parent new) k []) place ≡ option_map (claimed_of l k place) (entry_at old k place)) e
      (ap (λ m. slice_get m place) (get_or-set_same old l.edge.parent new [] within)
      ∙ entry_changed (claimed_of l l.edge.parent) (get_or old l.edge.parent []) l.edge.declared (Some n) lt
      (λ x. ap (λ b. cond (b && (l.edge.declared == l.edge.declared)) (Some l.edge.child) x) (equal_self l.edge.parent) ∙ ap (λ b. cond b (Some l.edge.child) x) (equal_self l.edge.declared) ∙ ap Some (sym is))
      (λ j apart x. unwritten l j x apart) place)
  | inr apart ↦ ap (λ m. slice_get m place) (get_or-set_other old l.edge.parent krate new [] (λ e. apart (sym e))) ∙ elsewhere l krate place (entry_at old krate place) apart
]
  where
    new : List (Option ℕ)
    new = set (get_or old l.edge.parent []) l.edge.declared (Some n)

-- or nothing
pub none_claimed : (l : EdgeRow) (old : List (List (Option ℕ))) → length (get_or old l.edge.parent []) ≤ l.edge.declared → IsClaimed l old old
none_claimed l old past krate place = elim (cases_eq l.edge.parent krate) [
  | inl e ↦ subst (λ k. entry_at old k place ≡ option_map (claimed_of l k place) (entry_at old k place)) e
      (entries_kept (claimed_of l l.edge.parent) (get_or old l.edge.parent []) l.edge.declared past (λ j apart x. unwritten l j x apart) place)
  | inr apart ↦ elsewhere l krate place (entry_at old krate place) apart
]

-- ---- before the first edge, and after the last

last_seen : {A B : Type 0} (f : A → B) (o : Option A) (xs : List A) → option_map f (last_from o xs) ≡ last_from (option_map f o) (map f xs)
last_seen f o [] = refl
last_seen f o (x ∷ xs) = last_seen f (Some x) xs

maps_back : {A B : Type 0} (f : B → A) (g : A → B) (xs : List A) → All (λ x. f (g x) ≡ x) xs → map f (map g xs) ≡ xs
maps_back f g [] h = refl
maps_back f g (x ∷ xs) h = ap (λ y. y ∷ map f (map g xs)) (All-head (λ y. f (g y) ≡ y) x xs h) ∙ ap (λ ys. x ∷ ys) (maps_back f g xs (All-tail (λ y. f (g y) ≡ y) x xs h))

mapped_is : (t : Outline) (p place : ℕ) → p < length t.krates.items → finished t t.links.items p place None ≡ mapped (outline_view t) (krate_at t p).id place
mapped_is t p place within =
    let s = outline_view t in
    let ks = t.krates.items in
    let count = length ks in
    let i = (krate_at t p).id in
    let test : ℕ → Bool = λ n. list_any (claims_at p place n) t.links.items in
    let numbers = filter test (range_with_len 0 count) in
    let number : model.CrateRow → ℕ = λ q. crate_number s q.id in
    let same : (n : ℕ) → n < count → test n ≡ claims s i place (krate_at t n) = λ n lt.
    sym (claimed ks p n t.ordered.krates within lt place t.links.items t.ordered.ends)
    ∙ ap (λ j. claims s j place (record { id = id_at (kids_in t) n; declared = 0 })) (sym (id_of_krate ks p))
    ∙ ap (λ j. claims s i place (record { id = j; declared = 0 })) (sym (id_of_krate ks n)) in
    let back : map number (map (krate_at t) numbers) ≡ numbers = maps_back number (krate_at t) numbers (All-filter test (λ n. number (krate_at t n) ≡ n) (range_with_len 0 count) (λ k d lt.
    let n = get_or (range_with_len 0 count) k d in
    ap (crate_number s) (id_of_krate ks n) ∙ own_number ks n t.ordered.krates (all_below count k d lt))) in
    sym (ap (λ l. option_map number (last_from None l)) (crates_seen ks (claims s i place) test same) ∙ last_seen number None (map (krate_at t) numbers) ∙ ap (last_from None) back)

pub none_mapped : (t : Outline) (ms : List (List (Option ℕ))) → ms ≡ map (λ (k : CrateRow). replicate k.declared None) t.krates.items → IsMappedAfter t t.links.items ms
unfolding mapping
none_mapped t ms is krate place =
    let s = outline_view t in
    let ks = t.krates.items in
    let start : CrateRow → List (Option ℕ) = λ k. replicate k.declared None in
    ap (λ l. option_map (finished t t.links.items krate place) (entry_at l krate place)) is ∙ elim (cases_lt krate (length ks)) [
      | inl lt ↦ (
          let d : CrateRow = record { id = empty_identity; declared = 0 } in
          let n = (get_or ks krate d).declared in
          let one : get_or (map start ks) krate [] ≡ start (get_or ks krate d) = get_or-map start ks krate d [] lt in
          let row : krate_at t krate ≡ crate_row_view (get_or ks krate d) = get_or-map crate_row_view ks krate d no_krate lt in
          let two : get_or (map (mapping s) s.krates) krate [] ≡ mapping s (krate_at t krate) = get_or-map (mapping s) s.krates krate no_krate [] (omega (arith, lt, length-map ks crate_row_view)) in
          let zero_more : 0 + place ≡ place = omega arith in
          ap (λ l. option_map (finished t t.links.items krate place) (slice_get l place)) (one ∙ all_alike (λ j. None) None (λ j. refl) 0 n)
          ∙ ap (λ j. option_map (finished t t.links.items krate j) (slice_get (map (λ j. None) (range_with_len 0 n)) place)) (sym zero_more)
          ∙ sym (ap (λ l. slice_get l place) two ∙ ap (λ (k : model.CrateRow). slice_get (map (mapped s (krate_at t krate).id) (range_with_len 0 k.declared)) place) row
          ∙ entries_changed (λ j. None) (mapped s (krate_at t krate).id) (finished t t.links.items krate) (λ j. sym (mapped_is t krate j lt)) 0 n place))
      | inr ge ↦ (
          let one : get_or (map start ks) krate [] ≡ [] = get_or_past (map start ks) krate [] (omega (arith, ge, length-map ks start)) in
          let two : get_or (map (mapping s) s.krates) krate [] ≡ [] = get_or_past (map (mapping s) s.krates) krate [] (omega (arith, ge, length-map s.krates (mapping s), length-map ks crate_row_view)) in
          ap (λ l. option_map (finished t t.links.items krate place) (slice_get l place)) one ∙ ap (λ l. slice_get l place) (sym two))
    ]

none_passes : (xs : List ℕ) → filter (λ n. false) xs ≡ []
none_passes [] = refl
none_passes (x ∷ xs) = none_passes xs

pub all_mapped : (t : Outline) (ms : List (List (Option ℕ))) → length ms ≡ length t.krates.items → IsMappedAfter t [] ms → ms ≡ map (mapping (outline_view t)) (outline_view t).krates
all_mapped t ms count so_far =
    let final = map (mapping (outline_view t)) (outline_view t).krates in
    let same_length : length ms ≡ length final = count ∙ sym (length-map (outline_view t).krates (mapping (outline_view t)) ∙ length-map t.krates.items crate_row_view) in
    same_lists ms final same_length (λ krate d lt.
    get_or_default ms krate d [] lt ∙ same_entries (get_or ms krate []) (get_or final krate []) (λ place.
    unchanged (finished t [] krate place) (entry_at ms krate place) (λ x. ap (last_from x) (none_passes (range_with_len 0 (length t.krates.items)))) ∙ so_far krate place)
    ∙ sym (get_or_default final krate d [] (omega (arith, lt, same_length))))
