-- Crates of an outline by number: the number is the place, and their ids compare as their numbers.
use Rattle.std.proofs.Common.{◌≡◌, Bool, ℕ, zero, suc, ◌+◌, ◌<◌, ◌==◌, ◌&&◌, List, [], ◌∷◌, Some, Ok, All, filter, get_or, length, map, option_map, refl, sym, ap, ◌∙◌, subst, arith}
use Rattle.std.proofs.lemmas.Cmp.{tied_itself}
use Rattle.std.proofs.lemmas.List.{length-map}
use Rattle.std.proofs.lemmas.List.FromFn.{get_or-range_with_len, length-range_with_len}
use Rattle.std.proofs.lemmas.Option.{slice_get-get_or, slice_get-map, get_or_from_slice_get}
use Rattle.std.specs.Cmp.{unsigned_ties}
use Rattle.std.specs.List.{list_any, range_with_len, slice_get}
use Rattle.std.specs.List.Sorted.{IsStrictlySortedBy}
use Rattle.std.specs.Prelude.{⊤}
use Rattle.std.specs.Ordering.{is_eq, nat_cmp}
use Rattle.krates_ids.specs.Identity.{Identity, empty_identity, id_cmp}
use Rattle.krates_selection.proofs.ByNumber.{compared_by_place}
use Rattle.krates_selection.proofs.CrateNumbers.{seen_id}
use Rattle.krates_selection.specs.Selection.{HasCrates, HasEnds, id_at}
use Rattle.krates_selection.specs.declared.selection.ToggledFeature.{ToggledFeature}
use Rattle.krates_rules.specs.Referent.{id_order}
use Rattle.krates_rules.specs.Resolved.{id_of}
use Rattle.krates_drawing.specs.Drawing.{id_eq, is_between, is_crate, is_link, place_of}
use Rattle.krates_drawing.specs.Outline as model
use Rattle.krates_drawing.specs.OutlineOrder.{has_crates, has_ends}
use Rattle.krates_drawing.specs.Views.{kids_of, crate_row_view, edge_row_view, no_krate, toggle_of}
use Rattle.krates_drawing.specs.declared.outline.CrateRow.{CrateRow}
use Rattle.krates_drawing.specs.declared.outline.EdgeRow.{EdgeRow}
use Rattle.krates_drawing.proofs.EqualRanges.{searched}
use Rattle.krates_drawing.proofs.Tests.{and_same, any_seen, equal_ids, equal_order, filter_seen, ids_total, maps_alike, place_seen}

abbrev pub AreInOrder : List CrateRow → Type 0
AreInOrder ks = IsStrictlySortedBy id_cmp (kids_of ks)

-- ---- the id of a number

kid_here : (ks : List CrateRow) (n : ℕ) (k : CrateRow) → n < length ks → slice_get ks n ≡ Some k → id_at (kids_of ks) n ≡ id_of k.id
kid_here ks n k lt at =
    let kid = slice_get-map (λ (k : CrateRow). k.id) ks n ∙ ap (option_map (λ (k : CrateRow). k.id)) at in
    seen_id (kids_of ks) n (rw length-map lt) ∙ ap id_of (get_or_from_slice_get (kids_of ks) n k.id empty_identity kid)

-- it is that of the crate of the number
pub id_of_krate : (ks : List CrateRow) (n : ℕ) → (get_or (map crate_row_view ks) n no_krate).id ≡ id_at (kids_of ks) n
id_of_krate [] n = refl
id_of_krate (k ∷ ks) zero = refl
id_of_krate (k ∷ ks) (suc n) = id_of_krate ks n

-- ---- ids compare as numbers

pub numbers_compare : (kids : List Identity) → IsStrictlySortedBy id_cmp kids → (m n : ℕ) → m < length kids → n < length kids → id_order (id_at kids m) (id_at kids n) ≡ nat_cmp m n
numbers_compare kids sorted m n lm ln =
    let x = get_or kids m empty_identity in
    let y = get_or kids n empty_identity in
    ap (λ i. id_order i (id_at kids n)) (seen_id kids m lm) ∙ ap (id_order (id_of x)) (seen_id kids n ln)
    ∙ compared_by_place ids_total kids sorted x y m n (slice_get-get_or kids m empty_identity lm) (slice_get-get_or kids n empty_identity ln)

pub ids_compare : (ks : List CrateRow) (m n : ℕ) → AreInOrder ks → m < length ks → n < length ks → id_order (id_at (kids_of ks) m) (id_at (kids_of ks) n) ≡ nat_cmp m n
ids_compare ks m n sorted a b = numbers_compare (kids_of ks) sorted m n (rw length-map a) (rw length-map b)

-- they are equal where the numbers are
pub same_ids : (ks : List CrateRow) (m n : ℕ) → AreInOrder ks → m < length ks → n < length ks → (m == n) ≡ id_eq (id_at (kids_of ks) m) (id_at (kids_of ks) n)
same_ids ks m n sorted a b = unsigned_ties m n ∙ ap is_eq (sym (ids_compare ks m n sorted a b)) ∙ equal_order (id_at (kids_of ks) m) (id_at (kids_of ks) n)

-- ---- the place of a crate

-- a crate is looked for by id
pub crate_seen : (ks : List CrateRow) (i : Identity) → place_of (is_crate (id_of i)) (map crate_row_view ks) ≡ place_of (λ (k : CrateRow). is_eq (id_cmp k.id i)) ks
crate_seen ks i = place_seen (λ (k : CrateRow). ⊤) crate_row_view (is_crate (id_of i)) (λ (k : CrateRow). is_eq (id_cmp k.id i)) ks (λ n d lt. tt) (λ k h. equal_ids k.id i)

place_here : (ks : List CrateRow) (n : ℕ) (k : CrateRow) → AreInOrder ks → n < length ks → slice_get ks n ≡ Some k → place_of (is_crate (id_of k.id)) (map crate_row_view ks) ≡ n
place_here ks n k sorted lt at =
    crate_seen ks k.id
    ∙ searched ids_total (λ (z : CrateRow). z.id) ks k.id (Ok n) sorted lt (λ d. ap (λ (z : CrateRow). id_cmp z.id k.id) (get_or_from_slice_get ks n k d at) ∙ tied_itself ids_total k.id)

-- the number of a crate is its place
pub own_number : (ks : List CrateRow) (n : ℕ) → AreInOrder ks → n < length ks → place_of (is_crate (id_at (kids_of ks) n)) (map crate_row_view ks) ≡ n
own_number ks n sorted lt =
    let d : CrateRow = record { id = empty_identity; declared = 0 } in
    let k = get_or ks n d in
    let at = slice_get-get_or ks n d lt in
    ap (λ i. place_of (is_crate i) (map crate_row_view ks)) (kid_here ks n k lt at) ∙ place_here ks n k sorted lt at

-- ---- edges and toggled features between two crates, by number

module _ (ks : List CrateRow) (p q : ℕ) (sorted : AreInOrder ks) (from : p < length ks) (to : q < length ks) where
  same_ends : (l : EdgeRow) → HasEnds (length ks) l.edge → has_ends p q l ≡ is_link (id_at (kids_of ks) p) (id_at (kids_of ks) q) (edge_row_view (kids_of ks) l)
  same_ends l e = and_same _ _ _ _ (same_ids ks l.edge.parent p sorted e.parent from) (same_ids ks l.edge.child q sorted e.child to)

  pub links_between : (xs : List EdgeRow) → All (λ l. HasEnds (length ks) l.edge) xs
      → filter (is_link (id_at (kids_of ks) p) (id_at (kids_of ks) q)) (map (edge_row_view (kids_of ks)) xs) ≡ map (edge_row_view (kids_of ks)) (filter (has_ends p q) xs)
  links_between xs ends = filter_seen (λ (l : EdgeRow). HasEnds (length ks) l.edge) (edge_row_view (kids_of ks)) (is_link (id_at (kids_of ks) p) (id_at (kids_of ks) q)) (has_ends p q) xs ends same_ends

  -- whether there is one
  pub linked : (xs : List EdgeRow) → All (λ l. HasEnds (length ks) l.edge) xs
      → list_any (is_link (id_at (kids_of ks) p) (id_at (kids_of ks) q)) (map (edge_row_view (kids_of ks)) xs) ≡ list_any (has_ends p q) xs
  linked xs ends = any_seen (λ (l : EdgeRow). HasEnds (length ks) l.edge) (edge_row_view (kids_of ks)) (is_link (id_at (kids_of ks) p) (id_at (kids_of ks) q)) (has_ends p q) xs ends same_ends

  -- whether there is one with the declared dependency at a place as its own
  pub claimed : (place : ℕ) (xs : List EdgeRow) → All (λ l. HasEnds (length ks) l.edge) xs
      → list_any (λ l. is_link (id_at (kids_of ks) p) (id_at (kids_of ks) q) l && (l.place == place)) (map (edge_row_view (kids_of ks)) xs) ≡ list_any (λ l. has_ends p q l && (l.edge.declared == place)) xs
  claimed place xs ends =
      any_seen (λ (l : EdgeRow). HasEnds (length ks) l.edge) (edge_row_view (kids_of ks)) (λ l. is_link (id_at (kids_of ks) p) (id_at (kids_of ks) q) l && (l.place == place)) (λ l. has_ends p q l && (l.edge.declared == place)) xs ends
      (λ l e. ap (λ b. b && (l.edge.declared == place)) (same_ends l e))

  pub toggles_between : (xs : List ToggledFeature) → All (HasCrates (length ks)) xs
      → filter (is_between (id_at (kids_of ks) p) (id_at (kids_of ks) q)) (map (toggle_of (kids_of ks)) xs) ≡ map (toggle_of (kids_of ks)) (filter (has_crates p q) xs)
  toggles_between xs crates =
      filter_seen (HasCrates (length ks)) (toggle_of (kids_of ks)) (is_between (id_at (kids_of ks) p) (id_at (kids_of ks) q)) (has_crates p q) xs crates
      (λ t e. and_same _ _ _ _ (same_ids ks t.by p sorted e.by from) (same_ids ks t.krate q sorted e.krate to))

-- ---- all crates, by number

shifted : {A : Type 0} (f : ℕ → A) (a n : ℕ) → map f (range_with_len (a + 1) n) ≡ map (λ k. f (k + 1)) (range_with_len a n)
shifted f a zero = refl
shifted f a (suc n) = ap (λ ys. f (a + 1) ∷ ys) (shifted f (a + 1) n)

-- a list is that of its elements, place by place
by_place : {A : Type 0} (xs : List A) (d : A) → map (λ n. get_or xs n d) (range_with_len 0 (length xs)) ≡ xs
by_place [] d = refl
by_place {A} (x ∷ xs) d = ap (λ (ys : List A). x ∷ ys) (shifted (λ n. get_or (x ∷ xs) n d) 0 (length xs) ∙ maps_alike (λ k. get_or (x ∷ xs) (k + 1) d) (λ k. get_or xs k d) (λ k. (let e : k + 1 ≡ suc k = omega arith in ap (λ n. get_or (x ∷ xs) n d) e)) (range_with_len 0 (length xs)) ∙ by_place xs d)

pub all_below : (n : ℕ) → All (λ k. k < n) (range_with_len 0 n)
all_below n i d lt =
    let within : i < n = omega (arith, lt, length-range_with_len 0 n) in
    omega (arith, get_or-range_with_len 0 n i d within, within)

-- the crates are those of the numbers
pub krates_by_number : (ks : List CrateRow) → map (λ n. get_or (map crate_row_view ks) n no_krate) (range_with_len 0 (length ks)) ≡ map crate_row_view ks
krates_by_number ks =
    let qs = map crate_row_view ks in
    subst (λ n. map (λ k. get_or qs k no_krate) (range_with_len 0 n) ≡ qs) (length-map ks crate_row_view) (by_place qs no_krate)

-- the crates that pass a test have the numbers that pass it
pub crates_seen : (ks : List CrateRow) (p : model.CrateRow → Bool) (q : ℕ → Bool) → ((n : ℕ) → n < length ks → q n ≡ p (get_or (map crate_row_view ks) n no_krate))
    → filter p (map crate_row_view ks) ≡ map (λ n. get_or (map crate_row_view ks) n no_krate) (filter q (range_with_len 0 (length ks)))
crates_seen ks p q same =
    let at : ℕ → model.CrateRow = λ n. get_or (map crate_row_view ks) n no_krate in
    ap (filter p) (sym (krates_by_number ks)) ∙ filter_seen (λ n. n < length ks) at p q (range_with_len 0 (length ks)) (all_below (length ks)) same
