-- What the kept edges draw, edge by edge: after the last one between two crates follows what the one toggles of the other.
use Rattle.std.proofs.Common.{◌≡◌, ℕ, zero, suc, ◌+◌, ◌<◌, ◌≤◌, ◌==◌, ◌⊎◌, Bool, true, false, ◌&&◌, ◌||◌, List, [], ◌∷◌, ◌++◌, length, get_or, map, filter, cond, refl, sym, ap, ◌∙◌, subst, inl, inr, arith, append_assoc}
use Rattle.std.proofs.lemmas.Bool.{and_parts, cases_lt, eqb-true, false_from_ne_true, ne_eqb}
use Rattle.std.proofs.lemmas.List.{append-nil}
use Rattle.std.proofs.lemmas.List.Elements.{All-cons}
use Rattle.std.proofs.lemmas.List.Folds.{flat_map-map, list_any_none}
use Rattle.std.specs.List.{flat_map, list_any, range_with_len}
use Rattle.std.specs.Prelude.{Some, slice_get}
use Rattle.krates_selection.specs.Selection.{HasEnds, id_at}
use Rattle.krates_drawing.specs.Drawing.{PlannedEdge, crate_lines, leads, pair_lines, uses}
use Rattle.krates_drawing.specs.LinesFrom.{toggle_lines}
use Rattle.krates_drawing.specs.Outline as model
use Rattle.krates_drawing.specs.OutlineOrder.{AreByEnds, has_ends}
use Rattle.krates_drawing.specs.Views.{edge_row_view, kids_in, krate_at, outline_view}
use Rattle.krates_drawing.specs.declared.outline.EdgeRow.{EdgeRow}
use Rattle.krates_drawing.specs.declared.outline.Outline.{Outline}
use Rattle.krates_drawing.proofs.CratePlaces.{id_of_krate, krates_by_number, linked, links_between}
use Rattle.krates_drawing.proofs.Tests.{equal_self, flat_maps_alike, precedes}

-- ---- lists that are made number by number

none_made : {A B : Type 0} (f : A → List B) (xs : List A) → ((x : A) → f x ≡ []) → flat_map f xs ≡ []
none_made f [] none = refl
none_made f (x ∷ xs) none = ap (λ l. l ++ flat_map f xs) (none x) ∙ none_made f xs none

kept_step : {A B : Type 0} (f : A → List B) (b : Bool) (x : A) (xs : List A) (more : List B) → flat_map f xs ≡ more → flat_map f (cond b (x ∷ xs) xs) ≡ cond b (f x) [] ++ more
kept_step f true x xs more e = ap (λ l. f x ++ l) e
kept_step f false x xs more e = e

kept_made : {A B : Type 0} (p : A → Bool) (f : A → List B) (xs : List A) → flat_map f (filter p xs) ≡ flat_map (λ x. cond (p x) (f x) []) xs
kept_made p f [] = refl
kept_made p f (x ∷ xs) = kept_step f (p x) x (filter p xs) (flat_map (λ y. cond (p y) (f y) []) xs) (kept_made p f xs)

module _ {B : Type 0} (f g : ℕ → List B) where
  -- all parts are alike
  parts_same : (a len : ℕ) → ((n : ℕ) → a ≤ n → n < a + len → g n ≡ f n) → flat_map g (range_with_len a len) ≡ flat_map f (range_with_len a len)
  parts_same a zero same = refl
  parts_same a (suc len) same =
      ap (λ l. l ++ flat_map g (range_with_len (a + 1) len)) (same a (omega arith) (omega arith)) ∙ ap (λ l. f a ++ l) (parts_same (a + 1) len (λ n le lt. same n (omega (arith, le)) (omega (arith, lt))))

  -- one part begins with something more, and those before it are empty
  part_more : (u : List B) (c : ℕ) → ((n : ℕ) → n < c → (g n ≡ []) × (f n ≡ [])) → g c ≡ u ++ f c → (a len : ℕ) → ((n : ℕ) → c < n → g n ≡ f n) → a ≤ c → c < a + len
      → flat_map g (range_with_len a len) ≡ u ++ flat_map f (range_with_len a len)
  part_more u c before here a zero after le lt = absurd (omega (arith, le, lt))
  part_more u c before here a (suc len) after le lt =
      let more = range_with_len (a + 1) len in
      elim (cases_lt a c) [
        | inl l ↦ (
            let none = before a l in
            ap (λ x. x ++ flat_map g more) none.0 ∙ part_more u c before here (a + 1) len after (omega (arith, l)) (omega (arith, lt)) ∙ ap (λ x. u ++ (x ++ flat_map f more)) (sym none.1))
        | inr ge ↦ (
            let e : c ≡ a = omega (arith, ge, le) in
            ap (λ x. x ++ flat_map g more) (subst (λ n. g n ≡ u ++ f n) e here) ∙ ap (λ x. (u ++ f a) ++ x) (parts_same (a + 1) len (λ n l lt. after n (omega (arith, l, e)))) ∙ append_assoc u (f a) (flat_map f more))
      ]

-- ---- what edges draw

-- between the crates of two numbers
abbrev lines_of : Outline → List EdgeRow → ℕ → ℕ → List PlannedEdge
lines_of t ls m n = cond (list_any (has_ends m n) ls) (flat_map (λ l. uses (outline_view t) l l.given) (map (edge_row_view (kids_in t)) (filter (has_ends m n) ls)) ++ toggle_lines (outline_view t) (id_at (kids_in t) m) (id_at (kids_in t) n)) []

-- between all crates
abbrev pub lines_of_links : Outline → List EdgeRow → List PlannedEdge
lines_of_links t ls = flat_map (λ m. flat_map (lines_of t ls m) (range_with_len 0 (length t.krates.items))) (range_with_len 0 (length t.krates.items))

-- what an edge gives, and what is toggled if no later one leads between the same crates
abbrev pub given_by : Outline → EdgeRow → List PlannedEdge
given_by t x = uses (outline_view t) (edge_row_view (kids_in t) x) (edge_row_view (kids_in t) x).given

abbrev pub toggled_after : Outline → EdgeRow → Bool → List PlannedEdge
toggled_after t x later = cond later [] (toggle_lines (outline_view t) (id_at (kids_in t) x.edge.parent) (id_at (kids_in t) x.edge.child))

pub no_lines : (t : Outline) → lines_of_links t [] ≡ []
no_lines t = none_made _ (range_with_len 0 (length t.krates.items)) (λ m. none_made (lines_of t [] m) (range_with_len 0 (length t.krates.items)) (λ n. refl))

-- ---- one edge

or_second : (a b : Bool) → (a || b) ≡ false → b ≡ false
or_second true b h = absurd cc
or_second false b h = h

none_step : {A : Type 0} (b c : Bool) (x : A) (xs : List A) → (b || c) ≡ false → (c ≡ false → xs ≡ []) → cond b (x ∷ xs) xs ≡ []
none_step true c x xs h more = absurd cc
none_step false c x xs h more = more h

none_kept : {A : Type 0} (p : A → Bool) (xs : List A) → list_any p xs ≡ false → filter p xs ≡ []
none_kept p [] h = refl
none_kept p (x ∷ xs) h = none_step (p x) (list_any p xs) x (filter p xs) h (none_kept p xs)

no_lines_of : (t : Outline) (ls : List EdgeRow) (m n : ℕ) → list_any (has_ends m n) ls ≡ false → lines_of t ls m n ≡ []
no_lines_of t ls m n none = ap (λ b. cond b (flat_map (λ l. uses (outline_view t) l l.given) (map (edge_row_view (kids_in t)) (filter (has_ends m n) ls)) ++ toggle_lines (outline_view t) (id_at (kids_in t) m) (id_at (kids_in t) n)) []) none

-- an edge that comes no earlier leads between no crates that come before
pub not_between : (m n : ℕ) (x l : EdgeRow) → x.edge.parent ≤ l.edge.parent → (x.edge.parent ≡ l.edge.parent → x.edge.child ≤ l.edge.child) → (m < x.edge.parent) ⊎ ((m ≡ x.edge.parent) × (n < x.edge.child)) → has_ends m n l ≡ false
not_between m n x l low next at = false_from_ne_true (has_ends m n l) (λ h.
    let w = and_parts _ _ h in
    let e : l.edge.parent ≡ m = eqb-true _ m w.0 in
    let f : l.edge.child ≡ n = eqb-true _ n w.1 in
    elim at [
      | inl lt ↦ omega (arith, lt, low, e)
      | inr s ↦ (
          let same : m ≡ x.edge.parent = s.0 in
          let lt : n < x.edge.child = s.1 in
          let le = next (omega (arith, same, e)) in
          omega (arith, le, f, lt))
    ])

module _ (x : EdgeRow) (ls : List EdgeRow) (by : AreByEnds (x ∷ ls)) where
  none_between : (m n : ℕ) → (m < x.edge.parent) ⊎ ((m ≡ x.edge.parent) × (n < x.edge.child)) → list_any (has_ends m n) (x ∷ ls) ≡ false
  none_between m n at =
      list_any_none (has_ends m n) (x ∷ ls) (All-cons (λ l. has_ends m n l ≡ false) x ls (not_between m n x x (omega arith) (λ e. omega arith) at) (λ k d lt.
      let w = precedes x.edge (get_or ls k d).edge (by 0 (suc k) d (omega arith) (omega (arith, lt))) in
      not_between m n x (get_or ls k d) w.parent w.child at))

-- whether a later edge leads between the same crates, which the next one tells
next_joins : (x y : EdgeRow) (ls : List EdgeRow) (b : Bool) → AreByEnds (x ∷ y ∷ ls) → has_ends x.edge.parent x.edge.child y ≡ b → list_any (has_ends x.edge.parent x.edge.child) (y ∷ ls) ≡ b
next_joins x y ls true by e = ap (λ b. b || list_any (has_ends x.edge.parent x.edge.child) ls) e
next_joins x y ls false by e =
    let m = x.edge.parent in
    let n = x.edge.child in
    let w = precedes x.edge y.edge (by 0 1 x (omega arith) (omega arith)) in
    let at : (m < y.edge.parent) ⊎ ((m ≡ y.edge.parent) × (n < y.edge.child)) = elim (cases_lt m y.edge.parent) [
      | inl lt ↦ inl lt
      | inr ge ↦ (
          let same : m ≡ y.edge.parent = omega (arith, ge, w.parent) in
          let le = w.child same in
          elim (cases_lt n y.edge.child) [
            | inl lt ↦ inr (same, lt)
            | inr ge ↦ (
                let alike : n ≡ y.edge.child = omega (arith, ge, le) in
                let both : has_ends m n y ≡ true = ap (λ k. (y.edge.parent == k) && (y.edge.child == n)) same ∙ ap (λ k. (y.edge.parent == y.edge.parent) && (y.edge.child == k)) alike
                ∙ ap (λ b. b && (y.edge.child == y.edge.child)) (equal_self y.edge.parent) ∙ equal_self y.edge.child in
                cc (both, e))
          ])
    ] in
    none_between y ls (λ i j d l lt. by (suc i) (suc j) d (omega (arith, l)) (omega (arith, lt))) m n at

pub next_tells : (x y : EdgeRow) (ls : List EdgeRow) → AreByEnds (x ∷ ls) → Some y ≡ slice_get ls 0 → has_ends x.edge.parent x.edge.child y ≡ list_any (has_ends x.edge.parent x.edge.child) ls
next_tells x y [] by e = cc e
next_tells x y (z ∷ zs) by e =
    let same : y ≡ z = cc e in
    ap (has_ends x.edge.parent x.edge.child) same ∙ sym (next_joins x z zs _ by refl)

module _ (t : Outline) (x : EdgeRow) (ls : List EdgeRow) (by : AreByEnds (x ∷ ls)) where
  no_lines_between : (m n : ℕ) → (m < x.edge.parent) ⊎ ((m ≡ x.edge.parent) × (n < x.edge.child)) → (lines_of t (x ∷ ls) m n ≡ []) × (lines_of t ls m n ≡ [])
  no_lines_between m n at =
      let none = none_between x ls by m n at in
      (no_lines_of t (x ∷ ls) m n none, no_lines_of t ls m n (or_second (has_ends m n x) (list_any (has_ends m n) ls) none))

  -- with the test's answer at the edge
  lines_at : (m n : ℕ) (b : Bool) → has_ends m n x ≡ b → lines_of t (x ∷ ls) m n ≡ cond (b || list_any (has_ends m n) ls) (flat_map (λ l. uses (outline_view t) l l.given) (map (edge_row_view (kids_in t)) (cond b (x ∷ filter (has_ends m n) ls) (filter (has_ends m n) ls))) ++ toggle_lines (outline_view t) (id_at (kids_in t) m) (id_at (kids_in t) n)) []
  lines_at m n b e = ap (λ b. cond (b || list_any (has_ends m n) ls) (flat_map (λ l. uses (outline_view t) l l.given) (map (edge_row_view (kids_in t)) (cond b (x ∷ filter (has_ends m n) ls) (filter (has_ends m n) ls))) ++ toggle_lines (outline_view t) (id_at (kids_in t) m) (id_at (kids_in t) n)) []) e

  lines_here : lines_of t (x ∷ ls) x.edge.parent x.edge.child ≡ (given_by t x ++ toggled_after t x (list_any (has_ends x.edge.parent x.edge.child) ls)) ++ lines_of t ls x.edge.parent x.edge.child
  lines_here = lines_at x.edge.parent x.edge.child true (ap (λ b. b && (x.edge.child == x.edge.child)) (equal_self x.edge.parent) ∙ equal_self x.edge.child) ∙ by_case (list_any p ls) refl
    where
      p : EdgeRow → Bool
      p = has_ends x.edge.parent x.edge.child

      given : List PlannedEdge
      given = flat_map (λ l. uses (outline_view t) l l.given) (map (edge_row_view (kids_in t)) (filter p ls))

      toggles : List PlannedEdge
      toggles = toggle_lines (outline_view t) (id_at (kids_in t) x.edge.parent) (id_at (kids_in t) x.edge.child)

      by_case : (b : Bool) → list_any p ls ≡ b → (given_by t x ++ given) ++ toggles ≡ (given_by t x ++ cond b [] toggles) ++ cond b (given ++ toggles) []
      by_case true e = append_assoc (given_by t x) given toggles ∙ ap (λ l. l ++ (given ++ toggles)) (sym (append-nil (given_by t x)))
      by_case false e = ap (λ ks. (given_by t x ++ flat_map (λ l. uses (outline_view t) l l.given) (map (edge_row_view (kids_in t)) ks)) ++ toggles) (none_kept p ls e) ∙ ap (λ l. l ++ toggles) (append-nil (given_by t x)) ∙ sym (append-nil (given_by t x ++ toggles))

  -- what the first edge and the later ones draw
  pub first_link : HasEnds (length t.krates.items) x.edge → lines_of_links t (x ∷ ls) ≡ (given_by t x ++ toggled_after t x (list_any (has_ends x.edge.parent x.edge.child) ls)) ++ lines_of_links t ls
  first_link ends =
      let all = range_with_len 0 (length t.krates.items) in
      part_more (λ m. flat_map (lines_of t ls m) all) (λ m. flat_map (lines_of t (x ∷ ls) m) all) _ x.edge.parent
      (λ m lt. (none_made (lines_of t (x ∷ ls) m) all (λ n. (no_lines_between m n (inl lt)).0), none_made (lines_of t ls m) all (λ n. (no_lines_between m n (inl lt)).1)))
      (part_more (lines_of t ls x.edge.parent) (lines_of t (x ∷ ls) x.edge.parent) _ x.edge.child (λ n lt. no_lines_between x.edge.parent n (inr (refl, lt))) lines_here 0 (length t.krates.items)
      (λ n lt. lines_at x.edge.parent n false (ap (λ b. b && (x.edge.child == n)) (equal_self x.edge.parent) ∙ ne_eqb x.edge.child n (λ e. omega (arith, e, lt)))) (omega arith) (omega (arith, ends.child)))
      0 (length t.krates.items) (λ m lt. flat_maps_alike (lines_of t (x ∷ ls) m) (lines_of t ls m) (λ n. lines_at m n false (ap (λ b. b && (x.edge.child == n)) (ne_eqb x.edge.parent m (λ e. omega (arith, e, lt))))) all) (omega arith) (omega (arith, ends.parent))

-- ---- all edges

module _ (t : Outline) where
  between : (m n : ℕ) → m < length t.krates.items → n < length t.krates.items → cond (leads (outline_view t) (krate_at t m).id (krate_at t n).id) (pair_lines (outline_view t) (krate_at t m).id (krate_at t n).id) [] ≡ lines_of t t.links.items m n
  unfolding pair_lines
  between m n from to =
      let s = outline_view t in
      let ks = t.krates.items in
      let p = id_at (kids_in t) m in
      let q = id_at (kids_in t) n in
      ap (λ i. cond (leads s i (krate_at t n).id) (pair_lines s i (krate_at t n).id) []) (id_of_krate ks m) ∙ ap (λ i. cond (leads s p i) (pair_lines s p i) []) (id_of_krate ks n)
      ∙ ap (λ b. cond b (pair_lines s p q) []) (linked ks m n t.ordered.krates from to t.links.items t.ordered.ends)
      ∙ ap (λ ls. cond (list_any (has_ends m n) t.links.items) (flat_map (λ l. uses s l l.given) ls ++ toggle_lines s p q) []) (links_between ks m n t.ordered.krates from to t.links.items t.ordered.ends)

  by_number : {B : Type 0} (f : model.CrateRow → List B) → flat_map f (outline_view t).krates ≡ flat_map (λ n. f (krate_at t n)) (range_with_len 0 (length t.krates.items))
  by_number f = ap (flat_map f) (sym (krates_by_number t.krates.items)) ∙ flat_map-map f (krate_at t) (range_with_len 0 (length t.krates.items))

  pub all_links : lines_of_links t t.links.items ≡ flat_map (crate_lines (outline_view t)) (outline_view t).krates
  unfolding crate_lines
  all_links =
      let s = outline_view t in
      let count = length t.krates.items in
      let all = range_with_len 0 count in
      sym (by_number (crate_lines s) ∙ parts_same (λ m. flat_map (lines_of t t.links.items m) all) (λ m. crate_lines s (krate_at t m)) 0 count (λ m le from.
      kept_made (λ q. leads s (krate_at t m).id q.id) (λ q. pair_lines s (krate_at t m).id q.id) s.krates
      ∙ by_number (λ q. cond (leads s (krate_at t m).id q.id) (pair_lines s (krate_at t m).id q.id) [])
      ∙ parts_same (lines_of t t.links.items m) (λ n. cond (leads s (krate_at t m).id (krate_at t n).id) (pair_lines s (krate_at t m).id (krate_at t n).id) []) 0 count (λ n le to. between m n (omega (arith, from)) (omega (arith, to)))))

-- the edges that one draws come before those of the later ones
pub drawn_on : {A : Type 0} (old one two given toggles rest whole : List A) → one ≡ old ++ given → two ≡ one ++ toggles → old ++ ((given ++ toggles) ++ rest) ≡ whole → two ++ rest ≡ whole
drawn_on old one two given toggles rest whole first second all =
    ap (λ l. l ++ rest) (second ∙ ap (λ l. l ++ toggles) first ∙ append_assoc old given toggles) ∙ append_assoc old (given ++ toggles) rest ∙ all
