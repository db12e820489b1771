-- No more edges are drawn of an outline than are counted, however it lists them.
use Rattle.std.proofs.Common.{◌≡◌, ℕ, ◌+◌, ◌-◌, ◌<◌, ◌≤◌, ◌^◌, ◌==◌, Bool, true, false, ◌&&◌, ◌||◌, List, [], ◌∷◌, ◌++◌, suc, All, get_or, length, map, take, filter, flat_map, cond, max, min, refl, sym, ap, ◌∙◌, arith}
use Rattle.std.proofs.lemmas.Bool.{and_parts, eqb-true}
use Rattle.std.proofs.lemmas.List.{length-append, length-map, map_more, take_all}
use Rattle.std.proofs.lemmas.List.Concat.{length-flat_map}
use Rattle.std.proofs.lemmas.List.Elements.{All-head, All-tail}
use Rattle.std.proofs.lemmas.List.Sums.{count_by-le-length, length-filter, sum_by-cons, sum_by_push}
use Rattle.std.specs.List.{list_any, sum_by}
use Rattle.krates_cm.specs.Document.{Text}
use Rattle.krates_rules.specs.Facts.{Id}
use Rattle.krates_selection.specs.Selection.{HasEnds, counted, id_at}
use Rattle.krates_selection.specs.declared.selection.ToggledFeature.{ToggledFeature}
use Rattle.krates_drawing.specs.Drawing.{AtCrate, AtFeature, Feature, crate_lines, feature_lines, is_between, leads, line, planned_edges, targets, uses}
use Rattle.krates_drawing.specs.LinesFrom.{toggle_lines}
use Rattle.krates_drawing.specs.Outline as model
use Rattle.krates_drawing.specs.Outline.{FeatureRow, Meaning, OwnFeature, Crates, FeatureOf}
use Rattle.krates_drawing.specs.OutlineOrder.{AreByEnds, has_crates, has_ends}
use Rattle.krates_drawing.specs.Room.{most_edges, times_drawn, times_leading, times_named}
use Rattle.krates_drawing.specs.Views.{edge_row_view, kids_in, outline_view, toggle_of}
use Rattle.krates_drawing.specs.declared.outline.EdgeRow.{EdgeRow}
use Rattle.krates_drawing.specs.declared.outline.Outline.{Outline}
use Rattle.krates_drawing.proofs.CratePlaces.{toggles_between}
use Rattle.krates_drawing.proofs.LinkLines.{all_links, first_link, given_by, lines_of_links, no_lines, toggled_after}
use Rattle.krates_drawing.proofs.Parts.{part_filter, part_length, whole}
use Rattle.krates_drawing.proofs.Tests.{equal_self, links_behind}

-- ---- lists

fewer : {A : Type 0} (p : A → Bool) (xs : List A) → length (filter p xs) ≤ length xs
fewer p xs = omega (arith, length-filter p xs, count_by-le-length p xs)

smaller : {A : Type 0} (f g : A → ℕ) (xs : List A) → ((x : A) → f x ≤ g x) → sum_by f xs ≤ sum_by g xs
smaller f g [] le = omega arith
smaller f g (x ∷ xs) le =
    let here = le x in
    let more = smaller f g xs le in
    omega (arith, sum_by-cons f x xs, sum_by-cons g x xs, here, more)

-- if each element gives at most so many, all give at most the sum
spread : {A B : Type 0} (f : A → List B) (g : A → ℕ) (xs : List A) → ((x : A) → length (f x) ≤ g x) → length (flat_map f xs) ≤ sum_by g xs
spread f g xs le = omega (arith, length-flat_map f xs, smaller (λ x. length (f x)) g xs le)

apart_step : {A : Type 0} (p q r : Bool) (x : A) (ps qs rs : List A) → (p ≡ true → q ≡ false) → (p ≡ true → r ≡ true) → (q ≡ true → r ≡ true) → length ps + length qs ≤ length rs
    → length (cond p (x ∷ ps) ps) + length (cond q (x ∷ qs) qs) ≤ length (cond r (x ∷ rs) rs)
apart_step true true r x ps qs rs other one two le = absurd (let e = other refl in cc e)
apart_step true false true x ps qs rs other one two le = omega (arith, le)
apart_step true false false x ps qs rs other one two le = absurd (let e = one refl in cc e)
apart_step false true true x ps qs rs other one two le = omega (arith, le)
apart_step false true false x ps qs rs other one two le = absurd (let e = two refl in cc e)
apart_step false false true x ps qs rs other one two le = omega (arith, le)
apart_step false false false x ps qs rs other one two le = le

-- where no element passes both tests, and what passes one of them passes the third, as many pass that as both
apart : {A : Type 0} (p q r : A → Bool) → ((x : A) → p x ≡ true → q x ≡ false) → ((x : A) → p x ≡ true → r x ≡ true) → ((x : A) → q x ≡ true → r x ≡ true)
    → (xs : List A) → length (filter p xs) + length (filter q xs) ≤ length (filter r xs)
apart p q r other one two [] = omega arith
apart p q r other one two (x ∷ xs) = apart_step (p x) (q x) (r x) x (filter p xs) (filter q xs) (filter r xs) (other x) (one x) (two x) (apart p q r other one two xs)

or_second : (a b : Bool) → b ≡ true → (a || b) ≡ true
or_second true b h = refl
or_second false b h = h

-- ---- from crates

uses_drawn : (t : model.Outline) (l : model.EdgeRow) (given : List Text) → length (uses t l given) ≤ max (length given) 1
unfolding uses
uses_drawn t l [] = omega arith
uses_drawn t l (f ∷ fs) = simp length-map (omega arith)

-- whether an edge joins the crates of a toggled feature
abbrev joined : List EdgeRow → ToggledFeature → Bool
joined ls g = list_any (has_ends g.by g.krate) ls

module _ (x : EdgeRow) (ls : List EdgeRow) (g : ToggledFeature) (h : has_crates x.edge.parent x.edge.child g ≡ true) where
  by_it : g.by ≡ x.edge.parent
  by_it = eqb-true g.by x.edge.parent (and_parts _ _ h).0

  of_it : g.krate ≡ x.edge.child
  of_it = eqb-true g.krate x.edge.child (and_parts _ _ h).1

  -- it joins the crates of what is toggled between its ends
  joined_here : joined (x ∷ ls) g ≡ true
  joined_here =
      let m = x.edge.parent in
      let n = x.edge.child in
      ap (λ k. ((m == k) && (n == g.krate)) || joined ls g) by_it ∙ ap (λ k. ((m == m) && (n == k)) || joined ls g) of_it
      ∙ ap (λ b. (b && (n == n)) || joined ls g) (equal_self m) ∙ ap (λ b. b || joined ls g) (equal_self n)

  -- and where no later edge joins its ends, none joins these crates
  unjoined_later : list_any (has_ends x.edge.parent x.edge.child) ls ≡ false → joined ls g ≡ false
  unjoined_later none = ap (λ k. list_any (has_ends k g.krate) ls) by_it ∙ ap (λ k. list_any (has_ends x.edge.parent k) ls) of_it ∙ none

module _ (t : Outline) where
  toggles_length : (m n : ℕ) → m < length t.krates.items → n < length t.krates.items → length (toggle_lines (outline_view t) (id_at (kids_in t) m) (id_at (kids_in t) n)) ≡ length (filter (has_crates m n) t.toggled.items)
  toggles_length m n from to =
      let p = id_at (kids_in t) m in
      let q = id_at (kids_in t) n in
      length-map (filter (is_between p q) (outline_view t).toggled) (λ g. line (outline_view t) (AtCrate p) (AtFeature q g.name) Feature)
      ∙ ap length (toggles_between t.krates.items m n t.ordered.krates from to t.toggled.items t.ordered.toggled_crates)
      ∙ length-map (filter (has_crates m n) t.toggled.items) (toggle_of (kids_in t))

  toggled_once : (x : EdgeRow) (ls : List EdgeRow) → HasEnds (length t.krates.items) x.edge → (later : Bool) → list_any (has_ends x.edge.parent x.edge.child) ls ≡ later
      → length (toggled_after t x later) + length (filter (joined ls) t.toggled.items) ≤ length (filter (joined (x ∷ ls)) t.toggled.items)
  toggled_once x ls ends true e =
      let le = part_length _ _ (part_filter (joined ls) (joined (x ∷ ls)) t.toggled.items t.toggled.items (λ g h. or_second (has_ends g.by g.krate x) (joined ls g) h) (whole t.toggled.items)) in
      omega (arith, le)
  toggled_once x ls ends false e =
      let le = apart (has_crates x.edge.parent x.edge.child) (joined ls) (joined (x ∷ ls)) (λ g h. unjoined_later x ls g h e) (λ g h. joined_here x ls g h) (λ g h. or_second (has_ends g.by g.krate x) (joined ls g) h) t.toggled.items in
      omega (arith, toggles_length x.edge.parent x.edge.child ends.parent ends.child, le)

  -- the edges draw at most what they give and what is toggled between the crates that they join
  links_drawn : (ls : List EdgeRow) → AreByEnds ls → All (λ l. HasEnds (length t.krates.items) l.edge) ls
      → length (lines_of_links t ls) ≤ sum_by times_drawn (map (edge_row_view (kids_in t)) ls) + length (filter (joined ls) t.toggled.items)
  links_drawn [] by ends = omega (arith, ap length (no_lines t))
  links_drawn (x ∷ ls) by ends =
      let row = edge_row_view (kids_in t) x in
      let here = All-head (λ l. HasEnds (length t.krates.items) l.edge) x ls ends in
      let later = list_any (has_ends x.edge.parent x.edge.child) ls in
      let first = first_link t x ls by here in
      let drawn = uses_drawn (outline_view t) row row.given in
      let toggles = toggled_once x ls here later refl in
      let more = links_drawn ls (λ i j d l lt. by (suc i) (suc j) d (omega (arith, l)) (omega (arith, lt))) (All-tail (λ l. HasEnds (length t.krates.items) l.edge) x ls ends) in
      omega (arith, ap length first, length-append (given_by t x ++ toggled_after t x later) (lines_of_links t ls), length-append (given_by t x) (toggled_after t x later), drawn, toggles, more, sum_by-cons times_drawn row (map (edge_row_view (kids_in t)) ls))

-- ---- from features

targets_named : (t : model.Outline) (p : Id) (m : Meaning) → length (targets t p m) ≤ times_named m
targets_named t p (OwnFeature g) = omega arith
targets_named t p (Crates ids) = omega (arith, length-map (filter (leads t p) ids) AtCrate, fewer (leads t p) ids)
targets_named t p (FeatureOf ids g) = omega (arith, length-map (filter (leads t p) ids) (λ q. AtFeature q g), fewer (leads t p) ids)

feature_led : (t : model.Outline) (n : FeatureRow) → length (feature_lines t n) ≤ times_leading n
unfolding feature_lines
feature_led t n = omega (arith, length-map (flat_map (targets t n.krate) n.meanings) (λ e. line t (AtFeature n.krate n.name) e Feature), spread (targets t n.krate) times_named n.meanings (targets_named t n.krate))

-- ---- all

pub drawn_within : (t : Outline) → length (planned_edges (outline_view t)) ≤ most_edges (outline_view t)
unfolding planned_edges
drawn_within t =
    let v = outline_view t in
    let first = links_drawn t t.links.items (links_behind t.links.items 0 t.ordered.links) t.ordered.ends in
    let second = spread (feature_lines v) times_leading v.features (feature_led v) in
    omega (arith, length-append (flat_map (crate_lines v) v.krates) (flat_map (feature_lines v) v.features), ap length (all_links t), first, second, fewer (joined t.links.items) t.toggled.items, length-map t.toggled.items (toggle_of (kids_in t)))

-- ---- counts that stay at their greatest value

capped_sum : (a b c m : ℕ) → min (min (min a m + b) m + min c m) m ≡ min (a + (b + c)) m
capped_sum a b c m = omega arith

capped_two : (a b c m : ℕ) → min (min (a + b) m + min c m) m ≡ min (a + (b + c)) m
capped_two a b c m = omega arith

capped_more : (a b m : ℕ) → min (min a m + b) m ≡ min (a + b) m
capped_more a b m = omega arith

capped_le : (a b m : ℕ) → a ≤ b → min a m ≤ min b m
capped_le a b m le = omega (arith, le)

-- three counts, added one after another
pub counted_parts : (given toggled led partly all a b c : ℕ) → given ≡ counted a → toggled ≡ b → led ≡ counted c → partly ≡ counted (given + toggled) → all ≡ counted (partly + led) → all ≡ counted (a + (b + c))
counted_parts given toggled led partly all a b c first second third two three =
    let both = two ∙ ap (λ n. counted (n + toggled)) first ∙ ap (λ n. counted (counted a + n)) second in
    three ∙ ap (λ n. counted (n + led)) both ∙ ap (λ n. counted (counted (counted a + b) + n)) third ∙ capped_sum a b c (2 ^ 64 - 1)

pub counted_two : (a b c : ℕ) → counted (counted (a + b) + counted c) ≡ counted (a + (b + c))
counted_two a b c = capped_two a b c (2 ^ 64 - 1)

pub counted_le : (a b : ℕ) → a ≤ b → counted a ≤ counted b
counted_le a b le = capped_le a b (2 ^ 64 - 1) le

module _ {A B : Type 0} (v : A → B) (f : B → ℕ) (xs : List A) where
  -- a loop counts one more
  pub counted_on : (i n next : ℕ) (x : A) → i < length xs → x ≡ get_or xs i x → n ≡ counted (sum_by f (map v (take i xs))) → next ≡ counted (n + f (v x))
      → next ≡ counted (sum_by f (map v (take (i + 1) xs)))
  counted_on i n next x lt is so_far more =
      let before = map v (take i xs) in
      more ∙ ap (λ k. counted (k + f (v x))) so_far ∙ capped_more (sum_by f before) (f (v x)) (2 ^ 64 - 1) ∙ ap counted (sym (sum_by_push f before (v x)))
      ∙ ap (λ ys. counted (sum_by f ys)) (sym (map_more v xs i x lt ∙ ap (λ y. before ++ v y ∷ []) (sym is)))

  -- all are counted
  pub counted_all : (i n : ℕ) → length xs ≤ i → n ≡ counted (sum_by f (map v (take i xs))) → n ≡ counted (sum_by f (map v xs))
  counted_all i n past so_far = so_far ∙ ap (λ ys. counted (sum_by f (map v ys))) (take_all i xs past)
