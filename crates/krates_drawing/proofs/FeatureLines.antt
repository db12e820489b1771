-- What features lead to: the crates that their references name, by number.
use Rattle.std.proofs.Common.{◌≡◌, ◌<◌, ◌≤◌, ℕ, suc, Bool, true, false, ◌||◌, List, [], ◌∷◌, ◌++◌, cond, filter, get_or, length, map, refl, sym, ap, ◌∙◌, arith, append_assoc}
use Rattle.std.proofs.lemmas.Bool.{and_parts}
use Rattle.std.proofs.lemmas.List.{map-append}
use Rattle.std.proofs.lemmas.List.Folds.{list_any_none}
use Rattle.std.specs.List.{list_any}
use Rattle.krates_selection.specs.Selection.{id_at}
use Rattle.krates_rules.specs.Facts.{Id}
use Rattle.krates_drawing.specs.Drawing.{AtFeature, Endpoint, PlannedEdge, id_eq, is_crate, is_link, leads, place_of, targets}
use Rattle.krates_drawing.specs.LinesFrom.{IsNumberOfChild, end_of, line_from, referents}
use Rattle.krates_drawing.specs.Outline as model
use Rattle.krates_drawing.specs.Outline.{Meaning, OwnFeature, Crates, FeatureOf}
use Rattle.krates_drawing.specs.OutlineOrder.{has_ends}
use Rattle.krates_drawing.specs.Views.{kids_in, kids_of, crate_row_view, edge_row_view, meaning_view, outline_view}
use Rattle.krates_drawing.specs.declared.outline.CrateRow.{CrateRow}
use Rattle.krates_drawing.specs.declared.outline.Meaning as row
use Rattle.krates_drawing.specs.declared.outline.Meaning.TheVariants as variants
use Rattle.krates_drawing.specs.declared.outline.Outline.{Outline}
use Rattle.krates_drawing.proofs.CratePlaces.{linked, own_number}
use Rattle.krates_drawing.proofs.NodeNumbers.{id_is}

-- ---- the number of a crate that a name means

found_step : (q : Id) (k : CrateRow) (ks : List CrateRow) (b : Bool) → is_crate q (crate_row_view k) ≡ b → (place_of (is_crate q) (map crate_row_view ks) < length ks → id_at (kids_of ks) (place_of (is_crate q) (map crate_row_view ks)) ≡ q)
    → cond b 0 (suc (place_of (is_crate q) (map crate_row_view ks))) < suc (length ks) → id_at (kids_of (k ∷ ks)) (cond b 0 (suc (place_of (is_crate q) (map crate_row_view ks)))) ≡ q
found_step q k ks true e more lt = id_is (crate_row_view k).id q e
found_step q k ks false e more lt = more (omega (arith, lt))

found_here : (q : Id) (ks : List CrateRow) → place_of (is_crate q) (map crate_row_view ks) < length ks → id_at (kids_of ks) (place_of (is_crate q) (map crate_row_view ks)) ≡ q
found_here q [] lt = absurd (omega (arith, lt))
found_here q (k ∷ ks) lt = found_step q k ks (is_crate q (crate_row_view k)) refl (found_here q ks) lt

id_found : (q : Id) (ks : List CrateRow) (n : ℕ) → n ≡ place_of (is_crate q) (map crate_row_view ks) → n < length ks → id_at (kids_of ks) n ≡ q
id_found q ks n is lt = ap (id_at (kids_of ks)) is ∙ found_here q ks (omega (arith, is, lt))

-- whether an edge leads to it, by number
link_found : (t : Outline) (p n : ℕ) (q : Id) → p < length t.krates.items → n ≡ place_of (is_crate q) (map crate_row_view t.krates.items) → n < length t.krates.items → leads (outline_view t) (id_at (kids_in t) p) q ≡ list_any (has_ends p n) t.links.items
link_found t p n q from is lt = ap (leads (outline_view t) (id_at (kids_in t) p)) (sym (id_found q t.krates.items n is lt)) ∙ linked t.krates.items p n t.ordered.krates from lt t.links.items t.ordered.ends

pub child_found : (t : Outline) (p n : ℕ) (q : Id) → p < length t.krates.items → n ≡ place_of (is_crate q) (map crate_row_view t.krates.items) → n < length t.krates.items → list_any (has_ends p n) t.links.items ≡ true → IsNumberOfChild t p q n
child_found t p n q from is lt some = record { within = lt; id = id_found q t.krates.items n is lt; is_led_to = link_found t p n q from is lt ∙ some }

pub not_led : (t : Outline) (p n : ℕ) (q : Id) → p < length t.krates.items → n ≡ place_of (is_crate q) (map crate_row_view t.krates.items) → n < length t.krates.items → list_any (has_ends p n) t.links.items ≡ false → leads (outline_view t) (id_at (kids_in t) p) q ≡ false
not_led t p n q from is lt none = link_found t p n q from is lt ∙ none

any_under : {A B : Type 0} (v : A → B) (p : B → Bool) (xs : List A) → list_any p (map v xs) ≡ list_any (λ x. p (v x)) xs
any_under v p [] = refl
any_under v p (x ∷ xs) = ap (λ b. p (v x) || b) (any_under v p xs)

-- no edge leads to a crate that isn't kept
pub not_kept : (t : Outline) (p n : ℕ) (q : Id) → n ≡ place_of (is_crate q) (map crate_row_view t.krates.items) → length t.krates.items ≤ n → leads (outline_view t) (id_at (kids_in t) p) q ≡ false
not_kept t p n q is past =
    let v = edge_row_view (kids_in t) in
    let i = id_at (kids_in t) p in
    any_under v (is_link i q) t.links.items ∙ list_any_none (λ l. is_link i q (v l)) t.links.items (λ k d lt. fails (get_or t.links.items k d).edge.child (t.ordered.ends k d lt).child (is_link i q (v (get_or t.links.items k d))) (λ e. (and_parts _ _ e).1))
  where
    fails : (child : ℕ) → child < length t.krates.items → (b : Bool) → (b ≡ true → id_eq (id_at (kids_in t) child) q ≡ true) → b ≡ false
    fails child lt true e =
        let same : n ≡ child = is ∙ ap (λ i. place_of (is_crate i) (map crate_row_view t.krates.items)) (sym (id_is (id_at (kids_in t) child) q (e refl))) ∙ own_number t.krates.items child t.ordered.krates lt in
        absurd (omega (arith, same, lt, past))
    fails child lt false e = refl

-- ---- what a reference names

-- a feature of its own crate
abbrev pub own_ends : Id → Meaning → List Endpoint
own_ends p (OwnFeature g) = AtFeature p g ∷ []
own_ends p _ = []

pub none_own : (p : Id) (m : row.Meaning) → ((name : _) → m ≡ variants.OwnFeature name → ⊥) → own_ends p (meaning_view m) ≡ []
none_own p (variants.OwnFeature name) h = absurd (h name refl)
none_own p (variants.Crates krates) h = refl
none_own p (variants.FeatureOf krates name) h = refl

-- and what it names of the crates to which an edge leads
pub targets_are : (t : model.Outline) (p : Id) (m : Meaning) → targets t p m ≡ own_ends p m ++ map (end_of m) (filter (leads t p) (referents m))
targets_are t p (OwnFeature g) = refl
targets_are t p (Crates ids) = refl
targets_are t p (FeatureOf ids g) = refl

-- both, drawn from one node
pub meaning_drawn : (t : model.Outline) (source : ℕ) (own : Id) (m : Meaning) (old out : List PlannedEdge) (ids : List Id) → ids ≡ referents m → out ≡ old ++ map (line_from t source) (own_ends own m)
    → out ++ map (line_from t source) (map (end_of m) (filter (leads t own) ids)) ≡ old ++ map (line_from t source) (targets t own m)
meaning_drawn t source own m old out ids same drawn =
    let drawn_to = map (line_from t source) in
    let there : List Id → List Endpoint = λ is. map (end_of m) (filter (leads t own) is) in
    ap (λ l. l ++ drawn_to (there ids)) drawn ∙ append_assoc old (drawn_to (own_ends own m)) (drawn_to (there ids)) ∙ ap (λ l. old ++ l) (sym (map-append (line_from t source) (own_ends own m) (there ids)))
    ∙ ap (λ is. old ++ drawn_to (own_ends own m ++ there is)) same ∙ ap (λ l. old ++ drawn_to l) (sym (targets_are t own m))
