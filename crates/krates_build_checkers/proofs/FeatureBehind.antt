-- What follows a name and `/` in a text.
use Rattle.std.proofs.Common.{◌≡◌, ◌≢◌, ℕ, List, [], ◌∷◌, ◌++◌, Bool, true, false, cond, eqb, Bor, MatchOption, Option, Some, None, option_map, refl, ap, ◌∙◌, subst, sym, eqb-true}
use Rattle.std.proofs.lemmas.Bool.{eq-eqb}
use Rattle.krates_cm.specs.Document.{Text}
use Rattle.krates_build_facts.specs.Rows.{feature_behind}

unless_same : (x y : ℕ) (answer : Option Text) (b : Bool) → eqb x y ≡ b → (x ≡ y → answer ≡ None) → cond b answer None ≡ None
unless_same x y answer true e h = h (eqb-true x y e)
unless_same x y answer false e h = refl

-- a text that doesn't begin with the name
pub none_behind : (name text : Text) → ((rest : Text) → text ≢ name ++ rest) → feature_behind name text ≡ None
none_behind [] text h = absurd (h text refl)
none_behind (x ∷ name) [] h = refl
none_behind (x ∷ name) (y ∷ text) h =
    unless_same x y (feature_behind name text) (eqb x y) refl (λ same. none_behind name text (λ rest is. h rest (rw (same, is) refl)))

behind_name : (name rest : Text) → feature_behind name (name ++ rest) ≡ feature_behind [] rest
behind_name [] rest = refl
behind_name (x ∷ name) rest = rw (eq-eqb x x refl) (behind_name name rest)

behind_slash : (rest : Text) (r : Option (Bor Text)) → MatchOption r ((feature : Text) → rest ≢ 47 ∷ feature) (λ x. rest ≡ 47 ∷ x.now) → option_map (λ x. x.now) r ≡ feature_behind [] rest
behind_slash [] None h = refl
behind_slash [] (Some x) h = absurd cc
behind_slash (y ∷ rest) (Some x) h =
    let head : y ≡ 47 = cc in
    let tail : rest ≡ x.now = cc in
    rw (head, tail) refl
behind_slash (y ∷ rest) None h = sym (unless_same y 47 (Some rest) (eqb y 47) refl (λ same. absurd (h rest (rw same refl))))

pub feature_is : (name text rest : Text) (r : Option (Bor Text)) → text ≡ name ++ rest → MatchOption r ((feature : Text) → rest ≢ 47 ∷ feature) (λ x. rest ≡ 47 ∷ x.now)
    → option_map (λ x. x.now) r ≡ feature_behind name text
feature_is name text rest r is cases = behind_slash rest r cases ∙ sym (behind_name name rest) ∙ ap (feature_behind name) (sym is)
