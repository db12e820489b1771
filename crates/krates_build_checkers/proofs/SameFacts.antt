-- Facts and lists of facts that are the same.
use Rattle.std.proofs.Common.{◌≡◌, ◌↔◌, ℕ, zero, suc, ◌+◌, ◌<◌, ◌≤◌, Bool, IsTrue, List, [], ◌∷◌, ◌++◌, Ordering, Some, get_or, length, map, drop, option_map, slice_get, take, length-append, arith, refl, sym, ap, ◌∙◌}
use Rattle.std.proofs.lemmas.List.{drop-map, drop_at, length-map, map_more, take-map, take_all, take_at}
use Rattle.std.proofs.lemmas.Option.{same_Some, slice_get-get_or, slice_get-map}
use Rattle.std.specs.Ordering.{is_eq}
use Rattle.krates_rules.proofs.PutElements.{equal_is, is_equal}
use Rattle.krates_build_facts.specs.FactModels.{FactModel, RuleModel, fact_view}
use Rattle.krates_build_facts.specs.FactOrder.{fact_cmp}
use Rattle.krates_build_facts.specs.Rows.{rule}
use Rattle.krates_build_facts.specs.declared.facts.BuildFact.{BuildFact}
use Rattle.krates_build_facts.proofs.FactOrder.{fact_tells}

pub same_told : (o : Ordering) (b : Bool) (x y : BuildFact) → o ≡ fact_cmp x y → b ≡ is_eq o → IsTrue b ↔ (fact_view x ≡ fact_view y)
same_told o b x y order is = (
  λ t. (fact_tells x y).0 (sym order ∙ is_equal o (sym is ∙ t)),
  λ e. is ∙ equal_is o (order ∙ (fact_tells x y).1 e),
)

-- ---- two lists, place by place

-- the lists are the same as far as one more element, if they are before it
pub same_more : {A B : Type 0} (f : A → FactModel) (g : B → FactModel) (xs : List A) (ys : List B) (i : ℕ) (x : A) (y : B) → i < length xs → i < length ys → x ≡ get_or xs i x → y ≡ get_or ys i y
    → f x ≡ g y → map f (take i xs) ≡ map g (take i ys) → map f (take (i + 1) xs) ≡ map g (take (i + 1) ys)
same_more {A} {B} f g xs ys i x y one other is at same before =
    map_more f xs i x one ∙ ap (λ (z : A). map f (take i xs) ++ f z ∷ []) (sym is)
    ∙ ap (λ (fs : List FactModel). fs ++ f x ∷ []) before ∙ ap (λ (z : FactModel). map g (take i ys) ++ z ∷ []) same
    ∙ sym (map_more g ys i y other ∙ ap (λ (z : B). map g (take i ys) ++ g z ∷ []) (sym at))

-- the same lists have the same elements
pub same_at : {A B : Type 0} (f : A → FactModel) (g : B → FactModel) (xs : List A) (ys : List B) (i : ℕ) (d : A) (e : B) → i < length xs → i < length ys → map f xs ≡ map g ys → f (get_or xs i d) ≡ g (get_or ys i e)
same_at f g xs ys i d e one other same =
    let here : slice_get (map f xs) i ≡ Some (f (get_or xs i d)) = slice_get-map f xs i ∙ ap (option_map f) (slice_get-get_or xs i d one) in
    let there : slice_get (map g ys) i ≡ Some (g (get_or ys i e)) = slice_get-map g ys i ∙ ap (option_map g) (slice_get-get_or ys i e other) in
    same_Some (f (get_or xs i d)) (g (get_or ys i e)) (sym here ∙ ap (λ (fs : List FactModel). slice_get fs i) same ∙ there)

pub same_all : {A B : Type 0} (f : A → FactModel) (g : B → FactModel) (xs : List A) (ys : List B) (i : ℕ) → length xs ≤ i → length ys ≤ i → map f (take i xs) ≡ map g (take i ys) → map f xs ≡ map g ys
same_all f g xs ys i one other same = sym (ap (map f) (take_all i xs one)) ∙ same ∙ ap (map g) (take_all i ys other)

pub as_long : {A B : Type 0} (f : A → FactModel) (g : B → FactModel) (xs : List A) (ys : List B) → map f xs ≡ map g ys → length xs ≡ length ys
as_long f g xs ys same = sym (length-map xs f) ∙ ap length same ∙ length-map ys g

-- ---- a list in two parts

joined : (n : ℕ) (xs : List BuildFact) → map fact_view (take n xs) ++ map fact_view (drop n xs) ≡ map fact_view xs
joined zero xs = refl
joined (suc n) [] = refl
joined (suc n) (x ∷ xs) = ap (λ (fs : List FactModel). fact_view x ∷ fs) (joined n xs)

pub first_part : (first rest : List FactModel) (facts : List BuildFact) (n : ℕ) → length first ≡ n → first ++ rest ≡ map fact_view facts → first ≡ map fact_view (take n facts)
first_part first rest facts n long same = sym (take_at first rest n long) ∙ ap (take n) same ∙ take-map fact_view n facts

pub last_part : (first rest : List FactModel) (facts : List BuildFact) (n : ℕ) → length first ≡ n → first ++ rest ≡ map fact_view facts → rest ≡ map fact_view (drop n facts)
last_part first rest facts n long same = sym (drop_at first rest n long) ∙ ap (drop n) same ∙ drop-map fact_view n facts

pub both_parts : (first rest : List FactModel) (facts : List BuildFact) (n : ℕ) → first ≡ map fact_view (take n facts) → rest ≡ map fact_view (drop n facts) → first ++ rest ≡ map fact_view facts
both_parts first rest facts n one other = rw (one, other) (joined n facts)

pub long_enough : (first rest : List FactModel) (facts : List BuildFact) → first ++ rest ≡ map fact_view facts → length first ≤ length facts
long_enough first rest facts same =
    let all : length first + length rest ≡ length facts = sym (length-append first rest) ∙ ap length same ∙ length-map facts fact_view in
    omega (arith, all)

-- ---- instances

pub rule_is : (ps qs : List FactModel) (f g : FactModel) → f ≡ g → ps ≡ qs → rule ps f ≡ rule qs g
rule_is ps qs f g a b = rw (a, b) refl

pub premises_are : (ps qs : List FactModel) (f g : FactModel) → rule ps f ≡ rule qs g → ps ≡ qs
premises_are ps qs f g e = ap (λ (r : RuleModel). r.premises) e

pub fact_is : (ps qs : List FactModel) (f g : FactModel) → rule ps f ≡ rule qs g → f ≡ g
fact_is ps qs f g e = ap (λ (r : RuleModel). r.fact) e
