-- Steps that are picked one by one.
use Rattle.std.proofs.Common.{◌≡◌, inl, inr, ℕ, zero, suc, ◌+◌, ◌<◌, ◌≤◌, List, [], ◌∷◌, ◌++◌, All, length, get_or, map, Some, option_map, length-append, refl, sym, ap, ◌∙◌, subst, arith}
use Rattle.std.proofs.lemmas.List.{length-map}
use Rattle.std.proofs.lemmas.Option.{slice_get-map, slice_get_read, slice_get-get_or, same_Some}
use Rattle.std.specs.List.{slice_get}
use Rattle.krates_rules.specs.StepViews.{fact_view, step_view, steps_view}
use Rattle.krates_rules.specs.declared.derivation.Step.{Step}
use Rattle.krates_selection.specs.KeptFacts.{AreChosen, IsChosenIn, explained_steps, kids_of, fact_in, kept_view, step_in, key_view}
use Rattle.krates_selection.specs.declared.kept.Explanation.{Explanation}
use Rattle.krates_selection.specs.declared.kept.KeptStep.{KeptStep}
use Rattle.krates_selection.specs.declared.key.KeptFactKey.{KeptFactKey}
use Rattle.krates_selection.specs.declared.trace.NumberedStep.{NumberedStep}
use Rattle.krates_selection.proofs.Places.{last_of}
use Rattle.krates_rules.specs.Uses.{numbers_used}
use Rattle.krates_rules.specs.declared.uses.Uses.{Uses}
use Rattle.krates_selection.specs.PartOfSteps.{ArePicked, IsPicked}

-- an element of the list of views is the view of an element
pub seen_back : {A B : Type 0} (f : A → B) (xs : List A) (k : ℕ) (y : B) → slice_get (map f xs) k ≡ Some y → (x : A) × (slice_get xs k ≡ Some x) × (f x ≡ y)
seen_back f [] k y at = absurd cc
seen_back f (x ∷ xs) zero y at = (x, refl, same_Some (f x) y at)
seen_back f (x ∷ xs) (suc k) y at = seen_back f xs k y at

-- the property holds of each element so far, at its place
pub record EachSoFar {A : Type 0} (P : ℕ → A → Type 0) (n : ℕ) (xs : List A) : Type 0 where
  pub long : length xs ≡ n
  pub each : (k : ℕ) (x : A) → slice_get xs k ≡ Some x → P k x

pub none_yet : {A : Type 0} (P : ℕ → A → Type 0) (xs : List A) → xs ≡ [] → EachSoFar P 0 xs
none_yet P xs e = record { long = ap length e; each = λ k x at. absurd (let no = sym (ap (λ ys. slice_get ys k) e) ∙ at in cc) }

pub one_more : {A : Type 0} (P : ℕ → A → Type 0) (n : ℕ) (xs : List A) (y : A) → EachSoFar P n xs → P n y → EachSoFar P (n + 1) (xs ++ y ∷ [])
one_more P n xs y h here = record {
  long = omega (arith, length-append xs (y ∷ []), h.long);
  each = λ k x at. elim (last_of xs y k x at) [
    | inl there ↦ h.each k x there
    | inr is ↦ (let k_is : k ≡ n = is.0 ∙ h.long in subst (λ j. P j x) (sym k_is) (subst (P n) (sym is.1) here))
  ];
}

-- ---- a part, as steps with ids

abbrev pub IsPickedStep : Explanation → List ℕ → List Uses → ℕ → Step → Type 0
IsPickedStep e chosen part k x = IsPicked (explained_steps e) chosen part k (step_view x)

pub picked_here : (e : Explanation) (chosen items : List ℕ) (part : List Uses) (place : ℕ) (s : KeptStep) (u : Uses) (y : Step) → items ≡ chosen → place < length items → length part ≡ length chosen → All (λ n. n < length e.steps.now) chosen
    → s ≡ get_or e.steps.now (get_or items place 0) s → u ≡ get_or part place u → y.rule ≡ s.rule → fact_view y.fact ≡ fact_in (kids_of e) (kept_view s.fact) → y.uses.items ≡ numbers_used u → IsPickedStep e chosen part place y
picked_here e chosen items part place s u y same lt long within s_is u_is rule fact uses =
    let number = get_or items place 0 in
    let steps = e.steps.now in
    let low : number < length steps = subst (λ (ns : List ℕ). All (λ n. n < length steps) ns) (sym same) within place 0 lt in
    let at = slice_get_read steps (length steps) number s refl low s_is in
    record {
      before = number;
      chosen_at = subst (λ (ns : List ℕ). slice_get ns place ≡ Some number) same (slice_get-get_or items place 0 lt);
      old = step_in (kids_of e) s;
      at = slice_get-map (step_in (kids_of e)) steps number ∙ ap (option_map (step_in (kids_of e))) at;
      rule = rule;
      fact = fact;
      uses = u;
      here = slice_get_read part (length part) place u refl (omega (arith, lt, long, ap length same)) u_is;
      used = uses;
    }

pub all_picked : (e : Explanation) (chosen items : List ℕ) (part : List Uses) (n : ℕ) (steps : List Step) → items ≡ chosen → length items ≤ n → n ≤ length items → EachSoFar (IsPickedStep e chosen part) n steps → ArePicked (explained_steps e) chosen part (steps_view steps)
all_picked e chosen items part n steps same low high h = record {
  long = omega (arith, length-map steps step_view, h.long, ap length same, low, high);
  each = λ k x at. (
      let w = seen_back step_view steps k x at in
      subst (IsPicked (explained_steps e) chosen part k) w.2 (h.each k w.0 w.1));
}

-- ---- chosen steps

-- one more step is chosen
pub chosen_next : (keys : List KeptFactKey) (steps : List NumberedStep) (chosen items : List ℕ) (part : List Uses) (place : ℕ) (key : KeptFactKey) (u : Uses) (old new : List KeptStep) (y : KeptStep) (d : NumberedStep) → new ≡ old ++ y ∷ []
    → y.rule ≡ (get_or steps (get_or items place 0) d).reason.rule → y.uses ≡ u → kept_view y.fact ≡ key_view key → items ≡ chosen → place < length items → length part ≡ length chosen → length keys ≡ length steps → All (λ n. n < length steps) chosen
    → key ≡ get_or keys (get_or items place 0) key → u ≡ get_or part place u → EachSoFar (IsChosenIn keys steps chosen part) place old → EachSoFar (IsChosenIn keys steps chosen part) (place + 1) new
chosen_next keys steps chosen items part place key u old new y d pushed rule uses fact same lt long both within key_is u_is h =
    let number = get_or items place 0 in
    let low : number < length steps = subst (λ (ns : List ℕ). All (λ n. n < length steps) ns) (sym same) within place 0 lt in
    let here : IsChosenIn keys steps chosen part place y = record {
      number = number;
      chosen_at = subst (λ (ns : List ℕ). slice_get ns place ≡ Some number) same (slice_get-get_or items place 0 lt);
      uses = u;
      uses_at = slice_get_read part (length part) place u refl (omega (arith, lt, long, ap length same)) u_is;
      is = record {
        key = key;
        key_at = slice_get_read keys (length keys) number key refl (omega (arith, low, both)) key_is;
        fact = fact;
        step = get_or steps number d;
        step_at = slice_get-get_or steps number d low;
        rule = rule;
        uses_is = uses;
      };
    } in
    subst (EachSoFar (IsChosenIn keys steps chosen part) (place + 1)) (sym pushed) (one_more (IsChosenIn keys steps chosen part) place old y h here)

pub all_chosen : (keys : List KeptFactKey) (steps : List NumberedStep) (chosen items : List ℕ) (part : List Uses) (n : ℕ) (kept : List KeptStep) → items ≡ chosen → length items ≤ n → n ≤ length items → EachSoFar (IsChosenIn keys steps chosen part) n kept
    → AreChosen keys steps chosen part kept
all_chosen keys steps chosen items part n kept same low high h = record { long = omega (arith, h.long, ap length same, low, high); each = h.each }
