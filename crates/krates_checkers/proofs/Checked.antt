-- What a check says about the steps so far, and about the document.
use Rattle.std.proofs.Common.{◌≡◌, ◌↔◌, Bool, IsTrue, inl, inr, ℕ, suc, ◌+◌, ◌<◌, ◌≤◌, List, [], ◌∷◌, length, get_or, Some, option_map, refl, sym, ap, ◌∙◌, subst, arith}
use Rattle.std.proofs.lemmas.Bool.{cases_lt}
use Rattle.std.proofs.lemmas.Option.{slice_get-map, slice_get-get_or, same_Some}
use Rattle.std.specs.List.{AllZip, slice_get}
use Rattle.krates_cm.specs.Document.{MetadataModel}
use Rattle.krates_checkers.specs.Using.{using}
use Rattle.krates_rules.specs.StepViews.{fact_view, step_view, steps_view}
use Rattle.krates_rules.specs.declared.derivation.Step.{Step}
use Rattle.krates_rules.specs.Admission.{IdsModel, IsAdmitted}
use Rattle.krates_rules.specs.Checks.{Answers}
use Rattle.krates_rules.specs.Facts.{Fact}
use Rattle.krates_rules.specs.Questions.{questions}
use Rattle.krates_rules.specs.Resolved.{Resolved, HasGraphWith, resolved}
use Rattle.krates_rules.specs.Rules.{Questions, Rule}
use Rattle.krates_rules.specs.Setting.{SettingModel}
use Rattle.krates_rules.specs.Steps.{StepModel, IsEarlier, StepFollows, FailsFirst}

pub step_at : (steps : List Step) (number : ℕ) (x : Step) → number < length steps → x ≡ get_or steps number x → slice_get (steps_view steps) number ≡ Some (step_view x)
step_at steps number x lt is = slice_get-map step_view steps number ∙ ap (option_map step_view) (slice_get-get_or steps number x lt ∙ ap (λ y. Some y) (sym is))

-- ---- whether one step follows, as the code finds its premises

-- a step before another, as the code finds it
earlier_at : (steps : List Step) (number i : ℕ) (y : Step) → number < length steps → i < number → IsEarlier (steps_view steps) number i (fact_view (get_or steps i y).fact)
earlier_at steps number i y within lt = record {
  before = lt;
  step = step_view (get_or steps i y);
  at = slice_get-map step_view steps i ∙ ap (option_map step_view) (slice_get-get_or steps i y (omega arith));
  has = refl;
}

one_earlier : (steps : List StepModel) (number i : ℕ) (f g : Fact) → IsEarlier steps number i f → IsEarlier steps number i g → f ≡ g
one_earlier steps number i f g a b = sym a.has ∙ ap (λ (x : StepModel). x.fact) (same_Some a.step b.step (sym a.at ∙ b.at)) ∙ b.has

-- the steps used determine one list of facts
one_list : (steps : List StepModel) (number : ℕ) (uses : List ℕ) (ps qs : List Fact) → AllZip (IsEarlier steps number) uses ps → AllZip (IsEarlier steps number) uses qs → ps ≡ qs
one_list steps number [] [] [] a b = refl
one_list steps number [] (p ∷ ps) qs a b = absurd a
one_list steps number [] [] (q ∷ qs) a b = absurd b
one_list steps number (i ∷ is) [] qs a b = absurd a
one_list steps number (i ∷ is) (p ∷ ps) [] a b = absurd b
one_list steps number (i ∷ is) (p ∷ ps) (q ∷ qs) a b = rw (one_earlier steps number i p q a.0 b.0, one_list steps number is ps qs a.1 b.1) refl

long_alike : (steps : List StepModel) (number : ℕ) (uses : List ℕ) (ps : List Fact) → AllZip (IsEarlier steps number) uses ps → length uses ≡ length ps
long_alike steps number [] [] a = refl
long_alike steps number [] (p ∷ ps) a = absurd a
long_alike steps number (i ∷ is) [] a = absurd a
long_alike steps number (i ∷ is) (p ∷ ps) a = ap suc (long_alike steps number is ps a.1)

follows_told : (q : Questions) (steps : List StepModel) (number : ℕ) (x : StepModel) (premises : List Fact) (b : Bool) → AllZip (IsEarlier steps number) x.uses premises
    → (IsTrue b ↔ Rule q x.rule premises x.fact) → IsTrue b ↔ StepFollows q steps number x
follows_told q steps number x premises b z told = (
  λ t. record { premises = premises; uses = z; rule = told.0 t },
  λ s. told.1 (subst (λ ps. Rule q x.rule ps x.fact) (one_list steps number x.uses s.premises premises s.uses z) s.rule),
)

single : (xs : List ℕ) → 1 ≤ length xs → length xs < 2 → xs ≡ get_or xs 0 0 ∷ []
single [] a b = absurd (omega (arith, a))
single (x ∷ []) a b = refl
single (x ∷ y ∷ xs) a b = absurd (omega (arith, b))

double : (xs : List ℕ) → 2 ≤ length xs → length xs < 3 → xs ≡ get_or xs 0 0 ∷ get_or xs 1 0 ∷ []
double [] a b = absurd (omega (arith, a))
double (x ∷ []) a b = absurd (omega (arith, a))
double (x ∷ y ∷ []) a b = refl
double (x ∷ y ∷ z ∷ xs) a b = absurd (omega (arith, b))

-- the step uses one other step
pub one_used : (x : Step) (ys : List ℕ) → ys ≡ x.uses.items → 1 ≤ length ys → length ys < 2 → using x (get_or ys 0 0 ∷ []) ≡ step_view x
one_used x ys is least most = ap (using x) (sym (single ys least most) ∙ is)

-- the step uses two other steps
pub two_used : (x : Step) (ys : List ℕ) → ys ≡ x.uses.items → 2 ≤ length ys → length ys < 3 → using x (get_or ys 0 0 ∷ get_or ys 1 0 ∷ []) ≡ step_view x
two_used x ys is least most = ap (using x) (sym (double ys least most) ∙ is)

-- a step that uses one step before it
pub one_told : (q : Questions) (steps : List Step) (number i : ℕ) (x y : Step) (b : Bool) → number < length steps → i < number
    → (IsTrue b ↔ Rule q x.rule (fact_view (get_or steps i y).fact ∷ []) (fact_view x.fact)) → IsTrue b ↔ StepFollows q (steps_view steps) number (using x (i ∷ []))
one_told q steps number i x y b within lt told = follows_told q (steps_view steps) number (using x (i ∷ [])) _ b (earlier_at steps number i y within lt, tt) told

-- a step that uses two steps before it
pub two_told : (q : Questions) (steps : List Step) (number i j : ℕ) (x y z : Step) (b : Bool) → number < length steps → i < number → j < number
    → (IsTrue b ↔ Rule q x.rule (fact_view (get_or steps i y).fact ∷ fact_view (get_or steps j z).fact ∷ []) (fact_view x.fact)) → IsTrue b ↔ StepFollows q (steps_view steps) number (using x (i ∷ j ∷ []))
two_told q steps number i j x y z b within lt low told =
    follows_told q (steps_view steps) number (using x (i ∷ j ∷ [])) _ b (earlier_at steps number i y within lt, (earlier_at steps number j z within low, tt)) told

no_many : (q : Questions) (n : ℕ) (ps : List Fact) (f : Fact) → 3 ≤ length ps → Rule q n ps f → ⊥
no_many q n [] f le r = absurd (omega (arith, le))
no_many q n (a ∷ []) f le r = absurd (omega (arith, le))
no_many q n (a ∷ b ∷ []) f le r = absurd (omega (arith, le))
no_many q n (a ∷ b ∷ c ∷ ds) f le r = elim r [ ]

-- no rule takes more than two
pub many_used : (q : Questions) (steps : List Step) (number : ℕ) (x : Step) (ys : List ℕ) → ys ≡ x.uses.items → 3 ≤ length ys → StepFollows q (steps_view steps) number (step_view x) → ⊥
many_used q steps number x ys is le s =
    let same = ap length is ∙ long_alike (steps_view steps) number x.uses.items s.premises s.uses in
    no_many q x.rule s.premises (fact_view x.fact) (subst (λ (n : ℕ). 3 ≤ n) same le) s.rule

-- ---- the steps so far

-- one more step follows
pub one_more : (q : Questions) (steps : List Step) (number : ℕ) (x : Step) → number < length steps → x ≡ get_or steps number x → StepFollows q (steps_view steps) number (step_view x)
    → ((k : ℕ) (y : StepModel) → k < number → slice_get (steps_view steps) k ≡ Some y → StepFollows q (steps_view steps) k y)
    → (k : ℕ) (y : StepModel) → k < number + 1 → slice_get (steps_view steps) k ≡ Some y → StepFollows q (steps_view steps) k y
one_more q steps number x lt is here h k y low at = elim (cases_lt k number) [
  | inl lower ↦ h k y lower at
  | inr le ↦ (
      let e : number ≡ k = omega arith in
      let there = step_at steps number x lt is in
      let same : step_view x ≡ y = same_Some (step_view x) y (sym there ∙ ap (λ n. slice_get (steps_view steps) n) e ∙ at) in
      subst (λ n. StepFollows q (steps_view steps) n y) e (subst (StepFollows q (steps_view steps) number) same here))
]

-- a step that doesn't follow is the first such step
pub first_fails : (q : Questions) (steps : List Step) (number : ℕ) (x : Step) → number < length steps → x ≡ get_or steps number x → (StepFollows q (steps_view steps) number (step_view x) → ⊥)
    → ((k : ℕ) (y : StepModel) → k < number → slice_get (steps_view steps) k ≡ Some y → StepFollows q (steps_view steps) k y) → FailsFirst q (steps_view steps) number
first_fails q steps number x lt is fails before = record { step = step_view x; at = step_at steps number x lt is; fails = fails; before = before }

-- ---- of a document

-- what is promised about a document that can be resolved
pub answering : (m : MetadataModel) (s : SettingModel) (ids : IdsModel) (r : Resolved) (P : Questions → Type 0) → IsAdmitted m ids → HasGraphWith m (λ g. r ≡ resolved m g) → P (questions r s) → Answers m s P
answering m s ids r P admitted has h = record {
  ids = ids;
  admitted = admitted;
  holds = record { graph = has.graph; has_graph = has.has_graph; holds = subst (λ x. P (questions x s)) has.holds h };
}
