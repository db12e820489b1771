-- What words name, one list of words after another, and steps behind those before them.
use Rattle.std.proofs.Common.{◌≡◌, ◌∙◌, ℕ, ◌+◌, ◌<◌, ◌≤◌, List, [], ◌∷◌, ◌++◌, Global, Option, Some, String, codes, get_or, length, map, option_map, slice_get, string_bytes, take, ap, arith, refl, subst, sym}
use Rattle.std.proofs.lemmas.List.{length-map, length-take-le, length_push, map_more, map_push, take-map, take_more}
use Rattle.std.proofs.lemmas.List.Elements.{Contains-get_or}
use Rattle.std.proofs.lemmas.Option.{slice_get-get_or, slice_get-map}
use Rattle.krates_cm.specs.Document.{Text}
use Rattle.krates_build_certificate.specs.BuildCertificateViews.{ToldStep, step_told}
use Rattle.krates_build_certificate.specs.declared.step.NamedStep.{NamedStep}
use Rattle.krates_build_facts.specs.FactModels.{FactModel, RuleModel, fact_view}
use Rattle.krates_build_facts.specs.declared.facts.BuildFact.{BuildFact}
use Rattle.krates_build_facts.specs.Steps.{given_in, step_view}
use Rattle.krates_build_facts.specs.declared.steps.BuildStep.{BuildStep}
use Rattle.krates_build_naming.specs.NamedFacts.{fact_of}
use Rattle.krates_build_naming.specs.declared.names.FactNames.{FactNames}
use Rattle.krates_build_verdict.specs.ClaimRefusals.{FactFails, FactsRefusal, IsLater, IsUnnamed, StepFails, StepRefusal, StepsRefusal}
use Rattle.krates_build_verdict.specs.NamedClaims.{GivesFacts, NamesFacts, NamesStep, NamesSteps, none, one_more}
use Rattle.krates_build_verdict.specs.declared.refusal.BuildRefusal.{BuildRefusal}
use Rattle.krates_build_verdict.specs.declared.refusal.BuildRefusal.TheVariants as refusals

-- ---- items of a list as they are seen

pub seen_more : {A B : Type 0} (see : A → B) (xs : List A) (i : ℕ) (x : A) → i < length xs → x ≡ get_or xs i x → map see (take (i + 1) xs) ≡ map see (take i xs) ++ see x ∷ []
seen_more {A} see xs i x lt is = map_more see xs i x lt ∙ ap (λ (y : A). map see (take i xs) ++ see y ∷ []) (sym is)

pub seen_here : {A B : Type 0} (see : A → B) (xs : List A) (i : ℕ) (x : A) → i < length xs → x ≡ get_or xs i x → slice_get (map see xs) i ≡ Some (see x)
seen_here {A} see xs i x lt is = slice_get-map see xs i ∙ ap (option_map see) (slice_get-get_or xs i x lt ∙ ap (λ (y : A). Some y) (sym is))

-- what is told of each of the first items, and one more
pub told_more : {A B : Type 0} (tell : A → Option B) (xs : List A) (ys : List B) (x : A) (y : B) → map tell xs ≡ map (λ z. Some z) ys → tell x ≡ Some y
    → map tell (xs ++ x ∷ []) ≡ map (λ z. Some z) (ys ++ y ∷ [])
told_more {A} {B} tell xs ys x y h is =
    map_push tell xs x ∙ ap (λ (zs : List (Option B)). zs ++ tell x ∷ []) h ∙ ap (λ (z : Option B). map (λ w. Some w) ys ++ z ∷ []) is
    ∙ sym (map_push (λ w. Some w) ys y)

-- they are as many
pub told_length : {A B : Type 0} (tell : A → Option B) (xs : List A) (ys : List B) → map tell xs ≡ map (λ z. Some z) ys → length ys ≡ length xs
told_length tell xs ys h = sym (length-map ys (λ z. Some z)) ∙ sym (ap length h) ∙ length-map xs tell

-- ---- facts

by_facts : (n : FactNames) (named : List (List Text)) (e : BuildRefusal) → FactFails n named e → FactsRefusal n named e
by_facts n named refusals.Utf8 h = h
by_facts n named (refusals.Certificate _) h = h
by_facts n named (refusals.Setting _) h = h
by_facts n named (refusals.Count _ _) h = h
by_facts n named (refusals.Machine _) h = h
by_facts n named (refusals.NoMachine _ _) h = h
by_facts n named (refusals.Document _) h = h
by_facts n named (refusals.Unanswered _) h = h
by_facts n named (refusals.Unnamed _ _ _) h = h
by_facts n named (refusals.Later _ _) h = h
by_facts n named (refusals.Lost _) h = h
by_facts n named (refusals.Check _) h = h
by_facts n named refusals.Memory h = tt

-- the words of one more item name one more fact
pub facts_more : {A : Type 0} (n : FactNames) (see : A → List Text) (xs : List A) (i : ℕ) (x : A) (made new : List BuildFact) (f : BuildFact) → i < length xs → x ≡ get_or xs i x → new ≡ made ++ f ∷ []
    → NamesFacts n (map see (take i xs)) (map fact_view made) → (fact_of n (see x)).value ≡ Some (fact_view f) → NamesFacts n (map see (take (i + 1) xs)) (map fact_view new)
facts_more n see xs i x made new f lt is grown so_far named =
    let seen : map see (take (i + 1) xs) ≡ map see (take i xs) ++ see x ∷ [] = seen_more see xs i x lt is in
    let facts : map fact_view new ≡ map fact_view made ++ fact_view f ∷ [] = ap (map fact_view) grown ∙ map_push fact_view made f in
    subst (λ (told : List (List Text)). NamesFacts n told (map fact_view new)) (sym seen)
    (subst (NamesFacts n (map see (take i xs) ++ see x ∷ [])) (sym facts)
    (told_more (λ (words : List Text). (fact_of n words).value) (map see (take i xs)) (map fact_view made) (see x) (fact_view f) so_far named))

-- the words of the next item name none
pub facts_fail : {A : Type 0} (n : FactNames) (see : A → List Text) (xs : List A) (i : ℕ) (x : A) (before : List FactModel) (e : BuildRefusal) → i < length xs → x ≡ get_or xs i x → NamesFacts n (map see (take i xs)) before
    → IsUnnamed n (codes "fact") i (see x) e → FactsRefusal n (map see xs) e
facts_fail n see xs i x before e lt is so_far refused =
    let taken : length (take i xs) ≡ i = length-take-le i xs (omega (arith, lt)) in
    let cut : length (map see (take i xs)) ≡ i = length-map (take i xs) see ∙ taken in
    let long : i ≡ length before = sym cut ∙ sym (told_length (λ (words : List Text). (fact_of n words).value) (map see (take i xs)) before so_far) in
    let read : NamesFacts n (take i (map see xs)) before = subst (λ (told : List (List Text)). NamesFacts n told before) (sym (take-map see i xs)) so_far in
    by_facts n (map see xs) e (record {
      before = before;
      read = subst (λ (k : ℕ). NamesFacts n (take k (map see xs)) before) long read;
      words = see x;
      here = subst (λ (k : ℕ). slice_get (map see xs) k ≡ Some (see x)) long (seen_here see xs i x lt is);
      refused = subst (λ (k : ℕ). IsUnnamed n (codes "fact") k (see x) e) long refused;
    })

-- memory ran out
pub facts_unfinished : (n : FactNames) (named : List (List Text)) (e : BuildRefusal) → e ≡ refusals.Memory → FactsRefusal n named e
facts_unfinished n named e is = subst (FactsRefusal n named) (sym is) tt

-- ---- steps

-- the words of a step's fact name none
step_unnamed : (n : FactNames) (before : List RuleModel) (x : ToldStep) (e : BuildRefusal) → IsUnnamed n (codes "step") (length before) x.fact e → StepRefusal n before x e
step_unnamed n before x refusals.Utf8 h = h
step_unnamed n before x (refusals.Certificate _) h = h
step_unnamed n before x (refusals.Setting _) h = h
step_unnamed n before x (refusals.Count _ _) h = h
step_unnamed n before x (refusals.Machine _) h = h
step_unnamed n before x (refusals.NoMachine _ _) h = h
step_unnamed n before x (refusals.Document _) h = h
step_unnamed n before x (refusals.Unanswered _) h = h
step_unnamed n before x (refusals.Unnamed _ _ _) h = h
step_unnamed n before x (refusals.Later _ _) h = absurd h.told
step_unnamed n before x (refusals.Lost _) h = h
step_unnamed n before x (refusals.Check _) h = h
step_unnamed n before x refusals.Memory h = tt

pub step_nameless : (n : FactNames) (before : List BuildStep) (x : NamedStep) (words : List (String Global)) (e : BuildRefusal) → words ≡ x.fact.items → IsUnnamed n (codes "step") (length before) (map string_bytes words) e
    → StepRefusal n (map step_view before) (step_told x) e
step_nameless n before x words e is refused =
    let long : length before ≡ length (map step_view before) = sym (length-map before step_view) in
    let here = subst (λ (ws : List (String Global)). IsUnnamed n (codes "step") (length before) (map string_bytes ws) e) is refused in
    step_unnamed n (map step_view before) (step_told x) e (subst (λ (k : ℕ). IsUnnamed n (codes "step") k (step_told x).fact e) long here)

-- it uses a step that isn't before it
pub step_later : (n : FactNames) (before : List RuleModel) (x : ToldStep) (e : BuildRefusal) → IsLater before x.uses e → StepRefusal n before x e
step_later n before x refusals.Utf8 h = absurd h
step_later n before x (refusals.Certificate _) h = absurd h
step_later n before x (refusals.Setting _) h = absurd h
step_later n before x (refusals.Count _ _) h = absurd h
step_later n before x (refusals.Machine _) h = absurd h
step_later n before x (refusals.NoMachine _ _) h = absurd h
step_later n before x (refusals.Document _) h = absurd h
step_later n before x (refusals.Unanswered _) h = absurd h
step_later n before x (refusals.Unnamed _ _ _) h = absurd h
step_later n before x (refusals.Later _ _) h = h
step_later n before x (refusals.Lost _) h = absurd h
step_later n before x (refusals.Check _) h = absurd h
step_later n before x refusals.Memory h = tt

by_steps : (n : FactNames) (told : List ToldStep) (e : BuildRefusal) → StepFails n told e → StepsRefusal n told e
by_steps n told refusals.Utf8 h = h
by_steps n told (refusals.Certificate _) h = h
by_steps n told (refusals.Setting _) h = h
by_steps n told (refusals.Count _ _) h = h
by_steps n told (refusals.Machine _) h = h
by_steps n told (refusals.NoMachine _ _) h = h
by_steps n told (refusals.Document _) h = h
by_steps n told (refusals.Unanswered _) h = h
by_steps n told (refusals.Unnamed _ _ _) h = h
by_steps n told (refusals.Later _ _) h = h
by_steps n told (refusals.Lost _) h = h
by_steps n told (refusals.Check _) h = h
by_steps n told refusals.Memory h = tt

-- no step yet
pub no_steps : (n : FactNames) (xs : List NamedStep) (made : List BuildStep) → made ≡ [] → (0 ≡ length (map step_view made)) × NamesSteps n (map step_told (take 0 xs)) (map step_view made)
no_steps n xs made empty = rw empty (refl, none)

-- one step more
pub steps_more : (n : FactNames) (xs : List NamedStep) (i : ℕ) (x : NamedStep) (made new : List BuildStep) (s : BuildStep) → i < length xs → x ≡ get_or xs i x → new ≡ made ++ s ∷ [] → i ≡ length (map step_view made)
    → NamesSteps n (map step_told (take i xs)) (map step_view made) → NamesStep n (map step_view made) (step_told x) (step_view s) → (i + 1 ≡ length (map step_view new)) × NamesSteps n (map step_told (take (i + 1) xs)) (map step_view new)
steps_more n xs i x made new s lt is grown counted so_far named =
    let seen : map step_told (take (i + 1) xs) ≡ map step_told (take i xs) ++ step_told x ∷ [] = seen_more step_told xs i x lt is in
    let steps : map step_view new ≡ map step_view made ++ step_view s ∷ [] = ap (map step_view) grown ∙ map_push step_view made s in
    let long : length (map step_view new) ≡ length (map step_view made) + 1 = ap length steps ∙ length_push (map step_view made) (step_view s) in (
      omega (arith, long, counted),
      subst (λ (told : List ToldStep). NamesSteps n told (map step_view new)) (sym seen)
          (subst (NamesSteps n (map step_told (take i xs) ++ step_told x ∷ [])) (sym steps) (one_more so_far named)),
    )

-- what is told behind those steps is none
pub steps_fail : (n : FactNames) (xs : List NamedStep) (i : ℕ) (x : NamedStep) (before : List RuleModel) (e : BuildRefusal) → i < length xs → x ≡ get_or xs i x → i ≡ length before → NamesSteps n (map step_told (take i xs)) before
    → StepRefusal n before (step_told x) e → StepsRefusal n (map step_told xs) e
steps_fail n xs i x before e lt is long so_far refused =
    let read : NamesSteps n (take i (map step_told xs)) before = subst (λ (told : List ToldStep). NamesSteps n told before) (sym (take-map step_told i xs)) so_far in
    by_steps n (map step_told xs) e (record {
      before = before;
      named = subst (λ (k : ℕ). NamesSteps n (take k (map step_told xs)) before) long read;
      step = step_told x;
      here = subst (λ (k : ℕ). slice_get (map step_told xs) k ≡ Some (step_told x)) long (seen_here step_told xs i x lt is);
      refused = refused;
    })

-- memory ran out
pub steps_unfinished : (n : FactNames) (told : List ToldStep) (e : BuildRefusal) → e ≡ refusals.Memory → StepsRefusal n told e
steps_unfinished n told e is = subst (StepsRefusal n told) (sym is) tt

-- one of the numbers is no step before that one
pub uses_later : (before : List RuleModel) (uses : List ℕ) (i : ℕ) (d : ℕ) (number : ℕ) (e : BuildRefusal) → i < length uses → number ≡ length before → number ≤ get_or uses i d → e ≡ refusals.Later number (get_or uses i d)
    → IsLater before uses e
uses_later before uses i d number e lt long le is = subst (IsLater before uses) (sym is) (long, le, Contains-get_or uses i d lt)

-- the step of this number gives its fact
pub given_here : (before : List BuildStep) (used : ℕ) (step : BuildStep) → used < length before → step ≡ get_or before used step → slice_get (given_in (map step_view before)) used ≡ Some (fact_view step.fact)
given_here before used step lt is =
    slice_get-map (λ (x : RuleModel). x.fact) (map step_view before) used
    ∙ ap (option_map (λ (x : RuleModel). x.fact)) (seen_here step_view before used step lt is)

-- the step of one more number gives one more fact
pub uses_more : (before : List RuleModel) (uses : List ℕ) (i : ℕ) (d : ℕ) (made new : List BuildFact) (f : BuildFact) → i < length uses → new ≡ made ++ f ∷ [] → GivesFacts before (take i uses) (map fact_view made)
    → slice_get (given_in before) (get_or uses i d) ≡ Some (fact_view f) → GivesFacts before (take (i + 1) uses) (map fact_view new)
uses_more before uses i d made new f lt grown so_far given =
    let facts : map fact_view new ≡ map fact_view made ++ fact_view f ∷ [] = ap (map fact_view) grown ∙ map_push fact_view made f in
    subst (λ (used : List ℕ). GivesFacts before used (map fact_view new)) (sym (take_more uses i d lt))
    (subst (GivesFacts before (take i uses ++ get_or uses i d ∷ [])) (sym facts)
    (told_more (λ (used : ℕ). slice_get (given_in before) used) (take i uses) (map fact_view made) (get_or uses i d) (fact_view f) so_far given))

-- memory ran out
pub uses_unfinished : (before : List RuleModel) (uses : List ℕ) (e : BuildRefusal) → e ≡ refusals.Memory → IsLater before uses e
uses_unfinished before uses e is = subst (IsLater before uses) (sym is) tt
