-- Each instance begins with one of its premises or with its fact, or is one that a build begins with.
use Rattle.std.proofs.Common.{◌≡◌, ◌↔◌, ◌⊎◌, ℕ, Bor, Bool, true, false, IsTrue, List, Contains, map, refl, sym, ◌∙◌, subst, inl, inr}
use Rattle.std.specs.List.{flat_map}
use Rattle.krates_rules.proofs.Elements.{contains_source}
use Rattle.krates_rules.proofs.Members.{contains_of, member_of, spread_of}
use Rattle.krates_cm.specs.Document.{Text}
use Rattle.krates_build_tables.specs.declared.tables.Tables.{Tables}
use Rattle.krates_build_facts.specs.FactModels.{FactModel, RuleModel, Met, LinkedReference, LinkedFeature, LinkedName, Linked, Lost, Activated, ActivatedReference, ActivatedFeature, ActivatedName, Used, Available, Compiled, Needed, ScriptRun, ScriptCompiled, RunNeeded, fact_view}
use Rattle.krates_build_facts.specs.InitialRows.{initial_rows}
use Rattle.krates_build_facts.specs.Meanings.{IsRow}
use Rattle.krates_build_facts.specs.Rows.{rows_of, rule}
use Rattle.krates_build_facts.specs.Steps.{step_view}
use Rattle.krates_build_facts.specs.declared.facts.BuildFact.{BuildFact}
use Rattle.krates_build_facts.specs.declared.steps.BuildStep.{BuildStep}
use Rattle.krates_build_facts.proofs.BegunRows.{Begins, begun}
use Rattle.krates_build_facts.proofs.RowLists.{in_flat}
use Rattle.krates_build_checkers.specs.Finding.{Finds}
use Rattle.krates_build_checkers.specs.declared.sought.Sought.TheVariants as soughts

-- the fact says that a text is available, and the instance gives it
pub record IsAboutText (b n : FactModel) : Type 0 where
  pub number : ℕ
  pub text : Text
  pub begins : b ≡ Available number text
  pub gives : n ≡ Available number text

pub begins_with : (b : FactModel) (ps : List FactModel) (n : FactModel) → Begins b ps n → Contains ps b ⊎ IsAboutText b n
begins_with (Met c m) ps n h = inl h
begins_with (LinkedReference c m v) ps n h = inl h
begins_with (LinkedFeature c m f) ps n h = inl h
begins_with (LinkedName c m d) ps n h = inl h
begins_with (Linked place) ps n h = inl h
begins_with (Lost c index) ps n h = inl h
begins_with (Activated c s) ps n h = inl h
begins_with (ActivatedReference c s v) ps n h = inl h
begins_with (ActivatedFeature c s f) ps n h = inl h
begins_with (ActivatedName c s d) ps n h = inl h
begins_with (Used place s) ps n h = inl h
begins_with (Available number text) ps n h = inr (record { number = number; text = text; begins = refl; gives = h })
begins_with (Compiled u) ps n h = inl h
begins_with (Needed place from u) ps n h = inl h
begins_with (ScriptRun c at) ps n h = inl h
begins_with (ScriptCompiled c s) ps n h = inl h
begins_with (RunNeeded place from run) ps n h = inl h

-- those that begin with one of these facts
abbrev pub begun_by : Tables → List BuildFact → List RuleModel
begun_by t facts = flat_map (λ fact. rows_of t (fact_view fact)) facts

-- an instance that begins with one of the facts is one
pub begun_row : (t : Tables) (facts : List BuildFact) (row : RuleModel) → Contains (begun_by t facts) row → IsRow t row.premises row.fact
begun_row t facts row c =
    let w = spread_of (λ fact. rows_of t (fact_view fact)) facts row (member_of (begun_by t facts) row c) in
    inr (fact_view w.from, contains_of (rows_of t (fact_view w.from)) row w.there)

-- and one that begins with a fact of the list is among them
pub row_begun : (t : Tables) (facts : List BuildFact) (b : FactModel) (row : RuleModel) → Contains (map fact_view facts) b → Contains (rows_of t b) row → Contains (begun_by t facts) row
row_begun t facts b row among c =
    let w = contains_source fact_view facts b among in
    in_flat (λ fact. rows_of t (fact_view fact)) facts w.0 row w.1 (subst (λ (x : FactModel). Contains (rows_of t x) row) (sym w.2) c)

-- ---- the instance that a step is

pub sought_step : (step : Bor BuildStep) (b : Bool) (rows : List RuleModel) → Finds b (soughts.Step step) rows → IsTrue b ↔ Contains rows (step_view step.now)
sought_step step true rows h = (λ yes. (let w = h.found refl in subst (Contains rows) w.2 w.1), λ c. refl)
sought_step step false rows h = (λ yes. absurd cc, λ c. absurd (h.missed refl (step_view step.now) c refl))

-- an instance that begins with nothing else
missed : (t : Tables) (premises : List BuildFact) (f : FactModel) → (Contains (begun_by t premises) (rule (map fact_view premises) f) → ⊥)
    → (Contains (rows_of t f) (rule (map fact_view premises) f) → ⊥) → IsRow t (map fact_view premises) f → Contains (initial_rows t) (rule (map fact_view premises) f)
missed t premises f by_premise by_fact (inl c) = c
missed t premises f by_premise by_fact (inr (b, c)) =
    let ps = map fact_view premises in
    elim (begins_with b ps f (begun t b ps f c)) [
      | inl among ↦ absurd (by_premise (row_begun t premises b (rule ps f) among c))
      | inr is ↦ absurd (by_fact (subst (λ (x : FactModel). Contains (rows_of t x) (rule ps f)) (is.begins ∙ sym is.gives) c))
    ]

pub row_by_premise : (t : Tables) (step : Bor BuildStep) (b : Bool) → b ≡ true → Finds b (soughts.Step step) (begun_by t step.now.premises.items)
    → IsTrue true ↔ IsRow t (step_view step.now).premises (step_view step.now).fact
row_by_premise t step b e h = (λ yes. begun_row t step.now.premises.items (step_view step.now) ((sought_step step b _ h).0 e), λ r. refl)

pub row_by_fact : (t : Tables) (step : Bor BuildStep) (b : Bool) → b ≡ true → Finds b (soughts.Step step) (rows_of t (fact_view step.now.fact))
    → IsTrue true ↔ IsRow t (step_view step.now).premises (step_view step.now).fact
row_by_fact t step b e h = (λ yes. inr (fact_view step.now.fact, (sought_step step b _ h).0 e), λ r. refl)

pub row_at_start : (t : Tables) (step : Bor BuildStep) (a b c : Bool) → a ≡ false → b ≡ false → Finds a (soughts.Step step) (begun_by t step.now.premises.items)
    → Finds b (soughts.Step step) (rows_of t (fact_view step.now.fact)) → Finds c (soughts.Step step) (initial_rows t) → IsTrue c ↔ IsRow t (step_view step.now).premises (step_view step.now).fact
row_at_start t step a b c lacks misses one other last =
    let first = sought_step step a _ one in
    let second = sought_step step b _ other in
    let third = sought_step step c _ last in (
      λ yes. inl (third.0 yes),
      λ r. third.1 (missed t step.now.premises.items (fact_view step.now.fact) (λ x. absurd (let wrong : false ≡ true = sym lacks ∙ first.1 x in cc)) (λ x. absurd (let wrong : false ≡ true = sym misses ∙ second.1 x in cc)) r),
    )
