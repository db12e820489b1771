-- What follows from the instances that the tables have is what the clauses derive that stand for those that were written.
use Rattle.std.proofs.Common.{◌≡◌, ◌⊎◌, inl, inr, ℕ, ◌<◌, List, [], ◌∷◌, ◌++◌, All, Contains, Some, length, map, arith, refl, sym, ap, ◌∙◌, subst}
use Rattle.std.proofs.lemmas.List.Elements.{All-contains, All-head, Contains-append_cases, Contains-append_left, Contains-append_right}
use Rattle.std.proofs.lemmas.Option.{slice_get-get_or}
use Rattle.std.specs.List.{flat_map, slice_get}
use Rattle.krates_cm.specs.Document.{Text}
use Rattle.krates_rules.proofs.Elements.{contains_image, contains_source}
use Rattle.krates_rules.proofs.Standings.{contains_at}
use Rattle.krates_build_tables.specs.declared.tables.Tables.{Tables}
use Rattle.krates_closure.specs.Clauses.{ClauseModel, NamesBelow}
use Rattle.krates_closure.specs.Closure.{Derivable, by_clause}
use Rattle.krates_build_facts.specs.FactModels.{FactModel, RuleModel, Met, LinkedReference, LinkedFeature, LinkedName, Linked, Lost, Activated, ActivatedReference, ActivatedFeature, ActivatedName, Used, Available, Compiled, Needed, ScriptRun, ScriptCompiled, RunNeeded}
use Rattle.krates_grounding.specs.Grounding.{IsGrounded, fact_at, facts_of, required_texts, rule_of}
use Rattle.krates_build_facts.specs.InitialRows.{initial_rows}
use Rattle.krates_build_facts.specs.Mattering.{IsRequired, MayMatter}
use Rattle.krates_build_facts.specs.Meanings.{Follows, IsRow, by_row}
use Rattle.krates_build_facts.specs.Rows.{rows_of, rule}
use Rattle.krates_build_facts.proofs.BegunRows.{Begins, begun}
use Rattle.krates_build_facts.proofs.RowLists.{here, in_flat, there}
use Rattle.krates_grounding.proofs.RequiredTexts.{required_among}

-- ---- lists

-- an element of lists that are joined is one of a list
from_flat : {A B : Type 0} (f : A → List B) (xs : List A) (y : B) → Contains (flat_map f xs) y → (x : A) × Contains xs x × Contains (f x) y
from_flat f [] y (k, lt, is) = absurd (omega (arith, lt))
from_flat f (x ∷ xs) y c = elim (Contains-append_cases (f x) (flat_map f xs) y c) [
  | inl first ↦ (x, here x xs, first)
  | inr rest ↦ (let w = from_flat f xs y rest in (w.0, there x xs w.0 w.1, w.2))
]

-- ---- with which fact an instance begins

-- it is a premise that matters, or the fact itself, which says a text
abbrev BeginsWith : Tables → FactModel → List FactModel → FactModel → Type 0
BeginsWith t b ps n = (MayMatter t b × Contains ps b) ⊎ ((c : ℕ) × (text : Text) × (b ≡ Available c text) × (n ≡ b))

begins_with : (t : Tables) (b : FactModel) (ps : List FactModel) (n : FactModel) → Begins b ps n → BeginsWith t b ps n
begins_with t (Available c text) ps n is = inr (c, text, refl, is)
begins_with t (Met c m) ps n first = inl (tt, first)
begins_with t (LinkedReference c m v) ps n first = inl (tt, first)
begins_with t (LinkedFeature c m f) ps n first = inl (tt, first)
begins_with t (LinkedName c m d) ps n first = inl (tt, first)
begins_with t (Linked place) ps n first = inl (tt, first)
begins_with t (Lost c index) ps n first = inl (tt, first)
begins_with t (Activated c s) ps n first = inl (tt, first)
begins_with t (ActivatedReference c s v) ps n first = inl (tt, first)
begins_with t (ActivatedFeature c s f) ps n first = inl (tt, first)
begins_with t (ActivatedName c s d) ps n first = inl (tt, first)
begins_with t (Used place s) ps n first = inl (tt, first)
begins_with t (Compiled u) ps n first = inl (tt, first)
begins_with t (Needed place from u) ps n first = inl (tt, first)
begins_with t (ScriptRun c at) ps n first = inl (tt, first)
begins_with t (ScriptCompiled c s) ps n first = inl (tt, first)
begins_with t (RunNeeded place from run) ps n first = inl (tt, first)

module _ (t : Tables) (facts : List FactModel) (clauses : List ClauseModel) (g : IsGrounded t (record { facts = facts; rules = map (rule_of facts) clauses })) (below : All (NamesBelow (length facts)) clauses) where
  -- ---- what the clauses derive follows

  pub row_of : (clause : ClauseModel) → Contains clauses clause → IsRow t (map (fact_at facts) clause.premises) (fact_at facts clause.fact)
  row_of clause among =
      let one = rule_of facts clause in
      let all : Contains (initial_rows t ++ flat_map (rows_of t) facts) one = subst (λ (rules : List RuleModel). Contains rules one) g.rules_are (contains_image (rule_of facts) clauses clause among) in
      elim (Contains-append_cases (initial_rows t) (flat_map (rows_of t) facts) one all) [
        | inl first ↦ inl first
        | inr later ↦ (let w = from_flat (rows_of t) facts one later in inr (w.0, w.2))
      ]

  pub derived_follows : (n : ℕ) → Derivable clauses n → Follows t (fact_at facts n)
  derived_follows n (by_clause clause among premises) = by_row (row_of clause among) (λ f c.
      let w = contains_source (fact_at facts) clause.premises f c in
      subst (Follows t) w.2 (derived_follows w.0 (premises w.0 w.1)))

  -- ---- and what follows is derived

  -- the fact has a number if it may matter, and a number that it has is derivable
  pub record IsDerived (f : FactModel) : Type 0 where
    pub numbered : MayMatter t f → Contains facts f
    pub derived : (n : ℕ) → slice_get facts n ≡ Some f → Derivable clauses n

  -- the instance was written
  abbrev IsWritten : List FactModel → FactModel → Type 0
  IsWritten ps f = Contains (map (rule_of facts) clauses) (rule ps f)

  written : (ps : List FactModel) (f : FactModel) → Contains (initial_rows t ++ flat_map (rows_of t) facts) (rule ps f) → IsWritten ps f
  written ps f c = subst (λ (rules : List RuleModel). Contains rules (rule ps f)) (sym g.rules_are) c

  begun_written : (b : FactModel) (ps : List FactModel) (f : FactModel) → Contains (rows_of t b) (rule ps f) → Contains facts b → IsWritten ps f
  begun_written b ps f among has = written ps f (Contains-append_right (initial_rows t) (flat_map (rows_of t) facts) (rule ps f) (in_flat (rows_of t) facts b (rule ps f) has among))

  -- what says that a text is available which a target requires has a number
  text_numbered : (f b : FactModel) (c : ℕ) (text : Text) → b ≡ Available c text → f ≡ b → MayMatter t f → Contains facts b
  text_numbered f b c text is same matters =
      let required : IsRequired t c text = subst (MayMatter t) (same ∙ is) matters in
      subst (Contains facts) (sym is) (All-contains (Contains facts) (required_texts t) (Available c text) g.texts (required_among t c text required))

  -- an instance was written if its premises are derived, and its fact has a number or may matter
  row_written : (ps : List FactModel) (f : FactModel) → IsRow t ps f → ((p : FactModel) → Contains ps p → IsDerived p) → MayMatter t f ⊎ Contains facts f → IsWritten ps f
  row_written ps f (inl first) h has = written ps f (Contains-append_left (initial_rows t) (flat_map (rows_of t) facts) (rule ps f) first)
  row_written ps f (inr (b, among)) h has = elim (begins_with t b ps f (begun t b ps f among)) [
    | inl w ↦ begun_written b ps f among ((h b w.1).numbered w.0)
    | inr w ↦ elim has [
      | inl matters ↦ begun_written b ps f among (text_numbered f b w.0 w.1 w.2 w.3 matters)
      | inr c ↦ begun_written b ps f among (subst (Contains facts) w.3 c)
    ]
  ]

  named : (ps : List FactModel) (f : FactModel) → IsWritten ps f → Contains facts f
  named ps f c = All-head (Contains facts) f ps (All-contains (λ (row : RuleModel). All (Contains facts) (facts_of row)) (map (rule_of facts) clauses) (rule ps f) g.named c)

  at_number : (n : ℕ) → n < length facts → slice_get facts n ≡ Some (fact_at facts n)
  at_number n lt = slice_get-get_or facts n (Lost 0 0) lt

  derived_by : (ps : List FactModel) (f : FactModel) → IsWritten ps f → ((p : FactModel) → Contains ps p → IsDerived p) → (n : ℕ) → slice_get facts n ≡ Some f → Derivable clauses n
  derived_by ps f c h n at =
      let w = contains_source (rule_of facts) clauses (rule ps f) c in
      let names = All-contains (NamesBelow (length facts)) clauses w.0 below w.1 in
      let fact : fact_at facts w.0.fact ≡ f = ap (λ (row : RuleModel). row.fact) w.2 in
      let premises : map (fact_at facts) w.0.premises ≡ ps = ap (λ (row : RuleModel). row.premises) w.2 in
      let same : w.0.fact ≡ n = g.distinct w.0.fact n f (at_number w.0.fact names.fact ∙ ap (λ (x : FactModel). Some x) fact) at in
      subst (Derivable clauses) same (by_clause w.0 w.1 (λ p among. (
      let lt : p < length facts = All-contains (λ m. m < length facts) w.0.premises p names.premises among in
      let there : Contains ps (fact_at facts p) = subst (λ (xs : List FactModel). Contains xs (fact_at facts p)) premises (contains_image (fact_at facts) w.0.premises p among) in
      (h (fact_at facts p) there).derived p (at_number p lt))))

  pub follows_derived : (f : FactModel) → Follows t f → IsDerived f
  follows_derived f (by_row {premises = ps} row premises) =
      let h : (p : FactModel) → Contains ps p → IsDerived p = λ p c. follows_derived p (premises p c) in
      record {
        numbered = λ matters. named ps f (row_written ps f row h (inl matters));
        derived = λ n at. derived_by ps f (row_written ps f row h (inr (contains_at facts n f at))) h n at;
      }
