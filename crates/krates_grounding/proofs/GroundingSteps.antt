-- Instances are written fact by fact, until those of each fact are.
use Rattle.std.proofs.Common.{◌≡◌, inl, inr, ℕ, ◌+◌, ◌<◌, ◌≤◌, List, [], ◌∷◌, ◌++◌, All, Contains, Some, None, length, get_or, take, append_assoc, length-append, arith, refl, sym, ap, ◌∙◌, subst}
use Rattle.std.proofs.lemmas.Bool.{cases_lt}
use Rattle.std.proofs.lemmas.List.{append-nil, take-append-le, take_all, take_more}
use Rattle.std.proofs.lemmas.List.Concat.{flat_map-append}
use Rattle.std.proofs.lemmas.Option.{get_or_from_slice_get, slice_get-get_or, slice_get_within}
use Rattle.std.specs.List.{flat_map, slice_get}
use Rattle.krates_build_tables.specs.declared.tables.Tables.{Tables}
use Rattle.krates_build_facts.specs.FactModels.{FactModel, RuleModel, Lost}
use Rattle.krates_grounding.specs.Grounding.{AreDistinct, AreNamed, GroundModel, HasWritten, HaveNumbers, IsGrounded, required_texts}
use Rattle.krates_build_facts.specs.InitialRows.{initial_rows}
use Rattle.krates_build_facts.specs.Rows.{rows_of}
use Rattle.krates_grounding.proofs.RequiredTexts.{still_numbered}

-- the instances that begin with the first facts are written
pub record IsGroundedUpTo (t : Tables) (g : GroundModel) (next : ℕ) : Type 0 where
  pub within : next ≤ length g.facts
  pub rules_are : g.rules ≡ initial_rows t ++ flat_map (rows_of t) (take next g.facts)
  pub texts : All (Contains g.facts) (required_texts t)

pub grounded_init : (t : Tables) (a b c : GroundModel) → a ≡ record { facts = []; rules = [] } → HasWritten a b (initial_rows t) → HaveNumbers b c (required_texts t) → IsGroundedUpTo t c 0
grounded_init t a b c empty h texts = record {
  within = omega arith;
  rules_are = texts.rules_are ∙ h.rules_are ∙ ap (λ (g : GroundModel). g.rules ++ initial_rows t) empty ∙ sym (append-nil (initial_rows t));
  texts = texts.each;
}

pub grounded_step : (t : Tables) (a b : GroundModel) (next : ℕ) (f : FactModel) → IsGroundedUpTo t a next → Some f ≡ slice_get a.facts next → HasWritten a b (rows_of t f) → IsGroundedUpTo t b (next + 1)
grounded_step t a b next f h at w =
    let lt : next < length a.facts = slice_get_within a.facts next f (sym at) in
    let le : next + 1 ≤ length a.facts = omega arith in
    let here : get_or a.facts next f ≡ f = get_or_from_slice_get a.facts next f f (sym at) in
    let taken : take (next + 1) (a.facts ++ w.more) ≡ take next a.facts ++ f ∷ []
    = take-append-le (next + 1) a.facts w.more le ∙ take_more a.facts next f lt ∙ ap (λ (x : FactModel). take next a.facts ++ x ∷ []) here in
    let rows : flat_map (rows_of t) (take next a.facts ++ f ∷ []) ≡ flat_map (rows_of t) (take next a.facts) ++ rows_of t f
    = flat_map-append (rows_of t) (take next a.facts) (f ∷ []) ∙ ap (λ (rs : List RuleModel). flat_map (rows_of t) (take next a.facts) ++ rs) (append-nil (rows_of t f)) in
    record {
      within = subst (λ (fs : List FactModel). next + 1 ≤ length fs) (sym w.facts_are) (omega (arith, le, length-append a.facts w.more));
      rules_are = w.rules_are ∙ ap (λ (rs : List RuleModel). rs ++ rows_of t f) h.rules_are ∙ append_assoc (initial_rows t) (flat_map (rows_of t) (take next a.facts)) (rows_of t f)
          ∙ ap (λ (rs : List RuleModel). initial_rows t ++ rs) (sym (ap (λ (fs : List FactModel). flat_map (rows_of t) (take (next + 1) fs)) w.facts_are ∙ ap (flat_map (rows_of t)) taken ∙ rows));
      texts = still_numbered a.facts w.more b.facts (required_texts t) w.facts_are h.texts;
    }

none_past : (fs : List FactModel) (n : ℕ) → None ≡ slice_get fs n → length fs ≤ n
none_past fs n at = elim (cases_lt n (length fs)) [
  | inl lt ↦ absurd (let there = slice_get-get_or fs n (get_or fs n (Lost 0 0)) lt in cc)
  | inr le ↦ le
]

pub grounded_end : (t : Tables) (g : GroundModel) (next : ℕ) → IsGroundedUpTo t g next → None ≡ slice_get g.facts next → AreNamed g → AreDistinct g.facts → IsGrounded t g
grounded_end t g next h at named distinct = record {
  rules_are = h.rules_are ∙ ap (λ (fs : List FactModel). initial_rows t ++ flat_map (rows_of t) fs) (take_all next g.facts (none_past g.facts next at));
  texts = h.texts;
  named = named;
  distinct = distinct;
}
