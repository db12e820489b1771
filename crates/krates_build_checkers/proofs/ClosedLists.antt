-- What closed lists have, and how a list is told to be closed.
use Rattle.std.proofs.Common.{◌≡◌, ◌≢◌, ◌↔◌, ◌⊎◌, IsTrue, not, ℕ, Bor, Bool, true, false, List, [], ◌∷◌, All, Contains, map, refl, sym, ◌∙◌, subst, inl, inr}
use Rattle.std.proofs.lemmas.List.Elements.{All-contains, All-weaker}
use Rattle.std.specs.BTreeSet.{BTreeSet}
use Rattle.krates_cm.specs.Document.{Text}
use Rattle.krates_rules.proofs.Elements.{contains_image, contains_source}
use Rattle.krates_rules.proofs.Members.{contains_of, member_of, spread_of}
use Rattle.krates_build_tables.specs.declared.tables.Tables.{Tables}
use Rattle.krates_build_facts.specs.FactModels.{FactModel, RuleModel, Met, LinkedReference, LinkedFeature, LinkedName, Linked, Lost, Activated, ActivatedReference, ActivatedFeature, ActivatedName, Used, Available, Compiled, Needed, ScriptRun, ScriptCompiled, RunNeeded, fact_view}
use Rattle.krates_build_facts.specs.InitialRows.{initial_rows}
use Rattle.krates_build_facts.specs.Meanings.{Follows, FollowsAsDerivable, IsRow, by_row}
use Rattle.krates_build_facts.specs.Rows.{rows_of, rule}
use Rattle.krates_build_facts.specs.declared.facts.BuildFact.{BuildFact}
use Rattle.krates_build_facts.proofs.BegunRows.{begun}
use Rattle.krates_build_facts.proofs.RowLists.{Each, in_flat}
use Rattle.krates_build_facts.specs.Mattering.{IsRequired, MayMatter}
use Rattle.krates_build_checkers.specs.Closedness.{ClosedHasAll, ClosedHasDerivable, FollowingIsClosed, IsClosed, available_rows, available_to_crate, available_to_target}
use Rattle.krates_build_checkers.specs.Finding.{Finds}
use Rattle.krates_build_checkers.specs.GivenFacts.{HasFacts, IsOpen, facts_of_set}
use Rattle.krates_build_checkers.specs.declared.sought.Sought.TheVariants as soughts
use Rattle.krates_build_checkers.proofs.GivenSets.{all_members}
use Rattle.krates_build_checkers.proofs.MatteringRows.{initial_matter, others_matter, required_matter, text_uses}
use Rattle.krates_build_checkers.proofs.RowsBegun.{begins_with, begun_by, row_begun}

-- ---- facts that say a text is available

pub record IsText (b : FactModel) : Type 0 where
  pub number : ℕ
  pub text : Text
  pub is : b ≡ Available number text

text_or_other : (b : FactModel) → IsText b ⊎ ((c : ℕ) (text : Text) → b ≢ Available c text)
text_or_other (Met c m) = inr (λ number text e. absurd cc)
text_or_other (LinkedReference c m v) = inr (λ number text e. absurd cc)
text_or_other (LinkedFeature c m f) = inr (λ number text e. absurd cc)
text_or_other (LinkedName c m d) = inr (λ number text e. absurd cc)
text_or_other (Linked place) = inr (λ number text e. absurd cc)
text_or_other (Lost c index) = inr (λ number text e. absurd cc)
text_or_other (Activated c s) = inr (λ number text e. absurd cc)
text_or_other (ActivatedReference c s v) = inr (λ number text e. absurd cc)
text_or_other (ActivatedFeature c s f) = inr (λ number text e. absurd cc)
text_or_other (ActivatedName c s d) = inr (λ number text e. absurd cc)
text_or_other (Used place s) = inr (λ number text e. absurd cc)
text_or_other (Available c text) = inl (record { number = c; text = text; is = refl })
text_or_other (Compiled u) = inr (λ number text e. absurd cc)
text_or_other (Needed place from u) = inr (λ number text e. absurd cc)
text_or_other (ScriptRun c at) = inr (λ number text e. absurd cc)
text_or_other (ScriptCompiled c s) = inr (λ number text e. absurd cc)
text_or_other (RunNeeded place from run) = inr (λ number text e. absurd cc)

-- an instance that begins with such a fact gives it
text_gives : (t : Tables) (c : ℕ) (text : Text) (row : RuleModel) → Contains (rows_of t (Available c text)) row → row.fact ≡ Available c text
text_gives t c text row among = begun t (Available c text) row.premises row.fact among

-- those that give a text which a target requires are looked at
required_row : (t : Tables) (c : ℕ) (text : Text) (row : RuleModel) → IsRequired t c text → Contains (rows_of t (Available c text)) row → Contains (available_rows t) row
required_row t c text row w among =
    let x = w.target in
    let at = contains_source (λ (name : Bor Text). name.now) x.required.items text w.requires in
    let here : Contains (rows_of t (Available x.place.krate at.0.now)) row = subst (λ (k : ℕ). Contains (rows_of t (Available k at.0.now)) row) (sym w.krate) (subst (λ (name : Text). Contains (rows_of t (Available c name)) row) (sym at.2) among) in
    in_flat (available_to_crate t) t.crates.items w.entry row w.has_entry
    (in_flat (available_to_target t) w.entry.targets.items x row w.has_target (in_flat (λ name. rows_of t (Available x.place.krate name.now)) x.required.items at.0 row at.1 here))

-- ---- what closed lists have

-- what an instance uses may matter
row_uses : (t : Tables) (ps : List FactModel) (f : FactModel) → IsRow t ps f → Each (MayMatter t) ps
row_uses t ps f (inl c) = (initial_matter t ps f c).premises
row_uses t ps f (inr (b, c)) = elim (text_or_other b) [
  | inl w ↦ text_uses t w.number w.text ps f (subst (λ (x : FactModel). Contains (rows_of t x) (rule ps f)) w.is c)
  | inr other ↦ (others_matter t b other ps f c).premises
]

pub closed_has_all : ClosedHasAll
closed_has_all t facts closed f (by_row {premises = ps} row more) matters =
    closed ps f row matters (all_members (Contains facts) ps (λ p among. closed_has_all t facts closed p (more p among) (row_uses t ps f row p among)))

pub closed_has_derivable : FollowsAsDerivable → ClosedHasDerivable
closed_has_derivable exact r s ids ms t tables facts closed f derivable number means matters =
    closed_has_all t facts closed number ((exact r s ids ms t tables number f means).1 derivable) matters

-- what follows from facts that follow does too
pub following_is_closed : FollowingIsClosed
following_is_closed t facts sound complete ps f row matters all =
    complete f matters (by_row row (λ p c. All-contains (Follows t) facts p sound (All-contains (Contains facts) ps p all c)))

-- ---- how a list is told to be closed

module _ (t : Tables) (given : Bor (BTreeSet BuildFact)) (facts : List BuildFact) (same : HasFacts given.now (map fact_view facts)) where
  -- where nothing is open
  pub is_closed : (a b c : Bool) → a ≡ false → b ≡ false → c ≡ false → Finds a (soughts.Open given) (initial_rows t) → Finds b (soughts.Open given) (begun_by t facts) → Finds c (soughts.Open given) (available_rows t)
      → IsClosed t (map fact_view facts)
  is_closed a b c lacks misses never first second third ps f row matters all =
      let seen = All-weaker (Contains (map fact_view facts)) (Contains (facts_of_set given.now)) (λ x among. (same x).1 among) ps all in
      (same f).0 (elim row [
        | inl begins ↦ first.missed lacks (rule ps f) begins seen
        | inr (k, among) ↦ elim (begins_with k ps f (begun t k ps f among)) [
          | inl used ↦ second.missed misses (rule ps f) (row_begun t facts k (rule ps f) (All-contains (Contains (map fact_view facts)) ps k all used) among) seen
          | inr w ↦ (
              let here = subst (λ (x : FactModel). Contains (rows_of t x) (rule ps f)) w.begins among in
              third.missed never (rule ps f) (required_row t w.number w.text (rule ps f) (subst (MayMatter t) w.gives matters) here) seen)
        ]
      ])

  -- an open instance
  not_closed : (row : RuleModel) → IsRow t row.premises row.fact → MayMatter t row.fact → IsOpen (facts_of_set given.now) row → IsClosed t (map fact_view facts) → ⊥
  not_closed row is matters gap closed =
      let seen = All-weaker (Contains (facts_of_set given.now)) (Contains (map fact_view facts)) (λ x among. (same x).0 among) row.premises gap.premises in
      gap.fact ((same row.fact).1 (closed row.premises row.fact is matters seen))

  pub open_at_start : (b : Bool) → b ≡ true → Finds b (soughts.Open given) (initial_rows t) → IsClosed t (map fact_view facts) → ⊥
  open_at_start b there h =
      let w = h.found there in
      not_closed w.0 (inl w.1) (initial_matter t w.0.premises w.0.fact w.1).fact w.2

  pub open_behind : (b : Bool) → b ≡ true → Finds b (soughts.Open given) (begun_by t facts) → IsClosed t (map fact_view facts) → ⊥
  open_behind b there h =
      let w = h.found there in
      let at = spread_of (λ fact. rows_of t (fact_view fact)) facts w.0 (member_of (begun_by t facts) w.0 w.1) in
      let k = fact_view at.from in
      let among : Contains (rows_of t k) w.0 = contains_of (rows_of t k) w.0 at.there in
      elim (text_or_other k) [
        | inl x ↦ (
            let gives : w.0.fact ≡ k = text_gives t x.number x.text w.0 (subst (λ (f : FactModel). Contains (rows_of t f) w.0) x.is among) ∙ sym x.is in
            let there : Contains (map fact_view facts) k = contains_image fact_view facts at.from (contains_of facts at.from at.member) in
            absurd (w.2.fact ((same w.0.fact).1 (subst (Contains (map fact_view facts)) (sym gives) there))))
        | inr other ↦ not_closed w.0 (inr (k, among)) (others_matter t k other w.0.premises w.0.fact among).fact w.2
      ]

  pub open_to_target : (b : Bool) → b ≡ true → Finds b (soughts.Open given) (available_rows t) → IsClosed t (map fact_view facts) → ⊥
  open_to_target b there h =
      let w = h.found there in
      let e = spread_of (available_to_crate t) t.crates.items w.0 (member_of (available_rows t) w.0 w.1) in
      let x = spread_of (available_to_target t) e.from.targets.items w.0 e.there in
      let at = spread_of (λ (name : Bor Text). rows_of t (Available x.from.place.krate name.now)) x.from.required.items w.0 x.there in
      let k = Available x.from.place.krate at.from.now in
      let among : Contains (rows_of t k) w.0 = contains_of (rows_of t k) w.0 at.there in
      let matter = required_matter t e.from x.from (contains_of t.crates.items e.from e.member) (contains_of e.from.targets.items x.from x.member) in
      let required = matter k (contains_image (λ (name : Bor Text). Available x.from.place.krate name.now) x.from.required.items at.from (contains_of x.from.required.items at.from at.member)) in
      not_closed w.0 (inr (k, among)) (subst (MayMatter t) (sym (text_gives t x.from.place.krate at.from.now w.0 among)) required) w.2

  -- what the last of three answers tells
  pub told_closed : (a b c : Bool) → a ≡ false → b ≡ false → Finds a (soughts.Open given) (initial_rows t) → Finds b (soughts.Open given) (begun_by t facts) → Finds c (soughts.Open given) (available_rows t)
      → IsTrue (not c) ↔ IsClosed t (map fact_view facts)
  told_closed a b true lacks misses first second third = (λ x. absurd cc, λ closed. absurd (open_to_target true refl third closed))
  told_closed a b false lacks misses first second third = (λ x. is_closed a b false lacks misses refl first second third, λ closed. refl)
