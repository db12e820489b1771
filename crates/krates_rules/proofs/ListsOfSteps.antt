-- Laws of lists in which each step follows.
use Rattle.std.proofs.Common.{◌≡◌, ◌⊎◌, inl, inr, ℕ, zero, suc, ◌<◌, ◌≤◌, List, [], ◌∷◌, ◌++◌, length, get_or, Some, All, Contains, length-append, refl, sym, ap, ◌∙◌, subst, arith}
use Rattle.std.proofs.lemmas.Bool.{cases_order}
use Rattle.std.proofs.lemmas.Option.{slice_get_within, slice_get-get_or, same_Some}
use Rattle.std.specs.List.{AllZip, slice_get}
use Rattle.krates_rules.specs.Derivation.{Among, Derivable, follows}
use Rattle.krates_rules.specs.Facts.{Fact}
use Rattle.krates_rules.specs.Rules.{Questions, Rule}
use Rattle.krates_rules.specs.StepParts.{Increase, StandsFor, IsPart}
use Rattle.krates_rules.specs.Steps.{StepModel, IsEarlier, StepFollows, EachFollows, EndsIn, Gives}

-- the facts used are facts of earlier steps
pub among_used : (P : Fact → Type 0) (steps : List StepModel) (number : ℕ) → ((i : ℕ) (x : StepModel) → i < number → slice_get steps i ≡ Some x → P x.fact)
    → (uses : List ℕ) (premises : List Fact) → AllZip (IsEarlier steps number) uses premises → (g : Fact) → Among g premises → P g
among_used P steps number h [] [] z g m = absurd m
among_used P steps number h [] (f ∷ fs) z g m = absurd z
among_used P steps number h (i ∷ is) [] z g m = absurd z
among_used P steps number h (i ∷ is) (f ∷ fs) z g m = elim m [
  | inl e ↦ subst P (z.0.has ∙ sym e) (h i z.0.step z.0.before z.0.at)
  | inr n ↦ among_used P steps number h is fs z.1 g n
]

below : (q : Questions) (steps : List StepModel) → EachFollows q steps → (n k : ℕ) (x : StepModel) → k < n → slice_get steps k ≡ Some x → Derivable q x.fact
below q steps each zero k x lt at = absurd (omega arith)
below q steps each (suc n) k x lt at =
    let f = each k x at in
    follows f.rule (λ g m. among_used (Derivable q) steps k (λ i y low here. below q steps each n i y (omega arith) here) x.uses f.premises f.uses g m)

-- each fact of the list is derivable
pub each_derived : (q : Questions) (steps : List StepModel) → EachFollows q steps → All (λ x. Derivable q x.fact) steps
each_derived q steps each k d lt = below q steps each (suc k) k (get_or steps k d) (omega arith) (slice_get-get_or steps k d lt)

-- so is the fact in which the list ends
pub last_derived : (q : Questions) (steps : List StepModel) (f : Fact) → EachFollows q steps → EndsIn steps f → Derivable q f
last_derived q steps f each e = subst (Derivable q) e.is (below q steps each (suc e.number) e.number e.last (omega arith) e.at)

-- and the fact of any step in it
pub contained_derived : (q : Questions) (steps : List StepModel) → EachFollows q steps → (x : StepModel) → Contains steps x → Derivable q x.fact
contained_derived q steps each x (k, lt, is) = subst (λ (y : StepModel). Derivable q y.fact) is (each_derived q steps each k x lt)

-- ---- parts

-- a chosen step is in the part, with its fact
in_part : (steps : List StepModel) (chosen : List ℕ) (part : List StepModel) → IsPart steps chosen part → (u v : ℕ) (old : StepModel) → slice_get chosen v ≡ Some u → slice_get steps u ≡ Some old
    → (x : StepModel) × (slice_get part v ≡ Some x) × (x.fact ≡ old.fact)
in_part steps chosen part p u v old here at =
    let lt = slice_get_within chosen v u here in
    let within : v < length part = subst (λ (n : ℕ). v < n) (sym p.long) lt in
    let x = get_or part v old in
    let there : slice_get part v ≡ Some x = slice_get-get_or part v old within in
    let r = p.each v x there in
    let number : u ≡ r.before = same_Some u r.before (sym here ∙ r.chosen_at) in
    let same : old ≡ r.old = same_Some old r.old (sym at ∙ ap (λ n. slice_get steps n) number ∙ r.at) in
    (x, there, r.fact ∙ ap (λ (y : StepModel). y.fact) (sym same))

-- of two chosen steps the earlier one comes first
pub before_by : (chosen : List ℕ) → Increase chosen → (j k a b : ℕ) → slice_get chosen j ≡ Some a → slice_get chosen k ≡ Some b → a < b → j < k
before_by chosen up j k a b one other lt = elim (cases_order j k) [
  | inl e ↦ absurd (omega (arith, lt, same_Some a b (sym one ∙ ap (λ i. slice_get chosen i) e ∙ other)))
  | inr r ↦ elim r [ inl low ↦ low | inr high ↦ absurd (omega (arith, lt, up k j b a other one high)) ]
]

-- what a step used in the list it uses in the part
uses_in_part : (steps : List StepModel) (chosen : List ℕ) (part : List StepModel) → IsPart steps chosen part → (number j : ℕ) → slice_get chosen j ≡ Some number
    → (before now : List ℕ) (premises : List Fact) → AllZip (StandsFor steps chosen) before now → AllZip (IsEarlier steps number) before premises → AllZip (IsEarlier part j) now premises
uses_in_part steps chosen part p number j at [] [] [] z e = tt
uses_in_part steps chosen part p number j at [] [] (f ∷ fs) z e = absurd e
uses_in_part steps chosen part p number j at [] (v ∷ vs) fs z e = absurd z
uses_in_part steps chosen part p number j at (u ∷ us) [] fs z e = absurd z
uses_in_part steps chosen part p number j at (u ∷ us) (v ∷ vs) [] z e = absurd e
uses_in_part steps chosen part p number j at (u ∷ us) (v ∷ vs) (f ∷ fs) z e =
    let w = z.0 in
    let x = in_part steps chosen part p w.number v w.step w.chosen_at w.at in
    let low : w.number < number = omega (arith, w.earlier, e.0.before) in (
      record { before = before_by chosen p.increase v j w.number number w.chosen_at at low; step = x.0; at = x.1; has = x.2 ∙ w.same e.0.step e.0.at ∙ e.0.has },
      uses_in_part steps chosen part p number j at us vs fs z.1 e.1,
    )

-- each step of the part follows
pub part_follows : (q : Questions) (steps : List StepModel) (chosen : List ℕ) (part : List StepModel) → IsPart steps chosen part → EachFollows q steps → EachFollows q part
part_follows q steps chosen part p each j x here =
    let r = p.each j x here in
    let s = each r.before r.old r.at in
    record {
      premises = s.premises;
      uses = uses_in_part steps chosen part p r.before j r.chosen_at r.old.uses x.uses s.premises r.uses s.uses;
      rule = subst (λ (f : Fact). Rule q x.rule s.premises f) (sym r.fact) (subst (λ (n : ℕ). Rule q n s.premises r.old.fact) (sym r.rule) s.rule);
    }

-- ---- a list that grows

-- what is in a list is at the same place after it has grown
grown_at : (steps more : List StepModel) (k : ℕ) (x : StepModel) → slice_get steps k ≡ Some x → slice_get (steps ++ more) k ≡ Some x
grown_at [] more k x at = absurd cc
grown_at (y ∷ ys) more zero x at = at
grown_at (y ∷ ys) more (suc k) x at = grown_at ys more k x at

uses_grown : (steps more : List StepModel) (number other : ℕ) → number ≤ other → (uses : List ℕ) (premises : List Fact) → AllZip (IsEarlier steps number) uses premises → AllZip (IsEarlier (steps ++ more) other) uses premises
uses_grown steps more number other le [] [] z = tt
uses_grown steps more number other le [] (f ∷ fs) z = absurd z
uses_grown steps more number other le (u ∷ us) [] z = absurd z
uses_grown steps more number other le (u ∷ us) (f ∷ fs) z =
    (record { before = omega (arith, le, z.0.before); step = z.0.step; at = grown_at steps more u z.0.step z.0.at; has = z.0.has }, uses_grown steps more number other le us fs z.1)

-- what a list gives, it still gives after it has grown
pub given_grown : (q : Questions) (steps more : List StepModel) (rule : ℕ) (uses : List ℕ) (f : Fact) → Gives q steps rule uses f → Gives q (steps ++ more) rule uses f
given_grown q steps more rule uses f g =
    let longer : length steps ≤ length (steps ++ more) = omega (arith, length-append steps more) in
    record { premises = g.premises; uses = uses_grown steps more (length steps) (length (steps ++ more)) longer uses g.premises g.uses; rule = g.rule }

last_at : (steps : List StepModel) (y : StepModel) (k : ℕ) (x : StepModel) → slice_get (steps ++ y ∷ []) k ≡ Some x → (slice_get steps k ≡ Some x) ⊎ ((k ≡ length steps) × (x ≡ y))
last_at [] y zero x at = inr (refl, sym (same_Some y x at))
last_at [] y (suc k) x at = absurd cc
last_at (z ∷ zs) y zero x at = inl at
last_at (z ∷ zs) y (suc k) x at = elim (last_at zs y k x at) [ inl h ↦ inl h | inr h ↦ inr (ap suc h.0, h.1) ]

-- a step that the list gives is appended
pub step_put : (q : Questions) (steps : List StepModel) (rule : ℕ) (uses : List ℕ) (f : Fact) → EachFollows q steps → Gives q steps rule uses f → EachFollows q (steps ++ record { rule = rule; fact = f; uses = uses } ∷ [])
step_put q steps rule uses f each g k x at =
    let y : StepModel = record { rule = rule; fact = f; uses = uses } in
    elim (last_at steps y k x at) [
      | inl here ↦ (
          let s = each k x here in
          record { premises = s.premises; uses = uses_grown steps (y ∷ []) k k (omega arith) x.uses s.premises s.uses; rule = s.rule })
      | inr is ↦ (
          let there : StepFollows q (steps ++ y ∷ []) (length steps) y = record { premises = g.premises; uses = uses_grown steps (y ∷ []) (length steps) (length steps) (omega arith) uses g.premises g.uses; rule = g.rule } in
          subst (λ (n : ℕ). StepFollows q (steps ++ y ∷ []) n x) (sym is.0) (subst (λ (z : StepModel). StepFollows q (steps ++ y ∷ []) (length steps) z) (sym is.1) there))
    ]

-- what a list gives is derivable
pub given_derivable : (q : Questions) (steps : List StepModel) (rule : ℕ) (uses : List ℕ) (f : Fact) → EachFollows q steps → Gives q steps rule uses f → Derivable q f
given_derivable q steps rule uses f each g =
    let all = each_derived q steps each in
    follows g.rule (λ h m. among_used (Derivable q) steps (length steps) (λ i x lt at. subst (λ (y : StepModel). Derivable q y.fact) (same_Some _ x (sym (slice_get-get_or steps i x lt) ∙ at)) (all i x lt)) uses g.premises g.uses h m)
