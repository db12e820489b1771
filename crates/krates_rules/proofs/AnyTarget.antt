-- What passes at some targets passes where no target is set.
use Rattle.std.proofs.Common.{◌≡◌, inl, inr, ℕ, Bool, true, false, not, ◌&&◌, ◌||◌, ltb, List, [], ◌∷◌, refl, sym, ap, ◌∙◌, arith}
use Rattle.std.proofs.lemmas.Bool.{cases_lt, lt-ltb}
use Rattle.std.specs.List.{list_any}
use Rattle.krates_text.specs.CfgGrammar.{Tree, all_of, any_of, not_of, constant, word, pair, Trees, no_trees, tree}
use Rattle.krates_text.specs.CfgValue.{value, all_true, some_true, count, count_among}
use Rattle.krates_text.specs.Passing.{Asked, expression_passes, TellsPassing}
use Rattle.krates_text.specs.TargetTable.{DescribedTarget, unknown}

-- an expression without words and pairs has the same value at all targets
mutual
  one_value : (d e : DescribedTarget) (f g : List (List ℕ)) (p : Tree) → count p ≡ 0 → value d f p ≡ value e g p
  one_value d e f g (all_of ps) none = all_same d e f g ps none
  one_value d e f g (any_of ps) none = some_same d e f g ps none
  one_value d e f g (not_of p) none = ap not (one_value d e f g p none)
  one_value d e f g (constant b) none = refl
  one_value d e f g (word w) none = absurd (omega (arith, none))
  one_value d e f g (pair key string) none = absurd (omega (arith, none))

  all_same : (d e : DescribedTarget) (f g : List (List ℕ)) (ps : Trees) → count_among ps ≡ 0
      → all_true d f ps ≡ all_true e g ps
  all_same d e f g no_trees none = refl
  all_same d e f g (tree p ps) none =
      let first = one_value d e f g p (omega (arith, none)) in
      let rest = all_same d e f g ps (omega (arith, none)) in
      ap (λ b. b && all_true d f ps) first ∙ ap (λ b. value e g p && b) rest

  some_same : (d e : DescribedTarget) (f g : List (List ℕ)) (ps : Trees) → count_among ps ≡ 0
      → some_true d f ps ≡ some_true e g ps
  some_same d e f g no_trees none = refl
  some_same d e f g (tree p ps) none =
      let first = one_value d e f g p (omega (arith, none)) in
      let rest = some_same d e f g ps (omega (arith, none)) in
      ap (λ b. b || some_true d f ps) first ∙ ap (λ b. value e g p || b) rest

-- where the test has one value for all elements, and some element passes, that value is yes
alike_any : {X : Type 0} (test : X → Bool) (b : Bool) → ((x : X) → test x ≡ b) → (xs : List X)
    → true ≡ list_any test xs → true ≡ b
alike_any test b same [] told = absurd cc
alike_any test true same (x ∷ xs) told = refl
alike_any test false same (x ∷ xs) told = alike_any test false same xs (told ∙ ap (λ t. t || list_any test xs) (same x))

or_right : (a b : Bool) → true ≡ b → true ≡ (a || b)
or_right true b told = refl
or_right false b told = told

expression_anywhere : (p : Tree) (targets : List Asked) → true ≡ expression_passes p targets → true ≡ expression_passes p []
expression_anywhere p [] told = told
expression_anywhere p (first ∷ rest) told = elim (cases_lt 0 (count p)) [
  | inl some ↦ ap (λ b. b || value (unknown []) [] p) (sym (lt-ltb 0 (count p) some))
  | inr none ↦ (
      let alike = λ (a : Asked). one_value a.target (unknown []) a.features [] p (omega (arith, none)) in
      let holds = alike_any (λ a. value a.target a.features p) (value (unknown []) [] p) alike (first ∷ rest) told in
      or_right (ltb 0 (count p)) (value (unknown []) [] p) holds)
]

pub passes_anywhere : (text : List ℕ) (targets : List Asked) → TellsPassing text targets true → TellsPassing text [] true
passes_anywhere text targets passes = record {
  expression = λ p is. expression_anywhere p targets (passes.expression p is);
  triple = λ none. refl;
}
