-- Whether the target text of a dependency lets it pass at some targets (Cargo Book, "Platform specific
-- dependencies").
use Rattle.std.specs.Prelude.{◌≡◌, ℕ, ◌||◌, Bool, true, nat_lt, List, [], ◌∷◌, Option, MatchOption}
use Rattle.std.specs.Borrow.{Bor}
use Rattle.std.specs.List.{list_any}
use Rattle.std.specs.Str.{bytes_eq}
use Rattle.krates_text.specs.TargetTable.{DescribedTarget, unknown, printed}
use Rattle.krates_text.specs.CfgGrammar.{Tree, IsExpression, IsNoExpression}
use Rattle.krates_text.specs.CfgValue.{value, count}

-- a target and its features
pub record Asked : Type 0 where
  pub target : DescribedTarget
  pub features : List (List ℕ)

-- without targets, an expression that has a word or a pair, or is true; otherwise one that some target alone makes true
abbrev pub expression_passes : Tree → List Asked → Bool
expression_passes p [] = nat_lt 0 (count p) || value (unknown []) [] p
expression_passes p (first ∷ rest) = list_any (λ a. value a.target a.features p) (first ∷ rest)

-- without targets, any triple; otherwise the printed text of one of them
abbrev pub triple_passes : List ℕ → List Asked → Bool
triple_passes text [] = true
triple_passes text (first ∷ rest) = list_any (λ a. bytes_eq (printed a.target) text) (first ∷ rest)

-- a text that is an expression passes as that expression; any other text is a triple
pub record TellsPassing (text : List ℕ) (targets : List Asked) (passes : Bool) : Type 0 where
  pub expression : (p : Tree) → IsExpression text p → passes ≡ expression_passes p targets
  pub triple : IsNoExpression text → passes ≡ triple_passes text targets

-- without a target text a dependency passes
abbrev pub TellsPassingOf : Option (Bor (List ℕ)) → List Asked → Bool → Type 0
TellsPassingOf text targets passes = MatchOption text (passes ≡ true) (λ t. TellsPassing t.now targets passes)
