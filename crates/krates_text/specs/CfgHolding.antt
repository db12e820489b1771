-- The value of a cfg expression where given words and pairs hold, and no others (Rust Reference, "Conditional compilation").
use Rattle.std.specs.Prelude.{ℕ, Bool, true, false, not, ◌&&◌, ◌||◌, List, String, string_bytes}
use Rattle.std.specs.List.{list_any}
use Rattle.std.specs.Str.{bytes_eq}
use Rattle.std.specs.declared.alloc.Global.{Global}
use Rattle.krates_text.specs.Texts.{has_text}
use Rattle.krates_text.specs.CfgGrammar.{Tree, all_of, any_of, not_of, constant, word, pair, Trees, no_trees, tree}

-- a key and its string, as bytes
abbrev pub pair_bytes : String Global × String Global → List ℕ × List ℕ
pair_bytes p = (string_bytes p.0, string_bytes p.1)

-- the key is among the pairs with this string
abbrev pub has_pair : List (List ℕ × List ℕ) → List ℕ → List ℕ → Bool
has_pair pairs key string = list_any (λ p. bytes_eq p.0 key && bytes_eq p.1 string) pairs

-- the value where these words and pairs hold
abbrev mutual
  pub value_among : List (List ℕ) → List (List ℕ × List ℕ) → Tree → Bool
  value_among words pairs (all_of ps) = all_among words pairs ps
  value_among words pairs (any_of ps) = some_among words pairs ps
  value_among words pairs (not_of p) = not (value_among words pairs p)
  value_among words pairs (constant b) = b
  value_among words pairs (word w) = has_text words w
  value_among words pairs (pair key string) = has_pair pairs key string

  -- each of the list is true
  pub all_among : List (List ℕ) → List (List ℕ × List ℕ) → Trees → Bool
  all_among words pairs no_trees = true
  all_among words pairs (tree p ps) = value_among words pairs p && all_among words pairs ps

  -- one of the list is true
  pub some_among : List (List ℕ) → List (List ℕ × List ℕ) → Trees → Bool
  some_among words pairs no_trees = false
  some_among words pairs (tree p ps) = value_among words pairs p || some_among words pairs ps
