-- The value of a cfg expression at a target, and how many words and pairs it has (Rust Reference, "Conditional compilation").
use Rattle.std.specs.Prelude.{ℕ, ◌+◌, Bool, true, false, not, ◌&&◌, ◌||◌, if◌then◌else◌, List, codes}
use Rattle.std.specs.Str.{bytes_eq}
use Rattle.krates_text.specs.TargetTable.{DescribedTarget, builtin, unknown}
use Rattle.krates_text.specs.Texts.{has_text}
use Rattle.krates_text.specs.CfgGrammar.{Tree, all_of, any_of, not_of, constant, word, pair, Trees, no_trees, tree}

-- a word: only `unix` and `windows` can be true
abbrev pub word_value : DescribedTarget → List ℕ → Bool
word_value (builtin d) w = (bytes_eq w (codes "unix") || bytes_eq w (codes "windows")) && has_text d.families w
word_value (unknown text) w = false

-- a pair, other than one of features
abbrev pub described_value : DescribedTarget → List ℕ → List ℕ → Bool
described_value (unknown text) key string = false
described_value (builtin d) key string =
    if bytes_eq key (codes "target_family") then has_text d.families string
    else (if bytes_eq key (codes "target_has_atomic") then has_text d.atomics string
    else (if bytes_eq key (codes "target_os") then bytes_eq d.os string
    else (if bytes_eq key (codes "target_arch") then bytes_eq d.arch string
    else (if bytes_eq key (codes "target_env") then bytes_eq d.env string
    else (if bytes_eq key (codes "target_abi") then bytes_eq d.abi string
    else (if bytes_eq key (codes "target_vendor") then bytes_eq d.vendor string
    else (if bytes_eq key (codes "target_pointer_width") then bytes_eq d.pointer_width string
    else (if bytes_eq key (codes "target_endian") then bytes_eq d.endian string
    else (if bytes_eq key (codes "panic") then bytes_eq d.panic string
    else false)))))))))

-- a pair: a feature is looked for among those that the caller gave
abbrev pub pair_value : DescribedTarget → List (List ℕ) → List ℕ → List ℕ → Bool
pair_value target features key string = if bytes_eq key (codes "target_feature") then has_text features string else described_value target key string

-- the value at a target with its features
abbrev mutual
  pub value : DescribedTarget → List (List ℕ) → Tree → Bool
  value target features (all_of ps) = all_true target features ps
  value target features (any_of ps) = some_true target features ps
  value target features (not_of p) = not (value target features p)
  value target features (constant b) = b
  value target features (word w) = word_value target w
  value target features (pair key string) = pair_value target features key string

  -- each of the list is true
  pub all_true : DescribedTarget → List (List ℕ) → Trees → Bool
  all_true target features no_trees = true
  all_true target features (tree p ps) = value target features p && all_true target features ps

  -- one of the list is true
  pub some_true : DescribedTarget → List (List ℕ) → Trees → Bool
  some_true target features no_trees = false
  some_true target features (tree p ps) = value target features p || some_true target features ps

-- how many words and pairs there are
abbrev mutual
  pub count : Tree → ℕ
  count (all_of ps) = count_among ps
  count (any_of ps) = count_among ps
  count (not_of p) = count p
  count (constant b) = 0
  count (word w) = 1
  count (pair key string) = 1

  -- in all predicates of a list
  pub count_among : Trees → ℕ
  count_among no_trees = 0
  count_among (tree p ps) = count p + count_among ps
