-- cfg expressions: which text is which tree. The shape is that of the Rust Reference, "Conditional compilation".
use Rattle.std.specs.Prelude.{◌≡◌, ℕ, suc, ◌+◌, ◌≤◌, ◌==◌, ◌&&◌, ◌||◌, Bool, true, false, nat_le, max, List, [], ◌∷◌, ◌++◌, length, codes, IsTrue}
use Rattle.std.specs.List.{AllByRecursion}
use Rattle.std.specs.Str.{bytes_eq}
use Rattle.krates_text.specs.Cuts.{Lacks}

-- a predicate, which may hold other predicates
mutual
  pub data Tree : Type 0 where
    all_of : Trees → Tree
    any_of : Trees → Tree
    not_of : Tree → Tree
    constant : Bool → Tree
    word : List ℕ → Tree
    pair : (key string : List ℕ) → Tree

  -- predicates in a list
  pub data Trees : Type 0 where
    no_trees : Trees
    tree : Tree → Trees → Trees

-- the trees with one more at their end
abbrev pub added : Trees → Tree → Trees
added no_trees last = tree last no_trees
added (tree first rest) last = tree first (added rest last)

-- a space, a tab, a newline or a carriage return
abbrev pub is_blank : ℕ → Bool
is_blank c = c == 32 || c == 9 || c == 10 || c == 13

-- spaces, tabs, newlines or carriage returns, or nothing
abbrev pub AreBlanks : List ℕ → Type 0
AreBlanks text = AllByRecursion (λ c. IsTrue (is_blank c)) text

-- a number in this range
abbrev pub is_between : ℕ → ℕ → ℕ → Bool
is_between low high c = nat_le low c && nat_le c high

-- a letter of ASCII or `_`
abbrev pub is_word_start : ℕ → Bool
is_word_start c = is_between 97 122 c || is_between 65 90 c || c == 95

-- such a letter, or a digit
abbrev pub is_word_part : ℕ → Bool
is_word_part c = is_word_start c || is_between 48 57 c

-- a letter or `_`, and then letters, digits or `_`
abbrev pub IsWord : List ℕ → Type 0
IsWord [] = ⊥
IsWord (c ∷ rest) = IsTrue (is_word_start c) × AllByRecursion (λ b. IsTrue (is_word_part b)) rest

-- the names of the forms
abbrev pub is_form : List ℕ → Bool
is_form w = bytes_eq w (codes "all") || bytes_eq w (codes "any") || bytes_eq w (codes "not")

-- the names that can't be a word of their own
abbrev pub is_reserved : List ℕ → Bool
is_reserved w = is_form w || bytes_eq w (codes "true") || bytes_eq w (codes "false")

-- a word that is neither a form nor a constant
abbrev pub IsFreeWord : List ℕ → Type 0
IsFreeWord w = IsWord w × (is_reserved w ≡ false)

-- which text is which predicate
mutual
  pub data IsPredicate : List ℕ → Tree → Type 0 where
    is_true : IsPredicate (codes "true") (constant true)
    is_false : IsPredicate (codes "false") (constant false)
    is_word : (w : List ℕ) → IsFreeWord w → IsPredicate w (word w)
    is_pair : (w a b s : List ℕ) → IsFreeWord w → AreBlanks a → AreBlanks b → Lacks 34 s → IsPredicate (w ++ (a ++ 61 ∷ (b ++ 34 ∷ (s ++ 34 ∷ [])))) (pair w s)
    is_not : (a b t c : List ℕ) (p : Tree) → AreBlanks a → AreBlanks b → IsPredicate t p → AreBlanks c → IsPredicate (codes "not" ++ (a ++ 40 ∷ (b ++ (t ++ (c ++ 41 ∷ []))))) (not_of p)
    is_all : (a t : List ℕ) (ps : Trees) → AreBlanks a → IsList t ps → IsPredicate (codes "all" ++ (a ++ 40 ∷ (t ++ 41 ∷ []))) (all_of ps)
    is_any : (a t : List ℕ) (ps : Trees) → AreBlanks a → IsList t ps → IsPredicate (codes "any" ++ (a ++ 40 ∷ (t ++ 41 ∷ []))) (any_of ps)

  -- predicates with a comma after each, and blanks around them
  pub data IsRow : List ℕ → Trees → Type 0 where
    no_more : (a : List ℕ) → AreBlanks a → IsRow a no_trees
    one_more : (x t a b : List ℕ) (ps : Trees) (p : Tree) → IsRow x ps → IsPredicate t p → AreBlanks a → AreBlanks b → IsRow (x ++ (t ++ (a ++ 44 ∷ b))) (added ps p)

  -- the same, and perhaps a last predicate without a comma
  pub data IsList : List ℕ → Trees → Type 0 where
    closed : (x : List ℕ) (ps : Trees) → IsRow x ps → IsList x ps
    with_last : (x t a : List ℕ) (ps : Trees) (p : Tree) → IsRow x ps → IsPredicate t p → AreBlanks a → IsList (x ++ (t ++ a)) (added ps p)

-- how many of `all`, `any` and `not` are nested in one another
abbrev mutual
  pub nesting : Tree → ℕ
  nesting (all_of ps) = suc (nesting_among ps)
  nesting (any_of ps) = suc (nesting_among ps)
  nesting (not_of p) = suc (nesting p)
  nesting (constant b) = 0
  nesting (word w) = 0
  nesting (pair key string) = 0

  -- the deepest nesting in a list
  pub nesting_among : Trees → ℕ
  nesting_among no_trees = 0
  nesting_among (tree p ps) = max (nesting p) (nesting_among ps)

-- how many forms may be nested
abbrev pub max_nesting : ℕ
max_nesting = 127

-- `cfg(`, a predicate and `)`, with blanks around the predicate and after the `)`
pub record IsUnlimited (text : List ℕ) (p : Tree) : Type 0 where
  pub before : List ℕ
  pub predicate : List ℕ
  pub after : List ℕ
  pub end : List ℕ
  pub is : text ≡ codes "cfg(" ++ (before ++ (predicate ++ (after ++ 41 ∷ end)))
  pub blank_before : AreBlanks before
  pub spells : IsPredicate predicate p
  pub blank_after : AreBlanks after
  pub blank_end : AreBlanks end

-- the text is this expression
pub record IsExpression (text : List ℕ) (p : Tree) : Type 0 where
  pub spelled : IsUnlimited text p
  pub nested : nesting p ≤ max_nesting

-- a form that a text has opened: what is in it before the place where the next predicate may begin
pub data Frame : Type 0 where
  in_not : Frame
  in_all : Trees → Frame
  in_any : Trees → Frame

-- the text after `cfg(` has opened these forms without a fault, the innermost first, and ends where the next
-- predicate may begin
abbrev pub HasOpened : List Frame → List ℕ → Type 0
HasOpened [] text = AreBlanks text
HasOpened (in_not ∷ outer) text = (x : List ℕ) × (a : List ℕ) × (b : List ℕ) × HasOpened outer x × AreBlanks a × AreBlanks b × (text ≡ x ++ (codes "not" ++ (a ++ 40 ∷ b)))
HasOpened (in_all ps ∷ outer) text = (x : List ℕ) × (a : List ℕ) × (y : List ℕ) × HasOpened outer x × AreBlanks a × IsRow y ps × (nesting_among ps + suc (length outer) ≤ max_nesting) × (text ≡ x ++ (codes "all" ++ (a ++ 40 ∷ y)))
HasOpened (in_any ps ∷ outer) text = (x : List ℕ) × (a : List ℕ) × (y : List ℕ) × HasOpened outer x × AreBlanks a × IsRow y ps × (nesting_among ps + suc (length outer) ≤ max_nesting) × (text ≡ x ++ (codes "any" ++ (a ++ 40 ∷ y)))

-- the text after `cfg(` has opened as many forms as may be nested, without a fault, and opens one more
pub record OpensTooMany (text : List ℕ) : Type 0 where
  pub frames : List Frame
  pub deep : length frames ≡ max_nesting
  pub opened : List ℕ
  pub opens : HasOpened frames opened
  pub name : List ℕ
  pub form : is_form name ≡ true
  pub blanks : List ℕ
  pub are : AreBlanks blanks
  pub rest : List ℕ
  pub is : text ≡ opened ++ (name ++ (blanks ++ 40 ∷ rest))

-- a beginning of the text opens one form too many, without a fault before it
pub record IsTooDeep (text : List ℕ) : Type 0 where
  pub behind : List ℕ
  pub is : text ≡ codes "cfg(" ++ behind
  pub opens : OpensTooMany behind

-- the text isn't an expression
abbrev pub IsNoExpression : List ℕ → Type 0
IsNoExpression text = (p : Tree) → IsExpression text p → ⊥
