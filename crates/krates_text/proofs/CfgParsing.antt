-- What `parse` returns, from what is read after `cfg(`.
use Rattle.std.proofs.Common.{◌≡◌, ℕ, ◌+◌, ◌≤◌, List, [], ◌∷◌, ◌++◌, length, sym, ap, subst, ◌∙◌, arith, length-append}
use Rattle.std.specs.Prelude.{Result, Ok, Err, IfErr, IsErrAnd, codes}
use Rattle.std.proofs.lemmas.List.{append_cancel_left}
use Rattle.krates_text.specs.declared.cfg.CfgError.{CfgError}
use Rattle.krates_text.specs.declared.cfg.CfgError.TheVariants as error
use Rattle.krates_text.specs.CfgGrammar.{Tree, Trees, no_trees, tree, added, IsPredicate, is_true, is_false, is_word, is_pair, is_not, is_all, is_any, IsRow, no_more, one_more, IsList, closed, with_last, IsWord, IsExpression, IsTooDeep}
use Rattle.krates_text.specs.CfgReader.{too_deep, read}
use Rattle.krates_text.specs.CfgPlaces.{Fails}
use Rattle.krates_text.specs.CfgFault.{IsFault}
use Rattle.krates_text.specs.CfgValue.{count, count_among}
use Rattle.krates_text.proofs.CfgReading.{expression_reads, too_deep_reads}
use Rattle.krates_text.proofs.CfgSound.{IsRight, read_is_right}

same_behind : (text a b : List ℕ) → text ≡ codes "cfg(" ++ a → text ≡ codes "cfg(" ++ b → a ≡ b
same_behind text a b e f = append_cancel_left (codes "cfg(") a b (sym e ∙ f)

-- an expression is read as its tree
pub read_expression : (text behind : List ℕ) (p : Tree) → text ≡ codes "cfg(" ++ behind → IsExpression text p → read behind ≡ Ok p
read_expression text behind p e x =
    let s = x.spelled in
    ap read (same_behind text behind _ e s.is) ∙ expression_reads s.before s.predicate s.after s.end p s.blank_before s.spells x.nested s.blank_after s.blank_end

pub read_too_deep : (text behind : List ℕ) → text ≡ codes "cfg(" ++ behind → IsTooDeep text → read behind ≡ Err too_deep
read_too_deep text behind e d = ap read (same_behind text behind d.behind e d.is) ∙ too_deep_reads d.behind d.opens

-- what is read is an expression
pub parsed : (text behind : List ℕ) (p : Tree) → text ≡ codes "cfg(" ++ behind → read behind ≡ Ok p → IsExpression text p
parsed text behind p e found =
    let whole = subst (λ r. IsRight r behind) found (read_is_right behind) in
    record {
      spelled = record {
        before = whole.before;
        predicate = whole.text;
        after = whole.after;
        end = whole.end;
        is = e ∙ ap (λ l. codes "cfg(" ++ l) whole.is;
        blank_before = whole.blank_before;
        spells = whole.spells;
        blank_after = whole.blank_after;
        blank_end = whole.blank_end;
      };
      nested = whole.deep;
    }

-- and a fault that is reported is a fault of the text
pub fault_is : (text behind : List ℕ) (e : CfgError) → text ≡ codes "cfg(" ++ behind → Fails e (read behind) → IsFault text e
fault_is text behind error.Syntax e h = (
  (λ p x. let found = read_expression text behind p e x in cc),
  (λ d. let deep = read_too_deep text behind e d in cc),
)
fault_is text behind error.TooDeep e h = (
  (λ p x. let found = read_expression text behind p e x in cc),
  record { behind = behind; is = e; opens = subst (λ r. IsRight r behind) h (read_is_right behind) },
)
fault_is text behind error.Memory e h = tt

pub given_fault : {X : Type 0} (r : Result X CfgError) (e : CfgError) (text : List ℕ) → IsErrAnd r (λ y. y ≡ e) → IsFault text e → IfErr r (IsFault text)
given_fault (Ok x) e text h f = tt
given_fault (Err y) e text h f = subst (IsFault text) (sym h) f

-- a text has at most one tree
pub one_tree : (text : List ℕ) (p q : Tree) → IsExpression text p → IsExpression text q → p ≡ q
one_tree text p q x y =
    let s = x.spelled in
    let behind = s.before ++ (s.predicate ++ (s.after ++ 41 ∷ s.end)) in
    let first = read_expression text behind p s.is x in
    let second = read_expression text behind q s.is y in
    cc

-- and no text has a tree and is too deep as well
pub not_both : (text : List ℕ) (p : Tree) → IsExpression text p → IsTooDeep text → ⊥
not_both text p x d =
    let found = read_expression text d.behind p d.is x in
    let deep = read_too_deep text d.behind d.is d in
    cc

count-added : (ps : Trees) (p : Tree) → count_among (added ps p) ≡ count_among ps + count p
count-added no_trees p = omega arith
count-added (tree q ps) p = omega (arith, count-added ps p)

word_some : (w : List ℕ) → IsWord w → 1 ≤ length w
word_some [] h = absurd h
word_some (c ∷ w) h = omega arith

-- each word and each pair takes at least one byte
mutual
  pub count_fits : (t : List ℕ) (p : Tree) → IsPredicate t p → count p ≤ length t
  count_fits t p is_true = omega arith
  count_fits t p is_false = omega arith
  count_fits t p (is_word w free) = word_some w free.0
  count_fits t p (is_pair w a b s free before behind lacks) =
      let some = word_some w free.0 in
      omega (arith, length-append w (a ++ 61 ∷ (b ++ 34 ∷ (s ++ 34 ∷ []))))
  count_fits t p (is_not a b u c q before front inner behind) =
      let fits = count_fits u q inner in
      omega (arith, length-append a (40 ∷ (b ++ (u ++ (c ++ 41 ∷ [])))), length-append b (u ++ (c ++ 41 ∷ [])), length-append u (c ++ 41 ∷ []))
  count_fits t p (is_all a u ps blanks inner) =
      let fits = list_fits u ps inner in
      omega (arith, length-append a (40 ∷ (u ++ 41 ∷ [])), length-append u (41 ∷ []))
  count_fits t p (is_any a u ps blanks inner) =
      let fits = list_fits u ps inner in
      omega (arith, length-append a (40 ∷ (u ++ 41 ∷ [])), length-append u (41 ∷ []))

  row_fits : (y : List ℕ) (ps : Trees) → IsRow y ps → count_among ps ≤ length y
  row_fits y ps (no_more a blanks) = omega arith
  row_fits y ps (one_more x t a b qs p row one before behind) =
      let fits = row_fits x qs row in
      let more = count_fits t p one in
      omega (arith, count-added qs p, length-append x (t ++ (a ++ 44 ∷ b)), length-append t (a ++ 44 ∷ b))

  list_fits : (y : List ℕ) (ps : Trees) → IsList y ps → count_among ps ≤ length y
  list_fits y ps (closed x qs row) = row_fits x qs row
  list_fits y ps (with_last x t a qs p row one blanks) =
      let fits = row_fits x qs row in
      let more = count_fits t p one in
      omega (arith, count-added qs p, length-append x (t ++ a), length-append t a)

-- an expression has fewer predicates than its text has bytes
pub expression_fits : (text : List ℕ) (p : Tree) → IsExpression text p → count p ≤ length text
expression_fits text p x =
    let s = x.spelled in
    let body = s.after ++ 41 ∷ s.end in
    let fits = count_fits s.predicate p s.spells in
    omega (arith, ap length s.is, length-append s.before (s.predicate ++ body), length-append s.predicate body)
