-- A text of the grammar is read as the grammar says.
use Rattle.std.proofs.Common.{◌≡◌, ◌≢◌, ℕ, suc, ◌+◌, ◌<◌, ◌≤◌, true, false, Bool, List, [], ◌∷◌, ◌++◌, length, refl, sym, ap, subst, ◌∙◌, arith, ◌⊎◌, inl, inr, append_assoc, append-nil, eqb}
use Rattle.std.specs.Prelude.{Result, Ok, Err, IsTrue, codes, max}
use Rattle.std.specs.List.{AllByRecursion}
use Rattle.std.specs.Str.{bytes_eq}
use Rattle.std.proofs.lemmas.Bool.{cases_Bool, ne_eqb, both_ways, or_from, or_parts, or_cases, lt-ltb, le-ltb}
use Rattle.std.proofs.lemmas.Slice.Eq.{bytes_eq-Decides}
use Rattle.krates_text.specs.Cuts.{Lacks}
use Rattle.krates_text.specs.CfgGrammar.{Tree, all_of, any_of, not_of, word, pair, Trees, no_trees, tree, added, is_blank, AreBlanks, IsPredicate, is_true, is_false, is_word, is_pair, is_not, is_all, is_any, IsRow, no_more, one_more, IsList, closed, with_last, max_nesting, Frame, in_not, in_all, in_any, is_word_start, is_word_part, IsWord, IsFreeWord, is_reserved, nesting, nesting_among, HasOpened, OpensTooMany, is_form}
use Rattle.krates_text.specs.CfgReader.{Fault, too_deep, Place, at_predicate, in_word, after_word, at_string, in_string, after_predicate, at_end, State, at, step, step_word, step_after, run, and_then, leaf, read, result_of}

-- functions that agree on every state agree after a result
then_run : (r : Result State Fault) (f g : State → Result State Fault) → ((t : State) → f t ≡ g t) → and_then r f ≡ and_then r g
then_run (Ok t) f g h = h t
then_run (Err e) f g h = refl

then_assoc : (r : Result State Fault) (f g : State → Result State Fault) → and_then (and_then r f) g ≡ and_then r (λ t. and_then (f t) g)
then_assoc (Ok t) f g = refl
then_assoc (Err e) f g = refl

-- reading on
pub run-append : (s : State) (x y : List ℕ) → run s (x ++ y) ≡ and_then (run s x) (λ t. run t y)
run-append s [] y = refl
run-append s (c ∷ x) y = then_run (step s.frames s.place c) _ _ (λ t. run-append t x y) ∙ sym (then_assoc (step s.frames s.place c) (λ t. run t x) (λ t. run t y))

-- one byte is read, then the text after it
one_step : (fs : List Frame) (place : Place) (c : ℕ) (x : List ℕ) (r : Result State Fault) → step fs place c ≡ r → run (at fs place) (c ∷ x) ≡ and_then r (λ t. run t x)
one_step fs place c x r e = ap (λ q. and_then q (λ t. run t x)) e

-- a byte of a class differs from a byte outside it
apart : (P : ℕ → Bool) (c k : ℕ) → P c ≡ true → P k ≡ false → eqb c k ≡ false
apart P c k h e = ne_eqb c k (λ same. both_ways (P c) (ap P same ∙ e) h)

start_not_blank : (c : ℕ) → is_word_start c ≡ true → is_blank c ≡ false
start_not_blank c h = or_from _ _ (or_from _ _ (or_from _ _ (apart is_word_start c 32 h refl) (apart is_word_start c 9 h refl)) (apart is_word_start c 10 h refl)) (apart is_word_start c 13 h refl)

part_not_blank : (c : ℕ) → is_word_part c ≡ true → is_blank c ≡ false
part_not_blank c h = or_from _ _ (or_from _ _ (or_from _ _ (apart is_word_part c 32 h refl) (apart is_word_part c 9 h refl)) (apart is_word_part c 10 h refl)) (apart is_word_part c 13 h refl)

blank_not_part : (c : ℕ) → is_blank c ≡ true → is_word_part c ≡ false
blank_not_part c h = elim (cases_Bool (is_word_part c)) [ inl e ↦ absurd (both_ways _ (part_not_blank c e) h) | inr e ↦ e ]

-- the steps of a blank
step_blank : (fs : List Frame) (c : ℕ) → is_blank c ≡ true → step fs at_predicate c ≡ Ok (at fs at_predicate)
unfolding step
step_blank fs c h = rw h refl

step_blank_after : (fs : List Frame) (p : Tree) (c : ℕ) → is_blank c ≡ true → step fs (after_predicate p) c ≡ Ok (at fs (after_predicate p))
unfolding step step_after
step_blank_after fs p c h = rw h refl

step_blank_end : (fs : List Frame) (p : Tree) (c : ℕ) → is_blank c ≡ true → step fs (at_end p) c ≡ Ok (at fs (at_end p))
unfolding step
step_blank_end fs p c h = rw h refl

step_blank_string : (fs : List Frame) (key : List ℕ) (c : ℕ) → is_blank c ≡ true → step fs (at_string key) c ≡ Ok (at fs (at_string key))
unfolding step
step_blank_string fs key c h = rw h refl

step_blank_spaced : (fs : List Frame) (w : List ℕ) (c : ℕ) → is_blank c ≡ true → step fs (after_word w) c ≡ Ok (at fs (after_word w))
unfolding step step_word
step_blank_spaced fs w c h = rw h refl

step_blank_word : (fs : List Frame) (w : List ℕ) (c : ℕ) → is_blank c ≡ true → step fs (in_word w) c ≡ Ok (at fs (after_word w))
unfolding step step_word
step_blank_word fs w c h = rw (blank_not_part c h, h) refl

-- blanks that change nothing may be left out
skip : (fs : List Frame) (place : Place) → ((c : ℕ) → is_blank c ≡ true → step fs place c ≡ Ok (at fs place)) → (a x : List ℕ) → AreBlanks a → run (at fs place) (a ++ x) ≡ run (at fs place) x
skip fs place h [] x blanks = refl
skip fs place h (c ∷ a) x blanks = one_step fs place c (a ++ x) _ (h c blanks.0) ∙ skip fs place h a x blanks.1

pub skip_before : (fs : List Frame) (a x : List ℕ) → AreBlanks a → run (at fs at_predicate) (a ++ x) ≡ run (at fs at_predicate) x
skip_before fs = skip fs at_predicate (step_blank fs)

pub skip_end : (fs : List Frame) (p : Tree) (a x : List ℕ) → AreBlanks a → run (at fs (at_end p)) (a ++ x) ≡ run (at fs (at_end p)) x
skip_end fs p = skip fs (at_end p) (step_blank_end fs p)

after_step : (fs : List Frame) (p : Tree) (c : ℕ) → step fs (after_predicate p) c ≡ step_after fs p c
unfolding step
after_step fs p c = refl

-- the byte after a predicate and blanks
then_after : (fs : List Frame) (p : Tree) (a : List ℕ) (c : ℕ) (x : List ℕ) → AreBlanks a → run (at fs (after_predicate p)) (a ++ c ∷ x) ≡ and_then (step_after fs p c) (λ t. run t x)
then_after fs p a c x h = skip fs (after_predicate p) (step_blank_after fs p) a (c ∷ x) h ∙ one_step fs (after_predicate p) c x _ (after_step fs p c)

spaced_step : (fs : List Frame) (w : List ℕ) (c : ℕ) → step fs (after_word w) c ≡ step_word fs w c
unfolding step
spaced_step fs w c = refl

word_step : (fs : List Frame) (w : List ℕ) (c : ℕ) → is_word_part c ≡ false → step fs (in_word w) c ≡ step_word fs w c
unfolding step
word_step fs w c h = rw h refl

-- the byte after a word and blanks
then_word : (fs : List Frame) (w a : List ℕ) (c : ℕ) (x : List ℕ) → AreBlanks a → is_word_part c ≡ false → run (at fs (in_word w)) (a ++ c ∷ x) ≡ and_then (step_word fs w c) (λ t. run t x)
then_word fs w [] c x h e = one_step fs (in_word w) c x _ (word_step fs w c e)
then_word fs w (b ∷ a) c x h e =
    one_step fs (in_word w) b (a ++ c ∷ x) _ (step_blank_word fs w b h.0)
    ∙ skip fs (after_word w) (step_blank_spaced fs w) a (c ∷ x) h.1
    ∙ one_step fs (after_word w) c x _ (spaced_step fs w c)

letter_step : (fs : List Frame) (u : List ℕ) (c : ℕ) → is_word_part c ≡ true → step fs (in_word u) c ≡ Ok (at fs (in_word (u ++ c ∷ [])))
unfolding step
letter_step fs u c h = rw h refl

letters : (fs : List Frame) (u w x : List ℕ) → AllByRecursion (λ b. IsTrue (is_word_part b)) w → run (at fs (in_word u)) (w ++ x) ≡ run (at fs (in_word (u ++ w))) x
letters fs u [] x h = ap (λ v. run (at fs (in_word v)) x) (sym (append-nil u))
letters fs u (c ∷ w) x h =
    one_step fs (in_word u) c (w ++ x) _ (letter_step fs u c h.0)
    ∙ letters fs (u ++ c ∷ []) w x h.1
    ∙ ap (λ v. run (at fs (in_word v)) x) (append_assoc u (c ∷ []) w)

start_step : (fs : List Frame) (c : ℕ) → is_word_start c ≡ true → step fs at_predicate c ≡ Ok (at fs (in_word (c ∷ [])))
unfolding step
start_step fs c h = rw (start_not_blank c h, apart is_word_start c 41 h refl, h) refl

-- a word, where a predicate may begin
read_word : (fs : List Frame) (w x : List ℕ) → IsWord w → run (at fs at_predicate) (w ++ x) ≡ run (at fs (in_word w)) x
read_word fs [] x h = absurd h
read_word fs (c ∷ w) x h = one_step fs at_predicate c (w ++ x) _ (start_step fs c h.0) ∙ letters fs (c ∷ []) w x h.1

-- a comma or a `)`: what ends a predicate
abbrev IsEnd : ℕ → Type 0
IsEnd c = (c ≡ 44) ⊎ (c ≡ 41)

end_not_part : (c : ℕ) → IsEnd c → is_word_part c ≡ false
end_not_part c (inl e) = ap is_word_part e
end_not_part c (inr e) = ap is_word_part e

leaf_step : (fs : List Frame) (w : List ℕ) (c : ℕ) → is_form w ≡ false → IsEnd c → step_word fs w c ≡ step_after fs (leaf w) c
unfolding step_word
leaf_step fs w c h (inl e) = subst (λ k. step_word fs w k ≡ step_after fs (leaf w) k) (sym e) (rw h refl)
leaf_step fs w c h (inr e) = subst (λ k. step_word fs w k ≡ step_after fs (leaf w) k) (sym e) (rw h refl)

free_not_form : (w : List ℕ) → is_reserved w ≡ false → is_form w ≡ false
free_not_form w h = (or_parts _ _ (or_parts _ _ h).0).0

free_leaf : (w : List ℕ) → is_reserved w ≡ false → leaf w ≡ word w
free_leaf w h =
    let not_true : bytes_eq w (codes "true") ≡ false = (or_parts _ _ (or_parts _ _ h).0).1 in
    let not_false : bytes_eq w (codes "false") ≡ false = (or_parts _ _ h).1 in
    rw (not_true, not_false) refl

-- a word, then blanks, then the end of a predicate
then_leaf : (fs : List Frame) (w a : List ℕ) (c : ℕ) (x : List ℕ) → IsWord w → is_form w ≡ false → AreBlanks a → IsEnd c → run (at fs at_predicate) (w ++ (a ++ c ∷ x)) ≡ and_then (step_after fs (leaf w) c) (λ t. run t x)
then_leaf fs w a c x is form blanks end =
    read_word fs w (a ++ c ∷ x) is
    ∙ then_word fs w a c x blanks (end_not_part c end)
    ∙ ap (λ r. and_then r (λ t. run t x)) (leaf_step fs w c form end)

equals_step : (fs : List Frame) (w : List ℕ) → is_reserved w ≡ false → step_word fs w 61 ≡ Ok (at fs (at_string w))
unfolding step_word
equals_step fs w h = rw h refl

quote_step : (fs : List Frame) (key : List ℕ) → step fs (at_string key) 34 ≡ Ok (at fs (in_string key []))
unfolding step
quote_step fs key = refl

end_step : (fs : List Frame) (key string : List ℕ) → step fs (in_string key string) 34 ≡ Ok (at fs (after_predicate (pair key string)))
unfolding step
end_step fs key string = refl

string_step : (fs : List Frame) (key string : List ℕ) (c : ℕ) → c ≢ 34 → step fs (in_string key string) c ≡ Ok (at fs (in_string key (string ++ c ∷ [])))
unfolding step
string_step fs key string c h = rw (ne_eqb c 34 h) refl

pub read_string : (fs : List Frame) (key u s x : List ℕ) → Lacks 34 s → run (at fs (in_string key u)) (s ++ x) ≡ run (at fs (in_string key (u ++ s))) x
read_string fs key u [] x h = ap (λ v. run (at fs (in_string key v)) x) (sym (append-nil u))
read_string fs key u (c ∷ s) x h =
    one_step fs (in_string key u) c (s ++ x) _ (string_step fs key u c h.0)
    ∙ read_string fs key (u ++ c ∷ []) s x h.1
    ∙ ap (λ v. run (at fs (in_string key v)) x) (append_assoc u (c ∷ []) s)

read_pair : (fs : List Frame) (w a b s x : List ℕ) → IsFreeWord w → AreBlanks a → AreBlanks b → Lacks 34 s → run (at fs at_predicate) (w ++ (a ++ 61 ∷ (b ++ 34 ∷ (s ++ 34 ∷ x)))) ≡ run (at fs (after_predicate (pair w s))) x
read_pair fs w a b s x free before behind lacks =
    read_word fs w _ free.0
    ∙ then_word fs w a 61 _ before refl
    ∙ ap (λ r. and_then r (λ t. run t (b ++ 34 ∷ (s ++ 34 ∷ x)))) (equals_step fs w free.1)
    ∙ skip fs (at_string w) (step_blank_string fs w) b _ behind
    ∙ one_step fs (at_string w) 34 _ _ (quote_step fs w)
    ∙ read_string fs w [] s _ lacks
    ∙ one_step fs (in_string w s) 34 x _ (end_step fs w s)

-- a form is opened
open_form : (fs : List Frame) (name a x : List ℕ) (frame : Frame) → IsWord name → AreBlanks a → step_word fs name 40 ≡ Ok (at (frame ∷ fs) at_predicate) → run (at fs at_predicate) (name ++ (a ++ 40 ∷ x)) ≡ run (at (frame ∷ fs) at_predicate) x
open_form fs name a x frame is blanks e =
    read_word fs name _ is
    ∙ then_word fs name a 40 x blanks refl
    ∙ ap (λ r. and_then r (λ t. run t x)) e

is_name_all : IsWord (codes "all")
is_name_all = (refl, (refl, (refl, tt)))

is_name_any : IsWord (codes "any")
is_name_any = (refl, (refl, (refl, tt)))

is_name_not : IsWord (codes "not")
is_name_not = (refl, (refl, (refl, tt)))

open_not : (fs : List Frame) → length fs < max_nesting → step_word fs (codes "not") 40 ≡ Ok (at (in_not ∷ fs) at_predicate)
unfolding step_word
open_not fs h = rw (lt-ltb (length fs) max_nesting h) refl

-- the frame of `all` or `any` with these predicates
abbrev pub frame_of_list : Bool → Trees → Frame
frame_of_list true ps = in_all ps
frame_of_list false ps = in_any ps

abbrev pub tree_of_list : Bool → Trees → Tree
tree_of_list true ps = all_of ps
tree_of_list false ps = any_of ps

open_all : (fs : List Frame) → length fs < max_nesting → step_word fs (codes "all") 40 ≡ Ok (at (in_all no_trees ∷ fs) at_predicate)
unfolding step_word
open_all fs h = rw (lt-ltb (length fs) max_nesting h) refl

open_any : (fs : List Frame) → length fs < max_nesting → step_word fs (codes "any") 40 ≡ Ok (at (in_any no_trees ∷ fs) at_predicate)
unfolding step_word
open_any fs h = rw (lt-ltb (length fs) max_nesting h) refl

divide_list : (form : Bool) (fs : List Frame) (ps : Trees) (p : Tree) → step_after (frame_of_list form ps ∷ fs) p 44 ≡ Ok (at (frame_of_list form (added ps p) ∷ fs) at_predicate)
unfolding step_after
divide_list true fs ps p = refl
divide_list false fs ps p = refl

close_list : (form : Bool) (fs : List Frame) (ps : Trees) (p : Tree) → step_after (frame_of_list form ps ∷ fs) p 41 ≡ Ok (at fs (after_predicate (tree_of_list form (added ps p))))
unfolding step_after
close_list true fs ps p = refl
close_list false fs ps p = refl

close_row : (form : Bool) (fs : List Frame) (ps : Trees) → step (frame_of_list form ps ∷ fs) at_predicate 41 ≡ Ok (at fs (after_predicate (tree_of_list form ps)))
unfolding step
close_row true fs ps = refl
close_row false fs ps = refl

close_not : (fs : List Frame) (p : Tree) → step_after (in_not ∷ fs) p 41 ≡ Ok (at fs (after_predicate (not_of p)))
unfolding step_after
close_not fs p = refl

close_all : (p : Tree) → step_after [] p 41 ≡ Ok (at [] (at_end p))
unfolding step_after
close_all p = refl

-- the nesting with one more predicate
pub nesting-added : (ps : Trees) (p : Tree) → nesting_among (added ps p) ≡ max (nesting_among ps) (nesting p)
nesting-added no_trees p = omega arith
nesting-added (tree q ps) p = omega (arith, nesting-added ps p)

-- where a predicate may begin, this text is read as this predicate
abbrev pub ReadsAs : List ℕ → Tree → Type 0
ReadsAs t p = (fs : List Frame) (a : List ℕ) (c : ℕ) (x : List ℕ) → nesting p + length fs ≤ max_nesting → AreBlanks a → IsEnd c → run (at fs at_predicate) (t ++ (a ++ c ∷ x)) ≡ and_then (step_after fs p c) (λ s. run s x)

-- in a list, this text is read as these predicates, with a comma after each
abbrev pub RowReadsAs : List ℕ → Trees → Type 0
RowReadsAs y ps = (form : Bool) (fs : List Frame) (x : List ℕ) → nesting_among ps + suc (length fs) ≤ max_nesting → run (at (frame_of_list form no_trees ∷ fs) at_predicate) (y ++ x) ≡ run (at (frame_of_list form ps ∷ fs) at_predicate) x

-- up to the `)`, this text is read as these predicates
abbrev pub ListReadsAs : List ℕ → Trees → Type 0
ListReadsAs y ps = (form : Bool) (fs : List Frame) (x : List ℕ) → nesting_among ps + suc (length fs) ≤ max_nesting → run (at (frame_of_list form no_trees ∷ fs) at_predicate) (y ++ 41 ∷ x) ≡ run (at fs (after_predicate (tree_of_list form ps))) x

not_reads : (a b t c : List ℕ) (p : Tree) → AreBlanks a → AreBlanks b → ReadsAs t p → AreBlanks c → ReadsAs (codes "not" ++ (a ++ 40 ∷ (b ++ (t ++ (c ++ 41 ∷ []))))) (not_of p)
not_reads a b t c p before front inner behind fs a' c' x deep blanks end =
    let rest = a' ++ c' ∷ x in
    let regrouped : (a ++ 40 ∷ (b ++ (t ++ (c ++ 41 ∷ [])))) ++ rest ≡ a ++ 40 ∷ (b ++ (t ++ (c ++ 41 ∷ rest))) = simp append_assoc in
    ap (λ y. run (at fs at_predicate) (codes "not" ++ y)) regrouped
    ∙ open_form fs (codes "not") a _ in_not is_name_not before (open_not fs (omega arith))
    ∙ skip_before (in_not ∷ fs) b _ front
    ∙ inner (in_not ∷ fs) c 41 rest (omega arith) behind (inr refl)
    ∙ ap (λ r. and_then r (λ s. run s rest)) (close_not fs p)
    ∙ then_after fs (not_of p) a' c' x blanks

list_reads : (form : Bool) (name a t : List ℕ) (ps : Trees) → IsWord name → ((fs : List Frame) → length fs < max_nesting → step_word fs name 40 ≡ Ok (at (frame_of_list form no_trees ∷ fs) at_predicate)) → AreBlanks a → ListReadsAs t ps
    → (fs : List Frame) (a' : List ℕ) (c : ℕ) (x : List ℕ) → nesting_among ps + suc (length fs) ≤ max_nesting → AreBlanks a' → run (at fs at_predicate) ((name ++ (a ++ 40 ∷ (t ++ 41 ∷ []))) ++ (a' ++ c ∷ x)) ≡ and_then (step_after fs (tree_of_list form ps) c) (λ s. run s x)
list_reads form name a t ps is opens before inner fs a' c x deep blanks =
    let rest = a' ++ c ∷ x in
    let regrouped : (name ++ (a ++ 40 ∷ (t ++ 41 ∷ []))) ++ rest ≡ name ++ (a ++ 40 ∷ (t ++ 41 ∷ rest)) = simp append_assoc in
    ap (run (at fs at_predicate)) regrouped
    ∙ open_form fs name a _ (frame_of_list form no_trees) is before (opens fs (omega arith))
    ∙ inner form fs rest deep
    ∙ then_after fs (tree_of_list form ps) a' c x blanks

row_more : (x t a b : List ℕ) (ps : Trees) (p : Tree) → RowReadsAs x ps → ReadsAs t p → AreBlanks a → AreBlanks b → RowReadsAs (x ++ (t ++ (a ++ 44 ∷ b))) (added ps p)
row_more x t a b ps p row one before behind form fs rest deep =
    let n = nesting-added ps p in
    let regrouped : (x ++ (t ++ (a ++ 44 ∷ b))) ++ rest ≡ x ++ (t ++ (a ++ 44 ∷ (b ++ rest))) = simp append_assoc in
    ap (run (at (frame_of_list form no_trees ∷ fs) at_predicate)) regrouped
    ∙ row form fs _ (omega arith)
    ∙ one (frame_of_list form ps ∷ fs) a 44 (b ++ rest) (omega arith) before (inl refl)
    ∙ ap (λ r. and_then r (λ s. run s (b ++ rest))) (divide_list form fs ps p)
    ∙ skip_before (frame_of_list form (added ps p) ∷ fs) b rest behind

list_last : (x t a : List ℕ) (ps : Trees) (p : Tree) → RowReadsAs x ps → ReadsAs t p → AreBlanks a → ListReadsAs (x ++ (t ++ a)) (added ps p)
list_last x t a ps p row one blanks form fs rest deep =
    let n = nesting-added ps p in
    let regrouped : (x ++ (t ++ a)) ++ 41 ∷ rest ≡ x ++ (t ++ (a ++ 41 ∷ rest)) = simp append_assoc in
    ap (run (at (frame_of_list form no_trees ∷ fs) at_predicate)) regrouped
    ∙ row form fs _ (omega arith)
    ∙ one (frame_of_list form ps ∷ fs) a 41 rest (omega arith) blanks (inr refl)
    ∙ ap (λ r. and_then r (λ s. run s rest)) (close_list form fs ps p)

pair_reads : (w a b s : List ℕ) → IsFreeWord w → AreBlanks a → AreBlanks b → Lacks 34 s → ReadsAs (w ++ (a ++ 61 ∷ (b ++ 34 ∷ (s ++ 34 ∷ [])))) (pair w s)
pair_reads w a b s free before behind lacks fs a' c x deep blanks end =
    let rest = a' ++ c ∷ x in
    let regrouped : (w ++ (a ++ 61 ∷ (b ++ 34 ∷ (s ++ 34 ∷ [])))) ++ rest ≡ w ++ (a ++ 61 ∷ (b ++ 34 ∷ (s ++ 34 ∷ rest))) = simp append_assoc in
    ap (run (at fs at_predicate)) regrouped
    ∙ read_pair fs w a b s rest free before behind lacks
    ∙ then_after fs (pair w s) a' c x blanks

mutual
  pub predicate_reads : (t : List ℕ) (p : Tree) → IsPredicate t p → ReadsAs t p
  predicate_reads t p is_true = λ fs a c x deep blanks end. then_leaf fs (codes "true") a c x (refl, (refl, (refl, (refl, tt)))) refl blanks end
  predicate_reads t p is_false = λ fs a c x deep blanks end. then_leaf fs (codes "false") a c x (refl, (refl, (refl, (refl, (refl, tt))))) refl blanks end
  predicate_reads t p (is_word w free) = λ fs a c x deep blanks end.
      then_leaf fs w a c x free.0 (free_not_form w free.1) blanks end ∙ ap (λ q. and_then (step_after fs q c) (λ s. run s x)) (free_leaf w free.1)
  predicate_reads t p (is_pair w a b s free before behind lacks) = pair_reads w a b s free before behind lacks
  predicate_reads t p (is_not a b u c q before front inner behind) = not_reads a b u c q before front (predicate_reads u q inner) behind
  predicate_reads t p (is_all a u ps blanks inner) = λ fs a' c x deep blanks' end.
      list_reads true (codes "all") a u ps is_name_all open_all blanks (list_of_reads u ps inner) fs a' c x (omega arith) blanks'
  predicate_reads t p (is_any a u ps blanks inner) = λ fs a' c x deep blanks' end.
      list_reads false (codes "any") a u ps is_name_any open_any blanks (list_of_reads u ps inner) fs a' c x (omega arith) blanks'

  pub row_reads : (y : List ℕ) (ps : Trees) → IsRow y ps → RowReadsAs y ps
  row_reads y ps (no_more a blanks) = λ form fs x deep. skip_before (frame_of_list form no_trees ∷ fs) a x blanks
  row_reads y ps (one_more x t a b qs p row one before behind) = row_more x t a b qs p (row_reads x qs row) (predicate_reads t p one) before behind

  pub list_of_reads : (y : List ℕ) (ps : Trees) → IsList y ps → ListReadsAs y ps
  list_of_reads y ps (closed x qs row) = λ form fs rest deep.
      row_reads x qs row form fs (41 ∷ rest) deep ∙ one_step (frame_of_list form qs ∷ fs) at_predicate 41 rest _ (close_row form fs qs)
  list_of_reads y ps (with_last x t a qs p row one blanks) = list_last x t a qs p (row_reads x qs row) (predicate_reads t p one) blanks

-- the text before the next predicate leads to where that begins
opened_reads : (frames : List Frame) (y x : List ℕ) → HasOpened frames y → length frames ≤ max_nesting → run (at [] at_predicate) (y ++ x) ≡ run (at frames at_predicate) x
opened_reads [] y x blanks h = skip_before [] y x blanks
opened_reads (in_not ∷ outer) y x o h =
    let regrouped : y ++ x ≡ o.0 ++ (codes "not" ++ (o.1 ++ 40 ∷ (o.2 ++ x))) = ap (λ v. v ++ x) o.6 ∙ simp append_assoc in
    ap (run (at [] at_predicate)) regrouped
    ∙ opened_reads outer o.0 _ o.3 (omega arith)
    ∙ open_form outer (codes "not") o.1 _ in_not is_name_not o.4 (open_not outer (omega arith))
    ∙ skip_before (in_not ∷ outer) o.2 x o.5
opened_reads (in_all ps ∷ outer) y x o h =
    let regrouped : y ++ x ≡ o.0 ++ (codes "all" ++ (o.1 ++ 40 ∷ (o.2 ++ x))) = ap (λ v. v ++ x) o.7 ∙ simp append_assoc in
    ap (run (at [] at_predicate)) regrouped
    ∙ opened_reads outer o.0 _ o.3 (omega arith)
    ∙ open_form outer (codes "all") o.1 _ (in_all no_trees) is_name_all o.4 (open_all outer (omega arith))
    ∙ row_reads o.2 ps o.5 true outer x o.6
opened_reads (in_any ps ∷ outer) y x o h =
    let regrouped : y ++ x ≡ o.0 ++ (codes "any" ++ (o.1 ++ 40 ∷ (o.2 ++ x))) = ap (λ v. v ++ x) o.7 ∙ simp append_assoc in
    ap (run (at [] at_predicate)) regrouped
    ∙ opened_reads outer o.0 _ o.3 (omega arith)
    ∙ open_form outer (codes "any") o.1 _ (in_any no_trees) is_name_any o.4 (open_any outer (omega arith))
    ∙ row_reads o.2 ps o.5 false outer x o.6

-- an expression is read as its tree
pub expression_reads : (before t after end : List ℕ) (p : Tree) → AreBlanks before → IsPredicate t p → nesting p ≤ max_nesting → AreBlanks after → AreBlanks end → read (before ++ (t ++ (after ++ 41 ∷ end))) ≡ Ok p
expression_reads before t after end p front is deep behind last =
    let whole : run (at [] at_predicate) (before ++ (t ++ (after ++ 41 ∷ end))) ≡ Ok (at [] (at_end p)) =
    skip_before [] before _ front
    ∙ predicate_reads t p is [] after 41 end (omega arith) behind (inr refl)
    ∙ ap (λ r. and_then r (λ s. run s end)) (close_all p)
    ∙ ap (run (at [] (at_end p))) (sym (append-nil end))
    ∙ skip_end [] p end [] last in
    ap result_of whole

too_many : (frames : List Frame) (name : List ℕ) → is_form name ≡ true → length frames ≡ max_nesting → step_word frames name 40 ≡ Err too_deep
unfolding step_word
too_many frames name form deep = rw (form, le-ltb (length frames) max_nesting (omega arith)) refl

form_is_word : (name : List ℕ) → is_form name ≡ true → IsWord name
form_is_word name h = elim (or_cases _ _ h) [
  | inl both ↦ elim (or_cases _ _ both) [
    | inl e ↦ subst IsWord (sym ((bytes_eq-Decides name (codes "all")).0 e)) is_name_all
    | inr e ↦ subst IsWord (sym ((bytes_eq-Decides name (codes "any")).0 e)) is_name_any
  ]
  | inr e ↦ subst IsWord (sym ((bytes_eq-Decides name (codes "not")).0 e)) is_name_not
]

-- one form too many is a fault
pub too_deep_reads : (text : List ℕ) → OpensTooMany text → read text ≡ Err too_deep
too_deep_reads text o =
    let frames = o.frames in
    let whole : run (at [] at_predicate) text ≡ Err too_deep =
    ap (run (at [] at_predicate)) o.is
    ∙ opened_reads frames o.opened _ o.opens (omega (arith, o.deep))
    ∙ read_word frames o.name _ (form_is_word o.name o.form)
    ∙ then_word frames o.name o.blanks 40 o.rest o.are refl
    ∙ ap (λ r. and_then r (λ s. run s o.rest)) (too_many frames o.name o.form o.deep) in
    ap result_of whole
