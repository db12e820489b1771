-- A character is read as its bytes, one after another.
use Rattle.std.proofs.Common.{◌≡◌, ◌≢◌, ℕ, ◌<◌, ◌≤◌, false, List, [], ◌∷◌, ◌++◌, length, get_or, refl, sym, ap, subst, ◌∙◌, arith, inl, inr, append-nil, eqb}
use Rattle.std.specs.Prelude.{Result, Ok, Err, IsErrAnd, encode_utf8}
use Rattle.std.proofs.lemmas.Bool.{cases_Bool, cases_lt, ne_eqb, or_from, and_right, lt-leb, eqb-true, eqb-false}
use Rattle.std.proofs.lemmas.Str.{encode_ascii, length-le-encodes}
use Rattle.std.proofs.lemmas.Str.Pattern.{NoCharPasses-char}
use Rattle.krates_text.specs.declared.cfg.CfgError.{CfgError}
use Rattle.krates_text.specs.declared.cfg.CfgError.TheVariants as error
use Rattle.krates_text.specs.CfgGrammar.{Tree, is_blank, is_word_start, is_word_part, is_form, Frame}
use Rattle.krates_text.specs.CfgReader.{Fault, syntax', too_deep, Place, at_predicate, in_word, after_word, at_string, in_string, after_predicate, at_end, State, at, step, step_word, step_after, step_at, run, and_then, finished, result_of}
use Rattle.krates_text.specs.CfgPlaces.{Fails, GivesTree, place_of}
use Rattle.krates_text.specs.declared.cfg.reader.Place as places
use Rattle.krates_text.specs.declared.cfg.reader.Place.TheVariants as stands
use Rattle.krates_text.specs.declared.cfg.predicate.Predicate.{Predicate}
use Rattle.krates_text.proofs.CutsLemmas.{Lacks-from_reads}
use Rattle.krates_text.proofs.CfgReading.{run-append, read_string}

then_ok : (r : Result State Fault) → and_then r (λ t. Ok t) ≡ r
then_ok (Ok t) = refl
then_ok (Err e) = refl

len_some : (c : ℕ) → 0 < length (encode_utf8 c)
len_some c = omega (arith, length-le-encodes (c ∷ []), ap length (append-nil (encode_utf8 c)))

-- no byte of a character is another character of ASCII
other_bytes : (c k : ℕ) → k < 128 → c ≢ k → (i : ℕ) → i < length (encode_utf8 c) → get_or (encode_utf8 c) i 0 ≢ k
other_bytes c k small differs i within = NoCharPasses-char k (encode_utf8 c) i (c ∷ [], append-nil (encode_utf8 c), (ne_eqb c k differs, tt)) small within

-- past ASCII there are no blanks, words or signs
big_blank : (c : ℕ) → 128 ≤ c → is_blank c ≡ false
big_blank c h = or_from _ _ (or_from _ _ (or_from _ _ (ne_eqb c 32 (λ e. omega arith)) (ne_eqb c 9 (λ e. omega arith))) (ne_eqb c 10 (λ e. omega arith))) (ne_eqb c 13 (λ e. omega arith))

big_start : (c : ℕ) → 128 ≤ c → is_word_start c ≡ false
big_start c h = or_from _ _ (or_from _ _ (and_right _ _ (lt-leb c 122 (omega arith))) (and_right _ _ (lt-leb c 90 (omega arith)))) (ne_eqb c 95 (λ e. omega arith))

big_part : (c : ℕ) → 128 ≤ c → is_word_part c ≡ false
big_part c h = or_from _ _ (big_start c h) (and_right _ _ (lt-leb c 57 (omega arith)))

big_after : (fs : List Frame) (p : Tree) (c : ℕ) → 128 ≤ c → step_after fs p c ≡ Err syntax'
unfolding step_after
big_after fs p c h = rw (big_blank c h, ne_eqb c 44 (λ e. omega arith), ne_eqb c 41 (λ e. omega arith)) refl

big_word : (fs : List Frame) (w : List ℕ) (c : ℕ) → 128 ≤ c → step_word fs w c ≡ Err syntax'
unfolding step_word
big_word fs w c h = elim (cases_Bool (is_form w)) [
  | inl e ↦ rw (big_blank c h, ne_eqb c 40 (λ e. omega arith), ne_eqb c 61 (λ e. omega arith), e) refl
  | inr e ↦ rw (big_blank c h, ne_eqb c 40 (λ e. omega arith), ne_eqb c 61 (λ e. omega arith), e) (big_after fs _ c h)
]

big_byte : (c : ℕ) → 128 ≤ c → (b : ℕ) (rest : List ℕ) → encode_utf8 c ≡ b ∷ rest → 128 ≤ b
big_byte c big b rest e = elim (cases_lt b 128) [
  | inl small ↦ absurd (other_bytes c b small (λ same. omega arith) 0 (omega (arith, ap length e)) (ap (λ l. get_or l 0 0) e))
  | inr h ↦ h
]

-- past ASCII a character is a fault, except in a string
big_fault : (fs : List Frame) (place : Place) (c : ℕ) → 128 ≤ c → ((key string : List ℕ) → place ≢ in_string key string) → step fs place c ≡ Err syntax'
unfolding step
big_fault fs at_predicate c h other = rw (big_blank c h, ne_eqb c 41 (λ e. omega arith), big_start c h) refl
big_fault fs (in_word w) c h other = rw (big_part c h) (big_word fs w c h)
big_fault fs (after_word w) c h other = big_word fs w c h
big_fault fs (at_string key) c h other = rw (big_blank c h, ne_eqb c 34 (λ e. omega arith)) refl
big_fault fs (in_string key string) c h other = absurd (other key string refl)
big_fault fs (after_predicate p) c h other = big_after fs p c h
big_fault fs (at_end p) c h other = rw (big_blank c h) refl

run_big : (fs : List Frame) (place : Place) (c : ℕ) → 128 ≤ c → ((key string : List ℕ) → place ≢ in_string key string) → (bytes : List ℕ) → encode_utf8 c ≡ bytes → 0 < length bytes → run (at fs place) bytes ≡ Err syntax'
run_big fs place c big other [] e some = absurd (omega arith)
run_big fs place c big other (b ∷ rest) e some =
    ap (λ r. and_then r (λ t. run t rest)) (big_fault fs place b (big_byte c big b rest e) other)

not_in_string : (fs : List Frame) (place : Place) (c : ℕ) → ((key string : List ℕ) → place ≢ in_string key string) → step fs place c ≡ run (at fs place) (encode_utf8 c)
not_in_string fs place c other = elim (cases_lt c 128) [
  | inl small ↦ sym (ap (run (at fs place)) (encode_ascii c small) ∙ then_ok (step fs place c))
  | inr big ↦ big_fault fs place c big other ∙ sym (run_big fs place c big other (encode_utf8 c) refl (len_some c))
]

in_a_string : (fs : List Frame) (key string : List ℕ) (c : ℕ) → step_at fs (in_string key string) c ≡ run (at fs (in_string key string)) (encode_utf8 c)
unfolding step
in_a_string fs key string c = elim (cases_Bool (eqb c 34)) [
  | inl e ↦ rw e (sym (ap (run (at fs (in_string key string))) (ap encode_utf8 (eqb-true c 34 e) ∙ encode_ascii 34 (omega arith))))
  | inr e ↦ rw e (sym (ap (run (at fs (in_string key string))) (sym (append-nil (encode_utf8 c)))
      ∙ read_string fs key string (encode_utf8 c) [] (Lacks-from_reads 34 (encode_utf8 c) (other_bytes c 34 (omega arith) (eqb-false c 34 e)))))
]

-- a character is read as its bytes
pub step_at_is : (fs : List Frame) (place : Place) (c : ℕ) → step_at fs place c ≡ run (at fs place) (encode_utf8 c)
step_at_is fs at_predicate c = not_in_string fs at_predicate c (λ key string e. cc)
step_at_is fs (in_word w) c = not_in_string fs (in_word w) c (λ key string e. cc)
step_at_is fs (after_word w) c = not_in_string fs (after_word w) c (λ key string e. cc)
step_at_is fs (at_string key) c = not_in_string fs (at_string key) c (λ key' string e. cc)
step_at_is fs (in_string key string) c = in_a_string fs key string c
step_at_is fs (after_predicate p) c = not_in_string fs (after_predicate p) c (λ key string e. cc)
step_at_is fs (at_end p) c = not_in_string fs (at_end p) c (λ key string e. cc)

-- an error that `?` returned
pub given_err : (r : Result Predicate CfgError) (e : CfgError) (total : Result Tree Fault) → IsErrAnd r (λ y. y ≡ e) → Fails e total → GivesTree r total
given_err (Ok p) e total h f = absurd h
given_err (Err y) e total h f = subst (λ z. Fails z total) (sym h) f

-- one more character
pub reads_on : (fs : List Frame) (place : Place) (c : ℕ) (rest more : List ℕ) (next total : Result State Fault) → rest ≡ encode_utf8 c ++ more → run (at fs place) rest ≡ total → step_at fs place c ≡ next → and_then next (λ t. run t more) ≡ total
reads_on fs place c rest more next total split whole e =
    ap (λ r. and_then r (λ t. run t more)) (sym e ∙ step_at_is fs place c)
    ∙ sym (run-append (at fs place) (encode_utf8 c) more)
    ∙ ap (run (at fs place)) (sym split)
    ∙ whole

-- a fault in the middle is a fault of the whole
pub fails_whole : (fs : List Frame) (place : Place) (c : ℕ) (rest more : List ℕ) (total : Result State Fault) (e : CfgError) → rest ≡ encode_utf8 c ++ more → run (at fs place) rest ≡ total → Fails e (step_at fs place c) → Fails e (result_of total)
fails_whole fs place c rest more total error.Syntax split whole h = ap result_of (sym (reads_on fs place c rest more (Err syntax') total split whole h))
fails_whole fs place c rest more total error.TooDeep split whole h = ap result_of (sym (reads_on fs place c rest more (Err too_deep) total split whole h))
fails_whole fs place c rest more total error.Memory split whole h = tt

-- where no character is left, the answer is what is there
pub ends_whole : (fs : List Frame) (place : Place) (rest : List ℕ) (total : Result State Fault) → length rest ≡ 0 → run (at fs place) rest ≡ total → result_of total ≡ finished place
ends_whole fs place [] total none whole = ap result_of (sym whole)
ends_whole fs place (c ∷ rest) total none whole = absurd (omega arith)

-- anywhere but after the last `)` that is a fault
pub unfinished : (place : places.Place) → ((p : Predicate) → place ≢ stands.AtEnd p) → finished (place_of place) ≡ Err syntax'
unfinished stands.AtPredicate other = refl
unfinished (stands.InWord w) other = refl
unfinished (stands.AfterWord w) other = refl
unfinished (stands.AtString key) other = refl
unfinished (stands.InString key string) other = refl
unfinished (stands.AfterPredicate p) other = refl
unfinished (stands.AtEnd p) other = absurd (other p refl)
