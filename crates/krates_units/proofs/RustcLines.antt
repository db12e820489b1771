-- Lemmas of what rustc says of a machine.
use Rattle.std.proofs.Common.{◌≡◌, ◌≢◌, ◌==◌, ◌∙◌, ℕ, ◌+◌, Bool, true, false, List, [], ◌∷◌, ◌++◌, length, take, Option, Some, None, Bor, IsTrue, refl, sym, ap, subst, arith}
use Rattle.std.specs.Option.{MatchOption}
use Rattle.std.specs.List.{AllByRecursion}
use Rattle.std.proofs.lemmas.Bool.{both_ways, eqb-true}
use Rattle.krates_cm.specs.Document.{Text}
use Rattle.krates_text.specs.CfgGrammar.{IsWord, is_word_part, is_word_start}
use Rattle.krates_text.specs.Cuts.{Lacks, FirstCut}
use Rattle.krates_text.proofs.CutsLemmas.{FirstCut-lacks, FirstCut-once}
use Rattle.std.specs.Prelude.{slice_get}
use Rattle.std.specs.Str.Lines.{lines}
use Rattle.krates_units.specs.RustcLines.{IsPair, IsOther, IsFirstOther, LinesSay, nothing, a_word, a_pair}

-- one more line is a word
pub one_more_word : (line : Text) {lines words : List Text} {pairs : List (Text × Text)} → IsWord line → LinesSay lines words pairs → LinesSay (lines ++ line ∷ []) (words ++ line ∷ []) pairs
one_more_word line is nothing = a_word is nothing
one_more_word line is (a_word here more) = a_word here (one_more_word line is more)
one_more_word line is (a_pair here more) = a_pair here (one_more_word line is more)

-- one more line is a pair
pub one_more_pair : (line key string : Text) {lines words : List Text} {pairs : List (Text × Text)} → IsPair line key string → LinesSay lines words pairs → LinesSay (lines ++ line ∷ []) words (pairs ++ (key, string) ∷ [])
one_more_pair line key string is nothing = a_pair is nothing
one_more_pair line key string is (a_word here more) = a_word here (one_more_pair line key string is more)
one_more_pair line key string is (a_pair here more) = a_pair here (one_more_pair line key string is more)

-- each line says one thing
pub as_many : {lines words : List Text} {pairs : List (Text × Text)} → LinesSay lines words pairs → length lines ≡ length words + length pairs
as_many nothing = refl
as_many (a_word here more) = let h = as_many more in omega arith
as_many (a_pair here more) = let h = as_many more in omega arith

-- ---- pairs

-- what may be in a word is no `=`
part_is_no_equals : (b : ℕ) → IsTrue (is_word_part b) → b ≢ 61
part_is_no_equals b part e = both_ways (is_word_part b) (ap is_word_part e) part

start_is_no_equals : (b : ℕ) → IsTrue (is_word_start b) → b ≢ 61
start_is_no_equals b start e = both_ways (is_word_start b) (ap is_word_start e) start

parts_lack : (text : Text) → AllByRecursion (λ b. IsTrue (is_word_part b)) text → Lacks 61 text
parts_lack [] parts = tt
parts_lack (b ∷ text) parts = (part_is_no_equals b parts.0, parts_lack text parts.1)

word_lacks : (text : Text) → IsWord text → Lacks 61 text
word_lacks [] is = absurd is
word_lacks (b ∷ text) is = (start_is_no_equals b is.0, parts_lack text is.1)

-- a pair is cut at its first `=`
pub cut_of : {line key string : Text} → IsPair line key string → FirstCut 61 line key (34 ∷ (string ++ 34 ∷ []))
cut_of {line} {key} {string} p = record { is = p.is; lacks = word_lacks key p.word }

-- a line without `=` is no pair
pub none_without_equals : (line : Text) → Lacks 61 line → (key string : Text) → ¬ IsPair line key string
none_without_equals line lacks key string p = FirstCut-lacks lacks (cut_of p)

-- what is behind the `=` of a pair
pub behind_of : {line key string before behind : Text} → IsPair line key string → FirstCut 61 line before behind → (key ≡ before) × (34 ∷ (string ++ 34 ∷ []) ≡ behind)
behind_of p cut = FirstCut-once (cut_of p) cut

-- a line that has no quotation mark behind its first `=` is no pair
pub none_without_opening : (line before behind : Text) → FirstCut 61 line before behind → ((rest : Text) → behind ≢ 34 ∷ rest) → (key string : Text) → ¬ IsPair line key string
none_without_opening line before behind cut none key string p = none (string ++ 34 ∷ []) (sym (behind_of p cut).1)

-- what is between the quotation marks of a pair
pub string_of : {line key string before behind quoted : Text} → IsPair line key string → FirstCut 61 line before behind → behind ≡ 34 ∷ quoted → FirstCut 34 quoted string []
string_of {line} {key} {string} {before} {behind} {quoted} p cut opens =
    let same : 34 ∷ (string ++ 34 ∷ []) ≡ 34 ∷ quoted = (behind_of p cut).1 ∙ opens in
    record { is = cc; lacks = p.plain }

pub none_without_closing : (line before behind quoted : Text) → FirstCut 61 line before behind → behind ≡ 34 ∷ quoted → Lacks 34 quoted → (key string : Text) → ¬ IsPair line key string
none_without_closing line before behind quoted cut opens lacks key string p = FirstCut-lacks lacks (string_of p cut opens)

-- a line whose key is no word, or that goes on behind its second quotation mark, is no pair
pub none_of_other_parts : (line before behind quoted string rest : Text) → FirstCut 61 line before behind → behind ≡ 34 ∷ quoted → FirstCut 34 quoted string rest
    → (IsWord before → rest ≡ [] → ⊥) → (key other : Text) → ¬ IsPair line key other
none_of_other_parts line before behind quoted string rest cut opens closes none key other p =
    let same = FirstCut-once closes (string_of p cut opens) in
    none (subst IsWord (behind_of p cut).0 p.word) same.1

-- the parts make a pair
pub pair_of_parts : (line before behind quoted string rest : Text) → FirstCut 61 line before behind → behind ≡ 34 ∷ quoted → FirstCut 34 quoted string rest
    → IsWord before → rest ≡ [] → IsPair line before string
pair_of_parts line before behind quoted string rest cut opens closes word ends = record {
  is = cut.is ∙ ap (λ b. before ++ 61 ∷ b) (opens ∙ ap (λ q. 34 ∷ q) (closes.is ∙ ap (λ r. string ++ 34 ∷ r) ends));
  word = word;
  plain = closes.lacks;
}

-- where nothing is returned, and the line is no pair
pub no_pair : (line : Text) (r : Option (Bor Text × Bor Text)) → r ≡ None → ((key string : Text) → ¬ IsPair line key string)
    → MatchOption r ((key string : Text) → ¬ IsPair line key string) (λ pair. IsPair line pair.0.now pair.1.now)
no_pair line r is none = rw is none

-- a text of no bytes is empty
pub none_left : (text : Text) (b : Bool) → b ≡ (length text == 0) → b ≡ true → text ≡ []
none_left [] b is here = refl
none_left (x ∷ text) b is here = absurd (let h = eqb-true _ _ (sym is ∙ here) in omega arith)

pub some_left : (text : Text) (b : Bool) → b ≡ (length text == 0) → b ≡ false → text ≡ [] → ⊥
some_left text b is here empty = both_ways (length text == 0) (sym is ∙ here) (ap (λ t. length t == 0) empty)

-- ---- the first line that says nothing

pub first_other : (printed line : Text) (among words : List Text) (pairs : List (Text × Text)) (number : ℕ) → LinesSay among words pairs → among ≡ take (length among) (lines printed)
    → slice_get (lines printed) (length among) ≡ Some line → IsOther line → number ≡ length words + length pairs + 1 → IsFirstOther printed number
first_other printed line among words pairs number said same here other counted = record {
  before = length among;
  counted = (let h = as_many said in omega arith);
  line = line;
  here = here;
  other = other;
  words = words;
  pairs = pairs;
  said = subst (λ ls. LinesSay ls words pairs) same said;
}
