-- A cfg expression, read once from left to right.
use Rattle.std.specs.Prelude.{ℕ, ◌==◌, true, false, nat_lt, if◌then◌else◌, List, [], ◌∷◌, ◌++◌, length, codes, Result, Ok, Err, encode_utf8}
use Rattle.std.specs.Str.{bytes_eq}
use Rattle.krates_text.specs.CfgGrammar.{Tree, all_of, any_of, not_of, constant, word, pair, no_trees, added, is_blank, is_word_start, is_word_part, is_reserved, is_form, max_nesting, Frame, in_not, in_all, in_any}

-- why a text isn't an expression
pub data Fault : Type 0 where
  syntax' : Fault
  too_deep : Fault

-- where the reader is
pub data Place : Type 0 where
  -- where a predicate may begin
  at_predicate : Place
  -- in a word
  in_word : List ℕ → Place
  -- in the blanks after a word
  after_word : List ℕ → Place
  -- after the `=` of a pair
  at_string : (key : List ℕ) → Place
  -- in a pair's string
  in_string : (key string : List ℕ) → Place
  -- after a predicate
  after_predicate : Tree → Place
  -- after the last `)`
  at_end : Tree → Place

pub record State : Type 0 where
  pub frames : List Frame
  pub place : Place

abbrev pub at : List Frame → Place → State
at fs place = record { frames = fs; place = place }

-- a word without a value
abbrev pub leaf : List ℕ → Tree
leaf w = if bytes_eq w (codes "true") then constant true else (if bytes_eq w (codes "false") then constant false else word w)

-- the form of this name
abbrev pub frame_for : List ℕ → Frame
frame_for w = if bytes_eq w (codes "all") then in_all no_trees else (if bytes_eq w (codes "any") then in_any no_trees else in_not)

-- a `(` after a word
abbrev pub opened : List Frame → List ℕ → Result State Fault
opened fs w = if is_form w then (if nat_lt (length fs) max_nesting then Ok (at (frame_for w ∷ fs) at_predicate) else Err too_deep) else Err syntax'

-- a comma after a predicate
abbrev pub divided : List Frame → Tree → Result State Fault
divided [] p = Err syntax'
divided (in_not ∷ fs) p = Err syntax'
divided (in_all ps ∷ fs) p = Ok (at (in_all (added ps p) ∷ fs) at_predicate)
divided (in_any ps ∷ fs) p = Ok (at (in_any (added ps p) ∷ fs) at_predicate)

-- a `)` after a predicate
abbrev pub closed_after : List Frame → Tree → Result State Fault
closed_after [] p = Ok (at [] (at_end p))
closed_after (in_not ∷ fs) p = Ok (at fs (after_predicate (not_of p)))
closed_after (in_all ps ∷ fs) p = Ok (at fs (after_predicate (all_of (added ps p))))
closed_after (in_any ps ∷ fs) p = Ok (at fs (after_predicate (any_of (added ps p))))

-- a `)` where a predicate may begin
abbrev pub closed_before : List Frame → Result State Fault
closed_before [] = Err syntax'
closed_before (in_not ∷ fs) = Err syntax'
closed_before (in_all ps ∷ fs) = Ok (at fs (after_predicate (all_of ps)))
closed_before (in_any ps ∷ fs) = Ok (at fs (after_predicate (any_of ps)))

-- a byte after a predicate
unfoldable pub step_after : List Frame → Tree → ℕ → Result State Fault
step_after fs p c = if is_blank c then Ok (at fs (after_predicate p)) else (if c == 44 then divided fs p else (if c == 41 then closed_after fs p else Err syntax'))

-- a byte after a word
unfoldable pub step_word : List Frame → List ℕ → ℕ → Result State Fault
step_word fs w c =
    if is_blank c then Ok (at fs (after_word w))
    else (if c == 40 then opened fs w
    else (if c == 61 then (if is_reserved w then Err syntax' else Ok (at fs (at_string w)))
    else (if is_form w then Err syntax' else step_after fs (leaf w) c)))

-- a byte at any place
unfoldable pub step : List Frame → Place → ℕ → Result State Fault
step fs at_predicate c = if is_blank c then Ok (at fs at_predicate) else (if c == 41 then closed_before fs else (if is_word_start c then Ok (at fs (in_word (c ∷ []))) else Err syntax'))
step fs (in_word w) c = if is_word_part c then Ok (at fs (in_word (w ++ c ∷ []))) else step_word fs w c
step fs (after_word w) c = step_word fs w c
step fs (at_string key) c = if is_blank c then Ok (at fs (at_string key)) else (if c == 34 then Ok (at fs (in_string key [])) else Err syntax')
step fs (in_string key string) c = if c == 34 then Ok (at fs (after_predicate (pair key string))) else Ok (at fs (in_string key (string ++ c ∷ [])))
step fs (after_predicate p) c = step_after fs p c
step fs (at_end p) c = if is_blank c then Ok (at fs (at_end p)) else Err syntax'

-- a character at any place: in a string it adds its bytes
abbrev pub step_at : List Frame → Place → ℕ → Result State Fault
step_at fs (in_string key string) c = Ok (at fs (if c == 34 then after_predicate (pair key string) else in_string key (string ++ encode_utf8 c)))
step_at fs place c = step fs place c

-- a fault stays
abbrev pub and_then : Result State Fault → (State → Result State Fault) → Result State Fault
and_then (Ok s) f = f s
and_then (Err e) f = Err e

-- the bytes one after another
abbrev pub run : State → List ℕ → Result State Fault
run s [] = Ok s
run s (c ∷ text) = and_then (step s.frames s.place c) (λ t. run t text)

-- the answer at the end of the text
abbrev pub finished : Place → Result Tree Fault
finished (at_end p) = Ok p
finished place = Err syntax'

abbrev pub result_of : Result State Fault → Result Tree Fault
result_of (Ok s) = finished s.place
result_of (Err e) = Err e

-- what the text after `cfg(` reads as
abbrev pub read : List ℕ → Result Tree Fault
read text = result_of (run (at [] at_predicate) text)
