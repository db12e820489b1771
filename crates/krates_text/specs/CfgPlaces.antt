-- The places of the reader, without where they lie in memory.
use Rattle.std.specs.Prelude.{◌≡◌, ℕ, ◌==◌, List, ◌++◌, string_bytes, Result, Ok, Err, MatchResult, encode_utf8, if◌then◌else◌}
use Rattle.krates_text.specs.declared.cfg.CfgError.{CfgError}
use Rattle.krates_text.specs.declared.cfg.CfgError.TheVariants as error
use Rattle.krates_text.specs.declared.cfg.predicate.Predicate.{Predicate}
use Rattle.krates_text.specs.declared.cfg.frame.Frame as declared
use Rattle.krates_text.specs.declared.cfg.reader.Place.TheVariants as stands
use Rattle.krates_text.specs.declared.cfg.reader.Place as places
use Rattle.krates_text.specs.CfgGrammar.{Tree, pair}
use Rattle.krates_text.specs.CfgReader.{Fault, syntax', too_deep, Place, at_predicate, in_word, after_word, at_string, in_string, after_predicate, at_end, State, at}
use Rattle.krates_text.specs.CfgView.{tree_of}
use Rattle.krates_text.specs.CfgFrames.{stack}

abbrev pub place_of : places.Place → Place
place_of stands.AtPredicate = at_predicate
place_of (stands.InWord w) = in_word (string_bytes w)
place_of (stands.AfterWord w) = after_word (string_bytes w)
place_of (stands.AtString key) = at_string (string_bytes key)
place_of (stands.InString key string) = in_string (string_bytes key) (string_bytes string)
place_of (stands.AfterPredicate p) = after_predicate (tree_of p)
place_of (stands.AtEnd p) = at_end (tree_of p)

-- the error is the fault, or running out of memory
abbrev pub Fails : {X : Type 0} → CfgError → Result X Fault → Type 0
Fails error.Syntax r = r ≡ Err syntax'
Fails error.TooDeep r = r ≡ Err too_deep
Fails error.Memory r = Unit {0}

-- what was returned, with these frames, is what reading gives
abbrev pub GivesPlace : List declared.Frame → Result places.Place CfgError → Result State Fault → Type 0
GivesPlace frames result r = MatchResult result (λ place. r ≡ Ok (at (stack frames) (place_of place))) (λ e. Fails e r)

-- the place after a character in a string
abbrev pub GivesString : List ℕ → List ℕ → ℕ → Result places.Place CfgError → Type 0
GivesString key string c result = MatchResult result (λ place. place_of place ≡ (if c == 34 then after_predicate (pair key string) else in_string key (string ++ encode_utf8 c))) (λ e. e ≡ error.Memory)

abbrev pub GivesTree : Result Predicate CfgError → Result Tree Fault → Type 0
GivesTree result r = MatchResult result (λ p. r ≡ Ok (tree_of p)) (λ e. Fails e r)
