-- What the substitute for cargo returns for its words.
use Rattle.std.specs.Prelude.{ℕ, ◌-◌, List, [], ◌∷◌, ◌++◌, Option, length, codes, slice_index_or, if◌then◌else◌}
use Rattle.std.specs.List.{flat_map}
use Rattle.std.specs.Option.{unwrap_or}
use Rattle.std.specs.Str.{bytes_eq}
use Rattle.krates_samples.specs.declared.stand_in.Output.{Output}
use Rattle.krates_samples.specs.declared.stand_in.TheConstants.{DOCUMENT}

abbrev pub Text : Type 0
Text = List ℕ

pub record AnswerModel : Type 0 where
  pub stdout : Text
  pub stderr : Text
  pub status : ℕ

abbrev pub answer_view : Output → AnswerModel
answer_view a = record { stdout = a.stdout.items; stderr = a.stderr.items; status = a.status }

-- the text on a line
abbrev pub in_line : Text → Text
in_line text = text ++ 10 ∷ []

abbrev pub in_lines : List Text → Text
in_lines words = flat_map in_line words

-- a warning, and then the text
abbrev pub warned : Text → Text
warned text = in_line (codes "a warning") ++ in_line text

abbrev pub last_word : List Text → Text
last_word words = slice_index_or words (length words - 1) []

abbrev says : Text → Text → ℕ → AnswerModel
says stdout stderr status = record { stdout = stdout; stderr = stderr; status = status }

-- the answer that has a document
unfoldable pub documented : AnswerModel
documented = says (warned DOCUMENT.now) [] 0

abbrev pub answer : List Text → Option Text → AnswerModel
answer words variable =
    let last = last_word words in
    if bytes_eq last (codes "--fake=fail") then says [] (in_line (codes "no manifest")) 101
    else if bytes_eq last (codes "--fake=badout") then says (255 ∷ []) [] 0
    else if bytes_eq last (codes "--fake=baderr") then says [] (255 ∷ []) 1
    else if bytes_eq last (codes "--fake=nojson") then says (in_line (codes "hello")) [] 0
    else if bytes_eq last (codes "--fake=words") then says [] (in_lines words) 1
    else if bytes_eq last (codes "--fake=env") then says [] (in_line (unwrap_or variable [])) 1
    else documented
