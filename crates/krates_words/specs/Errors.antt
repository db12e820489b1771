-- Why words can't be answered, and what is printed then.
use Rattle.std.specs.Prelude.{Option, Some, String, codes, string_bytes, ⊤}
use Rattle.std.specs.declared.alloc.Global.{Global}
use Rattle.clap.specs.declared.error.kind.ErrorKind.{ErrorKind}
use Rattle.clap.specs.declared.error.kind.ErrorKind.TheVariants as kinds
use Rattle.krates_cm.specs.Document.{Text}
use Rattle.krates_words.specs.declared.error.WordsError.{WordsError}
use Rattle.krates_words.specs.declared.error.WordsError.TheVariants as errors

-- what a refusal of this kind becomes, with its text: help and the version are no mistakes, and want of memory stays that
abbrev pub error_of : ErrorKind → String Global → WordsError
error_of kinds.DisplayHelp text = errors.Asked text
error_of kinds.DisplayVersion text = errors.Asked text
error_of kinds.OutOfMemory text = errors.Memory
error_of _ text = errors.Wrong text

abbrev pub IsWrongOrMemory : WordsError → Type 0
IsWrongOrMemory (errors.Wrong text) = ⊤
IsWrongOrMemory errors.Memory = ⊤
IsWrongOrMemory _ = ⊥

-- what is printed: the text alone, or that memory ran out
abbrev pub words_error_text : WordsError → Option Text
words_error_text (errors.Asked text) = Some (string_bytes text)
words_error_text (errors.Page text) = Some (string_bytes text)
words_error_text (errors.Wrong text) = Some (string_bytes text)
words_error_text errors.Memory = Some (codes "error: out of memory\n")
