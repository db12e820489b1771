-- Names of features that compare as equal.
use Rattle.std.proofs.Common.{◌≡◌, String, true, sym}
use Rattle.std.specs.Cmp.Lexicographic.{same_text as equal_texts}
use Rattle.std.specs.declared.alloc.Global.{Global}
use Rattle.krates_cm.specs.Document.{text_view}
use Rattle.krates_selection.specs.Selection.{same_text}

pub same_name : (a b : String Global) → same_text a b ≡ true → text_view a ≡ text_view b
same_name a b same = equal_texts (text_view a) (text_view b) (sym same)
