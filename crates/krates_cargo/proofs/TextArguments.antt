-- A list of texts that is passed by value, in a walk by hand.
use Rattle.std.specs.contracts.alloc.Global as Global-row
use Rattle.std.proofs.alloc.Global.TheLaws as Global-laws
use Rattle.std.specs.contracts.impls.GlobalAllocator.TheImpl as impl
use Rattle.std.specs.contracts.string.String as String-row
use Rattle.std.proofs.string.String.TheLaws as String-laws
use Rattle.krates_cargo.proofs.VecArgument.{vec, vec_laws, vec_vals, vec_tells}
use mathlib.Core.List.{List}
use mir.Val.{Val}
use denote.RattleType.{RattleType}
use denote.Laws.{Is, Tells}
use denote.Param.Laws.{Laws}

abbrev pub text : RattleType
text = String-row.the_row Global-row.the_row impl.ghosts

pub text_laws : Laws text
text_laws = String-laws.the_row_laws Global-row.the_row impl.ghosts Global-laws.the_row_laws

abbrev pub texts : RattleType
texts = vec text text_laws

abbrev pub texts_laws : Laws texts
texts_laws = vec_laws text text_laws

-- its machine value
abbrev pub texts_vals : texts.Denot → List Val
texts_vals = vec_vals text text_laws

pub texts_tells : Tells texts (Is texts) texts_vals
texts_tells = vec_tells text text_laws
