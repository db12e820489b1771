-- A `Vec` that is passed by value, in a walk by hand: its type, its laws and its machine value.
use Rattle.std.specs.contracts.vec.Vec as Vec-row
use Rattle.std.proofs.vec.Vec.TheLaws as Vec-laws
use Rattle.std.specs.contracts.alloc.Global as Global-row
use Rattle.std.proofs.alloc.Global.TheLaws as Global-laws
use Rattle.std.specs.contracts.impls.GlobalAllocator.TheImpl as impl
use mathlib.Core.List.{List, [], ◌∷◌}
use mir.Val.{Val}
use denote.RattleType.{RattleType}
use denote.Laws.{Is, Tells}
use denote.Param.Laws.{Laws}

module _ (E : RattleType) (laws : Laws E) where
  abbrev pub vec : RattleType
  vec = Vec-row.the_row E Global-row.the_row impl.ghosts

  abbrev pub vec_laws : Laws vec
  vec_laws = Vec-laws.the_row_laws E Global-row.the_row impl.ghosts laws Global-laws.the_row_laws

  abbrev pub vec_vals : vec.Denot → List Val
  vec_vals x = (Vec-laws.lowers E Global-row.the_row impl.ghosts laws Global-laws.the_row_laws Global-laws.the_told).lowered x ∷ []

  pub vec_tells : Tells vec (Is vec) vec_vals
  vec_tells x us is = (Vec-laws.lowers E Global-row.the_row impl.ghosts laws Global-laws.the_row_laws Global-laws.the_told).val_is x us is
