-- Steps of walks by hand.
pub use Rattle.std.proofs.Common.{ℕ, List, [], ◌∷◌, refl, ap, lit<}
pub use Rattle.std.proofs.raw_atomic.Walks.{proved}
pub use base.Fml.{ftrue, flft}
pub use base.Fraction.{full_share}
pub use base.Logic.{id⊢}
pub use contract.Monad.{fact}
pub use contract.Running.{tables}
pub use denote.Builtin.{bool}
pub use denote.Exit.{yes, no}
pub use denote.Ref.{mut_vals, mut_Tells}
pub use denote.Signature.{plain, mut_ref_to}
pub use denote.Steps.{nothing, heard, only}
pub use denote.Triple.Call.{calls_at}
pub use denote.Triple.Clauses.{lasts}
pub use denote.Triple.Spec.{triple_of}
pub use denote.Triple.Table.{framed}
pub use denote.Triple.Walked.{Stays, walk_of, stay_dropped, Goes-dropped, ends_at, Goes-spent_ref}
pub use mir.Syntax.{named}
pub use types.ByLocal.{alloc_all, pass_all, free_all, look_at, get, through, sets, lands_as, env, sets_last}
pub use types.Kit.{‵, raw, ◌⊛◌, some, later, at_ret, ◌$◌, ◌∵◌, !, qed, done, move, keep, use1, use2, use3, split, join, fsplit, feq_l, pick, await, suffices, frame, group}
pub use types.Part.{agg}
pub use types.Run.{enter, of_opd, lit, addr, stop, no_more, and_then, first, branches, exec, returns}
