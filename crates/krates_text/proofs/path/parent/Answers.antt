use Rattle.std.proofs.Common.{◌∙◌, sym, inl, inr}
use Rattle.krates_text.proofs.PathLemmas.{no_parent, parent_is, empty_is, some_is, root_is, other_is}
use Rattle.krates_text.proofs.path.parent.Goals.{then-is_empty-via-then-is_empty, then-is_empty-via-else-is_empty+then-eq}
use Rattle.krates_text.proofs.path.parent.Goals as goal

pub returns-then-is_empty : goal.returns-then-is_empty
returns-then-is_empty c =
    no_parent _ _ _ c.split_last.ensures
    (elim c.then-is_empty.branch [
      | then-is_empty-via-then-is_empty w ↦ inl (empty_is _ (sym c.is_empty.ensures ∙ w.if-is_empty.true))
      | then-is_empty-via-else-is_empty+then-eq w ↦ inr (root_is _ (sym w.eq.ensures ∙ w.if-eq.true))
    ])

pub returns : goal.returns
returns c =
    parent_is _ _ _ _ _ c.split_last.ensures (some_is _ (sym c.is_empty.ensures ∙ c.if-is_empty.false)) (other_is _ (sym c.eq.ensures ∙ c.if-eq.false))
    c.split_last-2.ensures
