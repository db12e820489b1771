use Rattle.std.proofs.Common.{◌∙◌, sym, subst, rules}
use Rattle.krates_text.proofs.PathLemmas.{IsTrimming, splits_at_name, splits_at_root, splits_at_start, trim_more, or_root-empty, or_root-some}
use Rattle.krates_text.proofs.path.split_last.Goals as goal

pub returns-then-is_name : goal.returns-then-is_name
returns-then-is_name c =
    rw c.or_root.ensures (splits_at_name _ _ c.in-Some.before.now c.in-Some.piece.now c.loop-before.invariant.1 c.in-Some.ensures (sym c.is_name.ensures ∙ c.if-is_name.true))

pub returns-then-is_empty : goal.returns-then-is_empty
returns-then-is_empty c =
    let before = c.in-Some.before.now in
    let more = trim_more _ _ before c.in-Some.piece.now c.loop-before.invariant.1 c.in-Some.ensures (sym c.is_name.ensures ∙ c.if-is_name.false) in
    splits_at_root _ (subst (IsTrimming c.args.path.now) (or_root-empty before (sym c.is_empty.ensures ∙ c.if-is_empty.true)) more)

pub loop-before-preserved : goal.loop-before-preserved
loop-before-preserved c =
    let before = c.in-Some.before.now in
    let more = trim_more _ _ before c.in-Some.piece.now c.loop-before.invariant.1 c.in-Some.ensures (sym c.is_name.ensures ∙ c.if-is_name.false) in
    (search rules, subst (IsTrimming c.args.path.now) (or_root-some before (sym c.is_empty.ensures ∙ c.if-is_empty.false)) more)

pub returns : goal.returns
returns c = splits_at_start _ _ c.loop-before.invariant.1 c.in_default.ensures
