use Rattle.std.proofs.Common.{rules, refl}
use Rattle.krates_words.proofs.IgnoresTooLemmas.{none_more, next_more}
use Rattle.krates_words.proofs.choice.ignore_kinds.Goals as goal

pub loop-kind-init : goal.loop-kind-init
loop-kind-init c = (none_more _ c.args.kinds.now, search rules)

pub loop-kind-preserved : goal.loop-kind-preserved
loop-kind-preserved c = (
  next_more _ c.loop-kind.setting.ignored c.ignore_kind.new.self.ignored _ c.args.kinds.now c.loop-kind.kind-index _ _ (search rules) c.loop-kind-test.true refl
      c.loop-kind.invariant.0 c.ignore_kind.ensures.ignored,
  search rules,
)
