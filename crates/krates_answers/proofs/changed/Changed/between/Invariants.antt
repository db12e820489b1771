use Rattle.std.proofs.Common.{◌≡◌, map}
use Rattle.krates_answers.specs.Changed.{change_view}
use Rattle.krates_answers.proofs.ChangedLemmas.{changes_in}
use Rattle.krates_answers.proofs.changed.Changed.between.Given as goal

-- the names so far that are in both
abbrev pub invariant-loop-name : goal.invariant-loop-name
invariant-loop-name l = map change_view l.changed.items ≡ changes_in l.came l.yielded
