use Rattle.krates_questions.specs.Lookup.{resolved_view}
use Rattle.krates_rules.specs.Roots.{IsRoot}
use Rattle.krates_questions.proofs.Asked.{HasThoseOf}
use Rattle.krates_questions.proofs.questions.Document.root_members.Given as goal

-- the list has those of the members so far that are roots
abbrev pub invariant-loop-member : goal.invariant-loop-member
invariant-loop-member l = HasThoseOf (IsRoot (resolved_view l.self) l.setting) l.members l.member-index l.roots.items
