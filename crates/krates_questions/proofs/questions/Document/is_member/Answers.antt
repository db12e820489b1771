use Rattle.krates_rules.specs.Resolved.{id_of}
use Rattle.krates_questions.proofs.questions.Document.is_member.Goals as goal

pub is_member_at-requires : goal.is_member_at-requires
is_member_at-requires c = record { number = (id_of c.args.id.now, c.crate_number.ensures) }

pub returns : goal.returns
returns c = c.is_member_at.ensures (id_of c.args.id.now) c.crate_number.ensures
