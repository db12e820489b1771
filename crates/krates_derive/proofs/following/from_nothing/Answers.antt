use Rattle.krates_questions.specs.Context.{document_of}
use Rattle.krates_rules.specs.Resolved.{id_of}
use Rattle.krates_derive.proofs.Rows.{through, rooted, rooted_feature}
use Rattle.krates_derive.proofs.following.from_nothing.Goals as goal

pub returns-in-Crate : goal.returns-in-Crate
returns-in-Crate c = rw (← c.of.ensures, c.in-Crate.is) (through c.is_rooted.ensures (rooted (document_of c.args.context.now) c.args.context.now.setting.now c.args.rule (id_of c.in-Crate.krate.now)))

pub returns-in-Feature : goal.returns-in-Feature
returns-in-Feature c = rw (← c.of.ensures, c.in-Feature.is) (through c.is_rooted_feature.ensures (rooted_feature (document_of c.args.context.now) c.args.context.now.setting.now c.args.rule (id_of c.in-Feature.feature.krate.now) c.in-Feature.feature.name.now))
