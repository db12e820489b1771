use Rattle.krates_questions.specs.Context.{document_of, rules_of}
use Rattle.krates_rules.specs.Resolved.{id_of}
use Rattle.krates_derive.specs.FactRef.{edge_of_ref}
use Rattle.krates_derive.proofs.Rows.{through, owner, named_row, target_row, enabled_row}
use Rattle.krates_derive.proofs.following.from_one.Goals as goal

pub returns-in-Feature-Crate : goal.returns-in-Feature-Crate
returns-in-Feature-Crate c =
    let x = c.in-Feature-Crate in
    rw (← c.of.ensures, ← c.of-2.ensures, x.is-0, x.is-1) (through c.is_same_by.ensures (owner (rules_of c.args.context.now) c.args.rule (id_of x.feature.krate.now) (id_of x.krate.now) x.feature.name.now))

pub returns-in-Feature-Feature : goal.returns-in-Feature-Feature
returns-in-Feature-Feature c =
    let x = c.in-Feature-Feature in
    rw (← c.of.ensures, ← c.of-2.ensures, x.is-0, x.is-1) (through c.is_named.ensures (named_row (document_of c.args.context.now) c.args.context.now.setting.now c.args.rule (id_of x.feature.krate.now) (id_of x.other.krate.now) x.feature.name.now x.other.name.now))

pub returns-in-Kept-Crate : goal.returns-in-Kept-Crate
returns-in-Kept-Crate c =
    let x = c.in-Kept-Crate in
    rw (← c.of.ensures, ← c.of-2.ensures, x.is-0, x.is-1) (through c.is_same_by-in-Kept-Crate.ensures (target_row (rules_of c.args.context.now) c.args.rule (edge_of_ref x.edge) (id_of x.krate.now)))

pub returns-in-Toggled-Feature : goal.returns-in-Toggled-Feature
returns-in-Toggled-Feature c =
    let x = c.in-Toggled-Feature in
    let t = x.toggle in
    rw (← c.of.ensures, ← c.of-2.ensures, x.is-0, x.is-1) (through c.is_enabled.ensures (enabled_row (rules_of c.args.context.now) c.args.rule (id_of t.by.now) (id_of t.krate.now) (id_of x.feature.krate.now) t.name.now x.feature.name.now))
