use Rattle.std.proofs.lemmas.Option.{slice_get_within}
use Rattle.krates_questions.specs.Lookup.{resolved_view}
use Rattle.krates_rules.specs.Resolved.{id_of}
use Rattle.krates_questions.proofs.Asked.{parts_told}
use Rattle.krates_questions.proofs.questions.Document.parts_for.Goals as goal

pub parts_of-requires : goal.parts_of-requires
parts_of-requires c =
    let at = c.in-Some.ensures in
    record { within = slice_get_within (resolved_view c.args.self.now).graph.nodes c.in-Some.place.index at.node at.at }

pub returns : goal.returns
returns c = parts_told c.one_reading.ensures.once c.args.self.now (id_of c.args.krate.now) c.in-Some.place.index c.parts_of.result c.in-Some.ensures c.parts_of.ensures
