use Rattle.std.proofs.Common.{sym}
use Rattle.std.proofs.lemmas.Option.{slice_get_within}
use Rattle.krates_questions.specs.Lookup.{resolved_view}
use Rattle.krates_rules.specs.Resolved.{id_of}
use Rattle.krates_questions.proofs.NodeParts.{deps_long, own_long}
use Rattle.krates_questions.proofs.Asked.{no_dep_told, entry_told}
use Rattle.krates_questions.proofs.questions.Document.entry_between.Goals as goal

pub returns-in_default : goal.returns-in_default
returns-in_default c n d has dep = c.in_default.ensures n has

pub returns-in_default-place_of_child : goal.returns-in_default-place_of_child
returns-in_default-place_of_child c =
    no_dep_told c.one_reading.ensures.once (resolved_view c.args.self.now) (id_of c.args.parent.now) (id_of c.args.child.now) c.in-Some.parts c.agrees.ensures.distinct c.in-Some.ensures c.in_default-place_of_child.ensures

pub entry_at-requires-clause-lengths : goal.entry_at-requires-clause-lengths
entry_at-requires-clause-lengths c = sym (deps_long (resolved_view c.args.self.now) c.in-Some.parts.place.index c.in-Some.parts c.in-Some.ensures.parts)

pub entry_at-requires-clause-versions : goal.entry_at-requires-clause-versions
entry_at-requires-clause-versions c = own_long (resolved_view c.args.self.now) c.in-Some.parts.place.index c.in-Some.parts c.in-Some.ensures.parts

pub entry_at-requires-clause-within : goal.entry_at-requires-clause-within
entry_at-requires-clause-within c = slice_get_within c.in-Some.parts.children.now c.in-Some-place_of_child.index c.in-Some-place_of_child.ensures.there c.in-Some-place_of_child.ensures.at

pub returns : goal.returns
returns c =
    entry_told (resolved_view c.args.self.now) (id_of c.args.parent.now) (id_of c.args.child.now) c.in-Some.parts c.in-Some-place_of_child.index c.entry_at.result c.in-Some.ensures c.in-Some-place_of_child.ensures c.entry_at.ensures
