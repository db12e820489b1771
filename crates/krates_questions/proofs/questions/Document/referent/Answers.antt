use Rattle.std.proofs.Common.{false, sym, ◌∙◌, subst}
use Rattle.std.proofs.lemmas.Option.{slice_get_within, same_Some}
use Rattle.krates_ids.specs.Identity.{Identity}
use Rattle.krates_rules.specs.Facts.{Id}
use Rattle.krates_questions.specs.Lookup.{resolved_view}
use Rattle.krates_rules.specs.Referent.{IsReferent}
use Rattle.krates_rules.specs.Resolved.{id_of}
use Rattle.krates_questions.proofs.NodeParts.{deps_long, own_long}
use Rattle.krates_questions.proofs.questions.Document.referent.Goals as goal

pub returns-in_default : goal.returns-in_default
returns-in_default c = (λ child is. c.in_default.ensures is.is_named.node is.is_named.has_node)

pub returns-in_default-referent_of : goal.returns-in_default-referent_of
returns-in_default-referent_of c =
    (λ child is. let r = resolved_view c.args.self.now in
    c.in_default-referent_of.ensures child (subst (λ (i : Id). IsReferent r false i c.args.name.now child) (sym c.in-Some.ensures.parent) is))

pub entry_at-requires-clause-lengths : goal.entry_at-requires-clause-lengths
entry_at-requires-clause-lengths c = sym (deps_long (resolved_view c.args.self.now) c.in-Some.parts.place.index c.in-Some.parts c.in-Some.ensures.parts)

pub entry_at-requires-clause-versions : goal.entry_at-requires-clause-versions
entry_at-requires-clause-versions c = own_long (resolved_view c.args.self.now) c.in-Some.parts.place.index c.in-Some.parts c.in-Some.ensures.parts

pub entry_at-requires-clause-within : goal.entry_at-requires-clause-within
entry_at-requires-clause-within c = slice_get_within c.in-Some.parts.children.now c.in-Some-referent_of.index c.in-Some-referent_of.ensures.child c.in-Some-referent_of.ensures.at

pub returns : goal.returns
returns c =
    (let r = resolved_view c.args.self.now in
    let name = c.args.name.now in
    let at = c.in-Some-referent_of.ensures in
    let same = same_Some at.child c.entry_at.result.child.now (sym at.at ∙ c.entry_at.ensures.child) in
    subst (λ (child : Identity). IsReferent r false (id_of c.args.krate.now) name (id_of child)) same
    (subst (λ (i : Id). IsReferent r false i name (id_of at.child)) c.in-Some.ensures.parent at.is))
