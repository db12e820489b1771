use Rattle.std.proofs.Common.{◌<◌, ℕ, List, Option, IfSome, is_some, length, map, sym, ap, ◌∙◌, subst}
use Rattle.krates_document.specs.CrateTable.{at_number}
use Rattle.krates_questions.specs.Lookup.{TellsMember, resolved_view}
use Rattle.krates_rules.specs.Resolved.{id_of}
use Rattle.krates_questions.proofs.Lookups.{member_answer}
use Rattle.krates_document.proofs.NumberedPlaces.{index_answer, index_within}
use Rattle.krates_questions.proofs.questions.Document.is_member_at.Goals as goal

pub at_number-requires : goal.at_number-requires
at_number-requires c =
    let d = c.self.inside.lookup in
    let n = (rw (← c.self.view_is) at c.requires.number) in
    subst (λ (ps : List (Option ℕ)). IfSome c.args.number (λ m. m < length ps)) (sym c.deref.ensures.value) (index_within (map id_of d.ids.now.table.ids.items) d.ids.now.members.items d.ids.now.table.members.items n.0 c.args.number d.ids.now.indexed.members n.1)

pub returns : goal.returns
returns c =
    rw (← c.self.view_is) (λ i h. let d = c.self.inside.lookup in
    let is = c.is_some.ensures ∙ ap is_some (c.at_number.ensures ∙ ap (λ (ps : List (Option ℕ)). at_number ps c.args.number) c.deref.ensures.value) in
    let place = index_answer (map id_of d.ids.now.table.ids.items) d.ids.now.members.items d.ids.now.table.members.items i c.args.number d.ids.now.indexed.members h in
    subst (TellsMember (resolved_view d) i) (sym is) (member_answer (resolved_view d) d.ids.now.members.items i (at_number d.ids.now.table.members.items c.args.number) c.one_reading.ensures.once c.self.invariant.ids.members place))
