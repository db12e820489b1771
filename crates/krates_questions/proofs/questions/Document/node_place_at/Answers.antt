use Rattle.std.proofs.Common.{◌≡◌, ◌<◌, ℕ, List, Option, IfSome, MatchOption, length, map, sym, ap, ◌∙◌, subst}
use Rattle.krates_document.specs.CrateTable.{at_number}
use Rattle.krates_questions.specs.Lookup.{IsLookup, IsNodePlace, IsNumberIn, resolved_view}
use Rattle.krates_questions.specs.declared.lookup.Lookup.{Lookup}
use Rattle.krates_rules.specs.Facts.{Id}
use Rattle.krates_rules.specs.Resolved.{NoNode, NodeAt, id_of}
use Rattle.krates_rules.proofs.Readings.{ReadsOnce}
use Rattle.krates_questions.proofs.Lookups.{node_answer}
use Rattle.krates_document.proofs.NumberedPlaces.{index_answer, index_within}
use Rattle.krates_questions.proofs.questions.Document.node_place_at.Goals as goal

-- what the table has at the number of a crate is where its node is
node_told : ReadsOnce → (d : Lookup) (i : Id) (number answer : Option ℕ) → IsLookup d → IsNumberIn d i number → answer ≡ at_number d.ids.now.table.nodes.items number → MatchOption answer (NoNode (resolved_view d) i) (NodeAt (resolved_view d) i)
node_told once d i number answer h numbered is =
    let r = resolved_view d in
    let place = index_answer (map id_of d.ids.now.table.ids.items) d.ids.now.nodes.items d.ids.now.table.nodes.items i number d.ids.now.indexed.nodes numbered in
    subst (λ (o : Option ℕ). MatchOption o (NoNode r i) (NodeAt r i)) (sym is) (node_answer r d.ids.now.nodes.items i (at_number d.ids.now.table.nodes.items number) once h.ids.nodes place)

pub at_number-requires : goal.at_number-requires
at_number-requires c =
    let d = c.self.inside.lookup in
    let n = (rw (← c.self.view_is) at c.requires.number) in
    subst (λ (ps : List (Option ℕ)). IfSome c.args.number (λ m. m < length ps)) (sym c.deref.ensures.value) (index_within (map id_of d.ids.now.table.ids.items) d.ids.now.nodes.items d.ids.now.table.nodes.items n.0 c.args.number d.ids.now.indexed.nodes n.1)

pub returns-in_err-index : goal.returns-in_err-index
returns-in_err-index c =
    rw (← c.self.view_is) (λ i h. let d = c.self.inside.lookup in
    let is = c.in_err-index.ensures ∙ ap (λ (ps : List (Option ℕ)). at_number ps c.args.number) c.deref.ensures.value in
    subst (IsNodePlace (resolved_view d) i) (sym c.from_residual.ensures) (node_told c.one_reading.ensures.once d i c.args.number _ c.self.invariant h is))

pub returns : goal.returns
returns c =
    rw (← c.self.view_is) (λ i h. let d = c.self.inside.lookup in
    let is = c.in_ok-index.ensures ∙ ap (λ (ps : List (Option ℕ)). at_number ps c.args.number) c.deref.ensures.value in
    node_told c.one_reading.ensures.once d i c.args.number _ c.self.invariant h is)
