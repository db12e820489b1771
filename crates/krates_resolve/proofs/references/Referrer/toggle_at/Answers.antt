use Rattle.std.proofs.Common.{sym, subst}
use Rattle.std.proofs.lemmas.Result.{on_ok_weaker}
use Rattle.krates_rules.specs.Facts.{Crate, Id}
use Rattle.krates_questions.specs.Context.{HasEntry, document_of}
use Rattle.krates_search.specs.SearchState.{HasFound, HasToggled}
use Rattle.krates_resolve.specs.References.{DependsAt}
use Rattle.krates_questions.specs.NodeEntry.{child_of, krate_of}
use Rattle.krates_questions.proofs.NodeParts.{deps_long, entry_here, own_long}
use Rattle.krates_resolve.proofs.ReferenceLemmas.{dep_of_entry, found_node}
use Rattle.krates_selection.proofs.Steps.{one_way}
use Rattle.krates_resolve.proofs.references.Referrer.toggle_at.Goals.{After-entry_at-entry}
use Rattle.krates_resolve.proofs.references.Referrer.toggle_at.Goals as goal

pub entry_at-entry-requires-clause-lengths : goal.entry_at-entry-requires-clause-lengths
entry_at-entry-requires-clause-lengths c = sym (deps_long (document_of c.args.self.now.context) c.args.self.now.parts.place.index c.args.self.now.parts c.requires.parts)

pub entry_at-entry-requires-clause-versions : goal.entry_at-entry-requires-clause-versions
entry_at-entry-requires-clause-versions c = own_long (document_of c.args.self.now.context) c.args.self.now.parts.place.index c.args.self.now.parts c.requires.parts

-- its entry is one of the document
is_entry : (c : After-entry_at-entry) → HasEntry c.args.self.now.context c.entry_at-entry.result
is_entry c = entry_here (document_of c.args.self.now.context) c.args.self.now.parts.place.index c.args.self.now.parts c.args.index c.entry_at-entry.result c.requires.parts c.entry_at-entry.ensures

depends : (c : After-entry_at-entry) → DependsAt c.args.self.now (child_of c.entry_at-entry.result) c.args.index
depends c = dep_of_entry (document_of c.args.self.now.context) c.args.self.now.parts c.entry_at-entry.result c.args.index c.entry_at-entry.ensures (is_entry c)

-- and its crate is kept
is_kept : (c : After-entry_at-entry) → HasFound c.args.self.now.context c.args.found.now (Crate (child_of c.entry_at-entry.result))
is_kept c = c.requires.sound.arrived (krate_of c.args.self.now.parts) (child_of c.entry_at-entry.result) c.args.self.now.parts.place.index c.args.index (depends c) c.requires.marked

pub child_place-requires : goal.child_place-requires
child_place-requires c = record { entry = is_entry (goal.at.child_place-requires c).After-entry_at-entry }

pub unreachable-requires : goal.unreachable-requires
unreachable-requires c =
    found_node c.args.self.now.context c.args.found.now (child_of c.entry_at-entry.result) (is_kept (goal.at.unreachable-requires c).After-entry_at-entry) c.in_default.ensures

pub toggle-requires-clause-kept : goal.toggle-requires-clause-kept
toggle-requires-clause-kept c = is_kept (goal.at.toggle-requires-clause-kept c).After-entry_at-entry

pub toggle-requires-clause-may : goal.toggle-requires-clause-may
toggle-requires-clause-may c = c.requires.may (child_of c.entry_at-entry.result) (depends (goal.at.toggle-requires-clause-may c).After-entry_at-entry)

pub toggle-requires-clause-by : goal.toggle-requires-clause-by
toggle-requires-clause-by c = record { at = c.requires.parts.at; read = c.requires.parts.read }

pub toggle-requires-clause-node : goal.toggle-requires-clause-node
toggle-requires-clause-node c = record { at = c.in-Some.ensures; read = (is_entry (goal.at.toggle-requires-clause-node c).After-entry_at-entry).child_read }

pub toggle-requires-clause-step : goal.toggle-requires-clause-step
toggle-requires-clause-step c lists = c.requires.step (child_of c.entry_at-entry.result) (depends (goal.at.toggle-requires-clause-step c).After-entry_at-entry) lists

pub returns-clause-toggled : goal.returns-clause-toggled
returns-clause-toggled c =
    let by = c.args.self.now in
    let b = by.context in
    let p = krate_of by.parts in
    let child = child_of c.entry_at-entry.result in
    let dep = depends (goal.at.returns-clause-toggled c).After-entry_at-entry in
    on_ok_weaker c.toggle.result (λ toggled other there. subst (λ (i : Id). HasToggled b c.toggle.new.found p i c.args.name.now) (one_way c.one_reading.ensures.once (document_of b) p child p other by.parts.place.index c.args.index dep there).1 toggled)
    c.toggle.ensures.toggled
