use Rattle.std.proofs.Common.{sym, ap, subst}
use Rattle.std.proofs.lemmas.Result.{on_ok_weaker}
use Rattle.krates_rules.specs.Facts.{Id, Kept}
use Rattle.krates_search.specs.SearchState.{IsAny, MayTry}
use Rattle.krates_questions.specs.Context.{HasEntry, document_of, IsDepAt}
use Rattle.krates_rules.specs.Referent.{IsReferent}
use Rattle.krates_questions.specs.NodeEntry.{child_of, krate_of}
use Rattle.krates_rules.specs.Questions.{edge_between}
use Rattle.krates_rules.specs.Resolved.{id_of}
use Rattle.krates_search.specs.SearchContext.{FindsEdge}
use Rattle.krates_search.proofs.Finding.{finds_asked, for_reason}
use Rattle.krates_resolve.specs.References.{name_of}
use Rattle.krates_resolve.proofs.ReferenceLemmas.{asked_may_try, dep_of_entry, tried_at}
use Rattle.krates_questions.proofs.NodeParts.{deps_long, entry_here, own_long}
use Rattle.krates_resolve.proofs.references.Referrer.ask_at.Goals.{After-entry_at-entry}
use Rattle.krates_resolve.proofs.references.Referrer.ask_at.Goals as goal

pub is_asked-requires : goal.is_asked-requires
is_asked-requires c = c.requires.sound.has_links (krate_of c.args.self.now.parts) c.requires.demands.refers.child c.args.self.now.parts.place.index c.args.index c.requires.demands.refers.dep

pub returns-then-is_asked-clause-asked : goal.returns-then-is_asked-clause-asked
returns-then-is_asked-clause-asked c e same there =
    let parts = c.args.self.now.parts in
    let at = subst (λ (i : Id). IsDepAt c.args.self.now.context i e.child parts.place.index c.args.index) (sym same) there in
    c.requires.sound.tried e parts.place.index c.args.index at (c.is_asked.ensures.0 c.if-is_asked.true)

pub entry_at-entry-requires-clause-lengths : goal.entry_at-entry-requires-clause-lengths
entry_at-entry-requires-clause-lengths c = sym (deps_long (document_of c.args.self.now.context) c.args.self.now.parts.place.index c.args.self.now.parts c.requires.parts)

pub entry_at-entry-requires-clause-versions : goal.entry_at-entry-requires-clause-versions
entry_at-entry-requires-clause-versions c = own_long (document_of c.args.self.now.context) c.args.self.now.parts.place.index c.args.self.now.parts c.requires.parts

is_entry : (c : After-entry_at-entry) → HasEntry c.args.self.now.context c.entry_at-entry.result
is_entry c = entry_here (document_of c.args.self.now.context) c.args.self.now.parts.place.index c.args.self.now.parts c.args.index c.entry_at-entry.result c.requires.parts c.entry_at-entry.ensures

-- the reference's name means its crate
is_meant : (c : After-entry_at-entry) → IsReferent (document_of c.args.self.now.context) c.args.self.now.context.setting.now.all_named (krate_of c.args.self.now.parts) (name_of c.requires.demands.reference) (child_of c.entry_at-entry.result)
is_meant c =
    let entry = c.entry_at-entry.result in
    c.requires.demands.refers.is (child_of entry) (dep_of_entry (document_of c.args.self.now.context) c.args.self.now.parts entry c.args.index c.entry_at-entry.ensures (is_entry c))

pub expand_entry-requires-clause-entry : goal.expand_entry-requires-clause-entry
expand_entry-requires-clause-entry c = is_entry (goal.at.expand_entry-requires-clause-entry c).After-entry_at-entry

pub expand_entry-requires-clause-may : goal.expand_entry-requires-clause-may
expand_entry-requires-clause-may c k =
    let by = c.args.self.now in
    let b = by.context in
    let child = child_of c.entry_at-entry.result in
    let d = c.requires.demands in
    subst (λ (i : Id). MayTry b (edge_between i child k) IsAny) (sym (ap id_of c.entry_at-entry.ensures.parent))
    (asked_may_try b (edge_between (krate_of by.parts) child k) d.reference (name_of d.reference) d.refers.refers.may d.demands (is_meant (goal.at.expand_entry-requires-clause-may c).After-entry_at-entry))

pub expand_entry-requires-clause-step : goal.expand_entry-requires-clause-step
expand_entry-requires-clause-step c k =
    let by = c.args.self.now in
    let b = by.context in
    let child = child_of c.entry_at-entry.result in
    let d = c.requires.demands in
    let edge = edge_between (krate_of by.parts) child k in
    let meant = is_meant (goal.at.expand_entry-requires-clause-step c).After-entry_at-entry in
    subst (λ (i : Id). FindsEdge b c.args.found.now c.by_one-reason.result (edge_between i child k) IsAny) (sym (ap id_of c.entry_at-entry.ensures.parent))
    (λ declared wanted any stands. for_reason b c.args.found.now _ _ (Kept edge) c.by_one-reason.ensures (finds_asked b c.args.found.now by.step edge d.reference (name_of d.reference) declared d.refers.refers.has_step d.demands meant wanted stands))

pub returns-clause-asked : goal.returns-clause-asked
returns-clause-asked c =
    let b = c.args.self.now.context in
    let parts = c.args.self.now.parts in
    on_ok_weaker c.expand_entry.result (λ tried e same there.
    let at = subst (λ (i : Id). IsDepAt b i e.child parts.place.index c.args.index) (sym same) there in
    tried_at c.one_reading.ensures.once b c.expand_entry.new.found parts c.entry_at-entry.result c.args.index e c.agrees.ensures.distinct c.requires.parts c.entry_at-entry.ensures tried at)
    c.expand_entry.ensures.tried
