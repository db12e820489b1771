use Rattle.std.proofs.Common.{rules}
use Rattle.krates_cm.specs.Document.{metadata_view}
use Rattle.krates_document.specs.Ids.{ids_view}
use Rattle.krates.proofs.ResolvableLemmas.{on_ok, resolvable}
use Rattle.krates.proofs.SeenLemmas.{admitted_seen, sees_built, sees_named, sees_refused}
use Rattle.krates.proofs.builder.Builder.build_with_metadata.Goals as goal

pub build_admitted-requires-clause-admitted : goal.build_admitted-requires-clause-admitted
build_admitted-requires-clause-admitted g c = admitted_seen _ _ c.args.metadata c.in_ok-metadata.metadata (ids_view c.in_ok-ids.ids) c.in_ok-metadata.ensures.seen c.in_ok-ids.ensures.admitted

pub returns-clause-built : goal.returns-clause-built
returns-clause-built g c = rw (← c.self.view_is) (sees_built _ _ c.args.metadata c.in_ok-metadata.metadata _ _ _ _ _ _ _ c.in_ok-metadata.ensures.seen c.build_admitted.ensures.built)

pub returns-clause-refused : goal.returns-clause-refused
returns-clause-refused g c = rw (← c.self.view_is) (sees_refused _ _ c.args.metadata c.in_ok-metadata.metadata _ (ids_view c.in_ok-ids.ids) _ c.in_ok-ids.ensures.admitted c.in_ok-metadata.ensures.seen c.build_admitted.ensures.refused)

pub returns-clause-named : goal.returns-clause-named
returns-clause-named g c = sees_named _ _ c.args.metadata c.in_ok-metadata.metadata _ c.in_ok-metadata.ensures.seen c.build_admitted.ensures.named

pub seen_through-requires : goal.seen_through-requires
seen_through-requires g c =
    let can = resolvable (metadata_view c.args.metadata) (ids_view c.in_ok-ids.ids) c.in_ok-ids.ensures.admitted in
    search rules

pub returns-clause-admitted : goal.returns-clause-admitted
returns-clause-admitted g c = on_ok _ c.build_admitted.result (resolvable (metadata_view c.args.metadata) (ids_view c.in_ok-ids.ids) c.in_ok-ids.ensures.admitted)
