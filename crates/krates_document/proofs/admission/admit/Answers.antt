use Rattle.std.proofs.Common.{◌≡◌, List, ap, map, option_map, subst, sym}
use Rattle.std.proofs.lemmas.Result.{err_from_is_err_and}
use Rattle.std.specs.Global.{Vec}
use Rattle.std.specs.List.{AllByRecursion}
use Rattle.krates_cm.specs.Document.{resolve_view, metadata_view}
use Rattle.krates_ids.specs.Identity.{Identity}
use Rattle.krates_ids.specs.declared.error.Error.{Error}
use Rattle.krates_document.specs.AdmissionSteps.{AreAllDistinct, DoubledInRefusal, DoubledWithinRefusal}
use Rattle.krates_document.specs.Ids.{read_view}
use Rattle.krates_document.specs.declared.ids.ReadIds.{ReadIds}
use Rattle.krates_document.proofs.AdmissionLemmas.{none_doubled, twice_deps, twice_named, twice_refused}
use Rattle.krates_rules.specs.Admission.{IsAdmitted}
use Rattle.krates_rules.specs.DistinctIds.{AreDistinct}
use Rattle.krates_document.proofs.admission.admit.Goals as goal

pub returns-in_err-table-clause-refused : goal.returns-in_err-table-clause-refused
returns-in_err-table-clause-refused c =
    let p = err_from_is_err_and c.from_residual-in_err-table.result c.from_residual-in_err-table.ensures.1 in
    rw (p.1, p.2) (twice_refused (metadata_view c.args.metadata.now) (resolve_view c.in-Some.resolve) (read_view c.in_ok-ids.ids) (ap (option_map resolve_view) c.in-Some.is) c.in_ok-ids.ensures.read c.in_err-table.field-0.0 c.in_err-table.ensures.refused)

pub returns-in_err-table-clause-named : goal.returns-in_err-table-clause-named
returns-in_err-table-clause-named c =
    let p = err_from_is_err_and c.from_residual-in_err-table.result c.from_residual-in_err-table.ensures.1 in
    rw (p.1, p.2) (twice_named (metadata_view c.args.metadata.now) (resolve_view c.in-Some.resolve) (read_view c.in_ok-ids.ids) (ap (option_map resolve_view) c.in-Some.is) c.in_ok-ids.ensures.read c.in_err-table.field-0.0 c.in_err-table.ensures.refused)

twice_within : (ids : ReadIds) (lists : List (Vec Identity)) (e : Error) → lists ≡ ids.deps.items → DoubledInRefusal (map (λ (ks : Vec Identity). ks.items) lists) e → DoubledWithinRefusal (read_view ids) e
twice_within ids lists e is twice = twice_deps (read_view ids) e (subst (λ (ls : List (Vec Identity)). DoubledInRefusal (map (λ (ks : Vec Identity). ks.items) ls) e) is twice)

pub returns-in_err-expect_all_distinct-clause-refused : goal.returns-in_err-expect_all_distinct-clause-refused
returns-in_err-expect_all_distinct-clause-refused c =
    let error = c.in_err-expect_all_distinct.field-0.0 in
    let p = err_from_is_err_and c.from_residual-in_err-expect_all_distinct.result c.from_residual-in_err-expect_all_distinct.ensures.1 in
    let twice = twice_within c.in_ok-ids.ids c.deref.result.now error c.deref.ensures.value c.in_err-expect_all_distinct.ensures.refused in
    rw (p.1, p.2) (twice_refused (metadata_view c.args.metadata.now) (resolve_view c.in-Some.resolve) (read_view c.in_ok-ids.ids) (ap (option_map resolve_view) c.in-Some.is) c.in_ok-ids.ensures.read error twice)

pub returns-in_err-expect_all_distinct-clause-named : goal.returns-in_err-expect_all_distinct-clause-named
returns-in_err-expect_all_distinct-clause-named c =
    let error = c.in_err-expect_all_distinct.field-0.0 in
    let p = err_from_is_err_and c.from_residual-in_err-expect_all_distinct.result c.from_residual-in_err-expect_all_distinct.ensures.1 in
    let twice = twice_within c.in_ok-ids.ids c.deref.result.now error c.deref.ensures.value c.in_err-expect_all_distinct.ensures.refused in
    rw (p.1, p.2) (twice_named (metadata_view c.args.metadata.now) (resolve_view c.in-Some.resolve) (read_view c.in_ok-ids.ids) (ap (option_map resolve_view) c.in-Some.is) c.in_ok-ids.ensures.read error twice)

pub returns-clause-admitted : goal.returns-clause-admitted
returns-clause-admitted c =
    let ids = read_view c.in_ok-ids.ids in
    let distinct : AreAllDistinct ids = record {
      packages = c.in_ok-table.ensures.packages;
      nodes = c.in_ok-table.ensures.nodes;
      deps = subst (λ (ls : List (Vec Identity)). AllByRecursion AreDistinct (map (λ (ks : Vec Identity). ks.items) ls)) c.deref.ensures.value c.in_ok-expect_all_distinct.ensures.distinct;
    } in
    subst (IsAdmitted (metadata_view c.args.metadata.now)) (sym c.with.ensures) (record {
      graph = resolve_view c.in-Some.resolve;
      has_graph = ap (option_map resolve_view) c.in-Some.is;
      read = c.in_ok-ids.ensures.read;
      none_doubled = none_doubled c.one_reading.ensures.once (metadata_view c.args.metadata.now) (resolve_view c.in-Some.resolve) ids c.in_ok-ids.ensures.read distinct;
    })
