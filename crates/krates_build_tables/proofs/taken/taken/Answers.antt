use Rattle.std.proofs.Common.{Some, None, Option, sym, subst}
use Rattle.krates_questions.specs.Lookup.{resolved_view}
use Rattle.krates_rules.specs.Resolved.{id_of}
use Rattle.krates_build_tables.specs.References.{reference_view}
use Rattle.krates_build_tables.specs.RequestsFlags.{root_kind}
use Rattle.krates_build_tables.specs.RequestsTaken.{TellsTaken}
use Rattle.krates_build_tables.specs.declared.reference.FeatureReference.{FeatureReference}
use Rattle.krates_build_tables.specs.declared.roots.RootAs.{RootAs}
use Rattle.krates_build_tables.proofs.TakenReferences.{for_other_told, takes_for_other, takes_whole}
use Rattle.krates_build_tables.proofs.taken.taken.Goals as goal

pub returns-in-Current : goal.returns-in-Current
returns-in-Current c s are =
    let d = c.args.document.now in
    let v = reference_view c.args.given in
    let i = id_of c.args.id.now in
    let none : Option FeatureReference = None in
    let told = for_other_told c.one_reading.ensures.once d c.agrees.ensures s c.args.flags.now are v c.is_for_other.result c.is_for_other.ensures in
    subst (λ (kind : RootAs). TellsTaken (resolved_view d) s i (root_kind kind) v none) (sym c.in-Current.is) (takes_for_other (resolved_view d) s i v (told.0 c.if-is_for_other.true))

pub returns-in-Current-2 : goal.returns-in-Current-2
returns-in-Current-2 c s are =
    let d = c.args.document.now in
    let v = reference_view c.args.given in
    let i = id_of c.args.id.now in
    let told = for_other_told c.one_reading.ensures.once d c.agrees.ensures s c.args.flags.now are v c.is_for_other.result c.is_for_other.ensures in
    subst (λ (kind : RootAs). TellsTaken (resolved_view d) s i (root_kind kind) v (Some c.args.given)) (sym c.in-Current-2.is)
    (takes_whole (resolved_view d) s i v (λ other. absurd (cc (told.1 other, c.if-is_for_other.false))))
