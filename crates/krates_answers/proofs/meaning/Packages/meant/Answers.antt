use Rattle.std.proofs.Common.{◌+◌, Bor, length, subst}
use Rattle.krates_cm.specs.declared.package.Package.{Package}
use Rattle.krates_queries.specs.KrateNodes.{match_view}
use Rattle.krates_answers.specs.Meaning.{ReadsIfAny}
use Rattle.krates_answers.proofs.MeaningLemmas.{no_id_read}
use Rattle.krates_answers.proofs.MeantLemmas.{at_least_one, meant_by_id, no_id_parted}
use Rattle.krates_answers.proofs.meaning.Packages.meant.Goals.{in-Some+in_ok-found+else-not-is_empty, in_default}
use Rattle.krates_answers.proofs.meaning.Packages.meant.Goals as goal

pub returns-then-not-is_empty-clause-meant : goal.returns-then-not-is_empty-clause-meant
returns-then-not-is_empty-clause-meant c =
    let found = c.in_ok-found.found in
    let read : ReadsIfAny c.args.word.now c.in_ok-kid.field-0 = c.in_ok-kid.ensures in
    meant_by_id match_view (λ (pkg : Bor Package). pkg.now) c.args.self.now c.args.word.now c.in-Some.kid (subst (ReadsIfAny c.args.word.now) c.in-Some.is read) found.kept.items found.others.items
    c.in_ok-found.ensures (at_least_one c.is_empty.result (length found.kept.items + length found.others.items) c.is_empty.ensures c.if-not-is_empty.true)

pub asked_for-requires : goal.asked_for-requires
asked_for-requires c =
    let read : ReadsIfAny c.args.word.now c.in_ok-kid.field-0 = c.in_ok-kid.ensures in
    elim c.match-branch-2.branch [
      | in-Some+in_ok-found+else-not-is_empty w ↦ no_id_parted match_view (λ (pkg : Bor Package). pkg.now) c.args.self.now c.args.word.now w.in-Some.kid
          (subst (ReadsIfAny c.args.word.now) w.in-Some.is read) w.in_ok-found.found.kept.items w.in_ok-found.found.others.items w.in_ok-found.ensures (w.is_empty.ensures.0 w.if-not-is_empty.false)
      | in_default w ↦ no_id_read c.args.self.now c.args.word.now (subst (ReadsIfAny c.args.word.now) w.in_default.is read)
    ]
