use Rattle.std.proofs.Common.{arith, map}
use Rattle.std.proofs.lemmas.List.{map-append}
use Rattle.std.proofs.lemmas.Result.{err_from_is_err_and}
use Rattle.semver.specs.Identifiers.{parts_of}
use Rattle.krates_cm.specs.Document.{Text, id_view}
use Rattle.krates_cm.specs.declared.resolve.NodeDep.{NodeDep}
use Rattle.krates_ids.specs.Identity.{Reads}
use Rattle.krates_rules.specs.Admission.{HasThisVersion}
use Rattle.krates_document.proofs.AdmissionLemmas.{bad_dep}
use Rattle.krates_rules.proofs.Zips.{zip_next, zip_all, zip_push, one_seen}
use Rattle.krates_document.proofs.admission.read_dep_ids.Goals as goal

pub returns-in_err-kid-clause-refused : goal.returns-in_err-kid-clause-refused
returns-in_err-kid-clause-refused c =
    let dep = c.dep-item.result in
    let text : NodeDep → Text = λ d. id_view d.pkg in
    let among = one_seen text c.args.deps.now c.loop-dep.dep-index dep (omega arith) c.dep-item.is in
    let p = err_from_is_err_and c.from_residual-in_err-kid.result c.from_residual-in_err-kid.ensures.1 in
    rw (p.1, p.2) (bad_dep (map text c.args.deps.now) (text dep) among c.in_err-kid.field-0.0 c.in_err-kid.ensures.refused)

pub loop-dep-preserved : goal.loop-dep-preserved
loop-dep-preserved c =
    let l = c.loop-dep in
    let kid = c.in_ok-kid.kid in
    let version = parts_of c.in_ok-kid.version in
    rw (c.in_ok-push.ensures.items, c.in_ok-push-2.ensures.items, map-append) record {
      read = zip_next Reads (λ (d : NodeDep). id_view d.pkg) c.args.deps.now l.dep-index c.dep-item.result l.kids.items kid (omega arith) c.dep-item.is c.in_ok-kid.ensures.read l.invariant.read;
      versions = zip_push HasThisVersion l.kids.items (map parts_of l.versions.items) kid version l.invariant.versions c.in_ok-kid.ensures.version;
    }

pub returns-clause-read : goal.returns-clause-read
returns-clause-read c = zip_all Reads (λ (d : NodeDep). id_view d.pkg) c.args.deps.now c.loop-dep.dep-index c.loop-dep.kids.items (omega arith) c.loop-dep.invariant.read
