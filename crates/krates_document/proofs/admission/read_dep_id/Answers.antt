use Rattle.std.proofs.Common.{◌≡◌, lit<, ap, sym, ◌∙◌, inr, option_map, string_bytes, subst}
use Rattle.semver.specs.Identifiers.{parts_of}
use Rattle.krates_cm.specs.Document.{Text, id_view}
use Rattle.krates_ids.specs.Identity.{Reads}
use Rattle.krates_document.proofs.admission.read_dep_id.Goals as goal

pub returns-in_ok-clone-in-None-clause-refused : goal.returns-in_ok-clone-in-None-clause-refused
returns-in_ok-clone-in-None-clause-refused c =
    let kid = c.in_ok-kid.kid in
    let same : string_bytes c.in_ok-clone-in-None.field-0 ≡ id_view c.args.dep.now.pkg = c.in_ok-clone-in-None.ensures.cases in
    let reads = subst (λ (t : Text). Reads t kid) (sym same) c.in_ok-kid.ensures.read in
    ((0, lit< tt, sym same), inr (kid, reads, c.in_ok-version.ensures.read ∙ ap (option_map parts_of) c.in-None.is))
