use Rattle.krates_rules.specs.Resolved.{id_of, ReadsAs}
use Rattle.krates_certificate.proofs.IdLemmas.{told_false, parts_for}
use Rattle.krates_certificate.proofs.write.ids.id_text.Goals as goal

pub returns : goal.returns
returns c =
    let id = c.args.id.now in
    let other : ReadsAs id.text (id_of id) → ⊥ = told_false c.in_ok-reads_as_itself.field-0 (ReadsAs id.text (id_of id)) c.in_ok-reads_as_itself.ensures c.if-branch.false in
    parts_for id c.parts_text.result other c.parts_text.ensures
