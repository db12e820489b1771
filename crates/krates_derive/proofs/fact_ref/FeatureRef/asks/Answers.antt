use Rattle.std.proofs.Common.{rules, tests}
use Rattle.std.proofs.lemmas.Iterator.{cases_from_any, YieldsList-from_slice}
use Rattle.krates_cm.specs.Document.{Text, text_view}
use Rattle.krates_questions.specs.Context.{document_of}
use Rattle.krates_rules.specs.Resolved.{id_of}
use Rattle.krates_derive.specs.Following.{AsksBy}
use Rattle.krates_derive.proofs.Answered.{any_told}
use Rattle.krates_derive.proofs.fact_ref.FeatureRef.asks.Goals as goal

pub returns : goal.returns
returns c =
    let xs = c.values-values.result.now in
    let P = λ (t : Text). AsksBy (document_of c.args.context.now) c.args.context.now.setting.now (id_of c.args.self.now.krate.now) t (id_of c.args.child.now) in
    let told = any_told text_view P xs c.any.result (cases_from_any _ _ _ (λ v. P (text_view v)) (λ v. P (text_view v) → ⊥) c.any.ensures.ran (YieldsList-from_slice xs cc) (λ x q k. search (rules, tests)) (λ x q k. search (rules, tests))) in (
      λ t. (
          let h = told.0 t in
          let y = h.2 in
          record { reference = y.reference; dep = y.dep; refers = (c.values-values.ensures.references y.reference).1 (record { text = h.0; among = h.1; is = y.is }); asks = y.asks; referent = y.referent }),
      λ y. told.1 (
          let a = (c.values-values.ensures.references y.reference).0 y.refers in
          (a.text, a.among, record { reference = y.reference; is = a.is; dep = y.dep; asks = y.asks; referent = y.referent })),
    )
