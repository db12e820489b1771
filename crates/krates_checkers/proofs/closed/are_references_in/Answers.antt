use Rattle.std.proofs.Common.{String, refl, sym, subst}
use Rattle.std.specs.Global.{Global}
use Rattle.krates_cm.specs.Document.{Text, text_view}
use Rattle.krates_derive.specs.Giving.{document_in, facts_in, setting_in, ReferenceIn}
use Rattle.krates_rules.proofs.Elements.{contains_read}
use Rattle.krates_rules.proofs.Seen.{seen_more, each_seen}
use Rattle.krates_rules.specs.Resolved.{id_of}
use Rattle.krates_checkers.proofs.closed.are_references_in.Goals as goal

pub loop-value-preserved : goal.loop-value-preserved
loop-value-preserved c =
    let P = λ (x : String Global). ReferenceIn (document_in c.args.check.now) (setting_in c.args.check.now) (facts_in c.args.check.now) (id_of c.args.krate.now) (text_view x) in
    let told = subst (λ (t : Text). ReferenceIn (document_in c.args.check.now) (setting_in c.args.check.now) (facts_in c.args.check.now) (id_of c.args.krate.now) t) c.as_str.ensures.value (c.in_ok-is_reference_in.ensures.0 c.if-not-branch.false) in
    seen_more P c.args.values.now c.loop-value.value-index c.value-item.result c.loop-value-test.true c.value-item.is c.loop-value.invariant told

pub returns-then-not-branch : goal.returns-then-not-branch
returns-then-not-branch c = (
  λ t. absurd cc,
  λ all. absurd (
      let among = contains_read text_view c.args.values.now c.loop-value.value-index c.value-item.result c.loop-value-test.true c.value-item.is in
      let told = subst (λ (t : Text). ReferenceIn (document_in c.args.check.now) (setting_in c.args.check.now) (facts_in c.args.check.now) (id_of c.args.krate.now) t) (sym c.as_str.ensures.value) (all (text_view c.value-item.result) among) in
      cc (c.in_ok-is_reference_in.ensures.1 told, c.if-not-branch.true)),
)

pub returns : goal.returns
returns c = (
  λ t text among. each_seen text_view (λ (t : Text). ReferenceIn (document_in c.args.check.now) (setting_in c.args.check.now) (facts_in c.args.check.now) (id_of c.args.krate.now) t) c.args.values.now c.args.values.now c.loop-value.value-index refl c.loop-value-test.false c.loop-value.invariant text among,
  λ all. refl,
)
