use Rattle.std.proofs.Common.{List, true, refl, sym, map, subst}
use Rattle.krates_derive.specs.Giving.{document_in, facts_in, setting_in, EdgesIn}
use Rattle.krates_questions.specs.ReferentPlace.{referent_id}
use Rattle.krates_questions.specs.declared.referent.Referent.{Referent}
use Rattle.krates_rules.specs.Facts.{Id}
use Rattle.krates_rules.specs.Referent.{AreReferents}
use Rattle.krates_rules.specs.Resolved.{id_of}
use Rattle.krates_rules.proofs.Elements.{contains_read}
use Rattle.krates_rules.proofs.Seen.{seen_more, each_seen}
use Rattle.krates_derive.proofs.closing.ClosureCheck.are_edges_to_in.Goals as goal

pub loop-referent-preserved : goal.loop-referent-preserved
loop-referent-preserved c =
    let P = λ (x : Referent). EdgesIn (document_in c.args.self.now) (setting_in c.args.self.now) (facts_in c.args.self.now) (id_of c.args.krate.now) (referent_id x) true in
    seen_more P c.deref-referent-items.result.now c.loop-referent.referent-index c.referent-item.result c.loop-referent-test.true c.referent-item.is c.loop-referent.invariant (c.in_ok-are_edges_in.ensures.0 c.if-not-branch.false)

pub returns-then-not-branch : goal.returns-then-not-branch
returns-then-not-branch c =
    let xs = c.deref-referent-items.result.now in
    let x = c.referent-item.result in
    let are = subst (λ (ys : List Referent). AreReferents (document_in c.args.self.now) (setting_in c.args.self.now).all_named (id_of c.args.krate.now) c.args.dep.now (map referent_id ys)) (sym c.deref-referent-items.ensures.value) c.in_ok-referents.ensures in
    let meant = (are.exactly (referent_id x)).0 (contains_read referent_id xs c.loop-referent.referent-index x c.loop-referent-test.true c.referent-item.is) in
    (λ t. absurd cc, λ all. absurd (cc (c.in_ok-are_edges_in.ensures.1 (all (referent_id x) meant), c.if-not-branch.true)))

pub returns : goal.returns
returns c =
    let xs = c.deref-referent-items.result.now in
    let are = subst (λ (ys : List Referent). AreReferents (document_in c.args.self.now) (setting_in c.args.self.now).all_named (id_of c.args.krate.now) c.args.dep.now (map referent_id ys)) (sym c.deref-referent-items.ensures.value) c.in_ok-referents.ensures in
    (λ t x is. each_seen referent_id (λ (i : Id). EdgesIn (document_in c.args.self.now) (setting_in c.args.self.now) (facts_in c.args.self.now) (id_of c.args.krate.now) i true) xs xs c.loop-referent.referent-index refl c.loop-referent-test.false c.loop-referent.invariant x ((are.exactly x).1 is), λ all. refl)
