use Rattle.std.proofs.Common.{◌≡◌, ◌∙◌, ◌↔◌, List, IsTrue, Some, None, map, subst, sym}
use Rattle.krates_answers.specs.Compared.{HasSame}
use Rattle.krates_answers.proofs.ComparedLemmas.{among_found, none_found}
use Rattle.krates_answers.proofs.HeldPairs.{value_under}
use Rattle.krates_answers.proofs.compared.has_same.Goals as goal

pub returns-in-Some : goal.returns-in-Some
returns-in-Some g c parts held =
    let a = c.args in
    let P = g.T.Part in
    let told = subst (λ (xs : List _). IsTrue c.is_among.result ↔ HasSame P.MeansSame a.root.now a.part.now a.other_root.now (map (λ x. x.now) xs)) c.deref.ensures.value c.is_among.ensures in
    among_found P.named parts a.others.now held P.MeansSame g.met.T.Part.one_name a.root.now a.other_root.now a.part.now c.in-Some.named.now c.is_among.result (rw c.name.ensures at c.in-Some.ensures.value) told

pub returns-in-None : goal.returns-in-None
returns-in-None g c parts held = (
  λ t. absurd cc,
  λ h. absurd (none_found g.T.Part.named parts c.args.others.now held g.T.Part.MeansSame g.met.T.Part.one_name c.args.root.now c.args.other_root.now c.args.part.now (rw c.name.ensures at c.in-None.ensures.value) h),
)
