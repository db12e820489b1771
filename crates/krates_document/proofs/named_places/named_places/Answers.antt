use Rattle.std.proofs.Common.{ap, ◌∙◌, refl, arith}
use Rattle.krates_document.specs.FoldedNames.{folded}
use Rattle.krates_cm.specs.Document.{Text}
use Rattle.krates_document.proofs.NamedPlaces.{all_stand, stand_more}
use Rattle.krates_document.proofs.named_places.named_places.Goals as goal

pub loop-place-init : goal.loop-place-init
loop-place-init g c = λ k x lt at. absurd (omega (arith, lt))

pub loop-place-preserved : goal.loop-place-preserved
loop-place-preserved g c =
    let l = c.loop-place in
    let name = g.T.HasName.name in
    let target = g.T.HasName.target in
    let x = c.index-items-place.result in
    let key = ap (λ (t : Text). (folded t, c.known_target.result.now)) c.known_name.ensures ∙ ap (λ (t : Text). (folded (name x), t)) c.known_target.ensures in
    rw c.in_ok-push.ensures.items (stand_more name target c.args.items.now l.places.items l.place x _ c.loop-place-test.true c.index-items-place.is key refl l.invariant)

pub returns : goal.returns
returns g c =
    let l = c.loop-place in
    all_stand g.T.HasName.name g.T.HasName.target c.args.items.now l.places.items c.sort.new.self.items l.place c.loop-place-test.false c.sort.ensures.permutation c.in_ok-sort.ensures.sorted l.invariant
