use Rattle.std.proofs.Common.{◌∙◌, ◌==◌, ◌&&◌, Some, ap, sym}
use Rattle.std.proofs.lemmas.Bool.{ne_eqb}
use Rattle.std.specs.Option.{option_copied}
use Rattle.krates_drawing.proofs.LinkLines.{next_tells}
use Rattle.krates_drawing.proofs.Tests.{equal_self}
use Rattle.krates_drawing.proofs.drawing.joins_again.Goals as goal

pub returns-then-next-link : goal.returns-then-next-link
returns-then-next-link c =
    let next = c.in-Some.next.now in
    let edge = c.args.link.now.edge in
    let same = ap (λ n. n == edge.parent) c.if-next-link.true ∙ equal_self edge.parent in
    sym (ap (λ b. b && (next.edge.child == edge.child)) same)
    ∙ next_tells c.args.link.now next c.args.later.now c.requires (ap option_copied (sym c.in-Some.is) ∙ c.first.ensures.value)

pub returns-else-next-link : goal.returns-else-next-link
returns-else-next-link c =
    let next = c.in-Some.next.now in
    let edge = c.args.link.now.edge in
    let other = ne_eqb next.edge.parent edge.parent c.if-next-link.false in
    other ∙ sym (ap (λ b. b && (next.edge.child == edge.child)) other)
    ∙ next_tells c.args.link.now next c.args.later.now c.requires (ap option_copied (sym c.in-Some.is) ∙ c.first.ensures.value)
