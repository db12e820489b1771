use Rattle.krates_derive.proofs.closing.ClosureCheck.is_named_in.Goals as goal

pub returns-then-not-lists : goal.returns-then-not-lists
returns-then-not-lists c = (λ t. absurd cc, λ h. absurd (h.listed (λ l. absurd (cc (c.lists.ensures.1 l, c.if-not-lists.true)))))

pub returns : goal.returns
returns c =
    let here = c.lists.ensures.0 c.if-not-lists.false in
    (λ t. record { enabled = λ l. c.has_feature.ensures.0 t; listed = λ lacks. lacks here }, λ h. c.has_feature.ensures.1 (h.enabled here))
