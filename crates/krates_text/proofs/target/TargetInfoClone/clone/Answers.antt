use Rattle.krates_text.proofs.CopiedTexts.{described_alike, texts_copied}
use Rattle.krates_text.proofs.target.TargetInfoClone.clone.Goals as goal

pub returns : goal.returns
returns c =
    let info = c.args.self.now in
    let named = c.in_ok-named.ensures in
    let told = c.in_ok-told.ensures in
    let families = texts_copied info.families.items c.in_ok-families.families.items c.in_ok-families.ensures.cases.0 in
    let atomics = texts_copied info.atomics.items c.in_ok-atomics.atomics.items c.in_ok-atomics.ensures.cases.0 in
    record { cases = described_alike _ _ named.0 named.1 named.2 named.3 told.0 told.1 told.2 told.3 c.in_ok-panic.ensures.cases families atomics }
