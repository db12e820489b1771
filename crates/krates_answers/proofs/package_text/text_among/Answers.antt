use Rattle.std.proofs.Common.{Bor, Global, map, string_bytes}
use Rattle.krates_cm.specs.declared.package.Package.{Package}
use Rattle.krates_answers.proofs.PackageTextLemmas.{told_by_id, told_by_name}
use Rattle.krates_answers.proofs.package_text.text_among.Goals as goal

pub returns-then-namesakes-gt1 : goal.returns-then-namesakes-gt1
returns-then-namesakes-gt1 c = told_by_id (string_bytes {Z = Global}) c.clone.result _ (map (λ (pkg : Bor Package). pkg.now) c.args.packages.now) c.args.pkg.now c.namesakes.result
    c.namesakes.ensures c.if-namesakes-gt1.true c.clone.ensures.cases

pub returns-else-namesakes-gt1 : goal.returns-else-namesakes-gt1
returns-else-namesakes-gt1 c = told_by_name (string_bytes {Z = Global}) c.named.result (map (λ (pkg : Bor Package). pkg.now) c.args.packages.now) c.args.pkg.now c.namesakes.result
    c.namesakes.ensures c.if-namesakes-gt1.false c.named.ensures
