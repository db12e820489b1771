use Rattle.std.proofs.Common.{List, subst}
use Rattle.std.proofs.lemmas.Result.{IfOk-weaker}
use Rattle.krates_cm.specs.declared.package.Package.{Package}
use Rattle.krates.specs.Indexed.{HasNames}
use Rattle.krates.proofs.SeenLemmas.{answered, unindexed}
use Rattle.krates.proofs.builder.seen_through.Goals as goal

pub returns-in_default : goal.returns-in_default
returns-in_default g c = record { seen = unindexed _ c.args.index c.args.metadata c.in_default.is }

pub returns : goal.returns
returns g c =
    let names = c.in_ok-names.names in
    let has = subst (λ (packages : List Package). HasNames packages names) c.deref.ensures.value c.in_ok-names.ensures in
    record {
      seen = IfOk-weaker c.corrected.result _ _ (λ seen h. answered _ c.args.index c.in-Some.field-0 c.args.metadata seen names c.new.result.answer c.in-Some.is has c.new.ensures h) c.corrected.ensures;
    }
