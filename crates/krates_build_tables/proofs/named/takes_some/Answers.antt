use Rattle.std.proofs.Common.{◌↔◌, Bool, IsTrue, sym, subst}
use Rattle.krates_units.specs.Answered.{TakesSome}
use Rattle.krates_build_tables.specs.References.{reference_view}
use Rattle.krates_build_tables.specs.RequestsFlags.{flagged}
use Rattle.krates_build_tables.specs.Unanswered.{model_taking, setting_taking}
use Rattle.krates_build_tables.proofs.TakingCrates.{some_told}
use Rattle.krates_build_tables.proofs.named.takes_some.Goals as goal

pub returns : goal.returns
returns c =
    let t = c.args.taking.now in
    let r = model_taking t in
    let s = setting_taking t in
    let v = reference_view c.args.given.now in
    let i = flagged c.args.krate.now in
    subst (λ (b : Bool). IsTrue b ↔ TakesSome r s v i) (sym c.is_some.ensures) (some_told r s i v c.taken_by.result c.taken_by.ensures)
