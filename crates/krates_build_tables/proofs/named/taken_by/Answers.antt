use Rattle.std.proofs.Common.{Option, subst}
use Rattle.krates_build_tables.specs.References.{reference_view}
use Rattle.krates_build_tables.specs.RequestsFlags.{TellsRoot, flagged}
use Rattle.krates_build_tables.specs.Unanswered.{model_taking, setting_taking}
use Rattle.krates_build_tables.specs.declared.roots.RootAs.{RootAs}
use Rattle.krates_build_tables.proofs.RootKinds.{root_told}
use Rattle.krates_build_tables.proofs.TakingCrates.{none_taken, taken_told}
use Rattle.krates_build_tables.proofs.named.taken_by.Goals as goal

pub returns-in-Some : goal.returns-in-Some
returns-in-Some c =
    let t = c.args.taking.now in
    let r = model_taking t in
    let s = setting_taking t in
    let x = c.args.krate.now in
    let told = root_told r s t.alike t.none_selected x c.root_as.result c.requires.taking.alike c.requires.taking.none_selected c.requires.krate c.root_as.ensures in
    let root = subst (λ (o : Option RootAs). TellsRoot r s (flagged x) o) c.in-Some.is told in
    taken_told r s (flagged x) c.in-Some.kind (reference_view c.args.given.now) c.taken.result root (c.taken.ensures s c.requires.taking.flags)

pub returns-in-None : goal.returns-in-None
returns-in-None c =
    let t = c.args.taking.now in
    let r = model_taking t in
    let s = setting_taking t in
    let x = c.args.krate.now in
    let told = root_told r s t.alike t.none_selected x c.root_as.result c.requires.taking.alike c.requires.taking.none_selected c.requires.krate c.root_as.ensures in
    none_taken r s (flagged x) (reference_view c.args.given.now) (subst (λ (o : Option RootAs). TellsRoot r s (flagged x) o) c.in-None.is told)
