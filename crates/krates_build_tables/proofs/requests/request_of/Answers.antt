use Rattle.std.proofs.Common.{Option, Some, None, subst}
use Rattle.krates_build_tables.specs.RequestsFlags.{TellsRoot, flagged}
use Rattle.krates_build_tables.specs.Requests.{model_asked, setting_asked}
use Rattle.krates_build_tables.specs.declared.roots.RootAs.{RootAs}
use Rattle.krates_build_tables.proofs.Requested.{is_root_told, requested_told, requested_none}
use Rattle.krates_build_tables.proofs.RootKinds.{root_told}
use Rattle.krates_build_tables.proofs.requests.request_of.Goals as goal

pub returns-in_ok-requested_of-in-Some : goal.returns-in_ok-requested_of-in-Some
returns-in_ok-requested_of-in-Some c =
    let a = c.args.asking.now in
    let r = model_asked a in
    let s = setting_asked a in
    let x = c.args.krate.now in
    let i = flagged x in
    let told = root_told r s a.alike a.none_selected x c.root_as.result c.requires.asking.alike c.requires.asking.none_selected c.requires.krate c.root_as.ensures in
    let tells = subst (λ (o : Option RootAs). TellsRoot r s i o) c.in-Some.is told in
    let list = c.in_ok-requested_of-in-Some.ensures in
    record {
      root = is_root_told r s i (Some c.in-Some.kind) tells;
      selected = c.requires.krate.selected;
      requested = λ v.
          let asked = requested_told r s i c.in-Some.kind tells v in
          (λ h. (list v).0 (asked.0 h), λ h. asked.1 ((list v).1 h));
    }

pub returns-in-None : goal.returns-in-None
returns-in-None c =
    let a = c.args.asking.now in
    let r = model_asked a in
    let s = setting_asked a in
    let x = c.args.krate.now in
    let i = flagged x in
    let told = root_told r s a.alike a.none_selected x c.root_as.result c.requires.asking.alike c.requires.asking.none_selected c.requires.krate c.root_as.ensures in
    let tells = subst (λ (o : Option RootAs). TellsRoot r s i o) c.in-None.is told in
    record {
      root = is_root_told r s i None tells;
      selected = c.requires.krate.selected;
      requested = rw c.new.ensures.items (requested_none r s i tells);
    }
