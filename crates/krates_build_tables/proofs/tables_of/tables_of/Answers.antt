use Rattle.std.proofs.Common.{◌↔◌, Bor, Contains, List, refl, sym, subst}
use Rattle.krates_units.specs.BuildSetting.{build_setting_view, machines}
use Rattle.krates_units.specs.Machines.{MachineModel}
use Rattle.krates_units.specs.declared.machine.Machine.{Machine}
use Rattle.krates_build_tables.specs.Judgements.{lent_machines}
use Rattle.krates_build_tables.proofs.CrateNumbers.{ids_once, package_at, root_at}
use Rattle.krates_build_tables.proofs.SideLemmas.{first_test}
use Rattle.krates_build_tables.proofs.tables_of.tables_of.Goals as goal

pub crates_of-requires-clause-machines : goal.crates_of-requires-clause-machines
crates_of-requires-clause-machines c =
    let s = build_setting_view c.args.setting.now in
    subst (λ (all : List (Bor Machine)). (m : MachineModel) → Contains (machines s.host s.targets) m ↔ Contains (lent_machines all) m) (sym c.deref.ensures.value) c.in_ok-distinct.ensures.same

pub crates_of-requires-clause-requests : goal.crates_of-requires-clause-requests
crates_of-requires-clause-requests c = rw c.deref-2.ensures.value c.in_ok-requests.ensures

pub returns : goal.returns
returns c =
    let s = build_setting_view c.args.setting.now in
    let d = c.args.document.now in
    let once = c.one_reading.ensures.once in
    record {
      first = first_test s.resolver c.is_later.result c.is_later.ensures;
      machines_are = c.in_ok-distinct.ensures.same;
      machines_once = c.in_ok-distinct.ensures.once;
      machines_in_order = c.in_ok-distinct.ensures.in_order;
      machines_told = refl;
      ids_once = ids_once d;
      packages = λ i p has. package_at once d c.agrees.ensures i p has;
      roots = λ i root. root_at once d c.agrees.ensures s i root;
      long = c.in_ok-crates.ensures.long;
      each = rw c.deref.ensures.value at c.in_ok-crates.ensures.each;
    }
