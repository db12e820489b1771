-- A refusal that is true of the tables is true of the document, and where there is none the build is whole.
use Rattle.std.proofs.Common.{ℕ, List, refl, sym, subst}
use Rattle.krates_cm.specs.Document.{DependencyModel, PackageModel, dependency_view}
use Rattle.krates_rules.specs.Facts.{Id}
use Rattle.krates_rules.specs.Resolved.{Resolved}
use Rattle.krates_units.specs.Answered.{IsAnswered}
use Rattle.krates_units.specs.BuildFacts as means
use Rattle.krates_units.specs.BuildSetting.{BuildSettingModel}
use Rattle.krates_units.specs.Built.{IsComplete}
use Rattle.krates_units.specs.Machines.{MachineModel}
use Rattle.krates_units.specs.VisitOrder.{DependsOnOrder}
use Rattle.krates_build_tables.specs.TablesOf.{AreTables}
use Rattle.krates_build_tables.specs.declared.tables.Tables.{Tables}
use Rattle.krates_build_facts.specs.FactModels.{FactModel}
use Rattle.krates_build_facts.specs.Meanings.{EachHasMeaning, EachHasNumber, Follows, FollowsAsDerivable}
use Rattle.krates_build_facts.proofs.FactNumbers.{of_number}
use Rattle.krates_build_facts.proofs.TableEntries.{lacking_here}
use Rattle.krates_built.specs.BuildLists.{lost_fact}
use Rattle.krates_built.specs.OrderAt.{DependsAt}
use Rattle.krates_built.specs.Refusals.{IsFirstLost, IsLostOf, IsRefusal, IsRefusalAt, LosesNothing, TellsLost}
use Rattle.krates_built.specs.declared.not_built.NotBuilt.{NotBuilt}
use Rattle.krates_built.specs.declared.not_built.NotBuilt.TheVariants as refusals
use Rattle.krates_built.specs.declared.places.LostPlace.{LostPlace}
use Rattle.krates_built.proofs.OrderMeanings.{depends_at, depends_on, number_of}

-- what is lost is of a package
pub lost_of : EachHasMeaning → (r : Resolved) (s : BuildSettingModel) (ids : List Id) (ms : List MachineModel) (t : Tables) → AreTables r s ids ms t
    → (place : LostPlace) → Follows t (lost_fact place) → (pkg : PackageModel) × (d : DependencyModel) × IsLostOf r ids t place pkg d
lost_of sound r s ids ms t tables place follows =
    let w = sound r s ids ms t tables (lost_fact place) follows in
    let m = w.1 in
    let here = lacking_here r s ids ms t tables place.krate place.index m.0 m.1 m.2 in
    let each = here.crate.says.lacking.each place.index here.lacking here.at in
    (each.1.declared.pkg, m.1, record { id = m.0; at = m.2; has_package = each.1.declared.has_package })

-- what names the first dependency that is lost is true
pub told_lost : (r : Resolved) (ids : List Id) (t : Tables) (place : LostPlace) (x : NotBuilt) → IsFirstLost t place → TellsLost r ids t place x
    → IsRefusalAt r ids t x
told_lost r ids t place (refusals.Lost pkg dep) first h = (place, first, h)
told_lost r ids t place (refusals.DependsOnOrder pkg) first h = absurd h
told_lost r ids t place (refusals.NamesNothing request) first h = absurd h
told_lost r ids t place refusals.Memory first h = absurd h

module _ (exact : FollowsAsDerivable) (complete : EachHasNumber) (r : Resolved) (s : BuildSettingModel) (ids : List Id) (ms : List MachineModel)
    (t : Tables) (tables : AreTables r s ids ms t) where
  -- where nothing is lost by number, nothing is lost
  pub complete_of : LosesNothing t → IsComplete r s
  complete_of none i d h =
      let w = complete r s ids ms t tables (means.Lost i d) h in
      of_number r s ids ms t (λ (n : FactModel). Follows t n → ⊥) (means.Lost i d) (λ c k is follows. none (record { krate = c; index = k }) follows) w.0 w.1 w.2

  -- where no number depends on the order of visits, no crate does
  pub settled_of : ((c : ℕ) → ¬ DependsAt t c) → (i : Id) → ¬ DependsOnOrder r s i
  settled_of none i h =
      let c = number_of exact complete r s ids ms t tables i h in
      none c.0 (depends_at exact complete r s ids ms t tables c.0 i c.1 h)

  pub refused : IsAnswered r s → (x : NotBuilt) → IsRefusalAt r ids t x → IsRefusal r s ids x
  refused answered (refusals.NamesNothing request) h = absurd h
  refused answered (refusals.Lost pkg dep) (place, first, of_package) = record {
    answered = answered;
    tables = t;
    are = subst (λ (all : List MachineModel). AreTables r s ids all t) (sym tables.machines_told) tables;
    place = place;
    first = first;
    of_package = of_package;
    lost = (exact r s ids ms t tables (lost_fact place) (means.Lost of_package.id (dependency_view dep.now))
        (of_package.id, dependency_view dep.now, of_package.at, refl)).0 first.lost;
  }
  refused answered (refusals.DependsOnOrder pkg) (none, (krate, first, of_package)) = record {
    answered = answered;
    complete = complete_of none;
    number = krate;
    of_package = of_package;
    depends = depends_on exact complete r s ids ms t tables krate of_package.id of_package.at first.depends;
    first = λ other i lt at h. first.first other lt (depends_at exact complete r s ids ms t tables other i at h);
  }
  refused answered refusals.Memory h = absurd h
