-- What cargo builds, of documents that differ in the order of their lists alone.
use Rattle.std.specs.Prelude.{◌↔◌}
use Rattle.krates_cm.specs.Document.{MetadataModel}
use Rattle.krates_rules.specs.Facts.{Id}
use Rattle.krates_rules.specs.Reordering.{Reorders}
use Rattle.krates_rules.specs.Resolved.{HasGraphWith, resolved}
use Rattle.krates_units.specs.Answered.{IsAnswered}
use Rattle.krates_units.specs.BuildFacts.{Fact}
use Rattle.krates_units.specs.BuildSetting.{BuildSettingModel}
use Rattle.krates_units.specs.Built.{IsDerivable}
use Rattle.krates_units.specs.VisitOrder.{DependsOnOrder}

-- the fact is derivable, by the document's graph
abbrev pub IsDerivedOf : MetadataModel → BuildSettingModel → Fact → Type 0
IsDerivedOf m s f = HasGraphWith m (λ g. IsDerivable (resolved m g) s f)

-- each part of the request names something of the document
abbrev pub IsAnsweredBy : MetadataModel → BuildSettingModel → Type 0
IsAnsweredBy m s = HasGraphWith m (λ g. IsAnswered (resolved m g) s)

-- what the crate's build script is compiled with depends on the order of cargo's visits
abbrev pub DependsOnVisits : MetadataModel → BuildSettingModel → Id → Type 0
DependsOnVisits m s i = HasGraphWith m (λ g. DependsOnOrder (resolved m g) s i)

-- what cargo builds of one document it builds of the other
pub record BuildAlike (m n : MetadataModel) : Type 0 where
  -- the same facts have derivations, those of lost dependencies included
  pub facts : (s : BuildSettingModel) (f : Fact) → IsDerivedOf m s f ↔ IsDerivedOf n s f
  -- the same requests name something
  pub answered : (s : BuildSettingModel) → IsAnsweredBy m s ↔ IsAnsweredBy n s
  -- cargo's answer depends on the order of its visits for the same crates
  pub visits : (s : BuildSettingModel) (i : Id) → DependsOnVisits m s i ↔ DependsOnVisits n s i

-- documents that differ in order alone build alike
abbrev pub IsBuildOrderFree : Type 0
IsBuildOrderFree = (m n : MetadataModel) → Reorders m n → BuildAlike m n
