-- What a build of a document holds, and three builds of one document: under a setting, and under the same one with more kinds of
-- dependencies ignored.
use Rattle.std.specs.List.{AllZip}
use Rattle.std.specs.Prelude.{◌≡◌, ◌↔◌, ◌⊎◌, true, Bool, List, [], ◌∷◌, Contains, map}
use Rattle.krates.specs.Build.{AreKeptMembers, DependentsAgree, KeepsCrate}
use Rattle.krates_cm.specs.Document.{MetadataModel, Text, id_view, package_view}
use Rattle.krates_cm.specs.declared.package.Package.{Package}
use Rattle.krates_drawing.specs.declared.edge.Edge.{Edge}
use Rattle.krates_ids.specs.Identity.{Identity, Reads}
use Rattle.krates_queries.specs.Drawn.{IsDrawn}
use Rattle.krates_queries.specs.Kept.{HasEnabled, KeptCrates, ids_of, values_of}
use Rattle.krates_queries.specs.Why.{IsExplainedBy, steps_of}
use Rattle.krates_rules.specs.Facts.{Feature, Id}
use Rattle.krates_rules.specs.Kind.{ignores}
use Rattle.krates_rules.specs.Resolution.{IsDerived}
use Rattle.krates_rules.specs.Resolved.{id_of}
use Rattle.krates_rules.specs.Setting.{SettingModel}
use Rattle.krates_rules.specs.declared.kind.DepKind.{DepKind}
use Rattle.krates_rules.specs.declared.kind.DepKind.TheVariants.{Build, Dev}
use Rattle.krates_answers.specs.declared.three_graphs.ThreeGraphs.{ThreeGraphs}

-- ---- one build

-- a package of the document with this id
pub record IsPackageWithId (m : MetadataModel) (pkg : Package) (id : Identity) : Type 0 where
  pub among : Contains m.packages (package_view pkg)
  pub reads : Reads (id_view pkg.id) id

-- The graph is built of the document under the setting.
pub record IsGraphUnder (m : MetadataModel) (s : SettingModel) (k : KeptCrates Package Edge) : Type 0 where
  pub kept : (i : Id) → KeepsCrate m s i ↔ Contains (map id_of (ids_of k)) i  -- and no other crates
  pub packages : AllZip (IsPackageWithId m) (values_of k) (ids_of k)
  pub enabled : (i : Id) (f : Text) → IsDerived m s (Feature i f) ↔ HasEnabled k i f
  pub drawn : IsDrawn (λ edge held. held ≡ edge) m s k.graph  -- number by number
  pub agree : DependentsAgree m s k.graph  -- direct dependencies and direct dependents
  pub members : AreKeptMembers m (ids_of k) k.members
  pub root : k.workspace_root ≡ m.workspace_root
  pub explained : IsExplainedBy m s (steps_of k)  -- by the kept steps

-- ---- three

-- Under the narrower setting dependencies of these kinds are ignored too, whichever crate has them, and all else is set as it was.
pub record AlsoIgnores (s : SettingModel) (kinds : List DepKind) (narrower : SettingModel) : Type 0 where
  pub exactly : (kind : DepKind) (is_member : Bool)
      → (ignores narrower.ignored kind is_member ≡ true) ↔ ((ignores s.ignored kind is_member ≡ true) ⊎ Contains kinds kind)
  pub rest : narrower ≡ record s { ignored = narrower.ignored }

-- The graph is built of the document under the setting with dependencies of these kinds ignored too.
pub record IsGraphWithout (m : MetadataModel) (s : SettingModel) (kinds : List DepKind) (k : KeptCrates Package Edge) : Type 0 where
  pub narrower : SettingModel
  pub ignored : AlsoIgnores s kinds narrower
  pub graph : IsGraphUnder m narrower k

-- They are built of one document under one setting, by what is ignored in each.
pub record AreOfOneDocument (b : ThreeGraphs) : Type 0 where
  pub document : MetadataModel
  pub setting : SettingModel
  pub all : IsGraphUnder document setting b.all
  pub without_dev : IsGraphWithout document setting (Dev ∷ []) b.without_dev
  pub shipped : IsGraphWithout document setting (Dev ∷ Build ∷ []) b.shipped
