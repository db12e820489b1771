-- The builds from which answers are made.
use Rattle.std.specs.Prelude.{List, [], ◌∷◌}
use Rattle.krates.specs.Build.{DropsCrate}
use Rattle.krates_answers.specs.Builds.{IsGraphUnder}
use Rattle.krates_answers.specs.declared.three_graphs.ThreeGraphs.{ThreeGraphs}
use Rattle.krates_cm.specs.Document.{MetadataModel, metadata_view}
use Rattle.krates_cm.specs.declared.metadata.Metadata.{Metadata}
use Rattle.krates_cm.specs.declared.package.Package.{Package}
use Rattle.krates_drawing.specs.Listed.{AreThosePackages}
use Rattle.krates_drawing.specs.declared.edge.Edge.{Edge}
use Rattle.krates_ids.specs.Identity.{Identity}
use Rattle.krates_queries.specs.Kept.{KeptCrates}
use Rattle.krates_rules.specs.Setting.{SettingModel}
use Rattle.krates_rules.specs.declared.kind.DepKind.{DepKind}
use Rattle.krates_rules.specs.declared.kind.DepKind.TheVariants.{Build, Dev}
use Rattle.krates_words.specs.Choice.{IsSettingOf}
use Rattle.krates_words.specs.declared.choice.Choice.{Choice}

-- The graph is built of the document under the setting that the choice means, with these kinds ignored too.
pub record IsBuildOf (m : MetadataModel) (c : Choice) (also_ignored : List DepKind) (k : KeptCrates Package Edge) : Type 0 where
  pub setting : SettingModel
  pub chosen : IsSettingOf c also_ignored setting
  pub graph : IsGraphUnder m setting k

-- The graph is built of the document under the setting that the choice means, and these are the packages of the document that it
-- doesn't keep, in the order of their ids.
pub record IsDivisionOf (m : Metadata) (c : Choice) (k : KeptCrates Package Edge) (others : List Package) : Type 0 where
  pub setting : SettingModel
  pub chosen : IsSettingOf c [] setting
  pub graph : IsGraphUnder (metadata_view m) setting k
  pub ids : List Identity
  pub not_kept : AreThosePackages m.packages.items (DropsCrate (metadata_view m) setting) ids others

-- the three builds that show what crates are used for
pub record AreBuildsOf (m : MetadataModel) (c : Choice) (b : ThreeGraphs) : Type 0 where
  pub all : IsBuildOf m c [] b.all
  pub without_dev : IsBuildOf m c (Dev ∷ []) b.without_dev
  pub shipped : IsBuildOf m c (Dev ∷ Build ∷ []) b.shipped
