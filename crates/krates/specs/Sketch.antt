-- What is sketched of a document under a setting, before it is drawn and divided.
use Rattle.std.specs.Prelude.{◌≡◌}
use Rattle.krates_cm.specs.Document.{MetadataModel}
use Rattle.krates_drawing.specs.Views.{kids_in, outline_view}
use Rattle.krates_drawing.specs.WorkOfOutline.{work_of}
use Rattle.krates_queries.specs.Drawn.{IsOutlineFor}
use Rattle.krates_queries.specs.Why.{AreStepsFor}
use Rattle.krates_rules.specs.Setting.{SettingModel}
use Rattle.krates.specs.declared.drawn.Sketch.{Sketch}

-- The outline of what is selected of the document, with the steps that explain it and the work that it was.
pub record IsSketchOf (m : MetadataModel) (s : SettingModel) (x : Sketch) : Type 0 where
  pub outline : IsOutlineFor m s (outline_view x.outline)
  pub steps : AreStepsFor m s (kids_in x.outline) x.steps.items
  pub work : x.work ≡ work_of (outline_view x.outline)
