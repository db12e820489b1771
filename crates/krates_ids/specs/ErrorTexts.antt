-- The text that is printed for a refusal of a build.
use Rattle.std.specs.Prelude.{◌++◌, Option, Some, codes}
use Rattle.krates_cm.specs.Document.{Text, text_view}
use Rattle.krates_cm.specs.contracts.error.ErrorDisplay.TheImpl.{ghosts as cm_display}
use Rattle.krates_ids.specs.declared.error.Error.{Error}
use Rattle.krates_ids.specs.declared.error.Error.TheVariants as errors
use Rattle.krates_ids.specs.declared.error.Lost.{Lost}
use Rattle.krates_ids.specs.declared.error.Lost.TheVariants as losts

-- for what a document lacks
abbrev pub lost_text : Lost → Text
lost_text (losts.Package id) = codes "lost package: " ++ id.text
lost_text (losts.Node id) = codes "lost node: " ++ id.text
lost_text (losts.Feature krate name) = codes "lost feature: " ++ (text_view name ++ (codes " of " ++ krate.text))
lost_text (losts.Undeclared krate dep) = codes "undeclared dependency: " ++ (dep.text ++ (codes " of " ++ krate.text))

-- for a refusal; where there is no document it is what the cause prints, if its crate states that
abbrev pub error_text : Error → Option Text
error_text errors.NoResolveGraph = Some (codes "no resolution graph was provided")
error_text (errors.Metadata cause) = cm_display.output cause
error_text (errors.InvalidPkgSpec what) = Some (codes "package spec was invalid: " ++ what.now)
error_text errors.NoRootKrates = Some (codes "no root crates available")
error_text (errors.InvalidId id) = Some (codes "invalid package id: " ++ text_view id)
error_text (errors.Doubled id) = Some (codes "doubled id: " ++ id.text)
error_text (errors.Lost what) = Some (lost_text what)
error_text errors.TooMany = Some (codes "too many nodes or edges")
error_text errors.Memory = Some (codes "out of memory")
