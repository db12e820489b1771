-- The text that is printed for an edge.
use Rattle.std.specs.Prelude.{◌++◌, [], Option, Some, None, codes}
use Rattle.krates_cm.specs.Document.{Text}
use Rattle.krates_rules.specs.declared.kind.DepKind.{DepKind}
use Rattle.krates_rules.specs.declared.kind.DepKind.TheVariants as kinds
use Rattle.krates_drawing.specs.Drawing.{EdgeModel, Dep, Feature, DepFeature}

-- the kind in brackets, and nothing for the normal one
abbrev pub purpose_text : DepKind → Text
purpose_text kinds.Normal = []
purpose_text kinds.Build = codes "(build)"
purpose_text kinds.Dev = codes "(dev)"

-- a blank and the target in quotes, if the edge is for one
abbrev pub target_text : Option Text → Text
target_text None = []
target_text (Some cfg) = codes " '" ++ cfg ++ codes "'"

-- kind and target, and nothing where a feature leads somewhere
abbrev pub edge_text : EdgeModel → Text
edge_text (Dep kind cfg) = purpose_text kind ++ target_text cfg
edge_text (DepFeature kind cfg) = purpose_text kind ++ target_text cfg
edge_text Feature = []
