-- What is printed of facts, of steps, and of derivations, one step per line.
use Rattle.std.specs.Prelude.{ℕ, ◌+◌, List, [], ◌∷◌, ◌++◌, Option, Some, None, codes, option_map}
use Rattle.std.specs.Fmt.{decimal}
use Rattle.krates_cm.specs.Document.{Text, text_view}
use Rattle.krates_rules.specs.declared.derivation.Fact.{Fact}
use Rattle.krates_rules.specs.declared.derivation.Fact.TheVariants as facts
use Rattle.krates_rules.specs.declared.derivation.Step.{Step}
use Rattle.krates_rules.specs.declared.kind.DepKind.{DepKind}
use Rattle.krates_rules.specs.declared.kind.DepKind.TheVariants as kinds

-- a kind that isn't the normal one
abbrev pub kind_suffix : DepKind → Text
kind_suffix kinds.Normal = []
kind_suffix kinds.Build = codes " (build)"
kind_suffix kinds.Dev = codes " (dev)"

-- the target, where there is one
abbrev pub cfg_suffix : Option Text → Text
cfg_suffix None = []
cfg_suffix (Some cfg) = codes " '" ++ (cfg ++ codes "'")

-- a fact; its ids are shown by their texts, and for a toggled feature its crate comes first
abbrev pub fact_text : Fact → Text
fact_text (facts.Crate krate) = codes "crate " ++ krate.text
fact_text (facts.Feature krate name) = codes "feature " ++ (text_view name ++ (codes " of " ++ krate.text))
fact_text (facts.Kept parent child kind cfg) =
    codes "kept " ++ (parent.text ++ (codes " -> " ++ (child.text ++ (kind_suffix kind ++ cfg_suffix (option_map text_view cfg)))))
fact_text (facts.Toggled parent child name) =
    codes "toggled " ++ (text_view name ++ (codes " of " ++ (child.text ++ (codes " by " ++ parent.text))))

-- further numbers, each after a comma
abbrev pub further_uses : List ℕ → Text
further_uses [] = []
further_uses (used ∷ uses) = codes ", " ++ (decimal used ++ further_uses uses)

-- the numbers of the steps that are used, where there are any
abbrev pub uses_text : List ℕ → Text
uses_text [] = []
uses_text (used ∷ uses) = codes " from " ++ (decimal used ++ further_uses uses)

-- a step; its number is shown only in its derivation
abbrev pub step_text : Step → Text
step_text x = codes "rule " ++ (decimal x.rule ++ (codes ": " ++ (fact_text x.fact ++ uses_text x.uses.items)))

-- the line of the step with this number
abbrev pub step_line : ℕ → Step → Text
step_line number x = decimal number ++ (codes " " ++ (step_text x ++ 10 ∷ []))

-- those of steps that are numbered from here on
abbrev pub lines_from : ℕ → List Step → Text
lines_from number [] = []
lines_from number (x ∷ steps) = step_line number x ++ lines_from (number + 1) steps

-- those of a derivation
abbrev pub derivation_lines : List Step → Text
derivation_lines steps = lines_from 0 steps
