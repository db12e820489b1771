-- What is printed of a verdict.
use Rattle.std.specs.Prelude.{ℕ, [], ◌∷◌, ◌++◌, ◌==◌, String, codes, if◌then◌else◌, option_map}
use Rattle.std.specs.Fmt.{decimal}
use Rattle.std.specs.declared.alloc.Global.{Global}
use Rattle.krates_cm.specs.Document.{Text, id_view, text_view}
use Rattle.krates_cm.specs.declared.package_id.PackageId.{PackageId}
use Rattle.krates_rules.specs.DerivationTexts.{cfg_suffix, kind_suffix}
use Rattle.krates_shown.specs.Shown.{shown_text}
use Rattle.krates_verdict.specs.declared.named_fact.NamedFact.{NamedFact}
use Rattle.krates_verdict.specs.declared.named_fact.NamedFact.TheVariants as named
use Rattle.krates_verdict.specs.declared.verdict.Verdict.{Verdict}
use Rattle.krates_verdict.specs.declared.verdict.Verdict.TheVariants as verdicts

-- a number of steps
abbrev pub steps_text : ℕ → Text
steps_text steps = if steps == 1 then codes "1 step" else decimal steps ++ codes " steps"

-- a number of crates that are all that can be reached
abbrev pub closed_text : ℕ → Text
closed_text krates =
    if krates == 1 then codes "nothing but this 1 crate can be reached"
    else codes "nothing but these " ++ (decimal krates ++ codes " crates can be reached")

-- an id text as it is shown
abbrev pub shown_id : PackageId → Text
shown_id id = shown_text (id_view id)

-- a name or a target as it is shown
abbrev pub shown_name : String Global → Text
shown_name name = shown_text (text_view name)

-- a fact, its crates by their id texts; for a toggled feature its crate comes first
abbrev pub named_text : NamedFact → Text
named_text (named.Crate krate) = codes "crate " ++ shown_id krate
named_text (named.Feature krate name) = codes "feature " ++ (shown_name name ++ (codes " of " ++ shown_id krate))
named_text (named.Kept parent child kind cfg) =
    codes "kept " ++ (shown_id parent ++ (codes " -> " ++ (shown_id child ++ (kind_suffix kind ++ cfg_suffix (option_map shown_name cfg)))))
named_text (named.Toggled parent child name) =
    codes "toggled " ++ (shown_name name ++ (codes " of " ++ (shown_id child ++ (codes " by " ++ shown_id parent))))

-- a verdict
abbrev pub verdict_text : Verdict → Text
verdict_text (verdicts.Kept krate steps) = codes "holds: crate " ++ (shown_id krate ++ (codes " is kept, " ++ steps_text steps))
verdict_text (verdicts.Follows fact steps) = codes "holds: " ++ (named_text fact ++ (codes " follows, " ++ steps_text steps))
verdict_text (verdicts.Closed krates) = codes "holds: " ++ closed_text krates

-- its line
abbrev pub verdict_line : Verdict → Text
verdict_line verdict = verdict_text verdict ++ 10 ∷ []
