-- The words that mean a choice.
use Rattle.std.specs.Prelude.{Bool, true, false, List, [], ◌∷◌, ◌++◌, String, Vec, codes, map, string_bytes}
use Rattle.std.specs.declared.alloc.Global.{Global}
use Rattle.krates_cm.specs.Document.{Text}
use Rattle.krates_ids.specs.PackageSpecification.{spec_view}
use Rattle.krates_ids.specs.SpecificationText.{spec_text}
use Rattle.krates_ids.specs.declared.pkgspec.PkgSpec.{PkgSpec}
use Rattle.krates_rules.specs.declared.kind.DepKind.{DepKind}
use Rattle.krates_rules.specs.declared.kind.DepKind.TheVariants as kinds
use Rattle.krates_text.specs.TargetTable.{printed, target_of}
use Rattle.krates_text.specs.declared.target.Target.{Target}
use Rattle.krates_words.specs.declared.choice.Choice.{Choice}

-- how a kind is written
abbrev pub kind_name : DepKind → Text
kind_name kinds.Normal = codes "normal"
kind_name kinds.Build = codes "build"
kind_name kinds.Dev = codes "dev"

-- an option without a value is there where it is set
abbrev pub flag_words : Text → Bool → List Text
flag_words option true = option ∷ []
flag_words option false = []

-- each other option is there with a value

abbrev pub package_word : String Global → Text
package_word path = codes "--package=" ++ string_bytes path

abbrev pub kind_word : DepKind → Text
kind_word kind = codes "--ignore-kind=" ++ kind_name kind

abbrev pub exclusion_word : PkgSpec → Text
exclusion_word spec = codes "--exclude=" ++ spec_text (spec_view spec)

-- a target is given by its triple
abbrev pub target_word : Target × Vec (String Global) Global → Text
target_word target = codes "--target=" ++ printed (target_of target.0)

-- all of them, in this order
abbrev pub words_of : Choice → List Text
words_of c =
    flag_words (codes "--workspace") c.workspace
    ++ (flag_words (codes "--all-named") c.all_named
    ++ (map package_word c.packages.items
    ++ (map kind_word c.ignored.items
    ++ (map exclusion_word c.exclusions.items
    ++ map target_word c.targets.items))))
