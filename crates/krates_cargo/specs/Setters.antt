-- What the setters change.
use Rattle.std.specs.Prelude.{◌≡◌, true, List, ◌++◌, Result, ⊤}
use Rattle.std.specs.BTreeMap.{insert_entry}
use Rattle.std.specs.Borrow.{RestsIfErr, MutBor, Fml}
use Rattle.std.specs.Cmp.Lexicographic.{slice_cmp}
use Rattle.std.specs.Ordering.{nat_cmp}
use Rattle.krates_cm.specs.Document.{Text, texts_view}
use Rattle.krates_cm.specs.declared.error.Error.{Error}
use Rattle.krates_cm.specs.declared.error.Error.TheVariants as errors
use Rattle.krates_cargo.specs.Command.{CommandModel}
use Rattle.krates_cargo.specs.CargoOptions.{CargoOptionsModel}
use Rattle.krates_cargo.specs.declared.command.Features.{Features}
use Rattle.krates_cargo.specs.declared.command.Features.TheVariants.{All, NoDefault, Selected}
use Rattle.krates_cargo.specs.contracts.command.MetadataCommand as command
use Rattle.krates_cargo.specs.contracts.cargo_options.Cmd as options

-- the command with these features chosen
abbrev pub choosing : CommandModel → Features → CommandModel
choosing c All = record c { all_features = true }
choosing c NoDefault = record c { no_default_features = true }
choosing c (Selected names) = record c { features = c.features ++ texts_view names }

-- they are chosen already, and can be chosen only once
abbrev pub IsChosen : CommandModel → Features → Type 0
IsChosen c All = c.all_features ≡ true
IsChosen c NoDefault = c.no_default_features ≡ true
IsChosen c (Selected names) = ⊥

-- only names take memory
abbrev pub TakesMemory : Features → Type 0
TakesMemory (Selected names) = ⊤
TakesMemory _ = ⊥

-- why features aren't chosen
abbrev pub IsNotChosen : CommandModel → Features → Error → Type 0
IsNotChosen c features errors.FeaturesTwice = IsChosen c features
IsNotChosen c features errors.Memory = TakesMemory features
IsNotChosen c features _ = ⊥

-- the variables with this one set: a name that is there takes the value, another goes to its place in the order
abbrev pub with_variable : CommandModel → Text → Text → CommandModel
with_variable c name value = record c { variables = insert_entry (slice_cmp nat_cmp) c.variables name value }

-- more features, and more options, in addition to those that are set
abbrev pub with_features : CargoOptionsModel → List Text → CargoOptionsModel
with_features o names = record o { features = o.features ++ names }

abbrev pub with_options : CargoOptionsModel → List Text → CargoOptionsModel
with_options o options = record o { other_options = o.other_options ++ options }

-- ---- after a refusal nothing has changed

abbrev pub RestsCommand : {E : Type 0} → MutBor CommandModel → Result (MutBor CommandModel) E → Fml
RestsCommand c r = RestsIfErr command.the_row c (λ b. b.ghost_name) r (λ new. new ≡ c.now)

abbrev pub RestsOptions : {E : Type 0} → MutBor CargoOptionsModel → Result (MutBor CargoOptionsModel) E → Fml
RestsOptions c r = RestsIfErr options.the_row c (λ b. b.ghost_name) r (λ new. new ≡ c.now)
