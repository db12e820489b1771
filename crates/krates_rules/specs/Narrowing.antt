-- Settings that leave out more, under which nothing new is selected.
use Rattle.std.specs.Prelude.{◌≡◌, ◌⊎◌, List, [], Contains}
use Rattle.krates_ids.specs.PackageSpecification.{Specification}
use Rattle.krates_ids.specs.declared.error.Error.{Error}
use Rattle.krates_ids.specs.declared.error.Error.TheVariants.{NoRootKrates, Memory}
use Rattle.krates_text.specs.Passing.{Asked}
use Rattle.krates_rules.specs.Derivation.{Derivable}
use Rattle.krates_rules.specs.Facts.{Cause, Fact, Lost}
use Rattle.krates_rules.specs.Kind.{IgnoresMore}
use Rattle.krates_rules.specs.Questions.{questions}
use Rattle.krates_rules.specs.Resolved.{Resolved}
use Rattle.krates_rules.specs.Rules.{Questions}
use Rattle.krates_rules.specs.SelectionRefusals.{SelectionRefusal}
use Rattle.krates_rules.specs.Setting.{SettingModel}
use Rattle.krates_rules.specs.declared.kind.DepKind.{DepKind}
use Rattle.krates_rules.specs.declared.kind.IgnoredKinds.{IgnoredKinds}
use Rattle.krates_rules.specs.declared.kind.Scope.{Scope}

-- the second setting is the first except for one step that leaves out more
pub data IsNarrower (wide : SettingModel) : SettingModel → Type 0 where
  -- more packages are excluded
  excludes_more : (exclusions : List Specification) → ((spec : Specification) → Contains wide.exclusions spec → Contains exclusions spec)
      → IsNarrower wide (record wide { exclusions = exclusions })
  -- one more kind is ignored, of members, of other crates, or of both
  ignores_more : (ignored : IgnoredKinds) (kind : DepKind) (scope : Scope) → IgnoresMore wide.ignored ignored kind scope
      → IsNarrower wide (record wide { ignored = ignored })
  -- targets are set, where none was
  asks_targets : (targets : List Asked) → wide.targets ≡ [] → IsNarrower wide (record wide { targets = targets })

-- nothing lost is derivable
abbrev pub LosesNothing : Questions → Type 0
LosesNothing q = (c : Cause) → Derivable q (Lost c) → ⊥

-- the narrower setting selects a part of what the wider one does
pub record SelectsPart (r : Resolved) (wide narrow : SettingModel) : Type 0 where
  -- each fact that is derivable under the narrower setting is derivable under the wider one, lost facts too
  pub facts : (f : Fact) → Derivable (questions r narrow) f → Derivable (questions r wide) f
  -- if nothing is lost under the wider setting, the narrower is refused only because no crate is left or because memory ran out
  pub refusals : LosesNothing (questions r wide) → (e : Error) → SelectionRefusal (questions r narrow) e
      → (e ≡ NoRootKrates) ⊎ (e ≡ Memory)

-- a narrower setting selects a part
abbrev pub IsNarrowing : Type 0
IsNarrowing = (r : Resolved) (wide narrow : SettingModel) → IsNarrower wide narrow → SelectsPart r wide narrow
