-- How options are read from the front of words, and how kinds are set one by one. Cited by private functions alone.
use Rattle.std.specs.Prelude.{◌≡◌, ◌++◌, List, [], ◌∷◌, Some, true, ⊤}
use Rattle.krates_cm.specs.Document.{Text}
use Rattle.krates_rules.specs.declared.kind.DepKind.{DepKind}
use Rattle.krates_rules.specs.declared.kind.DepKind.TheVariants as kinds
use Rattle.krates_rules.specs.declared.kind.IgnoredKinds.{IgnoredKinds}
use Rattle.krates_rules.specs.declared.kind.KindSet.{KindSet}
use Rattle.krates_cli.specs.Options.{OptionsModel, Wish, every_member, every_namesake, without_kind, at_target, without_package, by_program, explaining, AsksWith, AsksFirst}
use Rattle.krates_cli.specs.declared.options.OptionsError.{OptionsError}
use Rattle.krates_cli.specs.declared.options.OptionsError.TheVariants as errors

-- what is asked where this wish comes last
abbrev pub and_wish : OptionsModel → Wish → OptionsModel
and_wish o every_member = record o { workspace = true }
and_wish o every_namesake = record o { all_named = true }
and_wish o (without_kind kind) = record o { ignored = o.ignored ++ kind ∷ [] }
and_wish o (at_target triple) = record o { targets = o.targets ++ triple ∷ [] }
and_wish o (without_package spec) = record o { exclusions = o.exclusions ++ spec ∷ [] }
and_wish o (by_program cargo) = record o { cargo = Some cargo }
and_wish o (explaining krate) = record o { explaining = Some krate }

-- the option and its value mean something, which is added
pub record AddsValue (option value : Text) (old new : OptionsModel) : Type 0 where
  pub wish : Wish
  pub asks : AsksWith option value wish
  pub added : new ≡ and_wish old wish

-- the words begin with an option, what it asks is added, and these words follow
pub record AddsFirst (words : List Text) (old new : OptionsModel) (rest : List Text) : Type 0 where
  pub wish : Wish
  pub asks : AsksFirst words wish rest
  pub added : new ≡ and_wish old wish

-- the option and this value mean nothing
abbrev pub IsNoValue : Text → Text → Type 0
IsNoValue option value = (wish : Wish) → AsksWith option value wish → ⊥

-- the words begin with no option
abbrev pub BeginsUnknown : List Text → Type 0
BeginsUnknown words = (wish : Wish) (rest : List Text) → AsksFirst words wish rest → ⊥

-- words aren't read: since this is true of them, or since memory ran out
abbrev pub IsUnread : Type 0 → OptionsError → Type 0
IsUnread P errors.Unknown = P
IsUnread P errors.Memory = ⊤

-- ---- kinds

-- the set with one more kind
abbrev pub with_kind : DepKind → KindSet → KindSet
with_kind kinds.Normal set = record set { normal = true }
with_kind kinds.Build set = record set { build = true }
with_kind kinds.Dev set = record set { dev = true }

-- the set with these kinds too
abbrev pub with_kinds : List DepKind → KindSet → KindSet
with_kinds [] set = set
with_kinds (kind ∷ rest) set = with_kinds rest (with_kind kind set)

-- these kinds are ignored too, of every crate
abbrev pub with_ignored : List DepKind → IgnoredKinds → IgnoredKinds
with_ignored asked ignored = record { of_members = with_kinds asked ignored.of_members; of_others = with_kinds asked ignored.of_others }
