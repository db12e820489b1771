-- What a build is asked for by words, where these don't describe its machines, and may not name its resolver.
use Rattle.std.specs.Prelude.{◌≡◌, IfSome, List, MatchOption, Option, map, string_bytes}
use Rattle.krates_cm.specs.Document.{Text}
use Rattle.krates_host.specs.declared.resolver.ResolverSource.{ResolverSource}
use Rattle.krates_host.specs.declared.resolver.ResolverSource.TheVariants.{Manifest, Words}
use Rattle.krates_units.specs.BuildSetting.{BuildSettingModel}
use Rattle.krates_units.specs.Machines.{MachineModel}
use Rattle.krates_units.specs.declared.setting.Resolver.{Resolver}
use Rattle.krates_words.specs.BuildWords.{setting_of}
use Rattle.krates_words.specs.declared.build_words.BuildWords.{BuildWords}

-- the machines have these triples, in order
abbrev pub HaveTriples : List Text → List MachineModel → Type 0
HaveTriples triples machines = map (λ machine. machine.triple) machines ≡ triples

-- The resolver is the one that is named, and the words say so; if none is named, the manifest says it.
abbrev pub IsFoundFor : Option Resolver → Resolver → ResolverSource → Type 0
IsFoundFor named resolver source = MatchOption named (source ≡ Manifest) (λ one. (resolver ≡ one) × (source ≡ Words))

-- The setting is what the words say, for machines with the triples that they name.
pub record IsAskedBy (words : BuildWords) (s : BuildSettingModel) : Type 0 where
  pub is : s ≡ setting_of words s.resolver s.host s.targets
  -- the machine that builds, if it is named
  pub host : IfSome words.host (λ triple. s.host.triple ≡ string_bytes triple)
  pub targets : HaveTriples (map string_bytes words.triples.items) s.targets
