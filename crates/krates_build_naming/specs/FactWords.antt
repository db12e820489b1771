-- The words of a fact, as they are written: its form, and behind it the words for its parts.
use Rattle.std.specs.Prelude.{◌≡◌, ℕ, List, [], ◌∷◌, ◌++◌, Some, codes}
use Rattle.krates_cm.specs.Document.{Text}
use Rattle.krates_text.specs.FeatureReference.{Reference}
use Rattle.krates_build_facts.specs.FactModels.{FactModel, Met, LinkedReference, LinkedFeature, LinkedName, Linked, Lost, Activated, ActivatedReference, ActivatedFeature, ActivatedName, Used, Available, Compiled, Needed, ScriptRun, ScriptCompiled, RunNeeded}
use Rattle.krates_build_facts.specs.declared.facts.PlacementNumber.{PlacementNumber}
use Rattle.krates_build_facts.specs.declared.facts.UnitPlace.{UnitPlace}
use Rattle.krates_build_tables.specs.declared.tables.LinkPlace.{LinkPlace}
use Rattle.krates_build_naming.specs.NamedFacts.{fact_of}
use Rattle.krates_build_naming.specs.NamedParts.{ReferenceNames}
use Rattle.krates_build_naming.specs.PartTexts.{meeting_text, mode_text, side_text}
use Rattle.krates_build_naming.specs.WrittenParts.{DependencyTexts, TargetTexts, crate_text, lacking_texts, link_texts, platform_text, reference_texts, target_texts}
use Rattle.krates_build_naming.specs.declared.names.FactNames.{FactNames}

-- ---- the words of a part

abbrev pub words_of_reference : ReferenceNames → List Text
words_of_reference v = v.form ∷ v.name ∷ v.feature ∷ []

abbrev pub reference_listed : Reference → List Text
reference_listed v = words_of_reference (reference_texts v)

abbrev pub words_of_link : Text → DependencyTexts → List Text
words_of_link parent d = parent ∷ d.child ∷ d.kind ∷ d.target ∷ d.name ∷ []

abbrev pub link_listed : FactNames → LinkPlace → List Text
link_listed n place = words_of_link (crate_text n place.krate) (link_texts n place)

abbrev pub words_of_lacking : Text → DependencyTexts → List Text
words_of_lacking parent d = parent ∷ d.kind ∷ d.target ∷ d.name ∷ []

abbrev pub lacking_listed : FactNames → ℕ → ℕ → List Text
lacking_listed n number index = words_of_lacking (crate_text n number) (lacking_texts n number index)

abbrev pub placement_listed : FactNames → PlacementNumber → List Text
placement_listed n at = platform_text n at.platform ∷ side_text at.side ∷ []

abbrev pub words_of_target : Text → TargetTexts → List Text
words_of_target parent x = parent ∷ x.kind ∷ x.name ∷ []

abbrev pub unit_listed : FactNames → UnitPlace → List Text
unit_listed n u = words_of_target (crate_text n u.target.krate) (target_texts n u.target) ++ mode_text u.mode ∷ placement_listed n u.placement

-- ---- the words of a fact

-- of one about what is compiled and run
abbrev pub building_words : FactNames → FactModel → List Text
building_words n (Compiled u) = codes "compiled" ∷ unit_listed n u
building_words n (Needed place from u) = codes "needed" ∷ link_listed n place ++ platform_text n from ∷ unit_listed n u
building_words n (ScriptRun c at) = codes "script run" ∷ crate_text n c ∷ placement_listed n at
building_words n (ScriptCompiled c side) = codes "script compiled" ∷ crate_text n c ∷ side_text side ∷ []
building_words n (RunNeeded place from run) = codes "run needed" ∷ link_listed n place ++ placement_listed n from ++ placement_listed n run
building_words n other = []

-- of one about the features of each side, or another
abbrev pub activating_words : FactNames → FactModel → List Text
activating_words n (Activated c side) = codes "activated" ∷ crate_text n c ∷ side_text side ∷ []
activating_words n (ActivatedReference c side v) = codes "activated reference" ∷ crate_text n c ∷ side_text side ∷ reference_listed v
activating_words n (ActivatedFeature c side f) = codes "activated feature" ∷ crate_text n c ∷ side_text side ∷ f ∷ []
activating_words n (ActivatedName c side d) = codes "activated name" ∷ crate_text n c ∷ side_text side ∷ d ∷ []
activating_words n (Used place side) = codes "used" ∷ link_listed n place ++ side_text side ∷ []
activating_words n (Available c text) = codes "available" ∷ crate_text n c ∷ text ∷ []
activating_words n other = building_words n other

-- of one about which dependencies exist, or another
abbrev pub fact_words : FactNames → FactModel → List Text
fact_words n (Met c m) = codes "met" ∷ crate_text n c ∷ meeting_text m ∷ []
fact_words n (LinkedReference c m v) = codes "linked reference" ∷ crate_text n c ∷ meeting_text m ∷ reference_listed v
fact_words n (LinkedFeature c m f) = codes "linked feature" ∷ crate_text n c ∷ meeting_text m ∷ f ∷ []
fact_words n (LinkedName c m d) = codes "linked name" ∷ crate_text n c ∷ meeting_text m ∷ d ∷ []
fact_words n (Linked place) = codes "linked" ∷ link_listed n place
fact_words n (Lost c index) = codes "lost" ∷ lacking_listed n c index
fact_words n other = activating_words n other

-- ---- whether a fact has words

abbrev pub Name : FactNames → List Text → FactModel → Type 0
Name n words fact = (fact_of n words).value ≡ Some fact

-- no words name the fact
abbrev pub IsNameless : FactNames → FactModel → Type 0
IsNameless n fact = (words : List Text) → ¬ Name n words fact
