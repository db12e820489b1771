-- Which facts may matter to a build: of those that say a text is available, only the ones of texts that some target requires.
use Rattle.std.specs.Prelude.{◌≡◌, ⊤, ℕ, Contains, map}
use Rattle.krates_cm.specs.Document.{Text}
use Rattle.krates_build_tables.specs.declared.tables.CrateEntry.{CrateEntry}
use Rattle.krates_build_tables.specs.declared.tables.Tables.{Tables}
use Rattle.krates_build_tables.specs.declared.tables.TargetEntry.{TargetEntry}
use Rattle.krates_build_facts.specs.FactModels.{FactModel, Met, LinkedReference, LinkedFeature, LinkedName, Linked, Lost, Activated, ActivatedReference, ActivatedFeature, ActivatedName, Used, Available, Compiled, Needed, ScriptRun, ScriptCompiled, RunNeeded}

-- a target of the crate requires the text
pub record IsRequired (t : Tables) (number : ℕ) (text : Text) : Type 0 where
  pub entry : CrateEntry
  pub has_entry : Contains t.crates.items entry
  pub target : TargetEntry
  pub has_target : Contains entry.targets.items target
  pub krate : target.place.krate ≡ number
  pub requires : Contains (map (λ x. x.now) target.required.items) text

-- The fact may matter: one that says a text is available, only where a target requires the text, since any text may be asked for.
abbrev pub MayMatter : Tables → FactModel → Type 0
MayMatter t (Met c m) = ⊤
MayMatter t (LinkedReference c m v) = ⊤
MayMatter t (LinkedFeature c m f) = ⊤
MayMatter t (LinkedName c m d) = ⊤
MayMatter t (Linked place) = ⊤
MayMatter t (Lost c index) = ⊤
MayMatter t (Activated c n) = ⊤
MayMatter t (ActivatedReference c n v) = ⊤
MayMatter t (ActivatedFeature c n f) = ⊤
MayMatter t (ActivatedName c n d) = ⊤
MayMatter t (Used place n) = ⊤
MayMatter t (Available c text) = IsRequired t c text
MayMatter t (Compiled u) = ⊤
MayMatter t (Needed place from u) = ⊤
MayMatter t (ScriptRun c at) = ⊤
MayMatter t (ScriptCompiled c n) = ⊤
MayMatter t (RunNeeded place from run) = ⊤
