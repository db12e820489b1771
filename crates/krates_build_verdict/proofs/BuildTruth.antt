-- What verdicts about builds mean by the rules.
use Rattle.std.proofs.Common.{◌≡◌, ℕ, Some, List, refl, subst, sym}
use Rattle.krates_rules.specs.Facts.{Id}
use Rattle.krates_rules.specs.Resolved.{Resolved}
use Rattle.krates_units.specs.BuildFacts as means
use Rattle.krates_units.specs.BuildFacts.{CompiledUnit}
use Rattle.krates_units.specs.BuildSetting.{BuildSettingModel}
use Rattle.krates_units.specs.Machines.{MachineModel}
use Rattle.krates_units.specs.declared.sides.Side.{Side}
use Rattle.krates_build_tables.specs.TablesOf.{CrateAt}
use Rattle.krates_build_tables.specs.declared.tables.Tables.{Tables}
use Rattle.krates_build_facts.specs.FactModels.{FactModel, Met, LinkedReference, LinkedFeature, LinkedName, Linked, Lost, Activated, ActivatedReference, ActivatedFeature, ActivatedName, Used, Available, Compiled, Needed, ScriptRun, ScriptCompiled, RunNeeded, fact_view}
use Rattle.krates_build_facts.specs.Meanings.{EachHasMeaning, EachHasNumber, Means}
use Rattle.krates_build_verdict.specs.BuildTruth.{CompiledIsAmong, FollowsIsDerivable, ScriptIsAmong}
use Rattle.krates_build_verdict.specs.BuildVerdicts.{built_by}

pub follows_is_derivable : EachHasMeaning → FollowsIsDerivable
follows_is_derivable sound r s ids ms t are fact steps holds = sound r s ids ms t are (fact_view fact) holds

-- the fact says that this crate is built
abbrev Builds : List Id → FactModel → Id → Type 0
Builds ids f i = (number : ℕ) × (built_by f ≡ Some number) × CrateAt ids number i

-- what means that a unit is compiled says that its crate is built
compiled_builds : (r : Resolved) (s : BuildSettingModel) (ids : List Id) (ms : List MachineModel) (t : Tables) (f : FactModel) (u : CompiledUnit)
    → Means r s ids ms t f (means.Compiled u) → Builds ids f u.krate
compiled_builds r s ids ms t (Met c m) u h = (let e = h.2 in absurd cc)
compiled_builds r s ids ms t (LinkedReference c m v) u h = (let e = h.2 in absurd cc)
compiled_builds r s ids ms t (LinkedFeature c m g) u h = (let e = h.2 in absurd cc)
compiled_builds r s ids ms t (LinkedName c m d) u h = (let e = h.2 in absurd cc)
compiled_builds r s ids ms t (Linked place) u h = (let e = h.3 in absurd cc)
compiled_builds r s ids ms t (Lost c index) u h = (let e = h.3 in absurd cc)
compiled_builds r s ids ms t (Activated c n) u h = (let e = h.2 in absurd cc)
compiled_builds r s ids ms t (ActivatedReference c n v) u h = (let e = h.2 in absurd cc)
compiled_builds r s ids ms t (ActivatedFeature c n g) u h = (let e = h.2 in absurd cc)
compiled_builds r s ids ms t (ActivatedName c n d) u h = (let e = h.2 in absurd cc)
compiled_builds r s ids ms t (Used place n) u h = (let e = h.3 in absurd cc)
compiled_builds r s ids ms t (Available c text) u h = (let e = h.2 in absurd cc)
compiled_builds r s ids ms t (Compiled place) u h =
    let e = h.2 in
    let same : u ≡ h.0 = cc in
    (place.target.krate, refl, subst (λ (one : CompiledUnit). CrateAt ids place.target.krate one.krate) (sym same) h.1.entry_at.crate_at)
compiled_builds r s ids ms t (Needed place from library) u h = (let e = h.6 in absurd cc)
compiled_builds r s ids ms t (ScriptRun c at) u h = (let e = h.4 in absurd cc)
compiled_builds r s ids ms t (ScriptCompiled c n) u h = (let e = h.2 in absurd cc)
compiled_builds r s ids ms t (RunNeeded place from run) u h = (let e = h.7 in absurd cc)

-- what means that a build script is compiled says that its crate is built
script_builds : (r : Resolved) (s : BuildSettingModel) (ids : List Id) (ms : List MachineModel) (t : Tables) (f : FactModel) (i : Id) (side : Side)
    → Means r s ids ms t f (means.ScriptCompiled i side) → Builds ids f i
script_builds r s ids ms t (Met c m) i side h = (let e = h.2 in absurd cc)
script_builds r s ids ms t (LinkedReference c m v) i side h = (let e = h.2 in absurd cc)
script_builds r s ids ms t (LinkedFeature c m g) i side h = (let e = h.2 in absurd cc)
script_builds r s ids ms t (LinkedName c m d) i side h = (let e = h.2 in absurd cc)
script_builds r s ids ms t (Linked place) i side h = (let e = h.3 in absurd cc)
script_builds r s ids ms t (Lost c index) i side h = (let e = h.3 in absurd cc)
script_builds r s ids ms t (Activated c n) i side h = (let e = h.2 in absurd cc)
script_builds r s ids ms t (ActivatedReference c n v) i side h = (let e = h.2 in absurd cc)
script_builds r s ids ms t (ActivatedFeature c n g) i side h = (let e = h.2 in absurd cc)
script_builds r s ids ms t (ActivatedName c n d) i side h = (let e = h.2 in absurd cc)
script_builds r s ids ms t (Used place n) i side h = (let e = h.3 in absurd cc)
script_builds r s ids ms t (Available c text) i side h = (let e = h.2 in absurd cc)
script_builds r s ids ms t (Compiled place) i side h = (let e = h.2 in absurd cc)
script_builds r s ids ms t (Needed place from library) i side h = (let e = h.6 in absurd cc)
script_builds r s ids ms t (ScriptRun c at) i side h = (let e = h.4 in absurd cc)
script_builds r s ids ms t (ScriptCompiled c n) i side h =
    let e = h.2 in
    let same : i ≡ h.0 = cc in
    (c, refl, subst (CrateAt ids c) (sym same) h.1)
script_builds r s ids ms t (RunNeeded place from run) i side h = (let e = h.7 in absurd cc)

pub compiled_is_among : EachHasNumber → CompiledIsAmong
compiled_is_among complete r s ids ms t are krates holds u derivable =
    let found = complete r s ids ms t are (means.Compiled u) derivable in
    let built = compiled_builds r s ids ms t found.0 u found.1 in
    (built.0, built.2, holds.built found.0 built.0 found.2 built.1)

pub script_is_among : EachHasNumber → ScriptIsAmong
script_is_among complete r s ids ms t are krates holds i side derivable =
    let found = complete r s ids ms t are (means.ScriptCompiled i side) derivable in
    let built = script_builds r s ids ms t found.0 i side found.1 in
    (built.0, built.2, holds.built found.0 built.0 found.2 built.1)
