-- The instances of the rules that begin with a fact, in the tables of a document and a build. Each instance begins with its first
-- premise, except those that say what is available, which begin with that fact.
use Rattle.std.specs.Prelude.{ℕ, ◌==◌, ◌&&◌, Bool, true, false, not, if◌then◌else◌, List, [], ◌∷◌, ◌++◌, Option, Some, None, map, slice_get, slice_index_or}
use Rattle.std.specs.List.{flat_map}
use Rattle.std.specs.Str.{bytes_eq}
use Rattle.krates_cm.specs.Document.{Text}
use Rattle.krates_cm.specs.declared.dependency.DependencyKind.{DependencyKind}
use Rattle.krates_cm.specs.declared.dependency.DependencyKind.TheVariants.{Normal, Development, Build}
use Rattle.krates_text.specs.FeatureReference.{Reference, krate, weak, strong, simple}
use Rattle.krates_build_tables.specs.References.{feature_named, reference_view, turns_on}
use Rattle.krates_build_tables.specs.TablesOf.{references_of}
use Rattle.krates_build_tables.specs.declared.tables.CrateEntry.{CrateEntry}
use Rattle.krates_build_tables.specs.declared.tables.Lacking.{Lacking}
use Rattle.krates_build_tables.specs.declared.tables.Link.{Link}
use Rattle.krates_build_tables.specs.declared.tables.LinkPlace.{LinkPlace}
use Rattle.krates_build_tables.specs.declared.tables.Tables.{Tables}
use Rattle.krates_build_tables.specs.declared.tables.TargetEntry.{TargetEntry}
use Rattle.krates_build_facts.specs.FactModels.{FactModel, RuleModel, Met, LinkedReference, LinkedFeature, LinkedName, Linked, Lost, Activated, ActivatedReference, ActivatedFeature, ActivatedName, Used, Available, Compiled, Needed, ScriptRun, ScriptCompiled, RunNeeded}
use Rattle.krates_build_facts.specs.declared.facts.PlacementNumber.{PlacementNumber}
use Rattle.krates_build_facts.specs.declared.facts.PlatformNumber.{PlatformNumber}
use Rattle.krates_build_facts.specs.declared.facts.PlatformNumber.TheVariants as platforms
use Rattle.krates_build_facts.specs.declared.facts.UnitPlace.{UnitPlace}
use Rattle.krates_units.specs.declared.kinds.Mode.{Mode}
use Rattle.krates_units.specs.declared.kinds.Mode.TheVariants as modes
use Rattle.krates_units.specs.declared.sides.Meeting.{Meeting}
use Rattle.krates_units.specs.declared.sides.Meeting.TheVariants as meetings
use Rattle.krates_units.specs.declared.sides.Side.{Side}
use Rattle.krates_units.specs.declared.sides.Side.TheVariants as sides

-- ---- instances

abbrev pub rule : List FactModel → FactModel → RuleModel
rule premises fact = record { premises = premises; fact = fact }

-- the one instance, if the condition holds
abbrev pub rule_if : Bool → List FactModel → FactModel → List RuleModel
rule_if condition premises fact = if condition then rule premises fact ∷ [] else []

-- those of the value, if there is one
abbrev pub of_some : {A : Type 0} → Option A → (A → List RuleModel) → List RuleModel
of_some None rows = []
of_some (Some x) rows = rows x

-- ---- what is looked up

-- the link at the place
abbrev pub of_link : Tables → LinkPlace → (Link → List RuleModel) → List RuleModel
of_link t place rows = of_some (slice_get t.crates.items place.krate) (λ e. of_some (slice_get e.links.items place.index) rows)

-- a crate that is met so has dependencies of this kind
abbrev pub takes_kind : Meeting → DependencyKind → Bool
takes_kind meetings.Root kind = true
takes_kind meetings.Dependency Normal = true
takes_kind meetings.Dependency Development = false
takes_kind meetings.Dependency Build = true

-- the link counts for the features of the side
abbrev pub counts : Link → Side → Bool
counts l sides.Targets = l.counts_for_targets
counts l sides.Host = l.counts_for_host

-- the side to which the link leads from a side
abbrev pub leads_from : Tables → Link → Side → Side
leads_from t l sides.Targets = l.leads_to
leads_from t l sides.Host = if t.is_first then sides.Targets else sides.Host

-- the side whose features what is compiled for this side has
abbrev pub features_side : Tables → Side → Side
features_side t side = if t.is_first then sides.Targets else side

-- the target text of the link holds on the platform
abbrev pub passes : Link → PlatformNumber → Bool
passes l platforms.Host = l.passes_on_host
passes l (platforms.Machine number) = slice_index_or l.passes_on.items number false

-- the target has dependencies of this kind, in this mode
abbrev pub has_kind : TargetEntry → Mode → DependencyKind → Bool
has_kind x mode Normal = true
has_kind x modes.Build Development = x.always_uses_dev
has_kind x modes.Test Development = true
has_kind x mode Build = false

abbrev pub is_build : DependencyKind → Bool
is_build Normal = false
is_build Development = false
is_build Build = true

abbrev pub is_test : Mode → Bool
is_test modes.Build = false
is_test modes.Test = true

-- what the build itself runs
abbrev pub host_place : PlacementNumber
host_place = record { platform = platforms.Host; side = sides.Host }

-- a procedural macro is compiled for the host, any other target for what needs it
abbrev pub goes_to : TargetEntry → PlacementNumber → PlacementNumber
goes_to x needed = if x.is_macro then host_place else needed

-- the target, as itself, for what needs it
abbrev pub unit_of : TargetEntry → PlacementNumber → UnitPlace
unit_of x at = record { target = x.place; mode = modes.Build; placement = goes_to x at }

-- what a target needs that requires features
abbrev pub requires : TargetEntry → List FactModel
requires x = map (λ text. Available x.place.krate text.now) x.required.items

-- a fact that is used only if the dependency is optional
abbrev pub if_optional : Link → FactModel → List FactModel
if_optional l f = if l.is_optional then f ∷ [] else []

-- ---- references

-- what follows the name and `/` in the text
abbrev pub feature_behind : (name text : Text) → Option Text
feature_behind [] [] = None
feature_behind [] (slash ∷ feature) = if slash == 47 then Some feature else None
feature_behind (x ∷ name) [] = None
feature_behind (x ∷ name) (y ∷ text) = if x == y then feature_behind name text else None

-- ---- which dependencies exist

-- what a reference gives by itself
abbrev pub linked_by_reference : ℕ → Meeting → Reference → List RuleModel
linked_by_reference c m (krate d) = rule (LinkedReference c m (krate d) ∷ []) (LinkedName c m d) ∷ []
linked_by_reference c m (weak d g) = rule (LinkedReference c m (weak d g) ∷ []) (LinkedName c m d) ∷ []
linked_by_reference c m (strong d g) = rule (LinkedReference c m (strong d g) ∷ []) (LinkedName c m d) ∷ []
linked_by_reference c m (simple g) = rule (LinkedReference c m (simple g) ∷ []) (LinkedFeature c m g) ∷ []

-- the feature that the name of an optional dependency implies
abbrev pub linked_implied : ℕ → Meeting → Reference → Text → List RuleModel
linked_implied c m v name = rule_if (turns_on v name) (LinkedReference c m v ∷ []) (LinkedFeature c m name)

-- the feature of the other crate that a reference names
abbrev pub linked_toggled : ℕ → Meeting → Reference → Link → List RuleModel
linked_toggled c m v l = of_some (feature_named v l.name.now)
    (λ g. rule_if (takes_kind m l.kind) (LinkedReference c m v ∷ []) (LinkedFeature l.child meetings.Dependency g))

-- the references of a feature
abbrev pub linked_references : ℕ → Meeting → Text → CrateEntry → List RuleModel
linked_references c m f e = of_some (references_of e f)
    (λ refs. map (λ v. rule (LinkedFeature c m f ∷ []) (LinkedReference c m (reference_view v))) refs.items)

-- a dependency of a crate that is met
abbrev pub linked : ℕ → Meeting → Link → List RuleModel
linked c m l = rule_if (takes_kind m l.kind) (Met c m ∷ if_optional l (LinkedName c m l.name.now)) (Linked l.place)

-- one that is lost
abbrev pub lost : ℕ → Meeting → Lacking → List RuleModel
lost c m x = rule_if (takes_kind m x.kind) (Met c m ∷ (if x.is_optional then LinkedName c m x.name.now ∷ [] else [])) (Lost x.krate x.index)

-- what a dependency gives that exists
abbrev pub given_by_link : LinkPlace → Link → List RuleModel
given_by_link place l = rule (Linked place ∷ []) (Met l.child meetings.Dependency)
    ∷ map (λ g. rule (Linked place ∷ []) (LinkedFeature l.child meetings.Dependency g.now)) l.given.items

-- ---- features of each side

-- what a reference gives by itself
abbrev pub activated_by_reference : ℕ → Side → Reference → List RuleModel
activated_by_reference c n (krate d) = rule (ActivatedReference c n (krate d) ∷ []) (ActivatedName c n d) ∷ []
activated_by_reference c n (weak d g) = []
activated_by_reference c n (strong d g) = []
activated_by_reference c n (simple g) = rule (ActivatedReference c n (simple g) ∷ []) (ActivatedFeature c n g) ∷ []

-- the dependency that it turns on, and the feature of the same name
abbrev pub activated_strongly : ℕ → Side → Reference → Link → List RuleModel
activated_strongly c n v l =
    rule_if (turns_on v l.name.now && counts l n && l.is_optional) (ActivatedReference c n v ∷ Linked l.place ∷ []) (ActivatedName c n l.name.now)
    ++ rule_if (turns_on v l.name.now && counts l n && l.is_optional && l.is_feature) (ActivatedReference c n v ∷ Linked l.place ∷ [])
    (ActivatedFeature c n l.name.now)

-- the feature of the other crate that it names
abbrev pub toggled : Tables → ℕ → Side → Reference → Link → List RuleModel
toggled t c n v l = of_some (feature_named v l.name.now)
    (λ g. rule (ActivatedReference c n v ∷ Used l.place n ∷ []) (ActivatedFeature l.child (leads_from t l n) g) ∷ [])

-- the references of a feature
abbrev pub activated_references : ℕ → Side → Text → CrateEntry → List RuleModel
activated_references c n f e = of_some (references_of e f)
    (λ refs. map (λ v. rule (ActivatedFeature c n f ∷ []) (ActivatedReference c n (reference_view v))) refs.items)

-- a dependency of a crate that takes part
abbrev pub used : ℕ → Side → Link → List RuleModel
used c n l = rule_if (counts l n && not l.is_optional) (Activated c n ∷ Linked l.place ∷ []) (Used l.place n)

-- one that is turned on by its name
abbrev pub used_by_name : ℕ → Side → Text → Link → List RuleModel
used_by_name c n d l = rule_if (bytes_eq d l.name.now && counts l n) (ActivatedName c n d ∷ Linked l.place ∷ []) (Used l.place n)

-- what a dependency gives that counts
abbrev pub given_by_use : Tables → LinkPlace → Side → Link → List RuleModel
given_by_use t place n l = rule (Used place n ∷ []) (Activated l.child (leads_from t l n))
    ∷ map (λ g. rule (Used place n ∷ []) (ActivatedFeature l.child (leads_from t l n) g.now)) l.given.items

-- a feature of the other crate, as a target may require it
abbrev pub available_below : ℕ → Text → Link → List RuleModel
available_below c text l = of_some (feature_behind l.name.now text)
    (λ f. rule (Linked l.place ∷ ActivatedFeature l.child l.looks_on f ∷ []) (Available c text) ∷ [])

-- ---- units

-- a library of the other crate, for what needs it
abbrev pub library : List FactModel → Link → PlacementNumber → TargetEntry → List RuleModel
library premises l at x = rule_if x.is_library premises (Needed l.place at.platform (unit_of x at))

-- all its libraries
abbrev pub libraries : Tables → List FactModel → Link → PlacementNumber → List RuleModel
libraries t premises l at = of_some (slice_get t.crates.items l.child) (λ child. flat_map (library premises l at) child.targets.items)

-- those that a unit needs, which is of this target
abbrev pub libraries_of_target : Tables → UnitPlace → Link → TargetEntry → List RuleModel
libraries_of_target t u l x = if has_kind x u.mode l.kind && passes l u.placement.platform then libraries t
    (Compiled u ∷ Linked l.place ∷ if_optional l (ActivatedName u.target.krate (features_side t u.placement.side) l.name.now)) l u.placement
    else []

abbrev pub libraries_of_unit : Tables → CrateEntry → UnitPlace → Link → List RuleModel
libraries_of_unit t e u l = of_some (slice_get e.targets.items u.target.index) (libraries_of_target t u l)

-- those that a build script needs
abbrev pub libraries_of_script : Tables → ℕ → Side → Link → List RuleModel
libraries_of_script t c n l = if is_build l.kind && l.passes_on_host then libraries t
    (ScriptCompiled c n ∷ Linked l.place ∷ if_optional l (ActivatedName c (features_side t n) l.name.now)) l host_place
    else []

-- a program of the crate that a unit may run
abbrev pub program_beside : UnitPlace → TargetEntry → RuleModel
program_beside u y = rule (Compiled u ∷ requires y)
    (Compiled (record { target = y.place; mode = modes.Build; placement = record { platform = u.placement.platform; side = sides.Targets } }))

-- what a unit needs of another target of its crate
abbrev pub needed_beside : UnitPlace → TargetEntry → TargetEntry → List RuleModel
needed_beside u x y =
    rule_if (not x.is_library && y.is_linkable) (Compiled u ∷ []) (Compiled (unit_of y u.placement))
    ++ (if is_test u.mode && x.may_run_programs && y.is_program then program_beside u y ∷ [] else [])
    ++ rule_if y.is_script (Compiled u ∷ []) (ScriptRun u.target.krate u.placement)

abbrev pub needed_in_crate : CrateEntry → UnitPlace → List RuleModel
needed_in_crate e u = of_some (slice_get e.targets.items u.target.index) (λ x. flat_map (needed_beside u x) e.targets.items)

-- ---- runs of build scripts

abbrev pub is_normal : DependencyKind → Bool
is_normal Normal = true
is_normal Development = false
is_normal Build = false

-- the run that is for this library of the other crate, which what needs the run is linked with
abbrev pub run_for : List FactModel → Link → PlacementNumber → TargetEntry → List RuleModel
run_for premises l at x = rule_if x.is_linkable premises (RunNeeded l.place at (goes_to x at))

-- those for all its libraries, if its build script is for a native library
abbrev pub runs_in : List FactModel → Link → PlacementNumber → CrateEntry → List RuleModel
runs_in premises l at child = if child.links_natively && child.has_script then flat_map (run_for premises l at) child.targets.items else []

-- those that the run for a unit needs, if the unit's crate has a build script
abbrev pub runs_of_unit : Tables → CrateEntry → UnitPlace → Link → List RuleModel
runs_of_unit t e u l = if e.has_script && is_normal l.kind && passes l u.placement.platform then of_some (slice_get t.crates.items l.child)
    (runs_in (Compiled u ∷ Linked l.place ∷ if_optional l (ActivatedName u.target.krate (features_side t u.placement.side) l.name.now)) l u.placement)
    else []

-- ---- all

-- those of a fact of the crate and one of its links
abbrev pub link_rows : Tables → CrateEntry → FactModel → Link → List RuleModel
link_rows t e (Met c m) l = linked c m l
link_rows t e (LinkedReference c m v) l = linked_toggled c m v l
link_rows t e (LinkedFeature c m f) l = []
link_rows t e (LinkedName c m d) l = []
link_rows t e (Linked place) l = []
link_rows t e (Lost c index) l = []
link_rows t e (Activated c n) l = used c n l
link_rows t e (ActivatedReference c n v) l = activated_strongly c n v l ++ toggled t c n v l
link_rows t e (ActivatedFeature c n f) l = []
link_rows t e (ActivatedName c n d) l = used_by_name c n d l
link_rows t e (Used place n) l = []
link_rows t e (Available c text) l = available_below c text l
link_rows t e (Compiled u) l = libraries_of_unit t e u l ++ runs_of_unit t e u l
link_rows t e (Needed place from u) l = []
link_rows t e (ScriptRun c at) l = []
link_rows t e (ScriptCompiled c n) l = libraries_of_script t c n l
link_rows t e (RunNeeded place from run) l = []

-- those of a fact of the crate and what else its entry has
abbrev pub entry_rows : Tables → CrateEntry → FactModel → List RuleModel
entry_rows t e (Met c m) = flat_map (lost c m) e.lacking.items
entry_rows t e (LinkedReference c m v) = flat_map (λ name. linked_implied c m v name.now) e.implied.items
entry_rows t e (LinkedFeature c m f) = linked_references c m f e
entry_rows t e (LinkedName c m d) = []
entry_rows t e (Linked place) = of_some (slice_get e.links.items place.index) (given_by_link place)
entry_rows t e (Lost c index) = []
entry_rows t e (Activated c n) = []
entry_rows t e (ActivatedReference c n v) = []
entry_rows t e (ActivatedFeature c n f) = activated_references c n f e
entry_rows t e (ActivatedName c n d) = []
entry_rows t e (Used place n) = of_some (slice_get e.links.items place.index) (given_by_use t place n)
entry_rows t e (Available c text) = []
entry_rows t e (Compiled u) = needed_in_crate e u
entry_rows t e (Needed place from u) = []
entry_rows t e (ScriptRun c at) = []
entry_rows t e (ScriptCompiled c n) = []
entry_rows t e (RunNeeded place from run) = []

-- those of a fact by itself
abbrev pub rows_alone : FactModel → List RuleModel
rows_alone (Met c m) = []
rows_alone (LinkedReference c m v) = linked_by_reference c m v
rows_alone (LinkedFeature c m f) = []
rows_alone (LinkedName c m d) = []
rows_alone (Linked place) = []
rows_alone (Lost c index) = []
rows_alone (Activated c n) = []
rows_alone (ActivatedReference c n v) = activated_by_reference c n v
rows_alone (ActivatedFeature c n f) = []
rows_alone (ActivatedName c n d) = []
rows_alone (Used place n) = []
rows_alone (Available c text) = rule (ActivatedFeature c sides.Targets text ∷ []) (Available c text) ∷ []
rows_alone (Compiled u) = []
rows_alone (Needed place from u) = rule (Needed place from u ∷ []) (Compiled u) ∷ []
rows_alone (ScriptRun c at) = rule (ScriptRun c at ∷ []) (ScriptCompiled c at.side) ∷ []
rows_alone (ScriptCompiled c n) = []
rows_alone (RunNeeded place from run) = []

-- the number of the crate in whose tables the fact is looked up
abbrev pub home : FactModel → ℕ
home (Met c m) = c
home (LinkedReference c m v) = c
home (LinkedFeature c m f) = c
home (LinkedName c m d) = c
home (Linked place) = place.krate
home (Lost c index) = c
home (Activated c n) = c
home (ActivatedReference c n v) = c
home (ActivatedFeature c n f) = c
home (ActivatedName c n d) = c
home (Used place n) = place.krate
home (Available c text) = c
home (Compiled u) = u.target.krate
home (Needed place from u) = place.krate
home (ScriptRun c at) = c
home (ScriptCompiled c n) = c
home (RunNeeded place from run) = place.krate

-- those of a fact of the crate
abbrev pub rows_in : Tables → FactModel → CrateEntry → List RuleModel
rows_in t f e = flat_map (link_rows t e f) e.links.items ++ entry_rows t e f

-- the instances that begin with the fact
abbrev pub rows_of : Tables → FactModel → List RuleModel
rows_of t f = rows_alone f ++ of_some (slice_get t.crates.items (home f)) (rows_in t f)
