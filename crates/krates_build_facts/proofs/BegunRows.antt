-- With which fact each instance begins: its first premise, or the fact itself if it says what is available.
use Rattle.std.proofs.Common.{◌≡◌, ◌&&◌, Bor, Bool, not, if◌then◌else◌, ◌++◌, ℕ, List, [], ◌∷◌, Contains, map, refl}
use Rattle.std.specs.Global.{Vec}
use Rattle.std.specs.List.{flat_map, slice_get}
use Rattle.std.specs.Str.{bytes_eq}
use Rattle.krates_cm.specs.Document.{Text}
use Rattle.krates_text.specs.FeatureReference.{Reference, krate, weak, strong, simple}
use Rattle.krates_build_tables.specs.References.{feature_named, reference_view, turns_on}
use Rattle.krates_build_tables.specs.TablesOf.{references_of}
use Rattle.krates_build_tables.specs.declared.reference.FeatureReference.{FeatureReference}
use Rattle.krates_build_tables.specs.declared.tables.CrateEntry.{CrateEntry}
use Rattle.krates_build_tables.specs.declared.tables.Lacking.{Lacking}
use Rattle.krates_build_tables.specs.declared.tables.Link.{Link}
use Rattle.krates_build_tables.specs.declared.tables.LinkPlace.{LinkPlace}
use Rattle.krates_build_tables.specs.declared.tables.Tables.{Tables}
use Rattle.krates_build_tables.specs.declared.tables.TargetEntry.{TargetEntry}
use Rattle.krates_build_facts.specs.FactModels.{FactModel, RuleModel, Met, LinkedReference, LinkedFeature, LinkedName, Linked, Lost, Activated, ActivatedReference, ActivatedFeature, ActivatedName, Used, Available, Compiled, Needed, ScriptRun, ScriptCompiled, RunNeeded}
use Rattle.krates_build_facts.specs.Rows.{activated_by_reference, activated_references, activated_strongly, available_below, counts, entry_rows, feature_behind, features_side, given_by_link, given_by_use, goes_to, has_kind, home, host_place, if_optional, is_build, is_normal, is_test, leads_from, libraries, libraries_of_script, libraries_of_target, libraries_of_unit, library, link_rows, linked, linked_by_reference, linked_implied, linked_references, linked_toggled, lost, needed_beside, needed_in_crate, of_some, passes, program_beside, requires, rows_alone, rows_in, rows_of, rule, rule_if, run_for, runs_in, runs_of_unit, takes_kind, toggled, unit_of}
use Rattle.krates_build_facts.specs.declared.facts.PlacementNumber.{PlacementNumber}
use Rattle.krates_build_facts.specs.declared.facts.UnitPlace.{UnitPlace}
use Rattle.krates_units.specs.declared.sides.Meeting.{Meeting}
use Rattle.krates_units.specs.declared.sides.Meeting.TheVariants as meetings
use Rattle.krates_units.specs.declared.sides.Side.{Side}
use Rattle.krates_units.specs.declared.sides.Side.TheVariants as sides
use Rattle.krates_build_facts.proofs.RowLists.{EachRow, here, rows_append, rows_flat, rows_if, rows_mapped, rows_more, rows_none, rows_one, rows_some, rows_where}

-- the instance begins with the fact
abbrev pub Begins : FactModel → List FactModel → FactModel → Type 0
Begins (Met c m) ps n = Contains ps (Met c m)
Begins (LinkedReference c m v) ps n = Contains ps (LinkedReference c m v)
Begins (LinkedFeature c m f) ps n = Contains ps (LinkedFeature c m f)
Begins (LinkedName c m d) ps n = Contains ps (LinkedName c m d)
Begins (Linked place) ps n = Contains ps (Linked place)
Begins (Lost c index) ps n = Contains ps (Lost c index)
Begins (Activated c s) ps n = Contains ps (Activated c s)
Begins (ActivatedReference c s v) ps n = Contains ps (ActivatedReference c s v)
Begins (ActivatedFeature c s f) ps n = Contains ps (ActivatedFeature c s f)
Begins (ActivatedName c s d) ps n = Contains ps (ActivatedName c s d)
Begins (Used place s) ps n = Contains ps (Used place s)
Begins (Available c text) ps n = n ≡ Available c text
Begins (Compiled u) ps n = Contains ps (Compiled u)
Begins (Needed place from u) ps n = Contains ps (Needed place from u)
Begins (ScriptRun c at) ps n = Contains ps (ScriptRun c at)
Begins (ScriptCompiled c s) ps n = Contains ps (ScriptCompiled c s)
Begins (RunNeeded place from run) ps n = Contains ps (RunNeeded place from run)

-- those of a fact, by the parts of its rows
whole : (t : Tables) (b : FactModel) → EachRow (Begins b) (rows_alone b) → ((e : CrateEntry) (l : Link) → EachRow (Begins b) (link_rows t e b l)) → ((e : CrateEntry) → EachRow (Begins b) (entry_rows t e b))
    → EachRow (Begins b) (rows_of t b)
whole t b alone link entry =
    rows_append (Begins b) (rows_alone b) (of_some (slice_get t.crates.items (home b)) (rows_in t b)) alone (rows_some (Begins b) (slice_get t.crates.items (home b)) (rows_in t b) (λ e is.
    rows_append (Begins b) (flat_map (link_rows t e b) e.links.items) (entry_rows t e b) (rows_flat (Begins b) (link_rows t e b) e.links.items (λ l among. link e l)) (entry e)))

-- an instance whose first premise it is
abbrev With : FactModel → List FactModel → FactModel → Type 0
With b ps n = Contains ps b

one : (b : FactModel) (ps : List FactModel) (n : FactModel) → EachRow (With b) (rule (b ∷ ps) n ∷ [])
one b ps n = rows_one (With b) (b ∷ ps) n (here b ps)

when : (b : FactModel) (c : Bool) (ps : List FactModel) (n : FactModel) → EachRow (With b) (rule_if c (b ∷ ps) n)
when b c ps n = rows_if (With b) c (b ∷ ps) n (λ yes. here b ps)

-- ---- which dependencies exist

by_reference : (c : ℕ) (m : Meeting) (v : Reference) → EachRow (With (LinkedReference c m v)) (linked_by_reference c m v)
by_reference c m (krate d) = one (LinkedReference c m (krate d)) [] (LinkedName c m d)
by_reference c m (weak d g) = one (LinkedReference c m (weak d g)) [] (LinkedName c m d)
by_reference c m (strong d g) = one (LinkedReference c m (strong d g)) [] (LinkedName c m d)
by_reference c m (simple g) = one (LinkedReference c m (simple g)) [] (LinkedFeature c m g)

met_link : (c : ℕ) (m : Meeting) (l : Link) → EachRow (With (Met c m)) (linked c m l)
met_link c m l = when (Met c m) (takes_kind m l.kind) (if_optional l (LinkedName c m l.name.now)) (Linked l.place)

met_lost : (c : ℕ) (m : Meeting) (x : Lacking) → EachRow (With (Met c m)) (lost c m x)
met_lost c m x = when (Met c m) (takes_kind m x.kind) (if x.is_optional then LinkedName c m x.name.now ∷ [] else []) (Lost x.krate x.index)

implied_begins : (c : ℕ) (m : Meeting) (v : Reference) (name : Text) → EachRow (With (LinkedReference c m v)) (linked_implied c m v name)
implied_begins c m v name = when (LinkedReference c m v) (turns_on v name) [] (LinkedFeature c m name)

toggled_begins : (c : ℕ) (m : Meeting) (v : Reference) (l : Link) → EachRow (With (LinkedReference c m v)) (linked_toggled c m v l)
toggled_begins c m v l =
    let b = LinkedReference c m v in
    rows_some (With b) (feature_named v l.name.now) (λ g. rule_if (takes_kind m l.kind) (b ∷ []) (LinkedFeature l.child meetings.Dependency g))
    (λ g is. when b (takes_kind m l.kind) [] (LinkedFeature l.child meetings.Dependency g))

references_begin : (c : ℕ) (m : Meeting) (f : Text) (e : CrateEntry) → EachRow (With (LinkedFeature c m f)) (linked_references c m f e)
references_begin c m f e =
    let b = LinkedFeature c m f in
    let row : FeatureReference → RuleModel = λ v. rule (b ∷ []) (LinkedReference c m (reference_view v)) in
    rows_some (With b) (references_of e f) (λ refs. map row refs.items) (λ (refs : Vec FeatureReference) is. rows_mapped (With b) row refs.items (λ v among. here b []))

given_begins : (place : LinkPlace) (l : Link) → EachRow (With (Linked place)) (given_by_link place l)
given_begins place l =
    let b = Linked place in
    let row : Bor Text → RuleModel = λ g. rule (b ∷ []) (LinkedFeature l.child meetings.Dependency g.now) in
    rows_more (With b) (b ∷ []) (Met l.child meetings.Dependency) (map row l.given.items) (here b []) (rows_mapped (With b) row l.given.items (λ g among. here b []))

-- ---- features of each side

activated_by : (c : ℕ) (s : Side) (v : Reference) → EachRow (With (ActivatedReference c s v)) (activated_by_reference c s v)
activated_by c s (krate d) = one (ActivatedReference c s (krate d)) [] (ActivatedName c s d)
activated_by c s (weak d g) = rows_none (With (ActivatedReference c s (weak d g)))
activated_by c s (strong d g) = rows_none (With (ActivatedReference c s (strong d g)))
activated_by c s (simple g) = one (ActivatedReference c s (simple g)) [] (ActivatedFeature c s g)

strongly_begins : (c : ℕ) (s : Side) (v : Reference) (l : Link) → EachRow (With (ActivatedReference c s v)) (activated_strongly c s v l)
strongly_begins c s v l =
    let b = ActivatedReference c s v in
    let turns = turns_on v l.name.now && counts l s && l.is_optional in
    rows_append (With b) (rule_if turns (b ∷ Linked l.place ∷ []) (ActivatedName c s l.name.now)) (rule_if (turns && l.is_feature) (b ∷ Linked l.place ∷ []) (ActivatedFeature c s l.name.now))
    (when b turns (Linked l.place ∷ []) (ActivatedName c s l.name.now)) (when b (turns && l.is_feature) (Linked l.place ∷ []) (ActivatedFeature c s l.name.now))

side_toggled : (t : Tables) (c : ℕ) (s : Side) (v : Reference) (l : Link) → EachRow (With (ActivatedReference c s v)) (toggled t c s v l)
side_toggled t c s v l =
    let b = ActivatedReference c s v in
    rows_some (With b) (feature_named v l.name.now) (λ g. rule (b ∷ Used l.place s ∷ []) (ActivatedFeature l.child (leads_from t l s) g) ∷ [])
    (λ g is. one b (Used l.place s ∷ []) (ActivatedFeature l.child (leads_from t l s) g))

side_references : (c : ℕ) (s : Side) (f : Text) (e : CrateEntry) → EachRow (With (ActivatedFeature c s f)) (activated_references c s f e)
side_references c s f e =
    let b = ActivatedFeature c s f in
    let row : FeatureReference → RuleModel = λ v. rule (b ∷ []) (ActivatedReference c s (reference_view v)) in
    rows_some (With b) (references_of e f) (λ refs. map row refs.items) (λ (refs : Vec FeatureReference) is. rows_mapped (With b) row refs.items (λ v among. here b []))

use_gives : (t : Tables) (place : LinkPlace) (s : Side) (l : Link) → EachRow (With (Used place s)) (given_by_use t place s l)
use_gives t place s l =
    let b = Used place s in
    let row : Bor Text → RuleModel = λ g. rule (b ∷ []) (ActivatedFeature l.child (leads_from t l s) g.now) in
    rows_more (With b) (b ∷ []) (Activated l.child (leads_from t l s)) (map row l.given.items) (here b []) (rows_mapped (With b) row l.given.items (λ g among. here b []))

below_begins : (c : ℕ) (text : Text) (l : Link) → EachRow (Begins (Available c text)) (available_below c text l)
below_begins c text l =
    let P = Begins (Available c text) in
    rows_some P (feature_behind l.name.now text) (λ f. rule (Linked l.place ∷ ActivatedFeature l.child l.looks_on f ∷ []) (Available c text) ∷ [])
    (λ f is. rows_one P (Linked l.place ∷ ActivatedFeature l.child l.looks_on f ∷ []) (Available c text) refl)

-- ---- units

libraries_begin : (t : Tables) (b : FactModel) (ps : List FactModel) (l : Link) (at : PlacementNumber) → EachRow (With b) (libraries t (b ∷ ps) l at)
libraries_begin t b ps l at =
    rows_some (With b) (slice_get t.crates.items l.child) (λ child. flat_map (library (b ∷ ps) l at) child.targets.items) (λ (child : CrateEntry) is.
    rows_flat (With b) (library (b ∷ ps) l at) child.targets.items (λ x among. when b x.is_library ps (Needed l.place at.platform (unit_of x at))))

unit_libraries : (t : Tables) (e : CrateEntry) (u : UnitPlace) (l : Link) → EachRow (With (Compiled u)) (libraries_of_unit t e u l)
unit_libraries t e u l =
    let b = Compiled u in
    let ps = Linked l.place ∷ if_optional l (ActivatedName u.target.krate (features_side t u.placement.side) l.name.now) in
    rows_some (With b) (slice_get e.targets.items u.target.index) (libraries_of_target t u l) (λ (x : TargetEntry) is.
    rows_where (With b) (has_kind x u.mode l.kind && passes l u.placement.platform) (libraries t (b ∷ ps) l u.placement) (λ yes. libraries_begin t b ps l u.placement))

script_libraries : (t : Tables) (c : ℕ) (s : Side) (l : Link) → EachRow (With (ScriptCompiled c s)) (libraries_of_script t c s l)
script_libraries t c s l =
    let b = ScriptCompiled c s in
    let ps = Linked l.place ∷ if_optional l (ActivatedName c (features_side t s) l.name.now) in
    rows_where (With b) (is_build l.kind && l.passes_on_host) (libraries t (b ∷ ps) l host_place) (λ yes. libraries_begin t b ps l host_place)

beside_begins : (u : UnitPlace) (x y : TargetEntry) → EachRow (With (Compiled u)) (needed_beside u x y)
beside_begins u x y =
    let b = Compiled u in
    let own = rule_if (not x.is_library && y.is_linkable) (b ∷ []) (Compiled (unit_of y u.placement)) in
    let runs = is_test u.mode && x.may_run_programs && y.is_program in
    let programs = if runs then program_beside u y ∷ [] else [] in
    let script = rule_if y.is_script (b ∷ []) (ScriptRun u.target.krate u.placement) in
    rows_append (With b) (own ++ programs) script (
    rows_append (With b) own programs
    (when b (not x.is_library && y.is_linkable) [] (Compiled (unit_of y u.placement)))
    (rows_where (With b) runs (program_beside u y ∷ []) (λ yes. one b (requires y) (program_beside u y).fact))
    ) (when b y.is_script [] (ScriptRun u.target.krate u.placement))

beside_all : (e : CrateEntry) (u : UnitPlace) → EachRow (With (Compiled u)) (needed_in_crate e u)
beside_all e u =
    rows_some (With (Compiled u)) (slice_get e.targets.items u.target.index) (λ x. flat_map (needed_beside u x) e.targets.items) (λ (x : TargetEntry) is.
    rows_flat (With (Compiled u)) (needed_beside u x) e.targets.items (λ y among. beside_begins u x y))

unit_runs : (t : Tables) (e : CrateEntry) (u : UnitPlace) (l : Link) → EachRow (With (Compiled u)) (runs_of_unit t e u l)
unit_runs t e u l =
    let b = Compiled u in
    let ps = Linked l.place ∷ if_optional l (ActivatedName u.target.krate (features_side t u.placement.side) l.name.now) in
    let of_child = runs_in (b ∷ ps) l u.placement in
    rows_where (With b) (e.has_script && is_normal l.kind && passes l u.placement.platform) (of_some (slice_get t.crates.items l.child) of_child) (λ yes.
    rows_some (With b) (slice_get t.crates.items l.child) of_child (λ (child : CrateEntry) is.
    rows_where (With b) (child.links_natively && child.has_script) (flat_map (run_for (b ∷ ps) l u.placement) child.targets.items) (λ natively.
    rows_flat (With b) (run_for (b ∷ ps) l u.placement) child.targets.items (λ (x : TargetEntry) among. when b x.is_linkable ps (RunNeeded l.place u.placement (goes_to x u.placement))))))

-- ---- all

-- each instance begins with its fact
pub begun : (t : Tables) (b : FactModel) → EachRow (Begins b) (rows_of t b)
begun t (Met c m) = whole t (Met c m) (rows_none (With (Met c m))) (λ e l. met_link c m l)
    (λ e. rows_flat (With (Met c m)) (lost c m) e.lacking.items (λ x among. met_lost c m x))
begun t (LinkedReference c m v) = whole t (LinkedReference c m v) (by_reference c m v) (λ e l. toggled_begins c m v l)
    (λ e. rows_flat (With (LinkedReference c m v)) (λ name. linked_implied c m v name.now) e.implied.items (λ name among. implied_begins c m v name.now))
begun t (LinkedFeature c m f) =
    let none = rows_none (With (LinkedFeature c m f)) in whole t (LinkedFeature c m f) none (λ e l. none) (λ e. references_begin c m f e)
begun t (LinkedName c m d) = let none = rows_none (With (LinkedName c m d)) in whole t (LinkedName c m d) none (λ e l. none) (λ e. none)
begun t (Linked place) =
    let none = rows_none (With (Linked place)) in
    whole t (Linked place) none (λ e l. none) (λ e. rows_some (With (Linked place)) (slice_get e.links.items place.index) (given_by_link place) (λ l is. given_begins place l))
begun t (Lost c index) = let none = rows_none (With (Lost c index)) in whole t (Lost c index) none (λ e l. none) (λ e. none)
begun t (Activated c s) =
    let none = rows_none (With (Activated c s)) in
    whole t (Activated c s) none (λ e l. when (Activated c s) (counts l s && not l.is_optional) (Linked l.place ∷ []) (Used l.place s)) (λ e. none)
begun t (ActivatedReference c s v) =
    let b = ActivatedReference c s v in
    whole t b (activated_by c s v) (λ e l. rows_append (With b) (activated_strongly c s v l) (toggled t c s v l) (strongly_begins c s v l) (side_toggled t c s v l)) (λ e. rows_none (With b))
begun t (ActivatedFeature c s f) =
    let none = rows_none (With (ActivatedFeature c s f)) in whole t (ActivatedFeature c s f) none (λ e l. none) (λ e. side_references c s f e)
begun t (ActivatedName c s d) =
    let none = rows_none (With (ActivatedName c s d)) in
    whole t (ActivatedName c s d) none (λ e l. when (ActivatedName c s d) (bytes_eq d l.name.now && counts l s) (Linked l.place ∷ []) (Used l.place s)) (λ e. none)
begun t (Used place s) =
    let none = rows_none (With (Used place s)) in
    whole t (Used place s) none (λ e l. none) (λ e. rows_some (With (Used place s)) (slice_get e.links.items place.index) (given_by_use t place s) (λ l is. use_gives t place s l))
begun t (Available c text) =
    let P = Begins (Available c text) in
    whole t (Available c text) (rows_one P (ActivatedFeature c sides.Targets text ∷ []) (Available c text) refl) (λ e l. below_begins c text l) (λ e. rows_none P)
begun t (Compiled u) =
    let b = Compiled u in
    whole t b (rows_none (With b)) (λ e l. rows_append (With b) (libraries_of_unit t e u l) (runs_of_unit t e u l) (unit_libraries t e u l) (unit_runs t e u l)) (λ e. beside_all e u)
begun t (Needed place from u) =
    let none = rows_none (With (Needed place from u)) in whole t (Needed place from u) (one (Needed place from u) [] (Compiled u)) (λ e l. none) (λ e. none)
begun t (ScriptRun c at) =
    let none = rows_none (With (ScriptRun c at)) in whole t (ScriptRun c at) (one (ScriptRun c at) [] (ScriptCompiled c at.side)) (λ e l. none) (λ e. none)
begun t (ScriptCompiled c s) =
    let none = rows_none (With (ScriptCompiled c s)) in whole t (ScriptCompiled c s) none (λ e l. script_libraries t c s l) (λ e. none)
begun t (RunNeeded place from run) = let none = rows_none (With (RunNeeded place from run)) in whole t (RunNeeded place from run) none (λ e l. none) (λ e. none)
