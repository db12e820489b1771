-- What instances use may matter, and what they give too, but for those that give a text that is available.
use Rattle.std.proofs.Common.{◌≢◌, ◌&&◌, ℕ, Bool, true, false, not, if◌then◌else◌, Bor, List, [], ◌∷◌, ◌++◌, Contains, map, refl, subst}
use Rattle.std.specs.Global.{Vec}
use Rattle.std.specs.List.{flat_map, range_with_len, slice_get}
use Rattle.std.specs.Str.{bytes_eq}
use Rattle.krates_cm.specs.Document.{Text}
use Rattle.krates_rules.proofs.Elements.{contains_image, contains_source}
use Rattle.krates_rules.proofs.Standings.{contains_at}
use Rattle.krates_text.specs.FeatureReference.{Reference, krate, weak, strong, simple}
use Rattle.krates_build_tables.specs.References.{feature_named, reference_view, turns_on}
use Rattle.krates_build_tables.specs.TablesOf.{references_of}
use Rattle.krates_build_tables.specs.declared.reference.FeatureReference.{FeatureReference}
use Rattle.krates_build_tables.specs.declared.tables.CrateEntry.{CrateEntry}
use Rattle.krates_build_tables.specs.declared.tables.Lacking.{Lacking}
use Rattle.krates_build_tables.specs.declared.tables.Link.{Link}
use Rattle.krates_build_tables.specs.declared.tables.LinkPlace.{LinkPlace}
use Rattle.krates_build_tables.specs.declared.tables.Tables.{Tables}
use Rattle.krates_build_tables.specs.declared.tables.TargetEntry.{TargetEntry}
use Rattle.krates_build_facts.specs.FactModels.{FactModel, RuleModel, Met, LinkedReference, LinkedFeature, LinkedName, Linked, Lost, Activated, ActivatedReference, ActivatedFeature, ActivatedName, Used, Available, Compiled, Needed, ScriptRun, ScriptCompiled, RunNeeded}
use Rattle.krates_build_facts.specs.InitialRows.{asked_for_machine, asked_in, asked_requires, asked_rows, initial_in, initial_rows, machine_count, machine_place, requested, root_alone, root_rows}
use Rattle.krates_build_facts.specs.Rows.{activated_by_reference, activated_references, activated_strongly, available_below, counts, entry_rows, feature_behind, features_side, given_by_link, given_by_use, goes_to, has_kind, home, host_place, if_optional, is_build, is_normal, is_test, leads_from, libraries, libraries_of_script, libraries_of_target, libraries_of_unit, library, link_rows, linked, linked_by_reference, linked_implied, linked_references, linked_toggled, lost, needed_beside, needed_in_crate, of_some, passes, program_beside, requires, rows_alone, rows_in, rows_of, rule, rule_if, run_for, runs_in, runs_of_unit, takes_kind, toggled, unit_of, used, used_by_name}
use Rattle.krates_build_facts.specs.declared.facts.PlacementNumber.{PlacementNumber}
use Rattle.krates_build_facts.specs.declared.facts.UnitPlace.{UnitPlace}
use Rattle.krates_units.specs.declared.kinds.Mode.{Mode}
use Rattle.krates_units.specs.declared.kinds.Mode.TheVariants as modes
use Rattle.krates_units.specs.declared.sides.Meeting.{Meeting}
use Rattle.krates_units.specs.declared.sides.Meeting.TheVariants as meetings
use Rattle.krates_units.specs.declared.sides.Side.{Side}
use Rattle.krates_units.specs.declared.sides.Side.TheVariants as sides
use Rattle.krates_build_facts.proofs.RowLists.{Each, EachRow, each_more, each_none, each_one, each_two, each_unless, rows_append, rows_flat, rows_if, rows_mapped, rows_more, rows_none, rows_one, rows_some, rows_unless, rows_where}
use Rattle.krates_build_facts.specs.Mattering.{MayMatter}

-- what the instance uses and what it gives may matter
pub record Matters (t : Tables) (ps : List FactModel) (n : FactModel) : Type 0 where
  pub premises : Each (MayMatter t) ps
  pub fact : MayMatter t n

-- what it uses may matter
abbrev pub Uses : Tables → List FactModel → FactModel → Type 0
Uses t ps n = Each (MayMatter t) ps

none : (t : Tables) → EachRow (Matters t) []
none t = rows_none (Matters t)

one : (t : Tables) (f n : FactModel) → MayMatter t f → MayMatter t n → Matters t (f ∷ []) n
one t f n h k = record { premises = each_one (MayMatter t) f h; fact = k }

two : (t : Tables) (f g n : FactModel) → MayMatter t f → MayMatter t g → MayMatter t n → Matters t (f ∷ g ∷ []) n
two t f g n h k m = record { premises = each_two (MayMatter t) f g h k; fact = m }

each_where : {X : Type 0} (P : X → Type 0) (b : Bool) (xs : List X) → Each P xs → Each P (if b then xs else [])
each_where P true xs h = h
each_where P false xs h = each_none P

-- two premises, and one that is used only if the dependency is optional
with_optional : (t : Tables) (f g h : FactModel) (l : Link) → MayMatter t f → MayMatter t g → MayMatter t h → Each (MayMatter t) (f ∷ g ∷ if_optional l h)
with_optional t f g h l x y z =
    each_more (MayMatter t) f (g ∷ if_optional l h) x (each_more (MayMatter t) g (if_optional l h) y (each_where (MayMatter t) l.is_optional (h ∷ []) (each_one (MayMatter t) h z)))

-- those of a fact, by the parts of its rows
whole : (t : Tables) (P : List FactModel → FactModel → Type 0) (b : FactModel) → EachRow P (rows_alone b) → ((e : CrateEntry) (l : Link) → EachRow P (link_rows t e b l))
    → ((e : CrateEntry) → Contains t.crates.items e → EachRow P (entry_rows t e b)) → EachRow P (rows_of t b)
whole t P b alone link entry =
    rows_append P (rows_alone b) (of_some (slice_get t.crates.items (home b)) (rows_in t b)) alone (rows_some P (slice_get t.crates.items (home b)) (rows_in t b) (λ e is.
    rows_append P (flat_map (link_rows t e b) e.links.items) (entry_rows t e b) (rows_flat P (link_rows t e b) e.links.items (λ l among. link e l)) (entry e (contains_at t.crates.items (home b) e is))))

-- ---- which dependencies exist

by_reference : (t : Tables) (c : ℕ) (m : Meeting) (v : Reference) → EachRow (Matters t) (linked_by_reference c m v)
by_reference t c m (krate d) = rows_one (Matters t) (LinkedReference c m (krate d) ∷ []) (LinkedName c m d) (one t _ _ tt tt)
by_reference t c m (weak d g) = rows_one (Matters t) (LinkedReference c m (weak d g) ∷ []) (LinkedName c m d) (one t _ _ tt tt)
by_reference t c m (strong d g) = rows_one (Matters t) (LinkedReference c m (strong d g) ∷ []) (LinkedName c m d) (one t _ _ tt tt)
by_reference t c m (simple g) = rows_one (Matters t) (LinkedReference c m (simple g) ∷ []) (LinkedFeature c m g) (one t _ _ tt tt)

met_link : (t : Tables) (c : ℕ) (m : Meeting) (l : Link) → EachRow (Matters t) (linked c m l)
met_link t c m l =
    let named = LinkedName c m l.name.now in
    rows_if (Matters t) (takes_kind m l.kind) (Met c m ∷ if_optional l named) (Linked l.place) (λ yes. record {
      premises = each_more (MayMatter t) (Met c m) (if_optional l named) tt (each_where (MayMatter t) l.is_optional (named ∷ []) (each_one (MayMatter t) named tt));
      fact = tt;
    })

met_lost : (t : Tables) (c : ℕ) (m : Meeting) (x : Lacking) → EachRow (Matters t) (lost c m x)
met_lost t c m x =
    let named = LinkedName c m x.name.now in
    let more = if x.is_optional then named ∷ [] else [] in
    rows_if (Matters t) (takes_kind m x.kind) (Met c m ∷ more) (Lost x.krate x.index) (λ yes. record {
      premises = each_more (MayMatter t) (Met c m) more tt (each_where (MayMatter t) x.is_optional (named ∷ []) (each_one (MayMatter t) named tt));
      fact = tt;
    })

implied_matters : (t : Tables) (c : ℕ) (m : Meeting) (v : Reference) (name : Text) → EachRow (Matters t) (linked_implied c m v name)
implied_matters t c m v name = rows_if (Matters t) (turns_on v name) (LinkedReference c m v ∷ []) (LinkedFeature c m name) (λ yes. one t _ _ tt tt)

linked_toggle : (t : Tables) (c : ℕ) (m : Meeting) (v : Reference) (l : Link) → EachRow (Matters t) (linked_toggled c m v l)
linked_toggle t c m v l =
    let b = LinkedReference c m v in
    rows_some (Matters t) (feature_named v l.name.now) (λ g. rule_if (takes_kind m l.kind) (b ∷ []) (LinkedFeature l.child meetings.Dependency g))
    (λ g is. rows_if (Matters t) (takes_kind m l.kind) (b ∷ []) (LinkedFeature l.child meetings.Dependency g) (λ yes. one t _ _ tt tt))

linked_refer : (t : Tables) (c : ℕ) (m : Meeting) (f : Text) (e : CrateEntry) → EachRow (Matters t) (linked_references c m f e)
linked_refer t c m f e =
    let row : FeatureReference → RuleModel = λ v. rule (LinkedFeature c m f ∷ []) (LinkedReference c m (reference_view v)) in
    rows_some (Matters t) (references_of e f) (λ refs. map row refs.items) (λ (refs : Vec FeatureReference) is. rows_mapped (Matters t) row refs.items (λ v among. one t _ _ tt tt))

link_gives : (t : Tables) (place : LinkPlace) (l : Link) → EachRow (Matters t) (given_by_link place l)
link_gives t place l =
    let row : Bor Text → RuleModel = λ g. rule (Linked place ∷ []) (LinkedFeature l.child meetings.Dependency g.now) in
    rows_more (Matters t) (Linked place ∷ []) (Met l.child meetings.Dependency) (map row l.given.items) (one t _ _ tt tt) (rows_mapped (Matters t) row l.given.items (λ g among. one t _ _ tt tt))

-- ---- features of each side

activated_by : (t : Tables) (c : ℕ) (s : Side) (v : Reference) → EachRow (Matters t) (activated_by_reference c s v)
activated_by t c s (krate d) = rows_one (Matters t) (ActivatedReference c s (krate d) ∷ []) (ActivatedName c s d) (one t _ _ tt tt)
activated_by t c s (weak d g) = none t
activated_by t c s (strong d g) = none t
activated_by t c s (simple g) = rows_one (Matters t) (ActivatedReference c s (simple g) ∷ []) (ActivatedFeature c s g) (one t _ _ tt tt)

turned_on : (t : Tables) (c : ℕ) (s : Side) (v : Reference) (l : Link) → EachRow (Matters t) (activated_strongly c s v l)
turned_on t c s v l =
    let ps = ActivatedReference c s v ∷ Linked l.place ∷ [] in
    let turns = turns_on v l.name.now && counts l s && l.is_optional in
    rows_append (Matters t) (rule_if turns ps (ActivatedName c s l.name.now)) (rule_if (turns && l.is_feature) ps (ActivatedFeature c s l.name.now))
    (rows_if (Matters t) turns ps (ActivatedName c s l.name.now) (λ yes. two t _ _ _ tt tt tt)) (rows_if (Matters t) (turns && l.is_feature) ps (ActivatedFeature c s l.name.now) (λ yes. two t _ _ _ tt tt tt))

side_toggle : (t : Tables) (c : ℕ) (s : Side) (v : Reference) (l : Link) → EachRow (Matters t) (toggled t c s v l)
side_toggle t c s v l =
    let ps = ActivatedReference c s v ∷ Used l.place s ∷ [] in
    rows_some (Matters t) (feature_named v l.name.now) (λ g. rule ps (ActivatedFeature l.child (leads_from t l s) g) ∷ [])
    (λ g is. rows_one (Matters t) ps (ActivatedFeature l.child (leads_from t l s) g) (two t _ _ _ tt tt tt))

side_refer : (t : Tables) (c : ℕ) (s : Side) (f : Text) (e : CrateEntry) → EachRow (Matters t) (activated_references c s f e)
side_refer t c s f e =
    let row : FeatureReference → RuleModel = λ v. rule (ActivatedFeature c s f ∷ []) (ActivatedReference c s (reference_view v)) in
    rows_some (Matters t) (references_of e f) (λ refs. map row refs.items) (λ (refs : Vec FeatureReference) is. rows_mapped (Matters t) row refs.items (λ v among. one t _ _ tt tt))

use_gives : (t : Tables) (place : LinkPlace) (s : Side) (l : Link) → EachRow (Matters t) (given_by_use t place s l)
use_gives t place s l =
    let row : Bor Text → RuleModel = λ g. rule (Used place s ∷ []) (ActivatedFeature l.child (leads_from t l s) g.now) in
    rows_more (Matters t) (Used place s ∷ []) (Activated l.child (leads_from t l s)) (map row l.given.items) (one t _ _ tt tt) (rows_mapped (Matters t) row l.given.items (λ g among. one t _ _ tt tt))

used_link : (t : Tables) (c : ℕ) (s : Side) (l : Link) → EachRow (Matters t) (used c s l)
used_link t c s l = rows_if (Matters t) (counts l s && not l.is_optional) (Activated c s ∷ Linked l.place ∷ []) (Used l.place s) (λ yes. two t _ _ _ tt tt tt)

named_link : (t : Tables) (c : ℕ) (s : Side) (d : Text) (l : Link) → EachRow (Matters t) (used_by_name c s d l)
named_link t c s d l = rows_if (Matters t) (bytes_eq d l.name.now && counts l s) (ActivatedName c s d ∷ Linked l.place ∷ []) (Used l.place s) (λ yes. two t _ _ _ tt tt tt)

-- a text that is available
below_uses : (t : Tables) (c : ℕ) (text : Text) (l : Link) → EachRow (Uses t) (available_below c text l)
below_uses t c text l =
    let ps : Text → List FactModel = λ f. Linked l.place ∷ ActivatedFeature l.child l.looks_on f ∷ [] in
    rows_some (Uses t) (feature_behind l.name.now text) (λ f. rule (ps f) (Available c text) ∷ [])
    (λ f is. rows_one (Uses t) (ps f) (Available c text) (each_two (MayMatter t) (Linked l.place) (ActivatedFeature l.child l.looks_on f) tt tt))

-- ---- units

libraries_matter : (t : Tables) (ps : List FactModel) (l : Link) (at : PlacementNumber) → Each (MayMatter t) ps → EachRow (Matters t) (libraries t ps l at)
libraries_matter t ps l at h =
    rows_some (Matters t) (slice_get t.crates.items l.child) (λ child. flat_map (library ps l at) child.targets.items) (λ (child : CrateEntry) is.
    rows_flat (Matters t) (library ps l at) child.targets.items (λ x among. rows_if (Matters t) x.is_library ps (Needed l.place at.platform (unit_of x at)) (λ yes. record { premises = h; fact = tt })))

unit_libraries : (t : Tables) (e : CrateEntry) (u : UnitPlace) (l : Link) → EachRow (Matters t) (libraries_of_unit t e u l)
unit_libraries t e u l =
    let named = ActivatedName u.target.krate (features_side t u.placement.side) l.name.now in
    let ps = Compiled u ∷ Linked l.place ∷ if_optional l named in
    rows_some (Matters t) (slice_get e.targets.items u.target.index) (libraries_of_target t u l) (λ (x : TargetEntry) is.
    rows_where (Matters t) (has_kind x u.mode l.kind && passes l u.placement.platform) (libraries t ps l u.placement)
    (λ yes. libraries_matter t ps l u.placement (with_optional t (Compiled u) (Linked l.place) named l tt tt tt)))

script_libraries : (t : Tables) (c : ℕ) (s : Side) (l : Link) → EachRow (Matters t) (libraries_of_script t c s l)
script_libraries t c s l =
    let named = ActivatedName c (features_side t s) l.name.now in
    let ps = ScriptCompiled c s ∷ Linked l.place ∷ if_optional l named in
    rows_where (Matters t) (is_build l.kind && l.passes_on_host) (libraries t ps l host_place)
    (λ yes. libraries_matter t ps l host_place (with_optional t (ScriptCompiled c s) (Linked l.place) named l tt tt tt))

runs_matter : (t : Tables) (ps : List FactModel) (l : Link) (at : PlacementNumber) (child : CrateEntry) → Each (MayMatter t) ps → EachRow (Matters t) (runs_in ps l at child)
runs_matter t ps l at child h =
    rows_where (Matters t) (child.links_natively && child.has_script) (flat_map (run_for ps l at) child.targets.items) (λ yes.
    rows_flat (Matters t) (run_for ps l at) child.targets.items (λ x among. rows_if (Matters t) x.is_linkable ps (RunNeeded l.place at (goes_to x at)) (λ linkable. record { premises = h; fact = tt })))

unit_runs : (t : Tables) (e : CrateEntry) (u : UnitPlace) (l : Link) → EachRow (Matters t) (runs_of_unit t e u l)
unit_runs t e u l =
    let named = ActivatedName u.target.krate (features_side t u.placement.side) l.name.now in
    let ps = Compiled u ∷ Linked l.place ∷ if_optional l named in
    rows_where (Matters t) (e.has_script && is_normal l.kind && passes l u.placement.platform) (of_some (slice_get t.crates.items l.child) (runs_in ps l u.placement)) (λ yes.
    rows_some (Matters t) (slice_get t.crates.items l.child) (runs_in ps l u.placement) (λ (child : CrateEntry) is.
    runs_matter t ps l u.placement child (with_optional t (Compiled u) (Linked l.place) named l tt tt tt)))

-- the texts that a target requires matter
pub required_matter : (t : Tables) (e : CrateEntry) (x : TargetEntry) → Contains t.crates.items e → Contains e.targets.items x → Each (MayMatter t) (requires x)
required_matter t e x entry target f c =
    let w = contains_source (λ (text : Bor Text). Available x.place.krate text.now) x.required.items f c in
    subst (MayMatter t) w.2 (record {
      entry = e;
      has_entry = entry;
      target = x;
      has_target = target;
      krate = refl;
      requires = contains_image (λ (text : Bor Text). text.now) x.required.items w.0 w.1;
    })

beside_matters : (t : Tables) (e : CrateEntry) (u : UnitPlace) (x y : TargetEntry) → Contains t.crates.items e → Contains e.targets.items y → EachRow (Matters t) (needed_beside u x y)
beside_matters t e u x y entry among =
    let b = Compiled u in
    let own = rule_if (not x.is_library && y.is_linkable) (b ∷ []) (Compiled (unit_of y u.placement)) in
    let runs = is_test u.mode && x.may_run_programs && y.is_program in
    let programs = if runs then program_beside u y ∷ [] else [] in
    let script = rule_if y.is_script (b ∷ []) (ScriptRun u.target.krate u.placement) in
    rows_append (Matters t) (own ++ programs) script (
    rows_append (Matters t) own programs
    (rows_if (Matters t) (not x.is_library && y.is_linkable) (b ∷ []) (Compiled (unit_of y u.placement)) (λ yes. one t _ _ tt tt))
    (rows_where (Matters t) runs (program_beside u y ∷ []) (λ yes. rows_one (Matters t) (b ∷ requires y) (program_beside u y).fact
    (record { premises = each_more (MayMatter t) b (requires y) tt (required_matter t e y entry among); fact = tt })))
    ) (rows_if (Matters t) y.is_script (b ∷ []) (ScriptRun u.target.krate u.placement) (λ yes. one t _ _ tt tt))

beside_all : (t : Tables) (e : CrateEntry) (u : UnitPlace) → Contains t.crates.items e → EachRow (Matters t) (needed_in_crate e u)
beside_all t e u entry =
    rows_some (Matters t) (slice_get e.targets.items u.target.index) (λ x. flat_map (needed_beside u x) e.targets.items) (λ (x : TargetEntry) is.
    rows_flat (Matters t) (needed_beside u x) e.targets.items (λ y among. beside_matters t e u x y entry among))

-- ---- what a build begins with

alone : (t : Tables) (n : FactModel) → MayMatter t n → Matters t [] n
alone t n h = record { premises = each_none (MayMatter t); fact = h }

root_matters : (t : Tables) (e : CrateEntry) → EachRow (Matters t) (root_alone e)
root_matters t e =
    let host = rule_if e.starts_on_host [] (Activated e.number sides.Host) in
    rows_more (Matters t) [] (Met e.number meetings.Root) (rule [] (Activated e.number sides.Targets) ∷ host) (alone t _ tt)
    (rows_more (Matters t) [] (Activated e.number sides.Targets) host (alone t _ tt) (rows_if (Matters t) e.starts_on_host [] (Activated e.number sides.Host) (λ yes. alone t _ tt)))

request_matters : (t : Tables) (e : CrateEntry) (v : Reference) → EachRow (Matters t) (requested e v)
request_matters t e v =
    let host = rule_if e.starts_on_host [] (ActivatedReference e.number sides.Host v) in
    rows_more (Matters t) [] (LinkedReference e.number meetings.Root v) (rule [] (ActivatedReference e.number sides.Targets v) ∷ host) (alone t _ tt)
    (rows_more (Matters t) [] (ActivatedReference e.number sides.Targets v) host (alone t _ tt) (rows_if (Matters t) e.starts_on_host [] (ActivatedReference e.number sides.Host v) (λ yes. alone t _ tt)))

roots_matter : (t : Tables) (e : CrateEntry) → EachRow (Matters t) (root_rows e)
roots_matter t e =
    let all = flat_map (λ v. requested e (reference_view v)) e.requested.items in
    rows_where (Matters t) e.is_root (root_alone e ++ all) (λ yes. rows_append (Matters t) (root_alone e) all (root_matters t e)
    (rows_flat (Matters t) (λ v. requested e (reference_view v)) e.requested.items (λ v among. request_matters t e (reference_view v))))

asked_matters : (t : Tables) (e : CrateEntry) (b : Bool) (mode : Mode) (x : TargetEntry) (number : ℕ) → Contains t.crates.items e → Contains e.targets.items x → EachRow (Matters t) (asked_in b mode x number)
asked_matters t e b mode x number entry among =
    let unit : UnitPlace = record { target = x.place; mode = mode; placement = goes_to x (machine_place number) } in
    rows_if (Matters t) b (asked_requires x) (Compiled unit)
    (λ yes. record { premises = each_unless (MayMatter t) x.is_library (requires x) (λ no. required_matter t e x entry among); fact = tt })

selected_matter : (t : Tables) (machines : ℕ) (e : CrateEntry) (x : TargetEntry) → Contains t.crates.items e → Contains e.targets.items x → EachRow (Matters t) (asked_rows machines x)
selected_matter t machines e x entry among =
    rows_unless (Matters t) x.is_script (flat_map (asked_for_machine x) (range_with_len 0 machines)) (λ no. rows_flat (Matters t) (asked_for_machine x) (range_with_len 0 machines) (λ number below.
    rows_append (Matters t) (asked_in x.is_asked modes.Build x number) (asked_in x.is_asked_with_tests modes.Test x number)
    (asked_matters t e x.is_asked modes.Build x number entry among) (asked_matters t e x.is_asked_with_tests modes.Test x number entry among)))

pub initial_matter : (t : Tables) → EachRow (Matters t) (initial_rows t)
initial_matter t =
    let machines = machine_count t in
    rows_flat (Matters t) (initial_in machines) t.crates.items (λ e entry.
    let all = flat_map (asked_rows machines) e.targets.items in
    rows_append (Matters t) (root_rows e) (if e.is_selected then all else []) (roots_matter t e)
    (rows_where (Matters t) e.is_selected all (λ yes. rows_flat (Matters t) (asked_rows machines) e.targets.items (λ x among. selected_matter t machines e x entry among))))

-- ---- all

-- what an instance uses that gives a text which is available
pub text_uses : (t : Tables) (c : ℕ) (text : Text) → EachRow (Uses t) (rows_of t (Available c text))
text_uses t c text =
    whole t (Uses t) (Available c text) (rows_one (Uses t) (ActivatedFeature c sides.Targets text ∷ []) (Available c text) (each_one (MayMatter t) (ActivatedFeature c sides.Targets text) tt))
    (λ e l. below_uses t c text l) (λ e entry. rows_none (Uses t))

-- what any other instance uses and gives
pub others_matter : (t : Tables) (b : FactModel) → ((c : ℕ) (text : Text) → b ≢ Available c text) → EachRow (Matters t) (rows_of t b)
others_matter t (Met c m) other = whole t (Matters t) (Met c m) (none t) (λ e l. met_link t c m l) (λ e entry. rows_flat (Matters t) (lost c m) e.lacking.items (λ x among. met_lost t c m x))
others_matter t (LinkedReference c m v) other = whole t (Matters t) (LinkedReference c m v) (by_reference t c m v) (λ e l. linked_toggle t c m v l)
    (λ e entry. rows_flat (Matters t) (λ name. linked_implied c m v name.now) e.implied.items (λ name among. implied_matters t c m v name.now))
others_matter t (LinkedFeature c m f) other = whole t (Matters t) (LinkedFeature c m f) (none t) (λ e l. none t) (λ e entry. linked_refer t c m f e)
others_matter t (LinkedName c m d) other = whole t (Matters t) (LinkedName c m d) (none t) (λ e l. none t) (λ e entry. none t)
others_matter t (Linked place) other = whole t (Matters t) (Linked place) (none t) (λ e l. none t)
    (λ e entry. rows_some (Matters t) (slice_get e.links.items place.index) (given_by_link place) (λ l is. link_gives t place l))
others_matter t (Lost c index) other = whole t (Matters t) (Lost c index) (none t) (λ e l. none t) (λ e entry. none t)
others_matter t (Activated c s) other = whole t (Matters t) (Activated c s) (none t) (λ e l. used_link t c s l) (λ e entry. none t)
others_matter t (ActivatedReference c s v) other = whole t (Matters t) (ActivatedReference c s v) (activated_by t c s v)
    (λ e l. rows_append (Matters t) (activated_strongly c s v l) (toggled t c s v l) (turned_on t c s v l) (side_toggle t c s v l)) (λ e entry. none t)
others_matter t (ActivatedFeature c s f) other = whole t (Matters t) (ActivatedFeature c s f) (none t) (λ e l. none t) (λ e entry. side_refer t c s f e)
others_matter t (ActivatedName c s d) other = whole t (Matters t) (ActivatedName c s d) (none t) (λ e l. named_link t c s d l) (λ e entry. none t)
others_matter t (Used place s) other = whole t (Matters t) (Used place s) (none t) (λ e l. none t)
    (λ e entry. rows_some (Matters t) (slice_get e.links.items place.index) (given_by_use t place s) (λ l is. use_gives t place s l))
others_matter t (Available c text) other = absurd (other c text refl)
others_matter t (Compiled u) other = whole t (Matters t) (Compiled u) (none t)
    (λ e l. rows_append (Matters t) (libraries_of_unit t e u l) (runs_of_unit t e u l) (unit_libraries t e u l) (unit_runs t e u l)) (λ e entry. beside_all t e u entry)
others_matter t (Needed place from u) other = whole t (Matters t) (Needed place from u) (rows_one (Matters t) (Needed place from u ∷ []) (Compiled u) (one t _ _ tt tt)) (λ e l. none t) (λ e entry. none t)
others_matter t (ScriptRun c at) other = whole t (Matters t) (ScriptRun c at) (rows_one (Matters t) (ScriptRun c at ∷ []) (ScriptCompiled c at.side) (one t _ _ tt tt)) (λ e l. none t) (λ e entry. none t)
others_matter t (ScriptCompiled c s) other = whole t (Matters t) (ScriptCompiled c s) (none t) (λ e l. script_libraries t c s l) (λ e entry. none t)
others_matter t (RunNeeded place from run) other = whole t (Matters t) (RunNeeded place from run) (none t) (λ e l. none t) (λ e entry. none t)
