-- A number means at most one fact.
use Rattle.std.proofs.Common.{◌≡◌, ℕ, List, Option, Some, sym, ap, ◌∙◌, subst}
use Rattle.std.specs.List.{slice_get}
use Rattle.krates_cm.specs.Document.{DependencyModel, dependency_view, target_view}
use Rattle.krates_rules.specs.Facts.{Id, Edge}
use Rattle.krates_rules.specs.Resolved.{Resolved}
use Rattle.krates_units.specs.BuildFacts.{Fact, CompiledUnit, Platform, Placement}
use Rattle.krates_units.specs.BuildSetting.{BuildSettingModel}
use Rattle.krates_units.specs.Machines.{MachineModel}
use Rattle.krates_build_tables.specs.TablesOf.{CrateAt, LinkSays}
use Rattle.krates_build_tables.specs.declared.tables.CrateEntry.{CrateEntry}
use Rattle.krates_build_tables.specs.declared.tables.Lacking.{Lacking}
use Rattle.krates_build_tables.specs.declared.tables.Link.{Link}
use Rattle.krates_build_tables.specs.declared.tables.LinkPlace.{LinkPlace}
use Rattle.krates_build_tables.specs.declared.tables.Tables.{Tables}
use Rattle.krates_build_tables.specs.declared.tables.TargetEntry.{TargetEntry}
use Rattle.krates_build_facts.specs.FactModels.{FactModel, Met, LinkedReference, LinkedFeature, LinkedName, Linked, Lost, Activated, ActivatedReference, ActivatedFeature, ActivatedName, Used, Available, Compiled, Needed, ScriptRun, ScriptCompiled, RunNeeded}
use Rattle.krates_build_facts.specs.Meanings.{EntryAt, LackingMeans, LinkMeans, Means, PlacementMeans, PlatformMeans, UnitMeans}
use Rattle.krates_build_facts.specs.declared.facts.PlacementNumber.{PlacementNumber}
use Rattle.krates_build_facts.specs.declared.facts.PlatformNumber.{PlatformNumber}
use Rattle.krates_build_facts.specs.declared.facts.PlatformNumber.TheVariants as platforms
use Rattle.krates_build_facts.specs.declared.facts.UnitPlace.{UnitPlace}

-- what is at a place is one
pub one_at : {A : Type 0} (o : Option A) (x y : A) → o ≡ Some x → o ≡ Some y → x ≡ y
one_at o x y h k = cc

pub one_id : (ids : List Id) (c : ℕ) (i j : Id) → CrateAt ids c i → CrateAt ids c j → i ≡ j
one_id ids c i j h k = one_at (slice_get ids c) i j h k

one_entry : (ids : List Id) (t : Tables) (c : ℕ) (i j : Id) (e f : CrateEntry) → EntryAt ids t c i e → EntryAt ids t c j f → e ≡ f
one_entry ids t c i j e f h k = one_at (slice_get t.crates.items c) e f h.at k.at

-- ---- links

same_edge : (e f : Edge) → e.parent ≡ f.parent → e.child ≡ f.child → e.kind ≡ f.kind → e.cfg ≡ f.cfg → e ≡ f
same_edge e f a b c d = λ x. record { parent = a x; child = b x; kind = c x; cfg = d x }

-- the edge that a link is of
one_edge : (r : Resolved) (s : BuildSettingModel) (ids : List Id) (ms : List MachineModel) (i j : Id) (l : Link) (e f : Edge)
    (d g : DependencyModel) → LinkSays r s ids ms i l e d → LinkSays r s ids ms j l f g → i ≡ j → e ≡ f
one_edge r s ids ms i j l e f d g h k same =
    same_edge e f (h.parent ∙ same ∙ sym k.parent) (one_id ids l.child e.child f.child h.child k.child) (h.kind ∙ sym k.kind)
    (h.cfg ∙ sym k.cfg)

one_link : (r : Resolved) (s : BuildSettingModel) (ids : List Id) (ms : List MachineModel) (t : Tables) (place : LinkPlace)
    (e f : Edge) (d g : DependencyModel) (h : LinkMeans r s ids ms t place e d) (k : LinkMeans r s ids ms t place f g) → h.link ≡ k.link
one_link r s ids ms t place e f d g h k =
    let entry = one_entry ids t place.krate h.id k.id h.entry k.entry h.entry_at k.entry_at in
    one_at (slice_get k.entry.links.items place.index) h.link k.link
    (subst (λ (x : CrateEntry). slice_get x.links.items place.index ≡ Some h.link) entry h.at) k.at

one_linked : (r : Resolved) (s : BuildSettingModel) (ids : List Id) (ms : List MachineModel) (t : Tables) (place : LinkPlace)
    (e f : Edge) (d g : DependencyModel) → LinkMeans r s ids ms t place e d → LinkMeans r s ids ms t place f g → (e ≡ f) × (d ≡ g)
one_linked r s ids ms t place e f d g h k =
    let link = one_link r s ids ms t place e f d g h k in
    let says = subst (λ (l : Link). LinkSays r s ids ms h.id l e d) link h.says in
    let id = one_id ids place.krate h.id k.id h.entry_at.crate_at k.entry_at.crate_at in
    (one_edge r s ids ms h.id k.id k.link e f d g says k.says id, sym says.declared ∙ k.says.declared)

-- ---- what is lacking

one_lacking : (ids : List Id) (t : Tables) (c index : ℕ) (i j : Id) (d g : DependencyModel) → LackingMeans ids t c index i d
    → LackingMeans ids t c index j g → (i ≡ j) × (d ≡ g)
one_lacking ids t c index i j d g h k =
    let entry = one_entry ids t c i j h.entry k.entry h.entry_at k.entry_at in
    let here = subst (λ (x : CrateEntry). slice_get x.lacking.items index ≡ Some h.lacking) entry h.at in
    let same = one_at (slice_get k.entry.lacking.items index) h.lacking k.lacking here k.at in (
      one_id ids c i j h.entry_at.crate_at k.entry_at.crate_at,
      sym h.declared ∙ ap
          (λ (x : Lacking). dependency_view x.declared.now) same ∙ k.declared,
    )

-- ---- units

one_platform : (ms : List MachineModel) (n : PlatformNumber) (k l : Platform) → PlatformMeans ms n k → PlatformMeans ms n l → k ≡ l
one_platform ms platforms.Host k l h g = h ∙ sym g
one_platform ms (platforms.Machine number) k l (m, at, is) (n, bt, js) = cc

one_placement : (ms : List MachineModel) (n : PlacementNumber) (a b : Placement) → PlacementMeans ms n a → PlacementMeans ms n b → a ≡ b
one_placement ms n a b h k =
    let platform = one_platform ms n.platform a.platform b.platform h.platform k.platform in
    let side = sym h.side ∙ k.side in
    λ x. record { platform = platform x; side = side x }

one_unit : (ids : List Id) (ms : List MachineModel) (t : Tables) (place : UnitPlace) (u v : CompiledUnit) → UnitMeans ids ms t place u
    → UnitMeans ids ms t place v → u ≡ v
one_unit ids ms t place u v h k =
    let id = one_id ids place.target.krate u.krate v.krate h.entry_at.crate_at k.entry_at.crate_at in
    let entry = one_entry ids t place.target.krate u.krate v.krate h.entry k.entry h.entry_at k.entry_at in
    let here = subst (λ (x : CrateEntry). slice_get x.targets.items place.target.index ≡ Some h.target) entry h.at in
    let same = one_at (slice_get k.entry.targets.items place.target.index) h.target k.target here k.at in
    let target = sym h.target_is ∙ ap (λ (x : TargetEntry). target_view x.target.now) same ∙ k.target_is in
    let mode = sym h.mode ∙ k.mode in
    let placement = one_placement ms place.placement u.placement v.placement h.placement k.placement in
    λ x. record { krate = id x; target = target x; mode = mode x; placement = placement x }

-- ---- facts

pub unique_meaning : (r : Resolved) (s : BuildSettingModel) (ids : List Id) (ms : List MachineModel) (t : Tables) (n : FactModel)
    (f g : Fact) → Means r s ids ms t n f → Means r s ids ms t n g → f ≡ g
unique_meaning r s ids ms t (Met c m) f g (i, at, e) (j, bt, k) = let same = one_id ids c i j at bt in cc
unique_meaning r s ids ms t (LinkedReference c m v) f g (i, at, e) (j, bt, k) = cc
unique_meaning r s ids ms t (LinkedFeature c m x) f g (i, at, e) (j, bt, k) = cc
unique_meaning r s ids ms t (LinkedName c m d) f g (i, at, e) (j, bt, k) = cc
unique_meaning r s ids ms t (Linked place) f g (e, d, is, p) (h, k, js, q) = let same = one_linked r s ids ms t place e h d k is js in cc
unique_meaning r s ids ms t (Lost c index) f g (i, d, is, p) (j, k, js, q) = let same = one_lacking ids t c index i j d k is js in cc
unique_meaning r s ids ms t (Activated c n) f g (i, at, e) (j, bt, k) = cc
unique_meaning r s ids ms t (ActivatedReference c n v) f g (i, at, e) (j, bt, k) = cc
unique_meaning r s ids ms t (ActivatedFeature c n x) f g (i, at, e) (j, bt, k) = cc
unique_meaning r s ids ms t (ActivatedName c n d) f g (i, at, e) (j, bt, k) = cc
unique_meaning r s ids ms t (Used place n) f g (e, d, is, p) (h, k, js, q) = let same = one_linked r s ids ms t place e h d k is js in cc
unique_meaning r s ids ms t (Available c text) f g (i, at, e) (j, bt, k) = cc
unique_meaning r s ids ms t (Compiled place) f g (u, is, p) (v, js, q) = let same = one_unit ids ms t place u v is js in cc
unique_meaning r s ids ms t (Needed place from library) f g (e, d, a, u, link, platform, unit, p) (h, k, b, v, link', platform', unit', q) =
    let edge = one_linked r s ids ms t place e h d k link link' in
    let same = one_platform ms from a b platform platform' in
    let one = one_unit ids ms t library u v unit unit' in
    cc
unique_meaning r s ids ms t (ScriptRun c at) f g (i, a, is, p, q) (j, b, js, x, y) = let same = one_placement ms at a b p x in cc
unique_meaning r s ids ms t (ScriptCompiled c n) f g (i, at, e) (j, bt, k) = cc
unique_meaning r s ids ms t (RunNeeded place from run) f g (e, d, a, b, link, one, other, p) (h, k, x, y, link', one', other', q) =
    let edge = one_linked r s ids ms t place e h d k link link' in
    let first = one_placement ms from a x one one' in
    let second = one_placement ms run b y other other' in
    cc
