-- The links by number are the needs of what cargo builds.
use Rattle.std.proofs.Common.{◌≡◌, ◌≢◌, ◌↔◌, ℕ, List, Option, Some, Contains, true, refl, sym, ap, ◌∙◌, subst}
use Rattle.std.proofs.lemmas.Option.{same_Some}
use Rattle.std.specs.List.{slice_get}
use Rattle.std.specs.Option.{option_and_then}
use Rattle.krates_cm.specs.Document.{DependencyModel, Text}
use Rattle.krates_cm.specs.declared.dependency.DependencyKind.{DependencyKind}
use Rattle.krates_cm.specs.declared.dependency.DependencyKind.TheVariants.{Build}
use Rattle.krates_rules.specs.DeclaredDependency.{declared_name}
use Rattle.krates_rules.specs.Facts.{Id, Edge}
use Rattle.krates_rules.specs.Kind.{kind_of}
use Rattle.krates_rules.specs.Resolved.{Resolved}
use Rattle.krates_units.specs.BuildFacts.{CompiledUnit, Placement, Platform}
use Rattle.krates_units.specs.BuildFacts as means
use Rattle.krates_units.specs.BuildSetting.{BuildSettingModel}
use Rattle.krates_units.specs.Built.{IsDerivable}
use Rattle.krates_units.specs.Machines.{MachineModel}
use Rattle.krates_units.specs.Sides.{HasFeaturesOf}
use Rattle.krates_units.specs.declared.sides.Side.{Side}
use Rattle.krates_build_tables.specs.TablesOf.{AreTables, CrateAt, LinkSays}
use Rattle.krates_build_tables.specs.declared.tables.CrateEntry.{CrateEntry}
use Rattle.krates_build_tables.specs.declared.tables.Link.{Link}
use Rattle.krates_build_tables.specs.declared.tables.LinkPlace.{LinkPlace}
use Rattle.krates_build_tables.specs.declared.tables.Tables.{Tables}
use Rattle.krates_build_facts.specs.FactModels.{FactModel, ActivatedName, Needed, ScriptRun}
use Rattle.krates_build_facts.specs.Meanings.{EachHasMeaning, EachHasNumber, Follows, FollowsAsDerivable, LinkMeans, Means, PlacementMeans, PlatformMeans, UnitMeans}
use Rattle.krates_build_facts.specs.Rows.{features_side}
use Rattle.krates_build_facts.specs.declared.facts.PlacementNumber.{PlacementNumber}
use Rattle.krates_build_facts.specs.declared.facts.PlatformNumber.{PlatformNumber}
use Rattle.krates_build_facts.specs.declared.facts.UnitPlace.{UnitPlace}
use Rattle.krates_build_facts.proofs.Decisions.{features_means, features_tells}
use Rattle.krates_build_facts.proofs.FactNumbers.{of_number}
use Rattle.krates_build_facts.proofs.UniqueMeanings.{one_at, one_id}
use Rattle.krates_built.specs.BuildLists.{need_fact, run_fact}
use Rattle.krates_built.specs.declared.places.NeedPlace.{NeedPlace}
use Rattle.krates_built.specs.declared.places.RunPlace.{RunPlace}
use Rattle.krates_build_answers.specs.BuiltMeanings.{BuiltMeans}
use Rattle.krates_build_answers.specs.LinkMeanings.{AreNeeds, CountsFor, CrateNeed, IsNeedOf, IsOver, LinkIs, LinksAreNeeds, of_script, of_unit}
use Rattle.krates_build_answers.specs.Links.{AreLinksIn, IsLinkAt, IsLinkOver, IsOfRun, IsOfScript, IsRunFor, IsTurnedOn, link_at, over}
use Rattle.krates_build_answers.specs.Links as links
use Rattle.krates_build_answers.specs.declared.links.BuildLink.{BuildLink}

-- the need of this crate, for this platform, of a library, by a dependency of this kind
abbrev need_of : Id → Platform → CompiledUnit → DependencyKind → CrateNeed
need_of i k u kind = record { parent = i; from = k; child = u.krate; for = u.placement.platform; kind = kind }

module _ (exact : FollowsAsDerivable) (sound : EachHasMeaning) (complete : EachHasNumber) (r : Resolved) (s : BuildSettingModel) (ids : List Id)
    (ms : List MachineModel) (t : Tables) (tables : AreTables r s ids ms t) where
  -- ---- the link at a place

  -- the link that a place means is there
  link_there : (place : LinkPlace) (e : Edge) (d : DependencyModel) (h : LinkMeans r s ids ms t place e d) → link_at t place ≡ Some h.link
  link_there place e d h = ap (λ (o : Option CrateEntry). option_and_then (λ x. slice_get x.links.items place.index) o) h.entry_at.at ∙ h.at

  -- what is there is of the edge and the dependency that the place means
  says_there : (place : LinkPlace) (e : Edge) (d : DependencyModel) (h : LinkMeans r s ids ms t place e d) (l : Link) → link_at t place ≡ Some l → LinkSays r s ids ms h.id l e d
  says_there place e d h l at = subst (λ (x : Link). LinkSays r s ids ms h.id x e d) (one_at (link_at t place) h.link l (link_there place e d h) at) h.says

  -- the crate of the place is the edge's parent
  parent_at : (place : LinkPlace) (e : Edge) (d : DependencyModel) → LinkMeans r s ids ms t place e d → CrateAt ids place.krate e.parent
  parent_at place e d h = subst (CrateAt ids place.krate) (sym h.says.parent) h.entry_at.crate_at

  -- ---- what is turned on

  named : (c : ℕ) (i : Id) → CrateAt ids c i → (n : Side) (name other : Text) → name ≡ other
      → Follows t (ActivatedName c n name) ↔ IsDerivable r s (means.ActivatedName i n other)
  named c i at n name other same = subst (λ (f : Text). Follows t (ActivatedName c n name) ↔ IsDerivable r s (means.ActivatedName i n f)) same
      (exact r s ids ms t tables (ActivatedName c n name) (means.ActivatedName i n name) (i, at, refl))

  module _ (e : Edge) (d : DependencyModel) (l : Link) (i : Id) (says : LinkSays r s ids ms i l e d) (run : RunPlace) (at : CrateAt ids run.krate e.parent) where
    counts : IsTurnedOn t l run → CountsFor r s e d run.placement.side
    counts on optional = (
      features_side t run.placement.side,
      features_means s t run.placement.side tables.first,
      (named run.krate e.parent at (features_side t run.placement.side) l.name.now (declared_name d) says.name).0 (on (says.optional ∙ optional)),
    )

    turned : CountsFor r s e d run.placement.side → IsTurnedOn t l run
    turned h optional =
        let w = h (sym says.optional ∙ optional) in
        let same : w.0 ≡ features_side t run.placement.side = features_tells s t run.placement.side w.0 tables.first w.1 in
        subst (λ (n : Side). Follows t (ActivatedName run.krate n l.name.now)) same
        ((named run.krate e.parent at w.0 l.name.now (declared_name d) says.name).1 w.2)

  -- ---- each link is a need

  -- the link over a need is that need, for this platform
  over_is : (need : NeedPlace) (e : Edge) (d : DependencyModel) (u : CompiledUnit) (h : LinkMeans r s ids ms t need.link e d) → UnitMeans ids ms t need.library u
      → (l : Link) → link_at t need.link ≡ Some l → (from : PlatformNumber) (k : Platform) → PlatformMeans ms from k
      → LinkIs ids ms (over need from l.kind) (need_of e.parent k u e.kind)
  over_is need e d u h unit l at from k m = record {
    from = record { crate_at = parent_at need.link e d h; platform = m };
    to = record { crate_at = unit.entry_at.crate_at; platform = unit.placement.platform };
    kind = ap kind_of (sym (says_there need.link e d h l at).kind);
  }

  own : (e : Edge) (k : Platform) (u : CompiledUnit) → IsOver (need_of e.parent k u e.kind) e u
  own e k u = record { parent = refl; kind = refl; child = refl; platform = refl }

  unit_need : (need : NeedPlace) → Follows t (need_fact need) → (l : Link) → link_at t need.link ≡ Some l → l.kind ≢ Build
      → (n : CrateNeed) × LinkIs ids ms (over need need.from l.kind) n × IsNeedOf r s n
  unit_need need follows l at isnt =
      let w = sound r s ids ms t tables (need_fact need) follows in
      let e = w.1.0 in
      let d = w.1.1 in
      let k = w.1.2 in
      let u = w.1.3 in
      let h = w.1.4 in
      let says = says_there need.link e d h l at in (
        need_of e.parent k u e.kind,
        over_is need e d u h w.1.6 l at need.from k w.1.5,
        of_unit e d u (subst (IsDerivable r s) w.1.7 w.2) (λ is. isnt (sym says.kind ∙ is)) (own e k u),
      )

  script_need : (need : NeedPlace) → Follows t (need_fact need) → (l : Link) → link_at t need.link ≡ Some l → l.kind ≡ Build → (run : RunPlace)
      → Follows t (run_fact run) → IsRunFor t need l run → (n : CrateNeed) × LinkIs ids ms (over need run.placement.platform l.kind) n × IsNeedOf r s n
  script_need need follows l at is run ran for =
      let w = sound r s ids ms t tables (need_fact need) follows in
      let v = sound r s ids ms t tables (run_fact run) ran in
      let e = w.1.0 in
      let d = w.1.1 in
      let u = w.1.3 in
      let h = w.1.4 in
      let place = v.1.1 in
      let says = says_there need.link e d h l at in
      let here : CrateAt ids run.krate e.parent = subst (λ (c : ℕ). CrateAt ids c e.parent) (sym for.krate) (parent_at need.link e d h) in
      let same : v.1.0 ≡ e.parent = one_id ids run.krate v.1.0 e.parent v.1.2 here in
      let runs : IsDerivable r s (means.ScriptRun e.parent place) = subst (λ (i : Id). IsDerivable r s (means.ScriptRun i place)) same (subst (IsDerivable r s) v.1.4 v.2) in (
        need_of e.parent place.platform u e.kind,
        over_is need e d u h w.1.6 l at run.placement.platform place.platform v.1.3.platform,
        of_script e d w.1.2 u (subst (IsDerivable r s) w.1.7 w.2) (says.kind ∙ is) (own e place.platform u) place runs refl
            (subst (CountsFor r s e d) v.1.3.side (counts e d l h.id says run here for.turned_on)),
      )

  -- what is said of a link is said of an equal one
  at_link : (x y : BuildLink) → x ≡ y → (n : CrateNeed) × LinkIs ids ms x n × IsNeedOf r s n → (n : CrateNeed) × LinkIs ids ms y n × IsNeedOf r s n
  at_link x y same w = (w.0, subst (λ (z : BuildLink). LinkIs ids ms z w.0) same w.1, w.2)

  is_over : (x : BuildLink) (need : NeedPlace) → Follows t (need_fact need) → (l : Link) → link_at t need.link ≡ Some l → links.IsOver t need l x
      → (n : CrateNeed) × LinkIs ids ms x n × IsNeedOf r s n
  is_over x need follows l at (links.of_unit isnt same) = at_link (over need need.from l.kind) x same (unit_need need follows l at isnt)
  is_over x need follows l at (links.of_script is h) =
      at_link (over need h.run.placement.platform l.kind) x h.is.is (script_need need follows l at is h.run h.follows h.is.run_for)

  is_need : (x : BuildLink) → IsLinkAt t x → (n : CrateNeed) × LinkIs ids ms x n × IsNeedOf r s n
  is_need x w = is_over x w.need w.follows w.is.link w.is.at w.is.is

  -- ---- each need has a link

  -- the number of a need
  record NeedAt (e : Edge) (d : DependencyModel) (k : Platform) (u : CompiledUnit) : Type 0 where
    need : NeedPlace
    follows : Follows t (need_fact need)
    link : LinkMeans r s ids ms t need.link e d
    platform : PlatformMeans ms need.from k
    unit : UnitMeans ids ms t need.library u

  need_at : (e : Edge) (d : DependencyModel) (k : Platform) (u : CompiledUnit) → IsDerivable r s (means.Needed e d k u) → NeedAt e d k u
  need_at e d k u h =
      let w = complete r s ids ms t tables (means.Needed e d k u) h in
      of_number r s ids ms t (λ (n : FactModel). Follows t n → NeedAt e d k u) (means.Needed e d k u) (λ place from library link platform unit follows.
      record { need = record { link = place; from = from; library = library }; follows = follows; link = link; platform = platform; unit = unit }) w.0 w.1 w.2

  run_at : (i : Id) (at : Placement) → IsDerivable r s (means.ScriptRun i at) → (run : RunPlace) × Follows t (run_fact run) × CrateAt ids run.krate i × PlacementMeans ms run.placement at
  run_at i at h =
      let w = complete r s ids ms t tables (means.ScriptRun i at) h in
      of_number r s ids ms t (λ (n : FactModel). Follows t n → (run : RunPlace) × Follows t (run_fact run) × CrateAt ids run.krate i × PlacementMeans ms run.placement at)
      (means.ScriptRun i at) (λ c place here is follows. (record { krate = c; placement = place }, follows, here, is)) w.0 w.1 w.2

  -- the need over an edge is that need
  as_need : (x : BuildLink) (n : CrateNeed) (e : Edge) (k : Platform) (u : CompiledUnit) → IsOver n e u → k ≡ n.from → LinkIs ids ms x (need_of e.parent k u e.kind) → LinkIs ids ms x n
  as_need x n e k u o from is = subst (LinkIs ids ms x)
      (λ z. record { parent = o.parent z; from = from z; child = o.child z; for = o.platform z; kind = o.kind z }) is

  link_of : (n : CrateNeed) → IsNeedOf r s n → (x : BuildLink) × IsLinkAt t x × LinkIs ids ms x n
  link_of n (of_unit e d u h isnt o) =
      let w = need_at e d n.from u h in
      let l = w.link.link in
      let at = link_there w.need.link e d w.link in
      let x = over w.need w.need.from l.kind in (
        x,
        record { need = w.need; follows = w.follows; is = record { link = l; at = at; is = links.of_unit (λ is. isnt (w.link.says.kind ∙ is)) refl } },
        as_need x n e n.from u o refl (over_is w.need e d u w.link w.unit l at w.need.from n.from w.platform),
      )
  link_of n (of_script e d k u h is o place ran from on) =
      let w = need_at e d k u h in
      let v = run_at e.parent place ran in
      let l = w.link.link in
      let at = link_there w.need.link e d w.link in
      let run = v.0 in
      let x = over w.need run.placement.platform l.kind in
      let same : run.krate ≡ w.need.link.krate = tables.ids_once run.krate w.need.link.krate e.parent v.2 (parent_at w.need.link e d w.link) in
      let for : IsRunFor t w.need l run = record { krate = same; turned_on = turned e d l w.link.id w.link.says run v.2 (subst (CountsFor r s e d) (sym v.3.side) on) } in (
        x,
        record {
          need = w.need;
          follows = w.follows;
          is = record {
            link = l;
            at = at;
            is = links.of_script (sym w.link.says.kind ∙ is) (record { run = run; follows = v.1; is = record { run_for = for; is = refl } });
          };
        },
        as_need x n e place.platform u o from (over_is w.need e d u w.link w.unit l at run.placement.platform place.platform v.3.platform),
      )

  pub are_needs : (found : List BuildLink) → AreLinksIn t found → AreNeeds r s ids ms found
  are_needs found whole = record {
    each = λ x c. is_need x ((whole x).0 c);
    all = λ n h. (let w = link_of n h in (w.0, (whole w.0).1 w.1, w.2));
  }

pub links_are_needs : FollowsAsDerivable → EachHasMeaning → EachHasNumber → LinksAreNeeds
links_are_needs exact sound complete r s ids ms t tables found whole = are_needs exact sound complete r s ids ms t tables found whole
