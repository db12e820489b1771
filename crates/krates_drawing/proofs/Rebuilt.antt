-- A build that ignores one more kind keeps exactly what kept members reach without edges of that kind.
use Rattle.std.proofs.Common.{◌≡◌, inl, inr, ℕ, List, Contains, refl, sym, ap, ◌∙◌, subst}
use Rattle.std.specs.Bool.{⊤}
use Rattle.krates_rules.specs.Derivation.{Among, Derivable, follows}
use Rattle.krates_rules.specs.Facts.{Id, Edge, Fact, Crate, Feature, Kept, Toggled, Lost}
use Rattle.krates_rules.specs.Kind.{kind_of, IgnoresMore}
use Rattle.krates_rules.specs.Narrowing.{IsNarrowing, ignores_more}
use Rattle.krates_rules.specs.Questions.{questions}
use Rattle.krates_rules.specs.Resolved.{Resolved, IsMember}
use Rattle.krates_rules.specs.Roots.{IsRoot, of_graph, of_workspace, of_manifests}
use Rattle.krates_rules.specs.Rules as rules
use Rattle.krates_rules.specs.Rules.{Questions, Rule}
use Rattle.krates_rules.specs.Setting.{SettingModel}
use Rattle.krates_rules.specs.declared.kind.DepKind.{DepKind}
use Rattle.krates_rules.specs.declared.kind.IgnoredKinds.{IgnoredKinds}
use Rattle.krates_rules.specs.declared.kind.Scope.TheVariants as scopes
use Rattle.krates_drawing.specs.Drawing.{Endpoint, AtCrate, AtFeature, EdgeModel, PlannedEdge, line, number, crate_number, planned_edges}
use Rattle.krates_drawing.specs.Outline.{EdgeRow, Outline}
use Rattle.krates_drawing.specs.Paths.{LeadsWithout, Passes, Reaches, begins, goes_on, IsMemberNumber, IsFiltered}
use Rattle.krates_drawing.specs.Rebuilding.{HasMemberRoot, EnablesNoFeature, MembersAreRoots, FilteredHoldsRebuild}
use Rattle.krates_drawing.proofs.DrawnEdges.{IsDrawnEdge, dep, dep_feature, toggles, own, names, names_crate, names_feature, KeepsEnds, edge_in, drawn_of}
use Rattle.krates_drawing.proofs.Closed.{keeps_ends, given_enabled, ends_stand, toggle_enabled}
use Rattle.krates_drawing.proofs.Derivations.{one, crate_of_feature, kept_by, needed_by, kept_stands}
use Rattle.krates_drawing.proofs.Drawn.{drawn_in, has_drawn}
use Rattle.krates_drawing.proofs.Holding.{Holds, holds}
use Rattle.krates_drawing.proofs.Ignoring.{ignoring, root_alike, stands_alike, other_kind, wanted_alike}
use Rattle.krates_rules.proofs.Members.{Member, member_of, contains_of, Front, front_of}
use Rattle.krates_rules.proofs.Members as members
use Rattle.krates_drawing.proofs.NodeNumbers.{Stands, crate_stands, one_number}

-- ---- the two builds

-- a selection under the first setting, beside a setting that ignores one more kind
record Pair (r : Resolved) (s : SettingModel) (g : IgnoredKinds) (k : DepKind) (t : Outline) : Type 0 where
  more : IgnoresMore s.ignored g k scopes.All
  holds : Holds r s t
  within : (f : Fact) → Derivable (questions r (ignoring s g)) f → Derivable (questions r s) f

-- the node is reached without edges of the kind
abbrev ReachesEnd : Resolved → DepKind → Outline → Endpoint → Type 0
ReachesEnd r k t e = Reaches (LeadsWithout k (planned_edges t)) (IsMemberNumber r t) (number t e)

-- ---- every crate that the second keeps is reached

along : (r : Resolved) (k : DepKind) (t : Outline) (from to : Endpoint) (tie : EdgeModel) → KeepsEnds t → IsDrawnEdge t from to tie → Passes k tie → ReachesEnd r k t from → ReachesEnd r k t to
along r k t from to tie ends planned passes here =
    goes_on {n = number t from} {m = number t to} here
    (record { line = line t from to tie; among = contains_of (planned_edges t) (line t from to tie) (edge_in t from to tie ends planned); passes = passes; from = refl; to = refl })

child_reached : (r : Resolved) (s : SettingModel) (g : IgnoredKinds) (k : DepKind) (t : Outline) → Pair r s g k t → (l : EdgeRow) → Member t.links l → (kind_of l.edge.kind ≡ k → ⊥)
    → ReachesEnd r k t (AtCrate l.edge.parent) → ReachesEnd r k t (AtCrate l.edge.child)
child_reached r s g k t w l at other here = by (front_of l.given)
  where
    ends : KeepsEnds t
    ends = keeps_ends r s t w.holds

    by : Front l.given → ReachesEnd r k t (AtCrate l.edge.child)
    by (members.empty none) = along r k t _ _ _ ends (dep l at none) other here
    by (members.begins f fs is) =
        let gives : Member l.given f = subst (λ z. Member z f) (sym is) (inl refl) in
        let there = w.holds.feature_in l.edge.child f (given_enabled r s t l f w.holds at gives) in
        let at_feature : ReachesEnd r k t (AtFeature l.edge.child f) = along r k t _ _ _ ends (dep_feature l f at gives) other here in
        let same : AtFeature there.named.krate there.named.name ≡ AtFeature l.edge.child f = ap (λ i. AtFeature i there.named.name) there.krate ∙ ap (AtFeature l.edge.child) there.name in
        let at_own : ReachesEnd r k t (AtCrate there.named.krate) = along r k t _ _ _ ends (own there.named there.member) tt (subst (ReachesEnd r k t) (sym same) at_feature) in
        subst (λ i. ReachesEnd r k t (AtCrate i)) there.krate at_own

kept_kind : (r : Resolved) (s : SettingModel) (g : IgnoredKinds) (k : DepKind) (e : Edge) → IgnoresMore s.ignored g k scopes.All → Derivable (questions r (ignoring s g)) (Kept e) → kind_of e.kind ≡ k → ⊥
unfolding questions
kept_kind r s g k e more d = other_kind r s g k e more (kept_by (questions r (ignoring s g)) e d).opened.wanted.declared.not_ignored

edge_reached : (r : Resolved) (s : SettingModel) (g : IgnoredKinds) (k : DepKind) (t : Outline) → Pair r s g k t → (e : Edge) → Derivable (questions r (ignoring s g)) (Kept e)
    → ReachesEnd r k t (AtCrate e.parent) → ReachesEnd r k t (AtCrate e.child)
edge_reached r s g k t w e d here =
    let l = w.holds.link_in e (w.within (Kept e) d) in
    let other = kept_kind r s g k e w.more d in
    subst (λ (z : Edge). ReachesEnd r k t (AtCrate z.child)) l.is
    (child_reached r s g k t w l.link l.member (λ same. other (ap (λ (z : Edge). kind_of z.kind) (sym l.is) ∙ same)) (subst (λ (z : Edge). ReachesEnd r k t (AtCrate z.parent)) (sym l.is) here))

-- the crate of a fact is reached
abbrev ReachedFor : Resolved → DepKind → Outline → Fact → Type 0
ReachedFor r k t (Crate p) = ReachesEnd r k t (AtCrate p)
ReachedFor r k t (Feature p f) = ReachesEnd r k t (AtCrate p)
ReachedFor r k t (Kept e) = ReachesEnd r k t (AtCrate e.child)
ReachedFor r k t (Toggled p q f) = ReachesEnd r k t (AtCrate q)
ReachedFor r k t (Lost x) = ⊤

root_member : (r : Resolved) (s : SettingModel) (p : Id) → HasMemberRoot r → IsRoot r s p → IsMember r p
root_member r s p has (of_graph {t} none off is reads) = has t p is reads
root_member r s p has (of_workspace asks member) = member
root_member r s p has (of_manifests not member h) = member

root_reached : (r : Resolved) (s : SettingModel) (g : IgnoredKinds) (k : DepKind) (t : Outline) → Pair r s g k t → HasMemberRoot r → (p : Id) → (questions r (ignoring s g)).Root p
    → Derivable (questions r (ignoring s g)) (Crate p) → ReachesEnd r k t (AtCrate p)
unfolding questions
root_reached r s g k t w has p root d = begins {n = crate_number t p} (record {
  member = p;
  kept = drawn_in t p (w.holds.crate_in p (w.within (Crate p) d));
  is_member = root_member r (ignoring s g) p has root;
  number = refl;
})

reached_by : (r : Resolved) (s : SettingModel) (g : IgnoredKinds) (k : DepKind) (t : Outline) → Pair r s g k t → HasMemberRoot r → (n : ℕ) (ps : List Fact) (f : Fact) → Rule (questions r (ignoring s g)) n ps f
    → Derivable (questions r (ignoring s g)) f → ((h : Fact) → Among h ps → ReachedFor r k t h) → ReachedFor r k t f
reached_by r s g k t w has _ _ _ (rules.root_crate {p} root stands) d ps = root_reached r s g k t w has p root d
reached_by r s g k t w has _ _ _ (rules.root_feature {p} {f} root stands lists) d ps = root_reached r s g k t w has p root (crate_of_feature (questions r (ignoring s g)) p f d)
reached_by r s g k t w has _ _ _ (rules.feature_crate {p} {f}) d ps = ps (Feature p f) (inl refl)
reached_by r s g k t w has _ _ _ (rules.named {p} {f} {g = h} refers lists) d ps = ps (Feature p f) (inl refl)
reached_by r s g k t w has _ _ _ (rules.asked {e} {f} {d = i} x o) d ps = edge_reached r s g k t w e d (ps (Feature e.parent f) (inl refl))
reached_by r s g k t w has _ _ _ (rules.toggled_strongly {e} {f} {g = h} {c = i} x means lists) d ps = ps (Kept e) (inr (inl refl))
reached_by r s g k t w has _ _ _ (rules.required {e} {d = i} o h) d ps = edge_reached r s g k t w e d (ps (Crate e.parent) (inl refl))
reached_by r s g k t w has _ _ _ (rules.target {e}) d ps = ps (Kept e) (inl refl)
reached_by r s g k t w has _ _ _ (rules.declared {e} {d = i} {g = h} x among lists) d ps = ps (Kept e) (inl refl)
reached_by r s g k t w has _ _ _ (rules.by_default {e} {d = i} x u lists) d ps = ps (Kept e) (inl refl)
reached_by r s g k t w has _ _ _ (rules.toggled_weakly {e} {f} {g = h} {c = i} x means lists) d ps = ps (Kept e) (inr (inl refl))
reached_by r s g k t w has _ _ _ (rules.toggled_feature {p} {c = i} {g = h}) d ps = ps (Toggled p i h) (inl refl)
reached_by r s g k t w has _ _ _ _ d ps = tt

all_reached : (r : Resolved) (s : SettingModel) (g : IgnoredKinds) (k : DepKind) (t : Outline) → Pair r s g k t → HasMemberRoot r → (f : Fact) → Derivable (questions r (ignoring s g)) f → ReachedFor r k t f
all_reached r s g k t w has _ (follows {rule} {premises} {f} x ds) = reached_by r s g k t w has rule premises f x (follows x ds) (λ h m. all_reached r s g k t w has h (ds h m))

filtered_in : (r : Resolved) (s : SettingModel) (g : IgnoredKinds) (k : DepKind) (t : Outline) → Pair r s g k t → HasMemberRoot r → (p : Id) → Derivable (questions r (ignoring s g)) (Crate p) → IsFiltered r t k p
filtered_in r s g k t w has p d = record {
  kept = drawn_in t p (w.holds.crate_in p (w.within (Crate p) d));
  reached = all_reached r s g k t w has (Crate p) d;
}

-- ---- and no other, where no feature is enabled and each member is a root

-- the crate is kept under the second setting, with no feature enabled
abbrev KeepsEnd : Questions → Endpoint → Type 0
KeepsEnd q (AtCrate p) = Derivable q (Crate p)
KeepsEnd q (AtFeature p f) = ⊥

child_kept_too : (r : Resolved) (s : SettingModel) (g : IgnoredKinds) (k : DepKind) (t : Outline) → Pair r s g k t → EnablesNoFeature (questions r s) → (e : Edge) → Derivable (questions r s) (Kept e) → (kind_of e.kind ≡ k → ⊥)
    → Derivable (questions r (ignoring s g)) (Crate e.parent) → Derivable (questions r (ignoring s g)) (Crate e.child)
unfolding questions
child_kept_too r s g k t w none e d other parent =
    let q = questions r (ignoring s g) in
    let n = needed_by (questions r s) e none d in
    let opened : rules.Open q e n.dep = record { wanted = wanted_alike r s g k e n.dep w.more other n.opened.wanted; stands = stands_alike r s g e.child n.opened.stands } in
    let kept : Derivable q (Kept e) = follows (rules.required {e = e} {d = n.dep} opened n.needed) (one q (Crate e.parent) parent) in
    follows (rules.target {e = e}) (one q (Kept e) kept)

edge_keeps : (r : Resolved) (s : SettingModel) (g : IgnoredKinds) (k : DepKind) (t : Outline) → Pair r s g k t → EnablesNoFeature (questions r s) → (from to : Endpoint) (tie : EdgeModel) → IsDrawnEdge t from to tie → Passes k tie
    → KeepsEnd (questions r (ignoring s g)) from → KeepsEnd (questions r (ignoring s g)) to
edge_keeps r s g k t w none _ _ _ (dep l at no_given) passes here = child_kept_too r s g k t w none l.edge (w.holds.link_of l at) passes here
edge_keeps r s g k t w none _ _ _ (dep_feature l f at gives) passes here = none l.edge.child f (given_enabled r s t l f w.holds at gives)
edge_keeps r s g k t w none _ _ _ (toggles x l at kept by theirs) passes here = none x.krate x.name (toggle_enabled (questions r s) x.by x.krate x.name (w.holds.toggle_of x at))
edge_keeps r s g k t w none _ _ _ (own n at) passes here = absurd here
edge_keeps r s g k t w none _ _ _ (names n f at among) passes here = absurd here
edge_keeps r s g k t w none _ _ _ (names_crate n ids l at among means kept e) passes here = absurd here
edge_keeps r s g k t w none _ _ _ (names_feature n ids f l at among means kept e) passes here = absurd here

-- the number of a node that is kept under the second setting
record KeptNumber (r : Resolved) (s : SettingModel) (g : IgnoredKinds) (t : Outline) (n : ℕ) : Type 0 where
  end : Endpoint
  stands : Stands t end
  number_is : number t end ≡ n
  keeps : KeepsEnd (questions r (ignoring s g)) end

start_kept : (r : Resolved) (s : SettingModel) (g : IgnoredKinds) (k : DepKind) (t : Outline) → Pair r s g k t → MembersAreRoots r s → (n : ℕ) → IsMemberNumber r t n → KeptNumber r s g t n
unfolding questions
start_kept r s g k t w roots n m =
    let q = questions r (ignoring s g) in
    let at = has_drawn t m.member m.kept in
    let kept = subst (λ i. Derivable (questions r s) (Crate i)) at.id (w.holds.crate_of at.krate at.member) in
    let stands = kept_stands (questions r s) m.member kept in
    record {
      end = AtCrate m.member;
      stands = crate_stands {p = m.member} at;
      number_is = sym m.number;
      keeps = follows (rules.root_crate {p = m.member} (root_alike r s g m.member (roots m.member m.is_member)) (stands_alike r s g m.member stands)) (λ h x. absurd x);
    }

step_kept : (r : Resolved) (s : SettingModel) (g : IgnoredKinds) (k : DepKind) (t : Outline) → Pair r s g k t → EnablesNoFeature (questions r s) → (l : PlannedEdge) → KeptNumber r s g t l.source → Contains (planned_edges t) l → Passes k l.tie
    → KeptNumber r s g t l.target
step_kept r s g k t w none l here among passes =
    let d = drawn_of t l (member_of (planned_edges t) l among) in
    let stand = ends_stand r s t d.from d.to d.tie w.holds d.planned in
    let source : number t here.end ≡ number t d.from = here.number_is ∙ ap (λ (x : PlannedEdge). x.source) (sym d.is) in
    let same : here.end ≡ d.from = one_number t here.end d.from here.stands stand.0 source in
    let from = subst (KeepsEnd (questions r (ignoring s g))) same here.keeps in
    record {
      end = d.to;
      stands = stand.1;
      number_is = ap (λ (x : PlannedEdge). x.target) d.is;
      keeps = edge_keeps r s g k t w none d.from d.to d.tie d.planned (subst (λ (x : PlannedEdge). Passes k x.tie) (sym d.is) passes) from;
    }

number_kept : (r : Resolved) (s : SettingModel) (g : IgnoredKinds) (k : DepKind) (t : Outline) → Pair r s g k t → EnablesNoFeature (questions r s) → MembersAreRoots r s → (n : ℕ) → Reaches (LeadsWithout k (planned_edges t)) (IsMemberNumber r t) n
    → KeptNumber r s g t n
number_kept r s g k t w none roots _ (begins {n} m) = start_kept r s g k t w roots n m
number_kept r s g k t w none roots _ (goes_on {n} before leads) =
    let here = number_kept r s g k t w none roots n before in
    subst (KeptNumber r s g t) leads.to (step_kept r s g k t w none leads.line (subst (KeptNumber r s g t) (sym leads.from) here) leads.among leads.passes)

filtered_of : (r : Resolved) (s : SettingModel) (g : IgnoredKinds) (k : DepKind) (t : Outline) → Pair r s g k t → EnablesNoFeature (questions r s) → MembersAreRoots r s → (p : Id) → IsFiltered r t k p
    → Derivable (questions r (ignoring s g)) (Crate p)
filtered_of r s g k t w none roots p x =
    let n = number_kept r s g k t w none roots (crate_number t p) x.reached in
    let same : n.end ≡ AtCrate p = one_number t n.end (AtCrate p) n.stands (crate_stands {p = p} (has_drawn t p x.kept)) n.number_is in
    subst (KeepsEnd (questions r (ignoring s g))) same n.keeps

-- ---- the law

pub holds_rebuild : IsNarrowing → FilteredHoldsRebuild
holds_rebuild narrowing r s k g more t outline =
    let within : (f : Fact) → Derivable (questions r (ignoring s g)) f → Derivable (questions r s) f = (narrowing r s (ignoring s g) (ignores_more g k scopes.All more)).facts in
    let w : Pair r s g k t = record { more = more; holds = holds r s t outline; within = within } in
    record {
      all = λ has p d. filtered_in r s g k t w has p d;
      no_other = λ none roots p f. filtered_of r s g k t w none roots p f;
    }
