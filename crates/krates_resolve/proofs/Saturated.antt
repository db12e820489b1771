-- When nothing is left to take, what was found is closed under all rules.
use Rattle.std.proofs.Common.{◌≡◌, ◌↔◌, ℕ, ◌≤◌, List, [], Some, length, map, All, Contains, inl, inr, refl, sym, ◌∙◌, subst, arith}
use Rattle.std.proofs.lemmas.Option.{slice_get_within}
use Rattle.std.specs.List.{AllZip, slice_get}
use Rattle.std.specs.Prelude.{⊤}
use Rattle.krates_cm.specs.Document.{Text, DependencyModel}
use Rattle.krates_text.specs.FeatureReference.{Reference, krate, weak, strong, simple}
use Rattle.krates_rules.specs.Admission.{NoneDoubled}
use Rattle.krates_rules.specs.Derivation.{Among, follows}
use Rattle.krates_rules.specs.Facts.{Id, Edge, Fact, Crate, Feature, Kept, Toggled, Lost}
use Rattle.krates_rules.specs.Features.{HasReference}
use Rattle.krates_search.specs.SearchState.{HasFound, HasRoots, HasExpanded, HasFollowedReferences, HasFollowed, IsAsked, IsAny, IsFeatureStep, IsKrateStep, IsSound, Advances, HasToggled, HasTried}
use Rattle.krates_rules.specs.Resolved.{DepAt, Resolved}
use Rattle.krates_search.specs.Links.{HasLinks, AreNew}
use Rattle.krates_questions.specs.FeatureTable.{listed_features}
use Rattle.krates_questions.specs.Availability.{AreExclusions}
use Rattle.krates_rules.specs.Questions.{IsDeclaredAs, Stands, questions}
use Rattle.krates_rules.specs.Demands.{Demands}
use Rattle.krates_rules.specs.Referent.{IsReferent}
use Rattle.krates_rules.specs.Rules.{Rule, IsAskedFor, root_crate, root_feature, lost_root_package, lost_root_node, feature_crate, named, lost_named, asked, toggled_strongly, lost_asked_package, lost_asked_node, lost_toggled_strongly, required, target, lost_undeclared, lost_required_package, lost_required_node, declared, by_default, lost_declared, toggled_weakly, toggled_feature, lost_toggled_weakly}
use Rattle.krates_search.specs.Found.{found_view, IsFoundEdge, found_toggled, IsFoundToggle}
use Rattle.krates_rules.specs.Steps.{StepModel}
use Rattle.krates_selection.specs.Trace.{IsTrace}
use Rattle.krates_search.specs.declared.search_state.SearchState.{SearchState}
use Rattle.krates_search.specs.declared.found.FoundEdge.{FoundEdge}
use Rattle.krates_search.specs.declared.found.FoundToggle.{FoundToggle}
use Rattle.krates_rules.proofs.PutElements.{none_there}
use Rattle.krates_rules.proofs.DerivationLaws.{closed_under}
use Rattle.krates_rules.proofs.OnlyOne.{place_in}
use Rattle.krates_search.proofs.Waking.{as_declared, declared_as_once}
use Rattle.krates_questions.specs.declared.context.Context.{Context}
use Rattle.krates_questions.specs.Context.{document_of, rules_of, Derives, Wants}
use Rattle.krates_resolve.specs.Saturation.{HasDone}

-- ---- a kept edge is open

-- the edge is wanted, and its child stands
record IsOpen (b : Context) (e : Edge) : Type 0 where
  pub dependency : DependencyModel
  pub wanted : Wants b e dependency
  pub stands : Stands (document_of b) b.setting.now e.child

abbrev OpenWhereKept : Context → Fact → Type 0
OpenWhereKept b (Kept e) = IsOpen b e
OpenWhereKept b (Crate i) = ⊤
OpenWhereKept b (Feature i f) = ⊤
OpenWhereKept b (Toggled p c g) = ⊤
OpenWhereKept b (Lost c) = ⊤

open_by_rule : (b : Context) {n : ℕ} {ps : List Fact} {f : Fact} → Rule (rules_of b) n ps f → OpenWhereKept b f
unfolding questions
open_by_rule b (root_crate root stands) = tt
open_by_rule b (root_feature root stands lists) = tt
open_by_rule b (lost_root_package root none) = tt
open_by_rule b (lost_root_node root none) = tt
open_by_rule b feature_crate = tt
open_by_rule b (named refers lists) = tt
open_by_rule b (lost_named refers lacks) = tt
open_by_rule b (asked {e} {f} {d} a o) = record { dependency = d; wanted = o.wanted; stands = o.stands }
open_by_rule b (toggled_strongly refers referent lists) = tt
open_by_rule b (lost_asked_package a w none) = tt
open_by_rule b (lost_asked_node a w none) = tt
open_by_rule b (lost_toggled_strongly refers referent lacks) = tt
open_by_rule b (required {e} {d} o is_required) = record { dependency = d; wanted = o.wanted; stands = o.stands }
open_by_rule b target = tt
open_by_rule b (lost_undeclared loose) = tt
open_by_rule b (lost_required_package w is_required none) = tt
open_by_rule b (lost_required_node w is_required none) = tt
open_by_rule b (declared w c lists) = tt
open_by_rule b (by_default w u lists) = tt
open_by_rule b (lost_declared w c lacks) = tt
open_by_rule b (toggled_weakly refers referent lists) = tt
open_by_rule b toggled_feature = tt
open_by_rule b (lost_toggled_weakly refers referent lacks) = tt

kept_open : (b : Context) (e : Edge) → Derives b (Kept e) → IsOpen b e
kept_open b e (follows rule ds) = open_by_rule b rule

-- it is at a place among the dependencies of a node
record StandsIn (r : Resolved) (e : Edge) : Type 0 where
  pub place : ℕ
  pub index : ℕ
  pub dep : DepAt r e.parent e.child place index

stands_in : (b : Context) (e : Edge) → IsOpen b e → StandsIn (document_of b) e
stands_in b e o =
    let declares = o.wanted.declared.declares in
    let lists = declares.lists in
    let node = place_in (document_of b).graph.nodes lists.node lists.has_node.among in
    let dep = place_in lists.node.deps declares.dep lists.has_dep.among in
    record {
      place = node.0;
      index = dep.0;
      dep = record { node = record { node = lists.node; at = node.1; id = lists.has_node.id }; dep = declares.dep; at = dep.1; id = lists.has_dep.id };
    }

-- ---- what a feature gives whose references were followed

-- a reference asks for the dependency that it names
asked_in : (b : Context) (x : SearchState) (p : Id) (name : Text) (reference : Reference) → HasFollowed b x p reference → Demands reference name → IsAsked b x p name
asked_in b x p name (simple f) h asks = absurd asks
asked_in b x p name (krate c) h asks = subst (IsAsked b x p) (sym asks) h
asked_in b x p name (strong c f) h asks = subst (IsAsked b x p) (sym asks) h.0
asked_in b x p name (weak c f) h asks = absurd asks

-- ---- when all has been taken

-- the roots were found, each crate found has been expanded, and the references of each feature followed
record IsDone (b : Context) (x : SearchState) : Type 0 where
  pub sound : IsSound b x
  pub roots : HasRoots b x
  pub expanded : (i : Id) → HasFound b x (Crate i) → HasExpanded b x i
  pub followed_all : (i : Id) (f : Text) → HasFound b x (Feature i f) → HasFollowedReferences b x i f

is_done : (b : Context) (x : SearchState) → HasDone b x → length x.krates.put ≤ x.krates.taken → length x.features.put ≤ x.features.taken → IsDone b x
is_done b x done krates features = record {
  sound = done.sound;
  roots = done.roots;
  expanded = λ i put.
      let at = place_in x.krates.put put.place put.among in
      done.expanded at.0 put.place i (omega (arith, krates, slice_get_within x.krates.put at.0 put.place at.1)) at.1 put.node;
  followed_all = λ i f put.
      let at = place_in x.features.put put.number put.among in
      done.followed_all at.0 put.number i f (omega (arith, features, slice_get_within x.features.put at.0 put.number at.1)) at.1 put.at;
}

-- an edge that a reference asks for has been tried
tried_there : (b : Context) (x : SearchState) (e : Edge) (f : Text) → IsDone b x → IsAskedFor (rules_of b) f e → HasFound b x (Feature e.parent f) → HasTried b x e IsAny
unfolding questions
tried_there b x e f done a found = asked_in b x e.parent a.dep a.reference (done.followed_all e.parent f found a.reference a.refers) a.asks e refl a.referent

-- a strong reference over a kept edge toggles its feature
strongly_there : (b : Context) (x : SearchState) (e : Edge) (f g c : Text) → IsDone b x → HasReference (document_of b) e.parent f (strong c g) → IsReferent (document_of b) b.setting.now.all_named e.parent c e.child
    → HasFound b x (Feature e.parent f) → HasFound b x (Kept e) → HasToggled b x e.parent e.child g
strongly_there b x e f g c done refers referent found kept =
    let o = kept_open b e (done.sound.derivable (Kept e) kept) in
    (done.followed_all e.parent f found (strong c g) refers).1 e o.dependency refl referent o.wanted o.stands

-- and so does a weak one
weakly_there : (b : Context) (x : SearchState) (e : Edge) (f g c : Text) → IsDone b x → HasReference (document_of b) e.parent f (weak c g) → IsReferent (document_of b) b.setting.now.all_named e.parent c e.child
    → HasFound b x (Feature e.parent f) → HasFound b x (Kept e) → HasToggled b x e.parent e.child g
weakly_there b x e f g c done refers referent found kept =
    let at = stands_in b e (kept_open b e (done.sound.derivable (Kept e) kept)) in
    elim (done.followed_all e.parent f found (weak c g) refers e.child at.place at.index referent at.dep) [
      | inl waits ↦ absurd (done.sound.woken at.place at.index g (done.sound.marked e at.place at.index kept at.dep) waits)
      | inr is ↦ is
    ]

-- a kept edge is wanted as the dependency that it is declared as
wanted_as : (b : Context) (x : SearchState) (e : Edge) (d : DependencyModel) → NoneDoubled (document_of b).metadata (document_of b).graph → IsDone b x → HasFound b x (Kept e) → IsDeclaredAs (document_of b) e d → Wants b e d
wanted_as b x e d distinct done kept said =
    let o = kept_open b e (done.sound.derivable (Kept e) kept) in
    subst (Wants b e) (declared_as_once (document_of b) e o.dependency d distinct (as_declared b e o.dependency o.wanted) said) o.wanted

-- what was found is closed under each rule
rule_closed : (b : Context) (x : SearchState) → NoneDoubled (document_of b).metadata (document_of b).graph → IsDone b x → {n : ℕ} {ps : List Fact} {f : Fact} → Rule (rules_of b) n ps f → ((g : Fact) → Among g ps → HasFound b x g) → HasFound b x f
unfolding questions
rule_closed b x distinct done (root_crate {p} root stands) h = (done.roots p root).kept stands
rule_closed b x distinct done (root_feature {p} {f} root stands lists) h = (done.roots p root).enabled stands f lists
rule_closed b x distinct done (lost_root_package {p} root none) h = (done.roots p root).has_package none
rule_closed b x distinct done (lost_root_node {p} root none) h = (done.roots p root).has_node none
rule_closed b x distinct done (feature_crate {p} {f}) h = done.sound.enabled p f (h (Feature p f) (inl refl))
rule_closed b x distinct done (named {p} {f} {g} refers lists) h = (done.followed_all p f (h (Feature p f) (inl refl)) (simple g) refers).enabled lists
rule_closed b x distinct done (lost_named {p} {f} {g} refers lacks) h = (done.followed_all p f (h (Feature p f) (inl refl)) (simple g) refers).listed lacks
rule_closed b x distinct done (asked {e} {f} {d} a o) h = (tried_there b x e f done a (h (Feature e.parent f) (inl refl))).kept d o.wanted tt o.stands
rule_closed b x distinct done (toggled_strongly {e} {f} {g} {c} refers referent lists) h =
    (strongly_there b x e f g c done refers referent (h (Feature e.parent f) (inl refl)) (h (Kept e) (inr (inl refl)))).toggled lists
rule_closed b x distinct done (lost_asked_package {e} {f} {d} a w none) h = (tried_there b x e f done a (h (Feature e.parent f) (inl refl))).has_package d w tt none
rule_closed b x distinct done (lost_asked_node {e} {f} {d} a w none) h = (tried_there b x e f done a (h (Feature e.parent f) (inl refl))).has_node d w tt none
rule_closed b x distinct done (lost_toggled_strongly {e} {f} {g} {c} refers referent lacks) h =
    (strongly_there b x e f g c done refers referent (h (Feature e.parent f) (inl refl)) (h (Kept e) (inr (inl refl)))).listed lacks
rule_closed b x distinct done (required {e} {d} o is_required) h = (done.expanded e.parent (h (Crate e.parent) (inl refl)) e refl).kept d o.wanted is_required o.stands
rule_closed b x distinct done (target {e}) h = done.sound.reached e (h (Kept e) (inl refl))
rule_closed b x distinct done (lost_undeclared {e} loose) h = (done.expanded e.parent (h (Crate e.parent) (inl refl)) e refl).declared loose
rule_closed b x distinct done (lost_required_package {e} {d} w is_required none) h = (done.expanded e.parent (h (Crate e.parent) (inl refl)) e refl).has_package d w is_required none
rule_closed b x distinct done (lost_required_node {e} {d} w is_required none) h = (done.expanded e.parent (h (Crate e.parent) (inl refl)) e refl).has_node d w is_required none
rule_closed b x distinct done (declared {e} {d} {g} w c lists) h = ((done.sound.used e (h (Kept e) (inl refl)) d (wanted_as b x e d distinct done (h (Kept e) (inl refl)) w)).declared g c).enabled lists
rule_closed b x distinct done (by_default {e} {d} w u lists) h = (done.sound.used e (h (Kept e) (inl refl)) d (wanted_as b x e d distinct done (h (Kept e) (inl refl)) w)).by_default u lists
rule_closed b x distinct done (lost_declared {e} {d} {g} w c lacks) h = ((done.sound.used e (h (Kept e) (inl refl)) d (wanted_as b x e d distinct done (h (Kept e) (inl refl)) w)).declared g c).listed lacks
rule_closed b x distinct done (toggled_weakly {e} {f} {g} {c} refers referent lists) h =
    (weakly_there b x e f g c done refers referent (h (Feature e.parent f) (inl refl)) (h (Kept e) (inr (inl refl)))).toggled lists
rule_closed b x distinct done (toggled_feature {p} {c} {g}) h = done.sound.toggled p c g (h (Toggled p c g) (inl refl))
rule_closed b x distinct done (lost_toggled_weakly {e} {f} {g} {c} refers referent lacks) h =
    (weakly_there b x e f g c done refers referent (h (Feature e.parent f) (inl refl)) (h (Kept e) (inr (inl refl)))).listed lacks

-- what was found is exactly what is derivable
pub saturated : (b : Context) (x : SearchState) → NoneDoubled (document_of b).metadata (document_of b).graph → HasDone b x → length x.krates.put ≤ x.krates.taken → length x.features.put ≤ x.features.taken → (f : Fact) → Derives b f ↔ HasFound b x f
saturated b x distinct all krates features f =
    let done = is_done b x all krates features in
    (λ d. closed_under (rules_of b) (HasFound b x) (λ n ps g rule h. rule_closed b x distinct done rule h) d, λ h. done.sound.derivable f h)

-- ---- at the start

-- nothing has been found yet
pub record IsEmpty (x : SearchState) : Type 0 where
  pub krates : x.krates.put ≡ []
  pub features : x.features.put ≡ []
  pub edges : x.edges.items ≡ []
  pub toggled : x.toggled.items ≡ []
  pub trace : x.trace.items ≡ []
  pub krate_steps : x.krate_steps.items ≡ []
  pub feature_steps : x.feature_steps.items ≡ []

nothing_found : (b : Context) (x : SearchState) → IsEmpty x → (f : Fact) → HasFound b x f → ⊥
nothing_found b x none (Crate i) h = none_there h.place (subst (λ (ps : List ℕ). Contains ps h.place) none.krates h.among)
nothing_found b x none (Feature i f) h = none_there h.number (subst (λ (ns : List ℕ). Contains ns h.number) none.features h.among)
nothing_found b x none (Kept e) h = none_there e (subst (λ (es : List FoundEdge). Contains (map found_view es) e) none.edges h)
nothing_found b x none (Toggled p c g) h = none_there (Toggled p c g) (subst (λ (ts : List FoundToggle). Contains (map found_toggled ts) (Toggled p c g)) none.toggled h)
nothing_found b x none (Lost c) h = h

no_step : (k : ℕ) (y : StepModel) → slice_get [] k ≡ Some y → ⊥
no_step k y at = cc

empty_zip : (R : ℕ → ℕ → Type 0) (xs ys : List ℕ) → xs ≡ [] → ys ≡ [] → AllZip R xs ys
empty_zip R xs ys a b = subst (λ (us : List ℕ). AllZip R us ys) (sym a) (subst (AllZip R []) (sym b) tt)

pub sound_start : (b : Context) (x : SearchState) → AreExclusions (document_of b) b.setting.now x.excluded.items → x.krates.size ≡ length (document_of b).graph.nodes → x.features.size ≡ length (listed_features (document_of b)) → HasLinks (document_of b) x.links → AreNew x.links → IsEmpty x → IsSound b x
sound_start b x excluded krates features links new none = record {
  excluded = excluded;
  krates_size = krates;
  features_size = features;
  own = λ n c. absurd (none_there n (subst (λ (ns : List ℕ). Contains ns n) none.features c));
  has_links = links;
  derivable = λ f h. absurd (nothing_found b x none f h);
  trace = subst (IsTrace (document_of b) b.setting.now) (sym none.trace) (record { steps = []; shown = tt; follows = λ k y at. absurd (no_step k y at) });
  stepped = λ f h. absurd (nothing_found b x none f h);
  numbered = record {
    krates = empty_zip (IsKrateStep b x.trace.items) x.krates.put x.krate_steps.items none.krates none.krate_steps;
    features = empty_zip (IsFeatureStep b x.trace.items) x.features.put x.feature_steps.items none.features none.feature_steps;
    marked = λ p c place index step dep marked. absurd (new.unmarked place index (step, marked));
    waiting = λ p c place index w dep waits. absurd (new.none_waits place index w.name.now (record { waiter = w; waits = waits; named = refl }));
  };
  placed = subst (All (IsFoundEdge b)) (sym none.edges) (λ k d lt. absurd (omega (arith, lt)));
  toggles = subst (All (IsFoundToggle b)) (sym none.toggled) (λ k d lt. absurd (omega (arith, lt)));
  reached = λ e h. absurd (nothing_found b x none (Kept e) h);
  used = λ e h. absurd (nothing_found b x none (Kept e) h);
  marked = λ e place index h. absurd (nothing_found b x none (Kept e) h);
  woken = λ place index g marked waits. new.unmarked place index marked;
  tried = λ e place index dep was. absurd (new.unasked place index was);
  arrived = λ p c place index dep marked. absurd (new.unmarked place index marked);
  toggled = λ p c g h. absurd (nothing_found b x none (Toggled p c g) h);
  enabled = λ i f h. absurd (nothing_found b x none (Feature i f) h);
}

-- when the roots have been put, nothing has been taken yet
pub done_start : (b : Context) (x z : SearchState) → x.krates.taken ≡ 0 → x.features.taken ≡ 0 → Advances b x z → HasRoots b z → HasDone b z
done_start b x z krates features a roots =
    let no_krate : z.krates.taken ≡ 0 = a.grows.krates_taken ∙ krates in
    let no_feature : z.features.taken ≡ 0 = a.grows.features_taken ∙ features in
    record {
      sound = a.sound;
      roots = roots;
      expanded = λ k place i lt. absurd (omega (arith, lt, no_krate));
      followed_all = λ k number i f lt. absurd (omega (arith, lt, no_feature));
      krates_within = omega (arith, no_krate);
      features_within = omega (arith, no_feature);
    }
