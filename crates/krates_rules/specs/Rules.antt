-- The seven rules, over what they ask a document and a setting.
--
-- Each rule is a row with its number, the facts that it uses, in order, and the fact that it gives. The rows whose
-- fact is `Lost` say what counts as lost: the same rules, where what they require isn't there.
use Rattle.std.specs.Prelude.{◌≡◌, ℕ, List, [], ◌∷◌, false, true, Contains, codes}
use Rattle.krates_cm.specs.Document.{Text, DependencyModel}
use Rattle.krates_rules.specs.Facts.{Id, Edge, LostPackage, LostNode, LostFeature, Undeclared, Fact, Crate, Feature, Kept, Toggled, Lost}
use Rattle.krates_text.specs.FeatureReference.{Reference, simple, weak, strong}
use Rattle.krates_rules.specs.Demands.{Demands}

-- what the rules ask a document and a setting
pub record Questions : Type 1 where
  pub Root : Id → Type 0  -- the crate is a root
  pub Stands : Id → Type 0  -- the crate has a package that isn't excluded, and a node
  pub NoPackage : Id → Type 0  -- the crate has no package
  pub LacksNode : Id → Type 0  -- the crate has a package that isn't excluded, and no node
  pub Lists : Id → Text → Type 0  -- the crate's node lists the feature
  pub Lacks : Id → Text → Type 0  -- the crate has no node that lists the feature
  pub Refers : Id → Text → Reference → Type 0  -- the feature's list in the crate's corrected features has the reference
  pub Referent : Id → Text → Id → Type 0  -- a dependency's name, in a reference of the crate, means this crate
  pub Declared : Edge → DependencyModel → Type 0  -- the edge is listed, and declared as this, whatever the setting
  pub Wanted : Edge → DependencyModel → Type 0  -- it is listed, not ignored, declared as this, and passes the targets
  pub Loose : Edge → Type 0  -- the edge is listed, not ignored, and not declared

-- the edge may be kept: it is wanted, and its child has a package that isn't excluded, and a node
pub record Open (q : Questions) (e : Edge) (d : DependencyModel) : Type 0 where
  pub wanted : q.Wanted e d
  pub stands : q.Stands e.child

-- a reference of the parent's feature requires the edge
pub record IsAskedFor (q : Questions) (f : Text) (e : Edge) : Type 0 where
  pub reference : Reference
  pub dep : Text
  pub refers : q.Refers e.parent f reference
  pub asks : Demands reference dep
  pub referent : q.Referent e.parent dep e.child

-- the feature that a dependency enables by default
abbrev pub default_name : Text
default_name = codes "default"

-- a fact follows by the rule of this number from these facts, in order
pub data Rule (q : Questions) : ℕ → List Fact → Fact → Type 0 where
  -- 1. a root with a package that isn't excluded, and a node, is kept, and each feature that its node lists is enabled
  root_crate : {p : Id} → q.Root p → q.Stands p → Rule q 1 [] (Crate p)
  root_feature : {p : Id} {f : Text} → q.Root p → q.Stands p → q.Lists p f → Rule q 1 [] (Feature p f)
  lost_root_package : {p : Id} → q.Root p → q.NoPackage p → Rule q 1 [] (Lost (LostPackage p))
  lost_root_node : {p : Id} → q.Root p → q.LacksNode p → Rule q 1 [] (Lost (LostNode p))
  -- 2. the crate of an enabled feature is kept
  feature_crate : {p : Id} {f : Text} → Rule q 2 (Feature p f ∷ []) (Crate p)
  -- 3. an enabled feature enables the features of its crate that it names
  named : {p : Id} {f g : Text} → q.Refers p f (simple g) → q.Lists p g → Rule q 3 (Feature p f ∷ []) (Feature p g)
  lost_named : {p : Id} {f g : Text} → q.Refers p f (simple g) → q.Lacks p g → Rule q 3 (Feature p f ∷ []) (Lost (LostFeature p g))
  -- 4. an enabled feature keeps the open edges to a dependency that it requires, and toggles the feature that it names there
  asked : {e : Edge} {f : Text} {d : DependencyModel} → IsAskedFor q f e → Open q e d → Rule q 4 (Feature e.parent f ∷ []) (Kept e)
  toggled_strongly : {e : Edge} {f g c : Text} → q.Refers e.parent f (strong c g) → q.Referent e.parent c e.child → q.Lists e.child g → Rule q 4 (Feature e.parent f ∷ Kept e ∷ []) (Toggled e.parent e.child g)
  lost_asked_package : {e : Edge} {f : Text} {d : DependencyModel} → IsAskedFor q f e → q.Wanted e d → q.NoPackage e.child → Rule q 4 (Feature e.parent f ∷ []) (Lost (LostPackage e.child))
  lost_asked_node : {e : Edge} {f : Text} {d : DependencyModel} → IsAskedFor q f e → q.Wanted e d → q.LacksNode e.child → Rule q 4 (Feature e.parent f ∷ []) (Lost (LostNode e.child))
  lost_toggled_strongly : {e : Edge} {f g c : Text} → q.Refers e.parent f (strong c g) → q.Referent e.parent c e.child → q.Lacks e.child g → Rule q 4 (Feature e.parent f ∷ Kept e ∷ []) (Lost (LostFeature e.child g))
  -- 5. a kept crate keeps its open edges that aren't optional; a kept edge keeps its child
  required : {e : Edge} {d : DependencyModel} → Open q e d → d.optional ≡ false → Rule q 5 (Crate e.parent ∷ []) (Kept e)
  target : {e : Edge} → Rule q 5 (Kept e ∷ []) (Crate e.child)
  lost_undeclared : {e : Edge} → q.Loose e → Rule q 5 (Crate e.parent ∷ []) (Lost (Undeclared e.parent e.child))
  lost_required_package : {e : Edge} {d : DependencyModel} → q.Wanted e d → d.optional ≡ false → q.NoPackage e.child → Rule q 5 (Crate e.parent ∷ []) (Lost (LostPackage e.child))
  lost_required_node : {e : Edge} {d : DependencyModel} → q.Wanted e d → d.optional ≡ false → q.LacksNode e.child → Rule q 5 (Crate e.parent ∷ []) (Lost (LostNode e.child))
  -- 6. a kept edge enables the features that its declared dependency lists, and `default` where it uses defaults and the child lists it
  declared : {e : Edge} {d : DependencyModel} {g : Text} → q.Declared e d → Contains d.features g → q.Lists e.child g → Rule q 6 (Kept e ∷ []) (Feature e.child g)
  by_default : {e : Edge} {d : DependencyModel} → q.Declared e d → d.uses_default_features ≡ true → q.Lists e.child default_name → Rule q 6 (Kept e ∷ []) (Feature e.child default_name)
  lost_declared : {e : Edge} {d : DependencyModel} {g : Text} → q.Declared e d → Contains d.features g → q.Lacks e.child g → Rule q 6 (Kept e ∷ []) (Lost (LostFeature e.child g))
  -- 7. a weak reference of an enabled feature toggles only over a kept edge; a toggled feature is enabled
  toggled_weakly : {e : Edge} {f g c : Text} → q.Refers e.parent f (weak c g) → q.Referent e.parent c e.child → q.Lists e.child g → Rule q 7 (Feature e.parent f ∷ Kept e ∷ []) (Toggled e.parent e.child g)
  toggled_feature : {p c : Id} {g : Text} → Rule q 7 (Toggled p c g ∷ []) (Feature c g)
  lost_toggled_weakly : {e : Edge} {f g c : Text} → q.Refers e.parent f (weak c g) → q.Referent e.parent c e.child → q.Lacks e.child g → Rule q 7 (Feature e.parent f ∷ Kept e ∷ []) (Lost (LostFeature e.child g))
