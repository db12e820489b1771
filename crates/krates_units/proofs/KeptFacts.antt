-- What the seven rules keep where their setting leaves out nothing that may count for a build, in the words of the rules of what cargo builds.
use Rattle.std.proofs.Common.{◌≡◌, ◌∙◌, ◌⊎◌, inl, inr, List, [], ◌∷◌, true, false, Contains, bytes_eq, get_or, sym, subst}
use Rattle.std.specs.List.{list_any}
use Rattle.std.proofs.lemmas.Bool.{both_ways, cases_Bool}
use Rattle.std.proofs.lemmas.List.{get_or_default}
use Rattle.std.proofs.lemmas.List.Folds.{Any-from_list_any, list_any_at}
use Rattle.std.proofs.lemmas.Slice.Eq.{bytes_eq-Decides}
use Rattle.krates_cm.specs.Document.{Text, DependencyModel, NodeModel}
use Rattle.krates_text.specs.FeatureReference.{Reference, simple, weak, strong}
use Rattle.krates_rules.specs.Admission.{NoneDoubled}
use Rattle.krates_rules.specs.DeclaredDependency.{declared_name}
use Rattle.krates_rules.specs.Demands.{Demands}
use Rattle.krates_rules.specs.Derivation.{Among, Derivable, follows}
use Rattle.krates_rules.specs.Facts.{Id, Edge, Fact, Crate, Feature, Kept, Toggled, LostFeature}
use Rattle.krates_rules.specs.Features.{ListsFeature, LacksFeature, HasReference}
use Rattle.krates_rules.specs.Narrowing.{LosesNothing}
use Rattle.krates_rules.specs.Questions.{Stands, questions}
use Rattle.krates_rules.specs.Resolved.{Resolved, HasNode}
use Rattle.krates_rules.specs.Roots.{IsRoot}
use Rattle.krates_rules.specs.Rules.{Questions, Open, default_name}
use Rattle.krates_rules.specs.Rules as seven
use Rattle.krates_rules.specs.Setting.{SettingModel}
use Rattle.krates_rules.proofs.OnlyOne.{one_node}
use Rattle.krates_units.specs.KeptBuild.{AllowsEdge}
use Rattle.krates_units.specs.Requests.{HasFeature}

-- ---- premises

pub one_among : (q : Questions) (x : Fact) → Derivable q x → (g : Fact) → Among g (x ∷ []) → Derivable q g
one_among q x d g (inl e) = subst (Derivable q) (sym e) d
one_among q x d g (inr none) = absurd none

pub two_among : (q : Questions) (x y : Fact) → Derivable q x → Derivable q y → (g : Fact) → Among g (x ∷ y ∷ []) → Derivable q g
two_among q x y d c g (inl e) = subst (Derivable q) (sym e) d
two_among q x y d c g (inr rest) = one_among q y c g rest

-- ---- lists of texts

pub listed_or_not : (fs : List Text) (f : Text) → (Contains fs f) ⊎ (Contains fs f → ⊥)
listed_or_not fs f = elim (cases_Bool (list_any (λ g. bytes_eq g f) fs)) [
  | inl there ↦ (
      let w = Any-from_list_any (λ g. bytes_eq g f) fs there in
      inl (w.0, w.2, get_or_default fs w.0 f w.1 w.2 ∙ w.3 ∙ (bytes_eq-Decides w.1 f).0 w.4))
  | inr missing ↦ inr (λ (k, lt, here).
      both_ways (list_any (λ g. bytes_eq g f) fs) missing (list_any_at (λ g. bytes_eq g f) fs k f lt ((bytes_eq-Decides (get_or fs k f) f).1 here)))
]

module _ (r : Resolved) (t : SettingModel) (none_doubled : NoneDoubled r.metadata r.graph) (loses_nothing : LosesNothing (questions r t)) where
  -- the fact is derivable by the seven rules
  abbrev pub Holds : Fact → Type 0
  Holds f = Derivable (questions r t) f

  -- the feature is enabled by the seven rules, and the crate's node lists it
  abbrev pub IsEnabled : Id → Text → Type 0
  IsEnabled i f = ListsFeature r i f × Holds (Feature i f)

  -- ---- crates

  pub root_kept : (i : Id) → IsRoot r t i → Stands r t i → Holds (Crate i)
  unfolding questions
  root_kept i root stands = follows (seven.root_crate root stands) (λ g m. absurd m)

  pub child_kept : (e : Edge) → Holds (Kept e) → Holds (Crate e.child)
  child_kept e kept = follows (seven.target {e = e}) (one_among (questions r t) (Kept e) kept)

  pub crate_kept : (i : Id) (f : Text) → Holds (Feature i f) → Holds (Crate i)
  crate_kept i f d = follows (seven.feature_crate {f = f}) (one_among (questions r t) (Feature i f) d)

  -- ---- edges

  open_edge : (e : Edge) (d : DependencyModel) → AllowsEdge r t e d → Open (questions r t) e d
  unfolding questions
  open_edge e d x =
      record {
        wanted = record {
          place = x.declared.0;
          declared = record { declares = x.declared.1; not_ignored = x.not_ignored };
          passes = x.passes;
        };
        stands = x.stands;
      }

  pub required_kept : (e : Edge) (d : DependencyModel) → AllowsEdge r t e d → d.optional ≡ false → Holds (Crate e.parent) → Holds (Kept e)
  required_kept e d x required parent =
      follows (seven.required {e = e} {d = d} (open_edge e d x) required) (one_among (questions r t) (Crate e.parent) parent)

  pub asked_kept : (e : Edge) (d : DependencyModel) (f : Text) (v : Reference) → AllowsEdge r t e d → HasReference r e.parent f v
      → Demands v (declared_name d) → Holds (Feature e.parent f) → Holds (Kept e)
  unfolding questions
  asked_kept e d f v x refers demands enabled =
      follows (seven.asked {e = e} {f = f} {d = d}
      (record { reference = v; dep = declared_name d; refers = refers; asks = demands; referent = x.named }) (open_edge e d x))
      (one_among (questions r t) (Feature e.parent f) enabled)

  -- ---- features

  -- a node that doesn't lack the feature lists it
  lists_unless : (i : Id) (n : NodeModel) → HasNode r i n → (f : Text) → (LacksFeature r i f → ⊥) → ListsFeature r i f
  lists_unless i n has f not = elim (listed_or_not n.features f) [
    | inl is ↦ record { node = n; has_node = has; among = is }
    | inr missing ↦ absurd (not (λ y.
        missing (subst (λ (m : NodeModel). Contains m.features f) (one_node r i y.node n none_doubled y.has_node has) y.among)))
  ]

  pub root_enabled : (i : Id) (f : Text) → IsRoot r t i → Stands r t i → ListsFeature r i f → IsEnabled i f
  unfolding questions
  root_enabled i f root stands lists = (lists, follows (seven.root_feature root stands lists) (λ g m. absurd m))

  pub named_enabled : (i : Id) (f g : Text) → IsEnabled i f → HasReference r i f (simple g) → IsEnabled i g
  unfolding questions
  named_enabled i f g is refers =
      let from = one_among (questions r t) (Feature i f) is.1 in
      let lists = lists_unless i is.0.node is.0.has_node g
      (λ lacks. loses_nothing (LostFeature i g) (follows (seven.lost_named {f = f} refers lacks) from)) in
      (lists, follows (seven.named {f = f} refers lists) from)

  pub given_enabled : (e : Edge) (d : DependencyModel) (g : Text) → AllowsEdge r t e d → Contains d.features g → Holds (Kept e) → IsEnabled e.child g
  unfolding questions
  given_enabled e d g x gives kept =
      let from = one_among (questions r t) (Kept e) kept in
      let lists = lists_unless e.child x.stands.node x.stands.has_node g
      (λ lacks. loses_nothing (LostFeature e.child g) (follows (seven.lost_declared {e = e} {d = d} x.declared gives lacks) from)) in
      (lists, follows (seven.declared {e = e} {d = d} x.declared gives lists) from)

  pub default_enabled : (e : Edge) (d : DependencyModel) → AllowsEdge r t e d → d.uses_default_features ≡ true → HasFeature r e.child default_name
      → Holds (Kept e) → IsEnabled e.child default_name
  unfolding questions
  default_enabled e d x uses has kept =
      let lists = x.default uses has in
      (lists, follows (seven.by_default {e = e} {d = d} x.declared uses lists) (one_among (questions r t) (Kept e) kept))

  toggled_enabled : (e : Edge) (g : Text) → ListsFeature r e.child g → Holds (Toggled e.parent e.child g) → IsEnabled e.child g
  toggled_enabled e g lists d =
      (lists, follows (seven.toggled_feature {p = e.parent}) (one_among (questions r t) (Toggled e.parent e.child g) d))

  pub strongly_enabled : (e : Edge) (d : DependencyModel) (f g : Text) → AllowsEdge r t e d → HasReference r e.parent f (strong (declared_name d) g)
      → Holds (Feature e.parent f) → Holds (Kept e) → IsEnabled e.child g
  unfolding questions
  strongly_enabled e d f g x refers enabled kept =
      let from = two_among (questions r t) (Feature e.parent f) (Kept e) enabled kept in
      let lists = lists_unless e.child x.stands.node x.stands.has_node g (λ lacks. loses_nothing (LostFeature e.child g)
      (follows (seven.lost_toggled_strongly {e = e} {f = f} {g = g} {c = declared_name d} refers x.named lacks) from)) in
      toggled_enabled e g lists
      (follows (seven.toggled_strongly {e = e} {f = f} {g = g} {c = declared_name d} refers x.named lists) from)

  pub weakly_enabled : (e : Edge) (d : DependencyModel) (f g : Text) → AllowsEdge r t e d → HasReference r e.parent f (weak (declared_name d) g)
      → Holds (Feature e.parent f) → Holds (Kept e) → IsEnabled e.child g
  unfolding questions
  weakly_enabled e d f g x refers enabled kept =
      let from = two_among (questions r t) (Feature e.parent f) (Kept e) enabled kept in
      let lists = lists_unless e.child x.stands.node x.stands.has_node g (λ lacks. loses_nothing (LostFeature e.child g)
      (follows (seven.lost_toggled_weakly {e = e} {f = f} {g = g} {c = declared_name d} refers x.named lacks) from)) in
      toggled_enabled e g lists
      (follows (seven.toggled_weakly {e = e} {f = f} {g = g} {c = declared_name d} refers x.named lists) from)
