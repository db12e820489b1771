-- What a kept edge may wake, namely the features that wait for its dependency, and what its declared dependency may ask for.
use Rattle.std.proofs.Common.{◌≡◌, ℕ, List, [], ◌∷◌, sym, ap, subst, inl, inr}
use Rattle.krates_cm.specs.Document.{Text, DependencyModel, NodeDepModel, PackageModel}
use Rattle.krates_rules.specs.Admission.{NoneDoubled}
use Rattle.krates_rules.specs.DeclaredDependency.{dependency_entry, IsDeclared}
use Rattle.krates_rules.specs.Derivation.{Derivable, Among, follows}
use Rattle.krates_rules.specs.Facts.{Id, Edge, Fact, Feature, Kept, Toggled}
use Rattle.krates_rules.specs.Resolved.{Resolved}
use Rattle.krates_rules.specs.Questions.{edge_between, IsDeclaredAs, kind_info_of, questions}
use Rattle.krates_rules.specs.Rules.{Questions, declared, by_default, lost_declared, toggled_weakly, toggled_feature, lost_toggled_weakly}
use Rattle.krates_document.proofs.DeclaredOnce.{declared_once}
use Rattle.krates_rules.proofs.Readings.{ReadsOnce}
use Rattle.krates_selection.proofs.Steps.{step_derivable}
use Rattle.krates_search.specs.declared.search_state.SearchState.{SearchState}
use Rattle.krates_rules.proofs.OnlyOne.{one_package, one_dep}
use Rattle.krates_questions.specs.declared.context.Context.{Context}
use Rattle.krates_questions.specs.Context.{document_of, rules_of, Derives, Wants}
use Rattle.krates_search.specs.SearchState.{MayEnable, MayToggle, MayEnableFor, IsAskingStep, HasStepOf, IsEdgeStep, IsSound}

-- ---- what is derivable

-- from one premise, or two
pub one : (q : Questions) (g : Fact) → Derivable q g → (f : Fact) → Among f (g ∷ []) → Derivable q f
one q g d f (inl e) = subst (Derivable q) (sym e) d
one q g d f (inr e) = absurd e

pub two : (q : Questions) (g h : Fact) → Derivable q g → Derivable q h → (f : Fact) → Among f (g ∷ h ∷ []) → Derivable q f
two q g h d e f (inl is) = subst (Derivable q) (sym is) d
two q g h d e f (inr other) = one q h e f other

-- a feature that may be toggled may be enabled
pub may_name : (b : Context) (p c : Id) (f : Text) → MayToggle b p c f → MayEnable b c f
may_name b p c f may = record {
  enabled = λ lists. follows (toggled_feature {p = p} {c = c} {g = f}) (one (rules_of b) (Toggled p c f) (may.toggled lists));
  listed = may.listed;
}

-- a feature that is asked for weakly, through an edge that may be kept
pub may_wake : ReadsOnce → (b : Context) (x : SearchState) (p c : Id) (g : Text) (n m : ℕ) → IsSound b x → IsAskingStep b x.trace.items p c g n → IsEdgeStep b x.trace.items p c m → MayToggle b p c g
unfolding questions
may_wake once b x p c g n m sound a kept =
    let e = edge_between p c kept.0 in
    let derive : (i : ℕ) (f : Fact) → HasStepOf b x i f → Derives b f = λ i f. step_derivable once (document_of b) b.setting.now x.trace.items i f sound.trace in
    let premises = two (rules_of b) (Feature p a.feature) (Kept e) (derive n (Feature p a.feature) a.found) (derive m (Kept e) kept.1) in
    record {
      toggled = λ lists. follows (toggled_weakly {e = e} {f = a.feature} {g = g} {c = a.name} a.refers a.referent lists) premises;
      listed = λ lacks. follows (lost_toggled_weakly {e = e} {f = a.feature} {g = g} {c = a.name} a.refers a.referent lacks) premises;
    }

-- a wanted edge is declared as what it is wanted as
pub as_declared : (b : Context) (e : Edge) (d : DependencyModel) → Wants b e d → IsDeclaredAs (document_of b) e d
as_declared b e d w = (w.place, w.declared.declares)

-- what a declared dependency asks for, where the edge may be kept
pub may_use : (b : Context) (e : Edge) (d : DependencyModel) → Wants b e d → Derives b (Kept e) → MayEnableFor b d e.child
unfolding questions
may_use b e d wanted kept =
    let premise = one (rules_of b) (Kept e) kept in
    let said = as_declared b e d wanted in
    record {
      declared = λ g among. record {
        enabled = λ lists. follows (declared {e = e} {d = d} {g = g} said among lists) premise;
        listed = λ lacks. follows (lost_declared {e = e} {d = d} {g = g} said among lacks) premise;
      };
      by_default = λ uses lists. follows (by_default {e = e} {d = d} said uses lists) premise;
    }

-- ---- there is only one of each

-- an edge is declared as only one dependency
pub declared_as_once : (r : Resolved) (e : Edge) (d f : DependencyModel) → NoneDoubled r.metadata r.graph → IsDeclaredAs r e d → IsDeclaredAs r e f → d ≡ f
declared_as_once r e d f none (p, a) (q, b) =
    let dep = one_dep r e.parent e.child b.lists.node a.lists.node b.dep a.dep none b.lists.has_node a.lists.has_node b.lists.has_dep a.lists.has_dep in
    let ds = ap (λ (p : PackageModel). p.dependencies) (one_package r e.parent b.pkg a.pkg none b.has_package a.has_package) in
    let here = subst (λ (xs : List DependencyModel). IsDeclared xs (dependency_entry e.child b.dep) (kind_info_of e) q f) ds b.declared in
    let there = subst (λ (x : NodeDepModel). IsDeclared a.pkg.dependencies (dependency_entry e.child x) (kind_info_of e) q f) dep here in
    (declared_once a.pkg.dependencies (dependency_entry e.child a.dep) (kind_info_of e) p q d f a.declared there).1

pub wanted_once : (b : Context) (e : Edge) (d f : DependencyModel) → NoneDoubled (document_of b).metadata (document_of b).graph → Wants b e d → Wants b e f → d ≡ f
wanted_once b e d f none v w = declared_as_once (document_of b) e d f none (as_declared b e d v) (as_declared b e f w)
