-- What follows by each rule from steps.
use Rattle.krates_search.specs.declared.search_state.SearchState.{SearchState}
use Rattle.std.proofs.Common.{◌≡◌, ℕ, [], ◌∷◌, Contains, sym, subst, true, false}
use Rattle.krates_cm.specs.Document.{DependencyModel, DepKindInfoModel, Text}
use Rattle.krates_search.proofs.Waking.{as_declared}
use Rattle.krates_selection.proofs.Steps.{finds_more}
use Rattle.krates_selection.specs.Trace.{by_nothing, by_one, by_two}
use Rattle.krates_selection.specs.declared.trace.Reason.{Reason}
use Rattle.krates_rules.specs.Facts.{Id, Edge, Fact, Crate, Feature, Kept, Toggled}
use Rattle.krates_rules.specs.Questions.{Stands, edge_between, questions}
use Rattle.krates_rules.specs.Referent.{IsReferent}
use Rattle.krates_rules.specs.Rules.{IsAskedFor, Rule, asked, by_default, declared, default_name, named, required, root_crate, root_feature, target, toggled_feature, toggled_strongly, toggled_weakly}
use Rattle.krates_rules.specs.Demands.{Demands}
use Rattle.krates_text.specs.FeatureReference.{Reference, simple, strong, weak}
use Rattle.krates_questions.specs.declared.context.Context.{Context}
use Rattle.krates_questions.specs.Context.{document_of, rules_of, Lists, HasRoot, Wants}
use Rattle.krates_search.specs.SearchState.{IsAskingStep, HasStepOf, Grows}
use Rattle.krates_search.specs.SearchContext.{IsReferringStep, Finds}

-- ---- from no premise, one or two

by_none : (b : Context) (x : SearchState) (rule : ℕ) (f : Fact) → Rule (rules_of b) rule [] f → Finds b x (by_nothing rule) f
by_none b x rule f h = record { premises = []; uses = tt; rule = h }

by_premise : (b : Context) (x : SearchState) (rule n : ℕ) (g f : Fact) → HasStepOf b x n g → Rule (rules_of b) rule (g ∷ []) f → Finds b x (by_one rule n) f
by_premise b x rule n g f one h = record { premises = g ∷ []; uses = (one, tt); rule = h }

by_premises : (b : Context) (x : SearchState) (rule n m : ℕ) (g h f : Fact) → HasStepOf b x n g → HasStepOf b x m h → Rule (rules_of b) rule (g ∷ h ∷ []) f → Finds b x (by_two rule n m) f
by_premises b x rule n m g h f one other given = record { premises = g ∷ h ∷ []; uses = (one, (other, tt)); rule = given }

-- ---- roots

pub finds_root : (b : Context) (x : SearchState) (i : Id) → HasRoot b i → Stands (document_of b) b.setting.now i → Finds b x (by_nothing 1) (Crate i)
unfolding questions
finds_root b x i root stands = by_none b x 1 (Crate i) (root_crate {p = i} root stands)

pub finds_root_feature : (b : Context) (x : SearchState) (i : Id) (f : Text) → HasRoot b i → Stands (document_of b) b.setting.now i → Lists b i f → Finds b x (by_nothing 1) (Feature i f)
unfolding questions
finds_root_feature b x i f root stands lists = by_none b x 1 (Feature i f) (root_feature {p = i} {f = f} root stands lists)

-- ---- references

pub finds_named : (b : Context) (x : SearchState) (n : ℕ) (p : Id) (g : Text) → IsReferringStep b x.trace.items n p (simple g) → Lists b p g → Finds b x (by_one 3 n) (Feature p g)
unfolding questions
finds_named b x n p g m lists = by_premise b x 3 n (Feature p m.feature) (Feature p g) m.found (named {p = p} {f = m.feature} {g = g} m.refers lists)

pub finds_asked : (b : Context) (x : SearchState) (n : ℕ) (e : Edge) (reference : Reference) (name : Text) (d : DependencyModel) → IsReferringStep b x.trace.items n e.parent reference → Demands reference name → IsReferent (document_of b) b.setting.now.all_named e.parent name e.child → Wants b e d → Stands (document_of b) b.setting.now e.child
    → Finds b x (by_one 4 n) (Kept e)
unfolding questions
finds_asked b x n e reference name d m asks referent wanted stands =
    let for_it : IsAskedFor (rules_of b) m.feature e = record { reference = reference; dep = name; refers = m.refers; asks = asks; referent = referent } in
    by_premise b x 4 n (Feature e.parent m.feature) (Kept e) m.found (asked {e = e} {f = m.feature} {d = d} for_it (record { wanted = wanted; stands = stands }))

pub finds_strongly : (b : Context) (x : SearchState) (n m : ℕ) (e : Edge) (name g : Text) → IsReferringStep b x.trace.items n e.parent (strong name g) → IsReferent (document_of b) b.setting.now.all_named e.parent name e.child → HasStepOf b x m (Kept e)
    → Lists b e.child g → Finds b x (by_two 4 n m) (Toggled e.parent e.child g)
unfolding questions
finds_strongly b x n m e name g a referent kept lists =
    by_premises b x 4 n m (Feature e.parent a.feature) (Kept e) (Toggled e.parent e.child g) a.found kept (toggled_strongly {e = e} {f = a.feature} {g = g} {c = name} a.refers referent lists)

pub finds_weakly : (b : Context) (x : SearchState) (n m : ℕ) (e : Edge) (name g : Text) → IsReferringStep b x.trace.items n e.parent (weak name g) → IsReferent (document_of b) b.setting.now.all_named e.parent name e.child → HasStepOf b x m (Kept e)
    → Lists b e.child g → Finds b x (by_two 7 n m) (Toggled e.parent e.child g)
unfolding questions
finds_weakly b x n m e name g a referent kept lists =
    by_premises b x 7 n m (Feature e.parent a.feature) (Kept e) (Toggled e.parent e.child g) a.found kept (toggled_weakly {e = e} {f = a.feature} {g = g} {c = name} a.refers referent lists)

-- a feature that waited for the edge
pub finds_woken : (b : Context) (x : SearchState) (n m : ℕ) (p c : Id) (k : DepKindInfoModel) (g : Text) → IsAskingStep b x.trace.items p c g n → HasStepOf b x m (Kept (edge_between p c k))
    → Lists b c g → Finds b x (by_two 7 n m) (Toggled p c g)
finds_woken b x n m p c k g a kept lists =
    finds_weakly b x n m (edge_between p c k) a.name g (record { feature = a.feature; found = a.found; refers = a.refers }) a.referent kept lists

pub finds_toggled : (b : Context) (x : SearchState) (n : ℕ) (p c : Id) (g : Text) → HasStepOf b x n (Toggled p c g) → Finds b x (by_one 7 n) (Feature c g)
finds_toggled b x n p c g h = by_premise b x 7 n (Toggled p c g) (Feature c g) h (toggled_feature {p = p} {c = c} {g = g})

-- ---- edges

pub finds_required : (b : Context) (x : SearchState) (n : ℕ) (e : Edge) (d : DependencyModel) → HasStepOf b x n (Crate e.parent) → Wants b e d → d.optional ≡ false → Stands (document_of b) b.setting.now e.child
    → Finds b x (by_one 5 n) (Kept e)
unfolding questions
finds_required b x n e d kept wanted is_required stands =
    by_premise b x 5 n (Crate e.parent) (Kept e) kept (required {e = e} {d = d} (record { wanted = wanted; stands = stands }) is_required)

pub finds_target : (b : Context) (x : SearchState) (n : ℕ) (e : Edge) → HasStepOf b x n (Kept e) → Finds b x (by_one 5 n) (Crate e.child)
finds_target b x n e kept = by_premise b x 5 n (Kept e) (Crate e.child) kept (target {e = e})

pub finds_declared : (b : Context) (x : SearchState) (n : ℕ) (e : Edge) (d : DependencyModel) (g : Text) → HasStepOf b x n (Kept e) → Wants b e d → Contains d.features g → Lists b e.child g
    → Finds b x (by_one 6 n) (Feature e.child g)
unfolding questions
finds_declared b x n e d g kept wanted among lists =
    by_premise b x 6 n (Kept e) (Feature e.child g) kept (declared {e = e} {d = d} {g = g} (as_declared b e d wanted) among lists)

pub finds_default : (b : Context) (x : SearchState) (n : ℕ) (e : Edge) (d : DependencyModel) → HasStepOf b x n (Kept e) → Wants b e d → d.uses_default_features ≡ true → Lists b e.child default_name
    → Finds b x (by_one 6 n) (Feature e.child default_name)
unfolding questions
finds_default b x n e d kept wanted uses lists =
    by_premise b x 6 n (Kept e) (Feature e.child default_name) kept (by_default {e = e} {d = d} (as_declared b e d wanted) uses lists)

-- equal reasons give the same
pub for_reason : (b : Context) (x : SearchState) (reason other : Reason) (f : Fact) → reason ≡ other → Finds b x other f → Finds b x reason f
for_reason b x reason other f is h = subst (λ (y : Reason). Finds b x y f) (sym is) h

-- what follows still follows as more is found
pub finds_grow : (b : Context) (x y : SearchState) (reason : Reason) (f : Fact) → Grows b x y → Finds b x reason f → Finds b y reason f
finds_grow b x y reason f g h = finds_more (document_of b) b.setting.now x.trace.items y.trace.items reason f g.steps h
