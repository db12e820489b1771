-- What an edge of an entry gives, by its declared dependency and its child.
use Rattle.std.proofs.Common.{◌≡◌, ◌⊎◌, ℕ, Bool, true, false, inl, inr}
use Rattle.krates_cm.specs.Document.{DependencyModel, DepKindInfoModel}
use Rattle.krates_rules.specs.Admission.{NoneDoubled}
use Rattle.krates_rules.specs.DeclaredDependency.{IsDeclared}
use Rattle.krates_rules.specs.Derivation.{follows}
use Rattle.krates_rules.specs.Facts.{Edge, LostPackage, LostNode, Undeclared, Crate, Kept, Lost}
use Rattle.krates_search.specs.SearchState.{HasFound, IsRequired, TakenWhen, MayTry, HasTried}
use Rattle.krates_questions.specs.NodeEntry.{child_of, declared_in, entry_of, edge_for}
use Rattle.krates_rules.specs.Questions.{Stands, LacksNode, IsLoose, questions}
use Rattle.krates_rules.specs.Resolved.{NoPackage}
use Rattle.krates_rules.specs.Rules.{required, lost_undeclared, lost_required_package, lost_required_node}
use Rattle.krates_search.specs.declared.search_state.SearchState.{SearchState}
use Rattle.krates_questions.specs.declared.node_entry.NodeEntry.{NodeEntry}
use Rattle.krates_rules.specs.Setting.{IsIgnored, Passes}
use Rattle.krates_questions.specs.Availability.{IsExcludedOnly}
use Rattle.krates_search.proofs.Waking.{one}
use Rattle.krates_questions.proofs.EntryEdges.{not_loose, wanted_one}
use Rattle.krates_questions.specs.declared.context.Context.{Context}
use Rattle.krates_questions.specs.Context.{document_of, rules_of, Derives, HasEntry, Wants}

-- ---- the edge has been tried

-- a dependency that isn't optional, or is asked for
pub taken_here : (asked : Bool) (d : DependencyModel) → asked ≡ true ⊎ d.optional ≡ false → TakenWhen asked d
taken_here true d h = tt
taken_here false d (inl e) = absurd cc
taken_here false d (inr e) = e

pub ignored_tried : (b : Context) (f : SearchState) (e : Edge) (taken : DependencyModel → Type 0) → IsIgnored (document_of b) b.setting.now e → HasTried b f e taken
ignored_tried b f e taken ignored = record {
  kept = λ d w is_taken stands. absurd (w.declared.not_ignored ignored);
  declared = λ loose. loose.not_ignored ignored;
  has_package = λ d w is_taken lost. w.declared.not_ignored ignored;
  has_node = λ d w is_taken lost. w.declared.not_ignored ignored;
}

pub barred_tried : (b : Context) (f : SearchState) (x : NodeEntry) (k : DepKindInfoModel) (taken : DependencyModel → Type 0) (place : ℕ) (d : DependencyModel) → NoneDoubled (document_of b).metadata (document_of b).graph → HasEntry b x
    → IsDeclared (declared_in x) (entry_of x) k place d → (Passes b.setting.now k.target → ⊥) → HasTried b f (edge_for x k) taken
barred_tried b f x k taken place d none h first barred = record {
  kept = λ e w is_taken stands. absurd (barred w.passes);
  declared = not_loose (document_of b) b.setting.now x k place d none h first;
  has_package = λ e w is_taken lost. barred w.passes;
  has_node = λ e w is_taken lost. barred w.passes;
}

pub left_out_tried : (b : Context) (f : SearchState) (x : NodeEntry) (k : DepKindInfoModel) (taken : DependencyModel → Type 0) (place : ℕ) (d : DependencyModel) → NoneDoubled (document_of b).metadata (document_of b).graph → HasEntry b x
    → IsDeclared (declared_in x) (entry_of x) k place d → IsExcludedOnly (document_of b) b.setting.now (child_of x) → HasTried b f (edge_for x k) taken
left_out_tried b f x k taken place d none h first out = record {
  kept = λ e w is_taken stands. absurd (out.excluded stands.included);
  declared = not_loose (document_of b) b.setting.now x k place d none h first;
  has_package = λ e w is_taken lost. lost out.left_out.pkg out.left_out.has_package;
  has_node = λ e w is_taken lost. out.excluded lost.included;
}

-- an optional dependency that isn't asked for
pub optional_tried : (b : Context) (f : SearchState) (x : NodeEntry) (k : DepKindInfoModel) (asked : Bool) (place : ℕ) (d : DependencyModel) → NoneDoubled (document_of b).metadata (document_of b).graph → HasEntry b x
    → IsDeclared (declared_in x) (entry_of x) k place d → asked ≡ false → d.optional ≡ true → HasTried b f (edge_for x k) (TakenWhen asked)
optional_tried b f x k true place d none h first not_asked is_optional = absurd cc
optional_tried b f x k false place d none h first not_asked is_optional =
    let never : (e : DependencyModel) → Wants b (edge_for x k) e → e.optional ≡ false → ⊥ = λ e w is_required. cc (wanted_one (document_of b) b.setting.now x k place d e none h first w, is_optional, is_required) in
    record {
      kept = λ e w is_required stands. absurd (never e w is_required);
      declared = not_loose (document_of b) b.setting.now x k place d none h first;
      has_package = λ e w is_required lost. never e w is_required;
      has_node = λ e w is_required lost. never e w is_required;
    }

pub kept_tried : (b : Context) (f : SearchState) (x : NodeEntry) (k : DepKindInfoModel) (taken : DependencyModel → Type 0) (place : ℕ) (d : DependencyModel) → NoneDoubled (document_of b).metadata (document_of b).graph → HasEntry b x
    → IsDeclared (declared_in x) (entry_of x) k place d → Stands (document_of b) b.setting.now (child_of x) → HasFound b f (Kept (edge_for x k)) → HasTried b f (edge_for x k) taken
kept_tried b f x k taken place d none h first stands found = record {
  kept = λ e w is_taken there. found;
  declared = not_loose (document_of b) b.setting.now x k place d none h first;
  has_package = λ e w is_taken lost. lost stands.included.pkg stands.included.has_package;
  has_node = λ e w is_taken lost. lost.no_node stands.node stands.has_node;
}

-- ---- derivations

pub undeclared_lost : (b : Context) (e : Edge) → Derives b (Crate e.parent) → IsLoose (document_of b) b.setting.now e → Derives b (Lost (Undeclared e.parent e.child))
unfolding questions
undeclared_lost b e kept is_loose = follows (lost_undeclared {e = e} is_loose) (one (rules_of b) (Crate e.parent) kept)

package_lost : (b : Context) (e : Edge) (d : DependencyModel) → Derives b (Crate e.parent) → Wants b e d → d.optional ≡ false → NoPackage (document_of b) e.child → Derives b (Lost (LostPackage e.child))
unfolding questions
package_lost b e d kept w is_required none = follows (lost_required_package {e = e} {d = d} w is_required none) (one (rules_of b) (Crate e.parent) kept)

node_lost : (b : Context) (e : Edge) (d : DependencyModel) → Derives b (Crate e.parent) → Wants b e d → d.optional ≡ false → LacksNode (document_of b) b.setting.now e.child → Derives b (Lost (LostNode e.child))
unfolding questions
node_lost b e d kept w is_required none = follows (lost_required_node {e = e} {d = d} w is_required none) (one (rules_of b) (Crate e.parent) kept)

edge_derivable : (b : Context) (e : Edge) (d : DependencyModel) → Derives b (Crate e.parent) → Wants b e d → d.optional ≡ false → Stands (document_of b) b.setting.now e.child → Derives b (Kept e)
unfolding questions
edge_derivable b e d kept w is_required stands = follows (required {e = e} {d = d} (record { wanted = w; stands = stands }) is_required) (one (rules_of b) (Crate e.parent) kept)

-- what a kept crate may give by edges that aren't optional
pub crate_may_try : (b : Context) (e : Edge) → Derives b (Crate e.parent) → MayTry b e IsRequired
crate_may_try b e kept = record {
  kept = λ d w is_required stands. edge_derivable b e d kept w is_required stands;
  has_package = λ d w is_required none. package_lost b e d kept w is_required none;
  has_node = λ d w is_required none. node_lost b e d kept w is_required none;
  declared = undeclared_lost b e kept;
}
