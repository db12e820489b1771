-- What an edge of an entry is, by its declared dependency.
use Rattle.std.proofs.Common.{◌≡◌, ℕ, List, Bool, true, false, Contains, sym, ◌∙◌, subst}
use Rattle.krates_cm.specs.Document.{DependencyModel, DepKindInfoModel, NodeDepModel, node_dep_view}
use Rattle.krates_rules.specs.Admission.{NoneDoubled}
use Rattle.krates_rules.specs.DeclaredDependency.{dependency_entry, IsDeclared, IsUndeclared}
use Rattle.krates_rules.specs.Facts.{Edge}
use Rattle.krates_rules.specs.Kind.{kind_of, ignores}
use Rattle.krates_questions.specs.Lookup.{TellsMember}
use Rattle.krates_questions.specs.NodeEntry.{parent_of, child_of, declared_in, entry_of, IsEntry, edge_for}
use Rattle.krates_rules.specs.Questions.{ListsEdge, IsDeclaredAt, IsWanted, IsLoose}
use Rattle.krates_rules.specs.Resolved.{Resolved}
use Rattle.krates_questions.specs.declared.node_entry.NodeEntry.{NodeEntry}
use Rattle.krates_rules.specs.Setting.{SettingModel, IsIgnored, of_member, of_other, Passes}
use Rattle.krates_document.proofs.DeclaredOnce.{declared_once, declared_stands}
use Rattle.krates_rules.proofs.OnlyOne.{one_dep}

pub is_ignored : (r : Resolved) (s : SettingModel) (e : Edge) (is_member : Bool) → TellsMember r e.parent is_member → ignores s.ignored (kind_of e.kind) is_member ≡ true → IsIgnored r s e
is_ignored r s e true tells on = of_member tells on
is_ignored r s e false tells on = of_other tells on

pub not_ignored : (r : Resolved) (s : SettingModel) (e : Edge) (is_member : Bool) → TellsMember r e.parent is_member → ignores s.ignored (kind_of e.kind) is_member ≡ false → IsIgnored r s e → ⊥
not_ignored r s e true tells off (of_member m on) = absurd (cc (off, on))
not_ignored r s e true tells off (of_other other on) = other tells
not_ignored r s e false tells off (of_member m on) = tells m
not_ignored r s e false tells off (of_other other on) = absurd (cc (off, on))

-- the entry lists the edge, and it isn't ignored
pub record Heeds (r : Resolved) (s : SettingModel) (x : NodeEntry) (k : DepKindInfoModel) : Type 0 where
  pub at : IsEntry r x
  pub among : Contains (node_dep_view x.dep.now).dep_kinds k
  pub not_ignored : IsIgnored r s (edge_for x k) → ⊥

pub heeds : (r : Resolved) (s : SettingModel) (x : NodeEntry) (k : DepKindInfoModel) → IsEntry r x → Contains (node_dep_view x.dep.now).dep_kinds k → (b : Bool) → b ≡ ignores s.ignored (kind_of k.kind) x.is_member → b ≡ false
    → Heeds r s x k
heeds r s x k h c b is off = record { at = h; among = c; not_ignored = not_ignored r s (edge_for x k) x.is_member h.tells (sym is ∙ off) }

pub entry_lists : (r : Resolved) (s : SettingModel) (x : NodeEntry) (k : DepKindInfoModel) → Heeds r s x k → ListsEdge r (edge_for x k) (node_dep_view x.dep.now)
entry_lists r s x k h = record { node = h.at.node; has_node = h.at.has_node; has_dep = h.at.has_dep; has_kind = h.among }

unfoldable pub declared_at : (r : Resolved) (s : SettingModel) (x : NodeEntry) (k : DepKindInfoModel) (place : ℕ) (d : DependencyModel) → Heeds r s x k
    → IsDeclared (declared_in x) (entry_of x) k place d → IsDeclaredAt r s (edge_for x k) place d
declared_at r s x k place d h first =
    let p = h.at.declares.from place d (declared_stands (declared_in x) (entry_of x) k place d first) in
    record {
      declares = record {
        dep = node_dep_view x.dep.now;
        lists = entry_lists r s x k h;
        pkg = p.0;
        has_package = p.1;
        declared = subst (λ (ds : List DependencyModel). IsDeclared ds (entry_of x) k place d) (sym (h.at.declares.each p.0 p.1)) first;
      };
      not_ignored = h.not_ignored;
    }

pub wanted : (r : Resolved) (s : SettingModel) (x : NodeEntry) (k : DepKindInfoModel) (place : ℕ) (d : DependencyModel) → Heeds r s x k
    → IsDeclared (declared_in x) (entry_of x) k place d → Passes s k.target → IsWanted r s (edge_for x k) d
wanted r s x k place d h first passes = record { place = place; declared = declared_at r s x k place d h first; passes = passes }

-- a listed edge is listed by the dependency of the entry itself
pub own_dep : (r : Resolved) (x : NodeEntry) (k : DepKindInfoModel) (dep : NodeDepModel) → NoneDoubled r.metadata r.graph → IsEntry r x → ListsEdge r (edge_for x k) dep → dep ≡ node_dep_view x.dep.now
own_dep r x k dep none h l = one_dep r (parent_of x) (child_of x) l.node h.node dep (node_dep_view x.dep.now) none l.has_node h.has_node l.has_dep h.has_dep

-- the edge is wanted for only one declared dependency
pub wanted_one : (r : Resolved) (s : SettingModel) (x : NodeEntry) (k : DepKindInfoModel) (place : ℕ) (d e : DependencyModel) → NoneDoubled r.metadata r.graph → IsEntry r x
    → IsDeclared (declared_in x) (entry_of x) k place d → IsWanted r s (edge_for x k) e → e ≡ d
wanted_one r s x k place d e none h first w =
    let at = w.declared.declares in
    let same = own_dep r x k at.dep none h at.lists in
    let ds = h.declares.each at.pkg at.has_package in
    let here = subst (λ (ds : List DependencyModel). IsDeclared ds (dependency_entry (child_of x) at.dep) k w.place e) ds at.declared in
    let there = subst (λ (dep : NodeDepModel). IsDeclared (declared_in x) (dependency_entry (child_of x) dep) k w.place e) same here in
    (declared_once (declared_in x) (entry_of x) k w.place place e d there first).1

-- and then it isn't undeclared
pub not_loose : (r : Resolved) (s : SettingModel) (x : NodeEntry) (k : DepKindInfoModel) (place : ℕ) (d : DependencyModel) → NoneDoubled r.metadata r.graph → IsEntry r x
    → IsDeclared (declared_in x) (entry_of x) k place d → IsLoose r s (edge_for x k) → ⊥
not_loose r s x k place d none h first loose =
    let same = own_dep r x k loose.dep none h loose.lists in
    let p = h.declares.from place d (declared_stands (declared_in x) (entry_of x) k place d first) in
    let here = subst (λ (ds : List DependencyModel). IsDeclared ds (entry_of x) k place d) (sym (h.declares.each p.0 p.1)) first in
    loose.undeclared p.0 p.1 place d (subst (λ (dep : NodeDepModel). IsDeclared p.0.dependencies (dependency_entry (child_of x) dep) k place d) (sym same) here)

-- an edge of an entry for which no declared dependency fits
pub loose : (r : Resolved) (s : SettingModel) (x : NodeEntry) (k : DepKindInfoModel) → Heeds r s x k → IsUndeclared (declared_in x) (entry_of x) k → IsLoose r s (edge_for x k)
loose r s x k h none = record {
  dep = node_dep_view x.dep.now;
  lists = entry_lists r s x k h;
  not_ignored = h.not_ignored;
  undeclared = λ p has place d first. none place d (subst (λ (ds : List DependencyModel). IsDeclared ds (entry_of x) k place d) (h.at.declares.each p has) first);
}
