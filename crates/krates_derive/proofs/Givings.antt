-- What a document gives from single edges, and when all of that is in a list.
use Rattle.std.proofs.Common.{◌↔◌, List, Bool, true, false, IsTrue, Contains, refl, subst}
use Rattle.krates_cm.specs.Document.{DependencyModel, DepKindInfoModel}
use Rattle.krates_derive.specs.Giving.{IsTaken, ChildIn, EdgeIn}
use Rattle.krates_rules.specs.Facts.{Id, Edge, Fact, Kept}
use Rattle.krates_questions.specs.Availability.{IsWantedAs, NotWanted, ListsKind, HasChild}
use Rattle.krates_rules.specs.Questions.{edge_between, Stands, IsLoose}
use Rattle.krates_rules.specs.Resolved.{Resolved}
use Rattle.krates_rules.specs.Setting.{SettingModel}

-- ---- edges

pub child_here : (r : Resolved) (s : SettingModel) (fs : List Fact) (e : Edge) (b : Bool) → Stands r s e.child → (IsTrue b ↔ Contains fs (Kept e)) → IsTrue b ↔ ChildIn r s fs e
child_here r s fs e b stands told = (
  λ t. record {
    kept = λ there. told.0 t;
    has_package = λ none. none stands.included.pkg stands.included.has_package;
    has_node = λ lost. lost.no_node stands.node stands.has_node;
  },
  λ h. told.1 (h.kept stands),
)

pub edge_nothing : (r : Resolved) (s : SettingModel) (fs : List Fact) (e : Edge) (ask : Bool) → NotWanted r s e × (IsLoose r s e → ⊥) → EdgeIn r s fs e ask
edge_nothing r s fs e ask h = record { child = λ d w t. absurd (h.0 d w); declared = λ is l. h.1 l }

pub edge_undeclared : (r : Resolved) (s : SettingModel) (fs : List Fact) (e : Edge) (ask : Bool) → IsLoose r s e × NotWanted r s e → IsTrue ask ↔ EdgeIn r s fs e ask
edge_undeclared r s fs e true h = (λ t. record { child = λ d w x. absurd (h.1 d w); declared = λ is l. absurd cc }, λ x. refl)
edge_undeclared r s fs e false h = (λ t. absurd cc, λ x. absurd (x.declared refl h.0))

pub edge_taken : (r : Resolved) (s : SettingModel) (fs : List Fact) (e : Edge) (ask : Bool) (d : DependencyModel) (b : Bool) → IsWantedAs r s e d → IsTaken ask d → (IsTrue b ↔ ChildIn r s fs e) → IsTrue b ↔ EdgeIn r s fs e ask
edge_taken r s fs e ask d b w t told = (
  λ yes. record { child = λ o x y. told.0 yes; declared = λ is l. w.not_loose l },
  λ h. told.1 (h.child d w.wanted t),
)

pub edge_left : (r : Resolved) (s : SettingModel) (fs : List Fact) (e : Edge) (ask : Bool) (d : DependencyModel) → IsWantedAs r s e d → (IsTaken ask d → ⊥) → EdgeIn r s fs e ask
edge_left r s fs e ask d w other = record {
  child = λ o x t. absurd (other (subst (IsTaken ask) (w.only o x) t));
  declared = λ is l. w.not_loose l;
}

-- only an edge that the document lists gives anything
pub edge_listed : (r : Resolved) (s : SettingModel) (fs : List Fact) (p c : Id) (k : DepKindInfoModel) (ask : Bool) → (ListsKind r p c k → EdgeIn r s fs (edge_between p c k) ask) → EdgeIn r s fs (edge_between p c k) ask
edge_listed r s fs p c k ask h = record {
  child = λ d w t. (h (record { dep = w.declared.declares.dep; lists = w.declared.declares.lists })).child d w t;
  declared = λ is l. (h (record { dep = l.dep; lists = l.lists })).declared is l;
}

-- and only one to a crate on which the node of its parent depends
pub edge_of_child : (r : Resolved) (s : SettingModel) (fs : List Fact) (p c : Id) (k : DepKindInfoModel) (ask : Bool) → (HasChild r p c → EdgeIn r s fs (edge_between p c k) ask) → EdgeIn r s fs (edge_between p c k) ask
edge_of_child r s fs p c k ask h = edge_listed r s fs p c k ask (λ l. h (record { node = l.lists.node; has_node = l.lists.has_node; dep = l.dep; has_dep = l.lists.has_dep }))
