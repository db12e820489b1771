-- What package and node a crate has.
use Rattle.std.proofs.Common.{◌≡◌, ℕ, List, Some, Contains, subst}
use Rattle.std.proofs.lemmas.Option.{slice_get_within, get_or_from_slice_get}
use Rattle.std.specs.List.{slice_get}
use Rattle.krates_cm.specs.Document.{PackageModel}
use Rattle.krates_rules.specs.Admission.{NoneDoubled}
use Rattle.krates_rules.specs.Facts.{Id}
use Rattle.krates_rules.specs.Resolved.{NodeAt, Resolved, HasPackage, NoNode}
use Rattle.krates_rules.specs.Questions.{IsIncluded, Stands, LacksNode, IsLeftOut}
use Rattle.krates_rules.specs.Setting.{SettingModel, IsExcluded}
use Rattle.krates_rules.proofs.OnlyOne.{one_package}

-- what is at a place is in the list
pub contains_at : {A : Type 0} (xs : List A) (k : ℕ) (x : A) → slice_get xs k ≡ Some x → Contains xs x
contains_at xs k x h = (k, slice_get_within xs k x h, get_or_from_slice_get xs k x x h)

included : (r : Resolved) (s : SettingModel) (i : Id) (p : PackageModel) → HasPackage r i p → (IsExcluded s p → ⊥) → IsIncluded r s i
included r s i p h kept = record { pkg = p; has_package = h; not_excluded = kept }

pub stands_at : (r : Resolved) (s : SettingModel) (i : Id) (p : PackageModel) (place : ℕ) → HasPackage r i p → (IsExcluded s p → ⊥) → NodeAt r i place → Stands r s i
stands_at r s i p place h kept n = record {
  included = included r s i p h kept;
  node = n.node;
  has_node = record { among = contains_at r.graph.nodes place n.node n.at; id = n.id };
}

pub lacks_node : (r : Resolved) (s : SettingModel) (i : Id) (p : PackageModel) → HasPackage r i p → (IsExcluded s p → ⊥) → NoNode r i → LacksNode r s i
lacks_node r s i p h kept none = record { included = included r s i p h kept; no_node = none }

-- an excluded package isn't included, since no other package has its id
pub not_included : (r : Resolved) (s : SettingModel) (i : Id) → NoneDoubled r.metadata r.graph → IsLeftOut r s i → IsIncluded r s i → ⊥
not_included r s i none out there = there.not_excluded (subst (IsExcluded s) (one_package r i out.pkg there.pkg none out.has_package there.has_package) out.excluded)
