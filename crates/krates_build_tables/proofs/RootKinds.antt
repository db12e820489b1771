-- Why a crate is a root, by its flags.
use Rattle.std.proofs.Common.{◌≡◌, ◌↔◌, ◌&&◌, if◌then◌else◌, Bool, true, false, IsTrue, Option, Some, None, option_map, refl, sym, ◌∙◌, subst}
use Rattle.krates_rules.specs.Facts.{Id}
use Rattle.krates_rules.specs.Resolved.{Resolved, IsMember}
use Rattle.krates_units.specs.BuildSetting.{BuildSettingModel}
use Rattle.krates_units.specs.Requests.{RootKind, AsksAlike, IsBuildRootAs, IsCurrent, IsSelected, SelectsNoMember, alike, unselected, current, other}
use Rattle.krates_build_tables.specs.RequestsFlags.{FlagsSay, TellsRoot, flagged, kind_by, root_kind}
use Rattle.krates_build_tables.specs.declared.roots.RootAs.{RootAs}
use Rattle.krates_build_tables.specs.declared.selection.CrateFlags.{CrateFlags}

no : {P : Type 0} → IsTrue false ↔ P → P → ⊥
no told p = let e : false ≡ true = told.1 p in cc

-- as `kind_by`, of the flags one by one
abbrev kind_with : Bool → Bool → Bool → Bool → Bool → Option RootKind
kind_with true n m c q = if m && q then Some alike else (if n && m then Some unselected else None)
kind_with false n m c q = if c then Some current else (if m && q then Some other else None)

-- what the flags tell of the crate
record Told (r : Resolved) (s : BuildSettingModel) (i : Id) (a n m c q : Bool) : Type 0 where
  alike_is : IsTrue a ↔ AsksAlike r s
  none_is : IsTrue n ↔ SelectsNoMember r s
  member_is : IsTrue m ↔ IsMember r i
  current_is : IsTrue c ↔ IsCurrent r i
  selected_is : IsTrue q ↔ IsSelected r s i

kind_there : (r : Resolved) (s : BuildSettingModel) (i : Id) (a n m c q : Bool) → Told r s i a n m c q → (kind : RootKind) → IsBuildRootAs r s i kind → kind_with a n m c q ≡ Some kind
kind_there r s i true n true c true t alike h = refl
kind_there r s i false n m c q t alike h = absurd (no t.alike_is h.0)
kind_there r s i true n false c q t alike h = absurd (no t.member_is h.1.0)
kind_there r s i true n true c false t alike h = absurd (no t.selected_is h.1.1)
kind_there r s i true true true c false t unselected h = refl
kind_there r s i true n true c true t unselected h = absurd (h.1 i (h.2, t.selected_is.0 refl))
kind_there r s i false n m c q t unselected h = absurd (no t.alike_is h.0)
kind_there r s i true n false c q t unselected h = absurd (no t.member_is h.2)
kind_there r s i true false true c false t unselected h = absurd (no t.none_is h.1)
kind_there r s i false n m true q t current h = refl
kind_there r s i false n m false q t current h = absurd (no t.current_is h.1)
kind_there r s i true n m c q t current h = absurd (h.0 (t.alike_is.0 refl))
kind_there r s i false n true false true t other h = refl
kind_there r s i true n m c q t other h = absurd (h.0 (t.alike_is.0 refl))
kind_there r s i false n m true q t other h = absurd (h.1 (t.current_is.0 refl))
kind_there r s i false n false false q t other h = absurd (no t.member_is h.2.0)
kind_there r s i false n true false false t other h = absurd (no t.selected_is h.2.1)

-- the kind is this one
kind_is : (r : Resolved) (s : BuildSettingModel) (i : Id) (k kind : RootKind) → IsBuildRootAs r s i k → Some k ≡ Some kind → IsBuildRootAs r s i kind
kind_is r s i k kind h e = let same : k ≡ kind = cc in subst (IsBuildRootAs r s i) same h

kind_back : (r : Resolved) (s : BuildSettingModel) (i : Id) (a n m c q : Bool) → Told r s i a n m c q → (kind : RootKind) → kind_with a n m c q ≡ Some kind → IsBuildRootAs r s i kind
kind_back r s i true n true c true t kind e = kind_is r s i alike kind (t.alike_is.0 refl, (t.member_is.0 refl, t.selected_is.0 refl)) e
kind_back r s i true true true c false t kind e = kind_is r s i unselected kind (t.alike_is.0 refl, t.none_is.0 refl, t.member_is.0 refl) e
kind_back r s i true false true c false t kind e = absurd cc
kind_back r s i true true false c q t kind e = absurd cc
kind_back r s i true false false c q t kind e = absurd cc
kind_back r s i false n m true q t kind e = kind_is r s i current kind (λ h. no t.alike_is h, t.current_is.0 refl) e
kind_back r s i false n true false true t kind e = kind_is r s i other kind (λ h. no t.alike_is h, λ h. no t.current_is h, (t.member_is.0 refl, t.selected_is.0 refl)) e
kind_back r s i false n true false false t kind e = absurd cc
kind_back r s i false n false false q t kind e = absurd cc

same_kind : (a n : Bool) (x : CrateFlags) → kind_by a n x ≡ kind_with a n x.is_member x.is_current x.is_selected
same_kind true n x = refl
same_kind false n x = refl

-- the answer by flags is that of the definitions
pub root_told : (r : Resolved) (s : BuildSettingModel) (a n : Bool) (x : CrateFlags) (answer : Option RootAs) → IsTrue a ↔ AsksAlike r s → IsTrue n ↔ SelectsNoMember r s → FlagsSay r s x
    → option_map root_kind answer ≡ kind_by a n x → TellsRoot r s (flagged x) answer
root_told r s a n x answer alike_is none_is says is kind =
    let t : Told r s (flagged x) a n x.is_member x.is_current x.is_selected = record { alike_is = alike_is; none_is = none_is; member_is = says.member; current_is = says.current; selected_is = says.selected } in
    let same = is ∙ same_kind a n x in (
      λ h. same ∙ kind_there r s (flagged x) a n x.is_member x.is_current x.is_selected t kind h,
      λ e. kind_back r s (flagged x) a n x.is_member x.is_current x.is_selected t kind (sym same ∙ e),
    )
