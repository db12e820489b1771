-- What a root takes of a reference that the command line names.
use Rattle.std.proofs.Common.{◌≡◌, ◌↔◌, Bool, true, false, IsTrue, List, Some, None, refl, sym, ap, ◌∙◌, subst}
use Rattle.std.proofs.lemmas.Option.{none-some, same_Some, some_pair_parts}
use Rattle.std.proofs.lemmas.Slice.Eq.{bytes_eq-Decides}
use Rattle.std.specs.Str.{bytes_eq}
use Rattle.krates_cm.specs.Document.{Text}
use Rattle.krates_questions.specs.Lookup.{IsLookup, resolved_view}
use Rattle.krates_questions.specs.declared.lookup.Lookup.{Lookup}
use Rattle.krates_text.specs.FeatureReference.{Reference, krate, weak, strong, simple}
use Rattle.krates_rules.specs.Facts.{Id}
use Rattle.krates_rules.specs.Resolved.{Resolved, IsMember}
use Rattle.krates_rules.proofs.Readings.{ReadsOnce}
use Rattle.krates_units.specs.BuildSetting.{BuildSettingModel}
use Rattle.krates_units.specs.FeaturesNamed.{NamesFeatureOf}
use Rattle.krates_units.specs.Requests.{IsCurrent, IsForOther, current, IsSelected, KnowsName, MayAsk, Takes, TakesAlike, own, of_dependency, by_crate}
use Rattle.krates_build_tables.specs.RequestsFlags.{AreFlags, flagged}
use Rattle.krates_build_tables.specs.RequestsTaken.{IsForOtherBy, feature_parts}
use Rattle.krates_build_tables.specs.declared.selection.CrateFlags.{CrateFlags}
use Rattle.krates_build_tables.proofs.Flagged.{member_flagged, selected_flagged}
use Rattle.krates_build_tables.proofs.NumberedCrates.{numbered_ids}

-- ---- the parts of a reference

pub parts_named : (v : Reference) (name f : Text) → feature_parts v ≡ Some (name, f) → NamesFeatureOf v name f
parts_named (krate d) name f e = absurd cc
parts_named (weak d g) name f e = let p = some_pair_parts d name g f e in (sym p.0, sym p.1)
parts_named (strong d g) name f e = let p = some_pair_parts d name g f e in (sym p.0, sym p.1)
parts_named (simple g) name f e = absurd cc

pub named_parts : (v : Reference) (name f : Text) → NamesFeatureOf v name f → feature_parts v ≡ Some (name, f)
named_parts (krate d) name f h = absurd h
named_parts (weak d g) name f h = rw (h.0, h.1) refl
named_parts (strong d g) name f h = rw (h.0, h.1) refl
named_parts (simple g) name f h = absurd h

-- a reference has only one name and one feature
same_parts : (v : Reference) (name f other g : Text) → feature_parts v ≡ Some (name, f) → NamesFeatureOf v other g → (other ≡ name) × (g ≡ f)
same_parts v name f other g e h = let p = some_pair_parts other name g f (sym (named_parts v other g h) ∙ e) in p

not_simple : (v : Reference) (name f g : Text) → feature_parts v ≡ Some (name, f) → v ≡ simple g → ⊥
not_simple v name f g e is = absurd (let none : feature_parts v ≡ None = ap feature_parts is in cc)

-- ---- where members are asked alike

pub takes_of_dependency : (r : Resolved) (i : Id) (v : Reference) (name f : Text) → feature_parts v ≡ Some (name, f) → KnowsName r i name → (w : Reference) → TakesAlike r i v w ↔ (Some v ≡ Some w)
takes_of_dependency r i v name f e knows w = (
  λ t. there w t,
  λ same. let is : v ≡ w = cc in subst (TakesAlike r i v) is (of_dependency name f (parts_named v name f e) knows),
)
  where
    there : (w : Reference) → TakesAlike r i v w → Some v ≡ Some w
    there w (own is _) = refl
    there w (of_dependency _ _ _ _) = refl
    there w (by_crate other g names lacks _ _) = absurd (lacks (subst (KnowsName r i) (sym (same_parts v name f other g e names).0) knows))

pub takes_by_crate : (r : Resolved) (i : Id) (v : Reference) (name f : Text) → feature_parts v ≡ Some (name, f) → ¬ KnowsName r i name → i.name ≡ name → MayAsk r i f
    → (w : Reference) → TakesAlike r i v w ↔ (Some (simple f) ≡ Some w)
takes_by_crate r i v name f e lacks is_name may w = (
  λ t. there w t,
  λ same. let is : simple f ≡ w = cc in subst (TakesAlike r i v) is (by_crate name f (parts_named v name f e) lacks is_name may),
)
  where
    there : (w : Reference) → TakesAlike r i v w → Some (simple f) ≡ Some w
    there w (own is _) = absurd (not_simple v name f _ e is)
    there w (of_dependency other g names knows) = absurd (lacks (subst (KnowsName r i) (same_parts v name f other g e names).0 knows))
    there w (by_crate other g names _ _ _) = ap (λ (h : Text). Some (simple h)) (sym (same_parts v name f other g e names).1)

pub takes_no_feature : (r : Resolved) (i : Id) (v : Reference) (name f : Text) → feature_parts v ≡ Some (name, f) → ¬ KnowsName r i name → (i.name ≡ name → MayAsk r i f → ⊥)
    → (w : Reference) → TakesAlike r i v w ↔ (None ≡ Some w)
takes_no_feature r i v name f e lacks none w = (λ t. absurd (there w t), λ same. absurd cc)
  where
    there : (w : Reference) → TakesAlike r i v w → ⊥
    there w (own is _) = not_simple v name f _ e is
    there w (of_dependency other g names knows) = lacks (subst (KnowsName r i) (same_parts v name f other g e names).0 knows)
    there w (by_crate other g names _ is_name may) =
        let same = same_parts v name f other g e names in
        none (is_name ∙ same.0) (subst (MayAsk r i) same.1 may)

pub takes_own : (r : Resolved) (i : Id) (f : Text) → MayAsk r i f → (w : Reference) → TakesAlike r i (simple f) w ↔ (Some (simple f) ≡ Some w)
takes_own r i f may w = (λ t. there w t, λ same. let is : simple f ≡ w = cc in subst (TakesAlike r i (simple f)) is (own refl may))
  where
    there : (w : Reference) → TakesAlike r i (simple f) w → Some (simple f) ≡ Some w
    there w (own is _) = refl
    there w (of_dependency _ _ names _) = absurd names
    there w (by_crate _ _ names _ _ _) = absurd names

pub takes_nothing : (r : Resolved) (i : Id) (v : Reference) → feature_parts v ≡ None → ((f : Text) → v ≡ simple f → MayAsk r i f → ⊥) → (w : Reference) → TakesAlike r i v w ↔ (None ≡ Some w)
takes_nothing r i v e none w = (λ t. absurd (there w t), λ same. absurd cc)
  where
    there : (w : Reference) → TakesAlike r i v w → ⊥
    there w (own {f = f} is may) = none f is may
    there w (of_dependency name f names _) = none-some (name, f) (sym e ∙ named_parts v name f names)
    there w (by_crate name f names _ _ _) = none-some (name, f) (sym e ∙ named_parts v name f names)

-- ---- what is for another member

pub for_other_told : ReadsOnce → (d : Lookup) → IsLookup d → (s : BuildSettingModel) (flags : List CrateFlags) → AreFlags (resolved_view d) s (numbered_ids d) flags → (v : Reference) (b : Bool) → IsTrue b ↔ IsForOtherBy flags v
    → IsTrue b ↔ IsForOther (resolved_view d) s v
for_other_told once d h s flags are v true told = (λ t. there (told.0 t), λ f. refl)
  where
    there : IsForOtherBy flags v → IsForOther (resolved_view d) s v
    there x = record {
      name = x.name;
      feature = x.feature;
      names = parts_named v x.name x.feature x.names;
      other =
          let says = are.each x.other.krate x.other.among in
          (flagged x.other.krate, (says.member.0 x.other.member, λ c. x.other.not_current (says.current.1 c)), x.other.named);
      selected =
          let says = are.each x.selected.krate x.selected.among in
          (flagged x.selected.krate, says.selected.0 x.selected.selected, x.selected.named);
    }
for_other_told once d h s flags are v false told = (λ t. absurd cc, λ f. absurd (none f))
  where
    r : Resolved
    r = resolved_view d

    none : IsForOther (resolved_view d) s v → ⊥
    none f =
        let other = f.other in
        let selected = f.selected in
        member_flagged once d h s flags are other.0 other.1.0 (λ x among is.
        selected_flagged once d h s flags are selected.0 selected.1 (λ y there same.
        let says = are.each x among in
        let tells = are.each y there in
        let found : IsForOtherBy flags v = record {
          name = f.name;
          feature = f.feature;
          names = named_parts v f.name f.feature f.names;
          other = record {
            krate = x;
            among = among;
            member = says.member.1 (subst (IsMember (resolved_view d)) (sym is) other.1.0);
            not_current = λ c. other.1.1 (subst (IsCurrent (resolved_view d)) is (says.current.0 c));
            named = ap (λ (j : Id). j.name) is ∙ other.2;
          };
          selected = record {
            krate = y;
            among = there;
            selected = tells.selected.1 (subst (IsSelected (resolved_view d) s) (sym same) selected.1);
            named = ap (λ (j : Id). j.name) same ∙ selected.2;
          };
        } in
        let no : false ≡ true = told.1 found in
        cc))

pub takes_for_other : (r : Resolved) (s : BuildSettingModel) (i : Id) (v : Reference) → IsForOther r s v → (w : Reference) → Takes r s i current v w ↔ (None ≡ Some w)
takes_for_other r s i v other w = (λ t. absurd (t.0 other), λ same. absurd cc)

pub takes_whole : (r : Resolved) (s : BuildSettingModel) (i : Id) (v : Reference) → ¬ IsForOther r s v → (w : Reference) → Takes r s i current v w ↔ (Some v ≡ Some w)
takes_whole r s i v none w = (λ t. ap (λ (u : Reference). Some u) (sym t.1), λ same. (none, sym (same_Some v w same)))

-- ---- the forms of references

pub same_simple : (f g : Text) → simple f ≡ simple g → f ≡ g
same_simple f g e = cc

pub krate_simple : (d f : Text) → krate d ≡ simple f → ⊥
krate_simple d f e = cc

pub weak_simple : (d g f : Text) → weak d g ≡ simple f → ⊥
weak_simple d g f e = cc

pub strong_simple : (d g f : Text) → strong d g ≡ simple f → ⊥
strong_simple d g f e = cc

-- ---- texts that are compared

pub eq_texts : (x y : Text) → x ≡ y → bytes_eq x y ≡ true
eq_texts x y e = (bytes_eq-Decides x y).1 e

pub false-true : false ≡ true → ⊥
false-true e = cc
