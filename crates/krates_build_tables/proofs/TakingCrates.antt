-- Which crates take a reference, by their flags.
use Rattle.std.proofs.Common.{◌≡◌, ◌↔◌, Bool, true, false, not, IsTrue, List, Option, Some, None, Contains, option_map, is_some, refl, sym, ◌∙◌, subst}
use Rattle.std.proofs.lemmas.Option.{none-some, same_Some}
use Rattle.krates_cm.specs.Document.{Text}
use Rattle.krates_questions.specs.Lookup.{IsLookup, resolved_view}
use Rattle.krates_questions.specs.declared.lookup.Lookup.{Lookup}
use Rattle.krates_rules.specs.Facts.{Id}
use Rattle.krates_rules.specs.Resolved.{Resolved, IsMember}
use Rattle.krates_rules.proofs.Readings.{ReadsOnce}
use Rattle.krates_text.specs.FeatureReference.{Reference, HasOneReading, IsReference}
use Rattle.krates_units.specs.Answered.{HasNamed, NamesFeature, SelectsSome, TakesAsRoot, TakesLacking, TakesSome}
use Rattle.krates_units.specs.BuildSetting.{BuildSettingModel}
use Rattle.krates_units.specs.Requests.{RootKind, IsBuildRootAs, IsSelected, Takes, alike, unselected, current, other}
use Rattle.krates_build_tables.specs.References.{reference_view}
use Rattle.krates_build_tables.specs.RequestsFlags.{AreFlags, TellsRoot, flagged, root_kind}
use Rattle.krates_build_tables.specs.RequestsTaken.{TellsTaken}
use Rattle.krates_build_tables.specs.declared.reference.FeatureReference.{FeatureReference}
use Rattle.krates_build_tables.specs.declared.roots.RootAs.{RootAs}
use Rattle.krates_build_tables.specs.declared.selection.CrateFlags.{CrateFlags}
use Rattle.krates_build_tables.proofs.Flagged.{member_flagged, selected_flagged}
use Rattle.krates_build_tables.proofs.NumberedCrates.{numbered_ids}

-- ---- all crates

root_member : (r : Resolved) (s : BuildSettingModel) (i : Id) (kind : RootKind) → IsBuildRootAs r s i kind → IsMember r i
root_member r s i alike h = h.1.0
root_member r s i unselected h = h.2
root_member r s i current h = h.1.member
root_member r s i other h = h.2.0

pub taking_member : (r : Resolved) (s : BuildSettingModel) (v : Reference) (i : Id) → TakesSome r s v i → IsMember r i
taking_member r s v i t = root_member r s i t.1.kind t.1.root

pub lacking_member : (r : Resolved) (s : BuildSettingModel) (v : Reference) (i : Id) → TakesLacking r s v i → IsMember r i
lacking_member r s v i t = root_member r s i t.1.kind t.1.root

-- what only members have, and none of the crates with flags, no crate has
pub none_flagged : ReadsOnce → (d : Lookup) → IsLookup d → (s : BuildSettingModel) (flags : List CrateFlags) → AreFlags (resolved_view d) s (numbered_ids d) flags
    → (P : Id → Type 0) → ((i : Id) → P i → IsMember (resolved_view d) i) → ((x : CrateFlags) → Contains flags x → P (flagged x) → ⊥) → (i : Id) → P i → ⊥
none_flagged once d h s flags are P members none i p = member_flagged once d h s flags are i (members i p) (λ x among is. none x among (subst P (sym is) p))

-- a crate that is asked for has flags that say so
pub none_selected_there : ReadsOnce → (d : Lookup) → IsLookup d → (s : BuildSettingModel) (flags : List CrateFlags) → AreFlags (resolved_view d) s (numbered_ids d) flags
    → ((x : CrateFlags) → Contains flags x → IsTrue x.is_selected → ⊥) → SelectsSome (resolved_view d) s → ⊥
none_selected_there once d h s flags are none some =
    selected_flagged once d h s flags are some.0 some.1 (λ x among is. none x among ((are.each x among).selected.1 (subst (IsSelected (resolved_view d) s) (sym is) some.1)))

-- ---- one crate

-- what a crate takes that is a root of this kind
pub taken_told : (r : Resolved) (s : BuildSettingModel) (i : Id) (kind : RootAs) (v : Reference) (answer : Option FeatureReference) → TellsRoot r s i (Some kind) → TellsTaken r s i (root_kind kind) v answer
    → (w : Reference) → TakesAsRoot r s i v w ↔ (option_map reference_view answer ≡ Some w)
taken_told r s i kind v answer root takes w = (
  λ t.
      let same : t.kind ≡ root_kind kind = sym (same_Some (root_kind kind) t.kind ((root t.kind).0 t.root)) in
      (takes w).0 (subst (λ (k : RootKind). Takes r s i k v w) same t.takes),
  λ e. record { kind = root_kind kind; root = (root (root_kind kind)).1 refl; takes = (takes w).1 e },
)

-- a crate that is no root takes nothing
pub none_taken : (r : Resolved) (s : BuildSettingModel) (i : Id) (v : Reference) → TellsRoot r s i None → (w : Reference) → TakesAsRoot r s i v w ↔ (None ≡ Some w)
none_taken r s i v root w = (λ t. absurd (none-some t.kind ((root t.kind).0 t.root)), λ e. absurd cc)

-- something is taken, if there is an answer
pub some_told : (r : Resolved) (s : BuildSettingModel) (i : Id) (v : Reference) (answer : Option FeatureReference) → ((w : Reference) → TakesAsRoot r s i v w ↔ (option_map reference_view answer ≡ Some w))
    → IsTrue (is_some answer) ↔ TakesSome r s v i
some_told r s i v None tells = (λ e. absurd cc, λ h. absurd (none-some h.0 ((tells h.0).0 h.1)))
some_told r s i v (Some x) tells = (λ e. (reference_view x, (tells (reference_view x)).1 refl), λ h. refl)

-- and what is lacking is the answer
pub lacking_told : (r : Resolved) (s : BuildSettingModel) (i : Id) (v : Reference) (x : FeatureReference) (b : Bool) → ((w : Reference) → TakesAsRoot r s i v w ↔ (Some (reference_view x) ≡ Some w)) → IsTrue b ↔ HasNamed r i (reference_view x)
    → IsTrue (not b) ↔ TakesLacking r s v i
lacking_told r s i v x true tells has = (λ e. absurd cc, λ h. absurd (h.2 (subst (HasNamed r i) (same_Some (reference_view x) h.0 ((tells h.0).0 h.1)) (has.0 refl))))
lacking_told r s i v x false tells has = (λ e. (reference_view x, (tells (reference_view x)).1 refl, λ n. let no : false ≡ true = has.1 n in cc), λ h. refl)

pub nothing_lacking : (r : Resolved) (s : BuildSettingModel) (i : Id) (v : Reference) → ((w : Reference) → TakesAsRoot r s i v w ↔ (None ≡ Some w)) → IsTrue false ↔ TakesLacking r s v i
nothing_lacking r s i v tells = (λ e. absurd cc, λ h. absurd (none-some h.0 ((tells h.0).0 h.1)))

-- ---- a text

-- a text is one reference
same_reference : ((text : Text) → HasOneReading text) → (text : Text) (u v : Reference) → IsReference text u → IsReference text v → u ≡ v
same_reference one text u v is_u is_v = let reading = one text in reading.only u is_u ∙ sym (reading.only v is_v)

-- a text whose reference is taken names a feature, if none lacks what it takes
pub feature_named : ((text : Text) → HasOneReading text) → (r : Resolved) (s : BuildSettingModel) (text : Text) (v : Reference) → IsReference text v → (i : Id) × TakesSome r s v i → (b : Bool)
    → IsTrue b ↔ ((i : Id) × TakesLacking r s v i) → IsTrue (not b) ↔ NamesFeature r s text
feature_named one r s text v is taken false lacking = (
  λ e. record { reference = v; is = is; taken = taken; none_lacking = λ i l. let no : false ≡ true = lacking.1 (i, l) in cc },
  λ h. refl,
)
feature_named one r s text v is taken true lacking = (
  λ e. absurd cc,
  λ h.
      let same = same_reference one text h.reference v h.is is in
      let l = lacking.0 refl in
      absurd (h.none_lacking l.0 (subst (λ (u : Reference). TakesLacking r s u l.0) (sym same) l.1)),
)

-- a text whose reference no crate takes names none
pub feature_not_named : ((text : Text) → HasOneReading text) → (r : Resolved) (s : BuildSettingModel) (text : Text) (v : Reference) → IsReference text v → ((i : Id) × TakesSome r s v i → ⊥) → IsTrue false ↔ NamesFeature r s text
feature_not_named one r s text v is none = (
  λ e. absurd cc,
  λ h.
      let same = same_reference one text h.reference v h.is is in
      absurd (none (h.taken.0, subst (λ (u : Reference). TakesSome r s u h.taken.0) same h.taken.1)),
)
