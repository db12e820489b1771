-- What the flags of the crates say of all crates.
use Rattle.std.proofs.Common.{◌≡◌, ◌↔◌, List, [], ◌∷◌, ◌++◌, Bool, IsTrue, Contains, inl, inr, refl, ap, ◌∙◌, subst, sym}
use Rattle.std.proofs.lemmas.List.{map-append}
use Rattle.std.proofs.lemmas.List.Elements.{Contains-push_cases}
use Rattle.krates_questions.specs.Lookup.{IsLookup, resolved_view}
use Rattle.krates_questions.specs.declared.lookup.Lookup.{Lookup}
use Rattle.krates_rules.specs.Facts.{Id}
use Rattle.krates_rules.specs.Resolved.{Resolved, IsMember}
use Rattle.krates_rules.proofs.Elements.{contains_source}
use Rattle.krates_rules.proofs.PutElements.{none_there}
use Rattle.krates_rules.proofs.Readings.{ReadsOnce}
use Rattle.krates_rules.proofs.Standings.{contains_at}
use Rattle.krates_units.specs.BuildSetting.{BuildSettingModel}
use Rattle.krates_units.specs.Requests.{IsSelected, SelectsNoMember, by_default, as_member, as_specified, written, current, member}
use Rattle.krates_build_tables.specs.RequestsFlags.{AreFlags, FlagsSay, NoneSelected, flagged}
use Rattle.krates_build_tables.specs.declared.selection.CrateFlags.{CrateFlags}
use Rattle.krates_build_tables.proofs.NumberedCrates.{HasNoNumber, member_numbered, numbered_ids, package_numbered}

-- none of these flags are those of the crate
abbrev pub HasNoFlags : List CrateFlags → Id → Type 0
HasNoFlags flags i = (x : CrateFlags) → Contains flags x → flagged x ≡ i → ⊥

-- a crate that has no flags has no number
no_number : (d : Lookup) (s : BuildSettingModel) (flags : List CrateFlags) → AreFlags (resolved_view d) s (numbered_ids d) flags → (i : Id) → HasNoFlags flags i → HasNoNumber d i
no_number d s flags are i none n at =
    let x = contains_source flagged flags i (subst (λ (ids : List Id). Contains ids i) (sym are.ids_are) (contains_at (numbered_ids d) n i at)) in
    none x.0 x.1 x.2

pub member_flagged : ReadsOnce → (d : Lookup) → IsLookup d → (s : BuildSettingModel) (flags : List CrateFlags) → AreFlags (resolved_view d) s (numbered_ids d) flags → (i : Id) → IsMember (resolved_view d) i → HasNoFlags flags i → ⊥
member_flagged once d h s flags are i m none = member_numbered once d h i m (no_number d s flags are i none)

pub selected_flagged : ReadsOnce → (d : Lookup) → IsLookup d → (s : BuildSettingModel) (flags : List CrateFlags) → AreFlags (resolved_view d) s (numbered_ids d) flags → (i : Id) → IsSelected (resolved_view d) s i → HasNoFlags flags i → ⊥
selected_flagged once d h s flags are i (by_default _ (written _ _ m)) none = member_flagged once d h s flags are i m none
selected_flagged once d h s flags are i (by_default _ (current _ c)) none = member_flagged once d h s flags are i c.member none
selected_flagged once d h s flags are i (by_default _ (member _ _ m)) none = member_flagged once d h s flags are i m none
selected_flagged once d h s flags are i (as_member _ m) none = member_flagged once d h s flags are i m none
selected_flagged once d h s flags are i (as_specified {p = p} _ _ has _) none = package_numbered once d h i p has (no_number d s flags are i none)

-- whether no member is selected is told by the flags
pub none_selected : ReadsOnce → (d : Lookup) → IsLookup d → (s : BuildSettingModel) (flags : List CrateFlags) → AreFlags (resolved_view d) s (numbered_ids d) flags → (b : Bool) → IsTrue b ↔ NoneSelected flags
    → IsTrue b ↔ SelectsNoMember (resolved_view d) s
none_selected once d h s flags are b told =
    let r = resolved_view d in (
      λ t i both. member_flagged once d h s flags are i both.0 (λ x among is.
          let says = are.each x among in
          told.0 t x among (says.member.1 (subst (IsMember r) (sym is) both.0)) (says.selected.1 (subst (IsSelected r s) (sym is) both.1))),
      λ no. told.1 (λ x among m q. let says = are.each x among in no (flagged x) (says.member.0 m, says.selected.0 q)),
    )

-- ---- the list of flags

pub flags_none : (r : Resolved) (s : BuildSettingModel) → AreFlags r s [] []
flags_none r s = record { ids_are = refl; each = λ x among. absurd (none_there x among) }

pub flags_more : (r : Resolved) (s : BuildSettingModel) (ids : List Id) (flags : List CrateFlags) (i : Id) (x : CrateFlags) → FlagsSay r s x → flagged x ≡ i → AreFlags r s ids flags → AreFlags r s (ids ++ i ∷ []) (flags ++ x ∷ [])
flags_more r s ids flags i x says is so_far = record {
  ids_are = map-append flagged flags (x ∷ []) ∙ ap (λ (js : List Id). js ++ flagged x ∷ []) so_far.ids_are ∙ ap (λ (j : Id). ids ++ j ∷ []) is;
  each = λ y among. elim (Contains-push_cases flags x y among) [ inl before ↦ so_far.each y before | inr e ↦ subst (FlagsSay r s) e says ];
}
