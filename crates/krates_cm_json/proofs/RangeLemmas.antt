-- Numbers in range.
use Rattle.std.proofs.Common.{◌≡◌, ◌↔◌, ℕ, ◌+◌, ◌<◌, List, ◌∷◌, length, drop, get_or, Bool, Option, None, Some, option_and_then, is_some, IsTrue, refl, sym, ap, ◌∙◌, subst}
use Rattle.std.proofs.lemmas.List.{drop_more}
use Rattle.json.specs.Json as json
use Rattle.json.specs.Json.{Json}
use Rattle.json.specs.Value.{value_view, members_view}
use Rattle.serde_json.specs.Data as serde
use Rattle.serde_json.specs.Data.{put}
use Rattle.serde_json.specs.Read.{of_json, of_members}
use Rattle.krates_cm_json.proofs.ReadableLemmas.{Member}
use Rattle.krates_cm_json.specs.Readable.{IsInRange, AreMembersInRange}

pub IsTrue-same : {a b : Bool} → a ≡ b → IsTrue a ↔ IsTrue b
IsTrue-same is = (λ h. sym is ∙ h, λ h. is ∙ h)

-- something comes of a step and what follows exactly where it comes of both, if that doesn't depend on what the step gives
both : {A B : Type 0} (o : Option A) (more : A → Option B) (b : Bool) → ((a : A) → is_some (more a) ≡ b) → IsTrue (is_some (option_and_then more o)) ↔ (IsTrue (is_some o) × IsTrue b)
both None more b same = (λ h. absurd (cc), λ h. absurd (cc))
both (Some a) more b same = (λ h. (refl, sym (same a) ∙ h), λ h. same a ∙ h.1)

after : {A B : Type 0} (o : Option A) (f g : A → Option B) → ((a : A) → is_some (f a) ≡ is_some (g a)) → is_some (option_and_then f o) ≡ is_some (option_and_then g o)
after None f g same = refl
after (Some a) f g same = same a

-- whether members are in range is the same whichever members come before them
is_some-of_members : (ms : json.Members) (before others : serde.Members) → is_some (of_members ms before) ≡ is_some (of_members ms others)
is_some-of_members json.no_members before others = refl
is_some-of_members (json.member k j ms) before others =
    after (of_json j) (λ d. of_members ms (put k d before)) (λ d. of_members ms (put k d others)) (λ d. is_some-of_members ms (put k d before) (put k d others))

pub member_in_range : (k : List ℕ) (j : Json) (ms : json.Members) → AreMembersInRange (json.member k j ms) ↔ (IsInRange j × AreMembersInRange ms)
member_in_range k j ms =
    both (of_json j) (λ d. of_members ms (put k d serde.no_members)) (is_some (of_members ms serde.no_members)) (λ d. is_some-of_members ms (put k d serde.no_members) serde.no_members)

-- the members from an index on, where there is one at it
pub members_from : (i : ℕ) (ms : List Member) (m : Member) → i < length ms → m ≡ get_or ms i m
    → AreMembersInRange (members_view (drop i ms)) ↔ (IsInRange (value_view m.1) × AreMembersInRange (members_view (drop (i + 1) ms)))
members_from i ms m within is =
    let here : drop i ms ≡ m ∷ drop (i + 1) ms = drop_more ms i m within ∙ ap (λ n. n ∷ drop (i + 1) ms) (sym is) in
    let whole = member_in_range m.0.now (value_view m.1) (members_view (drop (i + 1) ms)) in
    (λ all. whole.0 (subst (λ ns. AreMembersInRange (members_view ns)) here all), λ both. subst (λ ns. AreMembersInRange (members_view ns)) (sym here) (whole.1 both))
