-- What a reference gives by each of the dependencies that its name means.
use Rattle.std.proofs.Common.{◌≡◌, ℕ, ◌<◌, ◌≤◌, List, length, map, max, get_or, Bool, Contains, sym, ap, ◌∙◌, arith, subst}
use Rattle.std.proofs.lemmas.List.{length-map}
use Rattle.std.proofs.lemmas.Option.{slice_get-get_or, slice_get_within}
use Rattle.krates_cm.specs.Document.{Text}
use Rattle.krates_text.specs.FeatureReference.{Reference, krate, simple, strong, weak}
use Rattle.krates_rules.proofs.FirstPlaces.{seen_at}
use Rattle.krates_rules.proofs.Readings.{ReadsOnce}
use Rattle.krates_rules.proofs.Seen.{SeenBelow}
use Rattle.krates_rules.specs.Admission.{NoneDoubled}
use Rattle.krates_rules.specs.Facts.{Id}
use Rattle.krates_rules.specs.Referent.{IsReferent}
use Rattle.krates_rules.proofs.OnlyOne.{place_in}
use Rattle.krates_rules.proofs.Standings.{contains_at}
use Rattle.krates_questions.specs.Context.{document_of}
use Rattle.krates_questions.specs.NodeEntry.{krate_of}
use Rattle.krates_questions.specs.ReferentPlace.{AreReferentsIn, referent_id}
use Rattle.krates_questions.specs.declared.referent.Referent.{Referent}
use Rattle.krates_questions.proofs.DepPlaces.{one_dep_place}
use Rattle.krates_search.specs.SearchState.{WaitsOrIsToggled, HasFollowed, Grows, IsAny}
use Rattle.krates_selection.proofs.Steps.{one_way}
use Rattle.krates_selection.specs.Selection.{CountsName}
use Rattle.krates_search.specs.declared.search_state.SearchState.{SearchState}
use Rattle.krates_resolve.specs.References.{CountsReferenceOf, DependsAt, HasFollowedAt, NamesDependency, name_of, RefersTo, Refers}
use Rattle.krates_resolve.specs.declared.references.Referrer.{Referrer}
use Rattle.krates_search.proofs.Growing.{toggled_grows, tried_grows, waiting_grows}

-- these are all that the name of the reference means
abbrev pub AreMeant : Referrer → Reference → List Referent → Type 0
AreMeant by reference xs = AreReferentsIn (document_of by.context) by.context.setting.now.all_named by.parts (name_of reference) xs

-- as the code goes over them
pub meant_here : (by : Referrer) (reference : Reference) (name : Text) (all : Bool) (items xs : List Referent) → name ≡ name_of reference → all ≡ by.context.setting.now.all_named → xs ≡ items → AreReferentsIn (document_of by.context) all by.parts name items → AreMeant by reference xs
meant_here by reference name all items xs named told same h =
    let b = by.context in
    subst (λ (t : Text). AreReferentsIn (document_of b) b.setting.now.all_named by.parts t xs) named (subst (λ (y : Bool). AreReferentsIn (document_of b) y by.parts name xs) told (subst (AreReferentsIn (document_of b) all by.parts name) (sym same) h))

pub item_among : (xs : List Referent) (k : ℕ) (x : Referent) → k < length xs → x ≡ get_or xs k x → Contains xs x
item_among xs k x lt is = (k, lt, sym is)

-- what holds of each that was gone over
pub each_among : (P : Referent → Type 0) (xs : List Referent) (i : ℕ) → length xs ≤ i → SeenBelow P xs i → (x : Referent) → Contains xs x → P x
each_among P xs i le seen x (k, lt, is) = subst P is (seen k x (omega (arith, lt, le)))

-- each is at a place of the node
pub referent_within : (by : Referrer) (reference : Reference) (xs : List Referent) (x : Referent) → AreMeant by reference xs → Contains xs x → x.place < length by.parts.children.now
referent_within by reference xs x h among = slice_get_within by.parts.children.now x.place x.id.now (h.each x among).at

-- the reference of the crate is one to each
pub refers_to : ReadsOnce → (by : Referrer) (f : SearchState) (reference : Reference) (xs : List Referent) (x : Referent) → AreMeant by reference xs → Contains xs x → Refers by f reference → RefersTo by f reference x.place
refers_to once by f reference xs x h among refers =
    let b = by.context in
    let p = krate_of by.parts in
    let at = h.each x among in
    record {
      refers = refers;
      child = referent_id x;
      dep = at.dep;
      is = λ other there. subst (IsReferent (document_of b) b.setting.now.all_named p (name_of reference)) (one_way once (document_of b) p (referent_id x) p other by.parts.place.index x.place at.dep there).1 at.is;
    }

-- ---- what was found at each

-- a crate that is meant is in the list
meant_at : (by : Referrer) (reference : Reference) (xs : List Referent) (c : Id) → AreMeant by reference xs → IsReferent (document_of by.context) by.context.setting.now.all_named (krate_of by.parts) (name_of reference) c → (x : Referent) × Contains xs x × DependsAt by c x.place
meant_at by reference xs c h referent =
    let at = place_in (map referent_id xs) c ((h.are.exactly c).1 referent) in
    let w = seen_at referent_id xs at.0 c at.1 in
    let x = get_or xs at.0 w.0 in
    let among = contains_at xs at.0 x (slice_get-get_or xs at.0 w.0 w.1) in
    (x, among, subst (λ (i : Id). DependsAt by i x.place) w.2 (h.each x among).dep)

-- so all that the reference gives has been found where it has been at each
pub followed_each : (by : Referrer) (f : SearchState) (reference : Reference) (xs : List Referent) → NoneDoubled (document_of by.context).metadata (document_of by.context).graph → NamesDependency reference → AreMeant by reference xs
    → ((x : Referent) → Contains xs x → HasFollowedAt by f reference x.place) → HasFollowed by.context f (krate_of by.parts) reference
followed_each by f (simple g) xs none named h each = absurd named
followed_each by f (krate c) xs none named h each = λ e same referent. let m = meant_at by (krate c) xs e.child h referent in each m.0 m.1 e same m.2
followed_each by f (strong c g) xs none named h each = (
  λ e same referent. let m = meant_at by (strong c g) xs e.child h referent in (each m.0 m.1).0 e same m.2,
  λ e d same referent w stands. let m = meant_at by (strong c g) xs e.child h referent in (each m.0 m.1).1 e d same m.2 w stands,
)
followed_each by f (weak c g) xs none named h each = λ child place index referent there.
    let b = by.context in
    let p = krate_of by.parts in
    let m = meant_at by (weak c g) xs child h referent in
    let at = one_dep_place (document_of b) p child by.parts.place.index m.0.place place index none m.2 there in
    subst (λ (n : ℕ). WaitsOrIsToggled b f p child n index g) at.0 (subst (λ (n : ℕ). WaitsOrIsToggled b f p child by.parts.place.index n g) at.1 (each m.0 m.1 child m.2))

-- it stays found
pub followed_at_grows : (by : Referrer) (f g : SearchState) (reference : Reference) (index : ℕ) → Grows by.context f g → HasFollowedAt by f reference index → HasFollowedAt by g reference index
followed_at_grows by f g (simple t) index more h = tt
followed_at_grows by f g (krate c) index more h = λ e same at. tried_grows by.context f g e IsAny more.found (h e same at)
followed_at_grows by f g (strong c t) index more h = (
  λ e same at. tried_grows by.context f g e IsAny more.found (h.0 e same at),
  λ e d same at w stands. toggled_grows by.context f g (krate_of by.parts) e.child t more.found (h.1 e d same at w stands),
)
followed_at_grows by f g (weak c t) index more h = λ child dep. waiting_grows by.context f g (krate_of by.parts) child by.parts.place.index index t more.found more.waits dep (h child dep)

-- ---- how often a reference counts

name_counts : (by : Referrer) (reference : Reference) (xs : List Referent) (n m : ℕ) → AreMeant by reference xs → m ≡ length xs → n ≡ max m 1 → CountsName (document_of by.context) by.context.setting.now.all_named (krate_of by.parts) (name_of reference) n
name_counts by reference xs n m h long is = record { ids = map referent_id xs; are = h.are; count = is ∙ ap (λ (k : ℕ). max k 1) (long ∙ sym (length-map xs referent_id)) }

pub reference_counts : (by : Referrer) (reference : Reference) (xs : List Referent) (n m : ℕ) → NamesDependency reference → AreMeant by reference xs → m ≡ length xs → n ≡ max m 1 → CountsReferenceOf by.context (krate_of by.parts) reference n
reference_counts by (simple g) xs n m named h long is = absurd named
reference_counts by (krate c) xs n m named h long is = name_counts by (krate c) xs n m h long is
reference_counts by (strong c g) xs n m named h long is = name_counts by (strong c g) xs n m h long is
reference_counts by (weak c g) xs n m named h long is = name_counts by (weak c g) xs n m h long is
