-- Lists of entries, each at its place.
use Rattle.std.proofs.Common.{◌≡◌, ◌↔◌, ◌⊎◌, ◌≤◌, ℕ, zero, suc, ◌+◌, ◌<◌, List, [], ◌∷◌, ◌++◌, length, get_or, take, map, option_map, Some, Contains, refl, sym, ap, ◌∙◌, subst, inl, inr}
use Rattle.std.proofs.lemmas.List.{length-append, take_all, take_more}
use Rattle.std.proofs.lemmas.Option.{slice_get-map, same_Some}
use Rattle.std.specs.List.{AllZip, slice_get}
use Rattle.krates_cm.specs.Document.{DependencyModel, PackageModel, TargetModel, target_view}
use Rattle.krates_rules.specs.Facts.{Id, Edge}
use Rattle.krates_rules.specs.Resolved.{Resolved, HasPackage}
use Rattle.krates_rules.proofs.OnlyOne.{place_in}
use Rattle.krates_rules.proofs.Readings.{left_of, right_of}
use Rattle.krates_rules.proofs.Standings.{contains_at}
use Rattle.krates_rules.proofs.Zips.{zip_push}
use Rattle.krates_units.specs.BuildSetting.{BuildSettingModel}
use Rattle.krates_units.specs.BuildTargets.{HasTarget}
use Rattle.krates_units.specs.Resolves.{LacksEdge, Resolves}
use Rattle.krates_build_tables.specs.Builds.{AreLinkEntries, LinkSaysOf, ids_in, machines_in, resolved_in, setting_in}
use Rattle.krates_build_tables.specs.Entries.{AreLackingEntries, AreTargetEntries}
use Rattle.krates_build_tables.specs.CrateParts.{AreCrates}
use Rattle.krates_build_tables.specs.declared.tables.CrateEntry.{CrateEntry}
use Rattle.krates_build_tables.specs.TablesOf.{AreLackingOf, CrateAt, CrateSays, AreLinksOf, AreTargetsOf, LackingSays, LinkSays, TargetSays}
use Rattle.krates_build_tables.specs.Pairs.{pair_view}
use Rattle.krates_build_tables.specs.declared.links.Build.{Build}
use Rattle.krates_build_tables.specs.declared.pairs.Pair.{Pair}
use Rattle.krates_build_tables.specs.declared.tables.Link.{Link}
use Rattle.krates_build_tables.specs.declared.tables.Lacking.{Lacking}
use Rattle.krates_build_tables.specs.declared.tables.TargetEntry.{TargetEntry}

-- an element of a list with one more is one of the list, or that
pub push_cases : {A : Type 0} (xs : List A) (y : A) (k : ℕ) (x : A) → slice_get (xs ++ y ∷ []) k ≡ Some x → (slice_get xs k ≡ Some x) ⊎ ((k ≡ length xs) × (x ≡ y))
push_cases [] y zero x h = inr (refl, sym (same_Some y x h))
push_cases [] y (suc k) x h = absurd cc
push_cases (z ∷ xs) y zero x h = inl h
push_cases (z ∷ xs) y (suc k) x h = elim (push_cases xs y k x h) [ inl e ↦ inl e | inr e ↦ inr (ap suc e.0, e.1) ]

-- what holds of each element and its place, holds with one more too
pub placed_push : {A : Type 0} (P : ℕ → A → Type 0) (xs : List A) (y : A) → ((k : ℕ) (x : A) → slice_get xs k ≡ Some x → P k x) → P (length xs) y
    → (k : ℕ) (x : A) → slice_get (xs ++ y ∷ []) k ≡ Some x → P k x
placed_push P xs y each here k x h = elim (push_cases xs y k x h) [
  | inl e ↦ each k x e
  | inr e ↦ rw (e.0, e.1) here
]

-- what each element of a list makes of its own in another
zipped_map : {A B : Type 0} {R : A → B → Type 0} (f : B → A) (xs : List A) (ys : List B) → ((x : A) (y : B) → R x y → f y ≡ x) → AllZip R xs ys → map f ys ≡ xs
zipped_map f [] [] is zip = refl
zipped_map f [] (y ∷ ys) is zip = absurd zip
zipped_map f (x ∷ xs) [] is zip = absurd zip
zipped_map f (x ∷ xs) (y ∷ ys) is zip = rw (is x y zip.0, zipped_map f xs ys is zip.1) refl

pub entries_targets : (r : Resolved) (s : BuildSettingModel) (number : ℕ) (i : Id) (ts : List TargetModel) (entries : List TargetEntry)
    → ((t : TargetModel) → (HasTarget r i t → Contains ts t) × (Contains ts t → HasTarget r i t)) → ((p : PackageModel) → HasPackage r i p → ts ≡ p.targets)
    → AreTargetEntries s number ts entries → AreTargetsOf r s number i entries
entries_targets r s number i ts entries same whole are = record {
  whole = λ p has. zipped_map (λ x. target_view x.target.now) ts entries (λ t x says. says.target) are.says ∙ whole p has;
  each = λ k x h. (
      let w = left_of (λ t x. TargetSays s x t) ts entries k x are.says h in
      (w.0, (same w.0).1 (contains_at ts k w.0 w.1), w.2));
  places = are.places;
  all = λ t h. (
      let at = place_in ts t ((same t).0 h) in
      let w = right_of (λ t x. TargetSays s x t) ts entries at.0 t are.says at.1 in
      (at.0, w.0, w.1, w.2));
}

pub entries_lacking : (r : Resolved) (number : ℕ) (i : Id) (ds : List DependencyModel) (entries : List Lacking)
    → ((d : DependencyModel) → (LacksEdge r i d → Contains ds d) × (Contains ds d → LacksEdge r i d)) → AreLackingEntries number ds entries → AreLackingOf r number i entries
entries_lacking r number i ds entries same are = record {
  each = λ k x h. (
      let w = left_of (λ d x. LackingSays x d) ds entries k x are.says h in
      (w.0, (same w.0).1 (contains_at ds k w.0 w.1), w.2));
  places = are.places;
  all = λ d h. (
      let at = place_in ds d ((same d).0 h) in
      let w = right_of (λ d x. LackingSays x d) ds entries at.0 d are.says at.1 in
      (at.0, w.0, w.1, w.2));
}

-- ---- lists that are gone over

pub zip_more : {A B : Type 0} (R : A → B → Type 0) (xs : List A) (i : ℕ) (x : A) (ys : List B) (y : B) → i < length xs → x ≡ get_or xs i x → R x y → AllZip R (take i xs) ys → AllZip R (take (i + 1) xs) (ys ++ y ∷ [])
zip_more R xs i x ys y lt is here so_far =
    let more : take (i + 1) xs ≡ take i xs ++ x ∷ [] = take_more xs i x lt ∙ ap (λ z. take i xs ++ z ∷ []) (sym is) in
    rw more (zip_push R (take i xs) ys x y so_far here)

pub zip_whole : {A B : Type 0} (R : A → B → Type 0) (xs : List A) (i : ℕ) (ys : List B) → length xs ≤ i → AllZip R (take i xs) ys → AllZip R xs ys
zip_whole R xs i ys le h = subst (λ zs. AllZip R zs ys) (take_all i xs le) h

pub seen_there : {A : Type 0} (xs : List A) (i : ℕ) (x : A) → i < length xs → x ≡ get_or xs i x → Contains xs x
seen_there xs i x lt is = (i, lt, sym is)

-- ---- links

mapped_at : {A B : Type 0} (f : A → B) (xs : List A) (k : ℕ) (y : B) → slice_get (map f xs) k ≡ Some y → (x : A) × (slice_get xs k ≡ Some x) × (f x ≡ y)
mapped_at f [] k y h = absurd cc
mapped_at f (x ∷ xs) zero y h = (x, refl, same_Some (f x) y h)
mapped_at f (x ∷ xs) (suc k) y h = mapped_at f xs k y h

pub entries_links : (b : Build) (number : ℕ) (i : Id) (pairs : List Pair) (links : List Link) → ((x : Edge × DependencyModel) → (Resolves (resolved_in b) x.0 x.1 × (x.0.parent ≡ i)) ↔ Contains (map pair_view pairs) x)
    → AreLinkEntries b number pairs links → AreLinksOf (resolved_in b) (setting_in b) (ids_in b) (machines_in b) number i links
entries_links b number i pairs links same are = record {
  each = λ k l h. (
      let w = left_of (LinkSaysOf b) pairs links k l are.says h in
      let view = pair_view w.0 in
      let of = (same view).1 (contains_at (map pair_view pairs) k view (slice_get-map pair_view pairs k ∙ ap (option_map pair_view) w.1)) in
      record {
        edge = view.0;
        dep = view.1;
        resolves = of.0;
        says = subst (λ (j : Id). LinkSays (resolved_in b) (setting_in b) (ids_in b) (machines_in b) j l view.0 view.1) of.1 w.2;
      });
  places = are.places;
  all = λ e d resolves parent. (
      let at = place_in (map pair_view pairs) (e, d) ((same (e, d)).0 (resolves, parent)) in
      let p = mapped_at pair_view pairs at.0 (e, d) at.1 in
      let w = right_of (LinkSaysOf b) pairs links at.0 p.0 are.says p.1 in
      let says = subst (λ (x : Edge × DependencyModel). LinkSays (resolved_in b) (setting_in b) (ids_in b) (machines_in b) x.0.parent w.0 x.0 x.1) p.2 w.2 in
      (at.0, w.0, w.1, subst (λ (j : Id). LinkSays (resolved_in b) (setting_in b) (ids_in b) (machines_in b) j w.0 e d) parent says));
}

-- ---- crates

-- one more crate
pub crates_more : (b : Build) (n : ℕ) (entries : List CrateEntry) (i : Id) (e : CrateEntry) → CrateAt (ids_in b) n i → CrateSays (resolved_in b) (setting_in b) (ids_in b) (machines_in b) n i e
    → AreCrates b n entries → AreCrates b (n + 1) (entries ++ e ∷ [])
crates_more b n entries i e at says are = record {
  long = length-append entries (e ∷ []) ∙ ap (λ m. m + 1) are.long;
  each = λ k j x there h. elim (push_cases entries e k x h) [
    | inl old ↦ are.each k j x there old
    | inr new ↦ (
        let place : k ≡ n = new.0 ∙ are.long in
        let same : j ≡ i = same_Some j i (sym there ∙ ap (λ m. slice_get (ids_in b) m) place ∙ at) in
        rw (place, same, new.1) says)
  ];
}
