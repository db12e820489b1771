-- The counts of a search are the counts of its selection.
use Rattle.std.proofs.Common.{◌≡◌, ◌≢◌, ℕ, zero, suc, ◌<◌, ◌≤◌, List, [], ◌∷◌, length, get_or, Bool, true, false, ◌==◌, Some, Contains, refl, sym, ap, ◌∙◌, subst, eqb-true, arith}
use Rattle.std.proofs.lemmas.List.Sorted.{length_permutation}
use Rattle.std.proofs.lemmas.Option.{slice_get-get_or, slice_get_within, same_Some}
use Rattle.std.specs.List.{AllPairs, AllZip, IsDistinct, slice_get}
use Rattle.krates_cm.specs.Document.{Text, text_view}
use Rattle.krates_ids.specs.Identity.{Identity}
use Rattle.krates_rules.specs.Admission.{NoneDoubled}
use Rattle.krates_rules.specs.Facts.{Id}
use Rattle.krates_rules.specs.Resolved.{NodeAt, Resolved}
use Rattle.krates_questions.specs.FeatureTable.{listed_features, FeatureAt, IsOwn}
use Rattle.krates_selection.specs.Selection.{same_feature, CountsEach, HasReferences, counted, id_at}
use Rattle.krates_search.specs.declared.search_state.SearchState.{SearchState}
use Rattle.krates_selection.specs.declared.selection.EnabledFeature.{EnabledFeature}
use Rattle.krates_selection.specs.declared.work.Work.{Work}
use Rattle.krates_rules.proofs.OnlyOne.{one_node_place}
use Rattle.krates_rules.proofs.Readings.{left_of}
use Rattle.krates_rules.proofs.Standings.{contains_at}
use Rattle.krates_rules.proofs.Distinct.{distinct_from, zip_shuffled}
use Rattle.krates_rules.proofs.Elements.{both}
use Rattle.krates_search.proofs.KeptFeatures.{same_name}
use Rattle.krates_questions.specs.declared.context.Context.{Context}
use Rattle.krates_questions.specs.Context.{document_of}
use Rattle.krates_search.specs.KeptLists.{AreSorted, IsFeatureOf}
use Rattle.krates_resolve.specs.Saturation.{HasCountedAll}

-- a boolean that isn't true is false
is_false : (b : Bool) → (b ≡ true → ⊥) → b ≡ false
is_false true h = absurd (h refl)
is_false false h = refl

-- numbers that were each put once differ
apart : (xs : List ℕ) (j k n : ℕ) → AllPairs (λ a b. a ≢ b) xs → j < k → slice_get xs j ≡ Some n → slice_get xs k ≡ Some n → ⊥
apart xs j k n distinct lt a b =
    let long = slice_get_within xs k n b in
    let first = same_Some n (get_or xs j n) (sym a ∙ slice_get-get_or xs j n (omega (arith, lt, long))) in
    let second = same_Some n (get_or xs k n) (sym b ∙ slice_get-get_or xs k n long) in
    distinct j k n lt long (sym first ∙ second)

neither_less : (n m : ℕ) → m ≤ n → n ≤ m → n ≡ m
neither_less n m low high = omega (arith, low, high)

-- a feature has only one number
one_number : (r : Resolved) (i j : Id) (f g : Text) (n m : ℕ) → NoneDoubled r.metadata r.graph → IsOwn r n → IsOwn r m → FeatureAt r i f n → FeatureAt r j g m → i ≡ j → f ≡ g → n ≡ m
one_number r i j f g n m none a b x y krate name =
    let place : x.place ≡ y.place = one_node_place r j x.place y.place none (subst (λ (k : Id). NodeAt r k x.place) krate x.node) y.node in
    let same : (x.place, f) ≡ (y.place, g) = ap (λ (p : ℕ). (p, f)) place ∙ ap (λ (t : Text). (y.place, t)) name in
    let here : slice_get (listed_features r) n ≡ Some (y.place, g) = x.at ∙ ap (λ (p : ℕ × Text). Some p) same in
    neither_less n m (a m (y.place, g) here y.at) (b n (y.place, g) y.at here)

-- no feature was put twice
distinct_enabled : (b : Context) (kids : List Identity) (numbers : List ℕ) (enabled : List EnabledFeature) → NoneDoubled (document_of b).metadata (document_of b).graph → ((n : ℕ) → Contains numbers n → IsOwn (document_of b) n) → AllPairs (λ a z. a ≢ z) numbers
    → AllZip (IsFeatureOf b kids) numbers enabled → IsDistinct same_feature enabled
distinct_enabled b kids numbers enabled none own distinct zip = distinct_from same_feature enabled (λ j k a z lt x y. is_false (same_feature a z) (λ same.
    (let n = left_of (IsFeatureOf b kids) numbers enabled j a zip x in
    let m = left_of (IsFeatureOf b kids) numbers enabled k z zip y in
    let parts = both (a.krate == z.krate) _ same in
    let krate : id_at kids a.krate ≡ id_at kids z.krate = ap (id_at kids) (eqb-true a.krate z.krate parts.0) in
    let e : n.0 ≡ m.0 = one_number (document_of b) (id_at kids a.krate) (id_at kids z.krate) (text_view a.name) (text_view z.name) n.0 m.0 none (own n.0 (contains_at numbers j n.0 n.1)) (own m.0 (contains_at numbers k m.0 m.1)) n.2.at m.2.at krate (same_name a.name z.name parts.1) in
    apart numbers j k m.0 distinct lt (subst (λ (i : ℕ). slice_get numbers j ≡ Some i) e n.1) m.1)))

-- place by place
zip_from : {A : Type 0} (R : A → ℕ → Type 0) (xs : List A) (ns : List ℕ) → length ns ≡ length xs → ((k : ℕ) (x : A) (n : ℕ) → slice_get xs k ≡ Some x → slice_get ns k ≡ Some n → R x n) → AllZip R xs ns
zip_from R [] [] long each = tt
zip_from R [] (n ∷ ns) long each = absurd (omega (arith, long))
zip_from R (x ∷ xs) [] long each = absurd (omega (arith, long))
zip_from R (x ∷ xs) (n ∷ ns) long each = (each zero x n refl refl, zip_from R xs ns (omega (arith, long)) (λ k y m a b. each (suc k) y m a b))

-- there are as many numbers as features
numbers_long : (b : Context) (kids : List Identity) (numbers : List ℕ) (enabled : List EnabledFeature) → AllZip (IsFeatureOf b kids) numbers enabled → length enabled ≡ length numbers
numbers_long b kids [] [] z = refl
numbers_long b kids [] (x ∷ xs) z = absurd z
numbers_long b kids (n ∷ ns) [] z = absurd z
numbers_long b kids (n ∷ ns) (x ∷ xs) z = ap suc (numbers_long b kids ns xs z.1)

-- what was found, and counted
pub record IsCountedWhole (b : Context) (found : SearchState) (kids : List Identity) (work : Work) : Type 0 where
  pub none_doubled : NoneDoubled (document_of b).metadata (document_of b).graph
  pub krates_long : length kids ≡ length found.krates.put
  pub features_once : AllPairs (λ a y. a ≢ y) found.features.put
  pub own : (n : ℕ) → Contains found.features.put n → IsOwn (document_of b) n
  pub counted : HasCountedAll b found work

pub counts_each : (b : Context) (found : SearchState) (kids : List Identity) (features : List EnabledFeature) (work : Work) → IsCountedWhole b found kids work → AreSorted b kids found.features.put features → CountsEach (document_of b) b.setting.now kids features work
counts_each b found kids features work whole sorted =
    let refers : EnabledFeature → ℕ → Type 0 = λ f k. HasReferences (document_of b) b.setting.now (id_at kids f.krate) (text_view f.name) k in
    let enabled = sorted.enabled in
    let c = whole.counted in
    let t = c.counted.references.1 in
    let q = sorted.whole (distinct_enabled b kids found.features.put enabled whole.none_doubled whole.own whole.features_once sorted.numbered) in
    let krates : found.krates.taken ≡ length kids = c.krates ∙ sym whole.krates_long in
    let enabled_long = numbers_long b kids found.features.put enabled sorted.numbered in
    let taken : found.features.taken ≡ length features = c.features ∙ sym enabled_long ∙ sym (length_permutation enabled features q) in
    let zip : AllZip refers enabled t.counts = zip_from refers enabled t.counts (t.long ∙ c.features ∙ sym enabled_long) (λ k x n at count.
    (let w = left_of (IsFeatureOf b kids) found.features.put enabled k x sorted.numbered at in
    t.each k w.0 n w.1 count (id_at kids x.krate) (text_view x.name) w.2.at)) in
    let z = zip_shuffled refers enabled features t.counts q zip in
    record {
      krates = c.counted.krates ∙ ap counted krates;
      features_once = c.counted.features ∙ ap counted taken;
      references = (c.counted.references.0, record { counts = z.0; each = z.1; total = t.total ∙ sym z.2 }, c.counted.references.2);
    }
