-- The features of a drawn graph are in the order of the outline, and are those enabled for the crates.
use Rattle.std.proofs.Common.{◌≡◌, ◌↔◌, ◌∙◌, ℕ, zero, suc, ◌<◌, List, [], ◌∷◌, ◌++◌, Bool, true, false, cond, Contains, Some, slice_get, length, get_or, map, refl, sym, ap, subst, inl, inr, Less, Equal}
use Rattle.std.proofs.lemmas.List.{length-map}
use Rattle.std.proofs.lemmas.List.Elements.{All-contains}
use Rattle.std.proofs.lemmas.Option.{slice_get-get_or, slice_get_within}
use Rattle.std.specs.List.{AllByRecursion}
use Rattle.std.specs.List.Sorted.{IsStrictlySortedBy}
use Rattle.krates_cm.specs.Document.{Text, text_view}
use Rattle.krates_drawing.proofs.NodeNumbers.{id_is, id_same}
use Rattle.krates_drawing.specs.Drawing.{PlannedNode, PlannedCrate, PlannedFeature, crate_number, planned_crate, planned_feature, id_eq, is_crate, place_of, planned_nodes}
use Rattle.krates_drawing.specs.Outline as outline
use Rattle.krates_drawing.specs.Views.{kids_in, crate_row_view, feature_row_view, outline_view}
use Rattle.krates_drawing.specs.declared.outline.CrateRow.{CrateRow}
use Rattle.krates_drawing.specs.declared.outline.FeatureRow.{FeatureRow}
use Rattle.krates_drawing.specs.declared.outline.Outline.{Outline}
use Rattle.krates_ids.specs.Identity.{Identity, empty_identity, id_cmp}
use Rattle.krates_rules.proofs.SeenInOrder.{sorted_same}
use Rattle.krates_selection.proofs.CrateNumbers.{seen_id}
use Rattle.krates_selection.specs.Selection.{HasHome, id_at, no_id, feature_cmp}
use Rattle.krates_rules.specs.Facts.{Id}
use Rattle.krates_rules.specs.Facts as facts
use Rattle.krates_rules.specs.Resolved.{id_of, StandsAt}
use Rattle.krates_drawing.specs.Division.{IsAmong, outline_ids}
use Rattle.krates.specs.Enabled.{numbered}
use Rattle.krates_queries.specs.Drawn.{planned_node}
use Rattle.krates_queries.specs.Kept.{AreFeatures, IsEnabledIn, feature_order}
use Rattle.krates.specs.KeptGraph.{named_fact}
use Rattle.krates_drawing.specs.Node.{crate_ids, crate_features, feature_names}
use Rattle.krates_drawing.specs.declared.node.Node.{Node}
use Rattle.krates_drawing.specs.declared.node.Node.TheVariants.{Krate, Feature}
use Rattle.krates.proofs.EnabledLemmas.{listed_at}
use Rattle.krates_rules.proofs.Members.{Member, member_of, contains_of, mapped_of, member_map}
use Rattle.krates_queries.proofs.NodeLemmas.{as_many_features}
use Rattle.krates_rules.proofs.OrderedIds.{Compares, equal_of}

-- ---- the names of the features are those of the outline

-- the number of its crate, and its name
abbrev pub named_key : outline.Outline → outline.FeatureRow → ℕ × Text
named_key t n = (crate_number t n.krate, n.name)

abbrev planned_names : List PlannedNode → List (ℕ × Text)
planned_names [] = []
planned_names (PlannedCrate id mapping ∷ ss) = planned_names ss
planned_names (PlannedFeature krate name ∷ ss) = (krate, name) ∷ planned_names ss

names_of_planned : {N : Type 0} (nodes : List (Node N)) → feature_names nodes ≡ planned_names (map planned_node nodes)
names_of_planned [] = refl
names_of_planned (Krate id krate features mapping ∷ nodes) = names_of_planned nodes
names_of_planned (Feature krate name ∷ nodes) = ap (λ xs. (krate, text_view name) ∷ xs) (names_of_planned nodes)

names_drawn : (t : outline.Outline) (ks : List outline.CrateRow) (fs : List outline.FeatureRow) → planned_names (map (planned_crate t) ks ++ map (planned_feature t) fs) ≡ map (named_key t) fs
names_drawn t [] [] = refl
names_drawn t [] (f ∷ fs) = ap (λ xs. named_key t f ∷ xs) (names_drawn t [] fs)
names_drawn t (k ∷ ks) fs = names_drawn t ks fs

pub names_are : {N : Type 0} (t : outline.Outline) (nodes : List (Node N)) → map planned_node nodes ≡ planned_nodes t → feature_names nodes ≡ map (named_key t) t.features
names_are t nodes e = names_of_planned nodes ∙ ap planned_names e ∙ names_drawn t t.krates t.features

-- ---- the number of a crate is its place

not_equal : (a b : Id) → (a ≡ b → ⊥) → (r : Bool) → id_eq a b ≡ r → r ≡ false
not_equal a b none true e = absurd (none (id_is a b e))
not_equal a b none false e = refl

behind : (x : Identity) (ids : List Identity) (n : ℕ) (y : Identity) → AllByRecursion (λ k. id_cmp x k ≡ Less) ids → slice_get ids n ≡ Some y → id_cmp x y ≡ Less
behind x [] n y h at = absurd cc
behind x (k ∷ ids) zero y h at = let same : k ≡ y = cc at in subst (λ z. id_cmp x z ≡ Less) same h.0
behind x (k ∷ ids) (suc n) y h at = behind x ids n y h.1 at

pub number_is : Compares → (ids : List Identity) (ks : List outline.CrateRow) (i : Id) (n : ℕ) → map id_of ids ≡ map (λ (k : outline.CrateRow). k.id) ks → IsStrictlySortedBy id_cmp ids
    → StandsAt ids i n → place_of (is_crate i) ks ≡ n
unfolding IsStrictlySortedBy
number_is o [] ks i n e s h = absurd cc (h.at)
number_is o (x ∷ ids) [] i n e s h = absurd cc
number_is o (x ∷ ids) (k ∷ ks) i zero e s h =
    let first : x ≡ h.there = cc (h.at) in
    let head : id_of x ≡ k.id = cc in
    let is : k.id ≡ i = sym head ∙ ap id_of first ∙ h.same in
    ap (λ b. cond b 0 (suc (place_of (is_crate i) ks))) (subst (λ j. id_eq k.id j ≡ true) is (id_same k.id))
number_is o (x ∷ ids) (k ∷ ks) i (suc n) e s h =
    let head : id_of x ≡ k.id = cc in
    let rest : map id_of ids ≡ map (λ (z : outline.CrateRow). z.id) ks = cc in
    let less : id_cmp x h.there ≡ Less = behind x ids n h.there s.0 h.at in
    let apart : (k.id ≡ i) → ⊥ = λ is. (let equal : id_cmp x h.there ≡ Equal = equal_of o x h.there (head ∙ is ∙ sym h.same) in cc (less, equal)) in
    ap (λ b. cond b 0 (suc (place_of (is_crate i) ks))) (not_equal k.id i apart (id_eq k.id i) refl)
    ∙ ap suc (number_is o ids ks i n rest s.1 (record { there = h.there; at = h.at; same = h.same }))

-- ---- crates by number

pub viewed_ids : (ks : List CrateRow) → map id_of (outline_ids ks) ≡ map (λ (k : outline.CrateRow). k.id) (map crate_row_view ks)
viewed_ids [] = refl
viewed_ids (k ∷ ks) = ap (λ js. id_of k.id ∷ js) (viewed_ids ks)

pub stands_here : (ids : List Identity) (n : ℕ) (i : Id) → n < length ids → id_at ids n ≡ i → StandsAt ids i n
stands_here ids n i lt e = record { there = get_or ids n empty_identity; at = slice_get-get_or ids n empty_identity lt; same = sym (seen_id ids n lt) ∙ e }

-- the crates of an outline are in the places of those with the same ids
module _ (t : Outline) (ids : List Identity) (e : map id_of ids ≡ map (λ (k : outline.CrateRow). k.id) (outline_view t).krates) where
  same_ids : map id_of ids ≡ map id_of (kids_in t)
  same_ids = e ∙ sym (viewed_ids t.krates.items)

  as_many : length t.krates.items ≡ length ids
  as_many = sym (length-map t.krates.items (λ (k : CrateRow). k.id)) ∙ sym (length-map (kids_in t) id_of) ∙ sym (ap length same_ids) ∙ length-map ids id_of

  stands_by_number : (n : ℕ) → n < length t.krates.items → StandsAt ids (id_at (kids_in t) n) n
  stands_by_number n lt = stands_here ids n (id_at (kids_in t) n) (subst (λ k. n < k) as_many lt) (ap (λ (is : List Id). get_or is n no_id) same_ids)

  -- the number of the crate of a feature is what the feature has
  own_number : Compares → IsStrictlySortedBy id_cmp ids → (n : ℕ) → n < length t.krates.items → crate_number (outline_view t) (id_at (kids_in t) n) ≡ n
  own_number o sorted n lt = number_is o ids (outline_view t).krates (id_at (kids_in t) n) n e sorted (stands_by_number n lt)

-- ---- the features ascend

abbrev key_of : Outline → FeatureRow → ℕ × Text
key_of t f = (crate_number (outline_view t) (id_at (kids_in t) f.feature.krate), text_view f.feature.name)

-- the features of the outline with their numbers
abbrev numbers_of : List FeatureRow → List (ℕ × Text)
numbers_of fs = map numbered (map (λ (f : FeatureRow). f.feature) fs)

keys_seen : (t : Outline) (fs : List FeatureRow) → map (named_key (outline_view t)) (map (feature_row_view (kids_in t)) fs) ≡ map (key_of t) fs
keys_seen t [] = refl
keys_seen t (f ∷ fs) = ap (λ xs. key_of t f ∷ xs) (keys_seen t fs)

keys_are : (t : Outline) (fs : List FeatureRow) → ((f : FeatureRow) → Member fs f → (key_of t f).0 ≡ f.feature.krate) → map (key_of t) fs ≡ numbers_of fs
keys_are t [] h = refl
keys_are t (f ∷ fs) h = ap (λ (n : ℕ). (n, text_view f.feature.name) ∷ map (key_of t) fs) (h f (inl refl)) ∙ ap (λ xs. numbered f.feature ∷ xs) (keys_are t fs (λ g m. h g (inr m)))

-- ---- the features are sorted, and are those enabled for the crates

pub are_features : Compares → {N : Type 0} (t : Outline) (nodes : List (Node N)) → map planned_node nodes ≡ planned_nodes (outline_view t) → map id_of (crate_ids nodes) ≡ map (λ (k : outline.CrateRow). k.id) (outline_view t).krates
    → IsStrictlySortedBy id_cmp (crate_ids nodes)
    → ((i : Id) (f : Text) → IsEnabledIn (crate_ids nodes) (crate_features nodes) i f ↔ (IsAmong (crate_ids nodes) i × Contains (map named_fact (outline_view t).features) (facts.Feature i f)))
    → AreFeatures nodes
are_features o t nodes drawn ids s enabled =
    let seen : feature_names nodes ≡ map (named_key (outline_view t)) (outline_view t).features = names_are (outline_view t) nodes drawn in
    let names : feature_names nodes ≡ map (key_of t) t.features.items = seen ∙ keys_seen t t.features.items in
    let krates = (outline_view t).krates in
    let home : (f : FeatureRow) → Member t.features.items f → f.feature.krate < length t.krates.items = λ f m. All-contains (λ (n : FeatureRow). HasHome (length t.krates.items) n.feature) t.features.items f t.ordered.homes (contains_of t.features.items f m) in
    let numbers = keys_are t t.features.items (λ f m. own_number t (crate_ids nodes) ids o s f.feature.krate (home f m)) in
    record {
      ascending = subst (λ (ns : List (ℕ × Text)). IsStrictlySortedBy feature_order ns) (sym (names ∙ numbers)) (sorted_same feature_cmp feature_order numbered (λ a b. refl) (map (λ (f : FeatureRow). f.feature) t.features.items) t.ordered.features);
      exactly = λ n name. (
        λ c.
            (let w = mapped_of (key_of t) t.features.items (n, name) (member_of (map (key_of t) t.features.items) (n, name) (subst (λ (ns : List (ℕ × Text)). Contains ns (n, name)) names c)) in
            let i = id_at (kids_in t) w.from.feature.krate in
            let f = text_view w.from.feature.name in
            let x = stands_by_number t (crate_ids nodes) ids w.from.feature.krate (home w.from w.member) in
            let first : crate_number (outline_view t) i ≡ n = ap (λ (p : ℕ × Text). p.0) w.is in
            let second : f ≡ name = ap (λ (p : ℕ × Text). p.1) w.is in
            let among = contains_of (map id_of (crate_ids nodes)) i (subst (λ (z : Id). Member (map id_of (crate_ids nodes)) z) x.same (listed_at (crate_ids nodes) w.from.feature.krate x.there x.at)) in
            let fact = contains_of (map named_fact (outline_view t).features) (facts.Feature i f) (member_map named_fact (outline_view t).features (feature_row_view (kids_in t) w.from) (member_map (feature_row_view (kids_in t)) t.features.items w.from w.member)) in
            let e = (enabled i f).1 (among, fact) in
            let place : e.theirs.place ≡ n = sym (number_is o (crate_ids nodes) krates i e.theirs.place ids s e.theirs.stands) ∙ first in
            record {
              names = e.names;
              at = subst (λ (k : ℕ). slice_get (crate_features nodes) k ≡ Some e.names) place e.theirs.at;
              among = subst (λ (z : Text). Contains e.names z) second e.among;
            }),
        λ h.
            (let within : n < length (crate_ids nodes) = subst (λ (k : ℕ). n < k) (as_many_features nodes) (slice_get_within (crate_features nodes) n h.names h.at) in
            let x = get_or (crate_ids nodes) n empty_identity in
            let stands : StandsAt (crate_ids nodes) (id_of x) n = record { there = x; at = slice_get-get_or (crate_ids nodes) n empty_identity within; same = refl } in
            let there = ((enabled (id_of x) name).0 (record { names = h.names; theirs = record { place = n; stands = stands; at = h.at }; among = h.among })).1 in
            let w = mapped_of named_fact (outline_view t).features (facts.Feature (id_of x) name) (member_of (map named_fact (outline_view t).features) (facts.Feature (id_of x) name) there) in
            let krate : w.from.krate ≡ id_of x = cc (w.is) in
            let called : w.from.name ≡ name = cc (w.is) in
            let number : crate_number (outline_view t) (id_of x) ≡ n = number_is o (crate_ids nodes) krates (id_of x) n ids s stands in
            let key : ◌≡◌ {A = ℕ × Text} (named_key (outline_view t) w.from) (n, name) =
            ap (λ (i : Id). (crate_number (outline_view t) i, w.from.name)) krate ∙ ap (λ (z : Text). (crate_number (outline_view t) (id_of x), z)) called ∙ ap (λ (k : ℕ). (k, name)) number in
            let here = contains_of (map (named_key (outline_view t)) (outline_view t).features) (named_key (outline_view t) w.from) (member_map (named_key (outline_view t)) (outline_view t).features w.from w.member) in
            subst (λ (ns : List (ℕ × Text)). Contains ns (n, name)) (sym seen) (subst (λ (p : ℕ × Text). Contains (map (named_key (outline_view t)) (outline_view t).features) p) key here)),
      );
    }
