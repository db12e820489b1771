-- A crate or a feature is taken, and what it gives has been found.
use Rattle.std.proofs.Common.{◌≡◌, ℕ, ◌+◌, ◌<◌, ◌≤◌, List, Contains, length, get_or, Some, None, inl, inr, sym, ap, ◌∙◌, subst, arith}
use Rattle.std.proofs.lemmas.Bool.{cases_lt}
use Rattle.std.proofs.lemmas.List.Elements.{All-contains}
use Rattle.std.proofs.lemmas.Option.{slice_get-get_or, slice_get_within, none-some, same_Some}
use Rattle.std.specs.List.{slice_get}
use Rattle.krates_graph.specs.Agenda.{PutNumbers, IsOrderly}
use Rattle.krates_cm.specs.Document.{Text}
use Rattle.krates_rules.specs.Facts.{Id}
use Rattle.krates_search.specs.SearchState.{IsAny, HasFollowedReferences, HasExpanded, IsSound, Advances, IsRequired}
use Rattle.krates_resolve.specs.Saturation.{left_in, HasDone}
use Rattle.krates_search.specs.declared.search_state.SearchState.{SearchState}
use Rattle.krates_rules.proofs.Standings.{contains_at}
use Rattle.krates_questions.specs.declared.context.Context.{Context}
use Rattle.krates_questions.specs.Context.{IsNodeAt, IsFeatureAt}
use Rattle.krates_search.proofs.Growing.{used_grows, tried_grows, rooted_grows, followed_grows}

-- ---- what was found doesn't depend on how many were taken

-- the same was found, and this many crates and features were taken
abbrev pub taken_to : SearchState → ℕ → ℕ → SearchState
taken_to x n m = record { krates = record x.krates { taken = n }; features = record x.features { taken = m }; edges = x.edges; toggled = x.toggled; trace = x.trace; krate_steps = x.krate_steps; feature_steps = x.feature_steps; links = x.links; excluded = x.excluded }

pub sound_taken : (b : Context) (x : SearchState) (n m : ℕ) → IsSound b x → IsSound b (taken_to x n m)
sound_taken b x n m h = record {
  excluded = h.excluded;
  krates_size = h.krates_size;
  features_size = h.features_size;
  own = h.own;
  has_links = h.has_links;
  derivable = h.derivable;
  trace = h.trace;
  stepped = h.stepped;
  numbered = record { krates = h.numbered.krates; features = h.numbered.features; marked = h.numbered.marked; waiting = h.numbered.waiting };
  placed = h.placed;
  toggles = h.toggles;
  reached = h.reached;
  used = λ e found d w. used_grows b x (taken_to x n m) d e.child (λ f a. a) (h.used e found d w);
  marked = h.marked;
  woken = h.woken;
  tried = λ e place index dep was. tried_grows b x (taken_to x n m) e IsAny (λ f a. a) (h.tried e place index dep was);
  arrived = h.arrived;
  toggled = h.toggled;
  enabled = h.enabled;
}

-- ---- what an agenda says about the next number

-- the number that was taken is one that was put
pub taken_put : (a b : PutNumbers) (n k t : ℕ) → b ≡ record a { taken = n } → slice_get a.put k ≡ Some t → Contains b.put t
taken_put a b n k t e at = subst (λ (c : PutNumbers). Contains c.put t) (sym e) (contains_at a.put k t at)

-- and is less than the size
pub taken_below : (a b : PutNumbers) (n k t : ℕ) → b ≡ record a { taken = n } → IsOrderly b → slice_get a.put k ≡ Some t → t < b.size
taken_below a b n k t e o at = All-contains (λ p. p < b.size) b.put t o.below (taken_put a b n k t e at)

-- there are no more numbers than the size
pub has_room : (a b : PutNumbers) (n : ℕ) → b ≡ record a { taken = n } → IsOrderly b → length a.put ≤ a.size
has_room a b n e o = subst (λ (c : PutNumbers). length c.put ≤ c.size) e o.within

-- if none was taken, nothing has changed
pub unchanged : (a b : PutNumbers) (n : ℕ) → b ≡ record a { taken = n } → n ≡ a.taken → b ≡ a
unchanged a b n e same = e ∙ ap (λ (k : ℕ). record a { taken = k }) same

-- what has been found, with other agendas
abbrev pub with_agendas : SearchState → PutNumbers → PutNumbers → SearchState
with_agendas x a b = record { krates = a; features = b; edges = x.edges; toggled = x.toggled; trace = x.trace; krate_steps = x.krate_steps; feature_steps = x.feature_steps; links = x.links; excluded = x.excluded }

pub same_agendas : (x : SearchState) (a b c d : PutNumbers) → a ≡ c → b ≡ d → with_agendas x a b ≡ with_agendas x c d
same_agendas x a b c d e h = ap (λ (n : PutNumbers). with_agendas x n b) e ∙ ap (λ (n : PutNumbers). with_agendas x c n) h

-- ---- lists of numbers that grow

-- what is at a place stays there
abbrev Stays : List ℕ → List ℕ → Type 0
Stays xs ys = (k p : ℕ) → slice_get xs k ≡ Some p → slice_get ys k ≡ Some p

-- what held of the first numbers still holds of them
below_same : (xs ys : List ℕ) (n : ℕ) (P Q : ℕ → Type 0) → Stays xs ys → n ≤ length xs → ((k p : ℕ) → k < n → slice_get xs k ≡ Some p → P p) → ((p : ℕ) → P p → Q p) → (k p : ℕ) → k < n → slice_get ys k ≡ Some p → Q p
below_same xs ys n P Q stays within h weaker k p lt there =
    let old = slice_get-get_or xs k 0 (omega (arith, lt, within)) in
    let same : get_or xs k 0 ≡ p = same_Some (get_or xs k 0) p (sym (stays k (get_or xs k 0) old) ∙ there) in
    subst Q same (weaker (get_or xs k 0) (h k (get_or xs k 0) lt old))

-- and it holds of one more
below_more : (xs ys : List ℕ) (n t : ℕ) (P Q : ℕ → Type 0) → Stays xs ys → slice_get xs n ≡ Some t → ((k p : ℕ) → k < n → slice_get xs k ≡ Some p → P p) → ((p : ℕ) → P p → Q p) → Q t
    → (k p : ℕ) → k < n + 1 → slice_get ys k ≡ Some p → Q p
below_more xs ys n t P Q stays at h weaker here k p lt there = elim (cases_lt k n) [
  | inl lower ↦ below_same xs ys n P Q stays (omega (arith, slice_get_within xs n t at)) h weaker k p lower there
  | inr le ↦ (
      let e : n ≡ k = omega arith in
      let same : t ≡ p = same_Some t p (sym (stays n t at) ∙ ap (λ m. slice_get ys m) e ∙ there) in
      subst Q same here)
]

-- the list hasn't become shorter
grown_long : (xs ys : List ℕ) (n : ℕ) → Stays xs ys → n ≤ length xs → n ≤ length ys
grown_long xs ys n stays within = elim (cases_lt (length ys) n) [
  | inl lt ↦ (
      let old = slice_get-get_or xs (length ys) 0 (omega (arith, lt, within)) in
      let below = slice_get_within ys (length ys) (get_or xs (length ys) 0) (stays (length ys) (get_or xs (length ys) 0) old) in
      absurd (omega (arith, below)))
  | inr le ↦ le
]

-- if nothing is at a place, the list ends before it
none_left : (xs : List ℕ) (n : ℕ) → slice_get xs n ≡ None → length xs ≤ n
none_left xs n none = elim (cases_lt n (length xs)) [
  | inl lt ↦ absurd (none-some (get_or xs n 0) (sym none ∙ slice_get-get_or xs n 0 lt))
  | inr le ↦ le
]

-- ---- one is taken

-- the crate that was taken has been expanded, as were those before it
pub crate_done : (b : Context) (x z : SearchState) (t : ℕ) → HasDone b x → Advances b (taken_to x (x.krates.taken + 1) x.features.taken) z → length x.krates.put ≤ x.krates.size
    → slice_get x.krates.put x.krates.taken ≡ Some t → ((i : Id) → IsNodeAt b i t → HasExpanded b z i) → HasDone b z × (left_in z < left_in x)
crate_done b x z t done a room at now =
    let n = x.krates.taken + 1 in
    let m = x.features.taken in
    let g = a.grows in
    let count : z.krates.taken ≡ x.krates.taken + 1 = g.krates_taken in
    let same : z.features.taken ≡ x.features.taken = g.features_taken in
    let within = slice_get_within x.krates.put x.krates.taken t at in
    let long = grown_long x.krates.put z.krates.put n g.krates (omega (arith, within)) in
    let features_long = grown_long x.features.put z.features.put m g.features done.features_within in
    let krates_size : z.krates.size ≡ x.krates.size = a.sound.krates_size ∙ sym done.sound.krates_size in
    let features_size : z.features.size ≡ x.features.size = a.sound.features_size ∙ sym done.sound.features_size in (
      record {
        sound = a.sound;
        roots = λ i root. rooted_grows b x z i g.found (done.roots i root);
        expanded = λ k place i lt there node.
            below_more x.krates.put z.krates.put x.krates.taken t (λ p. (j : Id) → IsNodeAt b j p → HasExpanded b x j) (λ p. (j : Id) → IsNodeAt b j p → HasExpanded b z j) g.krates at
            (λ k p lt o j n. done.expanded k p j lt o n) (λ p o j node. λ e same. tried_grows b x z e IsRequired g.found (o j node e same)) now k place (omega (arith, lt, count)) there i node;
        followed_all = λ k number i f lt there is.
            below_same x.features.put z.features.put m (λ p. (j : Id) (h : Text) → IsFeatureAt b j h p → HasFollowedReferences b x j h) (λ p. (j : Id) (h : Text) → IsFeatureAt b j h p → HasFollowedReferences b z j h) g.features done.features_within
            (λ k p lt o j h is. done.followed_all k p j h lt o is) (λ p o j h is. λ reference has. followed_grows b x z j reference g.found g.waits (o j h is reference has)) k number (omega (arith, lt, same)) there i f is;
        krates_within = omega (arith, long, count);
        features_within = omega (arith, features_long, same);
      },
      omega (arith, count, same, within, room, krates_size, features_size),
    )

-- the references of the feature that was taken have been followed, as were those of the features before it
pub feature_done : (b : Context) (x z : SearchState) (t : ℕ) → HasDone b x → Advances b (taken_to x x.krates.taken (x.features.taken + 1)) z → length x.features.put ≤ x.features.size
    → slice_get x.features.put x.features.taken ≡ Some t → ((i : Id) (f : Text) → IsFeatureAt b i f t → HasFollowedReferences b z i f) → HasDone b z × (left_in z < left_in x)
feature_done b x z t done a room at now =
    let n = x.krates.taken in
    let m = x.features.taken + 1 in
    let g = a.grows in
    let same : z.krates.taken ≡ x.krates.taken = g.krates_taken in
    let count : z.features.taken ≡ x.features.taken + 1 = g.features_taken in
    let within = slice_get_within x.features.put x.features.taken t at in
    let long = grown_long x.features.put z.features.put m g.features (omega (arith, within)) in
    let krates_long = grown_long x.krates.put z.krates.put n g.krates done.krates_within in
    let krates_size : z.krates.size ≡ x.krates.size = a.sound.krates_size ∙ sym done.sound.krates_size in
    let features_size : z.features.size ≡ x.features.size = a.sound.features_size ∙ sym done.sound.features_size in (
      record {
        sound = a.sound;
        roots = λ i root. rooted_grows b x z i g.found (done.roots i root);
        expanded = λ k place i lt there node.
            below_same x.krates.put z.krates.put n (λ p. (j : Id) → IsNodeAt b j p → HasExpanded b x j) (λ p. (j : Id) → IsNodeAt b j p → HasExpanded b z j) g.krates done.krates_within
            (λ k p lt o j n. done.expanded k p j lt o n) (λ p o j node. λ e same. tried_grows b x z e IsRequired g.found (o j node e same)) k place (omega (arith, lt, same)) there i node;
        followed_all = λ k number i f lt there is.
            below_more x.features.put z.features.put x.features.taken t (λ p. (j : Id) (h : Text) → IsFeatureAt b j h p → HasFollowedReferences b x j h) (λ p. (j : Id) (h : Text) → IsFeatureAt b j h p → HasFollowedReferences b z j h) g.features at
            (λ k p lt o j h is. done.followed_all k p j h lt o is) (λ p o j h is. λ reference has. followed_grows b x z j reference g.found g.waits (o j h is reference has)) now k number (omega (arith, lt, count)) there i f is;
        krates_within = omega (arith, krates_long, same);
        features_within = omega (arith, long, count);
      },
      omega (arith, count, same, within, room, krates_size, features_size),
    )

-- none is left to take
pub none_done : (b : Context) (x : SearchState) → HasDone b x → slice_get x.krates.put x.krates.taken ≡ None → slice_get x.features.put x.features.taken ≡ None
    → (length x.krates.put ≤ x.krates.taken) × (length x.features.put ≤ x.features.taken)
none_done b x done krates features = (none_left x.krates.put x.krates.taken krates, none_left x.features.put x.features.taken features)
