-- Lists of numbers turned round: each number is pushed to the lists of those that its own list has.
use Rattle.std.proofs.Common.{◌≡◌, ℕ, ◌+◌, ◌<◌, ◌≤◌, List, [], ◌++◌, length, get_or, take, All, Contains, replicate, refl, sym, ap, ◌∙◌, subst, inl, inr, arith}
use Rattle.std.proofs.lemmas.List.{append-nil, length-map, length-take, take_all}
use Rattle.std.proofs.lemmas.List.Elements.{All-contains, All-get_or}
use Rattle.std.proofs.lemmas.Option.{get_or_from_slice_get, slice_get_read, slice_get_within}
use Rattle.std.specs.Global.{Vec}
use Rattle.std.specs.List.Sorted.{IsStrictlyIncreasing}
use Rattle.krates_answers.specs.DirectLinks.{AreExactly, AreInside, AreLinks, ArePushed, AreStored, IsListed, items_of}
use Rattle.krates_answers.proofs.ExactNumbers.{count_of, exactly_push, exactly_same}
use Rattle.krates_answers.proofs.ListedNumbers.{AreEach, links_of, listed_at, listed_more, stored_of}
use Rattle.krates_answers.proofs.SearchedNumbers.{stored_list}

-- the list of number i is taken: i is pushed to the lists of its numbers
pub turned_more : (lists old new : List (List ℕ)) (i : ℕ) (list : List ℕ) → i < length lists → get_or lists i [] ≡ list → IsStrictlyIncreasing list → length new ≡ length old → ArePushed i list old new
    → AreEach (λ a b. IsListed (take i lists) b a) old → AreEach (λ a b. IsListed (take (i + 1) lists) b a) new
turned_more lists old new i list lt is up same_length p e = record {
  each = λ a within.
      (let before : a < length old = omega (arith, within, same_length) in
      let was = e.each a before in
      let now = p.each a before in
      let A : ℕ → Type 0 = λ b. IsListed (take i lists) b a in
      let B : ℕ → Type 0 = λ b. IsListed (take (i + 1) lists) b a in
      let below : (b : ℕ) → IsListed (take i lists) b a → b < i = λ b w. (let at = listed_at (take i lists) b a w in omega (arith, at.0, length-take i lists)) in
      elim (count_of list a up) [
        | inl there ↦
            (let pushed = now ∙ ap (λ n. get_or old a [] ++ replicate n i) there.1 in
            subst (λ (xs : List ℕ). AreExactly B xs) (sym pushed)
            (exactly_push A B (get_or old a []) i was below (λ b.
            (let more = listed_more lists i b a lt in (
              λ w. elim (more.0 w) [ inl had ↦ inl had | inr new ↦ inr new.0 ],
              λ h. more.1 (elim h [ inl had ↦ inl had | inr same ↦ inr (same, subst (λ (xs : List ℕ). Contains xs a) (sym is) there.0) ]),
            )))))
        | inr none ↦
            (let kept = now ∙ ap (λ n. get_or old a [] ++ replicate n i) none.1 ∙ append-nil (get_or old a []) in
            subst (λ (xs : List ℕ). AreExactly B xs) (sym kept)
            (exactly_same A B (get_or old a []) (λ b.
            (let more = listed_more lists i b a lt in (
              λ w. more.1 (inl w),
              λ w. elim (more.0 w) [ inl had ↦ had | inr new ↦ absurd (none.0 (subst (λ (xs : List ℕ). Contains xs a) is new.1)) ],
            ))) was))
      ]);
}

-- the vector of number i is taken
pub turned_step : (lists old new : List (Vec ℕ)) (i : ℕ) (vector : Vec ℕ) → AreStored (items_of lists) → i < length lists → vector ≡ get_or lists i vector → length new ≡ length old → ArePushed i vector.items (items_of old) (items_of new)
    → AreEach (λ a b. IsListed (take i (items_of lists)) b a) (items_of old) → AreEach (λ a b. IsListed (take (i + 1) (items_of lists)) b a) (items_of new)
turned_step lists old new i vector stored lt is same_length p e =
    let here = stored_list lists i vector stored (slice_get_read lists (length lists) i vector refl lt is) in
    let was = length-map old (λ (v : Vec ℕ). v.items) in
    let now = length-map new (λ (v : Vec ℕ). v.items) in
    turned_more (items_of lists) (items_of old) (items_of new) i vector.items (slice_get_within (items_of lists) i vector.items here.0)
    (get_or_from_slice_get (items_of lists) i vector.items [] here.0) here.1 (now ∙ same_length ∙ sym was) p e

-- each place to which it is pushed has a list
pub places_below : (lists old : List (Vec ℕ)) (i : ℕ) (vector : Vec ℕ) → AreStored (items_of lists) → i < length lists → vector ≡ get_or lists i vector → length old ≡ length lists → All (λ place. place < length old) vector.items
places_below lists old i vector stored lt is same_length =
    let here = stored_list lists i vector stored (slice_get_read lists (length lists) i vector refl lt is) in
    subst (λ n. All (λ place. place < n) vector.items) (length-map lists (λ (v : Vec ℕ). v.items) ∙ sym same_length) here.2

-- all lists were taken
turned_all : (lists turned : List (List ℕ)) (n : ℕ) → length lists ≤ n → AreEach (λ a b. IsListed (take n lists) b a) turned → AreEach (λ a b. IsListed lists b a) turned
turned_all lists turned n all e = subst (λ (ls : List (List ℕ)). AreEach (λ a b. IsListed ls b a) turned) (take_all n lists all) e

-- what is listed has a list
listed_inside : (lists : List (List ℕ)) → AreInside lists → (a b : ℕ) → IsListed lists a b → b < length lists
listed_inside lists inside a b w =
    let at = listed_at lists a b w in
    All-contains (λ n. n < length lists) (get_or lists a []) b (All-get_or (λ list. All (λ n. n < length lists) list) lists a [] at.0 inside) at.1

pub turned_whole : (lists turned : List (Vec ℕ)) (n : ℕ) → AreStored (items_of lists) → length turned ≡ length lists → length lists ≤ n → AreEach (λ a b. IsListed (take n (items_of lists)) b a) (items_of turned)
    → AreLinks (length (items_of lists)) (λ a b. IsListed (items_of lists) b a) (items_of turned) × AreStored (items_of turned)
turned_whole lists turned n stored counted all e =
    let one : length (items_of lists) ≡ length lists = length-map lists (λ (v : Vec ℕ). v.items) in
    let other : length (items_of turned) ≡ length turned = length-map turned (λ (v : Vec ℕ). v.items) in
    let same : length (items_of turned) ≡ length (items_of lists) = omega (arith, one, other, counted) in
    let whole = turned_all (items_of lists) (items_of turned) n (omega (arith, one, all)) e in (
      links_of (length (items_of lists)) (λ a b. IsListed (items_of lists) b a) (items_of turned) same (λ a b w. listed_inside (items_of lists) stored.inside b a w) whole,
      stored_of (λ a b. IsListed (items_of lists) b a) (items_of turned) (λ a b w. (let at = listed_at (items_of lists) b a w in omega (arith, at.0, same))) (omega (arith, same, stored.numbered)) whole,
    )
