-- The numbers to which pairs lead.
use Rattle.std.proofs.Common.{◌≡◌, ◌⊎◌, ◌↔◌, ℕ, ◌+◌, ◌<◌, ◌≤◌, ◌^◌, List, [], ◌∷◌, length, get_or, take, Contains, sym, subst, inl, inr}
use Rattle.std.proofs.lemmas.List.{take_all, take_more}
use Rattle.std.proofs.lemmas.List.Elements.{Contains-append_left, Contains-push, Contains-push_cases}
use Rattle.std.specs.List.Sorted.{IsStrictlyIncreasing}
use Rattle.krates_rules.proofs.Members.{member_of}
use Rattle.krates_answers.specs.DirectLinks.{AreExactly, AreLinks, AreStored, IsPairOf, IsPaired, IsPairedWith}
use Rattle.krates_answers.proofs.ListedNumbers.{AreEach, each_push, each_same, links_of, stored_of}

-- the numbers are those to which these pairs lead
abbrev pub AreThosePaired : (count number : ℕ) (pairs : List (ℕ × ℕ)) (numbers : List ℕ) → Type 0
AreThosePaired count number pairs numbers = (n : ℕ) → Contains numbers n ↔ IsPairedWith count pairs number n

-- no pair leads anywhere
pub paired_none : (count number : ℕ) (pairs : List (ℕ × ℕ)) → AreThosePaired count number (take 0 pairs) []
paired_none count number pairs n = (λ c. absurd (member_of [] n c), λ w. absurd (member_of [] w.pair w.among))

-- one pair more
pub paired_more : (count number : ℕ) (pairs : List (ℕ × ℕ)) (i : ℕ) (d : ℕ × ℕ) (old new : List ℕ) → i < length pairs → AreThosePaired count number (take i pairs) old
    → ((n : ℕ) → Contains new n ↔ (Contains old n ⊎ IsPairOf count number n (get_or pairs i d))) → AreThosePaired count number (take (i + 1) pairs) new
paired_more count number pairs i d old new lt h added n =
    let is = take_more pairs i d lt in
    let last = get_or pairs i d in (
      λ c. elim ((added n).0 c) [
        | inl before ↦
            (let w = (h n).0 before in
            record { pair = w.pair; among = subst (λ (ps : List (ℕ × ℕ)). Contains ps w.pair) (sym is) (Contains-append_left (take i pairs) (last ∷ []) w.pair w.among); is = w.is })
        | inr now ↦ record { pair = last; among = subst (λ (ps : List (ℕ × ℕ)). Contains ps last) (sym is) (Contains-push (take i pairs) last); is = now }
      ],
      λ w. (added n).1 (elim (Contains-push_cases (take i pairs) last w.pair (subst (λ (ps : List (ℕ × ℕ)). Contains ps w.pair) is w.among)) [
        | inl before ↦ inl ((h n).1 (record { pair = w.pair; among = before; is = w.is }))
        | inr same ↦ inr (subst (IsPairOf count number n) (sym same) w.is)
      ]),
    )

-- all pairs
pub paired_all : (count number : ℕ) (pairs : List (ℕ × ℕ)) (i : ℕ) (numbers all : List ℕ) → length pairs ≤ i → AreThosePaired count number (take i pairs) numbers
    → IsStrictlyIncreasing all → ((n : ℕ) → Contains all n ↔ Contains numbers n) → AreExactly (IsPairedWith count pairs number) all
paired_all count number pairs i numbers all le h up same = record {
  ascending = up;
  exactly = λ n. (
      let whole = subst (λ (ps : List (ℕ × ℕ)). Contains numbers n ↔ IsPairedWith count ps number n) (take_all i pairs le) (h n) in
      (λ c. whole.0 ((same n).0 c), λ w. (same n).1 (whole.1 w)));
}

-- ---- the lists

pub paired_links : (count : ℕ) (pairs : List (ℕ × ℕ)) (lists : List (List ℕ)) → length lists ≡ count → AreEach (IsPairedWith count pairs) lists → AreLinks count (IsPaired count pairs) lists
paired_links count pairs lists counted e =
    links_of count (IsPaired count pairs) lists counted (λ a b w. w.below)
    (each_same (IsPairedWith count pairs) (IsPaired count pairs) lists (λ a b lt. (λ h. record { below = subst (λ n. a < n) counted lt; leads = h }, λ w. w.leads)) e)

pub paired_stored : (count : ℕ) (pairs : List (ℕ × ℕ)) (lists : List (List ℕ)) → length lists ≡ count → count < 2 ^ 32 → AreEach (IsPairedWith count pairs) lists → AreStored lists
paired_stored count pairs lists counted numbered e =
    stored_of (IsPairedWith count pairs) lists (λ a b w. subst (λ n. b < n) (sym counted) w.is.below) (subst (λ n. n < 2 ^ 32) (sym counted) numbered) e
