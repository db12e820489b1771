-- A number that is pushed to the lists of others.
use Rattle.std.proofs.Common.{◌≡◌, ℕ, ◌+◌, ◌<◌, ◌==◌, true, false, List, [], ◌∷◌, ◌++◌, length, get_or, take, count_by, replicate, slice_set, sym, ap, ◌∙◌, subst, inl, inr, arith}
use Rattle.std.proofs.lemmas.Bool.{cases_eq, false_from_ne_true}
use Rattle.std.proofs.lemmas.Bool.Decides.{Decides-eqb}
use Rattle.std.proofs.lemmas.List.{append_assoc, get_or-set_other, get_or-set_same, replicate_more}
use Rattle.std.proofs.lemmas.List.Sums.{count_by_more_no, count_by_more_yes}
use Rattle.krates_answers.specs.DirectLinks.{ArePushed}

-- pushed to the lists of some places, and then to that of one more
pub pushed_more : (number i place : ℕ) (places : List ℕ) (old mid : List (List ℕ)) → i < length places → place ≡ get_or places i place → length mid ≡ length old
    → ArePushed number (take i places) old mid → ArePushed number (take (i + 1) places) old (slice_set mid place (get_or mid place [] ++ number ∷ []))
pushed_more number i place places old mid lt is same_length p = record {
  each = λ a within.
      (let n = count_by (λ x. x == a) (take i places) in
      let was : get_or mid a [] ≡ get_or old a [] ++ replicate n number = p.each a within in
      elim (cases_eq place a) [
        | inl same ↦
            (let hit : (get_or places i place == a) ≡ true = (Decides-eqb (get_or places i place) a).1 (sym is ∙ same) in
            let once = count_by_more_yes (λ x. x == a) places i place lt hit in
            let set : get_or (slice_set mid place (get_or mid place [] ++ number ∷ [])) a [] ≡ get_or mid a [] ++ number ∷ [] =
            subst (λ k. get_or (slice_set mid place (get_or mid place [] ++ number ∷ [])) k [] ≡ get_or mid k [] ++ number ∷ []) same
            (get_or-set_same mid place (get_or mid place [] ++ number ∷ []) [] (omega (arith, within, same, same_length))) in
            set ∙ ap (λ xs. xs ++ number ∷ []) was ∙ append_assoc (get_or old a []) (replicate n number) (number ∷ [])
            ∙ ap (λ xs. get_or old a [] ++ xs) (replicate_more n number ∙ ap (λ k. replicate k number) (sym once)))
        | inr differ ↦
            (let other : (get_or places i place == a) ≡ false = false_from_ne_true (get_or places i place == a) (λ t. differ (is ∙ (Decides-eqb (get_or places i place) a).0 t)) in
            let none = count_by_more_no (λ x. x == a) places i place lt other in
            get_or-set_other mid place a (get_or mid place [] ++ number ∷ []) [] (λ e. differ (sym e)) ∙ was ∙ ap (λ k. get_or old a [] ++ replicate k number) (sym none))
      ]);
}
