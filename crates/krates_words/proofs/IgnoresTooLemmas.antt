-- Kinds of dependencies that are ignored one by one.
use Rattle.std.proofs.Common.{◌≡◌, ℕ, ◌+◌, ◌<◌, ◌++◌, Bool, true, false, List, [], ◌∷◌, get_or, length, take, inl, inr, ⊎_elim, sym, ap, ◌∙◌, subst, arith}
use Rattle.std.specs.Prelude.{Contains}
use Rattle.std.proofs.lemmas.Bool.{false≢true}
use Rattle.std.proofs.lemmas.List.{take_more}
use Rattle.std.proofs.lemmas.List.Elements.{Contains-append_left, Contains-append_right, Contains-append_cases, Contains-push, Contains-push_cases}
use Rattle.krates_rules.specs.Kind.{ignores, IgnoresMore}
use Rattle.krates_rules.specs.PlainSetting.{nothing_ignored}
use Rattle.krates_rules.specs.declared.kind.DepKind.{DepKind}
use Rattle.krates_rules.specs.declared.kind.DepKind.TheVariants as kinds
use Rattle.krates_rules.specs.declared.kind.IgnoredKinds.{IgnoredKinds}
use Rattle.krates_rules.specs.declared.kind.Scope.TheVariants.{All}
use Rattle.krates_words.specs.Choice.{IgnoresJust, IgnoresToo}

-- one more kind, of every crate
pub one_more : (old now new : IgnoredKinds) (those : List DepKind) (kind : DepKind) → IgnoresToo old now those → IgnoresMore now new kind All
    → IgnoresToo old new (those ++ kind ∷ [])
one_more old now new those kind before more k is_member = (
  λ has. ⊎_elim
      (λ had. ⊎_elim (λ was. inl was) (λ among. inr (Contains-append_left those (kind ∷ []) k among)) ((before k is_member).0 had))
      (λ is. inr (subst (Contains (those ++ kind ∷ [])) (sym is.0) (Contains-push those kind)))
      ((more k is_member).0 has),
  λ has. (more k is_member).1 (⊎_elim
      (λ was. inl ((before k is_member).1 (inl was)))
      (λ among. ⊎_elim (λ inside. inl ((before k is_member).1 (inr inside))) (λ is. inr (sym is, tt)) (Contains-push_cases those kind k among))
      has),
)

-- where nothing is ignored, no kind is
none : {A : Type 0} (kind : DepKind) (is_member : Bool) → ignores nothing_ignored kind is_member ≡ true → A
none kinds.Normal true h = absurd (false≢true h)
none kinds.Normal false h = absurd (false≢true h)
none kinds.Build true h = absurd (false≢true h)
none kinds.Build false h = absurd (false≢true h)
none kinds.Dev true h = absurd (false≢true h)
none kinds.Dev false h = absurd (false≢true h)

-- some kinds and then others, where nothing was ignored before
both_alone : (now new : IgnoredKinds) (first others : List DepKind) → IgnoresToo nothing_ignored now first → IgnoresToo now new others
    → IgnoresJust (first ++ others) new
both_alone now new first others before after kind is_member = (
  λ has. ⊎_elim
      (λ had. ⊎_elim (none kind is_member) (Contains-append_left first others kind) ((before kind is_member).0 had))
      (Contains-append_right first others kind)
      ((after kind is_member).0 has),
  λ among. (after kind is_member).1 (⊎_elim
      (λ inside. inl ((before kind is_member).1 (inr inside)))
      (λ past. inr past)
      (Contains-append_cases first others kind among)),
)

-- the same, where what one call takes is what the one before left
pub both_calls : (start now then new left : IgnoredKinds) (first first_read others : List DepKind) → IgnoresToo start now first_read → IgnoresToo then new others
    → start ≡ nothing_ignored → then ≡ now → left ≡ new → first_read ≡ first → IgnoresJust (first ++ others) left
both_calls start now then new left first first_read others before after empty same same_left read =
    let first_call : IgnoresToo nothing_ignored now first = subst (λ ignored. IgnoresToo ignored now first) empty (subst (IgnoresToo start now) read before) in
    let second_call : IgnoresToo now new others = subst (λ ignored. IgnoresToo ignored new others) same after in
    subst (IgnoresJust (first ++ others)) (sym same_left) (both_alone now new first others first_call second_call)

-- before the first of the kinds
pub none_more : (ignored : IgnoredKinds) (those : List DepKind) → IgnoresToo ignored ignored (take 0 those)
none_more ignored those kind is_member = (λ has. inl has, λ has. ⊎_elim (λ was. was) (λ among. absurd (omega (arith, among.1))) has)

-- one step of a loop over the kinds, which leaves what the call left
pub next_more : (old now new left : IgnoredKinds) (those : List DepKind) (i : ℕ) (kind d : DepKind) → left ≡ new → i < length those
    → kind ≡ get_or those i d → IgnoresToo old now (take i those) → IgnoresMore now new kind All → IgnoresToo old left (take (i + 1) those)
next_more old now new left those i kind d same lt is before more =
    subst (λ ignored. IgnoresToo old ignored (take (i + 1) those)) (sym same)
    (subst (IgnoresToo old new) (ap (λ k. take i those ++ k ∷ []) is ∙ sym (take_more those i d lt)) (one_more old now new (take i those) kind before more))
