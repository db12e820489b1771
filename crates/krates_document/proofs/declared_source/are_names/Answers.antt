use Rattle.std.proofs.Common.{◌≡◌, ◌<◌, ◌↔◌, ℕ, zero, suc, Bool, true, false, not, List, [], ◌∷◌, ◌++◌, length, get_or, take, Option, Some, None, IsTrue, refl, sym, ap, ◌∙◌, arith, append-nil, length-append}
use Rattle.std.specs.Option.{is_some}
use Rattle.std.specs.Path.{IsNextComponent}
use Rattle.std.specs.Str.Iter.{split_text, split_has_more, split_pattern}
use Rattle.std.specs.declared.path.components.Component.{Component}
use Rattle.std.proofs.lemmas.List.{append_cancel_left}
use Rattle.std.proofs.lemmas.Iterator.Consumers.{YieldsList-so_far, YieldsList-turn, YieldsList-end}
use Rattle.std.proofs.lemmas.Iterator.Splits.{YieldsList-from_str_split}
use Rattle.krates_rules.specs.DeclaredSource.{backslash}
use Rattle.krates_document.proofs.declared_source.are_names.Goals as goal

-- all names were compared: they are the components if none of these is left
none_left : (names parts seen left after : List (List ℕ)) (next : Option Component) (b : Bool) → parts ≡ seen ++ left → seen ≡ names → IsNextComponent left next after → is_some next ≡ not b → IsTrue b ↔ (names ≡ parts)
none_left names parts seen left after None true whole all h e = (λ t. sym (whole ∙ ap (λ l. seen ++ l) h.0 ∙ append-nil seen ∙ all), λ same. refl)
none_left names parts seen left after None false whole all h e = absurd cc
none_left names parts seen left after (Some c) true whole all h e = absurd cc
none_left names parts seen left after (Some c) false whole all h e = (
  λ t. absurd cc,
  λ same. absurd (omega (arith, ap length whole, ap length all, ap length same, ap length h.0, length-append seen left)),
)

-- the remaining components begin with the next name
name_left : (names parts seen left front rest : List (List ℕ)) (name : List ℕ) → names ≡ parts → parts ≡ seen ++ left → seen ≡ front → names ≡ front ++ name ∷ rest → left ≡ name ∷ rest
name_left names parts seen left front rest name same whole all here =
    append_cancel_left front left (name ∷ rest) (ap (λ l. l ++ left) (sym all) ∙ sym whole ∙ sym same ∙ here)

-- the names from this one on
rest_from : (names : List (List ℕ)) (n : ℕ) (name : List ℕ) → n < length names → name ≡ get_or names n name → (rest : List (List ℕ)) × (names ≡ take n names ++ name ∷ rest)
rest_from [] n name lt e = absurd (omega arith)
rest_from (x ∷ names) zero name lt e = (names, cc)
rest_from (x ∷ names) (suc n) name lt e =
    let more = rest_from names n name (omega arith) e in
    (more.0, ap (λ l. x ∷ l) more.1)

pub returns-then-not-next_is : goal.returns-then-not-next_is
returns-then-not-next_is c = (
  λ t. absurd cc,
  λ same.
      let made = c.into_iter-name-iterator.ensures.into_iter_gives in
      let items = c.split-name-items.ensures in
      let road = YieldsList-from_str_split backslash c.args.path.now (omega arith) (ap split_text made ∙ items.text) (ap split_has_more made ∙ items.has_more) (ap split_pattern made ∙ items.pattern) in
      let here = YieldsList-turn road c.loop-name.yielded _ c.loop-name.yielded_by _ _ _ c.in-Some.is c.next.ensures.steps in
      let seen = YieldsList-so_far road c.loop-name.yielded _ c.loop-name.yielded_by in
      let more = rest_from _ _ _ here.0 here.1 in
      sym c.if-not-next_is.true ∙ c.next_is.ensures.differs more.0 (name_left _ _ _ _ _ _ _ same c.loop-name.invariant.2 seen more.1),
)

pub returns : goal.returns
returns c =
    let made = c.into_iter-name-iterator.ensures.into_iter_gives in
    let items = c.split-name-items.ensures in
    let road = YieldsList-from_str_split backslash c.args.path.now (omega arith) (ap split_text made ∙ items.text) (ap split_has_more made ∙ items.has_more) (ap split_pattern made ∙ items.pattern) in
    let end = YieldsList-end road c.loop-name.yielded _ c.loop-name.yielded_by _ _ c.in-None.is c.next.ensures.steps in
    none_left _ _ _ _ _ _ _ c.loop-name.invariant.2 end.0 c.next-2.ensures.steps c.is_none.ensures
