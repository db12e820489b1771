use Rattle.std.proofs.Common.{◌↔◌, Contains, Global, IsTrue, List, String, inl, inr, map, string_bytes, subst}
use Rattle.krates_text.proofs.TextList.{contained}
use Rattle.krates_derive.proofs.following.asks_feature.Goals as goal

pub returns-then-has_text : goal.returns-then-has_text
returns-then-has_text c =
    let named = subst (λ (xs : List (String Global)). IsTrue c.has_text.result ↔ Contains (map string_bytes xs) c.args.name.now) c.deref.ensures.value
    (contained (map string_bytes c.deref.result.now) c.args.name.now c.has_text.result c.has_text.ensures) in
    (λ t. inl (named.0 c.if-has_text.true), λ h. c.if-has_text.true)

pub returns-else-has_text : goal.returns-else-has_text
returns-else-has_text c =
    let named = subst (λ (xs : List (String Global)). IsTrue c.has_text.result ↔ Contains (map string_bytes xs) c.args.name.now) c.deref.ensures.value
    (contained (map string_bytes c.deref.result.now) c.args.name.now c.has_text.result c.has_text.ensures) in (
      λ t. inr (c.asks_default.ensures.0 t),
      λ h. elim h [
        | inl there ↦ absurd (cc (named.1 there, c.if-has_text.false))
        | inr default ↦ c.asks_default.ensures.1 default
      ],
    )
