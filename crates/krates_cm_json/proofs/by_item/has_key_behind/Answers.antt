use Rattle.std.proofs.Common.{◌≡◌, [], ◌∷◌, ◌++◌, Some, bytes_eq, false, refl, sym, ap, ◌∙◌, rules, append_assoc, append-nil}
use Rattle.json.proofs.Grammar.{read_key_is}
use Rattle.json.specs.Json.{read_key}
use Rattle.json.specs.Token.{Token}
use Rattle.krates_cm_json.specs.ByItem.{Member, member_tokens}
use Rattle.krates_cm_json.proofs.ByItemLemmas.{AreShallow-append, lacks_push, member_tokens-push}
use Rattle.krates_cm_json.proofs.by_item.has_key_behind.Goals as goal

pub loop-key-init : goal.loop-key-init
loop-key-init c = ([], sym (append-nil c.args.members.now.items), tt, refl, refl, refl)

pub loop-key-preserved : goal.loop-key-preserved
loop-key-preserved c =
    let so_far = c.loop-key.invariant in
    let ms = so_far.0 in
    let key = c.in-Some.key in
    let m : Member = (key, c.in_ok-value.value.tree) in
    let next = c.in_ok-value.ensures in
    let read : read_key c.loop-key.reader ≡ Some (Some key.now, c.next_key.new.self) = search rules in
    let keyed = read_key_is c.loop-key.reader (Some key.now) c.next_key.new.self read in
    let pushed : c.push.new.list.items ≡ c.loop-key.members.items ++ m ∷ [] = c.in_ok-push.ensures in
    let unwanted : bytes_eq key.now c.args.wanted.now ≡ false = search rules in
    let new : bytes_eq key.now c.args.given.now ≡ false = search rules in (
      ms ++ m ∷ [],
      pushed ∙ ap (λ xs. xs ++ m ∷ []) so_far.1 ∙ append_assoc c.args.members.now.items ms (m ∷ []),
      AreShallow-append 124 ms (m ∷ []) so_far.2 (next.0, tt),
      lacks_push c.args.wanted.now ms m so_far.3 unwanted,
      lacks_push c.args.given.now ms m so_far.4 new,
      so_far.5 ∙ ap (λ ts. member_tokens ms ++ ts) (keyed ∙ ap (λ ts. Token.key key.now ∷ ts) next.1) ∙ sym (member_tokens-push ms m c.next_value.new.reader),
    )
