use Rattle.std.proofs.Common.{◌≡◌, List, [], ◌∷◌, ◌++◌, map, Bool, true, false, Some, sym, ap, ◌∙◌, subst, rules}
use Rattle.std.specs.Prelude.{codes}
use Rattle.json.specs.Json.{object, array, no_items, no_members, member}
use Rattle.json.specs.Token.{Token}
use Rattle.krates_cm.specs.Document.{node_view, resolve_view}
use Rattle.krates_cm_json.specs.ByItem.{AreShallow, Member, ReadsNext, joined, last_token, member_tokens}
use Rattle.krates_cm_json.specs.Readable.{data_in}
use Rattle.krates_cm_json.specs.Tables.{resolve}
use Rattle.krates_cm_json.proofs.ByItemLemmas.{AreShallow-append}
use Rattle.krates_cm_json.proofs.ByItemTables.{resolve_next, with_nodes}
use Rattle.krates_cm_json.proofs.by_item.next_resolve.Goals as goal

pub read_beside-requires : goal.read_beside-requires
read_beside-requires c =
    let front = c.in_ok-has_key_behind.ensures in
    let back = c.in_ok-has_key_behind-2.ensures in
    let all : c.has_key_behind-2.new.members.items ≡ front.0 ++ back.0 = back.1 ∙ ap (λ ms. ms ++ back.0) (front.1 ∙ ap (λ ms. ms ++ front.0) c.new-others.ensures.items) in
    subst (AreShallow 124) (sym all) (AreShallow-append 124 front.0 back.0 front.2 back.2)

pub returns : goal.returns
returns c =
    let front = c.in_ok-has_key_behind.ensures in
    let back = c.in_ok-has_key_behind-2.ensures in
    let nodes = c.has_key_behind.new.reader in
    let after = c.has_key_behind-2.new.reader in
    let xs = map node_view c.in_ok-nodes.nodes.items in
    let r = resolve_view c.in_ok-resolve.resolve in
    let all : c.has_key_behind-2.new.members.items ≡ front.0 ++ back.0 = back.1 ∙ ap (λ ms. ms ++ back.0) (front.1 ∙ ap (λ ms. ms ++ front.0) c.new-others.ensures.items) in
    let found : c.in_ok-has_key_behind.field-0 ≡ true = search rules in
    let over : c.in_ok-has_key_behind-2.field-0 ≡ false = search rules in
    let first : c.args.reader.now ≡ Token.begin_object ∷ c.next.new.self = search rules in
    let begins : c.next.new.self ≡ member_tokens front.0 ++ (Token.key (codes "nodes") ∷ nodes) =
    subst (λ (b : Bool). c.next.new.self ≡ member_tokens front.0 ++ (last_token b (codes "nodes") ∷ nodes)) found front.5 in
    let ends : c.next_list.new.reader ≡ member_tokens back.0 ++ (Token.end_object ∷ after) =
    subst (λ (b : Bool). c.next_list.new.reader ≡ member_tokens back.0 ++ (last_token b (codes "nodes") ∷ after)) over back.5 in
    let beside = subst (λ (ms : List Member). (resolve [] (data_in (object (joined ms (member (codes "nodes") (array no_items) no_members))))).value ≡ Some r) all c.in_ok-resolve.ensures in
    subst (λ ts. ReadsNext 126 (resolve []) ts (with_nodes xs r) after) (sym first)
    (resolve_next front.0 back.0 c.next.new.self nodes c.next_list.new.reader after xs r front.2 back.2 back.3 begins c.in_ok-nodes.ensures ends beside)
