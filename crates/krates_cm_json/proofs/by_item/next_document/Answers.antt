use Rattle.std.proofs.Common.{◌≡◌, List, [], ◌∷◌, ◌++◌, map, Bool, true, false, Some, sym, ap, ◌∙◌, subst, rules}
use Rattle.std.specs.Prelude.{codes}
use Rattle.json.specs.Json.{object, array, no_items, no_members, member}
use Rattle.json.specs.Token.{Token}
use Rattle.krates_cm.specs.Document.{package_view, resolve_view, metadata_view}
use Rattle.krates_cm_json.specs.ByItem.{AreShallow, Member, ReadsNext, joined, last_token, member_tokens}
use Rattle.krates_cm_json.specs.Readable.{data_in}
use Rattle.krates_cm_json.specs.Tables.{metadata}
use Rattle.krates_cm_json.proofs.ByItemLemmas.{AreShallow-append}
use Rattle.krates_cm_json.proofs.ByItemTables.{metadata_next, with_lists}
use Rattle.krates_cm_json.proofs.by_item.next_document.Goals as goal

pub read_beside-requires : goal.read_beside-requires
read_beside-requires c =
    let front = c.in_ok-has_key_behind.ensures in
    let middle = c.in_ok-has_key_behind-2.ensures in
    let back = c.in_ok-has_key_behind-3.ensures in
    let all : c.has_key_behind-3.new.members.items ≡ (front.0 ++ middle.0) ++ back.0 =
    back.1 ∙ ap (λ ms. ms ++ back.0) (middle.1 ∙ ap (λ ms. ms ++ middle.0) (front.1 ∙ ap (λ ms. ms ++ front.0) c.new-others.ensures.items)) in
    subst (AreShallow 124) (sym all) (AreShallow-append 124 (front.0 ++ middle.0) back.0 (AreShallow-append 124 front.0 middle.0 front.2 middle.2) back.2)

pub returns : goal.returns
returns c =
    let front = c.in_ok-has_key_behind.ensures in
    let middle = c.in_ok-has_key_behind-2.ensures in
    let back = c.in_ok-has_key_behind-3.ensures in
    let packages = c.has_key_behind.new.reader in
    let graph = c.has_key_behind-2.new.reader in
    let after = c.has_key_behind-3.new.reader in
    let ps = map package_view c.in_ok-packages.packages.items in
    let g = resolve_view c.in_ok-resolve.resolve in
    let m = metadata_view c.in_ok-document.document in
    let all : c.has_key_behind-3.new.members.items ≡ (front.0 ++ middle.0) ++ back.0 =
    back.1 ∙ ap (λ ms. ms ++ back.0) (middle.1 ∙ ap (λ ms. ms ++ middle.0) (front.1 ∙ ap (λ ms. ms ++ front.0) c.new-others.ensures.items)) in
    let found : c.in_ok-has_key_behind.field-0 ≡ true = search rules in
    let found_too : c.in_ok-has_key_behind-2.field-0 ≡ true = search rules in
    let over : c.in_ok-has_key_behind-3.field-0 ≡ false = search rules in
    let first : c.args.reader.now ≡ Token.begin_object ∷ c.next.new.self = search rules in
    let begins : c.next.new.self ≡ member_tokens front.0 ++ (Token.key (codes "packages") ∷ packages) =
    subst (λ (b : Bool). c.next.new.self ≡ member_tokens front.0 ++ (last_token b (codes "packages") ∷ packages)) found front.5 in
    let goes_on : c.next_list.new.reader ≡ member_tokens middle.0 ++ (Token.key (codes "resolve") ∷ graph) =
    subst (λ (b : Bool). c.next_list.new.reader ≡ member_tokens middle.0 ++ (last_token b (codes "resolve") ∷ graph)) found_too middle.5 in
    let ends : c.next_resolve.new.reader ≡ member_tokens back.0 ++ (Token.end_object ∷ after) =
    subst (λ (b : Bool). c.next_resolve.new.reader ≡ member_tokens back.0 ++ (last_token b (codes "resolve") ∷ after)) over back.5 in
    let beside = subst (λ (ms : List Member). (metadata [] (data_in (object (joined ms (member (codes "packages") (array no_items) no_members))))).value ≡ Some m) all c.in_ok-document.ensures in
    let read = metadata_next front.0 middle.0 back.0 c.next.new.self packages c.next_list.new.reader graph c.next_resolve.new.reader after ps g m
    front.2 middle.2 back.2 middle.4 back.4 back.3 begins c.in_ok-packages.ensures goes_on c.in_ok-resolve.ensures ends beside in
    subst (λ w. ReadsNext 127 (metadata []) c.args.reader.now w after) (sym c.with_parts.ensures)
    (subst (λ ts. ReadsNext 127 (metadata []) ts (with_lists ps g m) after) (sym first) read)
