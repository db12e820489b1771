use Rattle.std.proofs.Common.{◌≡◌, [], ◌∷◌, ◌++◌, map, sym, ap, ◌∙◌, subst, arith, rules, append_assoc, append-nil}
use Rattle.std.proofs.lemmas.List.{map-append}
use Rattle.json.proofs.Grammar.{closed_array}
use Rattle.json.specs.Token.{Token}
use Rattle.krates_cm_json.specs.ByItem.{ReadsNext}
use Rattle.krates_cm_json.specs.Reading.{list}
use Rattle.krates_cm_json.proofs.ByItemLemmas.{ReadsItems, array_next, item_next, no_item_next, next_shorter}
use Rattle.krates_cm_json.proofs.by_item.next_list.Goals as goal

pub loop-alloc-init : goal.loop-alloc-init
loop-alloc-init g c =
    let first : c.args.reader.now ≡ Token.begin_array ∷ c.next.new.self = search rules in
    λ xs after more. rw (first, c.new-items.ensures.items) (array_next g.T.FromValue.reads [] c.next.new.self after xs more)

pub loop-alloc-smaller : goal.loop-alloc-smaller
loop-alloc-smaller g c =
    let going : c.take_end_array.new.self ≡ c.loop-alloc.reader = grind arith in
    let next = c.in_ok-item.ensures in
    next_shorter next.0 c.loop-alloc.reader c.next_item.new.reader (sym going ∙ next.2)

pub loop-alloc-preserved : goal.loop-alloc-preserved
loop-alloc-preserved g c =
    let l = c.loop-alloc in
    let view = g.T.FromValue.view in
    let done = l.items.items in
    let x = c.in_ok-item.item in
    let reading = g.T.FromValue.reads [] in
    let going : c.take_end_array.new.self ≡ l.reader = grind arith in
    let next : ReadsNext 124 reading l.reader (view x) c.next_item.new.reader = subst (λ ts. ReadsNext 124 reading ts (view x) c.next_item.new.reader) going c.in_ok-item.ensures in
    let pushed : c.push.new.list.items ≡ done ++ x ∷ [] = search rules in
    λ xs after more.
    let front : map view done ++ (view x ∷ xs) ≡ map view c.push.new.list.items ++ xs =
    sym (append_assoc (map view done) (view x ∷ []) xs) ∙ ap (λ ys. ys ++ xs) (sym (ap (map view) pushed ∙ map-append view done (x ∷ []))) in
    subst (λ ys. ReadsNext 125 (list g.T.FromValue.reads []) c.args.reader.now ys after) front
    (l.invariant (view x ∷ xs) after (item_next reading l.reader c.next_item.new.reader after (view x) xs next more))

pub returns : goal.returns
returns g c =
    let l = c.loop-alloc in
    let view = g.T.FromValue.view in
    let new = c.take_end_array.new.self in
    let reading = g.T.FromValue.reads [] in
    let closed : l.reader ≡ Token.end_array ∷ new = closed_array l.reader new (grind arith) in
    let over : ReadsItems reading l.reader [] new = subst (λ ts. ReadsItems reading ts [] new) (sym closed) (no_item_next reading new) in
    subst (λ ys. ReadsNext 125 (list g.T.FromValue.reads []) c.args.reader.now ys new) (append-nil (map view l.items.items)) (l.invariant [] new over)
