use Rattle.std.proofs.Common.{◌≡◌, ◌∙◌, ◌<◌, ◌∷◌, ◌++◌, [], List, ℕ, get_or, length, slice_set, sym, ap, arith}
use Rattle.std.proofs.lemmas.List.{get_or-map, length-map, map-set}
use Rattle.std.specs.Global.{Vec}
use Rattle.krates_answers.specs.DirectLinks.{items_of}
use Rattle.krates_answers.proofs.PushedNumbers.{pushed_more}
use Rattle.krates_answers.proofs.direct_links.push_to_each.Goals as goal

pub loop-place-preserved : goal.loop-place-preserved
loop-place-preserved c =
    let l = c.loop-place in
    let number = c.args.number in
    let place = c.place-item.result in
    let lists = l.lists in
    let list = c.index-lists-index.result in
    let all : List (List ℕ) = items_of lists in
    let is : c.index.result ≡ place = c.index.ensures in
    let within : place < length lists = omega (arith, c.requires l.place-index place, c.loop-place-test.true) in
    let read : get_or lists place list ≡ list = ap (λ k. get_or lists k list) (sym is) ∙ sym c.index-lists-index.is in
    let had : get_or all place [] ≡ (get_or lists place list).items = get_or-map (λ (v : Vec ℕ). v.items) lists place list [] within in
    let pushed : c.push.new.self.items ≡ get_or all place [] ++ number ∷ [] =
    c.in_ok-push.ensures.items ∙ ap (λ k. (get_or lists k list).items ++ number ∷ []) is ∙ ap (λ (xs : List ℕ). xs ++ number ∷ []) (sym had) in
    let set : items_of (slice_set lists c.index.result c.push.new.self) ≡ slice_set all place (get_or all place [] ++ number ∷ []) =
    map-set (λ (v : Vec ℕ). v.items) lists c.index.result c.push.new.self ∙ ap (λ k. slice_set all k c.push.new.self.items) is ∙ ap (λ (xs : List ℕ). slice_set all place xs) pushed in
    let same_length = length-map lists (λ (v : Vec ℕ). v.items) ∙ l.auto.lists ∙ sym (length-map c.args.lists.now (λ (v : Vec ℕ). v.items)) in
    rw set (pushed_more number l.place-index place c.args.to.now (items_of c.args.lists.now) all c.loop-place-test.true c.place-item.is same_length l.invariant)
