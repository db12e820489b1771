use Rattle.std.proofs.Common.{◌≡◌, ◌∙◌, ◌<◌, ◌+◌, List, ℕ, All, length, take, sym, ap, subst}
use Rattle.std.proofs.lemmas.List.{with_items_is}
use Rattle.std.specs.Global.{Vec}
use Rattle.krates_answers.specs.DirectLinks.{AreLinks, ArePushed, AreStored, IsListed, items_of}
use Rattle.krates_answers.proofs.ListedNumbers.{AreEach}
use Rattle.krates_answers.proofs.TurnedNumbers.{places_below, turned_step, turned_whole}
use Rattle.krates_answers.proofs.direct_links.DirectLinks.reversed.Goals as goal

pub push_to_each-requires : goal.push_to_each-requires
push_to_each-requires c =
    let l = c.loop-number in
    let lists = c.deref-list-items.result.now in
    let stored : AreStored (items_of lists) = subst (λ (vs : List (Vec ℕ)). AreStored (items_of vs)) (sym c.deref-list-items.ensures.value) c.self.invariant in
    let below = places_below lists l.lists.items l.number c.list-item.result stored c.loop-number-test.true c.list-item.is l.invariant.0 in
    rw c.deref.ensures.value (subst (λ (vs : List (Vec ℕ)). All (λ place. place < length vs) c.list-item.result.items) (sym c.deref_mut.ensures.value) below)

pub loop-number-preserved : goal.loop-number-preserved
loop-number-preserved c =
    let l = c.loop-number in
    let lists = c.deref-list-items.result.now in
    let list = c.list-item.result in
    let after = c.push_to_each.new.lists in
    let stored : AreStored (items_of lists) = subst (λ (vs : List (Vec ℕ)). AreStored (items_of vs)) (sym c.deref-list-items.ensures.value) c.self.invariant in
    let as_before : length after ≡ length l.lists.items = c.push_to_each.auto.lists ∙ ap length c.deref_mut.ensures.value in
    let is = with_items_is l.lists after (as_before ∙ sym l.lists.ok.0) in
    let pushed : ArePushed l.number list.items (items_of l.lists.items) (items_of after) = rw (c.new.ensures, c.deref.ensures.value, c.deref_mut.ensures.value) at c.in_ok-push_to_each.ensures in
    let step = turned_step lists l.lists.items after l.number list stored c.loop-number-test.true c.list-item.is as_before pushed l.invariant.1 in
    (ap length is ∙ as_before ∙ l.invariant.0, subst (λ (vs : List (Vec ℕ)). AreEach (λ a b. IsListed (take (l.number + 1) (items_of lists)) b a) (items_of vs)) (sym is) step)

pub invariant_of-result : goal.invariant_of-result
invariant_of-result c =
    let l = c.loop-number in
    let lists = c.deref-list-items.result.now in
    let stored : AreStored (items_of lists) = subst (λ (vs : List (Vec ℕ)). AreStored (items_of vs)) (sym c.deref-list-items.ensures.value) c.self.invariant in
    (turned_whole lists l.lists.items l.number stored l.invariant.0 c.loop-number-test.false l.invariant.1).1

pub returns : goal.returns
returns c =
    let l = c.loop-number in
    let lists = c.deref-list-items.result.now in
    let stored : AreStored (items_of lists) = subst (λ (vs : List (Vec ℕ)). AreStored (items_of vs)) (sym c.deref-list-items.ensures.value) c.self.invariant in
    let whole = (turned_whole lists l.lists.items l.number stored l.invariant.0 c.loop-number-test.false l.invariant.1).0 in
    let same : items_of lists ≡ c.args.self.now = ap items_of c.deref-list-items.ensures.value ∙ c.self.view_is in
    subst (λ (links : List (List ℕ)). AreLinks (length links) (λ a b. IsListed links b a) (items_of l.lists.items)) same whole
