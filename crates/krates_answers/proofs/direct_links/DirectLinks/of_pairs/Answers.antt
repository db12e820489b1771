use Rattle.std.proofs.Common.{◌≡◌, ◌+◌, ◌∷◌, ◌++◌, [], List, ℕ, length, sym, ap, ◌∙◌, subst, arith}
use Rattle.std.proofs.lemmas.List.{length_push, map-append}
use Rattle.std.specs.Global.{Vec}
use Rattle.krates_answers.specs.DirectLinks.{AreExactly, IsPairedWith, items_of}
use Rattle.krates_answers.proofs.ListedNumbers.{AreEach, each_push}
use Rattle.krates_answers.proofs.PairedNumbers.{paired_links, paired_stored}
use Rattle.krates_answers.proofs.direct_links.DirectLinks.of_pairs.Goals as goal

pub loop-number-preserved : goal.loop-number-preserved
loop-number-preserved c =
    let l = c.loop-number in
    let Leads = IsPairedWith c.args.count c.args.pairs.now in
    let lists = items_of l.lists.items in
    let list = c.in_ok-paired_with.field-0 in
    let pushed : items_of c.push.new.self.items ≡ lists ++ list.items ∷ [] = ap items_of c.in_ok-push.ensures.items ∙ map-append (λ (v : Vec ℕ). v.items) l.lists.items (list ∷ []) in
    record {
      counted = subst (λ (ls : List (List ℕ)). length ls ≡ l.number + 1) (sym pushed) (length_push lists list.items ∙ ap (λ n. n + 1) l.invariant.counted);
      each = subst (AreEach Leads) (sym pushed)
          (each_push Leads lists list.items l.invariant.each (subst (λ n. AreExactly (Leads n) list.items) (sym l.invariant.counted) c.in_ok-paired_with.ensures));
    }

pub invariant_of-result : goal.invariant_of-result
invariant_of-result c =
    let l = c.loop-number in
    paired_stored c.args.count c.args.pairs.now (items_of l.lists.items) (omega (arith, l.invariant.counted, c.loop-number-test.false, l.auto.number-end)) (omega arith) l.invariant.each

pub returns : goal.returns
returns c =
    let l = c.loop-number in
    paired_links c.args.count c.args.pairs.now (items_of l.lists.items) (omega (arith, l.invariant.counted, c.loop-number-test.false, l.auto.number-end)) l.invariant.each
