use Rattle.std.proofs.Common.{◌∙◌, ◌∷◌, ◌++◌, [], ℕ, List, Bor, map, string_bytes, sym, ap}
use mathlib.Core.List.{map-append}
use Rattle.std.proofs.lemmas.Iterator.Consumers.{YieldsList-end}
use Rattle.std.proofs.lemmas.Iterator.Splits.{YieldsList-from_lines}
use Rattle.std.specs.declared.str.Lines.{Lines}
use Rattle.krates_foreign.proofs.asked.words_in.Goals as goal

pub loop-line-init : goal.loop-line-init
loop-line-init c = (tt, tt, ap (map string_bytes) c.new-words.ensures.items)

pub loop-line-preserved : goal.loop-line-preserved
loop-line-preserved c =
    let among = map (λ (line : Bor (List ℕ)). line.now) c.loop-line.yielded in
    let lines = map-append (λ (line : Bor (List ℕ)). line.now) c.loop-line.yielded (c.in-Some.line ∷ []) in
    let before = c.loop-line.words.items in
    let word = c.in_ok-from_str.field-0 in
    let words = ap (map string_bytes) c.in_ok-push.ensures.items ∙ map-append string_bytes before (word ∷ []) ∙ ap (λ v. map string_bytes before ++ v ∷ []) c.in_ok-from_str.ensures.ok in
    (tt, tt, words ∙ ap (λ front. front ++ c.in-Some.line.now ∷ []) c.loop-line.invariant.2 ∙ sym lines)

pub returns : goal.returns
returns c =
    let road = YieldsList-from_lines c.args.text.now (ap (λ (i : Lines). i.rest.now) c.into_iter-line-iterator.ensures.into_iter_gives ∙ c.lines-line-items.ensures.rest) in
    let end = YieldsList-end road c.loop-line.yielded _ c.loop-line.yielded_by _ _ c.in-None.is c.next.ensures.steps in
    c.loop-line.invariant.2 ∙ end.0
