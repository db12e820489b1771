use Rattle.std.proofs.Common.{◌≡◌, ◌∙◌, ◌+◌, ◌∷◌, ◌++◌, [], ℕ, List, Bor, Some, length, map, take, string_bytes, sym, ap, subst}
use Rattle.std.specs.Prelude.{slice_get}
use Rattle.std.specs.Str.Lines.{lines}
use Rattle.std.proofs.lemmas.List.{length-map, map-append}
use Rattle.std.proofs.lemmas.Bool.{both_ways}
use Rattle.std.proofs.lemmas.Option.{slice_get-get_or}
use Rattle.std.proofs.lemmas.Iterator.Consumers.{YieldsList-end, YieldsList-so_far, YieldsList-turn}
use Rattle.std.proofs.lemmas.Iterator.Splits.{YieldsList-from_lines}
use Rattle.std.specs.declared.str.Lines.{Lines}
use Rattle.krates_text.specs.CfgHolding.{pair_bytes}
use Rattle.krates_units.specs.RustcLines.{LinesSay, nothing}
use Rattle.krates_units.proofs.RustcLines.{one_more_word, one_more_pair, first_other}
use Rattle.krates_units.proofs.lines.read_lines.Goals as goal

pub loop-line-init : goal.loop-line-init
loop-line-init c = (tt, tt, rw (c.new-words.ensures.items, c.new-pairs.ensures.items) nothing)

pub loop-line-preserved-in_ok-push : goal.loop-line-preserved-in_ok-push
loop-line-preserved-in_ok-push c =
    let line = c.in-Some.line.now in
    let said = map (λ (line : Bor (List ℕ)). line.now) c.loop-line.yielded in
    let more = map-append (λ (line : Bor (List ℕ)). line.now) c.loop-line.yielded (c.in-Some.line ∷ []) in
    let before = c.loop-line.words.items in
    let text = c.in_ok-from_str.field-0 in
    let pairs = map pair_bytes c.loop-line.pairs.items in
    let words = ap (map string_bytes) c.in_ok-push.ensures.items ∙ map-append string_bytes before (text ∷ []) ∙ ap (λ w. map string_bytes before ++ w ∷ []) c.in_ok-from_str.ensures.ok in
    let now = one_more_word line (c.is_word.ensures.0 c.if-is_word.true) c.loop-line.invariant.2 in
    (tt, tt, subst (λ ls. LinesSay ls (map string_bytes c.push.new.self.items) pairs) (sym more) (subst (λ ws. LinesSay (said ++ line ∷ []) ws pairs) (sym words) now))

pub loop-line-preserved : goal.loop-line-preserved
loop-line-preserved c =
    let line = c.in-Some.line.now in
    let key = c.in-Some-pair_in.key.now in
    let string = c.in-Some-pair_in.string.now in
    let said = map (λ (line : Bor (List ℕ)). line.now) c.loop-line.yielded in
    let more = map-append (λ (line : Bor (List ℕ)). line.now) c.loop-line.yielded (c.in-Some.line ∷ []) in
    let before = c.loop-line.pairs.items in
    let pair = c.in_ok-copied.field-0 in
    let words = map string_bytes c.loop-line.words.items in
    let pairs = ap (map pair_bytes) c.in_ok-push-2.ensures.items ∙ map-append pair_bytes before (pair ∷ []) ∙ ap (λ p. map pair_bytes before ++ p ∷ []) c.in_ok-copied.ensures in
    let now = one_more_pair line key string c.in-Some-pair_in.ensures c.loop-line.invariant.2 in
    (tt, tt, subst (λ ls. LinesSay ls words (map pair_bytes c.push-in-Some-pair_in.new.self.items)) (sym more) (subst (λ ps. LinesSay (said ++ line ∷ []) words ps) (sym pairs) now))

pub returns-in_default-clause-refused : goal.returns-in_default-clause-refused
returns-in_default-clause-refused c =
    let all = lines c.args.printed.now in
    let line = c.in-Some.line.now in
    let yielded = c.loop-line.yielded in
    let said = map (λ (line : Bor (List ℕ)). line.now) yielded in
    let as_long = length-map yielded (λ (line : Bor (List ℕ)). line.now) in
    let words = map string_bytes c.loop-line.words.items in
    let pairs = map pair_bytes c.loop-line.pairs.items in
    let road = YieldsList-from_lines c.args.printed.now (ap (λ (i : Lines). i.rest.now) c.into_iter-line-iterator.ensures.into_iter_gives ∙ c.lines-line-items.ensures.rest) in
    let so_far = YieldsList-so_far road yielded _ c.loop-line.yielded_by in
    let turn = YieldsList-turn road yielded _ c.loop-line.yielded_by _ _ c.in-Some.line c.in-Some.is c.next.ensures.steps in
    let read = slice_get-get_or all (length yielded) line turn.0 ∙ ap (λ l. Some l) (sym turn.1) in
    let of_words = c.len.ensures ∙ c.loop-line.words.ok.0 ∙ sym (length-map c.loop-line.words.items string_bytes) in
    let of_pairs = c.len-in_default.ensures ∙ c.loop-line.pairs.ok.0 ∙ sym (length-map c.loop-line.pairs.items pair_bytes) in
    first_other c.args.printed.now line said words pairs (c.len.result + c.len-in_default.result + 1) c.loop-line.invariant.2
    (so_far ∙ ap (λ n. take n all) (sym as_long)) (subst (λ n. slice_get all n ≡ Some line) (sym as_long) read)
    (record { no_word = λ word. both_ways _ c.if-is_word.false (c.is_word.ensures.1 word); no_pair = c.in_default.ensures })
    (ap (λ n. n + c.len-in_default.result + 1) of_words ∙ ap (λ n. length words + n + 1) of_pairs)

pub returns-clause-read : goal.returns-clause-read
returns-clause-read c =
    let road = YieldsList-from_lines c.args.printed.now (ap (λ (i : Lines). i.rest.now) c.into_iter-line-iterator.ensures.into_iter_gives ∙ c.lines-line-items.ensures.rest) in
    let end = YieldsList-end road c.loop-line.yielded _ c.loop-line.yielded_by _ _ c.in-None.is c.next.ensures.steps in
    subst (λ among. LinesSay among (map string_bytes c.loop-line.words.items) (map pair_bytes c.loop-line.pairs.items)) end.0 c.loop-line.invariant.2
