use Rattle.std.proofs.Common.{◌∙◌, ◌∷◌, ◌++◌, [], ℕ, List, Bor, String, Global, map, string_bytes, sym, ap, subst}
use mathlib.Core.List.{map-append}
use Rattle.std.proofs.lemmas.Iterator.Consumers.{YieldsList-end}
use Rattle.std.proofs.lemmas.Iterator.Splits.{YieldsList-from_lines}
use Rattle.std.specs.declared.str.Lines.{Lines}
use Rattle.krates_text.specs.RustcCfg.{AreValuesIn, no_line}
use Rattle.krates_text.proofs.RustcCfg.{one_more_value, one_more_other}
use Rattle.krates_text.proofs.rustc_cfg.values.Goals as goal

pub loop-line-init : goal.loop-line-init
loop-line-init c = (tt, tt, subst (λ (xs : List (String Global)). AreValuesIn c.args.key.now [] (map string_bytes xs)) (sym c.new-values.ensures.items) no_line)

pub loop-line-preserved-in_ok-push : goal.loop-line-preserved-in_ok-push
loop-line-preserved-in_ok-push c =
    let among = map (λ (line : Bor (List ℕ)). line.now) c.loop-line.yielded in
    let lines = map-append (λ (line : Bor (List ℕ)). line.now) c.loop-line.yielded (c.in-Some.line ∷ []) in
    let before = c.loop-line.values.items in
    let text = c.in_ok-from_str.field-0 in
    let values = ap (map string_bytes) c.in_ok-push.ensures.items ∙ map-append string_bytes before (text ∷ []) ∙ ap (λ v. map string_bytes before ++ v ∷ []) c.in_ok-from_str.ensures.ok in
    let more = one_more_value c.args.key.now c.in-Some-value_in.value.now c.in-Some.line.now among (map string_bytes before) c.in-Some-value_in.ensures c.loop-line.invariant.2 in
    (tt, tt, subst (λ xs. AreValuesIn c.args.key.now xs (map string_bytes c.push.new.self.items)) (sym lines) (subst (λ vs. AreValuesIn c.args.key.now (among ++ c.in-Some.line.now ∷ []) vs) (sym values) more))

pub loop-line-preserved : goal.loop-line-preserved
loop-line-preserved c =
    let among = map (λ (line : Bor (List ℕ)). line.now) c.loop-line.yielded in
    let lines = map-append (λ (line : Bor (List ℕ)). line.now) c.loop-line.yielded (c.in-Some.line ∷ []) in
    let values = map string_bytes c.loop-line.values.items in
    (tt, tt, subst (λ xs. AreValuesIn c.args.key.now xs values) (sym lines) (one_more_other c.args.key.now c.in-Some.line.now among values c.in_default.ensures c.loop-line.invariant.2))

pub returns : goal.returns
returns c =
    let road = YieldsList-from_lines c.args.text.now (ap (λ (i : Lines). i.rest.now) c.into_iter-line-iterator.ensures.into_iter_gives ∙ c.lines-line-items.ensures.rest) in
    let end = YieldsList-end road c.loop-line.yielded _ c.loop-line.yielded_by _ _ c.in-None.is c.next.ensures.steps in
    subst (λ among. AreValuesIn c.args.key.now among (map string_bytes c.loop-line.values.items)) end.0 c.loop-line.invariant.2
