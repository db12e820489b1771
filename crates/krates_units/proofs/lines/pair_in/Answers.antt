use Rattle.std.proofs.Common.{Some, None, lit<}
use Rattle.std.proofs.lemmas.Str.Pattern.{strip_prefix_char}
use Rattle.std.proofs.lemmas.Bool.{both_ways}
use Rattle.krates_text.proofs.CutsLemmas.{CutsFirst-split_once}
use Rattle.krates_units.proofs.RustcLines.{none_without_equals, none_without_opening, none_without_closing, none_of_other_parts, pair_of_parts, no_pair, none_left, some_left}
use Rattle.krates_units.proofs.lines.pair_in.Goals as goal

pub returns-in_err-key : goal.returns-in_err-key
returns-in_err-key c =
    let line = c.args.line.now in
    no_pair line c.from_residual.result c.from_residual.ensures (none_without_equals line (CutsFirst-split_once 61 line None c.in_err-key.ensures.cases (lit< tt)))

pub returns-in_err-quoted : goal.returns-in_err-quoted
returns-in_err-quoted c =
    let line = c.args.line.now in
    let behind = c.in_ok-key.behind.now in
    let cut = CutsFirst-split_once 61 line (Some (c.in_ok-key.key, c.in_ok-key.behind)) c.in_ok-key.ensures.cases (lit< tt) in
    no_pair line c.from_residual-in_err-quoted.result c.from_residual-in_err-quoted.ensures
    (none_without_opening line c.in_ok-key.key.now behind cut (strip_prefix_char 34 behind None c.in_err-quoted.ensures.cases (lit< tt)))

pub returns-in_err-string : goal.returns-in_err-string
returns-in_err-string c =
    let line = c.args.line.now in
    let behind = c.in_ok-key.behind.now in
    let quoted = c.in_ok-quoted.quoted.now in
    let cut = CutsFirst-split_once 61 line (Some (c.in_ok-key.key, c.in_ok-key.behind)) c.in_ok-key.ensures.cases (lit< tt) in
    let opens = strip_prefix_char 34 behind (Some c.in_ok-quoted.quoted) c.in_ok-quoted.ensures.cases (lit< tt) in
    no_pair line c.from_residual-in_err-string.result c.from_residual-in_err-string.ensures
    (none_without_closing line c.in_ok-key.key.now behind quoted cut opens (CutsFirst-split_once 34 quoted None c.in_err-string.ensures.cases (lit< tt)))

pub returns-then-not-is_empty : goal.returns-then-not-is_empty
returns-then-not-is_empty c =
    let line = c.args.line.now in
    let behind = c.in_ok-key.behind.now in
    let quoted = c.in_ok-quoted.quoted.now in
    let cut = CutsFirst-split_once 61 line (Some (c.in_ok-key.key, c.in_ok-key.behind)) c.in_ok-key.ensures.cases (lit< tt) in
    let opens = strip_prefix_char 34 behind (Some c.in_ok-quoted.quoted) c.in_ok-quoted.ensures.cases (lit< tt) in
    let closes = CutsFirst-split_once 34 quoted (Some (c.in_ok-string.string, c.in_ok-string.rest)) c.in_ok-string.ensures.cases (lit< tt) in
    none_of_other_parts line c.in_ok-key.key.now behind quoted c.in_ok-string.string.now c.in_ok-string.rest.now cut opens closes (λ word ends. some_left _ _ c.is_empty.ensures c.if-not-is_empty.true ends)

pub returns-then-is_word : goal.returns-then-is_word
returns-then-is_word c =
    let line = c.args.line.now in
    let behind = c.in_ok-key.behind.now in
    let quoted = c.in_ok-quoted.quoted.now in
    let cut = CutsFirst-split_once 61 line (Some (c.in_ok-key.key, c.in_ok-key.behind)) c.in_ok-key.ensures.cases (lit< tt) in
    let opens = strip_prefix_char 34 behind (Some c.in_ok-quoted.quoted) c.in_ok-quoted.ensures.cases (lit< tt) in
    let closes = CutsFirst-split_once 34 quoted (Some (c.in_ok-string.string, c.in_ok-string.rest)) c.in_ok-string.ensures.cases (lit< tt) in
    pair_of_parts line c.in_ok-key.key.now behind quoted c.in_ok-string.string.now c.in_ok-string.rest.now cut opens closes (c.is_word.ensures.0 c.if-is_word.true) (none_left _ _ c.is_empty.ensures c.if-not-is_empty.false)

pub returns-else-is_word : goal.returns-else-is_word
returns-else-is_word c =
    let line = c.args.line.now in
    let behind = c.in_ok-key.behind.now in
    let quoted = c.in_ok-quoted.quoted.now in
    let cut = CutsFirst-split_once 61 line (Some (c.in_ok-key.key, c.in_ok-key.behind)) c.in_ok-key.ensures.cases (lit< tt) in
    let opens = strip_prefix_char 34 behind (Some c.in_ok-quoted.quoted) c.in_ok-quoted.ensures.cases (lit< tt) in
    let closes = CutsFirst-split_once 34 quoted (Some (c.in_ok-string.string, c.in_ok-string.rest)) c.in_ok-string.ensures.cases (lit< tt) in
    none_of_other_parts line c.in_ok-key.key.now behind quoted c.in_ok-string.string.now c.in_ok-string.rest.now cut opens closes (λ word ends. both_ways _ c.if-is_word.false (c.is_word.ensures.1 word))
