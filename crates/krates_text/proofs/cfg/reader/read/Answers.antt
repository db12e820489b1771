use Rattle.std.proofs.Common.{◌∙◌, [], ap, ap₂, Ok}
use Rattle.std.specs.Str.Iter.{chars_rest}
use Rattle.krates_text.specs.CfgReader.{at, at_predicate, run, read, finished}
use Rattle.krates_text.specs.CfgFrames.{stack}
use Rattle.krates_text.specs.CfgPlaces.{place_of}
use Rattle.krates_text.proofs.CfgFrames.{stack-nil}
use Rattle.krates_text.proofs.CfgSteps.{reads_on, ends_whole, unfinished, fails_whole, given_err}
use Rattle.krates_text.proofs.cfg.reader.read.Goals as goal

pub loop-c-init : goal.loop-c-init
loop-c-init c = ap₂ (λ frames text. run (at frames at_predicate) text) (ap stack c.new-frames.ensures.items ∙ stack-nil) c.chars-chars.ensures.rest

pub returns-in_err-place : goal.returns-in_err-place
returns-in_err-place c =
    let total = run (at [] at_predicate) c.args.text.now in
    given_err c.from_residual.result c.in_err-place.field-0.0 (read c.args.text.now) c.from_residual.ensures.1
    (fails_whole (stack c.loop-c.frames.items) (place_of c.loop-c.place) c.in-Some.c (chars_rest c.loop-c.chars) (chars_rest c.next.new.self) total c.in_err-place.field-0.0 c.in-Some.ensures.steps.0 c.loop-c.invariant c.in_err-place.ensures)

pub loop-c-preserved : goal.loop-c-preserved
loop-c-preserved c =
    let total = run (at [] at_predicate) c.args.text.now in
    let next = at (stack c.step.new.frames.items) (place_of c.in_ok-place.place) in
    reads_on (stack c.loop-c.frames.items) (place_of c.loop-c.place) c.in-Some.c (chars_rest c.loop-c.chars) (chars_rest c.next.new.self) (Ok next) total c.in-Some.ensures.steps.0 c.loop-c.invariant c.in_ok-place.ensures

pub returns-in-AtEnd : goal.returns-in-AtEnd
returns-in-AtEnd c =
    let total = run (at [] at_predicate) c.args.text.now in
    ends_whole (stack c.loop-c.frames.items) (place_of c.loop-c.place) (chars_rest c.loop-c.chars) total c.in_default.ensures.steps.0.0 c.loop-c.invariant
    ∙ ap (λ place. finished (place_of place)) c.in-AtEnd.is

pub returns : goal.returns
returns c =
    let total = run (at [] at_predicate) c.args.text.now in
    ends_whole (stack c.loop-c.frames.items) (place_of c.loop-c.place) (chars_rest c.loop-c.chars) total c.in_default.ensures.steps.0.0 c.loop-c.invariant
    ∙ unfinished c.loop-c.place c.in_default-place.not-AtEnd
