use Rattle.std.proofs.Common.{◌+◌, arith, refl, length}
use Rattle.krates_text.specs.Cuts.{FirstCut}
use Rattle.krates_ids.specs.Separators.{at_sign}
use Rattle.krates_ids.proofs.SpansLemmas.{IsUtf8-after_cut, StandsAt-before, StandsAt-after, StandsAt-within}
use Rattle.krates_ids.proofs.StableLemmas.{StandsAt-fragment, Marks-source}
use Rattle.krates_ids.proofs.stable.parts_in.Goals as goal

pub span_of-requires : goal.span_of-requires
span_of-requires c =
    let named = rw c.in-Some.is at c.requires.1.named in
    StandsAt-within _ _ _ 0 _ _ (StandsAt-before _ _ _ _ (omega arith) c.utf8.text c.requires.1.is) named.1 (omega arith)

pub span_of-requires-in-Some : goal.span_of-requires-in-Some
span_of-requires-in-Some c =
    let named = rw c.in-Some.is at c.requires.1.named in
    rw named.0 (StandsAt-fragment _ _ _ _ c.requires.1.is refl)

pub returns-in-Some : goal.returns-in-Some
returns-in-Some c = λ source whole.
    record { name = c.span_of.ensures; version = c.span_of-in-Some.ensures; source = Marks-source _ _ _ _ c.utf8.text whole.is refl }

pub span_of-requires-in-None : goal.span_of-requires-in-None
span_of-requires-in-None c =
    let named : FirstCut at_sign c.args.stable.fragment.now c.args.stable.name.now c.args.stable.version.now = rw c.in-None.is at c.requires.1.named in
    let text = IsUtf8-after_cut _ _ _ _ (omega arith) c.utf8.text c.requires.1.is in
    StandsAt-within _ _ _ _ 0 _ (StandsAt-fragment _ _ _ _ c.requires.1.is refl) (StandsAt-before _ _ _ _ (omega arith) text named.is) (omega arith)

pub span_of-requires-in-None-2 : goal.span_of-requires-in-None-2
span_of-requires-in-None-2 c =
    let named : FirstCut at_sign c.args.stable.fragment.now c.args.stable.name.now c.args.stable.version.now = rw c.in-None.is at c.requires.1.named in
    StandsAt-within _ _ _ _ (length c.args.stable.name.now + 1) _ (StandsAt-fragment _ _ _ _ c.requires.1.is refl) (StandsAt-after _ _ _ _ _ named.is refl) (omega arith)

pub returns-in-None : goal.returns-in-None
returns-in-None c = λ source whole.
    record { name = c.span_of-in-None.ensures; version = c.span_of-in-None-2.ensures; source = Marks-source _ _ _ _ c.utf8.text whole.is refl }
