use Rattle.std.proofs.Common.{◌≡◌, ◌++◌, refl, rules, subst, sym}
use Rattle.std.proofs.Output.{has_written_of_eq}
use Rattle.std.proofs.lemmas.Grind.{put_two}
use Rattle.std.proofs.lemmas.Str.{IsUtf8-past_char}
use Rattle.std.specs.Str.Iter.{chars_rest}
use Rattle.krates_shown.specs.Shown.{shown_before, shown_text}
use Rattle.krates_shown.proofs.ShownLemmas.{shown_on, shown_whole}
use Rattle.krates_shown.proofs.shown.ShownDisplay.fmt.Goals as goal

pub loop-character-preserved : goal.loop-character-preserved
loop-character-preserved g c =
    let text = chars_rest c.loop-character.rest in
    let rest = chars_rest c.next.new.self in
    let character = c.in-Some.character in
    let whole = c.args.self.now.0.now in
    let utf8 = c.loop-character.invariant.utf8 in
    let is : text ≡ _ = c.in-Some.ensures.steps.0 in record {
      utf8 = IsUtf8-past_char text rest character utf8 is;
      so_far = λ plain.
          let before = c.loop-character.invariant.so_far plain in
          let written = c.as_str.result.now in (
            before.0 ++ shown_before character written,
            put_two _ _ _ _ before.0 (shown_before character written) _ before.1 (search rules) refl,
            subst (λ r. shown_text whole ≡ (before.0 ++ shown_before character r) ++ shown_text rest) (sym c.as_str.ensures) (shown_on whole before.0 text rest character utf8 is before.2),
          );
    }

pub returns-clause-writes : goal.returns-clause-writes
returns-clause-writes g c = λ plain. λ ok.
    let before = c.loop-character.invariant.so_far plain in
    has_written_of_eq _ _ _ _ _ (shown_whole c.args.self.now.0.now before.0 (chars_rest c.loop-character.rest) c.in_default.ensures.steps.0.0 before.2) before.1
