use Rattle.std.proofs.Common.{arith, ◌≡◌, ◌∙◌, sym, subst}
use Rattle.std.proofs.lemmas.Grind.{common_steps}
use Rattle.std.specs.Str.{IsUtf8}
use Rattle.percent_encoding.specs.Percent.{percent_decode}
use Rattle.krates_ids.proofs.EscapesLemmas.{IsUtf8-percent_decode}
use Rattle.krates_ids.proofs.escapes.decoded_text.Goals as goal

-- what is decoded is UTF-8, so `decode_utf8` fails only when out of memory
pub unreachable-requires : goal.unreachable-requires
unreachable-requires c =
    let input : c.percent_decode.result.bytes.now ≡ c.args.query.now = c.percent_decode.ensures.input ∙ c.as_bytes.ensures.value in
    let text = subst (λ q. IsUtf8 (percent_decode q)) (sym input) (IsUtf8-percent_decode c.args.query.now c.utf8.query c.requires) in
    let only = c.in-Err-Utf8.ensures.utf8 text in
    cc (only, c.in-Err-Utf8.field-0-is)

pub returns-in-Ok : goal.returns-in-Ok
returns-in-Ok c = grind (arith, common_steps)
