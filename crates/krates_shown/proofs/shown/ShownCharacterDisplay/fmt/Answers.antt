use Rattle.std.proofs.Common.{◌∷◌, [], Some, subst}
use Rattle.std.proofs.Output.{has_written_of_eq}
use Rattle.std.specs.Fmt.{DisplaysOnOk, ◌++?◌}
use Rattle.krates_shown.proofs.ShownLemmas.{escaped_before, plain_before}
use Rattle.krates_shown.proofs.shown.ShownCharacterDisplay.fmt.Goals as goal

pub returns-then-is_escaped-clause-writes : goal.returns-then-is_escaped-clause-writes
returns-then-is_escaped-clause-writes g c = λ plain. λ ok.
    let shown = c.args.self.now in
    let writes = subst (λ number. DisplaysOnOk g.W.Write.write_str_gives c.args.f.now c.write.result (Some (92 ∷ 117 ∷ 123 ∷ []) ++? (number ++? Some (125 ∷ []))) c.write.new.self)
    c.in_radix.ensures c.write.ensures.writes in
    has_written_of_eq _ _ _ _ _ (escaped_before shown.character shown.rest.now c.if-is_escaped.ensures) (writes plain ok)

pub returns-else-is_escaped-clause-writes : goal.returns-else-is_escaped-clause-writes
returns-else-is_escaped-clause-writes g c = λ plain. λ ok.
    let shown = c.args.self.now in
    has_written_of_eq _ _ _ _ _ (plain_before shown.character shown.rest.now c.if-is_escaped.ensures) (c.write-else-is_escaped.ensures.writes plain ok)
