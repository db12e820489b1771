use Rattle.std.proofs.Common.{◌≡◌, arith, refl}
use Rattle.krates_cm.specs.Document.{Text, text_view}
use Rattle.krates_text.specs.Path.{components}
use Rattle.krates_rules.proofs.Seen.{each_seen}
use Rattle.krates_questions.proofs.root_choice.is_one_of.Goals as goal

pub returns : goal.returns
returns c = (
  λ t. absurd cc,
  λ h. absurd (each_seen text_view (λ (t : Text). components t ≡ components c.args.path.now → ⊥) c.args.paths.now c.args.paths.now c.loop-other.other-index refl (omega arith) c.loop-other.invariant h.other h.among h.same),
)
