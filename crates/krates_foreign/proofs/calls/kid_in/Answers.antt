use Rattle.std.proofs.Common.{subst, sym}
use Rattle.krates_cm.specs.Document.{Text}
use Rattle.krates_cli.specs.OptionsReading.{IsUnread}
use Rattle.krates_ids.specs.Identity.{Identity, Reads}
use Rattle.krates_foreign.proofs.calls.kid_in.Goals as goal

pub returns-in-Err-Unknown-clause-refused : goal.returns-in-Err-Unknown-clause-refused
returns-in-Err-Unknown-clause-refused c =
    let none : (krate : Identity) → Reads c.in-Ok.text.now krate → ⊥ = subst (IsUnread ((krate : Identity) → Reads c.in-Ok.text.now krate → ⊥)) c.in-Err-Unknown.field-0-is c.in-Err-Unknown.ensures.refused in
    λ krate names. none krate (subst (λ (t : Text). Reads t krate) (sym c.in-Ok.ensures.cases.0) names.1)
