use Rattle.std.proofs.Common.{◌∙◌, sym, subst}
use Rattle.std.proofs.lemmas.Slice.Eq.{bytes_eq-Decides}
use Rattle.krates_cm.specs.Document.{Text}
use Rattle.krates_answers.specs.SamePackage.{IsBelow, below}
use Rattle.krates_answers.proofs.SamePackageLemmas.{both_below}
use Rattle.krates_answers.proofs.same_package.is_same_place.Goals as goal

pub returns-in-Some-Some : goal.returns-in-Some-Some
returns-in-Some-Some c =
    let a = c.args in
    let w = c.in-Some-Some in
    let decides = bytes_eq-Decides w.rest.now w.other_rest.now in (
      λ t. below w.rest.now w.ensures (subst (λ (rest : Text). IsBelow a.other_root.now a.other.now rest) (sym (decides.0 (sym c.eq.ensures ∙ t))) w.ensures'),
      λ same. c.eq.ensures ∙ decides.1 (both_below a.root.now a.path.now a.other_root.now a.other.now w.rest.now w.other_rest.now w.ensures w.ensures' same),
    )
