use Rattle.std.proofs.Common.{◌≡◌, ◌∙◌, Some, option_map, sym, ap, subst}
use Rattle.std.proofs.lemmas.Slice.Eq.{bytes_eq-Decides}
use Rattle.krates_cm.specs.Document.{Text, source_view}
use Rattle.krates_answers.specs.SamePackage.{of_machine, of_source}
use Rattle.krates_answers.proofs.SamePackageLemmas.{machine_home, source_home}
use Rattle.krates_answers.proofs.same_package.have_same_home.Goals as goal

pub returns-in-Some-Some : goal.returns-in-Some-Some
returns-in-Some-Some c =
    let w = c.in-Some-Some in
    let one = ap (option_map source_view) w.is-0 in
    let other = ap (option_map source_view) w.is-1 in
    let decides = bytes_eq-Decides (source_view w.source) (source_view w.other_source) in (
      λ t. of_source (source_view w.source) one (other ∙ ap (λ (s : Text). Some s) (sym (decides.0 (sym c.eq.ensures ∙ t)))),
      λ same. c.eq.ensures ∙ decides.1 (source_home same one other),
    )

pub returns-in-None-None : goal.returns-in-None-None
returns-in-None-None c =
    let w = c.in-None-None in
    let place = rw (c.as_str.ensures.value, c.as_str-in-None-None.ensures.value) at c.is_same_place.ensures in (
      λ t. of_machine w.is-0 w.is-1 (place.0 t),
      λ same. place.1 (machine_home same w.is-0),
    )
