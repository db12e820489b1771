use Rattle.std.proofs.Common.{sym, ◌∙◌, inr}
use Rattle.std.specs.Prelude.{Some}
use Rattle.semver.specs.Identifiers.{parts_of}
use Rattle.krates_ids.specs.PackageSpecification.{GivesChecked, IsFragment, spec_view}
use Rattle.krates_ids.proofs.CheckedLemmas.{Fragment-split, Fragment-name, Fragment-version, Fragment-bad_version}
use Rattle.krates_ids.proofs.SpecificationLemmas.{Answers-map, Answers-refused}
use Rattle.krates_ids.proofs.pkgspec.after_url.Goals as goal

pub returns-in-Some : goal.returns-in-Some
returns-in-Some c = Answers-map _ _ _ _ (Fragment-split _ _ _ _ _ c.in-Some.ensures) c.of_both_sides.ensures

pub returns-then-begins_with_letter : goal.returns-then-begins_with_letter
returns-then-begins_with_letter c =
    Answers-map _ _ _ _ (Fragment-name _ _ _ c.in_default.ensures (inr (sym c.begins_with_letter.ensures ∙ c.if-begins_with_letter.true))) c.with_name.ensures

pub returns-in_err-version : goal.returns-in_err-version
returns-in_err-version c =
    Answers-refused spec_view _ (GivesChecked (IsFragment (Some c.args.url.now) (Some c.args.piece.now) c.args.fragment.now)) _ _ c.from_residual.ensures.1
    (λ t. Fragment-bad_version _ _ _ t c.in_default.ensures (sym c.begins_with_letter.ensures ∙ c.if-begins_with_letter.false))
    c.in_err-version.ensures

pub returns : goal.returns
returns c =
    Answers-map _ _ _ _
    (Fragment-version _ _ _ (parts_of c.in_ok-version.version) c.in_default.ensures (sym c.begins_with_letter.ensures ∙ c.if-begins_with_letter.false) c.in_ok-version.ensures)
    c.with_name-2.ensures
