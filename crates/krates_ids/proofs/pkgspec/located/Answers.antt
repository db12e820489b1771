use Rattle.std.proofs.Common.{sym, ◌∙◌}
use Rattle.krates_ids.specs.PackageSpecification.{GivesChecked, IsLocated, spec_view}
use Rattle.krates_ids.proofs.CheckedLemmas.{Located-refused, Located-alone, Located-empty, Located-bad_url, Located-fragment}
use Rattle.krates_ids.proofs.SpecificationLemmas.{Answers-map, Answers-refused}
use Rattle.krates_ids.proofs.pkgspec.located.Goals as goal

pub returns-in_err-piece : goal.returns-in_err-piece
returns-in_err-piece c =
    Answers-refused spec_view _ (GivesChecked (IsLocated c.args.text.now)) _ _ c.from_residual.ensures.1
    (λ t. Located-refused _ t c.in_default.ensures)
    c.in_err-piece.ensures

pub returns-in_default : goal.returns-in_default
returns-in_default c = Answers-map _ _ _ _ (Located-alone _ _ c.in_default.ensures c.in_ok-piece.ensures) c.with_name.ensures

pub returns-then-is_empty : goal.returns-then-is_empty
returns-then-is_empty c = Located-empty _ _ _ c.in-Some.ensures (sym c.is_empty.ensures ∙ c.if-is_empty.true)

pub returns-in_err-piece-2 : goal.returns-in_err-piece-2
returns-in_err-piece-2 c =
    Answers-refused spec_view _ (GivesChecked (IsLocated c.args.text.now)) _ _ c.from_residual-in_err-piece-2.ensures.1
    (λ t. Located-bad_url _ _ _ t c.in-Some.ensures (sym c.is_empty.ensures ∙ c.if-is_empty.false))
    c.in_err-piece-2.ensures

pub returns : goal.returns
returns c =
    Answers-map _ _ _ _ (Located-fragment _ _ _ _ c.in-Some.ensures (sym c.is_empty.ensures ∙ c.if-is_empty.false) c.in_ok-piece-2.ensures) c.after_url.ensures
