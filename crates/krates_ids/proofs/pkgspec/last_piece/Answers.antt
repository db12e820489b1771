use Rattle.std.specs.Prelude.{codes}
use Rattle.std.proofs.Common.{◌∙◌, sym, true, false}
use Rattle.std.proofs.lemmas.Str.Pattern.{ends_text}
use Rattle.krates_ids.proofs.CheckedLemmas.{Url-slash, Url-no_scheme, Url-scheme}
use Rattle.krates_ids.proofs.SpecificationLemmas.{HasScheme-slash}
use Rattle.krates_ids.proofs.pkgspec.last_piece.Goals as goal

pub returns-then-ends_with : goal.returns-then-ends_with
returns-then-ends_with c =
    Url-slash _ (sym (ends_text _ (codes "/") c.args.url.now c.ends_with.ensures.cases) ∙ c.if-ends_with.true)

pub returns-then-not-has_scheme : goal.returns-then-not-has_scheme
returns-then-not-has_scheme c =
    Url-no_scheme _ (sym (ends_text _ (codes "/") c.args.url.now c.ends_with.ensures.cases) ∙ c.if-ends_with.false) (rw c.if-not-has_scheme.true at c.has_scheme.ensures)

pub unreachable-requires : goal.unreachable-requires
unreachable-requires c =
    HasScheme-slash _ c.in_default.ensures (rw c.if-not-has_scheme.false at c.has_scheme.ensures)

pub returns-then-ends_with-2 : goal.returns-then-ends_with-2
returns-then-ends_with-2 c =
    Url-scheme _ _ _ true
    (sym (ends_text _ (codes "/") c.args.url.now c.ends_with.ensures.cases) ∙ c.if-ends_with.false)
    (rw c.if-not-has_scheme.false at c.has_scheme.ensures)
    c.in-Some.ensures
    (sym (ends_text _ (codes ":/") c.in-Some.before.now c.ends_with-2.ensures.cases) ∙ c.if-ends_with-2.true)

pub returns : goal.returns
returns c =
    Url-scheme _ _ _ false
    (sym (ends_text _ (codes "/") c.args.url.now c.ends_with.ensures.cases) ∙ c.if-ends_with.false)
    (rw c.if-not-has_scheme.false at c.has_scheme.ensures)
    c.in-Some.ensures
    (sym (ends_text _ (codes ":/") c.in-Some.before.now c.ends_with-2.ensures.cases) ∙ c.if-ends_with-2.false)
