use Rattle.std.proofs.Common.{[], ◌∷◌, ◌++◌, ◌∙◌, Some, map, string_bytes, ap, refl}
use Rattle.std.proofs.lemmas.List.{map_push}
use Rattle.std.proofs.lemmas.Result.{err_from_is_err_and}
use Rattle.krates_ids.specs.PackageSpecification.{spec_view}
use Rattle.krates_cli.specs.Options.{options_view}
use Rattle.krates_cli.proofs.OptionsLemmas.{kind_read, target_read, spec_read, spec_refused, program_read, id_read, id_refused}
use Rattle.krates_cli.proofs.options.Options.read_value.Goals as goal

pub returns-in_ok-push-in-text-clause-read : goal.returns-in_ok-push-in-text-clause-read
returns-in_ok-push-in-text-clause-read c =
    kind_read _ _ (options_view c.args.self.now) _ _ c.in-text.is c.in_ok-dep_kind-in-text.ensures.read c.in_ok-push-in-text.ensures.items

pub returns-in_ok-push-in-text-2-clause-read : goal.returns-in_ok-push-in-text-2-clause-read
returns-in_ok-push-in-text-2-clause-read c =
    let pushed = ap (λ l. map string_bytes l) c.in_ok-push-in-text-2.ensures.items ∙ map_push string_bytes c.args.self.now.targets.items c.in_ok-from_str-in-text-2.field-0 in
    target_read _ _ (options_view c.args.self.now) _ c.in-text-2.is (pushed ∙ ap (λ t. map string_bytes c.args.self.now.targets.items ++ t ∷ []) c.in_ok-from_str-in-text-2.ensures.ok)

pub returns-in_ok-push-in-text-3-clause-read : goal.returns-in_ok-push-in-text-3-clause-read
returns-in_ok-push-in-text-3-clause-read c =
    spec_read _ _ (options_view c.args.self.now) (spec_view c.in_ok-pkg_spec-in-text-3.field-0) _ c.in-text-3.is c.in_ok-pkg_spec-in-text-3.ensures.read
    (ap (λ l. map spec_view l) c.in_ok-push-in-text-3.ensures.items ∙ map_push spec_view c.args.self.now.exclusions.items c.in_ok-pkg_spec-in-text-3.field-0)

pub returns-in_err-pkg_spec-in-text-3-clause-refused : goal.returns-in_err-pkg_spec-in-text-3-clause-refused
returns-in_err-pkg_spec-in-text-3-clause-refused c =
    let p = err_from_is_err_and c.from_residual-in_err-pkg_spec-in-text-3.result c.from_residual-in_err-pkg_spec-in-text-3.ensures.1 in
    rw p.1 (spec_refused c.args.option.now c.args.value.now c.in_err-pkg_spec-in-text-3.field-0.0 p.0 c.in-text-3.is c.in_err-pkg_spec-in-text-3.ensures.refused p.2)

pub returns-in_ok-from_str-in-text-4-clause-read : goal.returns-in_ok-from_str-in-text-4-clause-read
returns-in_ok-from_str-in-text-4-clause-read c =
    program_read _ _ (options_view c.args.self.now) _ c.in-text-4.is (ap Some c.in_ok-from_str-in-text-4.ensures.ok)

pub returns-in_ok-kid_of-in-text-5-clause-read : goal.returns-in_ok-kid_of-in-text-5-clause-read
returns-in_ok-kid_of-in-text-5-clause-read c =
    id_read _ _ (options_view c.args.self.now) _ _ c.in-text-5.is c.in_ok-kid_of-in-text-5.ensures.read refl

pub returns-in_err-kid_of-in-text-5-clause-refused : goal.returns-in_err-kid_of-in-text-5-clause-refused
returns-in_err-kid_of-in-text-5-clause-refused c =
    let p = err_from_is_err_and c.from_residual-in_err-kid_of-in-text-5.result c.from_residual-in_err-kid_of-in-text-5.ensures.1 in
    rw p.1 (id_refused c.args.option.now c.args.value.now c.in_err-kid_of-in-text-5.field-0.0 p.0 c.in-text-5.is c.in_err-kid_of-in-text-5.ensures.refused p.2)
