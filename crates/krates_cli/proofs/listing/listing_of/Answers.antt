use Rattle.std.proofs.Common.{string_bytes, ◌∙◌}
use Rattle.std.proofs.lemmas.Result.{err_from_is_err_and}
use Rattle.krates_cli.specs.Options.{meant_request}
use Rattle.krates_cli.proofs.ListingLemmas.{asked_for, built_as_given, explained_answer, listed, none_asked_for, refused_as_given, unbuilt, unexplained_answer}
use Rattle.krates_cli.proofs.listing.listing_of.Goals as goal

pub returns-in_err-krates-clause-refused : goal.returns-in_err-krates-clause-refused
returns-in_err-krates-clause-refused c =
    let m = c.args.metadata in
    let cause = c.in_err-krates.field-0.0 in
    let p = err_from_is_err_and c.from_residual-in_err-krates.result c.from_residual-in_err-krates.ensures.1 in
    let b = c.under-builder.result in
    let unindexed = rw c.under-builder.ensures.index at c.in_err-krates.ensures.refused in
    let reason = rw (c.under-builder.ensures.setting ∙ c.in_ok-setting.ensures) at (refused_as_given _ m b.setting cause unindexed) in
    rw p.1 (unbuilt (meant_request c.args.options.now) m cause p.0 reason p.2)

pub returns-in-Some-clause-listed : goal.returns-in-Some-clause-listed
returns-in-Some-clause-listed c =
    let b = c.under-builder.result in
    let e = c.under-builder.ensures in
    let a = meant_request c.args.options.now in
    let built = built_as_given _ b.index b.setting a.setting c.args.metadata _ _ _ c.in_ok-krates.krates c.new-reported.result c.build_with_metadata.new.filter e.index (e.setting ∙ c.in_ok-setting.ensures) c.in_ok-krates.ensures.built in
    asked_for a c.args.metadata c.in-Some.krate c.why_kept.result c.in-Some.is
    (explained_answer a.setting c.args.metadata _ c.in_ok-krates.krates c.new-reported.result c.build_with_metadata.new.filter c.in-Some.krate c.why_kept.result c.in_ok-krates.ensures.admitted built c.why_kept.ensures.explained)

pub returns-in-Some-clause-refused : goal.returns-in-Some-clause-refused
returns-in-Some-clause-refused c =
    let b = c.under-builder.result in
    let e = c.under-builder.ensures in
    let a = meant_request c.args.options.now in
    let built = built_as_given _ b.index b.setting a.setting c.args.metadata _ _ _ c.in_ok-krates.krates c.new-reported.result c.build_with_metadata.new.filter e.index (e.setting ∙ c.in_ok-setting.ensures) c.in_ok-krates.ensures.built in
    unexplained_answer a c.args.metadata _ c.in_ok-krates.krates c.new-reported.result c.build_with_metadata.new.filter c.in-Some.krate c.why_kept.result c.in_ok-krates.ensures.admitted built c.in-Some.is c.why_kept.ensures.refused

pub returns-clause-listed : goal.returns-clause-listed
returns-clause-listed c =
    let b = c.under-builder.result in
    let e = c.under-builder.ensures in
    let a = meant_request c.args.options.now in
    let built = built_as_given _ b.index b.setting a.setting c.args.metadata _ _ _ c.in_ok-krates.krates c.new-reported.result c.build_with_metadata.new.filter e.index (e.setting ∙ c.in_ok-setting.ensures) c.in_ok-krates.ensures.built in
    none_asked_for a c.args.metadata (string_bytes c.in_ok-all_lines.field-0) c.in_default.is
    (listed a.setting c.args.metadata _ c.in_ok-krates.krates c.new-reported.result c.build_with_metadata.new.filter (string_bytes c.in_ok-all_lines.field-0) c.as_str.result.now c.in_ok-krates.ensures.admitted built
    c.new-reported.ensures.none c.in_ok-reported.ensures.0 (c.as_str.ensures.value ∙ c.in_ok-reported.ensures.1) c.in_ok-all_lines.ensures)
