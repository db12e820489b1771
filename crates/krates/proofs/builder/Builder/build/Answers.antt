use Rattle.std.proofs.lemmas.Result.{err_from_is_err_and}
use Rattle.krates.proofs.CargoLemmas.{built_written, named_written, none_named, refused_written}
use Rattle.krates.proofs.builder.Builder.build.Goals as goal

pub returns-clause-built : goal.returns-clause-built
returns-clause-built g c =
    built_written _ c.in_ok-metadata.metadata c.build_with_metadata.result c.in_ok-metadata.ensures.answer c.build_with_metadata.ensures.admitted c.build_with_metadata.ensures.built

pub returns-clause-refused : goal.returns-clause-refused
returns-clause-refused g c =
    refused_written _ _ c.in_ok-metadata.metadata _ c.build_with_metadata.result c.in_ok-metadata.ensures.answer c.build_with_metadata.ensures.refused

pub returns-in_err-metadata-clause-named : goal.returns-in_err-metadata-clause-named
returns-in_err-metadata-clause-named g c =
    let p = err_from_is_err_and c.from_residual.result c.from_residual.ensures.1 in
    rw p.1 (none_named c.in_err-metadata.field-0.0 p.0 p.2)

pub returns-clause-named : goal.returns-clause-named
returns-clause-named g c = named_written c.in_ok-metadata.metadata c.build_with_metadata.result c.in_ok-metadata.ensures.answer c.build_with_metadata.ensures.named
