use Rattle.std.proofs.Common.{sym, ◌∙◌}
use Rattle.krates_cli.proofs.options.pkg_spec.Goals as goal

pub returns-in-Err-InvalidPkgSpec-clause-refused : goal.returns-in-Err-InvalidPkgSpec-clause-refused
returns-in-Err-InvalidPkgSpec-clause-refused c spec is = let same = sym c.in-Err-InvalidPkgSpec.field-0-is ∙ c.in-Err-InvalidPkgSpec.ensures.only_memory spec is in cc
