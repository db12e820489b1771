use Rattle.krates_ids.specs.PackageSpecification.{Gives, spec_view}
use Rattle.krates_ids.proofs.SpecificationLemmas.{Answers-ok, Answers-err}
use Rattle.krates_ids.proofs.SpecificationLawLemmas.{Answers-spec, Answers-fault}
use Rattle.krates_ids.proofs.pkgspec.PkgSpec.from_str.Goals as goal

pub returns-clause-read : goal.returns-clause-read
returns-clause-read c =
    Answers-ok spec_view (Gives c.args.text.now) c.read.result c.read.ensures

pub returns-clause-refused : goal.returns-clause-refused
returns-clause-refused c =
    Answers-err spec_view (Gives c.args.text.now) c.read.result c.read.ensures

pub returns-clause-only_memory : goal.returns-clause-only_memory
returns-clause-only_memory c =
    Answers-spec c.args.text.now c.read.result c.read.ensures

pub returns-clause-not_read : goal.returns-clause-not_read
returns-clause-not_read c =
    Answers-fault c.args.text.now c.read.result c.read.ensures
