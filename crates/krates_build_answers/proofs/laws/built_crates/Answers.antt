use Rattle.krates_build_answers.proofs.BuiltLaws.{are_built, built_at}
use Rattle.krates_build_answers.proofs.laws.built_crates.Goals as goal

pub returns-clause-exact : goal.returns-clause-exact
returns-clause-exact c r s ids ms t tables = built_at c.meaning.ensures.exact c.meaning.ensures.sound c.meaning.ensures.complete r s ids ms t tables

pub returns-clause-whole : goal.returns-clause-whole
returns-clause-whole c r s ids ms t tables = are_built c.meaning.ensures.exact c.meaning.ensures.sound c.meaning.ensures.complete r s ids ms t tables
