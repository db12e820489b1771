use Rattle.std.proofs.Common.{rules, codes, map, string_bytes, ap}
use Rattle.std.proofs.lemmas.Slice.Eq.{bytes_eq-Decides}
use Rattle.krates_cli.specs.Options.{options_view}
use Rattle.krates_cli.proofs.OptionsLemmas.{flag_read, naming_read, value_read}
use Rattle.krates_cli.proofs.options.Options.read_option.Goals as goal

pub returns-then-eq-clause-read : goal.returns-then-eq-clause-read
returns-then-eq-clause-read c =
    flag_read c.args.option.now _ (options_view c.args.self.now) ((bytes_eq-Decides c.args.option.now (codes "--workspace")).0 (search rules))

pub returns-clause-read : goal.returns-clause-read
returns-clause-read c =
    value_read c.args.option.now _ _ _ _ _ (ap (λ l. map string_bytes l) c.in-Some.ensures.cases.0) (search rules)

pub returns-then-eq-2-clause-read : goal.returns-then-eq-2-clause-read
returns-then-eq-2-clause-read c =
    naming_read c.args.option.now _ (options_view c.args.self.now) ((bytes_eq-Decides c.args.option.now (codes "--all-named")).0 (search rules))
