use Rattle.std.proofs.Common.{Err, ap}
use Rattle.krates_cli.specs.Options.{options_view}
use Rattle.krates_cli.proofs.CommandLineLemmas.{front_or_nothing, refused_words}
use Rattle.krates_cli.proofs.ListedLemmas.{where_program}
use Rattle.krates_cli.proofs.command_line.program.Goals as goal

pub returns-in-Ok-list-clause-by_program : goal.returns-in-Ok-list-clause-by_program
returns-in-Ok-list-clause-by_program g c =
    where_program c.one_command_line.ensures _ (options_view c.in-Ok.options) _ c.in-Ok.ensures.read c.in-Ok-list.ensures.by_program

pub returns-clause-by_program : goal.returns-clause-by_program
returns-clause-by_program g c =
    where_program c.one_command_line.ensures _ (options_view c.in-Ok.options) _ c.in-Ok.ensures.read c.in-Err-list.ensures.by_program

pub returns-in-Err-clause-refused : goal.returns-in-Err-clause-refused
returns-in-Err-clause-refused g c =
    refused_words g.E.Write.contents _ _ c.args.input.now c.args.output.now c.args.errors.now c.refuse_options.new.errors c.in-Err.error c.refuse_options.result c.refuse_options.ensures.unknown c.refuse_options.ensures.no_memory

pub returns-clause-beginning : goal.returns-clause-beginning
returns-clause-beginning g c one =
    front_or_nothing g.W.Write.contents _ _ (options_view c.in-Ok.options) c.args.input.now c.list.new.input c.args.output.now c.list.new.output c.in-Err-list.error c.in-Ok.ensures.read c.in-Err-list.ensures.ends
    (λ e. c.in-Err-list.ensures.beginning (ap Err e))
