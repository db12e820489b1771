use Rattle.std.proofs.lemmas.List.Elements.{Contains-append_left, Contains-append_right}
use Rattle.krates_rules.specs.Uses.{number_in}
use Rattle.krates_selection.specs.PartOfSteps.{HasNewNumber}
use Rattle.krates_selection.proofs.Places.{zip_append}
use Rattle.krates_selection.proofs.part_of_steps.renumbered.Goals as goal

pub new_number-requires : goal.new_number-requires
new_number-requires c k among = c.requires k (Contains-append_left (number_in c.args.uses.now.first) (number_in c.args.uses.now.second) k among)

pub new_number-requires-2 : goal.new_number-requires-2
new_number-requires-2 c k among = c.requires k (Contains-append_right (number_in c.args.uses.now.first) (number_in c.args.uses.now.second) k among)

pub returns : goal.returns
returns c =
    zip_append (HasNewNumber c.args.facts.now c.args.numbers.now) (number_in c.args.uses.now.first) (number_in c.args.uses.now.second) (number_in c.new_number.result) (number_in c.new_number-2.result) c.new_number.ensures c.new_number-2.ensures
