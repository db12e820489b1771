use Rattle.krates_words.proofs.choice.Choice.stated.Goals as goal

-- the choice means the setting, and has the words
pub invariant_of-result : goal.invariant_of-result
invariant_of-result c = (c.args.self.now, record { setting = c.in_ok-setting.ensures; words = c.in_ok-words.ensures })
