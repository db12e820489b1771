use Rattle.krates_words.proofs.stated.StatedSetting.agrees.Goals as goal

pub returns : goal.returns
returns c = rw (← c.self.view_is) c.self.invariant
