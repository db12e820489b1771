use Rattle.std.proofs.Common.{sym, ◌∙◌}
use Rattle.krates_drawing.proofs.CratePlaces.{own_number}
use Rattle.krates_drawing.proofs.numbers.NumberedOutline.crate_number.Goals as goal

pub returns : goal.returns
returns c = c.new.ensures ∙ sym (own_number c.args.self.now.outline.now.krates.items c.args.krate c.args.self.now.outline.now.ordered.krates c.requires)
