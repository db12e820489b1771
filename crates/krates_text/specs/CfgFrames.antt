-- The forms that are open, without where they lie in memory.
use Rattle.std.specs.Prelude.{List, [], ◌∷◌}
use Rattle.krates_text.specs.declared.cfg.frame.Frame as declared
use Rattle.krates_text.specs.declared.cfg.frame.Frame.TheVariants as program
use Rattle.krates_text.specs.CfgGrammar.{Frame, in_not, in_all, in_any}
use Rattle.krates_text.specs.CfgView.{trees_of}

abbrev pub frame_of : declared.Frame → Frame
frame_of program.Not = in_not
frame_of (program.All predicates) = in_all (trees_of predicates.items)
frame_of (program.Any predicates) = in_any (trees_of predicates.items)

-- the innermost form first
abbrev pub stack_on : List Frame → List declared.Frame → List Frame
stack_on outer [] = outer
stack_on outer (f ∷ frames) = stack_on (frame_of f ∷ outer) frames

unfoldable pub stack : List declared.Frame → List Frame
stack frames = stack_on [] frames
