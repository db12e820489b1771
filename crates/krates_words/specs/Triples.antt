-- Which texts can be the triple of a target.
use Rattle.std.specs.Prelude.{Bool, true, not, ◌||◌, ◌==◌, [], ◌∷◌}
use Rattle.krates_cm.specs.Document.{Text}

-- Rustc takes `@` for a file that has its words, and `-` for an option: a triple begins with neither. 64 is `@`, and 45 is `-`.
abbrev pub is_triple : Text → Bool
is_triple [] = true
is_triple (first ∷ rest) = not (first == 64 || first == 45)
