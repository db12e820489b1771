-- How many edges are drawn of an outline at most.
use Rattle.std.specs.Prelude.{ℕ, ◌+◌, length, max}
use Rattle.std.specs.List.{sum_by}
use Rattle.krates_drawing.specs.Outline.{EdgeRow, FeatureRow, Meaning, OwnFeature, Crates, FeatureOf, Outline}

-- a kept edge is drawn once, or once for each feature that it gives
abbrev pub times_drawn : EdgeRow → ℕ
times_drawn l = max (length l.given) 1

-- a reference names a feature of its own crate, or so many crates or features of them
abbrev pub times_named : Meaning → ℕ
times_named (OwnFeature name) = 1
times_named (Crates ids) = length ids
times_named (FeatureOf ids name) = length ids

-- a feature leads to its crate, and to what its references name
abbrev pub times_leading : FeatureRow → ℕ
times_leading n = 1 + sum_by times_named n.meanings

-- each kept edge as often as it is drawn, each toggled feature once, and each feature as often as it leads somewhere
abbrev pub most_edges : Outline → ℕ
most_edges t = sum_by times_drawn t.links + (length t.toggled + sum_by times_leading t.features)
