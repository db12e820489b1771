-- How much work an outline was, which a build counts while it selects.
use Rattle.std.specs.Prelude.{ℕ, length, map, max}
use Rattle.std.specs.List.{sum}
use Rattle.krates_drawing.specs.Outline.{Meaning, OwnFeature, Crates, FeatureOf, Outline}
use Rattle.krates_selection.specs.Selection.{counted}
use Rattle.krates_selection.specs.declared.work.Work.{Work}

-- how often a reference counts: once for each crate that its dependency's name means, once where it means none, and once where it is a
-- feature of its own crate
abbrev pub times : Meaning → ℕ
times (OwnFeature name) = 1
times (Crates ids) = max (length ids) 1
times (FeatureOf ids name) = max (length ids) 1

-- each crate is counted once, each feature, and each of its references as often as it counts
abbrev pub work_of : Outline → Work
work_of t = record {
  krates = counted (length t.krates);
  features = counted (length t.features);
  references = counted (sum (map (λ n. sum (map times n.meanings)) t.features));
}
