use Rattle.std.proofs.Common.{◌≡◌, length, sym, ◌∙◌}
use Rattle.std.specs.Vec.{vec_len}
use Rattle.krates_questions.proofs.ListedFeatures.{listed_long}
use Rattle.krates_questions.proofs.questions.Document.feature_count.Goals as goal

pub returns : goal.returns
returns c = rw (← c.self.view_is) (
    let vec = c.self.inside.lookup.features.listed in
    let here : vec_len vec ≡ length vec.items = vec.ok.0 in
    c.len.ensures ∙ here ∙ sym (listed_long c.self.inside.lookup c.self.invariant))
