use Rattle.std.proofs.Common.{length, sym, ap, ◌∙◌}
use Rattle.std.proofs.lemmas.List.{length-map}
use Rattle.krates_cm.specs.Document.{node_view}
use Rattle.krates_graph.specs.Agenda.{PutNumbers}
use Rattle.krates_resolve.proofs.Saturated.{sound_start}
use Rattle.krates_resolve.proofs.saturation.nothing_found.Goals as goal

pub returns-clause-sound : goal.returns-clause-sound
returns-clause-sound c =
    let look = c.args.context.now.document.now in
    let nodes = look.resolve.now.nodes in
    let krates = c.in_ok-krates.ensures in
    let features = c.in_ok-features.ensures in
    let krates_size = ap (λ (a : PutNumbers). a.size) krates ∙ ap length c.nodes.ensures ∙ sym (length-map nodes.items node_view) in
    let features_size = ap (λ (a : PutNumbers). a.size) features ∙ c.feature_count.ensures in
    sound_start c.args.context.now _ c.in_ok-excluded.ensures krates_size features_size c.in_ok-links.ensures.has c.in_ok-links.ensures.new
    (record { krates = ap (λ (a : PutNumbers). a.put) krates; features = ap (λ (a : PutNumbers). a.put) features; edges = c.new-3.ensures.items; toggled = c.new-4.ensures.items; trace = c.new-5.ensures.items; krate_steps = c.new-6.ensures.items; feature_steps = c.new-7.ensures.items })

pub returns-clause-krates : goal.returns-clause-krates
returns-clause-krates c = ap (λ (a : PutNumbers). a.taken) c.in_ok-krates.ensures

pub returns-clause-features : goal.returns-clause-features
returns-clause-features c = ap (λ (a : PutNumbers). a.taken) c.in_ok-features.ensures
