use Rattle.std.proofs.Common.{◌≡◌, ◌++◌, map, drop, filter}
use Rattle.krates_cm.specs.Document.{node_view, text_view}
use Rattle.krates_text.specs.Texts.{has_text}
use Rattle.krates_drawing.proofs.gather.given_of.Given as goal

abbrev pub invariant-loop-name : goal.invariant-loop-name
invariant-loop-name l = map text_view l.given.items ++ filter (has_text (node_view l.child.node.now).features) (map text_view (drop l.name-index l.dependency.features.items))
    ≡ filter (has_text (node_view l.child.node.now).features) (map text_view l.dependency.features.items)
