use Rattle.std.proofs.Common.{◌≡◌, Some, slice_get, sym}
use Rattle.krates_drawing.specs.declared.node.Node.TheVariants.{Krate, Feature}
use Rattle.krates_queries.proofs.NodeLemmas.{place_at, no_place, none_past}
use Rattle.krates_queries.proofs.numbers.features_at.Goals as goal

pub returns-in-Some-Krate : goal.returns-in-Some-Krate
returns-in-Some-Krate g c =
    let w = c.in-Some-Krate in
    let at : slice_get c.args.nodes.now c.args.number ≡ Some (Krate w.field-0-0 w.field-0-1 w.features w.field-0-3) = cc (w.ensures, w.field-0-is) in
    sym ((place_at c.args.nodes.now c.args.number w.field-0-0 w.field-0-1 w.features w.field-0-3 c.requires.first at).1)

pub returns-in-Some-Feature : goal.returns-in-Some-Feature
returns-in-Some-Feature g c =
    let w = c.in-Some-Feature in
    let at : slice_get c.args.nodes.now c.args.number ≡ Some (Feature w.field-0-0 w.field-0-1) = cc (w.ensures, w.field-0-is) in
    sym ((no_place c.args.nodes.now c.args.number w.field-0-0 w.field-0-1 c.requires.first at).1)

pub returns-in-None : goal.returns-in-None
returns-in-None g c = sym ((none_past c.args.nodes.now c.args.number c.requires.first (sym c.in-None.ensures)).1)
