use Rattle.std.proofs.Common.{◌≡◌, Some, slice_get, arith}
use Rattle.std.proofs.lemmas.Option.{slice_get-get_or}
use Rattle.krates_ids.specs.Identity.{empty_identity}
use Rattle.krates_drawing.specs.Node.{crate_ids}
use Rattle.krates_drawing.specs.declared.node.Node.TheVariants.{Krate, Feature}
use Rattle.krates_queries.proofs.NodeLemmas.{crates_within, no_place, value_at}
use Rattle.krates_queries.proofs.numbers.value_at.Goals as goal

pub standing_at-requires : goal.standing_at-requires
standing_at-requires g c = let few = crates_within c.args.nodes.now in omega (arith, few, c.requires.stands)

pub unreachable-requires : goal.unreachable-requires
unreachable-requires g c =
    let nodes = c.args.nodes.now in
    let at : slice_get nodes c.args.number ≡ Some (Feature c.in-Feature.krate_index c.in-Feature.name) = cc (c.standing_at.ensures, c.in-Feature.is) in
    let none = (no_place nodes c.args.number c.in-Feature.krate_index c.in-Feature.name c.requires.first.first at).0 in
    let some = slice_get-get_or (crate_ids nodes) c.args.number empty_identity c.requires.stands in
    cc (none, some)

pub returns : goal.returns
returns g c =
    let nodes = c.args.nodes.now in
    let w = c.in-Krate in
    let at : slice_get nodes c.args.number ≡ Some (Krate w.id w.krate w.features w.dep_mapping) = cc (c.standing_at.ensures, w.is) in
    value_at nodes c.args.number w.id w.krate w.features w.dep_mapping c.requires.first.first at
