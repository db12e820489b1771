use Rattle.std.proofs.Common.{ap, ◌∙◌, filter}
use Rattle.krates_queries.specs.KrateNodes.{is_named}
use Rattle.krates_queries.proofs.KrateNodeLemmas.{all_fit}
use Rattle.krates_queries.proofs.kept.Krates.krates_by_name.Goals as goal

pub returns : goal.returns
returns g c =
    all_fit g.N.KrateDetails.version_of (filter (is_named g.N.KrateDetails.name_of c.args.name.now) c.krate_nodes.result)
    ∙ ap (filter (is_named g.N.KrateDetails.name_of c.args.name.now)) c.krate_nodes.ensures.all
