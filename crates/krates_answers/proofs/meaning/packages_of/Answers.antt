use Rattle.std.proofs.Common.{◌∙◌, Bor, rules, sym}
use Rattle.std.proofs.lemmas.Iterator.{YieldsList-from_map_by, YieldsList-from_slice}
use Rattle.std.proofs.lemmas.Iterator.Consumers.{YieldsList-at, map_from_collect}
use Rattle.std.proofs.lemmas.Result.{IfOk-weaker}
use Rattle.std.proofs.lemmas.Simd.{map-map}
use Rattle.krates_cm.specs.declared.package.Package.{Package}
use Rattle.krates_queries.specs.KrateNodes.{Match, match_view}
use Rattle.krates_queries.specs.declared.queries.krate_nodes.KrateMatch.{KrateMatch}
use Rattle.krates_answers.proofs.meaning.packages_of.Goals as goal

pub returns : goal.returns
returns c =
    let kept = c.args.crates.now in
    let all = map_from_collect c.collect.result c.collect.ensures.ran
    (YieldsList-from_map_by _ (λ (pkg : Bor Package). pkg.now) (λ (m : KrateMatch Package). m.krate.now) (YieldsList-at c.map.ensures.source (YieldsList-from_slice kept c.iter.ensures.rest)) c.map.ensures.closure (λ x r q k. search rules)) in
    IfOk-weaker c.collect.result _ _ (λ packages e. e ∙ sym (map-map (λ (m : Match Package). m.krate) match_view kept)) all
