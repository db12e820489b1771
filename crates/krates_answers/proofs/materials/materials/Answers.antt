use Rattle.std.proofs.Common.{◌∙◌, List, ℕ, map, length, rules, sym, ap, subst}
use Rattle.std.proofs.IntoIterSteps.{takes, taken}
use Rattle.std.proofs.lemmas.Iterator.{YieldsList, YieldsList-from_map_by, YieldsList-from_zip}
use Rattle.std.proofs.lemmas.Iterator.Consumers.{YieldsList-at, YieldsList-from_first, map_from_collect}
use Rattle.std.proofs.lemmas.Result.{IfOk-weaker}
use Rattle.std.specs.Global.{Vec}
use Rattle.std.specs.Iterator.Adapters.{zip_second}
use Rattle.krates_cm.specs.declared.package.Package.{Package}
use Rattle.krates_queries.specs.KrateNodes.{Match, crates_of, match_view}
use Rattle.krates_queries.specs.Kept.{ids_of}
use Rattle.krates_answers.specs.DirectLinks.{AreLinks, Needs}
use Rattle.krates_answers.specs.Materials.{AreMaterials, material_view}
use Rattle.krates_answers.proofs.MaterialLemmas.{are_materials, component_of}
use Rattle.krates_answers.proofs.materials.materials.Goals as goal

pub returns : goal.returns
returns c =
    let krates = c.args.krates.now in
    let lists = c.into_lists.result.items in
    let crates = crates_of krates in
    let links = subst (AreLinks (length (ids_of krates)) (Needs krates)) (sym c.into_lists.ensures) c.in_ok-dependencies.ensures in
    let numbers = ap (map (λ (m : Match Package). m.number)) (sym c.krate_nodes.ensures.all) ∙ c.krate_nodes.ensures.numbers in
    let counted = ap length (sym c.krate_nodes.ensures.all) ∙ c.krate_nodes.ensures.matched in
    let are = are_materials krates lists numbers counted links in
    let first = YieldsList-at c.zip.ensures.first (YieldsList-from_first match_view (λ left. left) crates c.krate_nodes.ensures.all) in
    let taker = zip_second c.zip.result in
    let road : YieldsList takes (λ (v : Vec ℕ). v) taker taker.rest.items = record { runs = taken taker } in
    let second = subst (λ (vs : List (Vec ℕ)). YieldsList takes (λ (v : Vec ℕ). v) taker vs) c.zip.ensures.second.0 road in
    let all = map_from_collect c.collect.result c.collect.ensures.ran
    (YieldsList-from_map_by _ material_view component_of (YieldsList-at c.map.ensures.source (YieldsList-from_zip first second)) c.map.ensures.closure (λ x r q k. search rules)) in
    IfOk-weaker c.collect.result _ _ (λ found e. subst (AreMaterials krates) (sym e) are) all
