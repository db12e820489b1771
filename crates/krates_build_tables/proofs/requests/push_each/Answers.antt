use Rattle.std.proofs.lemmas.Result.{on_ok_weaker}
use Rattle.krates_cm.specs.Document.{package_view}
use Rattle.krates_rules.specs.Resolved.{id_of}
use Rattle.krates_build_tables.specs.RequestsFlags.{root_kind}
use Rattle.krates_build_tables.specs.Requests.{AsksEach, HasSimple, model_asked, setting_asked}
use Rattle.krates_build_tables.proofs.Additions.{adds_none, adds_same}
use Rattle.krates_build_tables.proofs.FeatureKeys.{each_asked, each_here}
use Rattle.krates_build_tables.proofs.requests.push_each.Goals as goal

pub returns-in-Some : goal.returns-in-Some
returns-in-Some c =
    let r = model_asked c.args.asking.now in
    let s = setting_asked c.args.asking.now in
    let i = id_of c.args.id.now in
    let kind = root_kind c.args.kind in
    let p = package_view c.in-Some.pkg.now in
    let asks = c.asks_each.ensures.0 c.if-not-asks_each.false in
    on_ok_weaker c.push_features.result
    (adds_same (HasSimple p) (AsksEach r s i kind) c.args.requested.now.items c.push_features.new.requested.items (λ v h. each_asked r s i kind p v c.in-Some.ensures asks h) (λ v e. each_here r s i kind p v c.agrees.ensures.distinct c.in-Some.ensures e))
    c.push_features.ensures

pub returns-in-None : goal.returns-in-None
returns-in-None c =
    adds_none (AsksEach (model_asked c.args.asking.now) (setting_asked c.args.asking.now) (id_of c.args.id.now) (root_kind c.args.kind)) c.args.requested.now.items (λ v e. c.in-None.ensures e.has.pkg e.has.has_package)
