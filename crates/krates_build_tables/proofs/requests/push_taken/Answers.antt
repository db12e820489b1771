use Rattle.std.proofs.Common.{List, map, arith, subst}
use Rattle.std.proofs.lemmas.List.{take_all}
use Rattle.krates_rules.specs.Resolved.{id_of}
use Rattle.krates_build_tables.specs.References.{reference_view}
use Rattle.krates_build_tables.specs.RequestsFlags.{root_kind}
use Rattle.krates_build_tables.specs.Requests.{Adds, model_asked, setting_asked}
use Rattle.krates_build_tables.specs.declared.reference.FeatureReference.{FeatureReference}
use Rattle.krates_build_tables.proofs.Additions.{TakenOf, taken_none, taken_next, taken_all}
use Rattle.krates_build_tables.proofs.requests.push_taken.Goals as goal

pub loop-given-init : goal.loop-given-init
loop-given-init c = taken_none (model_asked c.args.asking.now) (setting_asked c.args.asking.now) (id_of c.args.id.now) (root_kind c.args.kind) c.args.requested.now.items

pub loop-given-preserved : goal.loop-given-preserved
loop-given-preserved c =
    taken_next (model_asked c.args.asking.now) (setting_asked c.args.asking.now) (id_of c.args.id.now) (root_kind c.args.kind) c.args.asking.now.given.now c.loop-given.given-index _ c.args.requested.now.items c.loop-given.requested.items
    c.push_one.new.requested.items (omega arith) c.loop-given.invariant c.in_ok-push_one.ensures

pub returns : goal.returns
returns c =
    let r = model_asked c.args.asking.now in
    let s = setting_asked c.args.asking.now in
    let i = id_of c.args.id.now in
    let kind = root_kind c.args.kind in
    let items = c.args.asking.now.given.now in
    let all = subst (λ (gs : List FeatureReference). Adds (TakenOf r s i kind (map reference_view gs)) c.args.requested.now.items c.loop-given.requested.items) (take_all c.loop-given.given-index items (omega arith)) c.loop-given.invariant in
    taken_all r s i kind (map reference_view items) c.args.requested.now.items c.loop-given.requested.items c.requires.given all
