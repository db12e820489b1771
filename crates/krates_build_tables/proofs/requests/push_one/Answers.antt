use Rattle.std.proofs.Common.{Option, subst}
use Rattle.krates_rules.specs.Resolved.{id_of}
use Rattle.krates_build_tables.specs.References.{reference_view}
use Rattle.krates_build_tables.specs.RequestsFlags.{root_kind}
use Rattle.krates_build_tables.specs.RequestsTaken.{TellsTaken}
use Rattle.krates_build_tables.specs.Requests.{model_asked, setting_asked}
use Rattle.krates_build_tables.specs.declared.reference.FeatureReference.{FeatureReference}
use Rattle.krates_build_tables.proofs.Additions.{taken_put}
use Rattle.krates_build_tables.proofs.requests.push_one.Goals as goal

pub returns-in_ok-push-in-Some : goal.returns-in_ok-push-in-Some
returns-in_ok-push-in-Some c =
    let r = model_asked c.args.asking.now in
    let s = setting_asked c.args.asking.now in
    let i = id_of c.args.id.now in
    let kind = root_kind c.args.kind in
    let g = reference_view c.args.given.now in
    let tells = subst (λ (o : Option FeatureReference). TellsTaken r s i kind g o) c.in-Some.is (c.taken.ensures s c.requires.flags) in
    rw c.in_ok-push-in-Some.ensures.items (taken_put r s i kind g c.args.requested.now.items c.in-Some.reference tells)
