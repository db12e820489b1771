use Rattle.std.proofs.Common.{refl, sym}
use Rattle.krates_rules.specs.Resolved.{id_of}
use Rattle.krates_build_tables.specs.RequestsFlags.{root_kind}
use Rattle.krates_build_tables.specs.Requests.{AsksDefault, model_asked, setting_asked}
use Rattle.krates_build_tables.proofs.Additions.{adds_one}
use Rattle.krates_build_tables.proofs.requests.push_default.Goals as goal

pub returns-in_ok-push : goal.returns-in_ok-push
returns-in_ok-push c =
    rw c.in_ok-push.ensures.items
    (adds_one (AsksDefault (model_asked c.args.asking.now) (setting_asked c.args.asking.now) (id_of c.args.id.now) (root_kind c.args.kind)) c.args.requested.now.items _
    (record { asks = c.asks_defaults.ensures.0 c.if-asks_defaults.true; has = c.has_feature.ensures.0 c.if-has_feature.true; is = refl })
    (λ v d. sym d.is))
