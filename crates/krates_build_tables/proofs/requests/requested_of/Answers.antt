use Rattle.krates_rules.specs.Resolved.{id_of}
use Rattle.krates_build_tables.specs.RequestsFlags.{root_kind}
use Rattle.krates_build_tables.specs.Requests.{model_asked, setting_asked}
use Rattle.krates_build_tables.proofs.Additions.{adds_requested}
use Rattle.krates_build_tables.proofs.requests.requested_of.Goals as goal

pub returns : goal.returns
returns c =
    adds_requested (model_asked c.args.asking.now) (setting_asked c.args.asking.now) (id_of c.args.id.now) (root_kind c.args.kind) c.new-requested.result.items c.push_default.new.requested.items c.push_each.new.requested.items
    c.push_taken.new.requested.items c.new-requested.ensures.items c.in_ok-push_default.ensures c.in_ok-push_each.ensures c.in_ok-push_taken.ensures
