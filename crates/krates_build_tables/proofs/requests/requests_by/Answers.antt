use Rattle.std.proofs.Common.{List, arith, subst}
use Rattle.std.specs.List.{AllZip}
use Rattle.krates_rules.specs.Facts.{Id}
use Rattle.krates_rules.proofs.Zips.{zip_next, zip_all}
use Rattle.krates_build_tables.specs.RequestsFlags.{flagged}
use Rattle.krates_build_tables.specs.Requests.{RequestSays, model_asked, setting_asked}
use Rattle.krates_build_tables.proofs.SeenFlags.{contains_item}
use Rattle.krates_build_tables.proofs.requests.requests_by.Goals as goal

pub request_of-requires-clause-krate : goal.request_of-requires-clause-krate
request_of-requires-clause-krate c =
    let x = c.krate-item.result in
    c.requires.flags.each x (contains_item c.args.asking.now.flags.now c.loop-krate.krate-index x (omega arith) c.krate-item.is)

pub loop-krate-preserved : goal.loop-krate-preserved
loop-krate-preserved c =
    let l = c.loop-krate in
    rw c.in_ok-push.ensures.items
    (zip_next (RequestSays (model_asked c.args.asking.now) (setting_asked c.args.asking.now)) flagged c.args.asking.now.flags.now l.krate-index c.krate-item.result l.requests.items c.in_ok-request_of.field-0 (omega arith) c.krate-item.is
    c.in_ok-request_of.ensures l.invariant)

pub returns : goal.returns
returns c =
    let says = RequestSays (model_asked c.args.asking.now) (setting_asked c.args.asking.now) in
    let requests = c.loop-krate.requests.items in
    let all = zip_all says flagged c.args.asking.now.flags.now c.loop-krate.krate-index requests (omega arith) c.loop-krate.invariant in
    subst (λ (ids : List Id). AllZip says ids requests) c.requires.flags.ids_are all
