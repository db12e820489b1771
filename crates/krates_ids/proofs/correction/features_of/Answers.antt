use Rattle.std.proofs.Common.{◌≡◌, rules, tests}
use Rattle.semver.specs.Identifiers.{parts_of}
use Rattle.krates_ids.proofs.IndexLemmas.{first_equal, none_equal}
use Rattle.krates_ids.proofs.correction.features_of.Goals as goal

pub returns-then-is_same_version : goal.returns-then-is_same_version
returns-then-is_same_version c =
    let i = c.loop-indexed.indexed-index in
    let x = c.indexed-item.result in
    let same : parts_of x.version ≡ parts_of c.args.version.now = c.is_same_version.ensures.0 (search (rules, tests)) in
    (i, first_equal c.args.versions.now (parts_of c.args.version.now) i x (search rules) c.indexed-item.is same c.loop-indexed.invariant)

pub returns : goal.returns
returns c =
    none_equal c.args.versions.now (parts_of c.args.version.now) (λ k d from to. c.loop-indexed.invariant k d from (search rules))
