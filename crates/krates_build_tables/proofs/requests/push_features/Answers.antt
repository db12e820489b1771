use Rattle.std.proofs.Common.{◌≡◌, map, rules}
use Rattle.std.proofs.lemmas.Map.Iter.{iter_end}
use Rattle.krates_build_tables.proofs.FeatureKeys.{keys_added}
use Rattle.krates_build_tables.proofs.requests.push_features.Goals as goal

pub returns : goal.returns
returns c =
    let all : map (λ k. k.now) c.loop-name.yielded ≡ map (λ e. e.0) c.args.pkg.now.features.entries = search (rules, iter_end) in
    keys_added c.args.pkg.now c.args.requested.now.items c.loop-name.requested.items c.loop-name.yielded c.loop-name.invariant all
