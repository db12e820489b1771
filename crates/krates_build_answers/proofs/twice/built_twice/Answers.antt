use Rattle.std.proofs.Common.{[], List, ℕ, subst}
use Rattle.std.proofs.lemmas.Map.Lookups.{exact_unsigned}
use Rattle.krates_build_answers.proofs.TwiceBuilt.{all_twice}
use Rattle.krates_build_answers.specs.Adding.{Adds, IsOfSome}
use Rattle.krates_build_answers.specs.BuiltTwice.{IsThisTwice}
use Rattle.krates_build_answers.proofs.twice.built_twice.Goals as goal

pub returns-clause-exact : goal.returns-clause-exact
returns-clause-exact c =
    let t = c.args.units.now.derived in
    let all = c.in_ok-all.all.items in
    all_twice t c.in_ok-built.built c.in_ok-krates.krates.items all c.in_ok-twice.twice.items c.in_ok-built.ensures c.in_ok-krates.ensures.exact
    (subst (λ (ks : List ℕ). Adds (IsOfSome (IsThisTwice t) ks) [] all) c.deref.ensures.value c.in_ok-all.ensures) (c.in_ok-twice.ensures.kept exact_unsigned)
