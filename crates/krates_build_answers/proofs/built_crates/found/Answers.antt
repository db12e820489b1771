use Rattle.std.proofs.Common.{◌≡◌, ℕ, Option, Some, Contains, MatchOption, slice_get, sym, subst}
use Rattle.krates_build_answers.specs.contracts.built_crates.BuiltCrateOrd.TheImpl.Laws.{total-law}
use Rattle.krates_build_answers.proofs.PlaceOrders.{built_apart}
use Rattle.krates_build_answers.proofs.Searched.{place_found}
use Rattle.krates_build_answers.proofs.built_crates.found.Goals as goal

pub returns : goal.returns
returns c =
    let xs = c.args.places.now in
    let q = c.args.place in
    subst (λ (o : Option ℕ). MatchOption o (¬ Contains xs q) (λ n. slice_get xs n ≡ Some q)) (sym c.ok.ensures.value)
    (place_found total-law built_apart xs q c.binary_search.result c.requires c.binary_search.ensures.bound c.binary_search.ensures.position)
