use Rattle.std.proofs.Common.{◌↔◌, List, Contains, map, ap, ◌∙◌, subst}
use Rattle.std.proofs.lemmas.Map.Lookups.{exact_unsigned}
use Rattle.krates_build_answers.specs.BuiltCrates.{IsAmong}
use Rattle.krates_build_answers.specs.declared.built_crates.BuiltCrate.{BuiltCrate}
use Rattle.krates_build_answers.proofs.BuiltPlaces.{numbers_among}
use Rattle.krates_build_answers.proofs.built_crates.BuiltCrates.krates.Goals as goal

pub returns-clause-exact : goal.returns-clause-exact
returns-clause-exact c = λ k.
    subst (λ (built : List BuiltCrate). Contains c.in_ok-krates.krates.items k ↔ IsAmong k built) c.self.view_is
    (numbers_among c.self.inside.places.items c.in_ok-all.all.items c.in_ok-krates.krates.items (c.in_ok-all.ensures ∙ ap (map (λ (x : BuiltCrate). x.krate)) c.deref.ensures.value) (c.in_ok-krates.ensures.kept exact_unsigned) k)
