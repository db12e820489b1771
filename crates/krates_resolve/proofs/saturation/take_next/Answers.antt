use Rattle.std.proofs.Common.{◌≡◌, ◌+◌, ◌-◌, ◌≤◌, length, refl, sym, ap, ◌∙◌, subst, arith}
use Rattle.krates_graph.specs.Agenda.{PutNumbers}
use Rattle.krates_questions.proofs.NodeParts.{within_vec}
use Rattle.krates_search.specs.SearchState.{IsFeatureStep, IsKrateStep, IsSound, Advances}
use Rattle.krates_search.specs.declared.search_state.SearchState.{SearchState}
use Rattle.krates_resolve.proofs.TakenSteps.{taken_step, taken_within}
use Rattle.krates_resolve.proofs.Taken.{sound_taken, taken_put, taken_below, has_room, unchanged, same_agendas, crate_done, feature_done, none_done}
use Rattle.krates_resolve.proofs.Counted.{crate_counted, feature_counted}
use Rattle.krates_resolve.specs.Saturation.{HasCounted, HasDone}
use Rattle.krates_resolve.proofs.saturation.take_next.Goals as goal

pub expand-requires-clause-sound : goal.expand-requires-clause-sound
expand-requires-clause-sound c =
    let x = c.args.found.now in
    let n = x.krates.taken + 1 in
    let same = same_agendas x c.take.new.self x.features (record x.krates { taken = n }) x.features c.in-Some.ensures.counted refl in
    subst (IsSound c.args.context.now) (sym same) (sound_taken c.args.context.now x n x.features.taken c.requires.done.sound)

pub expand-requires-clause-put : goal.expand-requires-clause-put
expand-requires-clause-put c =
    let a = c.args.found.now.krates in
    taken_put a c.take.new.self (a.taken + 1) a.taken c.in-Some.taken c.in-Some.ensures.counted (sym c.take.ensures.first ∙ c.in-Some.is)

pub expand-requires-clause-within : goal.expand-requires-clause-within
expand-requires-clause-within c =
    let a = c.args.found.now.krates in
    taken_below a c.take.new.self (a.taken + 1) a.taken c.in-Some.taken c.in-Some.ensures.counted c.take.ensures.orderly (sym c.take.ensures.first ∙ c.in-Some.is)

pub returns-in-Some-clause-taken : goal.returns-in-Some-clause-taken
returns-in-Some-clause-taken c =
    let b = c.args.context.now in
    let x = c.args.found.now in
    let z = c.expand.new.found in
    let n = x.krates.taken + 1 in
    let e = c.in-Some.ensures.counted in
    let same = same_agendas x c.take.new.self x.features (record x.krates { taken = n }) x.features e refl in
    let step = subst (λ (y : SearchState). Advances b y z) same c.in_ok-expand.ensures.advanced in
    crate_done b x z c.in-Some.taken c.requires.done step (has_room x.krates c.take.new.self n e c.take.ensures.orderly) (sym c.take.ensures.first ∙ c.in-Some.is) c.in_ok-expand.ensures.expanded

pub returns-in_default-take-clause-taken : goal.returns-in_default-take-clause-taken
returns-in_default-take-clause-taken c =
    let b = c.args.context.now in
    let x = c.args.found.now in
    let still = unchanged x.krates c.take.new.self (x.krates.taken + 0) c.in_default.ensures.counted (omega arith) in
    let also = unchanged x.features c.take-2.new.self (x.features.taken + 0) c.in_default-take.ensures.counted (omega arith) in
    let same = same_agendas x c.take.new.self c.take-2.new.self x.krates x.features still also in
    let none = none_done b x c.requires.done (sym c.take.ensures.first ∙ c.in_default.is) (sym c.take-2.ensures.first ∙ c.in_default-take.is) in
    subst (λ (y : SearchState). HasDone b y × ((length y.krates.put ≤ y.krates.taken) × (length y.features.put ≤ y.features.taken))) (sym same) (c.requires.done, none)

pub follow_references-requires-clause-sound : goal.follow_references-requires-clause-sound
follow_references-requires-clause-sound c =
    let b = c.args.context.now in
    let x = c.args.found.now in
    let m = x.features.taken + 1 in
    let still = unchanged x.krates c.take.new.self (x.krates.taken + 0) c.in_default.ensures.counted (omega arith) in
    let same = same_agendas x c.take.new.self c.take-2.new.self x.krates (record x.features { taken = m }) still c.in-Some-take.ensures.counted in
    subst (IsSound b) (sym same) (sound_taken b x x.krates.taken m c.requires.done.sound)

pub follow_references-requires-clause-put : goal.follow_references-requires-clause-put
follow_references-requires-clause-put c =
    let a = c.args.found.now.features in
    taken_put a c.take-2.new.self (a.taken + 1) a.taken c.in-Some-take.taken c.in-Some-take.ensures.counted (sym c.take-2.ensures.first ∙ c.in-Some-take.is)

pub follow_references-requires-clause-within : goal.follow_references-requires-clause-within
follow_references-requires-clause-within c =
    let a = c.args.found.now.features in
    taken_below a c.take-2.new.self (a.taken + 1) a.taken c.in-Some-take.taken c.in-Some-take.ensures.counted c.take-2.ensures.orderly (sym c.take-2.ensures.first ∙ c.in-Some-take.is)

pub returns-clause-taken : goal.returns-clause-taken
returns-clause-taken c =
    let b = c.args.context.now in
    let x = c.args.found.now in
    let z = c.follow_references.new.found in
    let m = x.features.taken + 1 in
    let e = c.in-Some-take.ensures.counted in
    let still = unchanged x.krates c.take.new.self (x.krates.taken + 0) c.in_default.ensures.counted (omega arith) in
    let same = same_agendas x c.take.new.self c.take-2.new.self x.krates (record x.features { taken = m }) still e in
    let step = subst (λ (y : SearchState). Advances b y z) same c.in_ok-references.ensures.advanced in
    feature_done b x z c.in-Some-take.taken c.requires.done step (has_room x.features c.take-2.new.self m e c.take-2.ensures.orderly) (sym c.take-2.ensures.first ∙ c.in-Some-take.is) c.in_ok-references.ensures.followed_all

pub returns-in-Some-clause-counted : goal.returns-in-Some-clause-counted
returns-in-Some-clause-counted c =
    let b = c.args.context.now in
    let x = c.args.found.now in
    let z = c.expand.new.found in
    let n = x.krates.taken + 1 in
    let same = same_agendas x c.take.new.self x.features (record x.krates { taken = n }) x.features c.in-Some.ensures.counted refl in
    let step = subst (λ (y : SearchState). Advances b y z) same c.in_ok-expand.ensures.advanced in
    crate_counted b x z c.args.work.now c.count_krate.new.self c.requires.counted step.grows c.requires.done.features_within c.count_krate.ensures

pub returns-in_default-take-clause-counted : goal.returns-in_default-take-clause-counted
returns-in_default-take-clause-counted c =
    let b = c.args.context.now in
    let x = c.args.found.now in
    let still = unchanged x.krates c.take.new.self (x.krates.taken + 0) c.in_default.ensures.counted (omega arith) in
    let also = unchanged x.features c.take-2.new.self (x.features.taken + 0) c.in_default-take.ensures.counted (omega arith) in
    let same = same_agendas x c.take.new.self c.take-2.new.self x.krates x.features still also in
    subst (λ (y : SearchState). HasCounted b y c.args.work.now) (sym same) c.requires.counted

pub returns-clause-counted : goal.returns-clause-counted
returns-clause-counted c =
    let b = c.args.context.now in
    let x = c.args.found.now in
    let z = c.follow_references.new.found in
    let m = x.features.taken + 1 in
    let e = c.in-Some-take.ensures.counted in
    let still = unchanged x.krates c.take.new.self (x.krates.taken + 0) c.in_default.ensures.counted (omega arith) in
    let same = same_agendas x c.take.new.self c.take-2.new.self x.krates (record x.features { taken = m }) still e in
    let step = subst (λ (y : SearchState). Advances b y z) same c.in_ok-references.ensures.advanced in
    let counts = c.count_feature.ensures in
    feature_counted b x z c.args.work.now c.count_feature.new.self c.in-Some-take.taken c.in_ok-references.ensures.counted.number c.in_ok-references.references c.requires.counted step.grows c.requires.done.features_within (sym c.take-2.ensures.first ∙ c.in-Some-take.is)
    c.in_ok-references.ensures.counted.has counts.same counts.features c.in_ok-references.ensures.counted.count counts.references

pub index-step-requires : goal.index-step-requires
index-step-requires c =
    let b = c.args.context.now in
    let x = c.args.found.now in
    let same : c.taken.result - 1 ≡ x.krates.taken = omega (arith, c.taken.ensures.count, ap (λ (a : PutNumbers). a.taken) c.in-Some.ensures.counted) in
    within_vec x.krate_steps (c.taken.result - 1) (taken_within (IsKrateStep b x.trace.items) x.krates.put x.krate_steps.items x.krates.taken c.in-Some.taken (c.taken.result - 1) c.requires.done.sound.numbered.krates (sym c.take.ensures.first ∙ c.in-Some.is) same)

pub expand-requires-clause-step : goal.expand-requires-clause-step
expand-requires-clause-step c =
    let b = c.args.context.now in
    let x = c.args.found.now in
    let same : c.taken.result - 1 ≡ x.krates.taken = omega (arith, c.taken.ensures.count, ap (λ (a : PutNumbers). a.taken) c.in-Some.ensures.counted) in
    taken_step (IsKrateStep b x.trace.items) x.krates.put x.krate_steps.items x.krates.taken c.in-Some.taken (c.taken.result - 1) c.index-step.result.now c.requires.done.sound.numbered.krates (sym c.take.ensures.first ∙ c.in-Some.is) same c.index-step.ensures

pub index-step-requires-2 : goal.index-step-requires-2
index-step-requires-2 c =
    let b = c.args.context.now in
    let x = c.args.found.now in
    let same : c.taken-2.result - 1 ≡ x.features.taken = omega (arith, c.taken-2.ensures.count, ap (λ (a : PutNumbers). a.taken) c.in-Some-take.ensures.counted) in
    within_vec x.feature_steps (c.taken-2.result - 1)
    (taken_within (IsFeatureStep b x.trace.items) x.features.put x.feature_steps.items x.features.taken c.in-Some-take.taken (c.taken-2.result - 1) c.requires.done.sound.numbered.features (sym c.take-2.ensures.first ∙ c.in-Some-take.is) same)

pub follow_references-requires-clause-step : goal.follow_references-requires-clause-step
follow_references-requires-clause-step c =
    let b = c.args.context.now in
    let x = c.args.found.now in
    let same : c.taken-2.result - 1 ≡ x.features.taken = omega (arith, c.taken-2.ensures.count, ap (λ (a : PutNumbers). a.taken) c.in-Some-take.ensures.counted) in
    taken_step (IsFeatureStep b x.trace.items) x.features.put x.feature_steps.items x.features.taken c.in-Some-take.taken (c.taken-2.result - 1) c.index-step-2.result.now c.requires.done.sound.numbered.features (sym c.take-2.ensures.first ∙ c.in-Some-take.is) same c.index-step-2.ensures
