use Rattle.std.proofs.Common.{refl}
use Rattle.std.proofs.lemmas.Result.{on_ok_weaker}
use Rattle.krates_questions.specs.NodeEntry.{krate_of}
use Rattle.krates_rules.specs.Facts.{Toggled}
use Rattle.krates_rules.specs.Questions.{edge_between}
use Rattle.krates_search.proofs.Finding.{finds_strongly, finds_weakly, for_reason}
use Rattle.krates_search.proofs.Growing.{advances_trans, tried_grows}
use Rattle.krates_text.specs.FeatureReference.{reference_of, strong}
use Rattle.krates_resolve.proofs.ReferenceLemmas.{may_toggle_strongly, may_toggle_weakly, on_ok_both, refers_more, unmarked_strongly, wait_advances}
use Rattle.krates_search.specs.SearchState.{IsAny}
use Rattle.krates_search.proofs.Growth.{marked_derives}
use Rattle.krates_resolve.proofs.references.Referrer.follow_at.Goals as goal

-- ---- a reference that asks for the edges

pub ask_at-requires-clause-demands : goal.ask_at-requires-clause-demands
ask_at-requires-clause-demands c = record { reference = reference_of c.args.reference; refers = c.requires.refers; demands = rw c.in-Krate.is refl }

pub ask_at-requires-in-Strong-clause-demands : goal.ask_at-requires-in-Strong-clause-demands
ask_at-requires-in-Strong-clause-demands c = record { reference = reference_of c.args.reference; refers = c.requires.refers; demands = rw c.in-Strong.is refl }

-- ---- and toggles a feature

pub kept-requires : goal.kept-requires
kept-requires c = c.in_ok-ask_at-in-Strong.ensures.advanced.sound.has_links (krate_of c.args.self.now.parts) c.requires.refers.child c.args.self.now.parts.place.index c.args.index c.requires.refers.dep

pub toggle_at-requires-clause-may : goal.toggle_at-requires-clause-may
toggle_at-requires-clause-may c child there =
    let by = c.args.self.now in
    let p = krate_of by.parts in
    let to = rw c.in-Strong.is at c.requires.refers in
    let kept = marked_derives c.one_reading.ensures.once by.context c.ask_at-in-Strong.new.found p child by.parts.place.index c.args.index c.in-Some.kept c.in_ok-ask_at-in-Strong.ensures.advanced.sound there c.in-Some.ensures in
    may_toggle_strongly by.context (edge_between p child kept.0) c.in-Strong.krate.now c.in-Strong.name.now to.refers.may (to.is child there) kept.1

pub toggle_at-requires-clause-step : goal.toggle_at-requires-clause-step
toggle_at-requires-clause-step c child there lists =
    let by = c.args.self.now in
    let b = by.context in
    let p = krate_of by.parts in
    let m = c.in-Some.kept in
    let name = c.in-Strong.krate.now in
    let g = c.in-Strong.name.now in
    let to = rw c.in-Strong.is at c.requires.refers in
    let step = c.in_ok-ask_at-in-Strong.ensures.advanced in
    let y = c.ask_at-in-Strong.new.found in
    let has = step.sound.numbered.marked p child by.parts.place.index c.args.index m there c.in-Some.ensures in
    for_reason b y _ _ (Toggled p child g) c.by_two-reason.ensures
    (finds_strongly b y by.step m (edge_between p child has.0) name g (refers_more by c.args.found.now y (strong name g) step.grows to.refers).has_step (to.is child there) has.1 lists)

pub returns-in-Some-clause-advanced : goal.returns-in-Some-clause-advanced
returns-in-Some-clause-advanced c =
    let by = c.args.self.now in
    on_ok_weaker c.toggle_at.result (λ a. advances_trans by.context c.args.found.now c.ask_at-in-Strong.new.found c.toggle_at.new.found c.in_ok-ask_at-in-Strong.ensures.advanced a) c.toggle_at.ensures.advanced

pub returns-in-Some-clause-followed : goal.returns-in-Some-clause-followed
returns-in-Some-clause-followed c =
    let by = c.args.self.now in
    let x = c.ask_at-in-Strong.new.found in
    let y = c.toggle_at.new.found in
    rw c.in-Strong.is (on_ok_both c.toggle_at.result (λ a toggled. (λ e same there. tried_grows by.context x y e IsAny a.grows.found (c.in_ok-ask_at-in-Strong.ensures.asked e same there), λ e d same there w stands. toggled e.child there)) c.toggle_at.ensures.advanced c.toggle_at.ensures.toggled)

pub returns-in_default-clause-followed : goal.returns-in_default-clause-followed
returns-in_default-clause-followed c =
    let by = c.args.self.now in
    let asked = c.in_ok-ask_at-in-Strong.ensures in
    rw c.in-Strong.is (asked.asked, unmarked_strongly by.context c.ask_at-in-Strong.new.found (krate_of by.parts) c.in-Strong.name.now by.parts.place.index c.args.index asked.advanced.sound asked.asked c.in_default.ensures)

-- ---- or lets it wait

pub kept-requires-in-Weak : goal.kept-requires-in-Weak
kept-requires-in-Weak c = c.requires.sound.has_links (krate_of c.args.self.now.parts) c.requires.refers.child c.args.self.now.parts.place.index c.args.index c.requires.refers.dep

pub toggle_at-requires-in-Some-kept-clause-may : goal.toggle_at-requires-in-Some-kept-clause-may
toggle_at-requires-in-Some-kept-clause-may c child there =
    let by = c.args.self.now in
    let p = krate_of by.parts in
    let to = rw c.in-Weak.is at c.requires.refers in
    let kept = marked_derives c.one_reading.ensures.once by.context c.args.found.now p child by.parts.place.index c.args.index c.in-Some-kept.kept c.requires.sound there c.in-Some-kept.ensures in
    may_toggle_weakly by.context (edge_between p child kept.0) c.in-Weak.krate.now c.in-Weak.name.now to.refers.may (to.is child there) kept.1

pub toggle_at-requires-in-Some-kept-clause-step : goal.toggle_at-requires-in-Some-kept-clause-step
toggle_at-requires-in-Some-kept-clause-step c child there lists =
    let by = c.args.self.now in
    let b = by.context in
    let p = krate_of by.parts in
    let m = c.in-Some-kept.kept in
    let g = c.in-Weak.name.now in
    let to = rw c.in-Weak.is at c.requires.refers in
    let x = c.args.found.now in
    let has = c.requires.sound.numbered.marked p child by.parts.place.index c.args.index m there c.in-Some-kept.ensures in
    for_reason b x _ _ (Toggled p child g) c.by_two-reason-in-Some-kept.ensures
    (finds_weakly b x by.step m (edge_between p child has.0) c.in-Weak.krate.now g to.refers.has_step (to.is child there) has.1 lists)

pub let_wait-requires : goal.let_wait-requires
let_wait-requires c = c.requires.sound.has_links (krate_of c.args.self.now.parts) c.requires.refers.child c.args.self.now.parts.place.index c.args.index c.requires.refers.dep

pub returns-in_ok-let_wait-in-Weak-clause-advanced : goal.returns-in_ok-let_wait-in-Weak-clause-advanced
returns-in_ok-let_wait-in-Weak-clause-advanced c =
    let to = rw c.in-Weak.is at c.requires.refers in
    wait_advances c.one_reading.ensures.once c.args.self.now c.args.found.now c.let_wait.new.self c.in-Weak.krate.now c.in-Weak.name c.args.index c.requires.sound to c.in_ok-let_wait-in-Weak.ensures c.in_default-kept.ensures
