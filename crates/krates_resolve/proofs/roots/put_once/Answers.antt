use Rattle.std.proofs.Common.{ℕ, ◌<◌, sym, subst}
use Rattle.std.proofs.lemmas.Option.{slice_get_within}
use Rattle.std.proofs.lemmas.Result.{on_ok_weaker}
use Rattle.krates_rules.specs.Facts.{Crate}
use Rattle.krates_rules.specs.Resolved.{id_of}
use Rattle.krates_search.specs.SearchState.{HasFound}
use Rattle.krates_search.proofs.Finding.{finds_root, for_reason}
use Rattle.krates_search.proofs.Growing.{advances_refl, advances_trans}
use Rattle.krates_resolve.proofs.ReferenceLemmas.{on_ok_both}
use Rattle.krates_search.proofs.Putting.{on_false, on_true}
use Rattle.krates_resolve.proofs.Rooted.{each_grows, each_put, each_stays, root_enables, rooted_here}
use Rattle.krates_questions.specs.Context.{document_of}
use Rattle.krates_resolve.proofs.roots.put_once.Goals as goal

pub put-requires : goal.put-requires
put-requires c =
    let at = c.requires.node.at in
    let node = c.args.node in
    subst (λ (n : ℕ). node.place.index < n) (sym c.requires.each.size) (slice_get_within (document_of c.args.context.now).graph.nodes node.place.index at.node at.at)

pub returns-then-not-put-clause-advanced : goal.returns-then-not-put-clause-advanced
returns-then-not-put-clause-advanced c = advances_refl c.args.context.now c.args.found.now c.requires.sound

pub returns-then-not-put-clause-rooted : goal.returns-then-not-put-clause-rooted
returns-then-not-put-clause-rooted c =
    c.requires.each.each c.args.node.place.index (id_of c.args.node.id.now) (on_false c.put.result c.if-not-put.true c.put.ensures.old) c.requires.node.at

pub returns-then-not-put-clause-each : goal.returns-then-not-put-clause-each
returns-then-not-put-clause-each c = each_stays c.args.context.now c.args.found.now c.args.places.now c.put.new.self (on_false c.put.result c.if-not-put.true c.put.ensures.unchanged) c.requires.each

pub put_krate-requires-clause-may : goal.put_krate-requires-clause-may
put_krate-requires-clause-may c =
    let b = c.args.context.now in
    let i = id_of c.args.node.id.now in
    let x = c.args.found.now in
    record { krate = i; node = c.requires.node.at; finds = for_reason b x _ _ (Crate i) c.by_nothing.ensures (finds_root b x i c.requires.root.0 c.requires.root.1) }

pub enable_listed-requires-clause-sound : goal.enable_listed-requires-clause-sound
enable_listed-requires-clause-sound c = c.in_ok-put_krate.ensures.advanced.sound

pub enable_listed-requires-clause-kept : goal.enable_listed-requires-clause-kept
enable_listed-requires-clause-kept c = record { place = c.args.node.place.index; among = c.in_ok-put_krate.ensures.put; node = c.requires.node.at }

pub enable_listed-requires-clause-may : goal.enable_listed-requires-clause-may
enable_listed-requires-clause-may c = root_enables c.args.context.now (id_of c.args.node.id.now) c.requires.root.0 c.requires.root.1

pub returns-clause-advanced : goal.returns-clause-advanced
returns-clause-advanced c =
    let b = c.args.context.now in
    on_ok_weaker c.enable_listed.result (λ a. advances_trans b c.args.found.now c.put_krate.new.found c.enable_listed.new.found c.in_ok-put_krate.ensures.advanced a) c.enable_listed.ensures.advanced

pub returns-clause-rooted : goal.returns-clause-rooted
returns-clause-rooted c =
    let b = c.args.context.now in
    let i = id_of c.args.node.id.now in
    let kept : HasFound b c.put_krate.new.found (Crate i) = record { place = c.args.node.place.index; among = c.in_ok-put_krate.ensures.put; node = c.requires.node.at } in
    on_ok_both c.enable_listed.result (λ a enabled. rooted_here b c.enable_listed.new.found i c.requires.root.1 (a.grows.found (Crate i) kept) enabled) c.enable_listed.ensures.advanced c.enable_listed.ensures.enabled

pub returns-clause-each : goal.returns-clause-each
returns-clause-each c =
    let b = c.args.context.now in
    let w = b in
    let i = id_of c.args.node.id.now in
    let x = c.args.found.now in
    let y = c.put_krate.new.found in
    let z = c.enable_listed.new.found in
    let kept : HasFound b y (Crate i) = record { place = c.args.node.place.index; among = c.in_ok-put_krate.ensures.put; node = c.requires.node.at } in
    let added = on_true c.put.result c.if-not-put.false c.put.ensures.added in
    on_ok_both c.enable_listed.result (λ a enabled.
    each_put c.one_reading.ensures.once w z c.args.places.now c.put.new.self c.args.node.place.index i added c.requires.node.at (rooted_here b z i c.requires.root.1 (a.grows.found (Crate i) kept) enabled)
    (each_grows w y z c.args.places.now a.grows (each_grows w x y c.args.places.now c.in_ok-put_krate.ensures.advanced.grows c.requires.each)))
    c.enable_listed.ensures.advanced c.enable_listed.ensures.enabled
