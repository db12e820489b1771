use Rattle.std.proofs.Common.{◌<◌, ℕ, List, length, All, AllPairs, ◌≢◌, sym, ◌∙◌, subst}
use Rattle.krates_ids.specs.Identity.{Identity, id_cmp}
use Rattle.std.specs.List.Sorted.{IsStrictlySortedBy}
use Rattle.krates_search.specs.declared.found.FoundEdge.{FoundEdge}
use Rattle.krates_search.specs.declared.found.FoundToggle.{FoundToggle}
use Rattle.krates_selection.specs.declared.selection.Selection.{Selection}
use Rattle.krates_resolve.proofs.KeptCrates.{kept_long}
use Rattle.krates_resolve.proofs.CountedSelection.{IsCountedWhole, counts_each}
use Rattle.krates_resolve.proofs.Selected.{IsInOrder, edges_kept, features_kept, selected, toggles_kept, whole_of}
use Rattle.krates_search.specs.Found.{IsFoundEdge}
use Rattle.krates_search.specs.KeptLists.{AreToggled, AreSorted, AreInOrder}
use Rattle.krates_resolve.specs.KeptCrates.{AreKept}
use Rattle.krates_questions.specs.Context.{document_of}
use Rattle.krates_resolve.proofs.resolution.selection_of.Goals as goal

pub new-requires-clause-within : goal.new-requires-clause-within
new-requires-clause-within c =
    let below = subst (λ (n : ℕ). All (λ p. p < n) c.args.found.now.krates.put) c.requires.sound.krates_size c.numbers.ensures.orderly.below in
    subst (All (λ p. p < length (document_of c.args.context.now).graph.nodes)) (sym c.numbers.ensures.put) below

pub new-requires-clause-once : goal.new-requires-clause-once
new-requires-clause-once c = subst (AllPairs (λ a b. a ≢ b)) (sym c.numbers.ensures.put) c.numbers.ensures.orderly.distinct

pub new-tables-requires-clause-ascending : goal.new-tables-requires-clause-ascending
new-tables-requires-clause-ascending c = subst (IsStrictlySortedBy id_cmp) (sym c.deref.ensures.value) c.in_ok-krates.ensures.ascending

pub new-tables-requires-clause-numbered : goal.new-tables-requires-clause-numbered
new-tables-requires-clause-numbered c = rw (c.deref-2.ensures.value, c.deref.ensures.value) c.in_ok-krates.ensures.numbered

pub kept_edges-requires-clause-found : goal.kept_edges-requires-clause-found
kept_edges-requires-clause-found c = rw (c.new-tables.ensures.context) (subst (All (IsFoundEdge c.args.context.now)) (sym c.deref-3.ensures.value) c.requires.sound.placed)

pub kept_edges-requires-clause-kept : goal.kept_edges-requires-clause-kept
kept_edges-requires-clause-kept c =
    rw (c.new-tables.ensures.context) (let whole = whole_of c.args.context.now c.args.found.now c.in_ok-krates.field-0.krates.items c.in_ok-krates.field-0.numbers.items c.agrees.ensures c.requires.exact
    (subst (λ (places : List ℕ). AreKept c.args.context.now.document.now places c.in_ok-krates.field-0.krates.items c.in_ok-krates.field-0.numbers.items) c.numbers.ensures.put c.in_ok-krates.ensures) c.requires.some in
    edges_kept c.one_reading.ensures.once c.args.context.now c.args.found.now c.in_ok-krates.field-0.krates.items whole c.requires.sound.placed c.new-tables.result.krates.now c.deref-3.result.now (c.new-tables.ensures.krates ∙ c.deref.ensures.value) c.deref-3.ensures.value)

pub kept_features-requires-clause-kept : goal.kept_features-requires-clause-kept
kept_features-requires-clause-kept c =
    rw (c.new-tables.ensures.context) (let whole = whole_of c.args.context.now c.args.found.now c.in_ok-krates.field-0.krates.items c.in_ok-krates.field-0.numbers.items c.agrees.ensures c.requires.exact
    (subst (λ (places : List ℕ). AreKept c.args.context.now.document.now places c.in_ok-krates.field-0.krates.items c.in_ok-krates.field-0.numbers.items) c.numbers.ensures.put c.in_ok-krates.ensures) c.requires.some in
    let sound = c.requires.sound in
    let below = subst (λ (n : ℕ). All (λ p. p < n) c.args.found.now.features.put) sound.features_size c.numbers-2.ensures.orderly.below in
    features_kept c.one_reading.ensures.once c.args.context.now c.args.found.now c.in_ok-krates.field-0.krates.items whole below c.new-tables.result.krates.now c.numbers-2.result.now (c.new-tables.ensures.krates ∙ c.deref.ensures.value) c.numbers-2.ensures.put)

pub kept_toggled-requires : goal.kept_toggled-requires
kept_toggled-requires c =
    record {
      kept = rw (c.new-tables.ensures.context) (let whole = whole_of c.args.context.now c.args.found.now c.in_ok-krates.field-0.krates.items c.in_ok-krates.field-0.numbers.items c.agrees.ensures c.requires.exact
          (subst (λ (places : List ℕ). AreKept c.args.context.now.document.now places c.in_ok-krates.field-0.krates.items c.in_ok-krates.field-0.numbers.items) c.numbers.ensures.put c.in_ok-krates.ensures) c.requires.some in
          toggles_kept c.one_reading.ensures.once c.args.context.now c.args.found.now c.in_ok-krates.field-0.krates.items whole c.requires.sound.toggles c.new-tables.result.krates.now c.deref-4.result.now (c.new-tables.ensures.krates ∙ c.deref.ensures.value) c.deref-4.ensures.value);
    }

pub returns-clause-selected : goal.returns-clause-selected
returns-clause-selected c =
    let b = c.args.context.now in
    let h = c.agrees.ensures in
    let found = c.args.found.now in
    let x : Selection = record { krates = c.in_ok-krates.field-0.krates; edges = c.in_ok-edges.edges; features = c.in_ok-features.features; toggled = c.in_ok-toggled.toggled; steps = c.new-2.result; work = c.args.work } in
    let kids = x.krates.items in
    let kept = c.new-tables.ensures.krates ∙ c.deref.ensures.value in
    let whole = whole_of b c.args.found.now c.in_ok-krates.field-0.krates.items c.in_ok-krates.field-0.numbers.items c.agrees.ensures c.requires.exact
    (subst (λ (places : List ℕ). AreKept b.document.now places c.in_ok-krates.field-0.krates.items c.in_ok-krates.field-0.numbers.items) c.numbers.ensures.put c.in_ok-krates.ensures) c.requires.some in
    let edges = subst (λ (ks : List Identity). AreInOrder b ks c.deref-3.result.now x.edges.items) kept (rw (c.new-tables.ensures.context) at c.in_ok-edges.ensures) in
    let features = subst (λ (ks : List Identity). AreSorted b ks c.numbers-2.result.now x.features.items) kept (rw (c.new-tables.ensures.context) at c.in_ok-features.ensures) in
    let toggled = subst (λ (ks : List Identity). AreToggled ks c.deref-4.result.now x.toggled.items) kept c.in_ok-toggled.ensures in
    let order : IsInOrder b found x = record {
      edges = subst (λ (es : List FoundEdge). AreInOrder b kids es x.edges.items) c.deref-3.ensures.value edges;
      features = subst (λ (ns : List ℕ). AreSorted b kids ns x.features.items) c.numbers-2.ensures.put features;
      toggled = subst (λ (ts : List FoundToggle). AreToggled kids ts x.toggled.items) c.deref-4.ensures.value toggled;
    } in
    let counted : IsCountedWhole b found kids x.work = record {
      none_doubled = h.distinct;
      krates_long = kept_long b.document.now found.krates.put kids c.in_ok-krates.field-0.numbers.items (subst (λ (places : List ℕ). AreKept b.document.now places kids c.in_ok-krates.field-0.numbers.items) c.numbers.ensures.put c.in_ok-krates.ensures);
      features_once = c.numbers-2.ensures.orderly.distinct;
      own = c.requires.sound.own;
      counted = c.requires.counted;
    } in
    let counts = counts_each b found kids x.features.items x.work counted order.features in
    selected c.one_reading.ensures.once b found x whole order counts

pub returns-clause-numbered : goal.returns-clause-numbered
returns-clause-numbered c = c.in_ok-krates.ensures.numbered
