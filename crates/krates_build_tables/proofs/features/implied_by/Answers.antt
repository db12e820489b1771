use Rattle.std.proofs.Common.{◌≡◌, ◌++◌, ◌∷◌, [], Bor, map, refl, rules, arith}
use Rattle.krates_cm.specs.Document.{Text, dependency_view}
use Rattle.krates_questions.specs.Lookup.{resolved_view}
use Rattle.krates_rules.specs.Resolved.{id_of}
use Rattle.krates_build_tables.proofs.FeatureLemmas.{Implies, implied_told}
use Rattle.krates_build_tables.proofs.Listing.{lists_none, lists_put, lists_kept, lists_all}
use Rattle.krates_build_tables.proofs.features.implied_by.Goals.{then-is_implied+in_ok-push, else-is_implied}
use Rattle.krates_build_tables.proofs.features.implied_by.Goals as goal

pub loop-declared-init : goal.loop-declared-init
loop-declared-init c = rw c.new-names.ensures.items (lists_none (Implies (resolved_view c.args.document.now) (id_of c.args.krate.now)))

pub loop-declared-preserved : goal.loop-declared-preserved
loop-declared-preserved c =
    let l = c.loop-declared in
    let ds = c.declared_by-declared-items.result.now in
    let d = c.declared-item.result in
    let T = Implies (resolved_view c.args.document.now) (id_of c.args.krate.now) in
    elim c.if-is_implied.branch [
      | then-is_implied+in_ok-push w ↦
          let grown : c.if-is_implied.names.items ≡ l.names.items ++ w.declared_name.result ∷ [] = search rules in
          let name = w.declared_name.ensures in
          lists_put T dependency_view (λ (t : Bor Text). t.now) ds l.declared-index d l.names.items w.declared_name.result c.if-is_implied.names.items (omega arith) c.declared-item.is
          (rw name (c.is_implied.ensures.0 w.if-is_implied.true, refl)) (λ b t. rw name t.1) grown l.invariant
      | else-is_implied w ↦
          let kept : c.if-is_implied.names ≡ l.names = search rules in
          rw kept (lists_kept T dependency_view ds l.declared-index d (map (λ (t : Bor Text). t.now) l.names.items) (omega arith) c.declared-item.is
          (λ b t. let yes = c.is_implied.ensures.1 t.0 in absurd cc) l.invariant)
    ]

pub returns : goal.returns
returns c =
    let r = resolved_view c.args.document.now in
    let i = id_of c.args.krate.now in
    let ds = c.declared_by-declared-items.result.now in
    let names = map (λ (t : Bor Text). t.now) c.loop-declared.names.items in
    implied_told r i (map dependency_view ds) names c.declared_by-declared-items.ensures (lists_all (Implies r i) dependency_view ds c.loop-declared.declared-index names (omega arith) c.loop-declared.invariant)
