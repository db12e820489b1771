use Rattle.std.proofs.Common.{◌≡◌, ◌++◌, ◌∷◌, [], Bor, map, refl, rules, ap, ◌∙◌, arith}
use Rattle.krates_cm.specs.Document.{dependency_view}
use Rattle.krates_questions.specs.Lookup.{resolved_view}
use Rattle.krates_rules.specs.Resolved.{id_of}
use Rattle.krates_build_tables.proofs.Listing.{lists_none, lists_put, lists_kept, lists_all}
use Rattle.krates_cm.specs.declared.dependency.Dependency.{Dependency}
use Rattle.krates_build_tables.proofs.PairLemmas.{IsLeft, lacks_told}
use Rattle.krates_build_tables.proofs.pairs.unresolved_of.Goals.{then-left+in_ok-push, else-left}
use Rattle.krates_build_tables.proofs.pairs.unresolved_of.Goals as goal

pub loop-declared-init : goal.loop-declared-init
loop-declared-init c = rw c.new-all.ensures.items (lists_none (IsLeft (resolved_view c.args.document.now) (id_of c.args.krate.now)))

pub loop-declared-preserved : goal.loop-declared-preserved
loop-declared-preserved c =
    let l = c.loop-declared in
    let ds = c.declared_by-declared-items.result.now in
    let d = c.declared-item.result in
    let T = IsLeft (resolved_view c.args.document.now) (id_of c.args.krate.now) in
    let seen = λ (b : Bor Dependency). dependency_view b.now in
    elim c.if-left.branch [
      | then-left+in_ok-push w ↦
          let grown : c.if-left.all.items ≡ l.all.items ++ _ ∷ [] = ap (λ v. v.items) w.all-is ∙ w.in_ok-push.ensures.items in
          lists_put T dependency_view seen ds l.declared-index d l.all.items _ c.if-left.all.items (omega arith) c.declared-item.is
          (c.in_ok-left.ensures.0 w.if-left.true, refl) (λ b t. t.1) grown l.invariant
      | else-left w ↦
          let kept : c.if-left.all ≡ l.all = search rules in
          rw kept (lists_kept T dependency_view ds l.declared-index d (map seen l.all.items) (omega arith) c.declared-item.is
          (λ b t. let yes = c.in_ok-left.ensures.1 t.0 in absurd cc) l.invariant)
    ]

pub returns : goal.returns
returns c =
    let r = resolved_view c.args.document.now in
    let i = id_of c.args.krate.now in
    let ds = c.declared_by-declared-items.result.now in
    let out = map (λ (b : Bor Dependency). dependency_view b.now) c.loop-declared.all.items in
    lacks_told r i (map dependency_view ds) out c.declared_by-declared-items.ensures (lists_all (IsLeft r i) dependency_view ds c.loop-declared.declared-index out (omega arith) c.loop-declared.invariant)
