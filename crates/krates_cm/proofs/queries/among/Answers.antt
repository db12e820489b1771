use Rattle.std.proofs.Common.{ap, ◌∙◌, bytes_eq, map, sym, arith}
use Rattle.std.specs.List.{list_any}
use Rattle.krates_cm.specs.Document.{id_view}
use Rattle.krates_cm.specs.declared.package.Package.{Package}
use Rattle.krates_cm.proofs.QueryLemmas.{found_next, passed_next}
use Rattle.krates_cm.proofs.queries.among.Goals.{then-is_among+in_ok-push, else-is_among}
use Rattle.krates_cm.proofs.queries.among.Goals as goal

pub loop-pkg-preserved : goal.loop-pkg-preserved
loop-pkg-preserved c =
    let test = λ (p : Package). list_any (λ id. bytes_eq id (id_view p.id)) (map id_view c.args.ids.now) in
    let packages = c.args.packages.now in
    let l = c.loop-pkg in
    elim c.if-is_among.branch [
      | then-is_among+in_ok-push w ↦ ap (λ v. map (λ p. p.now) v.items) w.found-is ∙ ap (map (λ p. p.now)) w.in_ok-push.ensures.items
          ∙ found_next (λ p. p.now) test packages l.pkg-index l.found.items _ (omega (arith, c.loop-pkg-test.true, l.auto.pkg-index-end)) c.pkg-item.is (sym c.is_among.ensures ∙ w.if-is_among.true) l.invariant
      | else-is_among w ↦ ap (λ v. map (λ p. p.now) v.items) w.found-is ∙ l.invariant
          ∙ sym (passed_next test packages l.pkg-index c.pkg-item.result (omega (arith, c.loop-pkg-test.true, l.auto.pkg-index-end)) c.pkg-item.is (sym c.is_among.ensures ∙ w.if-is_among.false))
    ]
