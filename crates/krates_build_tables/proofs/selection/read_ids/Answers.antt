use Rattle.std.proofs.Common.{◌≡◌, ◌+◌, List, [], ◌∷◌, ◌++◌, map, take, arith, sym, subst}
use Rattle.std.proofs.lemmas.List.{take_all}
use Rattle.krates_cm.specs.Document.{id_view}
use Rattle.krates_cm.specs.declared.package_id.PackageId.{PackageId}
use Rattle.krates_ids.specs.Identity.{Identity}
use Rattle.krates_ids.proofs.CorrectionLemmas.{taken_more}
use Rattle.krates_build_tables.specs.RequestsFlags.{AreReadFrom, TellsReading}
use Rattle.krates_build_tables.proofs.ReadDefaults.{read_none, read_more, read_skipped}
use Rattle.krates_build_tables.proofs.selection.read_ids.Goals.{in-Some+in_ok-push-in-Some, in-None}
use Rattle.krates_build_tables.proofs.selection.read_ids.Goals as goal

pub loop-text-init : goal.loop-text-init
loop-text-init c = subst (λ (ids : List Identity). AreReadFrom [] ids) (sym c.new-ids.ensures.items) read_none

pub loop-text-preserved : goal.loop-text-preserved
loop-text-preserved c =
    let l = c.loop-text in
    let text = c.text-item.result in
    let more : map id_view (take (l.text-index + 1) c.args.texts.now) ≡ map id_view (take l.text-index c.args.texts.now) ++ id_view text ∷ [] = taken_more id_view c.args.texts.now l.text-index text (omega arith) c.text-item.is in
    rw more (elim c.match-branch-2.branch [
      | in-Some+in_ok-push-in-Some w ↦ rw (w.ids-is, w.in_ok-push-in-Some.ensures.items)
          (read_more c.one_reading.ensures.once (map id_view (take l.text-index c.args.texts.now)) l.ids.items (id_view text) w.in-Some.id (subst (TellsReading (id_view text)) w.in-Some.is c.in_ok-id.ensures) l.invariant)
      | in-None w ↦ rw w.ids-is (read_skipped (map id_view (take l.text-index c.args.texts.now)) l.ids.items (id_view text) (subst (TellsReading (id_view text)) w.in-None.is c.in_ok-id.ensures) l.invariant)
    ])

pub returns : goal.returns
returns c = subst (λ (ts : List PackageId). AreReadFrom (map id_view ts) c.loop-text.ids.items) (take_all c.loop-text.text-index c.args.texts.now (omega arith)) c.loop-text.invariant
