use Rattle.std.proofs.Common.{true≢false, sym}
use Rattle.krates_cm.specs.Document.{id_view}
use Rattle.krates_rules.specs.Resolved.{id_of}
use Rattle.krates_answers.proofs.ReadingLemmas.{never_read_as, tells_read_as}
use Rattle.krates_answers.proofs.meaning.has_id.Goals as goal

pub returns-in-Some : goal.returns-in-Some
returns-in-Some c =
    rw (← c.in_ok-clone.ensures.cases) (tells_read_as (id_view c.in_ok-clone.field-0) c.in_ok-own.field-0 c.in-Some.own c.args.kid.now c.eq.result c.in_ok-own.ensures c.in-Some.is c.eq.ensures)

pub returns-in-None : goal.returns-in-None
returns-in-None c =
    rw (← c.in_ok-clone.ensures.cases) (
      λ yes. absurd (true≢false (sym yes)),
      λ read. absurd (never_read_as (id_view c.in_ok-clone.field-0) c.in_ok-own.field-0 (id_of c.args.kid.now) c.in_ok-own.ensures c.in-None.is read),
    )
