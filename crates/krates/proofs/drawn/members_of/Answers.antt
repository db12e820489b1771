use Rattle.std.proofs.Common.{◌≡◌, List, take, refl, subst, arith}
use Rattle.std.proofs.lemmas.List.{take_all}
use Rattle.std.proofs.lemmas.List.Filters.{dedup_is}
use Rattle.std.proofs.lemmas.Map.Keys.{IsStrictlyIncreasing-dedup}
use Rattle.krates_ids.specs.Identity.{Identity}
use Rattle.krates_rules.specs.Resolved.{id_of}
use Rattle.krates_drawing.specs.Node.{crate_ids}
use Rattle.krates.specs.Members.{AreNumbersOf}
use Rattle.krates.proofs.MemberLemmas.{numbers_more, numbers_once, numbers_same}
use Rattle.krates_rules.proofs.OrderedIds.{stands_within}
use Rattle.krates.proofs.drawn.members_of.Goals.{in-Some+in_ok-push, in_default}
use Rattle.krates.proofs.drawn.members_of.Goals as goal

pub overflow_cast-number : goal.overflow_cast-number
overflow_cast-number g c =
    let within = stands_within (crate_ids c.args.nodes.now) (id_of c.id-item.result) c.in-Some.number ((c.in-Some.ensures c.in-Some.number).0 refl) in
    omega (arith, within, c.requires.ordered.numbered)

pub loop-id-preserved : goal.loop-id-preserved
loop-id-preserved g c =
    let l = c.loop-id in
    let ids = crate_ids c.args.nodes.now in
    elim c.match-number_of.branch [
      | in-Some+in_ok-push w ↦ rw (w.numbers-is, w.in_ok-push.ensures.items) (numbers_more ids c.args.ids.now l.id-index c.id-item.result l.numbers.items w.in-Some.number w.new.result c.loop-id-test.true c.id-item.is w.new.ensures l.invariant w.in-Some.ensures)
      | in_default w ↦ rw w.numbers-is (numbers_same ids c.args.ids.now l.id-index c.id-item.result l.numbers.items c.loop-id-test.true c.id-item.is l.invariant (λ n h. w.in_default.not-Some n ((c.number_of.ensures n).1 h)))
    ]

pub returns-clause-ascending : goal.returns-clause-ascending
returns-clause-ascending g c = rw (dedup_is _ _ _ c.dedup.ensures.filtered) (IsStrictlyIncreasing-dedup _ c.sort_unstable.ensures.sorted)

pub returns-clause-exactly : goal.returns-clause-exactly
returns-clause-exactly g c =
    let l = c.loop-id in
    let all : take l.id-index c.args.ids.now ≡ c.args.ids.now = take_all l.id-index c.args.ids.now (omega (arith, c.loop-id-test.false)) in
    let found = subst (λ (wanted : List Identity). AreNumbersOf (crate_ids c.args.nodes.now) wanted l.numbers.items) all l.invariant in
    rw (dedup_is _ _ _ c.dedup.ensures.filtered) (numbers_once (crate_ids c.args.nodes.now) c.args.ids.now _ _ c.sort_unstable.ensures.permutation found)
