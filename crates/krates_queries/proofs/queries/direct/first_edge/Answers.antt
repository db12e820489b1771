use Rattle.std.proofs.Common.{rules, length, refl, sym, ◌∙◌}
use Rattle.std.proofs.Math.Dec.{ltb}
use Rattle.std.proofs.lemmas.Bool.{eqb-false, ltb-false}
use Rattle.std.proofs.lemmas.Bool.Decides.{Decides-eqb, Decides-ltb}
use Rattle.std.proofs.lemmas.List.Sorted.{IsPartitionPoint-from_clause, IsPartitionedBy-ltb}
use Rattle.std.proofs.lemmas.Option.{slice_get_read}
use Rattle.krates_queries.specs.declared.queries.direct.Neighbour.{Neighbour}
use Rattle.krates_queries.proofs.DirectLemmas.{crates_rise, found_at, none_at_end, none_there}
use Rattle.krates_queries.proofs.queries.direct.first_edge.Goals.{in_default-via-in-Some+else-eq, in_default-via-in_default}
use Rattle.krates_queries.proofs.queries.direct.first_edge.Goals as goal

pub returns-in-Some : goal.returns-in-Some
returns-in-Some c =
    let xs = c.args.neighbours.now in
    let n = c.args.number in
    let k = c.partition_point-below.result in
    let x = c.in-Some.neighbour.now in
    let below = IsPartitionPoint-from_clause (λ (y : Neighbour). ltb y.krate n) xs k c.partition_point-below.ensures.partitioned
    (IsPartitionedBy-ltb (λ (y : Neighbour). y.krate) xs n (crates_rise xs c.requires)) (λ a r f q. search rules) in
    let at = c.in-Some.ensures.lookup in
    found_at xs n k x below (slice_get_read xs (length xs) k x refl ((Decides-ltb k (length xs)).0 (sym at.0)) at.1) ((Decides-eqb x.krate n).0 (sym c.eq.ensures ∙ c.if-eq.true))

pub returns-in_default : goal.returns-in_default
returns-in_default c =
    let xs = c.args.neighbours.now in
    let n = c.args.number in
    let k = c.partition_point-below.result in
    let below = IsPartitionPoint-from_clause (λ (y : Neighbour). ltb y.krate n) xs k c.partition_point-below.ensures.partitioned
    (IsPartitionedBy-ltb (λ (y : Neighbour). y.krate) xs n (crates_rise xs c.requires)) (λ a r f q. search rules) in
    elim c.in_default.branch [
      | in_default-via-in-Some+else-eq w ↦
          (let x = w.in-Some.neighbour.now in
          let at = w.in-Some.ensures.lookup in
          none_there xs n k x c.requires below (slice_get_read xs (length xs) k x refl ((Decides-ltb k (length xs)).0 (sym at.0)) at.1) (eqb-false x.krate n (sym w.eq.ensures ∙ w.if-eq.false)))
      | in_default-via-in_default w ↦ none_at_end xs n k below (ltb-false k (length xs) (sym w.in_default.ensures.lookup.0))
    ]
