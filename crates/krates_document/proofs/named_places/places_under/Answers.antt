use Rattle.std.proofs.Common.{length, take, drop, ◌-◌, refl, rules}
use Rattle.std.proofs.lemmas.List.{take_rest}
use Rattle.std.proofs.lemmas.List.Sorted.{IsPartitionPoint-from_clause}
use Rattle.std.specs.Ordering.{is_le, is_lt}
use Rattle.krates_document.specs.NamedPlaces.{key_cmp, key_of, sought_key}
use Rattle.krates_document.proofs.NamedPlaces.{parted_lt, parted_rest, under_run}
use Rattle.krates_document.proofs.named_places.places_under.Goals as goal

pub returns : goal.returns
returns c =
    let xs = c.args.places.now in
    let name = c.args.name.now in
    let target = c.args.target.now in
    let first = c.partition_point-first.result in
    let rest = take (length xs - first) (drop first xs) in
    let q = sought_key name target in
    let before = IsPartitionPoint-from_clause (λ y. is_lt (key_cmp (key_of y) q)) xs first c.partition_point-first.ensures.partitioned (parted_lt xs q c.requires) (λ a r f k. search rules) in
    let behind = IsPartitionPoint-from_clause (λ y. is_le (key_cmp (key_of y) q)) rest c.partition_point-count.result c.partition_point-count.ensures.partitioned (parted_rest xs rest first q c.requires (take_rest xs first)) (λ a r f k. search rules) in
    under_run xs rest (take c.partition_point-count.result rest) first c.partition_point-count.result name target (take_rest xs first) refl before.0 behind.1
