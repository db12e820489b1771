use Rattle.std.proofs.Common.{◌≡◌, ℕ, List, ◌++◌, Bor, map, string_bytes}
use Rattle.krates_cm_json.specs.Entries.{entries_data}
use Rattle.krates_cm_json.specs.Faults.{Fault}
use Rattle.krates_cm_json.specs.Reading.{map_items}
use Rattle.krates_cm_json.proofs.ListReading.{with_front}
use Rattle.krates_cm_json.proofs.MapReading.{key_texts, texts_of}
use Rattle.krates_cm_json.proofs.read.values.map_from.Given as goal

-- As for a list; and the entries so far have the names of the members so far.
abbrev pub invariant-loop-name : goal.invariant-loop-name
invariant-loop-name g l =
    let all = map_items (g.T.FromValue.reads l.key) (entries_data g.J.JsonRef.meaning l.members.entries) in
    let rest = map_items (g.T.FromValue.reads l.key) (entries_data g.J.JsonRef.meaning l.name-iterator) in
    record {
      can : (goal.iterator-loop-name g).can_next l.name-iterator;
      finite : (goal.iterator-loop-name g).is_finite l.name-iterator;
      value : with_front (map (λ e. (string_bytes e.0, g.T.FromValue.view e.1)) l.entries.entries) rest.value ≡ all.value;
      faults : (fault : Fault) → rest.IsFault fault → all.IsFault fault;
      keys : (done : List (Bor (List ℕ) × g.row.J.Denot)) × (l.members.entries ≡ done ++ l.name-iterator) × (key_texts l.entries.entries ≡ texts_of (λ k. k.now) done);
    }
