use Rattle.std.proofs.Common.{◌≡◌, List, ◌++◌, map}
use Rattle.serde_json.specs.View.{members_view}
use Rattle.krates_cm_json.specs.Objects.{EntriesWritten}
use Rattle.krates_cm_json.proofs.MapReading.{key_texts, entry_seen}
use Rattle.krates_cm_json.proofs.write.values.BTreeMapStringToValue.to_value.Given as goal

-- The entries so far are written under their keys.
abbrev pub invariant-loop-name : goal.invariant-loop-name
invariant-loop-name g l = record {
  can : (goal.iterator-loop-name g).can_next l.name-iterator;
  finite : (goal.iterator-loop-name g).is_finite l.name-iterator;
  so_far : (done : List _) × (l.self.entries ≡ done ++ l.name-iterator) × (key_texts l.members.entries ≡ key_texts done)
      × EntriesWritten g.T.ToValue.Writes (map (entry_seen g.T.ToValue.view) done) (members_view l.members.entries);
}
