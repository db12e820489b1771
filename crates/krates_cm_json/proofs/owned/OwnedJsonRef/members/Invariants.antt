use Rattle.std.proofs.Common.{◌≡◌, List, ◌++◌}
use Rattle.serde_json.specs.View.{view, members_view}
use Rattle.serde_json.proofs.Views.{Entry}
use Rattle.krates_cm_json.specs.Entries.{entries_data}
use Rattle.krates_cm_json.proofs.owned.OwnedJsonRef.members.Given as goal

-- the entries so far are the members so far
abbrev pub invariant-loop-name : goal.invariant-loop-name
invariant-loop-name l = record {
  can : (goal.iterator-loop-name).can_next l.name-iterator;
  finite : (goal.iterator-loop-name).is_finite l.name-iterator;
  split : (done : List Entry) × (l.initial.name-iterator ≡ done ++ l.name-iterator) × (entries_data (λ j. view j.value.now) l.found.entries ≡ members_view done);
}
