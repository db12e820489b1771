use Rattle.std.proofs.Common.{◌≡◌, drop}
use Rattle.json.specs.Value.{value_view, members_view}
use Rattle.serde_json.specs.Data.{no_members}
use Rattle.serde_json.specs.Read.{of_members}
use Rattle.krates_cm_json.specs.Entries.{entries_data}
use Rattle.krates_cm_json.specs.Readable.{data_in}
use Rattle.krates_cm_json.proofs.ReadableLemmas.{AreReadable}
use Rattle.krates_cm_json.proofs.borrowed.BorrowedJsonRef.members.Given as goal

-- the members that are left are readable, and once they are put all are
abbrev pub invariant-loop-member : goal.invariant-loop-member
invariant-loop-member l =
    let left = drop l.member-index l.member-items in
    record {
      readable : AreReadable left;
      put : of_members (members_view left) (entries_data (λ j. data_in (value_view j.tree.now)) l.found.entries) ≡ of_members (members_view l.member-items) no_members;
    }
