-- The fields of an object that is being written.
use Rattle.std.specs.Prelude.{◌≡◌, Bool, MatchBool}
use Rattle.serde_json.specs.Data.{Data, Members, put}
use Rattle.serde_json.specs.View.{members_view}
use Rattle.krates_cm.specs.Document.{Text}
use Rattle.krates_cm_json.specs.declared.write.object.Fields.{Fields}

abbrev pub members_of : Fields → Members
members_of fields = members_view fields.members.entries

-- under the key is put what may be written there
abbrev pub Added : Text → (Data → Type 0) → Members → Members → Type 0
Added key W before after = (d : Data) × W d × (after ≡ put key d before)

-- the same if something holds; otherwise nothing changes
abbrev pub AddedWhere : Bool → Text → (Data → Type 0) → Members → Members → Type 0
AddedWhere there key W before after = MatchBool there (Added key W before after) (after ≡ before)
