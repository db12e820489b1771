use Rattle.std.proofs.Common.{[], ◌∷◌, refl}
use Rattle.krates_cm.specs.Document.{metadata_view}
use Rattle.krates_cm_json.specs.WrittenTables.{metadata_table}
use Rattle.krates_cm_json.proofs.WrittenFields.{AddedAll, ◌and◌, fields_written}
use Rattle.krates_cm_json.proofs.write.metadata.MetadataToValue.to_value.Goals as goal

pub returns : goal.returns
returns c =
    let table = metadata_table (metadata_view c.args.self.now) in
    let steps =
    c.in_ok-with_some.field-0 ∷ c.in_ok-with.field-0 ∷ c.in_ok-with-2.field-0
    ∷ c.in_ok-with-3.field-0 ∷ c.in_ok-with-4.field-0 ∷ c.in_ok-with-5.field-0
    ∷ c.in_ok-with_some-2.field-0 ∷ c.in_ok-with-6.field-0 ∷ c.in_ok-fields.fields
    ∷ [] in
    let added : AddedAll table c.new.result steps =
    c.in_ok-with_some.ensures and c.in_ok-with.ensures and c.in_ok-with-2.ensures
    and c.in_ok-with-3.ensures and c.in_ok-with-4.ensures and c.in_ok-with-5.ensures
    and c.in_ok-with_some-2.ensures and c.in_ok-with-6.ensures and c.in_ok-fields.ensures
    and tt in
    rw c.object.ensures (fields_written table c.new.result steps c.new.ensures added refl)
