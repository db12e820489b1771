use Rattle.std.proofs.Common.{List, [], ◌∷◌, refl, subst}
use Rattle.std.proofs.lemmas.List.{map-id}
use Rattle.std.specs.Prelude.{codes}
use Rattle.krates_cm.specs.Document.{target_view}
use Rattle.krates_cm.specs.declared.target.CrateType.{CrateType}
use Rattle.krates_cm.specs.declared.target.TargetKind.{TargetKind}
use Rattle.krates_cm_json.specs.Fields.{members_of, Added}
use Rattle.krates_cm_json.specs.Objects.{ListWritten}
use Rattle.krates_cm_json.specs.WrittenTexts.{CrateTypeWritten, TargetKindWritten}
use Rattle.krates_cm_json.specs.WrittenTables.{target_table}
use Rattle.krates_cm_json.proofs.WrittenFields.{AddedAll, ◌and◌, fields_written}
use Rattle.krates_cm_json.proofs.write.package.TargetToValue.to_value.Goals as goal

pub returns : goal.returns
returns c =
    let target = c.args.self.now in
    let table = target_table (target_view target) in
    let steps =
    c.in_ok-with.field-0 ∷ c.in_ok-with-2.field-0 ∷ c.in_ok-with-3.field-0
    ∷ c.in_ok-with-4.field-0 ∷ c.in_ok-with-5.field-0 ∷ c.in_ok-with-6.field-0
    ∷ c.in_ok-with_items.field-0 ∷ c.in_ok-with-7.field-0 ∷ c.in_ok-fields.fields
    ∷ [] in
    let Types = λ (forms : List CrateType). Added (codes "crate_types") (ListWritten CrateTypeWritten forms) (members_of c.new.result) (members_of c.in_ok-with.field-0) in
    let Kinds = λ (kinds : List TargetKind). Added (codes "kind") (ListWritten TargetKindWritten kinds) (members_of c.in_ok-with-4.field-0) (members_of c.in_ok-with-5.field-0) in
    let added : AddedAll table c.new.result steps =
    subst Types (map-id target.crate_types.items) c.in_ok-with.ensures and c.in_ok-with-2.ensures and c.in_ok-with-3.ensures
    and c.in_ok-with-4.ensures and subst Kinds (map-id target.kind.items) c.in_ok-with-5.ensures and c.in_ok-with-6.ensures
    and c.in_ok-with_items.ensures and c.in_ok-with-7.ensures and c.in_ok-fields.ensures
    and tt in
    rw c.object.ensures (fields_written table c.new.result steps c.new.ensures added refl)
