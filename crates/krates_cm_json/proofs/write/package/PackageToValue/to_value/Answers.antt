use Rattle.std.proofs.Common.{[], ◌∷◌, refl}
use Rattle.std.specs.Prelude.{codes}
use Rattle.serde_json.specs.View.{view}
use Rattle.krates_cm.specs.Document.{package_view}
use Rattle.krates_cm_json.specs.Fields.{members_of, Added}
use Rattle.krates_cm_json.specs.Objects.{OptionWritten}
use Rattle.krates_cm_json.specs.WrittenTexts.{RustVersionWritten}
use Rattle.krates_cm_json.specs.WrittenTables.{package_table}
use Rattle.krates_cm_json.proofs.WrittenFields.{AddedAll, ◌and◌, fields_written}
use Rattle.krates_cm_json.proofs.write.package.PackageToValue.to_value.Goals as goal

pub returns : goal.returns
returns c =
    let table = package_table (package_view c.args.self.now) in
    let steps =
    c.in_ok-with.field-0 ∷ c.in_ok-with-2.field-0 ∷ c.in_ok-with-3.field-0
    ∷ c.in_ok-with-4.field-0 ∷ c.in_ok-with-5.field-0 ∷ c.in_ok-with-6.field-0
    ∷ c.in_ok-with-7.field-0 ∷ c.in_ok-with-8.field-0 ∷ c.in_ok-with-9.field-0
    ∷ c.in_ok-with-10.field-0 ∷ c.in_ok-with-11.field-0 ∷ c.in_ok-with-12.field-0
    ∷ c.in_ok-with-13.field-0 ∷ c.in_ok-with-14.field-0 ∷ c.in_ok-with-15.field-0
    ∷ c.in_ok-with-16.field-0 ∷ c.in_ok-with-17.field-0 ∷ c.in_ok-with-18.field-0
    ∷ c.in_ok-with-19.field-0 ∷ c.in_ok-with-20.field-0 ∷ c.in_ok-with_value.field-0
    ∷ c.in_ok-with-21.field-0 ∷ c.in_ok-with-22.field-0 ∷ c.in_ok-fields.fields
    ∷ [] in
    let rust : Added (codes "rust_version") (OptionWritten RustVersionWritten (package_view c.args.self.now).rust_version) (members_of c.in_ok-with-20.field-0) (members_of c.in_ok-with_value.field-0) =
    (view c.in_ok-rust_version.field-0, c.in_ok-rust_version.ensures, c.in_ok-with_value.ensures) in
    let added : AddedAll table c.new.result steps =
    c.in_ok-with.ensures and c.in_ok-with-2.ensures and c.in_ok-with-3.ensures
    and c.in_ok-with-4.ensures and c.in_ok-with-5.ensures and c.in_ok-with-6.ensures
    and c.in_ok-with-7.ensures and c.in_ok-with-8.ensures and c.in_ok-with-9.ensures
    and c.in_ok-with-10.ensures and c.in_ok-with-11.ensures and c.in_ok-with-12.ensures
    and c.in_ok-with-13.ensures and c.in_ok-with-14.ensures and c.in_ok-with-15.ensures
    and c.in_ok-with-16.ensures and c.in_ok-with-17.ensures and c.in_ok-with-18.ensures
    and c.in_ok-with-19.ensures and c.in_ok-with-20.ensures and rust
    and c.in_ok-with-21.ensures and c.in_ok-with-22.ensures and c.in_ok-fields.ensures
    and tt in
    rw c.object.ensures (fields_written table c.new.result steps c.new.ensures added refl)
