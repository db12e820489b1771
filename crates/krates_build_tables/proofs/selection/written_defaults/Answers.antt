use Rattle.std.proofs.Common.{List, map, option_map, ap, ◌∙◌, sym, subst}
use Rattle.krates_cm.specs.Document.{id_view, ids_view, default_members_view}
use Rattle.krates_cm.specs.declared.metadata.Metadata.{Metadata}
use Rattle.krates_cm.specs.declared.package_id.PackageId.{PackageId}
use Rattle.krates_build_tables.specs.RequestsFlags.{AreReadFrom}
use Rattle.krates_build_tables.proofs.selection.written_defaults.Goals as goal

pub returns-in_ok-read_ids-in-Some : goal.returns-in_ok-read_ids-in-Some
returns-in_ok-read_ids-in-Some c = record {
  texts = map id_view c.in-Some.ids.items;
  are = ap (λ (m : Metadata). default_members_view m.workspace_default_members) (sym c.metadata.ensures) ∙ ap (option_map ids_view) c.in-Some.is;
  read = subst (λ (ts : List PackageId). AreReadFrom (map id_view ts) c.in_ok-read_ids-in-Some.field-0.items) c.deref.ensures.value c.in_ok-read_ids-in-Some.ensures;
}
