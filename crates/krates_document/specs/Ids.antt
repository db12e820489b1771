-- The ids of a document as clauses see them, in the order of the document.
use Rattle.krates_document.specs.declared.ids.Ids.{Ids}
use Rattle.krates_document.specs.declared.ids.ReadIds.{ReadIds}
use Rattle.krates_document.specs.IdLists.{ids_model}
use Rattle.krates_rules.specs.Admission.{IdsModel}

abbrev pub ids_view : Ids → IdsModel
ids_view ids = ids_model ids.packages ids.members ids.root ids.nodes ids.deps ids.versions

-- before its crates are numbered
abbrev pub read_view : ReadIds → IdsModel
read_view ids = ids_model ids.packages ids.members ids.root ids.nodes ids.deps ids.versions
