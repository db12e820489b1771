-- The document that is checked: corrected by the index, if there is one.
use Rattle.std.proofs.Common.{Option}
use Rattle.krates_cm.specs.Document.{MetadataModel, metadata_view}
use Rattle.krates_cm.specs.declared.metadata.Metadata.{Metadata}
use Rattle.krates_ids.specs.Correction.{IndexModel, index_view}
use Rattle.krates_ids.specs.declared.index.IndexAnswer.{IndexAnswer}
use Rattle.krates_document.specs.CorrectedDocument.{IsCorrectedDocument}
use Rattle.krates_document.proofs.CorrectedDocument.{views_corrected, rest_kept}
use Rattle.krates_checkers.specs.CheckRefusals.{IsRefusedThrough}
use Rattle.krates_checkers.specs.CheckedDocument.{IsCorrectedBy, IsCheckedDocument, HoldsOfChecked}
use Rattle.krates_checkers.specs.declared.check_error.CheckError.{CheckError}
use Rattle.krates_checkers.specs.declared.check_error.CheckError.TheVariants as refusals

pub sees : (index : Option IndexModel) (m seen : MetadataModel) (P : MetadataModel → Type 0) → IsCheckedDocument index m seen → P seen → HoldsOfChecked index m P
sees index m seen P is h = record { seen = seen; is_seen = is; holds = h }

-- a refusal of the document that is checked
pub refused_through : (index : Option IndexModel) (m seen : MetadataModel) (R : MetadataModel → CheckError → Type 0) (e : CheckError) → IsCheckedDocument index m seen → R seen e → IsRefusedThrough index m R e
refused_through index m seen R refusals.Document is h = sees index m seen (λ x. R x refusals.Document) is h
refused_through index m seen R refusals.Empty is h = sees index m seen (λ x. R x refusals.Empty) is h
refused_through index m seen R (refusals.Step number) is h = sees index m seen (λ x. R x (refusals.Step number)) is h
refused_through index m seen R refusals.Memory is h = tt
refused_through index m seen R refusals.Open is h = sees index m seen (λ x. R x refusals.Open) is h

-- a document whose packages are corrected is the corrected document of the definition
pub corrected_by : (answer : IndexAnswer) (m p : Metadata) → IsCorrectedDocument answer m p → IsCorrectedBy (index_view answer) (metadata_view m) (metadata_view p)
corrected_by answer m p h = record { packages = views_corrected answer m p h; nothing_else = rest_kept answer m p h }
