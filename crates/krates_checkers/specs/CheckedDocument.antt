-- The document that is checked: the given one, or, with an index, that with each package corrected by what the index answers.
use Rattle.std.specs.Prelude.{◌≡◌, Option, Some, None, option_map}
use Rattle.std.specs.Borrow.{Bor}
use Rattle.std.specs.List.{AllZip}
use Rattle.krates_cm.specs.Document.{MetadataModel}
use Rattle.krates_ids.specs.Correction.{IndexModel, IsCorrected, index_view}
use Rattle.krates_ids.specs.declared.correction.CachingIndex.{CachingIndex}

-- what the index of the caller answers
abbrev pub answer_of : Option (Bor CachingIndex) → Option IndexModel
answer_of index = option_map (λ i. index_view i.now.answer) index

-- each package is corrected by this index, and nothing else in the document is changed
pub record IsCorrectedBy (index : IndexModel) (given seen : MetadataModel) : Type 0 where
  pub packages : AllZip (IsCorrected index) given.packages seen.packages
  pub nothing_else : seen ≡ record given { packages = seen.packages }

-- without an index the document is checked as it is, with one as it is corrected
abbrev pub IsCheckedDocument : Option IndexModel → MetadataModel → MetadataModel → Type 0
IsCheckedDocument None given seen = seen ≡ given
IsCheckedDocument (Some index) given seen = IsCorrectedBy index given seen

-- this holds of the document that is checked
pub record HoldsOfChecked (index : Option IndexModel) (given : MetadataModel) (P : MetadataModel → Type 0) : Type 0 where
  pub seen : MetadataModel
  pub is_seen : IsCheckedDocument index given seen
  pub holds : P seen
