-- What a certificate is judged against.
use Rattle.std.specs.Prelude.{◌≡◌, List, []}
use Rattle.krates_cm.specs.Document.{MetadataModel, Text, metadata_view}
use Rattle.krates_rules.specs.Setting.{SettingModel}
use Rattle.krates_words.specs.Choice.{IsSettingOf}
use Rattle.krates_words.specs.SettingWords.{words_of}
use Rattle.krates_words.specs.Stated.{StatedModel}
use Rattle.krates_words.specs.declared.choice.Choice.{Choice}
use Rattle.krates_verdict.specs.declared.subject.CertificateSubject.{CertificateSubject}

-- a document, a setting, and words
pub record SubjectModel : Type 0 where
  pub metadata : MetadataModel
  pub setting : SettingModel
  pub words : List Text

-- the document, judged under a setting by the words that are stated with it
abbrev pub judged_under : MetadataModel → StatedModel → SubjectModel
judged_under m stated = record { metadata = m; setting = stated.setting; words = stated.words }

abbrev pub subject_view : CertificateSubject → SubjectModel
subject_view s = judged_under (metadata_view s.metadata.now) s.stated.now

-- It is judged against this document, under the setting that the choice means, by the words that mean it.
pub record IsSubjectOf (c : Choice) (m : MetadataModel) (s : SubjectModel) : Type 0 where
  pub metadata : s.metadata ≡ m
  pub setting : IsSettingOf c [] s.setting
  pub words : s.words ≡ words_of c

-- There is a choice that means its setting and has its words.
abbrev pub IsOfOneChoice : SubjectModel → Type 0
IsOfOneChoice s = (c : Choice) × IsSubjectOf c s.metadata s
