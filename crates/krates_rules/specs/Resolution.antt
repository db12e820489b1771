-- What a document comes to under a setting: which facts are derived, and why nothing is selected.
use Rattle.krates_cm.specs.Document.{MetadataModel}
use Rattle.krates_ids.specs.declared.error.Error.{Error}
use Rattle.krates_rules.specs.Derivation.{Derivable}
use Rattle.krates_rules.specs.Facts.{Fact}
use Rattle.krates_rules.specs.Questions.{questions}
use Rattle.krates_rules.specs.Resolved.{HasGraphWith, resolved}
use Rattle.krates_rules.specs.SelectionRefusals.{SelectionRefusal}
use Rattle.krates_rules.specs.Setting.{SettingModel}

-- the fact is derivable from the roots by the rules, by what the document's graph and the setting answer them
abbrev pub IsDerived : MetadataModel → SettingModel → Fact → Type 0
IsDerived m s f = HasGraphWith m (λ g. Derivable (questions (resolved m g) s) f)

-- why nothing is selected of the document under the setting
abbrev pub RefusesSelection : MetadataModel → SettingModel → Error → Type 0
RefusesSelection m s e = HasGraphWith m (λ g. SelectionRefusal (questions (resolved m g) s) e)
