-- The references that the command line names, by those that its texts are.
use Rattle.std.proofs.Common.{◌≡◌, List, Contains, map, sym, ◌∙◌, subst}
use Rattle.krates_cm.specs.Document.{Text}
use Rattle.krates_rules.proofs.OnlyOne.{place_in}
use Rattle.krates_rules.proofs.Readings.{left_of, right_of}
use Rattle.krates_rules.proofs.Standings.{contains_at}
use Rattle.krates_text.specs.FeatureReference.{Reference, HasOneReading, IsReference}
use Rattle.krates_units.specs.BuildSetting.{BuildSettingModel}
use Rattle.krates_build_tables.specs.References.{reference_view}
use Rattle.krates_build_tables.specs.Requests.{AreGiven}
use Rattle.krates_build_tables.specs.RequestsTaken.{AreReferencesOf}
use Rattle.krates_build_tables.specs.declared.reference.FeatureReference.{FeatureReference}

pub are_given : ((text : Text) → HasOneReading text) → (s : BuildSettingModel) (references : List FeatureReference) → AreReferencesOf s.features (map reference_view references) → AreGiven s references
are_given one s references are v =
    let views = map reference_view references in (
      λ g.
          let at = place_in s.features g.text g.among in
          let y = right_of IsReference s.features views at.0 g.text are at.1 in
          let reading = one g.text in
          let same : y.0 ≡ v = reading.only y.0 y.2 ∙ sym (reading.only v g.is) in
          subst (λ (w : Reference). Contains views w) same (contains_at views at.0 y.0 y.1),
      λ c.
          let at = place_in views v c in
          let x = left_of IsReference s.features views at.0 v are at.1 in
          record { text = x.0; among = contains_at s.features at.0 x.0 x.1; is = x.2 },
    )
