-- Crates that are built twice by number are those that cargo compiles twice.
use Rattle.std.proofs.Common.{◌≡◌, ◌↔◌, ℕ, List, refl, sym, ap, ◌∙◌, subst}
use Rattle.krates_cm.specs.Document.{Text}
use Rattle.krates_rules.specs.Facts.{Id}
use Rattle.krates_rules.specs.Resolved.{Resolved}
use Rattle.krates_units.specs.BuildFacts.{CompiledUnit, Platform}
use Rattle.krates_units.specs.BuildFacts as means
use Rattle.krates_units.specs.BuildSetting.{BuildSettingModel}
use Rattle.krates_units.specs.Built.{IsCompiled, IsDerivable, as_script, as_unit}
use Rattle.krates_units.specs.Machines.{MachineModel}
use Rattle.krates_units.specs.declared.sides.Side.{Side}
use Rattle.krates_build_tables.specs.TablesOf.{AreTables, CrateAt}
use Rattle.krates_build_tables.specs.declared.tables.Tables.{Tables}
use Rattle.krates_build_facts.specs.FactModels.{ActivatedFeature, Compiled}
use Rattle.krates_build_facts.specs.Meanings.{EachHasMeaning, EachHasNumber, Follows, FollowsAsDerivable}
use Rattle.krates_build_facts.specs.Rows.{features_side}
use Rattle.krates_build_facts.specs.declared.facts.UnitPlace.{UnitPlace}
use Rattle.krates_build_facts.proofs.Decisions.{features_means, features_tells}
use Rattle.krates_build_facts.proofs.UniqueMeanings.{one_id}
use Rattle.krates_built.specs.BuildLists.{script_fact}
use Rattle.krates_built.specs.declared.places.ScriptPlace.{ScriptPlace}
use Rattle.krates_build_answers.specs.BuiltTwice.{HasFeatureOn, IsBuiltOn, IsBuiltTwice}
use Rattle.krates_build_answers.specs.BuiltTwice as by_number
use Rattle.krates_build_answers.specs.TwiceMeanings.{HasFeatureFor, IsCompiledTwice, TwiceIsCompiledTwice}
use Rattle.krates_build_answers.proofs.BuiltLaws.{unit_place}

module _ (exact : FollowsAsDerivable) (sound : EachHasMeaning) (complete : EachHasNumber) (r : Resolved) (s : BuildSettingModel) (ids : List Id)
    (ms : List MachineModel) (t : Tables) (tables : AreTables r s ids ms t) (c : ℕ) (i : Id) (at : CrateAt ids c i) where
  -- ---- sides

  -- a unit of the crate and for the side
  as_unit_of : (u : CompiledUnit) (n : Side) → u.krate ≡ i → u.placement.side ≡ n → IsDerivable r s (means.Compiled u) → (k : Platform) × IsCompiled r s i k n
  as_unit_of u n same side d = (u.placement.platform, subst (IsCompiled r s i u.placement.platform) side (as_unit u same d))

  compiled_on : (n : Side) → IsBuiltOn t c n → (k : Platform) × IsCompiled r s i k n
  compiled_on n (by_number.as_unit place follows is) =
      let w = sound r s ids ms t tables (Compiled place) follows in
      let u = w.1.0 in
      let h = w.1.1 in
      let here = subst (λ (m : ℕ). CrateAt ids m u.krate) is.krate_is h.entry_at.crate_at in
      as_unit_of u n (one_id ids c u.krate i here at) (sym h.placement.side ∙ is.side_is) (subst (IsDerivable r s) w.1.2 w.2)
  compiled_on n (by_number.as_script place follows is) =
      let here = subst (λ (m : ℕ). CrateAt ids m i) (sym is.krate_is) at in
      let d = (exact r s ids ms t tables (script_fact place) (means.ScriptCompiled i place.side) (i, here, refl)).0 follows in
      (means.host, subst (IsCompiled r s i means.host) is.side_is (as_script d))

  built_on_side : (k : Platform) (n : Side) → IsCompiled r s i k n → IsBuiltOn t c n
  built_on_side k n (as_unit u same d) =
      let w = unit_place exact sound complete r s ids ms t tables u d in
      let number : w.0.target.krate ≡ c = tables.ids_once w.0.target.krate c i (subst (CrateAt ids w.0.target.krate) same w.1.entry_at.crate_at) at in
      by_number.as_unit w.0 ((exact r s ids ms t tables (Compiled w.0) (means.Compiled u) (u, w.1, refl)).1 d)
      (record { krate_is = number; side_is = w.1.placement.side })
  built_on_side k n (as_script d) =
      let place : ScriptPlace = record { krate = c; side = n } in
      by_number.as_script place ((exact r s ids ms t tables (script_fact place) (means.ScriptCompiled i n) (i, at, refl)).1 d)
      (record { krate_is = refl; side_is = refl })

  -- ---- features

  feature : (n : Side) (f : Text) → Follows t (ActivatedFeature c n f) ↔ IsDerivable r s (means.ActivatedFeature i n f)
  feature n f = exact r s ids ms t tables (ActivatedFeature c n f) (means.ActivatedFeature i n f) (i, at, refl)

  has_for : (n : Side) (f : Text) → HasFeatureOn t c n f → HasFeatureFor r s i n f
  has_for n f h = (features_side t n, features_means s t n tables.first, (feature (features_side t n) f).0 h)

  has_on : (n : Side) (f : Text) → HasFeatureFor r s i n f → HasFeatureOn t c n f
  has_on n f (m, is, h) = subst (λ (k : Side). Follows t (ActivatedFeature c k f)) (features_tells s t n m tables.first is) ((feature m f).1 h)

  pub twice : IsBuiltTwice t c ↔ IsCompiledTwice r s i
  twice = (
    λ h. record {
      each = λ n. compiled_on n (h.each n);
      feature = h.differ.0;
      on = h.differ.1.on;
      off = h.differ.1.off;
      enabled = has_for h.differ.1.on h.differ.0 h.differ.1.enabled;
      disabled = λ x. h.differ.1.disabled (has_on h.differ.1.off h.differ.0 x);
    },
    λ h. record {
      each = λ n. (let w = h.each n in built_on_side w.0 n w.1);
      differ = (
        h.feature,
        record {
          on = h.on;
          off = h.off;
          enabled = has_on h.on h.feature h.enabled;
          disabled = λ x. h.disabled (has_for h.off h.feature x);
        },
      );
    },
  )

pub twice_compiled : FollowsAsDerivable → EachHasMeaning → EachHasNumber → TwiceIsCompiledTwice
twice_compiled exact sound complete r s ids ms t tables c i at = twice exact sound complete r s ids ms t tables c i at
