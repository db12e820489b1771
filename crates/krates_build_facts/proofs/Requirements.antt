-- Premises that say that the features are available which a target requires.
use Rattle.std.proofs.Common.{◌≡◌, ℕ, List, [], ◌∷◌, map, Bor, refl, sym, subst, inl, inr}
use Rattle.krates_cm.specs.Document.{TargetModel, Text}
use Rattle.krates_rules.specs.Facts.{Id}
use Rattle.krates_rules.specs.Resolved.{Resolved}
use Rattle.krates_units.specs.BuildFacts.{Fact}
use Rattle.krates_units.specs.BuildFacts as means
use Rattle.krates_units.specs.BuildRules as rules
use Rattle.krates_units.specs.BuildSetting.{BuildSettingModel}
use Rattle.krates_units.specs.Built.{IsPremise}
use Rattle.krates_units.specs.Machines.{MachineModel}
use Rattle.krates_build_tables.specs.TablesOf.{CrateAt, TargetSays}
use Rattle.krates_build_tables.specs.declared.tables.Tables.{Tables}
use Rattle.krates_build_tables.specs.declared.tables.TargetEntry.{TargetEntry}
use Rattle.krates_build_facts.specs.FactModels.{Available}
use Rattle.krates_build_facts.specs.Meanings.{AreMeant, Follows}
use Rattle.krates_build_facts.specs.Rows.{requires}
use Rattle.krates_build_facts.proofs.Claims.{HasNumbers}
use Rattle.krates_build_facts.proofs.RowLists.{Each, each_more, each_none}

module _ (r : Resolved) (s : BuildSettingModel) (ids : List Id) (ms : List MachineModel) (t : Tables) where
  texts_meant : {X : Type 0} (text : X → Text) (c : ℕ) (i : Id) (xs : List X) → CrateAt ids c i
      → AreMeant r s ids ms t (map (λ x. Available c (text x)) xs) (map (means.Available i) (map text xs))
  texts_meant text c i [] crate = tt
  texts_meant text c i (x ∷ xs) crate = ((i, crate, refl), texts_meant text c i xs crate)

  texts_follow : {X : Type 0} (text : X → Text) (c : ℕ) (i : Id) (xs : List X) → CrateAt ids c i
      → ((g : Fact) → IsPremise g (map (means.Available i) (map text xs)) → HasNumbers r s ids ms t g)
      → Each (Follows t) (map (λ x. Available c (text x)) xs)
  texts_follow text c i [] crate have = each_none (Follows t)
  texts_follow text c i (x ∷ xs) crate have =
      each_more (Follows t) (Available c (text x)) (map (λ x. Available c (text x)) xs)
      ((have (means.Available i (text x)) (inl refl)).follows (Available c (text x)) (i, crate, refl))
      (texts_follow text c i xs crate (λ g is. have g (inr is)))

  -- what the target requires means what the rules want to be available
  pub requires_meant : (c : ℕ) (i : Id) (x : TargetEntry) (m : TargetModel) → x.place.krate ≡ c → CrateAt ids c i → TargetSays s x m
      → AreMeant r s ids ms t (requires x) (rules.requires i m)
  requires_meant c i x m number crate says =
      let here : CrateAt ids x.place.krate i = subst (λ c. CrateAt ids c i) (sym number) crate in
      subst (λ (fs : List Text). AreMeant r s ids ms t (requires x) (map (means.Available i) fs)) says.required
      (texts_meant (λ (text : Bor Text). text.now) x.place.krate i x.required.items here)

  -- and it is available by rows, if it is by the rules
  pub requires_follow : (c : ℕ) (i : Id) (x : TargetEntry) (m : TargetModel) → x.place.krate ≡ c → CrateAt ids c i → TargetSays s x m
      → ((g : Fact) → IsPremise g (rules.requires i m) → HasNumbers r s ids ms t g) → Each (Follows t) (requires x)
  requires_follow c i x m number crate says have =
      let here : CrateAt ids x.place.krate i = subst (λ c. CrateAt ids c i) (sym number) crate in
      texts_follow (λ (text : Bor Text). text.now) x.place.krate i x.required.items here
      (subst (λ fs. (g : Fact) → IsPremise g (map (means.Available i) fs) → HasNumbers r s ids ms t g) (sym says.required) have)
