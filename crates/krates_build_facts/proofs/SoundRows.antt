-- Each row is a rule: by the rule, by what its premises mean, and by the rows of each link and of the entry of a crate.
use Rattle.std.proofs.Common.{◌≡◌, List, [], ◌∷◌, Bool, true, false, if◌then◌else◌, ap₂, refl, subst}
use Rattle.std.specs.List.{slice_get}
use Rattle.krates_cm.specs.Document.{DependencyModel}
use Rattle.krates_rules.specs.Facts.{Id, Edge}
use Rattle.krates_rules.specs.Resolved.{Resolved}
use Rattle.krates_units.specs.BuildFacts.{Fact}
use Rattle.krates_units.specs.BuildRules.{Rule}
use Rattle.krates_units.specs.BuildSetting.{BuildSettingModel}
use Rattle.krates_units.specs.Machines.{MachineModel}
use Rattle.krates_units.specs.Resolves.{Resolves}
use Rattle.krates_build_tables.specs.TablesOf.{AreTables}
use Rattle.krates_build_tables.specs.declared.tables.CrateEntry.{CrateEntry}
use Rattle.krates_build_tables.specs.declared.tables.Link.{Link}
use Rattle.krates_build_tables.specs.declared.tables.Tables.{Tables}
use Rattle.krates_build_facts.specs.FactModels.{FactModel}
use Rattle.krates_build_facts.specs.Meanings.{AreMeant, Means}
use Rattle.krates_build_facts.specs.Rows.{entry_rows, home, link_rows, rows_alone, rows_in, rows_of}
use Rattle.krates_build_facts.proofs.Claims.{AreSound, IsSound}
use Rattle.krates_build_facts.proofs.RowLists.{rows_append, rows_flat, rows_some}
use Rattle.krates_build_facts.proofs.TableEntries.{CrateHere, LinkOf, crate_of, link_of}
use Rattle.krates_build_facts.proofs.UniqueMeanings.{unique_meaning}

module _ (r : Resolved) (s : BuildSettingModel) (ids : List Id) (ms : List MachineModel) (t : Tables) where
  -- ---- one row

  -- numbers mean one list of facts
  same_facts : (ns : List FactModel) (fs gs : List Fact) → AreMeant r s ids ms t ns fs → AreMeant r s ids ms t ns gs → fs ≡ gs
  same_facts [] [] [] h k = refl
  same_facts [] [] (g ∷ gs) h k = absurd k
  same_facts [] (f ∷ fs) gs h k = absurd h
  same_facts (n ∷ ns) [] gs h k = absurd h
  same_facts (n ∷ ns) (f ∷ fs) [] h k = absurd k
  same_facts (n ∷ ns) (f ∷ fs) (g ∷ gs) h k =
      ap₂ (λ (x : Fact) (xs : List Fact). x ∷ xs) (unique_meaning r s ids ms t n f g h.0 k.0) (same_facts ns fs gs h.1 k.1)

  -- by a rule, whose premises those of the row mean
  pub gives : (ps : List FactModel) (n : FactModel) (f : Fact) (premises : List Fact) → Means r s ids ms t n f → Rule r s premises f
      → AreMeant r s ids ms t ps premises → IsSound r s ids ms t ps n
  gives ps n f premises means by are fs meant =
      (f, means, subst (λ (gs : List Fact). Rule r s gs f) (same_facts ps premises fs are meant) by)

  -- by what the first premise means
  pub by_first : (p : FactModel) (ps : List FactModel) (n : FactModel)
      → ((f : Fact) → Means r s ids ms t p f → IsSound r s ids ms t (p ∷ ps) n) → IsSound r s ids ms t (p ∷ ps) n
  by_first p ps n sound [] meant = absurd meant
  by_first p ps n sound (f ∷ fs) meant = sound f meant.0 (f ∷ fs) meant

  -- a premise that is there only if a dependency is optional
  pub optional : (b c : Bool) (n : FactModel) (f : Fact) → b ≡ c → Means r s ids ms t n f
      → AreMeant r s ids ms t (if b then n ∷ [] else []) (if c then f ∷ [] else [])
  optional true true n f e means = (means, tt)
  optional true false n f e means = absurd cc
  optional false true n f e means = absurd cc
  optional false false n f e means = tt

  -- ---- the rows that begin with a fact

  pub sound_rows : AreTables r s ids ms t → (f : FactModel) → AreSound r s ids ms t (rows_alone f)
      → ((e : CrateEntry) (i : Id) → CrateHere r s ids ms t (home f) i e → (l : Link) (edge : Edge) (d : DependencyModel)
      → Resolves r edge d → LinkOf r s ids ms t (home f) l edge d → AreSound r s ids ms t (link_rows t e f l))
      → ((e : CrateEntry) (i : Id) → CrateHere r s ids ms t (home f) i e → AreSound r s ids ms t (entry_rows t e f))
      → AreSound r s ids ms t (rows_of t f)
  sound_rows tables f alone by_link by_entry =
      let P = IsSound r s ids ms t in
      rows_append P _ _ alone (rows_some P (slice_get t.crates.items (home f)) (rows_in t f) (λ e at.
      let crate = crate_of r s ids ms t tables (home f) e at in
      rows_append P _ _
      (rows_flat P (link_rows t e f) e.links.items (λ l among.
      let link = link_of r s ids ms t tables (home f) crate.0 e crate.1 l among in
      by_link e crate.0 crate.1 l link.0 link.1 link.2 link.3))
      (by_entry e crate.0 crate.1)))
