-- The rows of what is available, for a target that requires it.
use Rattle.std.proofs.Common.{◌≡◌, ℕ, Bool, true, false, List, [], ◌∷◌, ◌++◌, eqb-true, eq-eqb, ap₂, Option, Some, None, if◌then◌else◌, ◌==◌, codes, refl, sym, ap, ◌∙◌, subst, inl, inr}
use Rattle.std.proofs.lemmas.Option.{same_Some}
use Rattle.krates_cm.specs.Document.{DependencyModel, Text}
use Rattle.krates_rules.specs.DeclaredDependency.{declared_name}
use Rattle.krates_rules.specs.Facts.{Id, Edge}
use Rattle.krates_rules.specs.Resolved.{Resolved}
use Rattle.krates_units.specs.BuildFacts as means
use Rattle.krates_units.specs.BuildRules as rules
use Rattle.krates_units.specs.BuildSetting.{BuildSettingModel}
use Rattle.krates_units.specs.Machines.{MachineModel}
use Rattle.krates_units.specs.Sides.{LooksOn}
use Rattle.krates_units.specs.declared.sides.Side.{Side}
use Rattle.krates_units.specs.declared.sides.Side.TheVariants as sides
use Rattle.krates_build_tables.specs.TablesOf.{AreTables, CrateAt}
use Rattle.krates_build_tables.specs.declared.tables.Link.{Link}
use Rattle.krates_build_tables.specs.declared.tables.LinkPlace.{LinkPlace}
use Rattle.krates_build_tables.specs.declared.tables.Tables.{Tables}
use Rattle.krates_build_facts.specs.FactModels.{ActivatedFeature, Available, Linked}
use Rattle.krates_build_facts.specs.Meanings.{Follows}
use Rattle.krates_build_facts.specs.Rows.{feature_behind, rows_of, rule}
use Rattle.krates_build_facts.proofs.Claims.{AreSound, HasNumbers, IsCovered, IsSound}
use Rattle.krates_build_facts.proofs.CoverRows.{by_rows, in_alone, in_link, linked_at, linked_here, numbers}
use Rattle.krates_build_facts.proofs.FactNumbers.{of_number}
use Rattle.krates_build_facts.proofs.RowLists.{each_one, each_two, here, in_some, rows_none, rows_one, rows_some}
use Rattle.krates_build_facts.proofs.SoundRows.{by_first, gives, sound_rows}
use Rattle.krates_build_facts.proofs.TableEntries.{LinkHere, LinkOf}

-- ---- what follows a name

slash_is : (name f : Text) → name ++ codes "/" ++ f ≡ name ++ (47 ∷ f)
slash_is [] f = refl
slash_is (x ∷ name) f = ap (λ (rest : Text). x ∷ rest) (slash_is name f)

behind_name : (name f : Text) → feature_behind name (name ++ (47 ∷ f)) ≡ Some f
behind_name [] f = refl
behind_name (x ∷ name) f = let same : (x == x) ≡ true = eq-eqb x x refl in rw same (behind_name name f)

slash_first : (y : ℕ) (text f : Text) (b : Bool) → (y == 47) ≡ b → (if b then Some text else None) ≡ Some f → y ∷ text ≡ 47 ∷ f
slash_first y text f true same is = let at : y ≡ 47 = eqb-true y 47 same in ap₂ (λ (z : ℕ) (rest : Text). z ∷ rest) at (same_Some text f is)
slash_first y text f false same is = absurd cc

same_first : (x y : ℕ) (o : Option Text) (f : Text) (b : Bool) → (x == y) ≡ b → (if b then o else None) ≡ Some f → (x ≡ y) × (o ≡ Some f)
same_first x y o f true same is = (eqb-true x y same, is)
same_first x y o f false same is = absurd cc

name_before : (name text f : Text) → feature_behind name text ≡ Some f → text ≡ name ++ (47 ∷ f)
name_before [] [] f is = absurd cc
name_before [] (y ∷ text) f is = slash_first y text f (y == 47) refl is
name_before (x ∷ name) [] f is = absurd cc
name_before (x ∷ name) (y ∷ text) f is =
    let both = same_first x y (feature_behind name text) f (x == y) refl is in
    ap₂ (λ (z : ℕ) (rest : Text). z ∷ rest) (sym both.0) (name_before name text f both.1)

module _ (r : Resolved) (s : BuildSettingModel) (ids : List Id) (ms : List MachineModel) (t : Tables)
    (tables : AreTables r s ids ms t) where
  -- ---- the rows are rules

  itself : (c : ℕ) (text : Text) → IsSound r s ids ms t (ActivatedFeature c sides.Targets text ∷ []) (Available c text)
  itself c text =
      let first = ActivatedFeature c sides.Targets text in
      by_first r s ids ms t first [] (Available c text) (λ f is.
      gives r s ids ms t (first ∷ []) (Available c text) (means.Available is.0 text) (means.ActivatedFeature is.0 sides.Targets text ∷ [])
      (is.0, is.1, refl) rules.available ((is.0, is.1, refl), tt))

  below : (c : ℕ) (text f : Text) (l : Link) (e : Edge) (d : DependencyModel) → LinkOf r s ids ms t c l e d
      → feature_behind l.name.now text ≡ Some f
      → IsSound r s ids ms t (Linked l.place ∷ ActivatedFeature l.child l.looks_on f ∷ []) (Available c text)
  below c text f l e d link behind =
      let text_is : text ≡ declared_name d ++ codes "/" ++ f =
      name_before l.name.now text f behind ∙ ap (λ name. name ++ (47 ∷ f)) link.says.name ∙ sym (slash_is (declared_name d) f) in
      gives r s ids ms t (Linked l.place ∷ ActivatedFeature l.child l.looks_on f ∷ []) (Available c text)
      (means.Available e.parent (declared_name d ++ codes "/" ++ f)) _
      (e.parent, link.parent_at, ap (means.Available e.parent) (sym text_is))
      (rules.available_below {d = d} ((link.says.looks l.looks_on).1 refl))
      ((e, d, link.means, refl), ((e.child, link.says.child, refl), tt))

  pub sound_available : (c : ℕ) (text : Text) → AreSound r s ids ms t (rows_of t (Available c text))
  sound_available c text =
      let P = IsSound r s ids ms t in
      sound_rows r s ids ms t tables (Available c text) (rows_one P _ _ (itself c text))
      (λ entry i crate l e d resolves link.
      rows_some P (feature_behind l.name.now text) _ (λ f behind. rows_one P _ _ (below c text f l e d link behind)))
      (λ entry i crate. rows_none P)

  -- ---- what the rules make available is so by rows

  pub available : (p : Id) (f : Text) → IsCovered r s ids ms t (means.ActivatedFeature p sides.Targets f ∷ []) (means.Available p f)
  available p f have =
      let has = have (means.ActivatedFeature p sides.Targets f) (inl refl) in
      let number = of_number r s ids ms t (λ n. (c : ℕ) × CrateAt ids c p) (means.ActivatedFeature p sides.Targets f)
      (λ c at. (c, at)) has.number has.means in
      numbers r s ids ms t (means.Available p f) (Available number.0 f) (p, number.1, refl) (λ c at.
      by_rows t (Available c f) (ActivatedFeature c sides.Targets f ∷ []) (Available c f) (in_alone t (Available c f) _ (here _ []))
      (each_one (Follows t) (ActivatedFeature c sides.Targets f) (has.follows (ActivatedFeature c sides.Targets f) (p, at, refl))))

  below_follows : (e : Edge) (d : DependencyModel) (m : Side) (f : Text) (place : LinkPlace) → LinkHere r s ids ms t place e d
      → LooksOn r s e m → HasNumbers r s ids ms t (means.Linked e d) → HasNumbers r s ids ms t (means.ActivatedFeature e.child m f)
      → Follows t (Available place.krate (declared_name d ++ codes "/" ++ f))
  below_follows e d m f place link looks linked feature =
      let l = link.link in
      let text = declared_name d ++ codes "/" ++ f in
      let begin = Available place.krate text in
      let behind : feature_behind l.name.now text ≡ Some f =
      ap (λ name. feature_behind name text) link.says.name ∙ ap (feature_behind (declared_name d)) (slash_is (declared_name d) f)
      ∙ behind_name (declared_name d) f in
      let side : m ≡ l.looks_on = (link.says.looks m).0 looks in
      let needed = ActivatedFeature l.child l.looks_on f in
      let ps = Linked l.place ∷ needed ∷ [] in
      by_rows t begin ps begin
      (in_link t begin link.entry place.index l (rule ps begin) link.crate.at link.at
      (in_some (feature_behind l.name.now text) f (λ f. rule (Linked l.place ∷ ActivatedFeature l.child l.looks_on f ∷ []) begin ∷ [])
      (rule ps begin) behind (here (rule ps begin) [])))
      (each_two (Follows t) (Linked l.place) needed (linked_at r s ids ms t place e d linked link)
      (feature.follows needed (e.child, link.says.child, ap (λ n. means.ActivatedFeature e.child n f) side)))

  pub available_below : (e : Edge) (d : DependencyModel) (m : Side) (f : Text) → LooksOn r s e m
      → IsCovered r s ids ms t (means.Linked e d ∷ means.ActivatedFeature e.child m f ∷ [])
      (means.Available e.parent (declared_name d ++ codes "/" ++ f))
  available_below e d m f looks have =
      let text = declared_name d ++ codes "/" ++ f in
      let linked = have (means.Linked e d) (inl refl) in
      let feature = have (means.ActivatedFeature e.child m f) (inr (inl refl)) in
      let found = linked_here r s ids ms t tables e d linked in
      let place = found.0 in
      let link = found.1 in
      numbers r s ids ms t (means.Available e.parent text) (Available place.krate text) (e.parent, link.crate.crate_at, refl) (λ c at.
      subst (λ k. Follows t (Available k text)) (tables.ids_once place.krate c e.parent link.crate.crate_at at)
      (below_follows e d m f place link looks linked feature))
