-- What an entry in the list of a feature refers to (Cargo Book, "Features").
use Rattle.std.specs.Prelude.{◌≡◌, ℕ, List, ◌++◌, codes}
use Rattle.krates_text.specs.Text.{BeginsWith, LacksText, IsCutAtFirst}
use Rattle.krates_text.specs.declared.features.Feature.{Feature}
use Rattle.krates_text.specs.declared.features.Feature.TheVariants as feature

-- a reference, by the texts of its parts
pub data Reference : Type 0 where
  krate : (name : List ℕ) → Reference
  weak : (name enables : List ℕ) → Reference
  strong : (name enables : List ℕ) → Reference
  simple : (name : List ℕ) → Reference

-- Which text is which reference: what follows "dep:" at the start; else the parts on the two sides of the
-- first "?/"; else of the first "/"; else the whole text.
abbrev pub IsReference : List ℕ → Reference → Type 0
IsReference text (krate name) = text ≡ codes "dep:" ++ name
IsReference text (weak name enables) = ¬ BeginsWith (codes "dep:") text × IsCutAtFirst (codes "?/") text name enables
IsReference text (strong name enables) = ¬ BeginsWith (codes "dep:") text × LacksText (codes "?/") text × IsCutAtFirst (codes "/") text name enables
IsReference text (simple name) = ¬ BeginsWith (codes "dep:") text × LacksText (codes "/") text × (name ≡ text)

-- a feature reference without where its parts lie in memory
abbrev pub reference_of : Feature → Reference
reference_of (feature.Krate name) = krate name.now
reference_of (feature.Weak name enables) = weak name.now enables.now
reference_of (feature.Strong name enables) = strong name.now enables.now
reference_of (feature.Simple name) = simple name.now

-- the text is one reference, and no other
pub record HasOneReading (text : List ℕ) : Type 0 where
  pub reading : Reference
  pub is : IsReference text reading
  pub only : (other : Reference) → IsReference text other → other ≡ reading
