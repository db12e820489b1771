-- The crates of units and build scripts, in one list.
use Rattle.std.proofs.Common.{◌≡◌, ◌↔◌, ℕ, List, ◌++◌, Contains, map, sym, subst, inl, inr}
use Rattle.krates_rules.proofs.Members.{Member, contains_of, mapped_of, member_append, member_left, member_map, member_of, member_right}
use Rattle.krates_build_tables.specs.declared.tables.Tables.{Tables}
use Rattle.krates_build_facts.specs.FactModels.{Compiled}
use Rattle.krates_build_facts.specs.declared.facts.UnitPlace.{UnitPlace}
use Rattle.krates_built.specs.BuildLists.{IsListOf, script_cmp, script_fact, unit_cmp}
use Rattle.krates_built.specs.declared.places.ScriptPlace.{ScriptPlace}
use Rattle.krates_build_answers.specs.BuiltCrates.{AreBuiltIn, IsAmong, IsBuiltAt, as_script, as_unit, of_script, of_unit}
use Rattle.krates_build_answers.specs.declared.built_crates.BuiltCrate.{BuiltCrate}
use Rattle.krates_build_answers.proofs.SomeElements.{any_has, any_of}

module _ (t : Tables) (units : List UnitPlace) (scripts : List ScriptPlace) (of_units : IsListOf t Compiled unit_cmp units)
    (of_scripts : IsListOf t script_fact script_cmp scripts) where
  built_here : (x : BuiltCrate) → Contains (map of_unit units ++ map of_script scripts) x → IsBuiltAt t x
  built_here x c = elim (member_append (map of_unit units) (map of_script scripts) x (member_of _ x c)) [
    | inl m ↦ (let w = mapped_of of_unit units x m in as_unit w.from ((of_units.exact w.from).0 (contains_of units w.from w.member)) w.is)
    | inr m ↦ (let w = mapped_of of_script scripts x m in as_script w.from ((of_scripts.exact w.from).0 (contains_of scripts w.from w.member)) w.is)
  ]

  listed_here : (x : BuiltCrate) → IsBuiltAt t x → Contains (map of_unit units ++ map of_script scripts) x
  listed_here x (as_unit u follows is) = contains_of _ x (subst (Member (map of_unit units ++ map of_script scripts)) is
      (member_left (map of_unit units) (map of_script scripts) (of_unit u) (member_map of_unit units u (member_of units u ((of_units.exact u).1 follows)))))
  listed_here x (as_script u follows is) = contains_of _ x (subst (Member (map of_unit units ++ map of_script scripts)) is
      (member_right (map of_unit units) (map of_script scripts) (of_script u) (member_map of_script scripts u (member_of scripts u ((of_scripts.exact u).1 follows)))))

  -- these are exactly what is built
  pub all_built : (built : List BuiltCrate) → ((x : BuiltCrate) → Contains built x ↔ Contains (map of_unit units ++ map of_script scripts) x) → AreBuiltIn t built
  all_built built same x = (λ c. built_here x ((same x).0 c), λ h. (same x).1 (listed_here x h))

-- ---- numbers

-- the numbers of the crates in a list
pub numbers_among : (places : List BuiltCrate) (all krates : List ℕ) → all ≡ map (λ (x : BuiltCrate). x.krate) places
    → ((k : ℕ) → Contains krates k ↔ Contains all k) → (k : ℕ) → Contains krates k ↔ IsAmong k places
numbers_among places all krates is same k =
    let number = λ (x : BuiltCrate). x.krate in (
      λ c. (
          let w = mapped_of number places k (member_of (map number places) k (subst (λ (ns : List ℕ). Contains ns k) is ((same k).0 c))) in
          any_of (λ (x : BuiltCrate). x.krate ≡ k) places w.from (contains_of places w.from w.member) w.is),
      λ a. (
          let w = any_has (λ (x : BuiltCrate). x.krate ≡ k) places a in
          let there = contains_of (map number places) (number w.0) (member_map number places w.0 (member_of places w.0 w.1)) in
          (same k).1 (subst (λ (ns : List ℕ). Contains ns k) (sym is) (subst (Contains (map number places)) w.2 there))),
    )
