-- The kept crates, each beside its list.
use Rattle.std.proofs.Common.{◌≡◌, ℕ, suc, ◌+◌, ◌<◌, List, [], ◌∷◌, length, get_or, map, refl, sym, ap, ◌∙◌, subst, arith}
use Rattle.std.proofs.lemmas.List.{length-map}
use Rattle.std.proofs.lemmas.List.Elements.{All-from_recursion}
use Rattle.std.specs.Global.{Vec}
use Rattle.std.specs.List.{AllByRecursion, range_with_len, zip}
use Rattle.krates_queries.specs.Kept.{KeptCrates, ids_of}
use Rattle.krates_queries.specs.KrateNodes.{Match, crates_of}
use Rattle.krates_answers.specs.DirectLinks.{AreExactly, AreLinks, Needs, items_of}
use Rattle.krates_answers.specs.Materials.{AreMaterials, Component, IsWhole}
use Rattle.krates_answers.proofs.ListedNumbers.{each_of}

abbrev pub component_of : {N : Type 0} → Match N × Vec ℕ → Component N
component_of pair = record { krate = pair.0; depends_on = pair.1.items }

abbrev pub components_of : {N : Type 0} → List (Match N) → List (Vec ℕ) → List (Component N)
components_of crates lists = map component_of (zip crates lists)

same_crates : {N : Type 0} (crates : List (Match N)) (lists : List (Vec ℕ)) → length lists ≡ length crates → map (λ c. c.krate) (components_of crates lists) ≡ crates
same_crates [] lists counted = refl
same_crates (m ∷ crates) [] counted = absurd (omega (arith, counted))
same_crates (m ∷ crates) (list ∷ lists) counted = ap (λ ms. m ∷ ms) (same_crates crates lists (omega (arith, counted)))

each_component : {N : Type 0} (Leads : ℕ → ℕ → Type 0) (n : ℕ) (crates : List (Match N)) (lists : List (Vec ℕ)) → map (λ m. m.number) crates ≡ range_with_len n (length crates)
    → ((a : ℕ) → a < length lists → AreExactly (Leads (n + a)) (get_or (items_of lists) a [])) → AllByRecursion (λ (c : Component N). AreExactly (Leads c.krate.number) c.depends_on) (components_of crates lists)
each_component Leads n [] lists numbers exact = tt
each_component Leads n (m ∷ crates) [] numbers exact = tt
each_component Leads n (m ∷ crates) (list ∷ lists) numbers exact =
    let first : n + 0 ≡ m.number = (let same : m.number ≡ n = cc (numbers) in omega (arith, same)) in
    let rest : map (λ x. x.number) crates ≡ range_with_len (n + 1) (length crates) = cc (numbers) in (
      subst (λ k. AreExactly (Leads k) list.items) first (exact 0 (omega arith)),
      each_component Leads (n + 1) crates lists rest (λ a lt.
          (let next : n + suc a ≡ n + 1 + a = omega arith in
          subst (λ k. AreExactly (Leads k) (get_or (items_of lists) a [])) next (exact (suc a) (omega (arith, lt))))),
    )

pub are_materials : {N E : Type 0} (k : KeptCrates N E) (lists : List (Vec ℕ)) → map (λ m. m.number) (crates_of k) ≡ range_with_len 0 (length (ids_of k)) → length (crates_of k) ≡ length (ids_of k) → AreLinks (length (ids_of k)) (Needs k) (items_of lists)
    → AreMaterials k (components_of (crates_of k) lists)
are_materials k lists numbers counted links =
    let crates = crates_of k in
    let same : length (items_of lists) ≡ length lists = length-map lists (λ vector. vector.items) in
    let e = each_of (length (ids_of k)) (Needs k) (items_of lists) links in
    record {
      crates = same_crates crates lists (omega (arith, same, links.counted, counted));
      each = All-from_recursion (IsWhole k) (components_of crates lists)
          (each_component (Needs k) 0 crates lists (numbers ∙ ap (range_with_len 0) (sym counted)) (λ a lt.
          (let zero_first : a ≡ 0 + a = omega arith in
          subst (λ n. AreExactly (Needs k n) (get_or (items_of lists) a [])) zero_first (e.each a (omega (arith, lt, same))))));
    }
