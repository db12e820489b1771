-- The numbers of the crates that depend directly on each kept crate, and of those on which each depends.
use Rattle.std.proofs.Common.{◌≡◌, ℕ, ◌+◌, ◌<◌, ◌^◌, List, [], ◌∷◌, ◌++◌, length, map, Option, Some, None, All, slice_get, sym, refl, ap, ◌∙◌, subst, arith}
use Rattle.std.proofs.lemmas.List.{length_push}
use Rattle.std.proofs.lemmas.List.Elements.{All-contains}
use Rattle.std.proofs.lemmas.Map.Keys.{IsStrictlyIncreasing-from_sorted}
use Rattle.std.proofs.lemmas.Option.{none-some}
use Rattle.std.specs.List.{range_with_len}
use Rattle.krates_rules.proofs.Members.{contains_of}
use Rattle.krates_graph.specs.declared.graph.edge.GraphEdge.{GraphEdge}
use Rattle.krates_queries.specs.KrateNodes.{Match, crates_of, match_in, numbered_crates}
use Rattle.krates_queries.specs.Direct.{Joined, value_at, value_in, AreDependents, IsDependent}
use Rattle.krates_queries.specs.Kept.{KeptCrates, ids_of}
use Rattle.krates_drawing.specs.Node.{crate_ids}
use Rattle.krates_drawing.specs.declared.node.Node.{Node}
use Rattle.krates_drawing.specs.declared.node.Node.TheVariants.{Krate, Feature}
use Rattle.krates_queries.proofs.ReachedLemmas.{there_crate}
use Rattle.krates_answers.specs.DirectLinks.{AreExactly, AreLinks, AreStored, IsListed, IsNeededBy, Needs}
use Rattle.krates_answers.proofs.ListedNumbers.{AreEach, each_push, each_same, links_of, stored_of}

-- ---- a dependent is a kept crate

record CrateIn {N : Type 0} (n : ℕ) (o : Option (Node N)) : Type 0 where
  crate : Match N
  is : match_in n o ≡ Some crate
  number : crate.number ≡ n

crate_in : {N : Type 0} (n : ℕ) (o : Option (Node N)) (x : N) → value_in o ≡ Some x → CrateIn n o
crate_in n None x e = absurd (none-some x e)
crate_in n (Some (Krate id krate features mapping)) x e = record { crate = record { number = n; id = id; krate = krate }; is = refl; number = refl }
crate_in n (Some (Feature krate_index name)) x e = absurd (none-some x e)

-- so its number is below their count
number_below : {N : Type 0} (nodes : List (Node N)) (p : ℕ) (x : N) → All (λ (m : Match N). m.number < length (crate_ids nodes)) (numbered_crates 0 nodes) → value_at nodes p ≡ Some x → p < length (crate_ids nodes)
number_below {N} nodes p x below e =
    let c = crate_in p (slice_get nodes p) x e in
    let kept = contains_of (numbered_crates 0 nodes) c.crate (there_crate nodes p c.crate c.is) in
    subst (λ n. n < length (crate_ids nodes)) c.number (All-contains (λ (m : Match N). m.number < length (crate_ids nodes)) (numbered_crates 0 nodes) c.crate below kept)

pub exact_dependents : {N E : Type 0} (nodes : List (Node N)) (edges : List (GraphEdge E)) (d : ℕ) (joined : List (Joined N)) → AreDependents nodes edges d joined → AreExactly (IsDependent nodes edges d) (map (λ j. j.node) joined)
exact_dependents nodes edges d joined are = record { ascending = IsStrictlyIncreasing-from_sorted (map (λ j. j.node) joined) are.by_number; exactly = are.exactly }

-- ---- crate after crate

-- the lists are those of the first crates, and these are the others, of this number of crates
pub record AreFound {N : Type 0} (Leads : ℕ → ℕ → Type 0) (count : ℕ) (lists : List (List ℕ)) (left : List (Match N)) : Type 0 where
  pub each : AreEach Leads lists
  pub numbers : map (λ m. m.number) left ≡ range_with_len (length lists) (length left)
  pub counted : length lists + length left ≡ count

pub found_more : {N : Type 0} (Leads : ℕ → ℕ → Type 0) (count : ℕ) (lists : List (List ℕ)) (list : List ℕ) (m : Match N) (left : List (Match N)) → AreFound Leads count lists (m ∷ left) → AreExactly (Leads m.number) list → AreFound Leads count (lists ++ list ∷ []) left
found_more Leads count lists list m left f exact =
    let first : m.number ≡ length lists = cc (f.numbers) in
    let rest : map (λ x. x.number) left ≡ range_with_len (length lists + 1) (length left) = cc (f.numbers) in
    let more : length (lists ++ list ∷ []) ≡ length lists + 1 = length_push lists list in
    record {
      each = each_push Leads lists list f.each (subst (λ n. AreExactly (Leads n) list) first exact);
      numbers = rest ∙ ap (λ n. range_with_len n (length left)) (sym more);
      counted = omega (arith, more, f.counted);
    }

pub found_count : {N : Type 0} (Leads : ℕ → ℕ → Type 0) (count : ℕ) (lists : List (List ℕ)) (left : List (Match N)) → left ≡ [] → AreFound Leads count lists left → length lists ≡ count
found_count Leads count lists left none f = omega (arith, f.counted, ap length none)

-- ---- all of them

pub needed_links : {N E : Type 0} (k : KeptCrates N E) (lists : List (List ℕ)) → length lists ≡ length (ids_of k) → AreEach (IsDependent k.graph.nodes k.graph.edges) lists → AreLinks (length (ids_of k)) (IsNeededBy k) lists
needed_links k lists counted e =
    links_of (length (ids_of k)) (IsNeededBy k) lists counted (λ a b w. w.krate)
    (each_same (IsDependent k.graph.nodes k.graph.edges) (IsNeededBy k) lists (λ a b lt. (λ h. record { krate = subst (λ n. a < n) counted lt; depends = h }, λ w. w.depends)) e)

pub needed_stored : {N E : Type 0} (k : KeptCrates N E) (lists : List (List ℕ)) → All (λ (m : Match N). m.number < length (ids_of k)) (crates_of k) → length (ids_of k) < 2 ^ 32 → length lists ≡ length (ids_of k)
    → AreEach (IsDependent k.graph.nodes k.graph.edges) lists → AreStored lists
needed_stored k lists below numbered counted e =
    stored_of (IsDependent k.graph.nodes k.graph.edges) lists (λ a b w. subst (λ n. b < n) (sym counted) (number_below k.graph.nodes b w.krate below w.crate))
    (subst (λ n. n < 2 ^ 32) (sym counted) numbered) e

-- and turned round
pub needs_links : {N E : Type 0} (k : KeptCrates N E) (count : ℕ) (lists turned : List (List ℕ)) → AreLinks count (IsNeededBy k) lists → AreLinks (length lists) (λ a b. IsListed lists b a) turned → AreLinks count (Needs k) turned
needs_links k count lists turned l r = record {
  counted = r.counted ∙ l.counted;
  ascending = r.ascending;
  exactly = λ a b. (λ w. (l.exactly b a).0 ((r.exactly a b).0 w), λ h. (r.exactly a b).1 ((l.exactly b a).1 h));
}
