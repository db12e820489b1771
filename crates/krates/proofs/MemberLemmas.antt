-- The numbers of the crates with given ids, and those of a document's kept members.
use Rattle.std.proofs.Common.{◌≡◌, ◌↔◌, ◌⊎◌, ◌∙◌, ℕ, ◌+◌, ◌<◌, List, [], ◌∷◌, ◌++◌, Contains, Some, length, take, get_or, refl, sym, ap, subst, inl, inr}
use Rattle.std.proofs.lemmas.List.{take_more}
use Rattle.std.proofs.lemmas.List.Elements.{Contains-append_left, Contains-get_or, Contains-push, Contains-push_cases}
use Rattle.std.proofs.lemmas.List.Kept.{Contains-dedup_nat, Contains-from_dedup}
use Rattle.std.proofs.lemmas.List.Sorted.{Contains-permutation, IsPermutation-sym}
use Rattle.std.specs.List.{dedup}
use Rattle.std.specs.List.Sorted.{IsPermutation, IsStrictlyIncreasing}
use Rattle.krates_cm.specs.Document.{MetadataModel}
use Rattle.krates_rules.proofs.Members.{member_of, contains_of, partner_of, swapped}
use Rattle.krates_ids.specs.Identity.{Identity, Reads}
use Rattle.krates_rules.specs.Admission.{IsAdmitted, IdsModel}
use Rattle.krates_rules.specs.Resolved.{IsMember, StandsAt, id_of, resolved}
use Rattle.krates.specs.Build.{AreKeptMembers}
use Rattle.krates_queries.specs.Kept.{AreCrateNumbers}
use Rattle.krates.specs.Members.{AreNumbersOf, IsNumberOf}
use Rattle.krates_drawing.specs.Node.{crate_ids}
use Rattle.krates_drawing.specs.declared.node.Node.{Node}
use Rattle.krates_drawing.proofs.DivisionLemmas.{ReadsOnce}
use Rattle.krates_rules.proofs.OrderedIds.{stands_within}
use lib.Dec.{eqb}

-- ---- id after id

wanted_more : (ids wanted : List Identity) (x : Identity) (n : ℕ) → IsNumberOf ids wanted n → IsNumberOf ids (wanted ++ x ∷ []) n
wanted_more ids wanted x n h = record { id = h.id; among = Contains-append_left wanted (x ∷ []) h.id h.among; stands = h.stands }

last_wanted : (ids wanted : List Identity) (x : Identity) (n : ℕ) → StandsAt ids (id_of x) n → IsNumberOf ids (wanted ++ x ∷ []) n
last_wanted ids wanted x n stands = record { id = x; among = Contains-push wanted x; stands = stands }

wanted_cases : (ids wanted : List Identity) (x : Identity) (n : ℕ) → IsNumberOf ids (wanted ++ x ∷ []) n → IsNumberOf ids wanted n ⊎ StandsAt ids (id_of x) n
wanted_cases ids wanted x n h = elim (Contains-push_cases wanted x h.id h.among) [
  | inl before ↦ inl (record { id = h.id; among = before; stands = h.stands })
  | inr is ↦ inr (subst (λ i. StandsAt ids (id_of i) n) (sym is) h.stands)
]

pushed : (ids wanted : List Identity) (x : Identity) (numbers : List ℕ) (place : ℕ) → AreNumbersOf ids wanted numbers → ((n : ℕ) → (Some place ≡ Some n) ↔ StandsAt ids (id_of x) n)
    → AreNumbersOf ids (wanted ++ x ∷ []) (numbers ++ place ∷ [])
pushed ids wanted x numbers place so at n = (
  λ c. elim (Contains-push_cases numbers place n c) [
    | inl before ↦ wanted_more ids wanted x n ((so n).0 before)
    | inr is ↦ last_wanted ids wanted x n ((at n).0 (ap (λ (k : ℕ). Some k) is))
  ],
  λ h. elim (wanted_cases ids wanted x n h) [
    | inl before ↦ Contains-append_left numbers (place ∷ []) n ((so n).1 before)
    | inr stands ↦ (let is : place ≡ n = cc ((at n).1 stands) in subst (λ k. Contains (numbers ++ place ∷ []) k) is (Contains-push numbers place))
  ],
)

left_out : (ids wanted : List Identity) (x : Identity) (numbers : List ℕ) → AreNumbersOf ids wanted numbers → ((n : ℕ) → StandsAt ids (id_of x) n → ⊥) → AreNumbersOf ids (wanted ++ x ∷ []) numbers
left_out ids wanted x numbers so none n = (
  λ c. wanted_more ids wanted x n ((so n).0 c),
  λ h. elim (wanted_cases ids wanted x n h) [
    | inl before ↦ (so n).1 before
    | inr stands ↦ absurd (none n stands)
  ],
)

taken : (wanted : List Identity) (i : ℕ) (x : Identity) → i < length wanted → x ≡ get_or wanted i x → take (i + 1) wanted ≡ take i wanted ++ x ∷ []
taken wanted i x lt is = take_more wanted i x lt ∙ ap (λ (y : Identity). take i wanted ++ y ∷ []) (sym is)

pub numbers_more : (ids wanted : List Identity) (i : ℕ) (x : Identity) (numbers : List ℕ) (place number : ℕ) → i < length wanted → x ≡ get_or wanted i x → number ≡ place
    → AreNumbersOf ids (take i wanted) numbers → ((n : ℕ) → (Some place ≡ Some n) ↔ StandsAt ids (id_of x) n) → AreNumbersOf ids (take (i + 1) wanted) (numbers ++ number ∷ [])
numbers_more ids wanted i x numbers place number lt is same so at =
    subst (λ (ws : List Identity). AreNumbersOf ids ws (numbers ++ number ∷ [])) (sym (taken wanted i x lt is))
    (subst (λ (k : ℕ). AreNumbersOf ids (take i wanted ++ x ∷ []) (numbers ++ k ∷ [])) (sym same) (pushed ids (take i wanted) x numbers place so at))

pub numbers_same : (ids wanted : List Identity) (i : ℕ) (x : Identity) (numbers : List ℕ) → i < length wanted → x ≡ get_or wanted i x
    → AreNumbersOf ids (take i wanted) numbers → ((n : ℕ) → StandsAt ids (id_of x) n → ⊥) → AreNumbersOf ids (take (i + 1) wanted) numbers
numbers_same ids wanted i x numbers lt is so none =
    subst (λ (ws : List Identity). AreNumbersOf ids ws numbers) (sym (taken wanted i x lt is)) (left_out ids (take i wanted) x numbers so none)

-- ---- sorted, each once

pub numbers_once : (ids wanted : List Identity) (numbers sorted : List ℕ) → IsPermutation numbers sorted → AreNumbersOf ids wanted numbers → AreNumbersOf ids wanted (dedup eqb sorted)
numbers_once ids wanted numbers sorted p so n = (
  λ c. (so n).0 (Contains-permutation sorted numbers n (IsPermutation-sym numbers sorted p) (Contains-from_dedup eqb sorted n c)),
  λ h. Contains-dedup_nat sorted n (Contains-permutation numbers sorted n p ((so n).1 h)),
)

-- ---- the members of a document

pub kept_members : ReadsOnce → (m : MetadataModel) (ids : IdsModel) (krates : List Identity) (numbers : List ℕ) → IsAdmitted m ids → IsStrictlyIncreasing numbers
    → AreNumbersOf krates ids.members numbers → AreKeptMembers m krates numbers
kept_members once m ids krates numbers a ascending so = record {
  ascending = ascending;
  exactly = λ n. (
    λ c.
        (let h = (so n).0 c in
        let back = swapped Reads m.workspace_members ids.members a.read.members in
        let p = partner_of (λ i t. Reads t i) ids.members m.workspace_members h.id back (member_of ids.members h.id h.among) in
        let member : IsMember (resolved m a.graph) (id_of h.id) = record { text = p.partner; among = contains_of m.workspace_members p.partner p.member; id = record { read = h.id; reads = p.related; same = refl } } in
        record { member = id_of h.id; listed = record { graph = a.graph; has_graph = a.has_graph; holds = member }; kept = h.stands }),
    λ h.
        (let is = h.listed.holds in
        let p = partner_of Reads m.workspace_members ids.members is.text a.read.members (member_of m.workspace_members is.text is.among) in
        let same : id_of p.partner ≡ h.member = ap id_of (once is.text p.partner is.id.read p.related is.id.reads) ∙ is.id.same in
        (so n).1 (record { id = p.partner; among = contains_of ids.members p.partner p.member; stands = subst (λ i. StandsAt krates i n) (sym same) h.kept })),
  );
}

-- the numbers are those of crates
pub crate_numbers : {N : Type 0} (nodes : List (Node N)) (wanted : List Identity) (numbers : List ℕ) → IsStrictlyIncreasing numbers → AreNumbersOf (crate_ids nodes) wanted numbers → AreCrateNumbers nodes numbers
crate_numbers nodes wanted numbers ascending so = record {
  ascending = ascending;
  crates = λ k d lt.
      (let h = (so (get_or numbers k d)).0 (Contains-get_or numbers k d lt) in
      stands_within (crate_ids nodes) (id_of h.id) (get_or numbers k d) h.stands);
}
