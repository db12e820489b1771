-- A crate's mapping names exactly the crates to which its edges lead.
use Rattle.std.proofs.Common.{◌&&◌, ◌==◌, ◌≡◌, ◌⊎◌, inl, inr, ℕ, zero, suc, ◌+◌, ◌<◌, ◌≤◌, true, List, [], ◌∷◌, filter, length, Option, Some, None, option_map, Contains, slice_get, refl, sym, ap, ◌∙◌, subst, arith}
use Rattle.std.proofs.lemmas.Bool.{cases_lt, and_parts, and_from}
use Rattle.std.proofs.lemmas.Bool.Decides.{Decides-eqb}
use Rattle.std.proofs.lemmas.Option.{none-some, same_Some, slice_get_within}
use Rattle.std.specs.List.{range_with_len}
use Rattle.krates_cm.specs.Document.{Text, PackageModel}
use Rattle.krates_rules.specs.Admission.{NoneDoubled}
use Rattle.krates_rules.specs.Facts.{Id}
use Rattle.krates_rules.specs.Kind.{kind_of}
use Rattle.krates_rules.specs.Questions.{IsDeclaredAt, questions}
use Rattle.krates_rules.specs.Resolved.{Resolved, HasPackage}
use Rattle.krates_rules.specs.Setting.{SettingModel}
use Rattle.krates_drawing.specs.Agreement.{KeptAt, OneEach, DependsOn, LeadsTo, DependenciesAgree}
use Rattle.krates_drawing.specs.Drawing.{Endpoint, AtCrate, AtFeature, EdgeModel, Dep, DepFeature, PlannedEdge, line, number, crate_number, planned_edges, is_link, last_from, claims, mapped, mapping, PlannedNode, PlannedCrate, PlannedFeature, planned_nodes}
use Rattle.krates_drawing.specs.Outline.{CrateRow, EdgeRow, Outline}
use Rattle.krates_drawing.proofs.DrawnEdges.{IsDrawnEdge, dep, dep_feature, toggles, own, names, names_crate, names_feature, Between, is_between_them, links_them, edge_in, drawn_of}
use Rattle.krates_drawing.proofs.Closed.{keeps_ends, given_enabled, ends_stand}
use Rattle.krates_drawing.proofs.Derivations.{crate_of_feature}
use Rattle.krates_drawing.proofs.Holding.{Holds, holds}
use Rattle.krates_rules.proofs.Members as members
use Rattle.krates_rules.proofs.Members.{Member, member_of, contains_of, kept_of, member_filter, mapped_of, member_map, passing_of, member_any, Front, front_of}
use Rattle.krates_drawing.proofs.Drawn.{has_drawn}
use Rattle.krates_drawing.proofs.NodeNumbers.{HasCrate, Stands, crate_stands, feature_stands, crate_node, feature_node, one_number}
use Rattle.krates_rules.proofs.OnlyOne.{one_package}

-- ---- ends that belong to one crate

-- the crate that an end belongs to
abbrev owner : Endpoint → Id
owner (AtCrate q) = q
owner (AtFeature q f) = q

one_crate : (t : Outline) (p q : Id) → HasCrate t p → HasCrate t q → crate_number t p ≡ crate_number t q → p ≡ q
one_crate t p q a b e = ap owner (one_number t (AtCrate p) (AtCrate q) (crate_stands {p = p} a) (crate_stands {p = q} b) e)

owner_kept : (r : Resolved) (s : SettingModel) (t : Outline) (e : Endpoint) → Holds r s t → Stands t e → HasCrate t (owner e)
owner_kept r s t _ h (crate_stands {p} m) = m
owner_kept r s t _ h (feature_stands {p} {f} m) =
    let d = crate_of_feature (questions r s) m.named.krate m.named.name (h.feature_of m.named m.member) in
    subst (HasCrate t) m.krate (h.crate_in m.named.krate d)

-- the mapping that a node holds
abbrev mapping_at : PlannedNode → List (Option ℕ)
mapping_at (PlannedCrate id m) = m
mapping_at (PlannedFeature q f) = []

mapping_of : (a : Id) (m : List (Option ℕ)) (s : PlannedNode) → s ≡ PlannedCrate a m → m ≡ mapping_at s
mapping_of a m s e = ap mapping_at (sym e)

-- a node that is a feature of the crate of this number
feature_owner : (t : Outline) (e : Endpoint) (d : ℕ) (f : Text) → Stands t e → slice_get (planned_nodes t) (number t e) ≡ Some (PlannedFeature d f) → crate_number t (owner e) ≡ d
feature_owner t _ d f (crate_stands {p} m) e = let w = crate_node t p m in absurd (cc (w.at, e))
feature_owner t _ d f (feature_stands {p} {f = g} m) e = let w = feature_node t p g m in cc (w, e)

-- ---- what a mapping names

last_of : {A : Type 0} (o : Option A) (xs : List A) (q : A) → last_from o xs ≡ Some q → (o ≡ Some q) ⊎ Member xs q
last_of o [] q e = inl e
last_of o (x ∷ xs) q e = elim (last_of (Some x) xs q e) [ inl same ↦ inr (inl (same_Some x q same)) | inr m ↦ inr (inr m) ]

last_some : {A : Type 0} (x : A) (xs : List A) → (q : A) × (last_from (Some x) xs ≡ Some q)
last_some x [] = (x, refl)
last_some x (y ∷ ys) = last_some y ys

last_there : {A : Type 0} (o : Option A) (xs : List A) (y : A) → Member xs y → (q : A) × (last_from o xs ≡ Some q)
last_there o [] y m = absurd m
last_there o (x ∷ xs) y m = last_some x xs

-- an edge from `p` to `q` whose declared dependency is at `k`
pub record Claim (t : Outline) (p q : Id) (k : ℕ) : Type 0 where
  pub between : Between t p q
  pub at : between.link.place ≡ k

-- the last crate that claims it
abbrev pub claimant : Outline → Id → ℕ → Option CrateRow
claimant t p k = last_from None (filter (claims t p k) t.krates)

claim_of : (t : Outline) (p : Id) (k : ℕ) (q : CrateRow) → claims t p k q ≡ true → Claim t p q.id k
claim_of t p k q h =
    let w = passing_of (λ (l : EdgeRow). is_link p q.id l && (l.place == k)) t.links h in
    let e = and_parts _ _ w.passes in
    let is = is_between_them p q.id w.from e.0 in
    record { between = record { link = w.from; member = w.member; parent = is.0; child = is.1 }; at = (Decides-eqb w.from.place k).0 e.1 }

claim_by : (t : Outline) (p : Id) (k : ℕ) (q : CrateRow) → Claim t p q.id k → claims t p k q ≡ true
claim_by t p k q w =
    let b = w.between in
    member_any (λ (l : EdgeRow). is_link p q.id l && (l.place == k)) t.links b.link b.member (and_from _ _ (links_them p q.id b.link b.parent b.child) ((Decides-eqb b.link.place k).1 w.at))

pub claimant_of : (t : Outline) (p : Id) (k : ℕ) (q : CrateRow) → claimant t p k ≡ Some q → Member t.krates q × Claim t p q.id k
claimant_of t p k q e = elim (last_of None (filter (claims t p k) t.krates) q e) [
  | inl none ↦ absurd (none-some q none)
  | inr m ↦ (let w = kept_of (claims t p k) t.krates q m in (w.0, claim_of t p k q w.1))
]

-- if any crate claims the place, one does so last
some_claimant : (t : Outline) (p : Id) (k : ℕ) (q : CrateRow) → Member t.krates q → Claim t p q.id k → (z : CrateRow) × (claimant t p k ≡ Some z)
some_claimant t p k q m w = last_there None (filter (claims t p k) t.krates) q (member_filter (claims t p k) t.krates q (claim_by t p k q w) m)

pub image_of : {A B : Type 0} (f : A → B) (o : Option A) (y : B) → option_map f o ≡ Some y → (x : A) × (o ≡ Some x) × (f x ≡ y)
image_of f None y e = absurd (none-some y e)
image_of f (Some x) y e = (x, refl, same_Some (f x) y e)

in_range : (a n k : ℕ) → a ≤ k → k < a + n → Member (range_with_len a n) k
in_range a zero k le lt = absurd (omega arith)
in_range a (suc n) k le lt = elim (cases_lt a k) [
  | inl more ↦ inr (in_range (a + 1) n k (omega arith) (omega arith))
  | inr less ↦ (let same : a ≡ k = omega arith in inl same)
]

-- ---- an edge leads where a mapping names

abbrev LeadsBetween : Outline → Id → Id → Type 0
LeadsBetween t p d = LeadsTo (planned_nodes t) (planned_edges t) (crate_number t p) (crate_number t d)

link_leads : (r : Resolved) (s : SettingModel) (t : Outline) → Holds r s t → (l : EdgeRow) → Member t.links l → LeadsBetween t l.edge.parent l.edge.child
link_leads r s t h l at = by (front_of l.given)
  where
    by : Front l.given → LeadsBetween t l.edge.parent l.edge.child
    by (members.empty none) =
        let x = line t (AtCrate l.edge.parent) (AtCrate l.edge.child) (Dep (kind_of l.edge.kind) l.edge.cfg) in
        record { line = x; among = contains_of (planned_edges t) x (edge_in t _ _ _ (keeps_ends r s t h) (dep l at none)); from = refl; to = inl refl }
    by (members.begins f fs is) =
        let gives : Member l.given f = subst (λ z. Member z f) (sym is) (inl refl) in
        let x = line t (AtCrate l.edge.parent) (AtFeature l.edge.child f) (DepFeature (kind_of l.edge.kind) l.edge.cfg) in
        let there = h.feature_in l.edge.child f (given_enabled r s t l f h at gives) in
        record { line = x; among = contains_of (planned_edges t) x (edge_in t _ _ _ (keeps_ends r s t h) (dep_feature l f at gives)); from = refl; to = inr (f, feature_node t l.edge.child f there) }

pub between_leads : (r : Resolved) (s : SettingModel) (t : Outline) (p d : Id) → Holds r s t → Between t p d → LeadsBetween t p d
between_leads r s t p d h b =
    subst (λ i. LeadsBetween t p i) b.child (subst (λ i. LeadsBetween t i b.link.edge.child) b.parent (link_leads r s t h b.link b.member))

leads : (r : Resolved) (s : SettingModel) (t : Outline) (p d : Id) → Holds r s t → HasCrate t p → HasCrate t d → DependsOn (planned_nodes t) (crate_number t p) (crate_number t d) → LeadsBetween t p d
unfolding mapping
leads r s t p d h at_p at_d w =
    let node = crate_node t p at_p in
    let here = same_Some _ _ (sym w.at ∙ node.at) in
    let same : w.mapping ≡ mapping t node.krate = mapping_of w.id w.mapping (PlannedCrate node.krate.id (mapping t node.krate)) (sym here) in
    let entry = mapped_of (mapped t node.krate.id) (range_with_len 0 node.krate.declared) (Some (crate_number t d)) (member_of (mapping t node.krate) (Some (crate_number t d)) (subst (λ m. Contains m (Some (crate_number t d))) same w.among)) in
    let q = image_of (λ z. crate_number t z.id) (claimant t node.krate.id entry.from) (crate_number t d) entry.is in
    let claim = claimant_of t node.krate.id entry.from q.0 q.1 in
    let kept : HasCrate t (q.0).id = record { krate = q.0; member = claim.0; id = refl } in
    let is : (q.0).id ≡ d = one_crate t (q.0).id d kept at_d q.2 in
    between_leads r s t p d h (subst (λ i. Between t i d) node.id (subst (λ i. Between t node.krate.id i) is claim.1.between))

-- ---- a mapping names where an edge leads

edge_between : (t : Outline) (from to : Endpoint) (tie : EdgeModel) (p : Id) → IsDrawnEdge t from to tie → from ≡ AtCrate p → Between t p (owner to)
edge_between t _ _ _ p (dep l at none) e = record { link = l; member = at; parent = ap owner e; child = refl }
edge_between t _ _ _ p (dep_feature l g at gives) e = record { link = l; member = at; parent = ap owner e; child = refl }
edge_between t _ _ _ p (toggles g l at kept by theirs) e = record { link = l; member = kept; parent = by ∙ ap owner e; child = theirs }
edge_between t _ _ _ p (own n at) e = absurd (cc e)
edge_between t _ _ _ p (names n g at among) e = absurd (cc e)
edge_between t _ _ _ p (names_crate n ids l at among means kept same) e = absurd (cc e)
edge_between t _ _ _ p (names_feature n ids g l at among means kept same) e = absurd (cc e)

line_between : (r : Resolved) (s : SettingModel) (t : Outline) (p d : Id) → Holds r s t → HasCrate t p → HasCrate t d → LeadsBetween t p d → Between t p d
line_between r s t p d h at_p at_d w =
    let x = drawn_of t w.line (member_of (planned_edges t) w.line w.among) in
    let stand = ends_stand r s t x.from x.to x.tie h x.planned in
    let source : number t x.from ≡ crate_number t p = ap (λ (l : PlannedEdge). l.source) x.is ∙ w.from in
    let from : x.from ≡ AtCrate p = one_number t x.from (AtCrate p) stand.0 (crate_stands {p = p} at_p) source in
    let target : number t x.to ≡ w.line.target = ap (λ (l : PlannedEdge). l.target) x.is in
    let of_d : owner x.to ≡ d = elim w.to [
      | inl is ↦ ap owner (one_number t x.to (AtCrate d) stand.1 (crate_stands {p = d} at_d) (target ∙ is))
      | inr f ↦ one_crate t (owner x.to) d (owner_kept r s t x.to h stand.1) at_d (feature_owner t x.to (crate_number t d) f.0 stand.1 (ap (slice_get (planned_nodes t)) target ∙ f.1))
    ] in
    subst (λ i. Between t p i) of_d (edge_between t x.from x.to x.tie p x.planned from)

kept_at : (r : Resolved) (s : SettingModel) (t : Outline) (p q : Id) (k : ℕ) → Holds r s t → (w : Claim t p q k) → KeptAt r s p k w.between.link.edge
kept_at r s t p q k h w =
    let l = w.between.link in
    let e = (h.edge_of l w.between.member).placed in
    record { parent = w.between.parent; kept = h.link_of l w.between.member; dependency = e.dependency; declared = subst (λ n. IsDeclaredAt r s l.edge n e.dependency) w.at e.declared }

-- a declared dependency is in the list of its package
place_below : (r : Resolved) (s : SettingModel) (t : Outline) (k : CrateRow) (l : EdgeRow) → NoneDoubled r.metadata r.graph → Holds r s t → Member t.krates k → Member t.links l → l.edge.parent ≡ k.id → l.place < k.declared
place_below r s t k l none h at among e =
    let w = (h.edge_of l among).placed.declared.declares in
    let c = h.count_of k at in
    let same : w.pkg ≡ c.pkg = one_package r k.id w.pkg c.pkg none (subst (λ i. HasPackage r i w.pkg) e w.has_package) c.has_package in
    let below = slice_get_within w.pkg.dependencies l.place (h.edge_of l among).placed.dependency w.declared.here in
    subst (λ n. l.place < n) (ap (λ (z : PackageModel). length z.dependencies) same ∙ sym c.declared) below

-- only one crate claims a declared dependency
one_claims : (r : Resolved) (s : SettingModel) (t : Outline) (p q z : Id) (k : ℕ) → Holds r s t → OneEach r s p → Claim t p q k → Claim t p z k → q ≡ z
one_claims r s t p q z k h one a b =
    let same : a.between.link.edge.child ≡ b.between.link.edge.child = one k a.between.link.edge b.between.link.edge (kept_at r s t p q k h a) (kept_at r s t p z k h b) in
    subst (λ i. q ≡ i) b.between.child (subst (λ i. i ≡ b.between.link.edge.child) a.between.child same)

mapped_is : (t : Outline) (p : Id) (k : ℕ) (q : CrateRow) (d : Id) → claimant t p k ≡ Some q → q.id ≡ d → mapped t p k ≡ Some (crate_number t d)
mapped_is t p k q d e is = ap (option_map (λ (z : CrateRow). crate_number t z.id)) e ∙ ap (λ i. Some (crate_number t i)) is

depends : (r : Resolved) (s : SettingModel) (t : Outline) (p d : Id) → NoneDoubled r.metadata r.graph → Holds r s t → HasCrate t p → HasCrate t d → OneEach r s p → LeadsBetween t p d
    → DependsOn (planned_nodes t) (crate_number t p) (crate_number t d)
unfolding mapping
depends r s t p d none h at_p at_d one w =
    let node = crate_node t p at_p in
    let parent = node.krate.id in
    let b : Between t parent d = subst (λ i. Between t i d) (sym node.id) (line_between r s t p d h at_p at_d w) in
    let k = b.link.place in
    let mine : Claim t parent at_d.krate.id k = record { between = record { link = b.link; member = b.member; parent = b.parent; child = b.child ∙ sym at_d.id }; at = refl } in
    let z = some_claimant t parent k at_d.krate at_d.member mine in
    let claim = claimant_of t parent k z.0 z.1 in
    let same = one_claims r s t parent (z.0).id at_d.krate.id k h (subst (OneEach r s) (sym node.id) one) claim.1 mine in
    let is : (z.0).id ≡ d = subst (λ i. (z.0).id ≡ i) at_d.id same in
    let entry = mapped_is t parent k z.0 d z.1 is in
    let below = place_below r s t node.krate b.link none h node.member b.member b.parent in
    let there = member_map (mapped t parent) (range_with_len 0 node.krate.declared) k (in_range 0 node.krate.declared k (omega arith) (omega (arith, below))) in
    record { id = parent; mapping = mapping t node.krate; at = node.at; among = contains_of (mapping t node.krate) (Some (crate_number t d)) (subst (Member (mapping t node.krate)) entry there) }

-- ---- the law

pub agreed : DependenciesAgree
agreed r s none t outline p d at_p at_d one =
    let h = holds r s t outline in
    let p_kept = has_drawn t p at_p in
    let d_kept = has_drawn t d at_d in
    (λ w. leads r s t p d h p_kept d_kept w, λ w. depends r s t p d none h p_kept d_kept one w)
