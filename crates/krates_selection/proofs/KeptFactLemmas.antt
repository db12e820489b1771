-- The crates of a derivable fact are kept, and facts by number differ where what they say differs.
use Rattle.std.proofs.Common.{◌≡◌, List, length, refl, sym, ap, subst}
use Rattle.std.specs.List.Sorted.{IsStrictlySortedBy}
use Rattle.krates_cm.specs.Document.{NodeModel}
use Rattle.krates_rules.proofs.DistinctIds.{OrderTellsSame}
use Rattle.krates_selection.specs.KeptFacts.{KeptModel, KeepsCrate, KeepsEdge, Enables, Toggles, IsBelow, edge_in, fact_in}
use Rattle.krates_selection.specs.Selection.{id_at}
use Rattle.krates_selection.proofs.CrateNumbers.{one_number}
use Rattle.krates_selection.proofs.KeptEnds.{child_kept, crate_of_feature, parent_kept, toggled_kept}
use Rattle.krates_selection.specs.KeptTables.{HasKeptCrates, IsKeptIn}
use Rattle.krates_ids.specs.Identity.{Identity, id_cmp}
use Rattle.krates_selection.specs.Trace.{Names}
use Rattle.krates_selection.specs.declared.trace.NumberedFact.{NumberedFact}
use Rattle.krates_selection.specs.declared.trace.NumberedFact.TheVariants as numbered
use Rattle.krates_rules.specs.Derivation.{Derivable}
use Rattle.krates_rules.specs.Facts.{Id, Edge, Fact, Crate}
use Rattle.krates_rules.specs.Resolved.{HasNode, Resolved}
use Rattle.krates_rules.specs.Rules.{Questions}

-- ---- kept crates

-- the crates of a derivable fact that has numbers are kept, where a crate that stands has a node
pub kept_crates : (q : Questions) (r : Resolved) (kids : List Identity) → ((i : Id) → Derivable q (Crate i) → IsKeptIn kids i) → ((i : Id) → q.Stands i → (n : NodeModel) × HasNode r i n)
    → (n : NumberedFact) (f : Fact) → Names r n f → Derivable q f → HasKeptCrates r kids f
kept_crates q r kids crates nodes (numbered.Crate place) f names d = subst (HasKeptCrates r kids) (sym names.is) (crates names.krate (subst (Derivable q) names.is d))
kept_crates q r kids crates nodes (numbered.Feature number) f names d = subst (HasKeptCrates r kids) (sym names.is) (crates names.krate (crate_of_feature q names.krate names.name (subst (Derivable q) names.is d)))
kept_crates q r kids crates nodes (numbered.Kept place index kind) f names d =
    let e = names.edge in
    let k = subst (Derivable q) names.is d in
    let p = parent_kept q e k in
    subst (HasKeptCrates r kids) (sym names.is) (crates e.parent p.0, (crates e.child (child_kept q e k), nodes e.child p.1))
kept_crates q r kids crates nodes (numbered.Toggled place number) f names d =
    let k = toggled_kept q names.by names.krate names.name (subst (Derivable q) names.is d) in
    subst (HasKeptCrates r kids) (sym names.is) (crates names.by k.0, crates names.krate k.1)

-- ---- numbers

-- facts by number that say the same are the same
pub same_in : OrderTellsSame → (kids : List Identity) → IsStrictlySortedBy id_cmp kids → (f g : KeptModel) → IsBelow (length kids) f → IsBelow (length kids) g → fact_in kids f ≡ fact_in kids g → f ≡ g
same_in tells kids sorted (KeepsCrate i) (KeepsCrate j) a b e =
    let x : id_at kids i ≡ id_at kids j = cc in
    ap (λ n. KeepsCrate n) (one_number tells kids sorted i j a b x)
same_in tells kids sorted (KeepsCrate i) (Enables j g) a b e = absurd cc
same_in tells kids sorted (KeepsCrate i) (KeepsEdge j d l u) a b e = absurd cc
same_in tells kids sorted (KeepsCrate i) (Toggles j d g) a b e = absurd cc
same_in tells kids sorted (Enables i f) (KeepsCrate j) a b e = absurd cc
same_in tells kids sorted (Enables i f) (Enables j g) a b e =
    let x : id_at kids i ≡ id_at kids j = cc in
    let n : f ≡ g = cc in
    let m = one_number tells kids sorted i j a b x in
    rw (m, n) refl
same_in tells kids sorted (Enables i f) (KeepsEdge j d l u) a b e = absurd cc
same_in tells kids sorted (Enables i f) (Toggles j d g) a b e = absurd cc
same_in tells kids sorted (KeepsEdge i c k t) (KeepsCrate j) a b e = absurd cc
same_in tells kids sorted (KeepsEdge i c k t) (Enables j g) a b e = absurd cc
same_in tells kids sorted (KeepsEdge i c k t) (KeepsEdge j d l u) a b e =
    let same : edge_in kids i c k t ≡ edge_in kids j d l u = cc in
    let x : id_at kids i ≡ id_at kids j = ap (λ (w : Edge). w.parent) same in
    let y : id_at kids c ≡ id_at kids d = ap (λ (w : Edge). w.child) same in
    let n : k ≡ l = ap (λ (w : Edge). w.kind) same in
    let o : t ≡ u = ap (λ (w : Edge). w.cfg) same in
    let m = one_number tells kids sorted i j a.0 b.0 x in
    let p = one_number tells kids sorted c d a.1 b.1 y in
    rw (m, p, n, o) refl
same_in tells kids sorted (KeepsEdge i c k t) (Toggles j d g) a b e = absurd cc
same_in tells kids sorted (Toggles i c f) (KeepsCrate j) a b e = absurd cc
same_in tells kids sorted (Toggles i c f) (Enables j g) a b e = absurd cc
same_in tells kids sorted (Toggles i c f) (KeepsEdge j d l u) a b e = absurd cc
same_in tells kids sorted (Toggles i c f) (Toggles j d g) a b e =
    let x : id_at kids i ≡ id_at kids j = cc in
    let y : id_at kids c ≡ id_at kids d = cc in
    let n : f ≡ g = cc in
    let m = one_number tells kids sorted i j a.0 b.0 x in
    let p = one_number tells kids sorted c d a.1 b.1 y in
    rw (m, p, n) refl
