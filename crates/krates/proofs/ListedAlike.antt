-- Documents that differ only in order list the same packages for the same ids.
use Rattle.std.proofs.Common.{◌≡◌, ◌↔◌, List, [], ◌∷◌, IsPermutation, Less, refl, sym, ap, ◌∙◌, subst, inl, inr}
use Rattle.std.proofs.lemmas.List.Sorted.{IsPermutation-sym, Contains-permutation}
use Rattle.std.specs.Cmp.{IsTotalOrder}
use Rattle.std.specs.List.{AllByRecursion, AllZip, zip}
use Rattle.std.specs.List.Sorted.{IsStrictlySortedBy}
use Rattle.krates_cm.specs.Document.{PackageModel, id_view, package_view, metadata_view}
use Rattle.krates_cm.specs.declared.metadata.Metadata.{Metadata}
use Rattle.krates_cm.specs.declared.package.Package.{Package}
use Rattle.krates_ids.specs.Identity.{Identity, Reads, id_cmp}
use Rattle.krates_rules.specs.Facts.{Id}
use Rattle.krates_rules.specs.Reordering.{ReordersPackage, Reorders}
use Rattle.krates_rules.specs.Resolved.{ReadsAs}
use Rattle.krates_drawing.specs.Listed.{HasIdAmong, AreThosePackages}
use Rattle.krates.specs.BuildLaws.{IsSamePackage, ListAlike}
use Rattle.krates_drawing.proofs.DivisionLemmas.{ReadsOnce}
use Rattle.krates_rules.proofs.OrderedIds.{never_less}
use Rattle.krates_rules.proofs.Members.{Member, member_of, contains_of, mapped_of, member_map}

-- ---- lists in strict order

abbrev Listed : Type 0
Listed = Package × Identity

-- the packages are the same and have the same id
abbrev IsAlike : Listed → Listed → Type 0
IsAlike a b = IsSamePackage a.0 b.0 × (a.1 ≡ b.1)

-- each of the first list has its counterpart in the second
record Like (x : Listed) (ys : List Listed) : Type 0 where
  other : Listed
  member : Member ys other
  alike : IsAlike x other

record LikeBack (y : Listed) (xs : List Listed) : Type 0 where
  other : Listed
  member : Member xs other
  alike : IsAlike other y

-- the ids ascend
abbrev Ascends : List Listed → Type 0
Ascends [] = Unit {0}
Ascends (x ∷ xs) = ((z : Listed) → Member xs z → id_cmp x.1 z.1 ≡ Less) × Ascends xs

first_alike : IsTotalOrder id_cmp → (x y : Listed) (xs ys : List Listed) → Ascends (x ∷ xs) → Ascends (y ∷ ys) → Like x (y ∷ ys) → LikeBack y (x ∷ xs) → IsAlike x y
first_alike o x y xs ys hx hy p q = elim p.member [
  | inl e ↦ subst (λ z. IsAlike x z) (sym e) p.alike
  | inr later ↦ elim q.member [
    | inl e ↦ subst (λ z. IsAlike z y) (sym e) q.alike
    | inr after ↦ (
        let low : id_cmp x.1 y.1 ≡ Less = subst (λ i. id_cmp x.1 i ≡ Less) q.alike.1 (hx.0 q.other after) in
        let high : id_cmp y.1 x.1 ≡ Less = subst (λ i. id_cmp y.1 i ≡ Less) (sym p.alike.1) (hy.0 p.other later) in
        absurd (never_less o x.1 y.1 low high))
  ]
]

later_like : IsTotalOrder id_cmp → (x y : Listed) (xs ys : List Listed) → Ascends (x ∷ xs) → IsAlike x y → ((z : Listed) → Member (x ∷ xs) z → Like z (y ∷ ys)) → (z : Listed) → Member xs z → Like z ys
later_like o x y xs ys hx same all z m =
    let p = all z (inr m) in
    elim p.member [
      | inl e ↦ (
          let is : z.1 ≡ x.1 = p.alike.1 ∙ ap (λ (w : Listed). w.1) (sym e) ∙ sym same.1 in
          let low : id_cmp x.1 x.1 ≡ Less = subst (λ i. id_cmp x.1 i ≡ Less) is (hx.0 z m) in
          absurd (never_less o x.1 x.1 low low))
      | inr later ↦ record { other = p.other; member = later; alike = p.alike }
    ]

later_back : IsTotalOrder id_cmp → (x y : Listed) (xs ys : List Listed) → Ascends (y ∷ ys) → IsAlike x y → ((z : Listed) → Member (y ∷ ys) z → LikeBack z (x ∷ xs)) → (z : Listed) → Member ys z → LikeBack z xs
later_back o x y xs ys hy same all z m =
    let p = all z (inr m) in
    elim p.member [
      | inl e ↦ (
          let is : z.1 ≡ y.1 = sym p.alike.1 ∙ ap (λ (w : Listed). w.1) (sym e) ∙ same.1 in
          let low : id_cmp y.1 y.1 ≡ Less = subst (λ i. id_cmp y.1 i ≡ Less) is (hy.0 z m) in
          absurd (never_less o y.1 y.1 low low))
      | inr later ↦ record { other = p.other; member = later; alike = p.alike }
    ]

all_alike : IsTotalOrder id_cmp → (xs ys : List Listed) → Ascends xs → Ascends ys → ((z : Listed) → Member xs z → Like z ys) → ((z : Listed) → Member ys z → LikeBack z xs) → AllZip IsAlike xs ys
all_alike o [] [] hx hy there back = tt
all_alike o [] (y ∷ ys) hx hy there back = absurd ((back y (inl refl)).member)
all_alike o (x ∷ xs) [] hx hy there back = absurd ((there x (inl refl)).member)
all_alike o (x ∷ xs) (y ∷ ys) hx hy there back =
    let same = first_alike o x y xs ys hx hy (there x (inl refl)) (back y (inl refl)) in
    (same, all_alike o xs ys hx.1 hy.1 (later_like o x y xs ys hx same there) (later_back o x y xs ys hy same back))

-- ---- packages with their ids

abbrev AreRead : List Package → List Identity → Type 0
AreRead = AllZip (λ (p : Package) (i : Identity). Reads (id_view p.id) i)

each : (i : Identity) (ids : List Identity) (j : Identity) → AllByRecursion (λ k. id_cmp i k ≡ Less) ids → Member ids j → id_cmp i j ≡ Less
each i [] j h m = absurd m
each i (k ∷ ids) j h (inl e) = subst (λ z. id_cmp i z ≡ Less) e h.0
each i (k ∷ ids) j h (inr m) = each i ids j h.1 m

-- a pair, and the package and id that it is made of
record Paired (xs : List Package) (ids : List Identity) (z : Listed) : Type 0 where
  pkg : Member xs z.0
  id : Member ids z.1
  reads : Reads (id_view z.0.id) z.1

paired_of : (xs : List Package) (ids : List Identity) (z : Listed) → AreRead xs ids → Member (zip xs ids) z → Paired xs ids z
paired_of [] ids z h m = absurd m
paired_of (x ∷ xs) [] z h m = absurd h
paired_of (x ∷ xs) (i ∷ ids) z h (inl e) = record { pkg = inl (ap (λ (w : Listed). w.0) e); id = inl (ap (λ (w : Listed). w.1) e); reads = subst (λ (w : Listed). Reads (id_view w.0.id) w.1) e h.0 }
paired_of (x ∷ xs) (i ∷ ids) z h (inr m) = let w = paired_of xs ids z h.1 m in record { pkg = inr w.pkg; id = inr w.id; reads = w.reads }

record PairOf (xs : List Package) (ids : List Identity) (pkg : Package) : Type 0 where
  id : Identity
  member : Member (zip xs ids) (pkg, id)
  reads : Reads (id_view pkg.id) id

pair_of : (xs : List Package) (ids : List Identity) (pkg : Package) → AreRead xs ids → Member xs pkg → PairOf xs ids pkg
pair_of [] ids pkg h m = absurd m
pair_of (x ∷ xs) [] pkg h m = absurd h
pair_of (x ∷ xs) (i ∷ ids) pkg h (inl e) = record { id = i; member = inl (ap (λ (p : Package). (p, i)) e); reads = subst (λ (p : Package). Reads (id_view p.id) i) e h.0 }
pair_of (x ∷ xs) (i ∷ ids) pkg h (inr m) = let w = pair_of xs ids pkg h.1 m in record { id = w.id; member = inr w.member; reads = w.reads }

ascends : (xs : List Package) (ids : List Identity) → AreRead xs ids → IsStrictlySortedBy id_cmp ids → Ascends (zip xs ids)
unfolding IsStrictlySortedBy
ascends [] ids h s = tt
ascends (x ∷ xs) [] h s = absurd h
ascends (x ∷ xs) (i ∷ ids) h s = (λ z m. each i ids z.1 s.0 (paired_of xs ids z h.1 m).id, ascends xs ids h.1 s.1)

ids_alike : (xs ys : List Package) (is js : List Identity) → AreRead xs is → AreRead ys js → AllZip IsAlike (zip xs is) (zip ys js) → is ≡ js
ids_alike [] [] [] [] x y z = refl
ids_alike [] [] [] (j ∷ js) x y z = absurd y
ids_alike [] [] (i ∷ is) js x y z = absurd x
ids_alike [] (q ∷ ys) is [] x y z = absurd y
ids_alike [] (q ∷ ys) is (j ∷ js) x y z = absurd z
ids_alike (p ∷ xs) ys [] js x y z = absurd x
ids_alike (p ∷ xs) [] (i ∷ is) js x y z = absurd z
ids_alike (p ∷ xs) (q ∷ ys) (i ∷ is) [] x y z = absurd y
ids_alike (p ∷ xs) (q ∷ ys) (i ∷ is) (j ∷ js) x y z = ap (λ k. k ∷ is) z.0.1 ∙ ap (λ ks. j ∷ ks) (ids_alike xs ys is js x.1 y.1 z.1)

packages_alike : (xs ys : List Package) (is js : List Identity) → AreRead xs is → AreRead ys js → AllZip IsAlike (zip xs is) (zip ys js) → AllZip IsSamePackage xs ys
packages_alike [] [] is js x y z = tt
packages_alike [] (q ∷ ys) is [] x y z = absurd y
packages_alike [] (q ∷ ys) is (j ∷ js) x y z = absurd z
packages_alike (p ∷ xs) ys [] js x y z = absurd x
packages_alike (p ∷ xs) [] (i ∷ is) js x y z = absurd z
packages_alike (p ∷ xs) (q ∷ ys) (i ∷ is) [] x y z = absurd y
packages_alike (p ∷ xs) (q ∷ ys) (i ∷ is) (j ∷ js) x y z = (z.0.0, packages_alike xs ys is js x.1 y.1 z.1)

-- ---- packages of documents in another order

pub record Same (ys : List Package) (x : Package) : Type 0 where
  pub pkg : Package
  pub member : Member ys pkg
  pub same : IsSamePackage x pkg

pub record SameBack (xs : List Package) (y : Package) : Type 0 where
  pub pkg : Package
  pub member : Member xs pkg
  pub same : IsSamePackage pkg y

right_of : (xs ys : List PackageModel) (a : PackageModel) → AllZip ReordersPackage xs ys → Member xs a → (b : PackageModel) × Member ys b × ReordersPackage a b
right_of [] ys a z m = absurd m
right_of (x ∷ xs) [] a z m = absurd z
right_of (x ∷ xs) (y ∷ ys) a z (inl e) = (y, inl refl, subst (λ w. ReordersPackage w y) e z.0)
right_of (x ∷ xs) (y ∷ ys) a z (inr m) = let w = right_of xs ys a z.1 m in (w.0, inr w.1, w.2)

left_of : (xs ys : List PackageModel) (b : PackageModel) → AllZip ReordersPackage xs ys → Member ys b → (a : PackageModel) × Member xs a × ReordersPackage a b
left_of xs [] b z m = absurd m
left_of [] (y ∷ ys) b z m = absurd z
left_of (x ∷ xs) (y ∷ ys) b z (inl e) = (x, inl refl, subst (λ w. ReordersPackage x w) e z.0)
left_of (x ∷ xs) (y ∷ ys) b z (inr m) = let w = left_of xs ys b z.1 m in (w.0, inr w.1, w.2)

moved_member : (xs ys : List PackageModel) (a : PackageModel) → IsPermutation xs ys → Member xs a → Member ys a
moved_member xs ys a w m = member_of ys a (Contains-permutation xs ys a w (contains_of xs a m))

pub same_there : (p q : Metadata) (x : Package) → Reorders (metadata_view p) (metadata_view q) → Member p.packages.items x → Same q.packages.items x
same_there p q x w m =
    let mine = member_map package_view p.packages.items x m in
    let b = right_of (metadata_view p).packages w.packages.packages (package_view x) w.packages.each mine in
    let theirs = moved_member w.packages.packages (metadata_view q).packages b.0 w.packages.moved b.1 in
    let y = mapped_of package_view q.packages.items b.0 theirs in
    record { pkg = y.from; member = y.member; same = subst (ReordersPackage (package_view x)) (sym y.is) b.2 }

pub same_back : (p q : Metadata) (y : Package) → Reorders (metadata_view p) (metadata_view q) → Member q.packages.items y → SameBack p.packages.items y
same_back p q y w m =
    let theirs = member_map package_view q.packages.items y m in
    let back = moved_member (metadata_view q).packages w.packages.packages (package_view y) (IsPermutation-sym w.packages.packages (metadata_view q).packages w.packages.moved) theirs in
    let a = left_of (metadata_view p).packages w.packages.packages (package_view y) w.packages.each back in
    let x = mapped_of package_view p.packages.items a.0 a.1 in
    record { pkg = x.from; member = x.member; same = subst (λ z. ReordersPackage z (package_view y)) (sym x.is) a.2 }

same_text : (x y : Package) → IsSamePackage x y → id_view y.id ≡ id_view x.id
same_text x y w = ap (λ (z : PackageModel). z.id) w.rest

-- a listed package of the first document has a counterpart among those of the second
like_there : ReadsOnce → (p q : Metadata) (P Q : Id → Type 0) (is js : List Identity) (xs ys : List Package) → Reorders (metadata_view p) (metadata_view q) → ((i : Id) → P i → Q i)
    → AreThosePackages p.packages.items P is xs → AreThosePackages q.packages.items Q js ys → (z : Listed) → Member (zip xs is) z → Like z (zip ys js)
like_there once p q P Q is js xs ys w iff x y z m =
    let mine = paired_of xs is z x.read m in
    let both = (x.exactly z.0).0 (contains_of xs z.0 mine.pkg) in
    let s = same_there p q z.0 w (member_of p.packages.items z.0 both.0) in
    let text = same_text z.0 s.pkg s.same in
    let among : HasIdAmong Q s.pkg = record { id = both.1.id; reads = subst (λ t. ReadsAs t both.1.id) (sym text) both.1.reads; holds = iff both.1.id both.1.holds } in
    let listed = (y.exactly s.pkg).1 (contains_of q.packages.items s.pkg s.member, among) in
    let pair = pair_of ys js s.pkg y.read (member_of ys s.pkg listed) in
    let same : z.1 ≡ pair.id = once (id_view z.0.id) z.1 pair.id mine.reads (subst (λ t. Reads t pair.id) text pair.reads) in
    record { other = (s.pkg, pair.id); member = pair.member; alike = (s.same, same) }

like_back : ReadsOnce → (p q : Metadata) (P Q : Id → Type 0) (is js : List Identity) (xs ys : List Package) → Reorders (metadata_view p) (metadata_view q) → ((i : Id) → Q i → P i)
    → AreThosePackages p.packages.items P is xs → AreThosePackages q.packages.items Q js ys → (z : Listed) → Member (zip ys js) z → LikeBack z (zip xs is)
like_back once p q P Q is js xs ys w iff x y z m =
    let theirs = paired_of ys js z y.read m in
    let both = (y.exactly z.0).0 (contains_of ys z.0 theirs.pkg) in
    let s = same_back p q z.0 w (member_of q.packages.items z.0 both.0) in
    let text = same_text s.pkg z.0 s.same in
    let among : HasIdAmong P s.pkg = record { id = both.1.id; reads = subst (λ t. ReadsAs t both.1.id) text both.1.reads; holds = iff both.1.id both.1.holds } in
    let listed = (x.exactly s.pkg).1 (contains_of p.packages.items s.pkg s.member, among) in
    let pair = pair_of xs is s.pkg x.read (member_of xs s.pkg listed) in
    let same : pair.id ≡ z.1 = once (id_view s.pkg.id) pair.id z.1 pair.reads (subst (λ t. Reads t z.1) text theirs.reads) in
    record { other = (s.pkg, pair.id); member = pair.member; alike = (s.same, same) }

pub list_alike : ReadsOnce → IsTotalOrder id_cmp → (p q : Metadata) (P Q : Id → Type 0) → Reorders (metadata_view p) (metadata_view q) → ((i : Id) → P i ↔ Q i) → ListAlike p q P Q
list_alike once o p q P Q w iff =
    let zipped : (is js : List Identity) (xs ys : List Package) → AreThosePackages p.packages.items P is xs → AreThosePackages q.packages.items Q js ys → AllZip IsAlike (zip xs is) (zip ys js) = λ is js xs ys x y.
    all_alike o (zip xs is) (zip ys js) (ascends xs is x.read x.ascending) (ascends ys js y.read y.ascending)
    (like_there once p q P Q is js xs ys w (λ i. (iff i).0) x y) (like_back once p q P Q is js xs ys w (λ i. (iff i).1) x y) in
    record {
      ids = λ is js xs ys x y. ids_alike xs ys is js x.read y.read (zipped is js xs ys x y);
      packages = λ is js xs ys x y. packages_alike xs ys is js x.read y.read (zipped is js xs ys x y);
    }
