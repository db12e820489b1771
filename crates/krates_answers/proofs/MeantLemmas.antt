-- Packages that are meant, as a list of the kept ones and a list of the others.
use Rattle.std.proofs.Common.{◌≡◌, ◌↔◌, ◌≤◌, ◌+◌, ◌++◌, ◌∷◌, ◌∙◌, ℕ, zero, suc, Bool, false, IsTrue, List, [], ap, arith, inl, length, length-append, map, refl, subst, sym, true≢false}
use Rattle.krates_cm.specs.Document.{Text, package_view}
use Rattle.krates_cm.specs.declared.package.Package.{Package}
use Rattle.krates_ids.specs.Identity.{Identity, Reads}
use Rattle.krates_queries.specs.KrateNodes.{Match}
use Rattle.krates_rules.proofs.Members.{Member}
use Rattle.krates_rules.specs.Resolved.{id_of}
use Rattle.krates_answers.specs.Meaning.{AreParted, DocumentPackage, HasId, IsNoId, Means, kept, other, package_in, packages_in}
use Rattle.krates_answers.specs.Those.{AreThose}
use Rattle.krates_answers.specs.WordSpecification.{AskedPackages, AsksFor, IsAskedFor}
use Rattle.krates_answers.specs.declared.meaning.Packages.{Packages}
use Rattle.krates_answers.proofs.MeaningLemmas.{means_as_asked, means_by_id, no_id_found, parted_alike, parted_whole}
use Rattle.krates_answers.proofs.ThoseLemmas.{AreThose-among, AreThose-holds}

-- ---- how many there are, by a test

pub at_least_one : (b : Bool) (n : ℕ) → IsTrue b ↔ (n ≡ 0) → b ≡ false → 1 ≤ n
at_least_one b zero tells isnt = absurd (true≢false (sym (tells.1 refl) ∙ isnt))
at_least_one b (suc n) tells isnt = omega arith

pub at_most_one : (b : Bool) (n : ℕ) → IsTrue b ↔ (2 ≤ n) → b ≡ false → n ≤ 1
at_most_one b zero tells isnt = omega arith
at_most_one b (suc zero) tells isnt = omega arith
at_most_one b (suc (suc n)) tells isnt = absurd (true≢false (sym (tells.1 (omega arith)) ∙ isnt))

-- the last of a list is all of it
alone : {A : Type 0} (xs rest : List A) (x : A) → xs ≡ rest ++ x ∷ [] → length xs ≤ 1 → xs ≡ x ∷ []
alone xs [] x e few = e
alone {A = A} xs (y ∷ rest) x e few = absurd (omega (arith, few, ap (length {A = A}) e, length-append rest (x ∷ [])))

pub empty : {A : Type 0} (xs : List A) → length xs ≤ 0 → xs ≡ []
empty [] few = refl
empty (x ∷ xs) few = absurd (omega (arith, few))

-- one is taken from the end of a list of at most one
pub one_of : {A B : Type 0} (f : A → B) (P : B → Type 0) (all : List B) (xs rest : List A) (x : A) → AreThose P all (map f xs) → xs ≡ rest ++ x ∷ [] → length xs ≤ 1 → AreThose P all (f x ∷ [])
one_of f P all xs rest x those e few = subst (λ ys. AreThose P all (map f ys)) (alone xs rest x e few) those

module _ {A B : Type 0} (f : A → Match Package) (g : B → Package) (p : Packages) where
  abbrev Parted : (DocumentPackage → Type 0) → List A → List B → Type 0
  Parted P ks os = AreParted P p (map f ks) (map g os)

  pub none_parted : (P : DocumentPackage → Type 0) (ks : List A) (os : List B) → Parted P ks os → length ks + length os ≡ 0 → AreThose P (packages_in p) []
  none_parted P [] [] parted none = parted_whole P p [] [] parted
  none_parted P (k ∷ ks) os parted none = absurd (omega (arith, none))
  none_parted P [] (o ∷ os) parted none = absurd (omega (arith, none))

  pub one_kept : (P : DocumentPackage → Type 0) (ks rest : List A) (os : List B) (k : A) → Parted P ks os → ks ≡ rest ++ k ∷ [] → length ks + length os ≤ 1 → AreThose P (packages_in p) (kept (f k) ∷ [])
  one_kept P ks rest os k parted e few =
      let first : ks ≡ k ∷ [] = alone ks rest k e (omega (arith, few)) in
      let others : os ≡ [] = empty os (omega (arith, few, ap (length {A = A}) first)) in
      subst (AreThose P (packages_in p)) (ap (λ xs. map kept (map f xs) ++ map other (map g os)) first ∙ ap (λ ys. map kept (map f (k ∷ [])) ++ map other (map g ys)) others)
      (parted_whole P p (map f ks) (map g os) parted)

  pub one_other : (P : DocumentPackage → Type 0) (ks : List A) (os rest : List B) (o : B) → Parted P ks os → length ks ≡ 0 → os ≡ rest ++ o ∷ [] → length ks + length os ≤ 1 → AreThose P (packages_in p) (other (g o) ∷ [])
  one_other P ks os rest o parted none e few =
      let first : ks ≡ [] = empty ks (omega (arith, none)) in
      let others : os ≡ o ∷ [] = alone os rest o e (omega (arith, few)) in
      subst (AreThose P (packages_in p)) (ap (λ xs. map kept (map f xs) ++ map other (map g os)) first ∙ ap (λ ys. map other (map g ys)) others)
      (parted_whole P p (map f ks) (map g os) parted)

  -- ---- by an id that is read

  module _ (word : Text) (id : Identity) (reads : Reads word id) where
    meant_with : (ks : List A) (os : List B) (d : DocumentPackage) → Parted (HasId (id_of id)) ks os → Member (map kept (map f ks) ++ map other (map g os)) d → Parted (Means p word) ks os
    meant_with ks os d parted taken =
        let whole = parted_whole (HasId (id_of id)) p (map f ks) (map g os) parted in
        parted_alike (HasId (id_of id)) (Means p word) p (map f ks) (map g os)
        (λ other among. means_by_id p word id reads d (AreThose-among whole d taken) (AreThose-holds whole d taken) other) parted

    pub meant_by_id : (ks : List A) (os : List B) → Parted (HasId (id_of id)) ks os → 1 ≤ length ks + length os → Parted (Means p word) ks os
    meant_by_id (k ∷ ks) os parted some = meant_with (k ∷ ks) os (kept (f k)) parted (inl refl)
    meant_by_id [] (o ∷ os) parted some = meant_with [] (o ∷ os) (other (g o)) parted (inl refl)
    meant_by_id [] [] parted some = absurd (omega (arith, some))

    pub no_id_parted : (ks : List A) (os : List B) → Parted (HasId (id_of id)) ks os → length ks + length os ≡ 0 → IsNoId p word
    no_id_parted [] [] parted none = no_id_found p word id reads parted
    no_id_parted (k ∷ ks) os parted none = absurd (omega (arith, none))
    no_id_parted [] (o ∷ os) parted none = absurd (omega (arith, none))

  -- ---- as a specification

  pub meant_as_asked : (word : Text) (asked : AskedPackages) (ks : List A) (os : List B) → IsNoId p word → AsksFor word asked
      → Parted (λ d. IsAskedFor asked (package_view (package_in d))) ks os → Parted (Means p word) ks os
  meant_as_asked word asked ks os no_id asks parted =
      parted_alike (λ d. IsAskedFor asked (package_view (package_in d))) (Means p word) p (map f ks) (map g os) (λ d among. means_as_asked p word asked no_id asks d among) parted
