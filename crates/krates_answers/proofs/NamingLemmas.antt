-- Where exactly one package is meant, no refusal is true.
use Rattle.std.proofs.Common.{◌≡◌, ◌≤◌, ◌+◌, ◌++◌, List, [], ◌∷◌, ap, length, length-append, map, refl, inl, arith, string_bytes, subst, sym}
use Rattle.std.proofs.lemmas.List.{length-map}
use Rattle.std.specs.List.{AllZip}
use Rattle.krates_cm.specs.Document.{Text}
use Rattle.krates_cm.specs.declared.package.Package.{Package}
use Rattle.krates_queries.specs.KrateNodes.{Match}
use Rattle.krates_rules.proofs.Members.{Member, contains_of}
use Rattle.krates_answers.specs.Meaning.{AreParted, DocumentPackage, IsNoId, Means, MeansKept, by_id, by_specification, kept, kept_in, other, package_in, packages_in}
use Rattle.krates_answers.specs.Naming.{IsUnread, IsUnreadable, MeansNone, MeansNotOne, MeansNotOneKept, TellsNotKept, TellsSeveral, TellsUnknown, all_of}
use Rattle.krates_answers.specs.PackageText.{IsTextAmong}
use Rattle.krates_answers.specs.Those.{AreThose}
use Rattle.krates_answers.specs.WordSpecification.{AskedPackages, AsksFor}
use Rattle.krates_answers.specs.declared.meaning.Packages.{Packages}
use Rattle.krates_answers.specs.declared.naming.NamingError.{NamingError}
use Rattle.krates_answers.specs.declared.naming.NamingError.TheVariants as errors
use Rattle.krates_answers.proofs.MeaningLemmas.{kept_among, parted_whole}
use Rattle.krates_answers.proofs.ThoseLemmas.{AreThose-among, AreThose-has, AreThose-holds, AreThose-once}

-- a list of one isn't empty, and isn't one of several
not_empty : {A : Type 0} (x : A) → [] ≡ x ∷ [] → ⊥
not_empty {A = A} x e = let none : length {A = A} [] ≡ length (x ∷ []) = ap length e in absurd (omega (arith, none))

not_several : {A : Type 0} (x : A) (xs : List A) → 2 ≤ length xs → xs ≡ x ∷ [] → ⊥
not_several x xs several e = let one : length xs ≡ 1 = ap length e in absurd (omega (arith, one, several))

module _ (p : Packages) (word : Text) where
  unreadable_means_none : (what : Text) → IsUnreadable p word what → (d : DocumentPackage) → Member (packages_in p) d → Means p word d → ⊥
  unreadable_means_none what is d among (by_id named) = is.no_id d (contains_of (packages_in p) d among) named
  unreadable_means_none what is d among (by_specification none asks) = is.nothing.nothing asks.asked asks.asks

  -- no package of the document is meant, if memory suffices
  none_meant : (e : NamingError) → MeansNone p word e → (d : DocumentPackage) → Member (packages_in p) d → Means p word d → e ≡ errors.Memory
  none_meant (errors.Unread said what) told d among means = absurd (unreadable_means_none _ told.1 d among means)
  none_meant (errors.Unknown said near) told d among means = absurd (AreThose-has told.1.none d among means)
  none_meant (errors.NotKept said packages) told d among means = absurd told
  none_meant (errors.Several said specs) told d among means = absurd told
  none_meant errors.Memory told d among means = refl

  -- where one is meant, only memory can be lacking
  pub none_only_memory_kept : (e : NamingError) → MeansNone p word e → (m : Match Package) → AreThose (MeansKept p word) (kept_in p) (m ∷ []) → e ≡ errors.Memory
  none_only_memory_kept e told m one = none_meant e told (kept m) (kept_among p m (AreThose-among one m (inl refl))) (AreThose-holds one m (inl refl))

  pub none_only_memory : (e : NamingError) → MeansNone p word e → (d : DocumentPackage) → AreThose (Means p word) (packages_in p) (d ∷ []) → e ≡ errors.Memory
  none_only_memory e told d one = none_meant e told d (AreThose-among one d (inl refl)) (AreThose-holds one d (inl refl))

  pub only_memory_kept : (e : NamingError) → MeansNotOneKept p word e → (m : Match Package) → AreThose (MeansKept p word) (kept_in p) (m ∷ []) → e ≡ errors.Memory
  only_memory_kept (errors.NotKept said packages) told m one = absurd (not_empty m (AreThose-once told.1.none_kept one))
  only_memory_kept (errors.Several said specs) told m one = absurd (not_several m told.1.crates told.1.several (AreThose-once told.1.meant one))
  only_memory_kept (errors.Unread said what) told m one = none_meant (errors.Unread said what) told (kept m) (kept_among p m (AreThose-among one m (inl refl))) (AreThose-holds one m (inl refl))
  only_memory_kept (errors.Unknown said near) told m one = none_meant (errors.Unknown said near) told (kept m) (kept_among p m (AreThose-among one m (inl refl))) (AreThose-holds one m (inl refl))
  only_memory_kept errors.Memory told m one = refl

  pub only_memory : (e : NamingError) → MeansNotOne p word e → (d : DocumentPackage) → AreThose (Means p word) (packages_in p) (d ∷ []) → e ≡ errors.Memory
  only_memory (errors.Several said specs) told d one = absurd (not_several d told.1.packages told.1.several (AreThose-once told.1.meant one))
  only_memory (errors.NotKept said packages) told d one = absurd told
  only_memory (errors.Unread said what) told d one = none_meant (errors.Unread said what) told d (AreThose-among one d (inl refl)) (AreThose-holds one d (inl refl))
  only_memory (errors.Unknown said near) told d one = none_meant (errors.Unknown said near) told d (AreThose-among one d (inl refl)) (AreThose-holds one d (inl refl))
  only_memory errors.Memory told d one = refl

-- ---- what a refusal tells is true

module _ (p : Packages) (word : Text) where
  pub unreadable_told : (e : NamingError) → IsNoId p word → IsUnread word e → MeansNone p word e
  unreadable_told (errors.Unread said what) no_id told = (told.0, record { no_id = no_id; nothing = told.1 })
  unreadable_told (errors.Unknown said near) no_id told = absurd told
  unreadable_told (errors.NotKept said packages) no_id told = absurd told
  unreadable_told (errors.Several said specs) no_id told = absurd told
  unreadable_told errors.Memory no_id told = tt

  pub unknown_told : (e : NamingError) (asked : AskedPackages) → AsksFor word asked → AreThose (Means p word) (packages_in p) [] → TellsUnknown p word e → MeansNone p word e
  unknown_told (errors.Unknown said near) asked asks empty told = (told.0, record { asked = asked; asks = asks; none = empty; near = told.1 })
  unknown_told (errors.Unread said what) asked asks empty told = absurd told
  unknown_told (errors.NotKept said packages) asked asks empty told = absurd told
  unknown_told (errors.Several said specs) asked asks empty told = absurd told
  unknown_told errors.Memory asked asks empty told = absurd told

  pub not_kept_told : (e : NamingError) (others : List Package) → AreParted (Means p word) p [] others → 1 ≤ length others → TellsNotKept p word others e → MeansNotOneKept p word e
  not_kept_told (errors.NotKept said packages) others parted some told =
      (told.0, record { others = others; some = some; none_kept = parted.kept_ones; meant = parted.others; told = told.1 })
  not_kept_told (errors.Unread said what) others parted some told = absurd told
  not_kept_told (errors.Unknown said near) others parted some told = absurd told
  not_kept_told (errors.Several said specs) others parted some told = absurd told
  not_kept_told errors.Memory others parted some told = absurd told

  pub several_kept_told : (e : NamingError) (crates : List (Match Package)) (others : List Package) → AreParted (Means p word) p crates others → 2 ≤ length crates
      → TellsSeveral p word (map (λ m. m.krate) crates) e → MeansNotOneKept p word e
  several_kept_told (errors.Several said specs) crates others parted several told =
      (told.0, record { crates = crates; several = several; meant = parted.kept_ones; told = told.1 })
  several_kept_told (errors.Unread said what) crates others parted several told = absurd told
  several_kept_told (errors.Unknown said near) crates others parted several told = absurd told
  several_kept_told (errors.NotKept said packages) crates others parted several told = absurd told
  several_kept_told errors.Memory crates others parted several told = absurd told

  -- the packages of both lists
  packages_told : (crates : List (Match Package)) (others : List Package) → map package_in (map kept crates ++ map other others) ≡ map (λ m. m.krate) crates ++ others
  packages_told [] [] = refl
  packages_told [] (pkg ∷ others) = ap (λ all. pkg ∷ all) (packages_told [] others)
  packages_told (m ∷ crates) others = ap (λ all. m.krate ∷ all) (packages_told crates others)

  pub several_told : (e : NamingError) (crates : List (Match Package)) (others : List Package) → AreParted (Means p word) p crates others → 2 ≤ length crates + length others
      → TellsSeveral p word (map (λ m. m.krate) crates ++ others) e → MeansNotOne p word e
  several_told (errors.Several said specs) crates others parted several told = (
    told.0,
    record {
      packages = map kept crates ++ map other others;
      several = omega (arith, several, length-append (map kept crates) (map other others), length-map crates kept, length-map others other);
      meant = parted_whole (Means p word) p crates others parted;
      told = subst (λ all. AllZip (IsTextAmong (all_of p)) all (map string_bytes specs.items)) (sym (packages_told crates others)) told.1;
    },
  )
  several_told (errors.Unread said what) crates others parted several told = absurd told
  several_told (errors.Unknown said near) crates others parted several told = absurd told
  several_told (errors.NotKept said packages) crates others parted several told = absurd told
  several_told errors.Memory crates others parted several told = absurd told
