-- A manifest and a document have one answer: the resolver that is used, or one cause of a refusal.
use Rattle.std.proofs.Common.{◌≡◌, ℕ, ◌<◌, List, length, get_or, None, Some, slice_get, inl, inr, refl, sym, ap, ◌∙◌, subst, arith}
use Rattle.std.proofs.lemmas.Bool.{cases_lt}
use Rattle.std.proofs.lemmas.Option.{none-some, same_Some, slice_get_cases}
use Rattle.krates_cm.specs.Document.{Text}
use Rattle.krates_cm.specs.Queries.{IsFirst}
use Rattle.krates_cm.specs.declared.metadata.Metadata.{Metadata}
use Rattle.krates_units.specs.declared.setting.Resolver.{Resolver}
use Rattle.krates_units.specs.declared.setting.Resolver.TheVariants.{V1, V2, V3}
use Rattle.krates_manifest.specs.ManifestFaults.{HaveOneCause, IsFault, IsFaultOf, IsNoToml}
use Rattle.krates_manifest.specs.ManifestFields.{IsTextOf, NamesNone, NamesOne, NamesTwo, resolver_text}
use Rattle.krates_manifest.specs.ResolverOf.{HasRootManifest, IsDefaultOf, IsResolver, IsResolverOf, edition_resolver}
use Rattle.krates_manifest.specs.declared.manifest_error.ManifestError.{ManifestError}
use Rattle.krates_manifest.specs.declared.manifest_error.ManifestError.TheVariants as errors
use Rattle.toml.specs.Data.{Data, Members, as_str, string}
use Rattle.toml.specs.View.{view}
use Rattle.toml.specs.declared.de.error.Error as toml

-- ---- the first of a list with a property

at_place : {X : Type 0} (xs : List X) (k : ℕ) (x : X) → slice_get xs k ≡ Some x → (k < length xs) × (get_or xs k x ≡ x)
at_place xs k x here =
    elim (slice_get_cases xs k).1 [
      | inl r ↦ (r.1, subst (λ y. get_or xs k y ≡ y) (same_Some r.0 x (sym r.2 ∙ here)) r.3)
      | inr r ↦ absurd (none-some x (sym r.1 ∙ here))
    ]

not_before : {X : Type 0} (P : X → Type 0) (xs : List X) (x y : X) (a : IsFirst P xs (Some x)) (b : IsFirst P xs (Some y)) → a.1 < b.1 → ⊥
not_before P xs x y a b before = b.3 a.1 x (omega arith) before (subst P (sym (at_place xs a.1 x a.2).1) a.0)

one_first : {X : Type 0} (P : X → Type 0) (xs : List X) (x y : X) → IsFirst P xs (Some x) → IsFirst P xs (Some y) → x ≡ y
one_first P xs x y a b =
    elim (cases_lt a.1 b.1) [
      | inl before ↦ absurd (not_before P xs x y a b before)
      | inr le ↦ elim (cases_lt b.1 a.1) [
        | inl before ↦ absurd (not_before P xs y x b a before)
        | inr ge ↦ (
            let place : a.1 ≡ b.1 = omega arith in
            same_Some x y (sym a.2 ∙ ap (slice_get xs) place ∙ b.2))
      ]
    ]

first_or_none : {X : Type 0} (P : X → Type 0) (xs : List X) (x : X) → IsFirst P xs (Some x) → IsFirst P xs None → ⊥
first_or_none P xs x a none =
    let at = at_place xs a.1 x a.2 in
    none a.1 x at.0 (subst P (sym at.1) a.0)

-- ---- what is named

other_text : (a b : Text) → get_or a 0 0 < get_or b 0 0 → a ≡ b → ⊥
other_text a b lt e = let same : get_or a 0 0 ≡ get_or b 0 0 = ap (λ t. get_or t 0 0) e in omega arith

same_text : (r s : Resolver) → resolver_text r ≡ resolver_text s → r ≡ s
same_text V1 V1 e = refl
same_text V2 V2 e = refl
same_text V3 V3 e = refl
same_text V1 V2 e = absurd (other_text (resolver_text V1) (resolver_text V2) (omega arith) e)
same_text V1 V3 e = absurd (other_text (resolver_text V1) (resolver_text V3) (omega arith) e)
same_text V2 V3 e = absurd (other_text (resolver_text V2) (resolver_text V3) (omega arith) e)
same_text V2 V1 e = absurd (other_text (resolver_text V1) (resolver_text V2) (omega arith) (sym e))
same_text V3 V1 e = absurd (other_text (resolver_text V1) (resolver_text V3) (omega arith) (sym e))
same_text V3 V2 e = absurd (other_text (resolver_text V2) (resolver_text V3) (omega arith) (sym e))

same_name : (r s : Resolver) → string (resolver_text r) ≡ string (resolver_text s) → r ≡ s
same_name r s e = same_text r s (same_Some (resolver_text r) (resolver_text s) (ap as_str e))

one_name : (m : Members) (v w : Data) → NamesOne m v → NamesOne m w → v ≡ w
one_name m v w (inl a) (inl b) = same_Some v w (sym a.0 ∙ b.0)
one_name m v w (inl a) (inr b) = absurd (none-some v (sym b.0 ∙ a.0))
one_name m v w (inr a) (inl b) = absurd (none-some w (sym a.0 ∙ b.0))
one_name m v w (inr a) (inr b) = same_Some v w (sym a.1 ∙ b.1)

one_or_none : (m : Members) (v : Data) → NamesOne m v → NamesNone m → ⊥
one_or_none m v (inl a) none = none-some v (sym none.no_workspace ∙ a.0)
one_or_none m v (inr a) none = none-some v (sym none.no_package ∙ a.1)

one_or_two : (m : Members) (v : Data) → NamesOne m v → NamesTwo m → ⊥
one_or_two m v (inl a) two = none-some two.of_package (sym a.1 ∙ two.second)
one_or_two m v (inr a) two = none-some two.of_workspace (sym a.0 ∙ two.first)

none_or_two : (m : Members) → NamesNone m → NamesTwo m → ⊥
none_or_two m none two = none-some two.of_workspace (sym none.no_workspace ∙ two.first)

-- ---- one resolver

one_default : (m : Members) (document : Metadata) (r s : Resolver) → IsDefaultOf m document r → IsDefaultOf m document s → r ≡ s
one_default m document r s (inl a) (inl b) =
    let same = one_first (HasRootManifest document) document.packages.items a.pkg b.pkg a.found b.found in
    a.is ∙ ap (λ pkg. edition_resolver pkg.edition) same ∙ sym b.is
one_default m document r s (inl a) (inr b) = absurd (none-some a.value (sym b.virtual ∙ a.said))
one_default m document r s (inr a) (inl b) = absurd (none-some b.value (sym a.virtual ∙ b.said))
one_default m document r s (inr a) (inr b) = a.is ∙ sym b.is

one_used : (m : Members) (document : Metadata) (r s : Resolver) → IsResolverOf m document r → IsResolverOf m document s → r ≡ s
one_used m document r s (inl a) (inl b) = same_name r s (one_name m (string (resolver_text r)) (string (resolver_text s)) a b)
one_used m document r s (inl a) (inr b) = absurd (one_or_none m (string (resolver_text r)) a b.0)
one_used m document r s (inr a) (inl b) = absurd (one_or_none m (string (resolver_text s)) b a.0)
one_used m document r s (inr a) (inr b) = one_default m document r s a.1 b.1

pub is_one_resolver : (text : Text) (document : Metadata) (one other : Resolver) → IsResolver text document one
    → IsResolver text document other → one ≡ other
is_one_resolver text document one other a b =
    let same : a.manifest ≡ b.manifest = same_Some a.manifest b.manifest (sym a.is ∙ b.is) in
    one_used b.manifest document one other (subst (λ m. IsResolverOf m document one) same a.used) b.used

-- ---- a resolver or a refusal

used_or_lacking : (m : Members) (document : Metadata) (r : Resolver) → IsDefaultOf m document r → IsFaultOf m document errors.NoPackage → ⊥
used_or_lacking m document r (inl a) fault = first_or_none (HasRootManifest document) document.packages.items a.pkg a.found fault.1.lacking
used_or_lacking m document r (inr a) fault = none-some fault.1.value (sym a.virtual ∙ fault.1.said)

used_or_refused : (m : Members) (document : Metadata) (r : Resolver) (e : ManifestError) → IsResolverOf m document r
    → IsFaultOf m document e → e ≡ errors.Memory
used_or_refused m document r errors.Memory used fault = refl
used_or_refused m document r (errors.NotToml error) used fault = absurd fault
used_or_refused m document r errors.TwoResolvers (inl a) fault = absurd (one_or_two m (string (resolver_text r)) a fault)
used_or_refused m document r errors.TwoResolvers (inr a) fault = absurd (none_or_two m a.0 fault)
used_or_refused m document r (errors.BadResolver value) (inl a) fault =
    absurd (fault.1 r (one_name m (view value) (string (resolver_text r)) fault.0 a))
used_or_refused m document r (errors.BadResolver value) (inr a) fault = absurd (one_or_none m (view value) fault.0 a.0)
used_or_refused m document r errors.NoPackage (inl a) fault = absurd (one_or_none m (string (resolver_text r)) a fault.0)
used_or_refused m document r errors.NoPackage (inr a) fault = absurd (used_or_lacking m document r a.1 fault)

-- a refusal of the manifest that a text is read as
used_or_refused_as : (text : Text) (document : Metadata) (r : Resolver) (e : ManifestError) (m : Members) → IsTextOf text m
    → IsResolver text document r → IsFaultOf m document e → e ≡ errors.Memory
used_or_refused_as text document r e m is a fault =
    used_or_refused m document r e (subst (λ n. IsResolverOf n document r) (same_Some a.manifest m (sym a.is ∙ is)) a.used) fault

pub is_no_refusal_of_what_is_used : (text : Text) (document : Metadata) (r : Resolver) (e : ManifestError) → IsResolver text document r
    → IsFault text document e → e ≡ errors.Memory
is_no_refusal_of_what_is_used text document r errors.Memory a fault = refl
is_no_refusal_of_what_is_used text document r (errors.NotToml error) a fault = absurd (none-some a.manifest (sym fault.none ∙ a.is))
is_no_refusal_of_what_is_used text document r errors.TwoResolvers a fault =
    used_or_refused_as text document r errors.TwoResolvers fault.0 fault.1 a fault.2
is_no_refusal_of_what_is_used text document r (errors.BadResolver value) a fault =
    used_or_refused_as text document r (errors.BadResolver value) fault.0 fault.1 a fault.2
is_no_refusal_of_what_is_used text document r errors.NoPackage a fault = used_or_refused_as text document r errors.NoPackage fault.0 fault.1 a fault.2

-- ---- one cause of a refusal

one_fault : (m : Members) (document : Metadata) (one other : ManifestError) → IsFaultOf m document one → IsFaultOf m document other
    → HaveOneCause one other
one_fault m document errors.Memory other a b = tt
one_fault m document (errors.NotToml error) other a b = absurd a
one_fault m document errors.TwoResolvers errors.Memory a b = tt
one_fault m document errors.TwoResolvers (errors.NotToml error) a b = absurd b
one_fault m document errors.TwoResolvers errors.TwoResolvers a b = tt
one_fault m document errors.TwoResolvers (errors.BadResolver value) a b = one_or_two m (view value) b.0 a
one_fault m document errors.TwoResolvers errors.NoPackage a b = none_or_two m b.0 a
one_fault m document (errors.BadResolver value) errors.Memory a b = tt
one_fault m document (errors.BadResolver value) (errors.NotToml error) a b = absurd b
one_fault m document (errors.BadResolver value) errors.TwoResolvers a b = one_or_two m (view value) a.0 b
one_fault m document (errors.BadResolver value) (errors.BadResolver other) a b = one_name m (view value) (view other) a.0 b.0
one_fault m document (errors.BadResolver value) errors.NoPackage a b = one_or_none m (view value) a.0 b.0
one_fault m document errors.NoPackage errors.Memory a b = tt
one_fault m document errors.NoPackage (errors.NotToml error) a b = absurd b
one_fault m document errors.NoPackage errors.TwoResolvers a b = none_or_two m a.0 b
one_fault m document errors.NoPackage (errors.BadResolver value) a b = one_or_none m (view value) b.0 a.0
one_fault m document errors.NoPackage errors.NoPackage a b = tt

-- a refusal of the manifest that a text is read as
abbrev Refuses : Text → Metadata → ManifestError → Type 0
Refuses text document e = (m : Members) × IsTextOf text m × IsFaultOf m document e

not_read : (text : Text) (m : Members) (e : toml.Error) → IsTextOf text m → IsNoToml text e → ⊥
not_read text m e is none = none-some m (sym none.none ∙ is)

both_read : (text : Text) (document : Metadata) (one other : ManifestError) → Refuses text document one → Refuses text document other
    → HaveOneCause one other
both_read text document one other a b =
    one_fault b.0 document one other (subst (λ m. IsFaultOf m document one) (same_Some a.0 b.0 (sym a.1 ∙ b.1)) a.2) b.2

pub is_one_cause : (text : Text) (document : Metadata) (one other : ManifestError) → IsFault text document one
    → IsFault text document other → HaveOneCause one other
is_one_cause text document errors.Memory other a b = tt
is_one_cause text document (errors.NotToml one) errors.Memory a b = tt
is_one_cause text document (errors.NotToml one) (errors.NotToml other) a b = tt
is_one_cause text document (errors.NotToml one) errors.TwoResolvers a b = not_read text b.0 one b.1 a
is_one_cause text document (errors.NotToml one) (errors.BadResolver other) a b = not_read text b.0 one b.1 a
is_one_cause text document (errors.NotToml one) errors.NoPackage a b = not_read text b.0 one b.1 a
is_one_cause text document errors.TwoResolvers errors.Memory a b = tt
is_one_cause text document errors.TwoResolvers (errors.NotToml other) a b = not_read text a.0 other a.1 b
is_one_cause text document errors.TwoResolvers errors.TwoResolvers a b = both_read text document errors.TwoResolvers errors.TwoResolvers a b
is_one_cause text document errors.TwoResolvers (errors.BadResolver other) a b =
    both_read text document errors.TwoResolvers (errors.BadResolver other) a b
is_one_cause text document errors.TwoResolvers errors.NoPackage a b = both_read text document errors.TwoResolvers errors.NoPackage a b
is_one_cause text document (errors.BadResolver one) errors.Memory a b = tt
is_one_cause text document (errors.BadResolver one) (errors.NotToml other) a b = not_read text a.0 other a.1 b
is_one_cause text document (errors.BadResolver one) errors.TwoResolvers a b = both_read text document (errors.BadResolver one) errors.TwoResolvers a b
is_one_cause text document (errors.BadResolver one) (errors.BadResolver other) a b =
    both_read text document (errors.BadResolver one) (errors.BadResolver other) a b
is_one_cause text document (errors.BadResolver one) errors.NoPackage a b = both_read text document (errors.BadResolver one) errors.NoPackage a b
is_one_cause text document errors.NoPackage errors.Memory a b = tt
is_one_cause text document errors.NoPackage (errors.NotToml other) a b = not_read text a.0 other a.1 b
is_one_cause text document errors.NoPackage errors.TwoResolvers a b = both_read text document errors.NoPackage errors.TwoResolvers a b
is_one_cause text document errors.NoPackage (errors.BadResolver other) a b = both_read text document errors.NoPackage (errors.BadResolver other) a b
is_one_cause text document errors.NoPackage errors.NoPackage a b = both_read text document errors.NoPackage errors.NoPackage a b
