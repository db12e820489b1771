-- Each text has exactly one outcome: one specification or one refusal.
use Rattle.std.proofs.Common.{◌≡◌, ◌≢◌, ℕ, [], ◌∷◌, ◌++◌, true, false, refl, sym, ap, ◌∙◌, inl, inr, ⊎_elim}
use Rattle.std.specs.Prelude.{◌⊎◌, Option, Some, None, Result, Ok, Err, IfOk, IfErr}
use Rattle.std.proofs.lemmas.Bool.{cases_Bool, cases_eq, false≢true}
use Rattle.krates_cm.specs.Document.{Text}
use Rattle.krates_text.specs.Cuts.{Lacks, FirstCut, LastCut}
use Rattle.krates_ids.specs.PackageSpecification.{Specification, Outcome, Checks, checked, SplitAt, IsUnsplit, IsFragment, is_split, is_name_alone, is_version_alone, scheme_end, HasScheme, IsUrl, with_scheme, without_scheme, IsLocated, url_alone, with_fragment, IsText, a_fragment, a_url, a_short_url, Gives, IsSpec, IsSpecFault, begins_with_letter, default_scheme, spec_view}
use Rattle.krates_ids.specs.Separators.{hash_sign, slash, colon, at_sign}
use Rattle.krates_ids.specs.SpecificationAnswers.{IsRefusedBy, Answers}
use Rattle.krates_ids.specs.declared.error.Error.{Error}
use Rattle.krates_ids.specs.declared.error.Error.TheVariants as errors
use Rattle.krates_ids.specs.declared.pkgspec.PkgSpec.{PkgSpec}
use Rattle.krates_text.proofs.TextLemmas.{cut_or_lacks}
use Rattle.krates_text.proofs.CutsLemmas.{Lacks-middle, FirstCut-lacks, FirstCut-once, FirstCut-or, LastCut-once, LastCut-or}
use Rattle.krates_ids.proofs.SpecificationLemmas.{HasScheme-slash}

-- ---- equal lists and outcomes

abbrev the_ok : Specification → Outcome
the_ok a = Ok a

abbrev the_err : Text → Outcome
the_err t = Err t

ok_same : {a b : Specification} → the_ok a ≡ the_ok b → a ≡ b
ok_same e = cc

err_same : {a b : Text} → the_err a ≡ the_err b → a ≡ b
err_same e = cc

ok_no_err : {a : Specification} {b : Text} → the_ok a ≡ the_err b → ⊥
ok_no_err e = cc

abbrev the_some : Text → Option Text
the_some t = Some t

some_same : {a b : Text} → the_some a ≡ the_some b → a ≡ b
some_same e = cc

none_is_some : {a : Text} → None ≡ the_some a → ⊥
none_is_some e = cc

-- ---- at most one

abbrev IsSeparator : ℕ → Type 0
IsSeparator s = (s ≡ colon) ⊎ (s ≡ at_sign)

lacks_separator : (s b : ℕ) → IsSeparator s → b ≢ colon → b ≢ at_sign → s ≡ b → ⊥
lacks_separator s b (inl is) no_colon no_at same = no_colon (sym same ∙ is)
lacks_separator s b (inr is) no_colon no_at same = no_at (sym same ∙ is)

split_once : (s s' : ℕ) (x x' y y' : Text) → IsSeparator s → IsSeparator s' → Lacks colon x → Lacks at_sign x → Lacks colon x' → Lacks at_sign x' → x ++ s ∷ y ≡ x' ++ s' ∷ y' → (x ≡ x') × (y ≡ y')
split_once s s' [] [] y y' is is' hc ha hc' ha' e = (refl, cc)
split_once s s' [] (b ∷ x') y y' is is' hc ha hc' ha' e = absurd (lacks_separator s b is hc'.0 ha'.0 (cc))
split_once s s' (b ∷ x) [] y y' is is' hc ha hc' ha' e = absurd (lacks_separator s' b is' hc.0 ha.0 (cc))
split_once s s' (b ∷ x) (b' ∷ x') y y' is is' hc ha hc' ha' e =
    let rest = split_once s s' x x' y y' is is' hc.1 ha.1 hc'.1 ha'.1 (cc) in
    (cc, rest.1)

SplitAt-once : {t x y x' y' : Text} → SplitAt t x y → SplitAt t x' y' → (x ≡ x') × (y ≡ y')
SplitAt-once {t} {x} {y} {x'} {y'} h k =
    split_once h.separator k.separator x x' y y' h.is_separator k.is_separator h.no_colon h.no_at k.no_colon k.no_at (sym h.is ∙ k.is)

unsplit_lacks : (s : ℕ) (x y : Text) → Lacks colon (x ++ s ∷ y) → Lacks at_sign (x ++ s ∷ y) → IsSeparator s → ⊥
unsplit_lacks s x y no_colon no_at (inl is) = Lacks-middle colon x y (rw is at no_colon)
unsplit_lacks s x y no_colon no_at (inr is) = Lacks-middle at_sign x y (rw is at no_at)

SplitAt-unsplit : (t x y : Text) → IsUnsplit t → SplitAt t x y → ⊥
SplitAt-unsplit t x y u h =
    unsplit_lacks h.separator x y (rw h.is at u.no_colon) (rw h.is at u.no_at) h.is_separator

-- a fragment that is a name isn't a version
no_version : (piece : Option Text) (f name : Text) → (piece ≡ None) ⊎ (begins_with_letter f ≡ true) → piece ≡ Some name → begins_with_letter f ≡ false → ⊥
no_version piece f name (inl none) some plain = absurd (none_is_some (sym none ∙ some))
no_version piece f name (inr letter) some plain = false≢true (sym plain ∙ letter)

IsFragment-once : (url piece : Option Text) (f : Text) (cs ds : Checks) (a b : Specification) → IsFragment url piece f cs a → IsFragment url piece f ds b → (cs ≡ ds) × (a ≡ b)
IsFragment-once url piece f cs ds a b (is_split n v s) (is_split n' v' s') =
    let same = SplitAt-once s s' in
    (rw (same.0, same.1) refl, rw (same.0, same.1) refl)
IsFragment-once url piece f cs ds a b (is_split n v s) (is_name_alone u e) = absurd (SplitAt-unsplit f n v u s)
IsFragment-once url piece f cs ds a b (is_split n v s) (is_version_alone m u some plain) = absurd (SplitAt-unsplit f n v u s)
IsFragment-once url piece f cs ds a b (is_name_alone u e) (is_split n v s) = absurd (SplitAt-unsplit f n v u s)
IsFragment-once url piece f cs ds a b (is_name_alone u e) (is_name_alone u' e') = (refl, refl)
IsFragment-once url piece f cs ds a b (is_name_alone u e) (is_version_alone m u' some plain) = absurd (no_version piece f m e some plain)
IsFragment-once url piece f cs ds a b (is_version_alone m u some plain) (is_split n v s) = absurd (SplitAt-unsplit f n v u s)
IsFragment-once url piece f cs ds a b (is_version_alone m u some plain) (is_name_alone u' e) = absurd (no_version piece f m e some plain)
IsFragment-once url piece f cs ds a b (is_version_alone m u some plain) (is_version_alone m' u' some' plain') =
    let same : m ≡ m' = some_same (sym some ∙ some') in
    (rw same refl, rw same refl)

IsUrl-once : (url : Text) (cs ds : Checks) (p q : Text) → IsUrl url cs p → IsUrl url ds q → (cs ≡ ds) × (p ≡ q)
IsUrl-once url cs ds p q (with_scheme x p' scheme h) (with_scheme y q' scheme' k) =
    let same = LastCut-once h k in
    (rw same.0 refl, same.1)
IsUrl-once url cs ds p q (with_scheme x p' scheme h) (without_scheme none) = absurd (none scheme)
IsUrl-once url cs ds p q (without_scheme none) (with_scheme y q' scheme k) = absurd (none scheme)
IsUrl-once url cs ds p q (without_scheme none) (without_scheme none') = (refl, refl)

fragment_once : (u u' f f' p p' : Text) (cs cs' ds ds' : Checks) (a b : Specification) → u ≡ u' → f ≡ f' → IsUrl u cs p → IsUrl u' cs' p' → IsFragment (Some u) (Some p) f ds a → IsFragment (Some u') (Some p') f' ds' b → (cs ≡ cs') × (ds ≡ ds') × (a ≡ b)
fragment_once u u' f f' p p' cs cs' ds ds' a b same_url same_fragment h h' k k' =
    let urls = IsUrl-once u' cs cs' p p' (rw same_url at h) h' in
    let moved : IsFragment (Some u') (Some p') f' ds a = rw (← same_url, ← same_fragment, ← urls.1) k in
    let fragments = IsFragment-once (Some u') (Some p') f' ds ds' a b moved k' in
    (urls.0, fragments.0, fragments.1)

IsLocated-once : (t : Text) (cs ds : Checks) (a b : Specification) → IsLocated t cs a → IsLocated t ds b → (cs ≡ ds) × (a ≡ b)
IsLocated-once t cs ds a b (url_alone us p none h) (url_alone us' p' none' h') =
    let same = IsUrl-once t us us' p p' h h' in
    (rw (same.0, same.1) refl, rw same.1 refl)
IsLocated-once t cs ds a b (url_alone us p none h) (with_fragment u f q vs more spec cut k m) = absurd (FirstCut-lacks none cut)
IsLocated-once t cs ds a b (with_fragment u f q vs more spec cut k m) (url_alone us p none h) = absurd (FirstCut-lacks none cut)
IsLocated-once t cs ds a b (with_fragment u f q vs more spec cut k m) (with_fragment u' f' q' vs' more' spec' cut' k' m') =
    let cuts = FirstCut-once cut cut' in
    let same = fragment_once u u' f f' q q' vs vs' more more' a b cuts.0 cuts.1 k k' m m' in
    (rw (cuts.1, same.0, same.1) refl, same.2)

IsText-once : (t : Text) (cs ds : Checks) (a b : Specification) → IsText t cs a → IsText t ds b → (cs ≡ ds) × (a ≡ b)
IsText-once t cs ds a b (a_fragment none h) (a_fragment none' k) = IsFragment-once None None t cs ds a b h k
IsText-once t cs ds a b (a_fragment none h) (a_url has scheme k) = absurd (has none)
IsText-once t cs ds a b (a_fragment none h) (a_short_url has bare k) = absurd (has none)
IsText-once t cs ds a b (a_url has scheme h) (a_fragment none k) = absurd (has none)
IsText-once t cs ds a b (a_url has scheme h) (a_url has' scheme' k) = IsLocated-once t cs ds a b h k
IsText-once t cs ds a b (a_url has scheme h) (a_short_url has' bare k) = absurd (bare scheme)
IsText-once t cs ds a b (a_short_url has bare h) (a_fragment none k) = absurd (has none)
IsText-once t cs ds a b (a_short_url has bare h) (a_url has' scheme k) = absurd (bare scheme)
IsText-once t cs ds a b (a_short_url has bare h) (a_short_url has' bare' k) = IsLocated-once (default_scheme ++ t) cs ds a b h k

Gives-once : (t : Text) (a b : Outcome) → Gives t a → Gives t b → a ≡ b
Gives-once t a b h k =
    let same = IsText-once t h.checks k.checks h.value k.value h.is_read k.is_read in
    h.is ∙ (rw (same.0, same.1) refl ∙ sym k.is)

-- ---- at least one

split_at : (b : ℕ) (t : Text) → (b ≡ colon) ⊎ (b ≡ colon → ⊥) → (b ≡ at_sign) ⊎ (b ≡ at_sign → ⊥) → IsUnsplit t ⊎ ((x y : Text) × SplitAt t x y) → IsUnsplit (b ∷ t) ⊎ ((x y : Text) × SplitAt (b ∷ t) x y)
split_at b t (inl same) d rest = inr ([], t, record { separator = b; is_separator = inl same; is = refl; no_colon = tt; no_at = tt })
split_at b t (inr other) (inl same) rest = inr ([], t, record { separator = b; is_separator = inr same; is = refl; no_colon = tt; no_at = tt })
split_at b t (inr other) (inr neither) (inl none) = inl (record { no_colon = (other, none.no_colon); no_at = (neither, none.no_at) })
split_at b t (inr other) (inr neither) (inr h) =
    inr (b ∷ h.0, h.1, record { separator = h.2.separator; is_separator = h.2.is_separator; is = ap (λ z. b ∷ z) h.2.is; no_colon = (other, h.2.no_colon); no_at = (neither, h.2.no_at) })

split_or : (t : Text) → IsUnsplit t ⊎ ((x y : Text) × SplitAt t x y)
split_or [] = inl (record { no_colon = tt; no_at = tt })
split_or (b ∷ t) = split_at b t (cases_eq b colon) (cases_eq b at_sign) (split_or t)

scheme_or : (t : Text) → HasScheme t ⊎ (HasScheme t → ⊥)
scheme_or t =
    ⊎_elim (λ h. inl (h.0, h.1, h.2.is)) (λ lacks. inr (λ h. lacks h.0 h.1 h.2)) (cut_or_lacks scheme_end t)

-- some value, with some checks
abbrev pub Some_checked : {A : Type 0} → (Checks → A → Type 0) → Type 0
Some_checked {A} IsRead = (cs : Checks) × (a : A) × IsRead cs a

fragment_of : (url piece : Option Text) (f : Text) → IsUnsplit f ⊎ ((x y : Text) × SplitAt f x y) → (begins_with_letter f ≡ true) ⊎ (begins_with_letter f ≡ false) → Some_checked (IsFragment url piece f)
fragment_of url piece f (inr h) letter = (_, _, is_split h.0 h.1 h.2)
fragment_of url None f (inl u) letter = (_, _, is_name_alone u (inl refl))
fragment_of url (Some name) f (inl u) (inl letter) = (_, _, is_name_alone u (inr letter))
fragment_of url (Some name) f (inl u) (inr plain) = (_, _, is_version_alone name u refl plain)

pub IsFragment-some : (url piece : Option Text) (f : Text) → Some_checked (IsFragment url piece f)
IsFragment-some url piece f = fragment_of url piece f (split_or f) (cases_Bool (begins_with_letter f))

url_of : (url : Text) → HasScheme url ⊎ (HasScheme url → ⊥) → Lacks slash url ⊎ ((x y : Text) × LastCut slash url x y) → Some_checked (IsUrl url)
url_of url (inl scheme) (inl none) = absurd (HasScheme-slash url none scheme)
url_of url (inl scheme) (inr h) = (_, _, with_scheme h.0 h.1 scheme h.2)
url_of url (inr none) last = (_, _, without_scheme none)

pub IsUrl-some : (url : Text) → Some_checked (IsUrl url)
IsUrl-some url = url_of url (scheme_or url) (LastCut-or slash url)

located_of : (t : Text) → Lacks hash_sign t ⊎ ((x y : Text) × FirstCut hash_sign t x y) → Some_checked (IsLocated t)
located_of t (inl none) =
    let u = IsUrl-some t in
    (_, _, url_alone u.0 u.1 none u.2)
located_of t (inr h) =
    let u = IsUrl-some h.0 in
    let f = IsFragment-some (Some h.0) (Some u.1) h.1 in
    (_, _, with_fragment h.0 h.1 u.1 u.0 f.0 f.1 h.2 u.2 f.2)

IsLocated-some : (t : Text) → Some_checked (IsLocated t)
IsLocated-some t = located_of t (FirstCut-or hash_sign t)

text_of : (t : Text) → Lacks slash t ⊎ ((x y : Text) × FirstCut slash t x y) → HasScheme t ⊎ (HasScheme t → ⊥) → Some_checked (IsText t)
text_of t (inl none) scheme =
    let f = IsFragment-some None None t in
    (f.0, f.1, a_fragment none f.2)
text_of t (inr h) (inl scheme) =
    let l = IsLocated-some t in
    (l.0, l.1, a_url (λ none. FirstCut-lacks none h.2) scheme l.2)
text_of t (inr h) (inr bare) =
    let l = IsLocated-some (default_scheme ++ t) in
    (l.0, l.1, a_short_url (λ none. FirstCut-lacks none h.2) bare l.2)

Gives-some : (t : Text) → (o : Outcome) × Gives t o
Gives-some t =
    let x = text_of t (FirstCut-or slash t) (scheme_or t) in
    (checked x.0 x.1, record { checks = x.0; value = x.1; is_read = x.2; is = refl })

-- ---- specifications and refusals

pub IsSpec-once : (t : Text) (a b : Specification) → IsSpec t a.name a.version a.url → IsSpec t b.name b.version b.url → a ≡ b
IsSpec-once t a b h k = ok_same (Gives-once t (Ok a) (Ok b) h k)

pub IsSpecFault-once : (t a b : Text) → IsSpecFault t a → IsSpecFault t b → a ≡ b
IsSpecFault-once t a b h k = err_same (Gives-once t (Err a) (Err b) h k)

pub IsSpec-no_fault : (t : Text) (a : Specification) (refusal : Text) → IsSpec t a.name a.version a.url → IsSpecFault t refusal → ⊥
IsSpec-no_fault t a refusal h k = ok_no_err (Gives-once t (Ok a) (Err refusal) h k)

abbrev IsEither : Text → Type 0
IsEither t = ((a : Specification) × IsSpec t a.name a.version a.url) ⊎ ((refusal : Text) × IsSpecFault t refusal)

either_of : (t : Text) (o : Outcome) → Gives t o → IsEither t
either_of t (Ok a) h = inl (a, h)
either_of t (Err refusal) h = inr (refusal, h)

pub IsSpec-or_fault : (t : Text) → ((a : Specification) × IsSpec t a.name a.version a.url) ⊎ ((refusal : Text) × IsSpecFault t refusal)
IsSpec-or_fault t =
    let o = Gives-some t in
    either_of t o.0 o.1

-- ---- what reading returns

-- a text that is a specification is refused only when out of memory
spec_error : (t : Text) (e : Error) → IsRefusedBy (λ refusal. Gives t (Err refusal)) e → (a : Specification) → IsSpec t a.name a.version a.url → e ≡ errors.Memory
spec_error t (errors.InvalidPkgSpec refusal) h a k = absurd (IsSpec-no_fault t a refusal.now k h)
spec_error t errors.Memory h a k = refl
spec_error t errors.NoResolveGraph h a k = absurd h
spec_error t (errors.Metadata cause) h a k = absurd h
spec_error t errors.NoRootKrates h a k = absurd h
spec_error t (errors.InvalidId id) h a k = absurd h
spec_error t (errors.Doubled id) h a k = absurd h
spec_error t (errors.Lost lost) h a k = absurd h
spec_error t errors.TooMany h a k = absurd h

pub Answers-spec : (t : Text) (r : Result PkgSpec Error) → Answers spec_view (Gives t) r → (a : Specification) → IsSpec t a.name a.version a.url → IfErr r (λ e. e ≡ errors.Memory)
Answers-spec t (Ok s) h a k = tt
Answers-spec t (Err e) h a k = spec_error t e h a k

-- a text that has a refusal is not read
pub Answers-fault : (t : Text) (r : Result PkgSpec Error) → Answers spec_view (Gives t) r → (refusal : Text) → IsSpecFault t refusal → IfOk r (λ _. ⊥)
Answers-fault t (Ok s) h refusal k = IsSpec-no_fault t (spec_view s) refusal h k
Answers-fault t (Err e) h refusal k = tt
