-- Laws of package specifications.
use Rattle.std.proofs.Common.{◌≡◌, ◌↔◌, ℕ, [], ◌∷◌, ◌++◌, Bool, true, false, refl, sym, ◌∙◌, inl, inr, append_assoc}
use Rattle.std.specs.Prelude.{IsTrue, ◌⊎◌, ◌==◌, Option, Some, None, Result, Ok, Err, IfOk, IfErr, IsErrAnd}
use Rattle.std.specs.Borrow.{Bor}
use Rattle.std.proofs.lemmas.Bool.{false≢true}
use Rattle.std.specs.Cmp.Lexicographic.{pointwise, bytes_decides}
use Rattle.krates_cm.specs.Document.{Text, VersionModel}
use Rattle.krates_text.specs.Cuts.{Lacks, Has, FirstCut, CutsFirst}
use Rattle.krates_ids.specs.Escapes.{Tells}
use Rattle.krates_ids.specs.PackageSpecification.{HasScheme, IsBeforeQuery, IsUrlOf}
use Rattle.krates_ids.specs.Separators.{hash_sign, plus_sign, slash, colon, question_mark, at_sign}
use Rattle.krates_ids.specs.SpecificationAnswers.{IsRefusedBy, Answers, Splits, version_outcome}
use Rattle.krates_ids.specs.declared.error.Error.{Error}
use Rattle.krates_ids.specs.declared.error.Error.TheVariants as errors
use Rattle.krates_text.proofs.CutsLemmas.{Lacks-middle, FirstCut-lacks, FirstCut-once}

-- ---- results

pub Ok≢Err : {A B : Type 0} {a : A} {b : B} → Ok a ≡ Err b → ⊥
Ok≢Err e = cc

pub Tells-iff : {P : Type 0} (r : Bool) → (r ≡ true) ↔ P → Tells P r
Tells-iff true h = h.0 refl
Tells-iff false h = λ p. false≢true (h.1 p)

IsRefusedBy-map : (P Q : Text → Type 0) (e : Error) → ((refusal : Text) → P refusal → Q refusal) → IsRefusedBy P e → IsRefusedBy Q e
IsRefusedBy-map P Q (errors.InvalidPkgSpec refusal) f h = f refusal.now h
IsRefusedBy-map P Q errors.Memory f h = h
IsRefusedBy-map P Q errors.NoResolveGraph f h = h
IsRefusedBy-map P Q (errors.Metadata cause) f h = h
IsRefusedBy-map P Q errors.NoRootKrates f h = h
IsRefusedBy-map P Q (errors.InvalidId id) f h = h
IsRefusedBy-map P Q (errors.Doubled id) f h = h
IsRefusedBy-map P Q (errors.Lost lost) f h = h
IsRefusedBy-map P Q errors.TooMany f h = h

-- a result carries over from one relation to another
pub Answers-map : {A B : Type 0} (view : A → B) (P Q : Result B Text → Type 0) (r : Result A Error) → ((outcome : Result B Text) → P outcome → Q outcome) → Answers view P r → Answers view Q r
Answers-map view P Q (Ok a) f h = f (Ok (view a)) h
Answers-map view P Q (Err e) f h = IsRefusedBy-map (λ refusal. P (Err refusal)) (λ refusal. Q (Err refusal)) e (λ refusal. f (Err refusal)) h

-- a refusal that is passed on
pub Answers-refused : {A B : Type 0} (view : A → B) (P : Text → Type 0) (Q : Result B Text → Type 0) (e : Error) (r : Result A Error) → IsErrAnd r (λ d. d ≡ e) → ((refusal : Text) → P refusal → Q (Err refusal)) → IsRefusedBy P e → Answers view Q r
Answers-refused view P Q e (Ok a) is f h = absurd is
Answers-refused view P Q e (Err d) is f h = IsRefusedBy-map P (λ refusal. Q (Err refusal)) d f (rw is h)

pub Answers-ok : {A B : Type 0} (view : A → B) (P : Result B Text → Type 0) (r : Result A Error) → Answers view P r → IfOk r (λ a. P (Ok (view a)))
Answers-ok view P (Ok a) h = h
Answers-ok view P (Err e) h = tt

pub Answers-err : {A B : Type 0} (view : A → B) (P : Result B Text → Type 0) (r : Result A Error) → Answers view P r → IfErr r (λ e. IsRefusedBy (λ refusal. P (Err refusal)) e)
Answers-err view P (Ok a) h = tt
Answers-err view P (Err e) h = h

-- ---- fragments

Lacks-before : (c d : ℕ) (x y : Text) → Lacks c (x ++ d ∷ y) → Lacks c x
Lacks-before c d [] y h = tt
Lacks-before c d (b ∷ x) y h = (h.0, Lacks-before c d x y h.1)

-- of two pieces cut from one text at different bytes, the shorter lacks the other's byte
before_both : (c d : ℕ) (x y x' y' : Text) → Lacks c x → Has d x → Lacks d x' → x ++ c ∷ y ≡ x' ++ d ∷ y' → Lacks c x'
before_both c d [] y x' y' none has none' e = absurd (has tt)
before_both c d (b ∷ x) y [] y' none has none' e = tt
before_both c d (b ∷ x) y (b' ∷ x') y' none has none' e =
    let heads : b' ≡ b = cc in
    (rw heads none.0, before_both c d x y x' y' none.1 (λ rest. has (rw (← heads) none'.0, rest)) none'.1 (cc))

-- where an '@' comes before the first ':', the text is split at its first '@'
pub Splits-at : (t x y : Text) (r : Option (Bor Text × Bor Text)) → FirstCut colon t x y → Has at_sign x → CutsFirst at_sign t r → Splits t r
Splits-at t x y None cut has none = absurd (has (Lacks-before at_sign colon x y (rw cut.is at none)))
Splits-at t x y (Some p) cut has at_cut = record {
  separator = at_sign;
  is_separator = inr refl;
  is = at_cut.is;
  no_colon = before_both colon at_sign x y p.0.now p.1.now cut.lacks has at_cut.lacks (sym cut.is ∙ at_cut.is);
  no_at = at_cut.lacks;
}

-- the text that a version was read from
pub version_read : (v : VersionModel) (read : Option VersionModel) → Ok v ≡ version_outcome read → read ≡ Some v
version_read v None e = absurd (Ok≢Err e)
version_read v (Some w) e = cc

-- ---- urls

pub HasScheme-slash : (t : Text) → Lacks slash t → HasScheme t → ⊥
HasScheme-slash t none h =
    let whole : t ≡ (h.0 ++ colon ∷ []) ++ slash ∷ (slash ∷ h.1) = h.2 ∙ sym (append_assoc h.0 (colon ∷ []) (slash ∷ slash ∷ h.1)) in
    Lacks-middle slash (h.0 ++ colon ∷ []) (slash ∷ h.1) (rw whole at none)

-- ---- the url of a source

IsBeforeQuery-once : (s f f' : Text) → IsBeforeQuery s f → IsBeforeQuery s f' → f ≡ f'
IsBeforeQuery-once s f f' (inl h) (inl k) = (FirstCut-once h.1 k.1).0
IsBeforeQuery-once s f f' (inl h) (inr k) = absurd (FirstCut-lacks k.0 h.1)
IsBeforeQuery-once s f f' (inr h) (inl k) = absurd (FirstCut-lacks h.0 k.1)
IsBeforeQuery-once s f f' (inr (none, inl h)) (inr (none', inl k)) = (FirstCut-once h.1 k.1).0
IsBeforeQuery-once s f f' (inr (none, inl h)) (inr (none', inr k)) = absurd (FirstCut-lacks k.0 h.1)
IsBeforeQuery-once s f f' (inr (none, inr h)) (inr (none', inl k)) = absurd (FirstCut-lacks h.0 k.1)
IsBeforeQuery-once s f f' (inr (none, inr h)) (inr (none', inr k)) = h.1 ∙ sym k.1

-- a part of a text lacks every byte that the text lacks
IsBeforeQuery-lacks : (c : ℕ) (s f : Text) → IsBeforeQuery s f → Lacks c s → Lacks c f
IsBeforeQuery-lacks c s f (inl h) none = Lacks-before c question_mark f h.0 (rw h.1.is at none)
IsBeforeQuery-lacks c s f (inr (unasked, inl h)) none = Lacks-before c hash_sign f h.0 (rw h.1.is at none)
IsBeforeQuery-lacks c s f (inr (unasked, inr h)) none = rw h.1 none

url_once : (s f u u' : Text) → IsBeforeQuery s f → (Lacks plus_sign s × (u ≡ f)) ⊎ ((kind : Text) × FirstCut plus_sign f kind u) → (Lacks plus_sign s × (u' ≡ f)) ⊎ ((kind : Text) × FirstCut plus_sign f kind u') → u ≡ u'
url_once s f u u' b (inl h) (inl k) = h.1 ∙ sym k.1
url_once s f u u' b (inl h) (inr k) = absurd (FirstCut-lacks (IsBeforeQuery-lacks plus_sign s f b h.0) k.1)
url_once s f u u' b (inr h) (inl k) = absurd (FirstCut-lacks (IsBeforeQuery-lacks plus_sign s f b k.0) h.1)
url_once s f u u' b (inr h) (inr k) = (FirstCut-once h.1 k.1).1

pub IsUrlOf-once : (s u u' : Text) → IsUrlOf s u → IsUrlOf s u' → u ≡ u'
IsUrlOf-once s u u' h k =
    let same = IsBeforeQuery-once s h.front k.front h.before_query k.before_query in
    url_once s k.front u u' k.before_query (rw same at h.is) k.is

no_url : (s f u : Text) → Lacks plus_sign f → Has plus_sign s → (Lacks plus_sign s × (u ≡ f)) ⊎ ((kind : Text) × FirstCut plus_sign f kind u) → ⊥
no_url s f u none has (inl h) = has h.0
no_url s f u none has (inr h) = FirstCut-lacks none h.1

-- a url compared with that of the source
pub IsUrlOf-tells : (s found url : Text) (b : Bool) → b ≡ pointwise ◌==◌ found url → IsUrlOf s found → (IsTrue b) ↔ IsUrlOf s url
IsUrlOf-tells s found url b is h = (
  λ same. rw (← (bytes_decides found url).0 (sym is ∙ same)) h,
  λ k. is ∙ (bytes_decides found url).1 (IsUrlOf-once s found url h k),
)

-- a source without a url equals none
pub IsUrlOf-none : (s url : Text) → ((found : Text) → IsUrlOf s found → ⊥) → (IsTrue false) ↔ IsUrlOf s url
IsUrlOf-none s url none = (λ wrong. absurd (false≢true wrong), λ h. absurd (none url h))

-- where the first '+' comes after the end, there is no url
pub IsUrlOf-late : (s f : Text) → IsBeforeQuery s f → Lacks plus_sign f → Has plus_sign s → (url : Text) → IsUrlOf s url → ⊥
IsUrlOf-late s f b none has url h =
    no_url s f url none has (rw (IsBeforeQuery-once s h.front f h.before_query b) at h.is)
