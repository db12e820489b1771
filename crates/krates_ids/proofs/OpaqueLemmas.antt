-- Laws of the opaque form.
use Rattle.std.proofs.Common.{◌≡◌, ◌≢◌, ℕ, ◌+◌, [], ◌∷◌, ◌++◌, length, refl, sym, ap, ◌∙◌, inl, inr, ⊎_elim, arith, append_assoc, length-append}
use Rattle.std.specs.Prelude.{Option, Some, None}
use Rattle.std.specs.Borrow.{Bor}
use Rattle.std.specs.Str.{IsUtf8}
use Rattle.std.proofs.lemmas.Str.{IsUtf8-nil}
use Rattle.krates_cm.specs.Document.{Text}
use Rattle.krates_text.specs.Cuts.{Lacks, FirstCut, LastCut, EndsWith, ComesBeforeEnd}
use Rattle.krates_ids.specs.Identity.{IsOpaqueEnd, IsOpaqueForm}
use Rattle.krates_ids.specs.OpaqueParts.{IsBody, FindsSource, MarksOpaque}
use Rattle.krates_ids.specs.Separators.{blank, hash_sign, opening, closing}
use Rattle.krates_ids.specs.Spans.{StandsAt, Marks}
use Rattle.krates_ids.specs.declared.span.Parts.{Parts}
use Rattle.krates_text.proofs.CutsLemmas.{Lacks-middle, FirstCut-once, LastCut-once, LastCut-lacks, LastCut-end}
use Rattle.krates_ids.proofs.SpansLemmas.{IsUtf8-after_cut, IsUtf8-ascii_first}

-- ---- the source in a body

-- in a text without '#', what `before_end` returns is the source
pub FindsSource-without_hash : (t body : Text) (r : Option (Bor Text)) → Lacks hash_sign t → ComesBeforeEnd closing body r → FindsSource t body r
FindsSource-without_hash t body None none unclosed = λ source b.
    ⊎_elim (λ e. unclosed source (b.is ∙ ap (λ z. source ++ z) e.1)) (λ e. LastCut-lacks none e.cut) b.ends
FindsSource-without_hash t body (Some s) none is = record { end = closing ∷ []; is = is; ends = inl (none, refl) }

-- no closing parenthesis after the last '#'
pub IsBody-unclosed : (t body x tail : Text) → LastCut hash_sign t x tail → ((front : Text) → tail ≢ front ++ closing ∷ []) → (source : Text) → IsBody t body source → ⊥
IsBody-unclosed t body x tail cut unclosed source b =
    ⊎_elim (λ e. LastCut-lacks e.0 cut) (λ e. unclosed e.commit (LastCut-once cut e.cut).1) b.ends

-- the last '#' of the text comes right before the body
pub IsBody-hash_before : (t body x tail : Text) → LastCut hash_sign t x tail → Lacks hash_sign body → (source : Text) → IsBody t body source → ⊥
IsBody-hash_before t body x tail cut none source b =
    ⊎_elim (λ e. LastCut-lacks e.0 cut) (λ e. Lacks-middle hash_sign source (e.commit ++ closing ∷ []) (rw (← e.is, ← b.is) none)) b.ends

pub IsBody-hash : (t body x tail front source m : Text) → EndsWith t body → LastCut hash_sign t x tail → tail ≡ front ++ closing ∷ [] → LastCut hash_sign body source m → IsBody t body source
IsBody-hash t body x tail front source m w cut close inner =
    let same : m ≡ tail = (LastCut-once (LastCut-end w inner) cut).1 in
    record {
      end = hash_sign ∷ (front ++ closing ∷ []);
      is = inner.is ∙ ap (λ z. source ++ hash_sign ∷ z) (same ∙ close);
      ends = inr (record { before = x; commit = front; cut = record { is = cut.is ∙ ap (λ z. x ++ hash_sign ∷ z) close; lacks = rw (← close) cut.lacks }; is = refl });
    }

-- ---- the whole form, from the cuts that find it

-- the name, the version and the rest are what the spaces separate
form_cuts : (t n v s x y v' z : Text) → FirstCut blank t x y → FirstCut blank y v' z → (o : IsOpaqueForm t n v s) → (x ≡ n) × (v' ≡ v) × (z ≡ opening ∷ (s ++ o.end))
form_cuts t n v s x y v' z f g o =
    let a = FirstCut-once f (record { is = o.is; lacks = o.name_whole }) in
    let b = FirstCut-once g (record { is = a.1; lacks = o.version_whole }) in
    (a.0, b.0, b.1)

pub IsOpaqueForm-no_blank : (t : Text) → Lacks blank t → (n v s : Text) → IsOpaqueForm t n v s → ⊥
IsOpaqueForm-no_blank t none n v s o = Lacks-middle blank n (v ++ blank ∷ opening ∷ (s ++ o.end)) (rw (← o.is) none)

pub IsOpaqueForm-one_blank : (t x y : Text) → FirstCut blank t x y → Lacks blank y → (n v s : Text) → IsOpaqueForm t n v s → ⊥
IsOpaqueForm-one_blank t x y f none n v s o =
    let a = FirstCut-once f (record { is = o.is; lacks = o.name_whole }) in
    Lacks-middle blank v (opening ∷ (s ++ o.end)) (rw (← a.1) none)

pub IsOpaqueForm-not_opened : (t x y v' z : Text) → FirstCut blank t x y → FirstCut blank y v' z → ((rest : Text) → z ≢ opening ∷ rest) → (n v s : Text) → IsOpaqueForm t n v s → ⊥
IsOpaqueForm-not_opened t x y v' z f g unopened n v s o = unopened (s ++ o.end) (form_cuts t n v s x y v' z f g o).2

pub IsOpaqueForm-no_source : (t x y v' z body : Text) → FirstCut blank t x y → FirstCut blank y v' z → z ≡ opening ∷ body → ((s : Text) → IsBody t body s → ⊥) → (n v s : Text) → IsOpaqueForm t n v s → ⊥
IsOpaqueForm-no_source t x y v' z body f g is none n v s o =
    let both : opening ∷ body ≡ opening ∷ (s ++ o.end) = sym is ∙ (form_cuts t n v s x y v' z f g o).2 in
    none s (record { end = o.end; is = cc; ends = o.ends })

pub EndsWith-body : (t x y v z body : Text) → FirstCut blank t x y → FirstCut blank y v z → z ≡ opening ∷ body → EndsWith t body
EndsWith-body t x y v z body f g is =
    record { front = x ++ blank ∷ (v ++ blank ∷ opening ∷ []); is = rw (f.is, g.is, is) (simp append_assoc) }

pub IsOpaqueForm-found : (t x y v z body s : Text) → FirstCut blank t x y → FirstCut blank y v z → z ≡ opening ∷ body → IsBody t body s → IsOpaqueForm t x v s
IsOpaqueForm-found t x y v z body s f g is b =
    record { end = b.end; is = rw (f.is, g.is, is, b.is) refl; name_whole = f.lacks; version_whole = g.lacks; ends = b.ends }

-- ---- where the parts are

pub StandsAt-version : (t x y v z : Text) (i : ℕ) → IsUtf8 t → FirstCut blank t x y → FirstCut blank y v z → i ≡ length x + 1 → StandsAt t v i
StandsAt-version t x y v z i text f g at =
    let text_y : IsUtf8 y = IsUtf8-after_cut blank t x y (omega arith) text f.is in
    record {
      before = x ++ blank ∷ [];
      after = blank ∷ z;
      is = rw (f.is, g.is) (simp append_assoc);
      start_is = omega (arith, length-append x (blank ∷ []));
      text_after = IsUtf8-ascii_first blank z (omega arith) (IsUtf8-after_cut blank y v z (omega arith) text_y g.is);
    }

-- what follows the source is UTF-8 and begins with an ASCII character
IsUtf8-opaque_end : (t end : Text) → IsUtf8 t → IsOpaqueEnd t end → IsUtf8 end
IsUtf8-opaque_end t end text (inl e) = rw e.1 (IsUtf8-ascii_first closing [] (omega arith) IsUtf8-nil)
IsUtf8-opaque_end t end text (inr e) =
    rw e.is (IsUtf8-ascii_first hash_sign (e.commit ++ closing ∷ []) (omega arith) (IsUtf8-after_cut hash_sign t e.before (e.commit ++ closing ∷ []) (omega arith) text e.cut.is))

pub StandsAt-source : (t x y v z body s : Text) (i : ℕ) → IsUtf8 t → FirstCut blank t x y → FirstCut blank y v z → z ≡ opening ∷ body → IsBody t body s → i ≡ length x + length v + 3 → StandsAt t s i
StandsAt-source t x y v z body s i text f g is b at = record {
  before = x ++ blank ∷ (v ++ blank ∷ opening ∷ []);
  after = b.end;
  is = rw (f.is, g.is, is, b.is) (simp append_assoc);
  start_is = omega (arith, length-append x (blank ∷ (v ++ blank ∷ opening ∷ [])), length-append v (blank ∷ opening ∷ []));
  text_after = IsUtf8-opaque_end t b.end text b.ends;
}

-- the spans of the parts
pub MarksOpaque-marks : (t : Text) (parts : Parts) (n v s : Text) → IsOpaqueForm t n v s → Marks t parts.name n → Marks t parts.version v → Marks t parts.source s → MarksOpaque t parts
MarksOpaque-marks t parts n v s form name version source =
    record { placed = record { name = name.placed; version = version.placed; source = source.placed }; form = rw (name.is, version.is, source.is) form }

-- ---- a text has one opaque reading

end_once : (t s s' e e' : Text) → IsOpaqueEnd t e → IsOpaqueEnd t e' → s ++ e ≡ s' ++ e' → s ≡ s'
end_once t s s' e e' (inl h) (inl k) both =
    let g : LastCut closing (s ++ e) s [] = record { is = ap (λ z. s ++ z) h.1; lacks = tt } in
    let g' : LastCut closing (s ++ e) s' [] = record { is = both ∙ ap (λ z. s' ++ z) k.1; lacks = tt } in
    (LastCut-once g g').0
end_once t s s' e e' (inl h) (inr k) both = absurd (LastCut-lacks h.0 k.cut)
end_once t s s' e e' (inr h) (inl k) both = absurd (LastCut-lacks k.0 h.cut)
end_once t s s' e e' (inr h) (inr k) both =
    let g : LastCut hash_sign (s ++ e) s (h.commit ++ closing ∷ []) = record { is = ap (λ z. s ++ z) h.is; lacks = h.cut.lacks } in
    let g' : LastCut hash_sign (s ++ e) s' (k.commit ++ closing ∷ []) = record { is = both ∙ ap (λ z. s' ++ z) k.is; lacks = k.cut.lacks } in
    (LastCut-once g g').0

pub IsOpaqueForm-once : (t n v s n' v' s' : Text) → IsOpaqueForm t n v s → IsOpaqueForm t n' v' s' → (n ≡ n') × (v ≡ v') × (s ≡ s')
IsOpaqueForm-once t n v s n' v' s' o p =
    let f : FirstCut blank t n (v ++ blank ∷ opening ∷ (s ++ o.end)) = record { is = o.is; lacks = o.name_whole } in
    let g : FirstCut blank (v ++ blank ∷ opening ∷ (s ++ o.end)) v (opening ∷ (s ++ o.end)) = record { is = refl; lacks = o.version_whole } in
    let same = form_cuts t n' v' s' n _ v _ f g p in
    let both : s ++ o.end ≡ s' ++ p.end = cc (same.2) in
    (same.0, same.1, end_once t s s' o.end p.end o.ends p.ends both)
