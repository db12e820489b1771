-- Laws of reading: a text reads as at most one id, and a text with a fault reads as none.
use Rattle.std.proofs.Common.{◌≡◌, ◌∷◌, ◌++◌, Bool, true, false, refl, sym, ◌∙◌, inl, inr}
use Rattle.std.specs.Prelude.{◌⊎◌}
use Rattle.percent_encoding.specs.Percent.{percent_decode}
use Rattle.krates_cm.specs.Document.{Text}
use Rattle.krates_text.specs.Cuts.{FirstCut, LastCut}
use Rattle.krates_ids.specs.Identity.{Identity, IsNameOfPiece, NameInLeft, IsVersionAlone, IsStableForm, IsSource, as_written, decoded, HasGitQuery, ReadsOpaque, ReadsStable, Reads, NeedsDecoding, Fault, IsFault, no_opaque_form, no_stable_form, bad_escape, is_git}
use Rattle.krates_ids.specs.Escapes.{AreEscapes}
use Rattle.krates_ids.specs.Separators.{hash_sign, at_sign, question_mark}
use Rattle.krates_ids.specs.Spans.{MarksParts, identity_of}
use Rattle.krates_ids.specs.declared.span.Parts.{Parts}
use Rattle.krates_text.proofs.CutsLemmas.{FirstCut-once, FirstCut-lacks, LastCut-once, LastCut-lacks}
use Rattle.krates_ids.proofs.OpaqueLemmas.{IsOpaqueForm-no_blank, IsOpaqueForm-once}

-- ---- one reading

Identity-same : (a b : Identity) → a.text ≡ b.text → a.name ≡ b.name → a.version ≡ b.version → a.source ≡ b.source → a.is_opaque ≡ b.is_opaque → a ≡ b
Identity-same a b text name version source opaque =
    let whole : record { text = a.text; name = a.name; version = a.version; source = a.source; is_opaque = a.is_opaque } ≡ b = rw (text, name, version, source, opaque) refl in
    whole

piece_name_once : (git : Bool) (piece n n' : Text) → IsNameOfPiece git piece n → IsNameOfPiece git piece n' → n ≡ n'
piece_name_once false piece n n' h k = h ∙ sym k
piece_name_once true piece n n' (inl h) (inl k) = h.1 ∙ sym k.1
piece_name_once true piece n n' (inl h) (inr k) = absurd (LastCut-lacks h.0 k.1)
piece_name_once true piece n n' (inr h) (inl k) = absurd (LastCut-lacks k.0 h.1)
piece_name_once true piece n n' (inr h) (inr k) = (LastCut-once h.1 k.1).0

NameInLeft-once : (left n n' : Text) → NameInLeft left n → NameInLeft left n' → n ≡ n'
NameInLeft-once left n n' h k =
    let same = LastCut-once h.cut k.cut in
    piece_name_once (is_git left) k.piece n n' (rw same.1 at h.name_is) k.name_is

parts_once : (left f n v n' v' : Text) → FirstCut at_sign f n v ⊎ IsVersionAlone left f n v → FirstCut at_sign f n' v' ⊎ IsVersionAlone left f n' v' → (n ≡ n') × (v ≡ v')
parts_once left f n v n' v' (inl h) (inl k) = FirstCut-once h k
parts_once left f n v n' v' (inl h) (inr k) = absurd (FirstCut-lacks k.no_at h)
parts_once left f n v n' v' (inr h) (inl k) = absurd (FirstCut-lacks h.no_at k)
parts_once left f n v n' v' (inr h) (inr k) = (NameInLeft-once left n n' h.name_in_left k.name_in_left, h.version_is ∙ sym k.version_is)

IsStableForm-once : (t l f n v l' f' n' v' : Text) → IsStableForm t l f n v → IsStableForm t l' f' n' v' → (l ≡ l') × (f ≡ f') × (n ≡ n') × (v ≡ v')
IsStableForm-once t l f n v l' f' n' v' h k =
    let same = LastCut-once h.cut k.cut in
    let moved : FirstCut at_sign f' n v ⊎ IsVersionAlone l' f' n v = rw (← same.0, ← same.1) h.parts in
    let both = parts_once l' f' n v n' v' moved k.parts in
    (same.0, same.1, both.0, both.1)

IsSource-once : (left s s' : Text) → IsSource left s → IsSource left s' → s ≡ s'
IsSource-once left s s' (as_written none is) (as_written none' is') = is ∙ sym is'
IsSource-once left s s' (as_written none is) (decoded front query q good is') = absurd (none front query q)
IsSource-once left s s' (decoded front query q good is) (as_written none is') = absurd (none front query q)
IsSource-once left s s' (decoded front query q good is) (decoded front' query' q' good' is') =
    let same = LastCut-once q.cut q'.cut in
    rw (is, is', same.0, same.1) refl

ReadsOpaque-once : (t : Text) (a b : Identity) → ReadsOpaque t a → ReadsOpaque t b → a ≡ b
ReadsOpaque-once t a b h k =
    let parts = IsOpaqueForm-once t a.name a.version a.source b.name b.version b.source h.form k.form in
    Identity-same a b (h.text_is ∙ sym k.text_is) parts.0 parts.1 parts.2 (h.marked ∙ sym k.marked)

ReadsStable-once : (t : Text) (a b : Identity) → ReadsStable t a → ReadsStable t b → a ≡ b
ReadsStable-once t a b h k =
    let form = IsStableForm-once t h.left h.fragment a.name a.version k.left k.fragment b.name b.version h.form k.form in
    let source = IsSource-once k.left a.source b.source (rw form.0 at h.source_is) k.source_is in
    let text : a.text ≡ b.text = h.text_is ∙ (rw (source, form.1) refl ∙ sym k.text_is) in
    Identity-same a b text form.2 form.3 source (h.marked ∙ sym k.marked)

pub Reads-once : (t : Text) (a b : Identity) → Reads t a → Reads t b → a ≡ b
Reads-once t a b (inl h) (inl k) = ReadsOpaque-once t a b h k
Reads-once t a b (inl h) (inr k) = absurd (IsOpaqueForm-no_blank t k.form.no_blank a.name a.version a.source h.form)
Reads-once t a b (inr h) (inl k) = absurd (IsOpaqueForm-no_blank t h.form.no_blank b.name b.version b.source k.form)
Reads-once t a b (inr h) (inr k) = ReadsStable-once t a b h k

-- ---- no reading beside a fault

-- where the source reads, the query has no bad escape
source_good : (t left fragment name version source query : Text) → IsStableForm t left fragment name version → IsSource left source → HasGitQuery t query → AreEscapes query
source_good t left fragment name version source query form (as_written none is) h =
    let same = LastCut-once h.form.cut form.cut in
    absurd (none h.front query (rw same.0 at h.git_query))
source_good t left fragment name version source query form (decoded front query' q good is) h =
    let same = LastCut-once h.form.cut form.cut in
    let cut : LastCut question_mark left h.front query = rw same.0 at h.git_query.cut in
    rw (LastCut-once cut q.cut).1 good

pub Reads-no_fault : (t : Text) (a : Identity) (fault : Fault) → Reads t a → IsFault t fault → ⊥
Reads-no_fault t a no_opaque_form (inl h) f = f.1 a.name a.version a.source h.form
Reads-no_fault t a no_stable_form (inl h) f = IsOpaqueForm-no_blank t f.0 a.name a.version a.source h.form
Reads-no_fault t a bad_escape (inl h) f = IsOpaqueForm-no_blank t f.1.form.no_blank a.name a.version a.source h.form
Reads-no_fault t a no_opaque_form (inr h) f = f.0 h.form.no_blank
Reads-no_fault t a no_stable_form (inr h) f = f.1 h.left h.fragment a.name a.version h.form
Reads-no_fault t a bad_escape (inr h) f = f.2 (source_good t h.left h.fragment a.name a.version a.source f.0 h.form h.source_is f.1)

-- a text has at most one fault
pub IsFault-once : (t : Text) (e f : Fault) → IsFault t e → IsFault t f → e ≡ f
IsFault-once t no_opaque_form no_opaque_form h k = refl
IsFault-once t no_opaque_form no_stable_form h k = absurd (h.0 k.0)
IsFault-once t no_opaque_form bad_escape h k = absurd (h.0 k.1.form.no_blank)
IsFault-once t no_stable_form no_opaque_form h k = absurd (k.0 h.0)
IsFault-once t no_stable_form no_stable_form h k = refl
IsFault-once t no_stable_form bad_escape h k = absurd (h.1 k.1.left k.1.fragment k.1.name k.1.version k.1.form)
IsFault-once t bad_escape no_opaque_form h k = absurd (k.0 h.1.form.no_blank)
IsFault-once t bad_escape no_stable_form h k = absurd (k.1 h.1.left h.1.fragment h.1.name h.1.version h.1.form)
IsFault-once t bad_escape bad_escape h k = refl

-- a text with escapes to decode is read
pub Reads-decodable : (t : Text) → NeedsDecoding t → (id : Identity) × Reads t id
Reads-decodable t needs =
    let q = needs.git_query in
    let source : Text = q.front ++ question_mark ∷ percent_decode needs.query in (
      record { text = source ++ hash_sign ∷ q.fragment; name = q.name; version = q.version; source = source; is_opaque = false },
      inr (record {
        left = q.left;
        fragment = q.fragment;
        form = q.form;
        source_is = decoded q.front needs.query q.git_query needs.good refl;
        text_is = refl;
        marked = refl;
      }),
    )

-- ---- the reading, from the spans of its parts

pub Reads-stable : (t left fragment name version source text : Text) (parts : Parts) → IsStableForm t left fragment name version → IsSource left source → text ≡ source ++ hash_sign ∷ fragment → MarksParts text parts name version source → Reads t (identity_of text parts false)
Reads-stable t left fragment name version source text parts form source_is is marks =
    inr (record {
      left = left;
      fragment = fragment;
      form = rw (marks.name.is, marks.version.is) form;
      source_is = rw marks.source.is source_is;
      text_is = rw marks.source.is is;
      marked = refl;
    })
