-- Package ids that aren't read, and texts that read as ids.
use Rattle.std.proofs.Common.{◌≡◌, inl, inr, [], ◌∷◌, ◌++◌, Bool, true, false, ℕ, refl, sym, ap, ◌∙◌, append_assoc}
use Rattle.std.specs.Prelude.{◌↔◌, IsTrue, IfOk, Ok, Err, Result, String, string_bytes}
use Rattle.std.specs.declared.alloc.AllocError.{AllocError}
use Rattle.std.specs.declared.alloc.Global.{Global}
use Rattle.krates_cm.specs.Document.{Text, id_view}
use Rattle.krates_cm.specs.declared.package_id.PackageId.{PackageId}
use Rattle.krates_text.specs.Cuts.{Lacks}
use Rattle.krates_ids.specs.Identity.{Identity, Reads, no_opaque_form, no_stable_form, bad_escape, IsSameId, same_id, IsNameOfPiece, is_git}
use Rattle.krates_ids.specs.IdRefusals.{IsRefusal}
use Rattle.krates_ids.specs.Separators.{blank, hash_sign, opening, closing}
use Rattle.krates_ids.specs.declared.id_error.IdError.{IdError}
use Rattle.krates_ids.specs.declared.id_error.IdError.TheVariants as errors
use Rattle.krates_ids.proofs.ComparisonLemmas.{same_id-iff}
use Rattle.krates_ids.proofs.IdentityLemmas.{Reads-no_fault, Reads-once}
use Rattle.krates_rules.specs.Resolved.{id_of, ReadsAs}
use Rattle.krates_certificate.specs.CertificateRefusals.{IsOfMemory}
use Rattle.krates_certificate.specs.Written.{parts_text, IsTextFor}

-- ---- ids that aren't read

-- unless memory ran out, the text of a refused id isn't one
pub unread : (id : PackageId) (cause : IdError) → IsRefusal id cause → (IsOfMemory cause → ⊥) → (kid : Identity) → Reads (id_view id) kid → ⊥
unread id (errors.Opaque back) wrong other kid reads = Reads-no_fault (id_view id) kid no_opaque_form reads wrong.1
unread id (errors.Stable back) wrong other kid reads = Reads-no_fault (id_view id) kid no_stable_form reads wrong.1
unread id (errors.Escape back) wrong other kid reads = Reads-no_fault (id_view id) kid bad_escape reads wrong.1
unread id (errors.Memory back) wrong other kid reads = other tt

-- what is said not to hold doesn't
pub told_false : (b : Bool) (P : Type 0) → IsTrue b ↔ P → b ≡ false → P → ⊥
told_false b P tells is holds = let so = tells.1 holds in absurd cc

pub never_true : IsTrue false → ⊥
never_true is = absurd cc

-- ---- ids that their own texts read as

-- the id that the text of an id reads as is the same one, if any is
pub same_read : (id read : Identity) → Reads id.text read → IsTrue (same_id read id) ↔ ReadsAs id.text (id_of id)
same_read id read reads = (
  λ same. (let parts = (same_id-iff read id).0 same in
      record { read = read; reads = reads; same = rw (parts.name, parts.version, parts.source) refl }),
  λ itself. (let one = Reads-once id.text itself.read read itself.reads reads in
      let parts : IsSameId read id = record {
        name = ap (λ i. i.name) (sym one) ∙ ap (λ i. i.name) itself.same;
        version = ap (λ i. i.version) (sym one) ∙ ap (λ i. i.version) itself.same;
        source = ap (λ i. i.source) (sym one) ∙ ap (λ i. i.source) itself.same;
      } in
      (same_id-iff read id).1 parts),
)

-- ---- the three parts of an id in the opaque form

lacks_front : (c : ℕ) (x y : Text) → Lacks c (x ++ y) → Lacks c x
lacks_front c [] y h = tt
lacks_front c (b ∷ x) y h = (h.0, lacks_front c x y h.1)

lacks_back : (c : ℕ) (x y : Text) → Lacks c (x ++ y) → Lacks c y
lacks_back c [] y h = h
lacks_back c (b ∷ x) y h = lacks_back c x y h.1

name_of_piece : (git : _) (c : ℕ) (piece name : Text) → IsNameOfPiece git piece name → Lacks c piece → Lacks c name
name_of_piece false c piece name is h = rw is h
name_of_piece true c piece name (inl (none, is)) h = rw is h
name_of_piece true c piece name (inr (query, cut)) h = lacks_front c name _ (rw cut.is at h)

-- neither the name nor the version of an id that was read has a space
abbrev HasNoBlank : Identity → Type 0
HasNoBlank id = Lacks blank id.name × Lacks blank id.version

no_blank : (t : Text) (id : Identity) → Reads t id → HasNoBlank id
no_blank t id (inl opaque) = (opaque.form.name_whole, opaque.form.version_whole)
no_blank t id (inr stable) =
    let whole : Lacks blank (stable.left ++ hash_sign ∷ stable.fragment) = rw (← stable.form.cut.is) stable.form.no_blank in
    let left = lacks_front blank stable.left _ whole in
    let fragment : Lacks blank stable.fragment = (lacks_back blank stable.left _ whole).1 in
    elim stable.form.parts [
      | inl cut ↦ (let parts = rw cut.is at fragment in (lacks_front blank id.name _ parts, (lacks_back blank id.name _ parts).1))
      | inr alone ↦ (
          let found = alone.name_in_left in
          let piece : Lacks blank found.piece = (lacks_back blank found.before _ (rw found.cut.is at left)).1 in
          (name_of_piece (is_git stable.left) blank found.piece id.name found.name_is piece, rw alone.version_is fragment)
          )
    ]

regrouped : (id : Identity) → parts_text id ≡ (id.name ++ blank ∷ (id.version ++ blank ∷ opening ∷ id.source)) ++ hash_sign ∷ closing ∷ []
regrouped id = simp append_assoc refl

pub parts_read : (t : Text) (id : Identity) → Reads t id → ReadsAs (parts_text id) (id_of id)
parts_read t id reads =
    let whole = no_blank t id reads in
    record {
      read = record { text = parts_text id; name = id.name; version = id.version; source = id.source; is_opaque = true };
      reads = inl (record {
        form = record {
          end = hash_sign ∷ closing ∷ [];
          is = refl;
          name_whole = whole.0;
          version_whole = whole.1;
          ends = inr (record {
            before = id.name ++ blank ∷ (id.version ++ blank ∷ opening ∷ id.source);
            commit = [];
            cut = record { is = regrouped id; lacks = (λ same. absurd cc, tt) };
            is = refl;
          });
        };
        text_is = refl;
        marked = refl;
      });
      same = refl;
    }

-- where its own text reads otherwise, its parts give an id
pub parts_for : (id : Identity) (r : Result (String Global) AllocError) → (ReadsAs id.text (id_of id) → ⊥) → IfOk r (λ s. string_bytes s ≡ parts_text id) → IfOk r (λ s. IsTextFor id (string_bytes s))
parts_for id (Ok s) other is = record { own = λ itself. absurd (other itself); again = λ t reads. rw is (parts_read t id reads) }
parts_for id (Err e) other is = tt
