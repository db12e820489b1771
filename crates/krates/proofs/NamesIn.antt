-- The names in a set, before and after one more is inserted.
use Rattle.std.proofs.Common.{◌≡◌, ◌↔◌, ◌⊎◌, List, [], ◌∷◌, map, Bool, true, false, cond, ◌||◌, string_bytes, refl, sym, ap, ◌∙◌, inl, inr}
use Rattle.std.proofs.Math.Bool.{or_comm}
use Rattle.std.proofs.lemmas.Map.Text.{is_eq-slice_cmp}
use Rattle.std.proofs.lemmas.Slice.Eq.{bytes_eq-Decides}
use Rattle.std.specs.BTreeSet.{BTreeSet, contains_text}
use Rattle.std.specs.Cmp.Lexicographic.{slice_cmp}
use Rattle.std.specs.List.{list_any}
use Rattle.std.specs.Ordering.{is_eq, nat_cmp}
use Rattle.std.specs.Prelude.{String}
use Rattle.std.specs.Str.{bytes_eq}
use Rattle.std.specs.declared.alloc.Global.{Global}
use Rattle.krates_cm.specs.Document.{Text, text_view}
use Rattle.krates_drawing.specs.Node.{names_in}
use Rattle.krates_rules.proofs.Members.{Member}

-- whether one of the keys has these bytes
abbrev has_key : List (String Global) → Text → Bool
has_key ks f = list_any (λ k. is_eq (slice_cmp nat_cmp f (string_bytes k))) ks

equal_bytes : (f t : Text) → is_eq (slice_cmp nat_cmp f t) ≡ true → t ≡ f
equal_bytes f t h = sym ((bytes_eq-Decides f t).0 (sym (is_eq-slice_cmp f t) ∙ h))

bytes_equal : (f t : Text) → t ≡ f → is_eq (slice_cmp nat_cmp f t) ≡ true
bytes_equal f t h = is_eq-slice_cmp f t ∙ (bytes_eq-Decides f t).1 (sym h)

named_step : (f t : Text) (ts : List Text) (b rest : Bool) → is_eq (slice_cmp nat_cmp f t) ≡ b → (rest ≡ true → Member ts f) → (b || rest) ≡ true → Member (t ∷ ts) f
named_step f t ts true rest e more h = inl (equal_bytes f t e)
named_step f t ts false rest e more h = inr (more h)

named_of : (ks : List (String Global)) (f : Text) → has_key ks f ≡ true → Member (map text_view ks) f
named_of [] f h = absurd cc
named_of (k ∷ ks) f h = named_step f (string_bytes k) (map text_view ks) (is_eq (slice_cmp nat_cmp f (string_bytes k))) (has_key ks f) refl (named_of ks f) h

has_of : (ks : List (String Global)) (f : Text) → Member (map text_view ks) f → has_key ks f ≡ true
has_of [] f m = absurd m
has_of (k ∷ ks) f (inl e) = ap (λ b. b || has_key ks f) (bytes_equal f (string_bytes k) e)
has_of (k ∷ ks) f (inr m) = rw (has_of ks f m) (or_comm (is_eq (slice_cmp nat_cmp f (string_bytes k))) true)

-- ---- one more name

-- the set has the names that it had, and this one
abbrev pub GetsName : BTreeSet (String Global) → BTreeSet (String Global) → Text → Type 0
GetsName before after name = (f : Text) → Member (names_in after) f ↔ (Member (names_in before) f ⊎ (name ≡ f))

new_or_before : (b had : Bool) (name f : Text) → bytes_eq name f ≡ b → cond b true had ≡ true → (had ≡ true) ⊎ (name ≡ f)
new_or_before true had name f e h = inr ((bytes_eq-Decides name f).0 e)
new_or_before false had name f e h = inl h

had_before : (b had : Bool) → had ≡ true → cond b true had ≡ true
had_before true had h = refl
had_before false had h = h

has_new : (b had : Bool) → b ≡ true → cond b true had ≡ true
has_new true had h = refl
has_new false had h = absurd cc

pub gets_name : (before after : BTreeSet (String Global)) (name : Text) → ((f : Text) → contains_text after f ≡ cond (bytes_eq name f) true (contains_text before f)) → GetsName before after name
gets_name before after name h f = (
  λ m. elim (new_or_before (bytes_eq name f) (contains_text before f) name f refl (sym (h f) ∙ has_of after.keys f m)) [
    | inl had ↦ inl (named_of before.keys f had)
    | inr new ↦ inr new
  ],
  λ either. named_of after.keys f (h f ∙ elim either [
    | inl had ↦ had_before (bytes_eq name f) (contains_text before f) (has_of before.keys f had)
    | inr new ↦ has_new (bytes_eq name f) (contains_text before f) ((bytes_eq-Decides name f).1 new)
  ]),
)
