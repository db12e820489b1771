-- The steps of a correction give the corrected features, and correcting twice is correcting once.
use Rattle.std.proofs.Common.{◌≡◌, ◌↔◌, List, [], ◌∷◌, Option, Some, None, sym, ◌∙◌, Contains}
use Rattle.krates_cm.specs.Document.{Text, FeaturesModel}
use Rattle.krates_ids.specs.Correction.{named, joined, Features, Refers, dependency_reference, IsCorrection}

-- the same features have the same references
refers_along : (f g : Features) → ((name : Text) → f name ≡ g name) → (name : Text) → Refers f name → Refers g name
refers_along f g same name r = record { feature = r.feature; values = r.values; is = sym (same r.feature) ∙ r.is; among = r.among; plain = r.plain }

pub some_is_not_none : {A : Type 0} (found : Option A) (x : A) → found ≡ Some x → found ≡ None → ⊥
some_is_not_none found x some none = let e = sym some ∙ none in cc

-- the features of both are joined, and the references to what is missing are added
pub corrected_by_steps : (manifest index whole corrected : FeaturesModel) (names : List Text) → ((name : Text) → named whole name ≡ joined manifest index name)
    → ((name : Text) → Contains names name ↔ ((named whole name ≡ None) × Refers (named whole) name))
    → ((name : Text) → Contains names name → named corrected name ≡ Some (dependency_reference name ∷ []))
    → ((name : Text) → (Contains names name → ⊥) → named corrected name ≡ named whole name)
    → IsCorrection manifest index corrected
corrected_by_steps manifest index whole corrected names is referred put left =
    record {
      has_joined = λ name values e. left name (λ c. some_is_not_none (named whole name) values (is name ∙ e) ((referred name).0 c).0) ∙ is name ∙ e;
      referred = λ name none r. put name ((referred name).1 (is name ∙ none, refers_along (joined manifest index) (named whole) (λ n. sym (is n)) name r));
      no_other = λ name none r. left name (λ c. r (refers_along (named whole) (joined manifest index) is name ((referred name).0 c).1)) ∙ is name ∙ none;
    }
