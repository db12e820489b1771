-- The place of a node's dependency, looked up among those whose packages have the same name.
use Rattle.std.proofs.Common.{◌≡◌, ℕ, List, Option, Some, None, Contains, ap, ◌∙◌, subst}
use Rattle.std.specs.List.{slice_get}
use Rattle.krates_cm.specs.Document.{NodeModel, Text}
use Rattle.krates_document.specs.NamedPlaces.{StandsUnder, no_target}
use Rattle.krates_document.specs.declared.named_places.NamedPlace.{NamedPlace}
use Rattle.krates_ids.specs.Identity.{Identity, Reads}
use Rattle.krates_rules.specs.Admission.{AreDepIds, dep_texts}
use Rattle.krates_rules.specs.Facts.{Id}
use Rattle.krates_rules.specs.Resolved.{StandsAt, id_of}
use Rattle.krates_rules.proofs.Readings.{ReadsOnce, left_of, right_of}
use Rattle.krates_document.specs.CrateTable.{IsPlaceAmong, IsPlaceOf}
use Rattle.krates_questions.specs.NameIndex.{AreIdsNamed}
use Rattle.krates_questions.proofs.LeastReferents.{AreLookedAt}

-- two readings of the same texts have the same id at a place
same_there : ReadsOnce → (n : NodeModel) (kids ids : List Identity) (k : ℕ) (i : Identity) → AreDepIds n kids → AreDepIds n ids → slice_get ids k ≡ Some i → slice_get kids k ≡ Some i
same_there once n kids ids k i these those at =
    let w = left_of Reads (dep_texts n) ids k i those at in
    let y = right_of Reads (dep_texts n) kids k w.0 these w.1 in
    y.1 ∙ ap (λ x. Some x) (once w.0 y.0 i y.2 w.2)

-- a place of the id is among the places under the name of its package
under_its_name : ReadsOnce → (n : NodeModel) (kids ids : List Identity) (named : List NamedPlace) (these : List ℕ) (child : Identity) (k : ℕ) → AreDepIds n kids → AreDepIds n ids → AreIdsNamed kids named → AreLookedAt child.name named these
    → StandsAt ids (id_of child) k → Contains these k
under_its_name once n kids ids named these child k read others names seen s =
    let here = names.each k s.there (same_there once n kids ids k s.there read others s.at) in
    seen.each k (subst (λ (t : Text). StandsUnder named t no_target k) (ap (λ (i : Id). i.name) s.same) here)

-- if it is none of these places, there is none
pub place_named : ReadsOnce → (n : NodeModel) (kids ids : List Identity) (named : List NamedPlace) (these : List ℕ) (child : Identity) (answer : Option ℕ) → AreDepIds n kids → AreDepIds n ids → AreIdsNamed kids named → AreLookedAt child.name named these
    → IsPlaceAmong ids these (id_of child) answer → IsPlaceOf ids (id_of child) answer
place_named once n kids ids named these child None read others names seen none = λ k s. none k (under_its_name once n kids ids named these child k read others names seen s) s
place_named once n kids ids named these child (Some place) read others names seen s = s
