use Rattle.std.proofs.Common.{◌↔◌, ℕ, IsTrue, MatchOption, None, Option, Some, refl, subst, sym}
use Rattle.std.specs.Prelude.{is_some}
use Rattle.krates_cm.specs.Document.{Text}
use Rattle.krates_questions.proofs.FeatureNumbers.{listed_at}
use Rattle.krates_questions.specs.Lookup.{resolved_view}
use Rattle.krates_questions.specs.FeatureTable.{FeatureAt}
use Rattle.krates_rules.specs.Facts.{Id}
use Rattle.krates_rules.specs.Features.{LacksFeature, ListsFeature}
use Rattle.krates_rules.specs.Resolved.{Resolved, id_of}
use Rattle.krates_questions.proofs.questions.Document.lists.Goals as goal

-- whether the feature is listed is whether it has a number
listed_told : (r : Resolved) (i : Id) (f : Text) (o : Option ℕ) → MatchOption o (LacksFeature r i f) (FeatureAt r i f) → IsTrue (is_some o) ↔ ListsFeature r i f
listed_told r i f (Some n) at = let here = listed_at r i f n at in (λ t. here, λ l. refl)
listed_told r i f None lacks = (λ t. absurd cc, λ l. absurd (lacks l))

pub returns-in-Some : goal.returns-in-Some
returns-in-Some c =
    let i = id_of c.args.krate.now in
    let r = resolved_view c.args.self.now in
    let f = c.args.name.now in
    subst (λ b. IsTrue b ↔ ListsFeature r i f) (sym c.is_some.ensures) (listed_told r i f c.feature_number.result (c.feature_number.ensures.number i c.in-Some.ensures))

pub returns-in-None : goal.returns-in-None
returns-in-None c = ((λ t. absurd cc, λ l. absurd (c.in-None.ensures l.node l.has_node)))
