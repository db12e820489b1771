use Rattle.std.proofs.Common.{◌≡◌, ℕ, List, rules, sym, subst}
use Rattle.std.specs.BTreeMap.{get}
use Rattle.krates_cm.specs.Document.{Text}
use Rattle.krates_questions.specs.FeatureTable.{listed_cmp, IsNumberOf}
use Rattle.krates_questions.specs.Lookup.{resolved_view}
use Rattle.krates_questions.specs.declared.feature_table.ListedFeature.{ListedFeature}
use Rattle.krates_questions.proofs.FeatureNumbers.{number_answer, own_answer}
use Rattle.krates_questions.proofs.questions.Document.feature_number.Goals as goal

pub returns-clause-number : goal.returns-clause-number
returns-clause-number c =
    rw (← c.self.view_is) (λ i at. let d = c.self.inside.lookup in
    let q : ListedFeature = record { place = c.args.place; name = c.args.name } in
    let answer : c.copied.result ≡ get listed_cmp d.features.numbers q = search rules in
    let numbered = subst (λ (all : List (ℕ × Text)). IsNumberOf all (c.args.place.index, c.args.name.now) (get listed_cmp d.features.numbers q)) c.self.invariant.features (c.self.invariant.numbered q) in
    number_answer (resolved_view d) i c.args.name.now c.args.place.index c.copied.result c.self.invariant.distinct at (subst (IsNumberOf _ _) (sym answer) numbered))

pub returns-clause-own : goal.returns-clause-own
returns-clause-own c =
    rw (← c.self.view_is) (let d = c.self.inside.lookup in
    let q : ListedFeature = record { place = c.args.place; name = c.args.name } in
    let answer : c.copied.result ≡ get listed_cmp d.features.numbers q = search rules in
    let numbered = subst (λ (all : List (ℕ × Text)). IsNumberOf all (c.args.place.index, c.args.name.now) (get listed_cmp d.features.numbers q)) c.self.invariant.features (c.self.invariant.numbered q) in
    own_answer (resolved_view d) (c.args.place.index, c.args.name.now) c.copied.result (subst (IsNumberOf _ _) (sym answer) numbered))
