use Rattle.std.proofs.Common.{◌≡◌, ◌≢◌, ◌↔◌, inl, inr, [], length, map, Bool, false, not, IsTrue, sym, ap, ◌∙◌, rules, tests, eqb-true}
use Rattle.std.proofs.lemmas.Bool.{eqb-false}
use Rattle.std.proofs.lemmas.List.{length-map, nil_from_length}
use Rattle.semver.proofs.EvalViews.{matches_all-views}
use Rattle.semver.specs.EvalViews.{matches_views}
use Rattle.semver.specs.Identifiers.{comparator_view, pre_text, parts_of}
use Rattle.krates_cm.specs.Document.{VersionModel, RequirementModel, requirement_view}
use Rattle.krates_rules.specs.DeclaredDependency.{VersionMatches}
use Rattle.krates_build_tables.proofs.fitting.version_matches.Goals as goal

-- where the requirement doesn't match, only the second case remains
unmatched : (v : VersionModel) (req : RequirementModel) (r : Bool) → matches_views req v ≡ false → (IsTrue r → (v.3 ≢ []) × (req ≡ [])) → ((v.3 ≢ []) × (req ≡ []) → IsTrue r)
    → IsTrue r ↔ VersionMatches v req
unmatched v req r fails there back = (λ t. inr (there t), λ w. elim w [ inl m ↦ absurd cc | inr p ↦ back p ])

pub returns-then-matches : goal.returns-then-matches
returns-then-matches c =
    let same = matches_all-views c.args.req.now.comparators.items c.args.version.now in
    (λ t. inl (sym same ∙ sym c.matches.ensures ∙ t), λ w. c.if-matches.true)

pub returns-then-not-is_empty : goal.returns-then-not-is_empty
returns-then-not-is_empty c =
    let same = matches_all-views c.args.req.now.comparators.items c.args.version.now in
    let fails = sym same ∙ sym c.matches.ensures ∙ c.if-matches.false in
    unmatched (parts_of c.args.version.now) (requirement_view c.args.req.now) c.is_empty-then-not-is_empty.result fails
    (λ t.
    let none : length c.args.req.now.comparators.items ≡ 0 = search (rules, tests) in
    ((λ e. eqb-false _ _ (sym c.is_empty.ensures ∙ c.if-not-is_empty.true) (ap length e)), ap (map comparator_view) (nil_from_length _ none)))
    (λ p.
    let none : length c.args.req.now.comparators.items ≡ 0 = sym (length-map c.args.req.now.comparators.items comparator_view) ∙ ap length p.1 in
    search (rules, tests))

pub returns-else-not-is_empty : goal.returns-else-not-is_empty
returns-else-not-is_empty c =
    let same = matches_all-views c.args.req.now.comparators.items c.args.version.now in
    let fails = sym same ∙ sym c.matches.ensures ∙ c.if-matches.false in
    let plain = nil_from_length (pre_text c.args.version.now.pre) (eqb-true _ _ (sym c.is_empty.ensures ∙ c.if-not-is_empty.false)) in
    unmatched (parts_of c.args.version.now) (requirement_view c.args.req.now) (not c.is_empty.result) fails
    (λ t. absurd cc) (λ p. absurd (p.0 plain))
