use Rattle.std.proofs.Common.{◌∙◌, refl, inl, inr, arith}
use Rattle.std.proofs.lemmas.Bool.{both_ways}
use Rattle.std.proofs.lemmas.List.{get_or_default}
use Rattle.std.proofs.lemmas.List.Elements.{recursion_from_All, All-from_recursion}
use Rattle.std.proofs.lemmas.Str.Pattern.{contains_char}
use Rattle.krates_ids.specs.Separators.{blank}
use Rattle.krates_document.proofs.declared_source.compared_of_git.Goals as goal

pub returns-then-contains : goal.returns-then-contains
returns-then-contains c =
    let id = c.args.id.now in
    let there = (contains_char blank id _ c.contains.ensures.cases (omega arith)).0 c.if-contains.true in
    inl ((c.requires, λ lacks. All-from_recursion _ id lacks there.0 0 there.1 there.2), c.without_commit.ensures)

pub returns-else-contains : goal.returns-else-contains
returns-else-contains c =
    let id = c.args.id.now in
    let none = (contains_char blank id _ c.contains.ensures.cases (omega arith)).1 in
    inr (λ loses. loses.1 (recursion_from_All _ id (λ k d within e. both_ways _ c.if-contains.false (none k within (get_or_default id k 0 d within ∙ e)))), refl)
