use Rattle.std.proofs.Common.{◌∙◌, Bor, List, ap, length, map, sym}
use Rattle.std.proofs.lemmas.List.{length-map, take_rest}
use Rattle.krates_cm.specs.Document.{Text}
use Rattle.krates_build_facts.specs.FactModels.{Available, fact_view}
use Rattle.krates_build_facts.specs.Rows.{requires}
use Rattle.krates_build_checkers.proofs.SameFacts.{both_parts, first_part, last_part}
use Rattle.krates_build_checkers.proofs.same.are_same_requiring.Goals as goal

pub returns-then-are_same : goal.returns-then-are_same
returns-then-are_same c =
    let first = map fact_view c.args.first.now in
    let facts = c.args.facts.now in
    let n = length c.args.first.now in
    let needs = requires c.args.target.now in
    let said = ap (λ (texts : List (Bor Text)). map (λ (text : Bor Text). Available c.args.target.now.place.krate text.now) texts) c.deref.ensures.value in
    let rest = ap (map fact_view) (take_rest facts n) in (
      λ t. both_parts first needs facts n (c.are_same.ensures.0 c.if-are_same.true) (sym said ∙ c.are_required.ensures.0 t ∙ rest),
      λ same. c.are_required.ensures.1 (said ∙ last_part first needs facts n (length-map c.args.first.now fact_view) same ∙ sym rest),
    )

pub returns-else-are_same : goal.returns-else-are_same
returns-else-are_same c =
    let first = map fact_view c.args.first.now in
    let long = length-map c.args.first.now fact_view in (
      λ t. absurd (cc (t, c.if-are_same.false)),
      λ same. c.are_same.ensures.1 (first_part first (requires c.args.target.now) c.args.facts.now (length c.args.first.now) long same),
    )
