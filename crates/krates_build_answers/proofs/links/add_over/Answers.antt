use Rattle.std.proofs.Common.{◌≡◌, None, Some, sym, ap, ◌∙◌}
use Rattle.std.proofs.lemmas.Result.{on_ok_weaker}
use Rattle.std.specs.Option.{option_copied}
use Rattle.krates_build_tables.specs.declared.tables.Tables.{Tables}
use Rattle.krates_build_answers.specs.Links.{IsLinkOver, IsOver, link_at}
use Rattle.krates_build_answers.proofs.Added.{adds_nothing, adds_same}
use Rattle.krates_build_answers.proofs.LinkSteps.{none_over, over_link}
use Rattle.krates_build_answers.proofs.links.add_over.Goals as goal

pub returns-in-Some : goal.returns-in-Some
returns-in-Some c =
    let t = c.args.units.now.derived in
    let need = c.args.need.now in
    let link = c.in-Some.link.now in
    let at : link_at t need.link ≡ Some link = ap (λ (u : Tables). link_at u need.link) (sym c.tables.ensures) ∙ sym c.link_at.ensures ∙ ap option_copied c.in-Some.is in
    on_ok_weaker c.add_over_link.result (adds_same (IsOver t need link) (IsLinkOver t need) _ _ (over_link t need link at)) c.add_over_link.ensures

pub returns-in-None : goal.returns-in-None
returns-in-None c =
    let t = c.args.units.now.derived in
    let need = c.args.need.now in
    let none : link_at t need.link ≡ None = ap (λ (u : Tables). link_at u need.link) (sym c.tables.ensures) ∙ sym c.link_at.ensures ∙ ap option_copied c.in-None.is in
    adds_nothing (IsLinkOver t need) c.args.links.now.items (none_over t need none)
