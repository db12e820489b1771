use Rattle.std.proofs.Common.{sym, ap, ◌∙◌}
use Rattle.std.specs.List.{slice_get}
use Rattle.std.specs.Option.{option_and_then, option_copied}
use Rattle.krates_build_tables.specs.declared.tables.CrateEntry.{CrateEntry}
use Rattle.krates_build_answers.proofs.links.link_at.Goals as goal

pub returns-in-Some : goal.returns-in-Some
returns-in-Some c =
    c.link.ensures ∙ ap (option_and_then (λ (e : CrateEntry). slice_get e.links.items c.args.place.index)) (ap option_copied (sym c.in-Some.is) ∙ c.entry.ensures)

pub returns-in-None : goal.returns-in-None
returns-in-None c = ap (option_and_then (λ (e : CrateEntry). slice_get e.links.items c.args.place.index)) (ap option_copied (sym c.in-None.is) ∙ c.entry.ensures)
