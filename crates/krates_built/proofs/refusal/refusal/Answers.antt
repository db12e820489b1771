use Rattle.std.proofs.Common.{◌≡◌, List, Some, map, sym, ap, ◌∙◌, subst}
use Rattle.std.specs.List.{slice_get}
use Rattle.std.specs.Option.{option_copied}
use Rattle.krates_cm.specs.Document.{DependencyModel, PackageModel}
use Rattle.krates_questions.specs.Lookup.{resolved_view}
use Rattle.krates_rules.specs.Resolved.{id_of}
use Rattle.krates_build_tables.specs.Judgements.{lent_machines}
use Rattle.krates_build_tables.specs.declared.tables.Tables.{Tables}
use Rattle.krates_built.specs.Refusals.{IsLostOf, TellsLost}
use Rattle.krates_built.specs.declared.places.LostPlace.{LostPlace}
use Rattle.krates_built.proofs.FirstLost.{first_lost}
use Rattle.krates_built.proofs.OrderMeanings.{package_of}
use Rattle.krates_built.proofs.Refused.{lost_of, told_lost}
use Rattle.krates_built.proofs.refusal.refusal.Goals as goal

pub lost_at-requires : goal.lost_at-requires
lost_at-requires c =
    let r = resolved_view c.args.document.now in
    let ids = map id_of c.args.document.now.ids.now.table.ids.items in
    let t = c.args.listed.now.derived in
    let place = c.in-Some.place.now in
    let at = subst (λ (xs : List LostPlace). slice_get xs 0 ≡ Some place) c.deref.ensures.value (sym c.first.ensures.value ∙ ap option_copied c.in-Some.is) in
    let first = first_lost t c.args.listed.now.lists.lost.items place c.requires.listed.lost at in
    subst (λ (u : Tables). (pkg : PackageModel) × (d : DependencyModel) × IsLostOf r ids u place pkg d) (sym c.tables.ensures)
    (lost_of c.meaning.ensures.sound r c.requires.tables.0 ids (lent_machines t.machines.items) t c.requires.tables.1 place first.lost)

pub returns-in-Some : goal.returns-in-Some
returns-in-Some c =
    let r = resolved_view c.args.document.now in
    let ids = map id_of c.args.document.now.ids.now.table.ids.items in
    let t = c.args.listed.now.derived in
    let place = c.in-Some.place.now in
    let at = subst (λ (xs : List LostPlace). slice_get xs 0 ≡ Some place) c.deref.ensures.value (sym c.first.ensures.value ∙ ap option_copied c.in-Some.is) in
    told_lost r ids t place c.lost_at.result (first_lost t c.args.listed.now.lists.lost.items place c.requires.listed.lost at)
    (subst (λ (u : Tables). TellsLost r ids u place c.lost_at.result) c.tables.ensures c.lost_at.ensures)

pub package_at-package-requires : goal.package_at-package-requires
package_at-package-requires c =
    package_of c.meaning.ensures.exact c.meaning.ensures.complete (resolved_view c.args.document.now) c.requires.tables.0 (map id_of c.args.document.now.ids.now.table.ids.items) (lent_machines c.args.listed.now.derived.machines.items) c.args.listed.now.derived c.requires.tables.1
    c.in_ok-krate.krate c.in_ok-krate.ensures.depends
