use Rattle.std.proofs.Common.{◌≡◌, List, get_or, sym, ◌∙◌, subst}
use Rattle.std.proofs.lemmas.Option.{same_Some}
use Rattle.krates_ids.specs.Identity.{Identity}
use Rattle.krates_questions.specs.Lookup.{resolved_view}
use Rattle.krates_rules.specs.Facts.{Id}
use Rattle.krates_rules.specs.Resolved.{HasPackage, id_of}
use Rattle.krates_built.proofs.PlacesRead.{id_here}
use Rattle.krates_built.proofs.refusal.package_at.Goals as goal

pub unreachable-requires : goal.unreachable-requires
unreachable-requires c =
    let kid = c.index-crate_ids-number.result in
    let at = id_here c.args.document.now.ids.now.table.ids.items c.args.number kid c.requires.1.id c.requires.1.at
    (subst (λ (kids : List Identity). kid ≡ get_or kids c.args.number kid) c.crate_ids.ensures c.index-crate_ids-number.is) in
    let same = same_Some c.requires.1.id (id_of kid) (sym c.requires.1.at ∙ at) in
    c.in_default.ensures c.requires.0 (subst (λ (i : Id). HasPackage (resolved_view c.args.document.now) i c.requires.0) same c.requires.1.has_package)

pub returns : goal.returns
returns c =
    let kid = c.index-crate_ids-number.result in
    record {
      id = id_of kid;
      at = id_here c.args.document.now.ids.now.table.ids.items c.args.number kid c.requires.1.id c.requires.1.at
          (subst (λ (kids : List Identity). kid ≡ get_or kids c.args.number kid) c.crate_ids.ensures c.index-crate_ids-number.is);
      has_package = c.in-Some.ensures;
    }
