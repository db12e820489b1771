use Rattle.std.proofs.Common.{◌≡◌, Some, refl, sym, ◌∙◌, subst}
use Rattle.std.proofs.lemmas.Option.{same_Some}
use Rattle.std.specs.List.{slice_get}
use Rattle.krates_build_tables.specs.declared.tables.CrateEntry.{CrateEntry}
use Rattle.krates_built.proofs.PlacesRead.{read_at}
use Rattle.krates_built.proofs.refusal.lost_at.Goals as goal

pub returns : goal.returns
returns c =
    let place = c.args.place in
    let lost = c.requires.2.at in
    let e = c.index.result.now in
    let x = c.index-2.result.now in
    let at = read_at c.args.tables.now.crates.items place.krate e lost.entry lost.entry_at.at c.index.ensures in
    let same = same_Some lost.entry e (sym lost.entry_at.at ∙ at) in
    record {
      id = c.package_at.ensures.id;
      at = record {
        entry = e;
        entry_at = record { crate_at = c.package_at.ensures.at; at = at };
        lacking = x;
        at = read_at e.lacking.items place.index x lost.lacking
            (subst (λ (entry : CrateEntry). slice_get entry.lacking.items place.index ≡ Some lost.lacking) same lost.at) c.index-2.ensures;
        declared = refl;
      };
      has_package = c.package_at.ensures.has_package;
    }
