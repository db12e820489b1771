use Rattle.std.proofs.Common.{◌↔◌, Contains, IsTrue, sym, subst}
use Rattle.std.proofs.lemmas.Result.{IfOk-weaker}
use Rattle.krates_rules.specs.Facts.{Id}
use Rattle.krates_rules.specs.Resolved.{id_of}
use Rattle.krates_rules.proofs.Zips.{one_seen}
use Rattle.krates_units.specs.Requests.{IsBuildRoot}
use Rattle.krates_build_tables.specs.Builds.{resolved_in, setting_in}
use Rattle.krates_build_tables.specs.Pairs.{pair_view}
use Rattle.krates_build_tables.proofs.Entries.{entries_links}
use Rattle.krates_build_tables.proofs.links.links_of.Goals as goal

pub links_by-requires-clause-pairs : goal.links_by-requires-clause-pairs
links_by-requires-clause-pairs c p there =
    let r = resolved_in c.args.build.now in
    let s = setting_in c.args.build.now in
    let at = subst (λ ps. Contains ps p) c.deref.ensures.value there in
    let of = (c.in_ok-pairs.ensures (pair_view p)).1 (one_seen pair_view c.in_ok-pairs.pairs.items at.0 p at.1 (sym at.2)) in
    record { root = subst (λ (j : Id). IsTrue c.args.is_root ↔ IsBuildRoot r s j) (sym of.1) c.requires.root; pkg = of.0.pkg; has_package = of.0.has_package }

pub returns : goal.returns
returns c =
    IfOk-weaker c.links_by.result _ _ (λ links are. entries_links c.args.build.now c.args.number (id_of c.args.krate.now) c.in_ok-pairs.pairs.items links.items c.in_ok-pairs.ensures (rw c.deref.ensures.value at are)) c.links_by.ensures
