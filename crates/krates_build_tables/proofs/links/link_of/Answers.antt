use Rattle.std.proofs.Common.{Option, refl, sym, subst}
use Rattle.krates_cm.specs.Document.{Text}
use Rattle.krates_build_tables.specs.Builds.{machines_in, resolved_in, setting_in}
use Rattle.krates_build_tables.specs.Judgements.{IsPassing}
use Rattle.krates_build_tables.specs.Pairs.{pair_view}
use Rattle.krates_build_tables.proofs.JudgementLemmas.{judged_at}
use Rattle.krates_build_tables.proofs.links.link_of.Goals as goal

pub returns-clause-says : goal.returns-clause-says
returns-clause-says c =
    let r = resolved_in c.args.build.now in
    let s = setting_in c.args.build.now in
    let ms = machines_in c.args.build.now in
    let e = (pair_view c.args.pair.now).0 in
    let passing = subst (λ (cfg : Option Text). IsPassing s ms cfg c.in_ok-passing.passing) (sym c.target_of-cfg.ensures) c.in_ok-passing.ensures in
    record {
      parent = refl;
      child = c.child_number.ensures;
      kind = refl;
      cfg = c.target_of-cfg.ensures;
      declared = refl;
      name = c.declared_name-name.ensures;
      optional = refl;
      feature = rw c.declared_name-name.ensures at c.has_feature.ensures;
      given = c.in_ok-given.ensures;
      counts_for_targets = c.counts-counts_for_targets.ensures r ms e refl c.requires.pair.root passing;
      counts_for_host = c.counts-counts_for_host.ensures r ms e refl c.requires.pair.root passing;
      leads = λ m. c.leads_to.ensures e m refl refl;
      looks = λ m. c.looks_on.ensures e m refl refl;
      host = passing.host;
      machines = judged_at e.cfg ms c.in_ok-passing.passing.on_each.items passing.each;
    }
