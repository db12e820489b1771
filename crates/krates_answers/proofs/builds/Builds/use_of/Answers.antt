use Rattle.std.proofs.Common.{rules, subst}
use Rattle.krates_queries.specs.Kept.{IsNotKept}
use Rattle.krates_rules.specs.Resolved.{id_of}
use Rattle.krates_answers.specs.CrateUses.{IsKept}
use Rattle.krates_answers.specs.declared.three_graphs.ThreeGraphs.{ThreeGraphs}
use Rattle.krates_answers.proofs.UseLemmas.{kept_from_some, not_kept_from_none}
use Rattle.krates_answers.proofs.builds.Builds.use_of.Goals as goal

pub returns-then-is_some : goal.returns-then-is_some
returns-then-is_some c =
    let id = id_of c.args.kid.now in
    subst (λ (b : ThreeGraphs). IsKept b.shipped id) c.self.view_is (kept_from_some c.self.inside.graphs.shipped id c.nid_for_kid.result c.nid_for_kid.ensures (search rules))

pub returns-then-is_some-2 : goal.returns-then-is_some-2
returns-then-is_some-2 c =
    let id = id_of c.args.kid.now in (
      subst (λ (b : ThreeGraphs). IsNotKept b.shipped id) c.self.view_is (not_kept_from_none c.self.inside.graphs.shipped id c.nid_for_kid.result c.nid_for_kid.ensures (search rules)),
      subst (λ (b : ThreeGraphs). IsKept b.without_dev id) c.self.view_is
          (kept_from_some c.self.inside.graphs.without_dev id c.nid_for_kid-else-is_some.result c.nid_for_kid-else-is_some.ensures (search rules)),
    )

pub returns-else-is_some-2 : goal.returns-else-is_some-2
returns-else-is_some-2 c =
    let id = id_of c.args.kid.now in (
      subst (λ (b : ThreeGraphs). IsNotKept b.shipped id) c.self.view_is (not_kept_from_none c.self.inside.graphs.shipped id c.nid_for_kid.result c.nid_for_kid.ensures (search rules)),
      subst (λ (b : ThreeGraphs). IsNotKept b.without_dev id) c.self.view_is
          (not_kept_from_none c.self.inside.graphs.without_dev id c.nid_for_kid-else-is_some.result c.nid_for_kid-else-is_some.ensures (search rules)),
    )
