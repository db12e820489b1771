use Rattle.std.proofs.Common.{◌<◌, ◌++◌, List, [], ◌∷◌, ap, arith, length, map, subst, take, ◌∙◌}
use Rattle.std.proofs.lemmas.List.{take_all}
use Rattle.krates_cm.specs.Document.{Text}
use Rattle.krates_cm.specs.declared.package.Package.{Package}
use Rattle.krates_queries.specs.KrateNodes.{Match, match_view}
use Rattle.krates_queries.specs.declared.queries.krate_nodes.KrateMatch.{KrateMatch}
use Rattle.krates_answers.specs.Labelled.{with_label}
use Rattle.krates_answers.specs.Grouped.{AreGroups, groups_in, seen_group}
use Rattle.krates_answers.proofs.LabelLemmas.{found_with_label, seen_with_label}
use Rattle.krates_answers.proofs.OneMoreGrouped.{none_grouped}
use Rattle.krates_answers.proofs.GroupsSeen.{groups_seen}
use Rattle.krates_answers.proofs.TakenLemmas.{seen_front}
use Rattle.krates_answers.proofs.labelled.labelled.Goals as goal

pub loop-found-init : goal.loop-found-init
loop-found-init g c = none_grouped c.new-groups.result c.new-groups.ensures.empty

pub loop-found-preserved : goal.loop-found-preserved
loop-found-preserved g c =
    let l = c.loop-found in
    let items = c.args.crates.now in
    let lt : l.found-index < length items = omega (arith, c.loop-found-test.true) in
    let before = map (found_with_label g.L.Label.label_of) (take l.found-index items) in
    let more = c.in_ok-put_under.ensures before l.invariant in
    let labelled = subst (λ (label : Text). AreGroups (before ++ (label, c.again.result) ∷ []) (groups_in c.put_under.new.groups)) c.label-label.ensures more in
    let found = subst (λ (m : KrateMatch Package). AreGroups (before ++ (g.L.Label.label_of c.found-item.result.krate.now, m) ∷ []) (groups_in c.put_under.new.groups)) c.again.ensures labelled in
    rw (seen_front (found_with_label g.L.Label.label_of) items l.found-index c.found-item.result lt c.found-item.is) found

pub returns : goal.returns
returns g c =
    let l = c.loop-found in
    let items = c.args.crates.now in
    let groups = groups_in l.groups in
    subst (λ (ms : List (KrateMatch Package)). AreGroups (map (with_label g.L.Label.label_of) (map match_view ms)) (map (seen_group match_view) groups)) (take_all l.found-index items c.loop-found-test.false)
    (subst (λ (items : List (Text × Match Package)). AreGroups items (map (seen_group match_view) groups)) (seen_with_label g.L.Label.label_of (take l.found-index items))
    (groups_seen match_view (map (found_with_label g.L.Label.label_of) (take l.found-index items)) groups l.invariant))
