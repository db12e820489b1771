use Rattle.std.proofs.Common.{◌≡◌, Bool, true, false, not, map, rules, sym, ◌∙◌, subst, arith, Some}
use Rattle.std.specs.BTreeSet.{contains}
use Rattle.krates_cm.specs.Document.{DepKindInfoModel, dep_kind_info_view}
use Rattle.krates_search.specs.Found.{kind_cmp, kind_view}
use Rattle.krates_search.proofs.FirstKinds.{all_first, first_put, first_stays, infos_long, info_here, none_first, none_seen, one_first, seen_more}
use Rattle.krates_search.proofs.found.first_kinds.Goals.{then-branch+in_ok-push, else-branch}
use Rattle.std.specs.List.{slice_get}
use Rattle.krates_search.proofs.found.first_kinds.Goals as goal

pub returns-then-infos-eq1 : goal.returns-then-infos-eq1
returns-then-infos-eq1 c =
    let infos = c.args.infos.now in
    one_first (map dep_kind_info_view infos) c.in_ok-vec.field-0.items (infos_long infos ∙ search rules) (search rules)

pub loop-place-init : goal.loop-place-init
loop-place-init c =
    let ks = map dep_kind_info_view c.args.infos.now in
    (none_seen ks c.new-seen.result c.new-seen.ensures.empty, none_first ks c.new-places.result.items c.new-places.ensures.items)

-- what the answer of an insertion says
was_new : (added known : Bool) → added ≡ not known → added ≡ true → known ≡ false
was_new added true is so = absurd cc
was_new added false is so = cc

was_known : (added known : Bool) → added ≡ not known → added ≡ false → known ≡ true
was_known added true is so = cc
was_known added false is so = absurd cc

pub loop-place-preserved : goal.loop-place-preserved
loop-place-preserved c =
    let l = c.loop-place in
    let infos = c.args.infos.now in
    let ks = map dep_kind_info_view infos in
    let k = c.kind_key.result in
    let known = contains kind_cmp l.seen k in
    let there = info_here infos l.place c.index-infos-place.result c.loop-place-test.true c.index-infos-place.is in
    let at = subst (λ (m : DepKindInfoModel). slice_get ks l.place ≡ Some m) (sym c.kind_key.ensures) there in
    let seen = seen_more ks l.place k l.seen c.insert.new.self at c.in_ok-insert.ensures.updates.0 l.invariant.0 in
    let tells = l.invariant.0 k in
    let added = c.in_ok-insert.ensures.added in
    elim c.if-branch.branch [
      | then-branch+in_ok-push w ↦ (
        seen,
        rw w.places-is (first_put ks l.place (kind_view k) known l.places.items w.push.new.self.items at (was_new c.in_ok-insert.field-0 known added w.if-branch.true) tells w.in_ok-push.ensures.items l.invariant.1),
      )
      | else-branch w ↦ (
        seen,
        rw w.places-is (first_stays ks l.place (kind_view k) known l.places.items at (was_known c.in_ok-insert.field-0 known added w.if-branch.false) tells l.invariant.1),
      )
    ]

pub returns : goal.returns
returns c =
    let infos = c.args.infos.now in
    all_first (map dep_kind_info_view infos) c.loop-place.place c.loop-place.places.items (omega (arith, infos_long infos)) c.loop-place.invariant.1
