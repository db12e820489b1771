use Rattle.std.proofs.Common.{List, arith, subst}
use Rattle.std.proofs.lemmas.List.{map-append}
use Rattle.std.specs.Global.{Vec}
use Rattle.krates_ids.specs.Identity.{Identity}
use Rattle.krates_rules.proofs.Zips.{zip_next, zip_all}
use Rattle.krates_questions.specs.NameIndex.{AreIdsNamed, lists_in}
use Rattle.krates_questions.proofs.name_index.ids_by_name.Goals as goal

pub loop-kids-preserved : goal.loop-kids-preserved
loop-kids-preserved c =
    let l = c.loop-kids in
    let x = c.kids-item.result in
    let list = c.in_ok-named_places.field-0 in
    let named = subst (λ (ks : List Identity). AreIdsNamed ks list.items) c.deref.ensures.value c.in_ok-named_places.ensures in
    rw (c.in_ok-push.ensures.items, map-append) (zip_next AreIdsNamed (λ (v : Vec Identity). v.items) c.args.ids.now l.kids-index x (lists_in l.lists) list.items (omega arith) c.kids-item.is named l.invariant)

pub returns : goal.returns
returns c = zip_all AreIdsNamed (λ (v : Vec Identity). v.items) c.args.ids.now c.loop-kids.kids-index (lists_in c.loop-kids.lists) (omega arith) c.loop-kids.invariant
