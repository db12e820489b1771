use Rattle.std.proofs.Common.{map, take}
use Rattle.std.specs.List.{AllZip}
use Rattle.std.specs.Global.{Vec}
use Rattle.krates_ids.specs.Identity.{Identity}
use Rattle.krates_questions.specs.NameIndex.{AreIdsNamed, lists_in}
use Rattle.krates_questions.proofs.name_index.ids_by_name.Given as goal

-- the lists so far have their ids by name
abbrev pub invariant-loop-kids : goal.invariant-loop-kids
invariant-loop-kids l = AllZip AreIdsNamed (map (λ (v : Vec Identity). v.items) (take l.kids-index l.ids)) (lists_in l.lists)
