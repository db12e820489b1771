use Rattle.std.proofs.Common.{◌↔◌, List, subst, sym, map, Contains, arith}
use Rattle.krates_cm.specs.Document.{dep_kind_info_view}
use Rattle.krates_cm.specs.declared.resolve.DepKindInfo.{DepKindInfo}
use Rattle.krates_rules.specs.Resolved.{id_of}
use Rattle.krates_questions.specs.Lookup.{resolved_view}
use Rattle.krates_questions.specs.Availability.{ListsKind}
use Rattle.krates_questions.proofs.Needs.{kinds_told}
use Rattle.krates_questions.proofs.questions.Document.kinds.Goals as goal

pub returns-in-Some : goal.returns-in-Some
returns-in-Some c =
    (λ k. let r = resolved_view c.args.self.now in
    let p = id_of c.args.krate.now in
    let child = id_of c.args.child.now in
    subst (λ (ks : List DepKindInfo). ListsKind r p child k ↔ Contains (map dep_kind_info_view ks) k) (sym c.as_slice.ensures.value) (kinds_told r p child k c.in-Some.entry c.agrees.ensures.distinct c.in-Some.ensures))

pub returns-in-None : goal.returns-in-None
returns-in-None c = (λ k. (λ h. absurd (c.in-None.ensures h.lists.node h.dep h.lists.has_node h.lists.has_dep), λ h. absurd (omega (arith, h.1))))
