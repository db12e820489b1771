use Rattle.std.proofs.Common.{◌↔◌, List, String, subst, sym, map, Contains, arith}
use Rattle.std.specs.Global.{Global}
use Rattle.krates_cm.specs.Document.{text_view}
use Rattle.krates_rules.specs.Features.{ListsFeature}
use Rattle.krates_rules.specs.Resolved.{id_of}
use Rattle.krates_questions.specs.Lookup.{resolved_view}
use Rattle.krates_questions.proofs.RootLemmas.{listed_names}
use Rattle.krates_questions.proofs.questions.Document.features.Goals as goal

pub returns-in-Some : goal.returns-in-Some
returns-in-Some c =
    rw (← c.self.view_is) (λ f. let r = resolved_view c.self.inside.lookup in
    let p = id_of c.args.krate.now in
    subst (λ (fs : List (String Global)). ListsFeature r p f ↔ Contains (map text_view fs) f) (sym c.as_slice.ensures.value) (listed_names c.self.inside.lookup p c.in-Some.place.index c.index.result.now c.self.invariant (rw (← c.self.view_is) at c.in-Some.ensures) c.index.ensures f))

pub returns-in-None : goal.returns-in-None
returns-in-None c f = (λ h. absurd (c.in-None.ensures h.node h.has_node), λ h. absurd (omega (arith, h.1)))
