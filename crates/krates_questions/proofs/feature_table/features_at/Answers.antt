use Rattle.std.proofs.Common.{◌↔◌, List, String, Global, subst, sym, map, Contains}
use Rattle.krates_cm.specs.Document.{text_view}
use Rattle.krates_rules.specs.Features.{ListsFeature}
use Rattle.krates_questions.specs.Lookup.{resolved_view}
use Rattle.krates_questions.proofs.RootLemmas.{listed_names}
use Rattle.krates_questions.proofs.feature_table.features_at.Goals as goal

pub returns : goal.returns
returns c =
    rw (← c.document.view_is) (λ i at f. let r = resolved_view c.document.inside.lookup in
    subst (λ (fs : List (String Global)). ListsFeature r i f ↔ Contains (map text_view fs) f) (sym c.as_slice.ensures.value) (listed_names c.document.inside.lookup i c.args.place.index c.index.result.now c.document.invariant at c.index.ensures f))
