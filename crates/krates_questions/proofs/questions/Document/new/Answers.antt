use Rattle.std.proofs.Common.{◌≡◌, sym, ap, ◌∙◌, subst, option_map}
use Rattle.std.proofs.lemmas.Option.{same_Some}
use Rattle.krates_cm.specs.Document.{metadata_view, resolve_view}
use Rattle.krates_rules.specs.Admission.{NoneDoubled}
use Rattle.krates_questions.proofs.questions.Document.new.Goals as goal

pub lookup_of-requires-clause-distinct : goal.lookup_of-requires-clause-distinct
lookup_of-requires-clause-distinct c =
    let m = metadata_view c.args.metadata.now in
    let same : c.requires.graph ≡ resolve_view c.in-Some.resolve = same_Some _ _ (sym c.requires.has_graph ∙ ap (option_map resolve_view) c.in-Some.is) in
    subst (NoneDoubled m) same c.requires.none_doubled

pub invariant_of-result : goal.invariant_of-result
invariant_of-result c = c.in_ok-lookup.ensures.lookup
