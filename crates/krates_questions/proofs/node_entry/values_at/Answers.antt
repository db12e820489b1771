use Rattle.std.proofs.Common.{◌≡◌, List, [], Option, Some, None, map, option_map, rules, sym, ap, ◌∙◌}
use Rattle.std.proofs.lemmas.Option.{slice_get_within}
use Rattle.std.specs.BTreeMap.{get_by_text}
use Rattle.std.specs.Option.{unwrap_or}
use Rattle.krates_cm.specs.Document.{Text, package_view, text_view, texts_view}
use Rattle.krates_questions.specs.Lookup.{resolved_view}
use Rattle.krates_questions.specs.NodeEntry.{krate_of}
use Rattle.krates_questions.proofs.FeatureNames.{named_here, values_here, lacks_values, no_package_values, are_named}
use Rattle.krates_questions.proofs.node_entry.values_at.Goals as goal

pub node_number-requires : goal.node_number-requires
node_number-requires c =
    let at = c.requires.parts.at in
    record { within = slice_get_within (resolved_view c.args.document.now).graph.nodes c.args.parts.now.place.index at.node at.at }

pub package_at-requires : goal.package_at-requires
package_at-requires c =
    let i = krate_of c.args.parts.now in
    record { number = (i, c.node_number.ensures.number i c.requires.parts.at) }

pub returns-in_default-clause-references : goal.returns-in_default-clause-references
returns-in_default-clause-references c =
    let i = krate_of c.args.parts.now in
    no_package_values (resolved_view c.args.document.now) i c.args.name.now (c.in_default.ensures i (c.node_number.ensures.number i c.requires.parts.at))

pub returns-in-Some-get-clause-references : goal.returns-in-Some-get-clause-references
returns-in-Some-get-clause-references c =
    let i = krate_of c.args.parts.now in
    let has = c.in-Some.ensures i (c.node_number.ensures.number i c.requires.parts.at) in
    let pkg = c.in-Some.pkg.now in
    let found : get_by_text pkg.features c.args.name.now ≡ Some c.in-Some-get.values.now = search rules in
    let seen : map text_view c.in-Some-get.values.now.items ≡ map text_view c.deref.result.now = ap (map text_view) (sym c.deref.ensures.value) in
    values_here (resolved_view c.args.document.now) i c.args.name.now (package_view pkg) (map text_view c.deref.result.now) c.agrees.ensures.distinct has (named_here pkg c.args.name.now ∙ ap (option_map texts_view) found ∙ ap (λ vs. Some vs) seen)

pub returns-in-None-clause-references : goal.returns-in-None-clause-references
returns-in-None-clause-references c =
    let i = krate_of c.args.parts.now in
    let has = c.in-Some.ensures i (c.node_number.ensures.number i c.requires.parts.at) in
    let pkg = c.in-Some.pkg.now in
    let found : get_by_text pkg.features c.args.name.now ≡ None = search rules in
    lacks_values (resolved_view c.args.document.now) i c.args.name.now (package_view pkg) c.agrees.ensures.distinct has (named_here pkg c.args.name.now ∙ ap (option_map texts_view) found)

pub returns-in_default-clause-named : goal.returns-in_default-clause-named
returns-in_default-clause-named c pkg has =
    let i = krate_of c.args.parts.now in
    absurd (c.in_default.ensures i (c.node_number.ensures.number i c.requires.parts.at) pkg has)

pub returns-in-Some-get-clause-named : goal.returns-in-Some-get-clause-named
returns-in-Some-get-clause-named c =
    let i = krate_of c.args.parts.now in
    let has = c.in-Some.ensures i (c.node_number.ensures.number i c.requires.parts.at) in
    let pkg = c.in-Some.pkg.now in
    let found : get_by_text pkg.features c.args.name.now ≡ Some c.in-Some-get.values.now = search rules in
    let seen : map text_view c.in-Some-get.values.now.items ≡ map text_view c.deref.result.now = ap (map text_view) (sym c.deref.ensures.value) in
    let is = named_here pkg c.args.name.now ∙ ap (option_map texts_view) found ∙ ap (λ vs. Some vs) seen in
    are_named (resolved_view c.args.document.now) i c.args.name.now (package_view pkg) (map text_view c.deref.result.now) c.agrees.ensures.distinct has (ap (λ (o : Option (List Text)). unwrap_or o []) is)

pub returns-in-None-clause-named : goal.returns-in-None-clause-named
returns-in-None-clause-named c =
    let i = krate_of c.args.parts.now in
    let has = c.in-Some.ensures i (c.node_number.ensures.number i c.requires.parts.at) in
    let pkg = c.in-Some.pkg.now in
    let found : get_by_text pkg.features c.args.name.now ≡ None = search rules in
    let is = named_here pkg c.args.name.now ∙ ap (option_map texts_view) found in
    are_named (resolved_view c.args.document.now) i c.args.name.now (package_view pkg) [] c.agrees.ensures.distinct has (ap (λ (o : Option (List Text)). unwrap_or o []) is)
