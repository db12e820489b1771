use Rattle.std.proofs.Common.{◌∙◌, refl}
use Rattle.krates_rules.specs.Facts.{Crate, Feature, Toggled}
use Rattle.krates_rules.specs.Resolved.{id_of}
use Rattle.krates_search.specs.Found.{found_toggled}
use Rattle.krates_selection.specs.Trace.{HasSomeStep}
use Rattle.krates_search.specs.declared.found.FoundToggle.{FoundToggle}
use Rattle.krates_questions.proofs.FeatureNumbers.{listed_at}
use Rattle.krates_search.proofs.Finding.{finds_toggled, for_reason}
use Rattle.krates_search.proofs.Growing.{advances_trans}
use Rattle.krates_search.proofs.Growth.{seen_there, toggled_advances}
use Rattle.krates_search.proofs.Waking.{may_name}
use Rattle.krates_questions.specs.Context.{document_of}
use Rattle.krates_search.proofs.enabling.toggle.Goals as goal

pub listed_number-requires-clause-may : goal.listed_number-requires-clause-may
listed_number-requires-clause-may c = may_name c.args.context.now (id_of c.args.by.id.now) (id_of c.args.node.id.now) c.args.feature.name.now c.requires.may

pub put_step-requires-clause-may : goal.put_step-requires-clause-may
put_step-requires-clause-may c =
    let p = id_of c.args.by.id.now in
    let i = id_of c.args.node.id.now in
    let g = c.args.feature.name.now in
    let at = c.in_ok-number.ensures.number.0 in
    record {
      fact = Toggled p i g;
      names = record { by = p; krate = i; name = g; node = c.requires.by.at; at = at; is = refl };
      finds = c.requires.step (listed_at (document_of c.args.context.now) i g c.in_ok-number.number at);
    }

pub put_feature-requires-clause-may : goal.put_feature-requires-clause-may
put_feature-requires-clause-may c =
    let b = c.args.context.now in
    let p = id_of c.args.by.id.now in
    let i = id_of c.args.node.id.now in
    let g = c.args.feature.name.now in
    let at = c.in_ok-number.ensures.number in
    let y = c.put_step.new.found in
    let has = c.in_ok-toggled.ensures.put (Toggled p i g) (record { by = p; krate = i; name = g; node = c.requires.by.at; at = at.0; is = refl }) in
    record {
      krate = i;
      name = g;
      number_of = at;
      kept = c.in_ok-toggled.ensures.advanced.grows.found (Crate i) c.requires.kept;
      finds = for_reason b y _ _ (Feature i g) c.by_one.ensures (finds_toggled b y c.in_ok-toggled.toggled p i g has);
    }

pub returns-clause-advanced : goal.returns-clause-advanced
returns-clause-advanced c =
    let b = c.args.context.now in
    let p = id_of c.args.by.id.now in
    let i = id_of c.args.node.id.now in
    let g = c.args.feature.name.now in
    let number = c.in_ok-number.number in
    let at = c.in_ok-number.ensures.number.0 in
    let y = c.put_step.new.found in
    let z = c.put_feature.new.found in
    let noted = c.in_ok-toggled.ensures in
    let step = c.in_ok-put_feature.ensures in
    let has = noted.put (Toggled p i g) (record { by = p; krate = i; name = g; node = c.requires.by.at; at = at; is = refl }) in
    let some : HasSomeStep (document_of b) z.trace.items (Toggled p i g) = (c.in_ok-toggled.toggled, step.advanced.grows.steps c.in_ok-toggled.toggled (Toggled p i g) has) in
    let t : FoundToggle = record { by = c.args.by.id; krate = c.args.node.id; name = c.args.feature.name; by_node = c.args.by.place; krate_node = c.args.node.place } in
    let d = c.requires.may.toggled (listed_at (document_of b) i g number at) in
    advances_trans b c.args.found.now z _ (advances_trans b c.args.found.now y z noted.advanced step.advanced)
    (toggled_advances b z c.push.new.self t step.advanced.sound c.in_ok-push.ensures.items (record { by = c.requires.by.at; krate = c.requires.node.at }) (record { number = number; among = step.put; at = at }) d some)

pub returns-clause-toggled : goal.returns-clause-toggled
returns-clause-toggled c =
    let t : FoundToggle = record { by = c.args.by.id; krate = c.args.node.id; name = c.args.feature.name; by_node = c.args.by.place; krate_node = c.args.node.place } in record {
      toggled = λ h. seen_there found_toggled c.put_feature.new.found.toggled.items c.push.new.self.items t c.in_ok-push.ensures.items;
      listed = λ lacks. lacks (listed_at (document_of c.args.context.now) (id_of c.args.node.id.now) c.args.feature.name.now c.in_ok-number.number c.in_ok-number.ensures.number.0);
    }

pub returns-clause-same_links : goal.returns-clause-same_links
returns-clause-same_links c = c.in_ok-put_feature.ensures.same_links ∙ c.in_ok-toggled.ensures.same_links
