use Rattle.krates_rules.specs.Resolved.{id_of}
use Rattle.krates_questions.proofs.FeatureNumbers.{listed_at}
use Rattle.krates_questions.specs.Context.{document_of}
use Rattle.krates_search.proofs.enabling.enable.Goals as goal

pub put_feature-requires-clause-may : goal.put_feature-requires-clause-may
put_feature-requires-clause-may c =
    let i = id_of c.args.node.id.now in
    let name = c.args.feature.name.now in
    let at = c.in_ok-number.ensures.number in
    record { krate = i; name = name; number_of = at; kept = c.requires.kept; finds = c.requires.step (listed_at (document_of c.args.context.now) i name c.in_ok-number.number at.0) }

pub returns-clause-listed : goal.returns-clause-listed
returns-clause-listed c = listed_at (document_of c.args.context.now) (id_of c.args.node.id.now) c.args.feature.name.now c.in_ok-number.number c.in_ok-number.ensures.number.0

pub returns-clause-named : goal.returns-clause-named
returns-clause-named c =
    let i = id_of c.args.node.id.now in
    let name = c.args.feature.name.now in
    let number = c.in_ok-number.number in
    let at = c.in_ok-number.ensures.number.0 in record {
      enabled = λ h. record { number = number; among = c.in_ok-put_feature.ensures.put; at = at };
      listed = λ lacks. lacks (listed_at (document_of c.args.context.now) i name number at);
    }
