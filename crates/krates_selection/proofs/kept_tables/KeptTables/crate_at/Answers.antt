use Rattle.std.proofs.Common.{◌∙◌, subst, sym}
use Rattle.std.proofs.lemmas.Option.{same_Some, slice_get_within}
use Rattle.krates_selection.proofs.KeptNumbers.{number_at, number_within}
use Rattle.krates_selection.specs.KeptTables.{IsNumberAt, document_in}
use Rattle.krates_selection.proofs.kept_tables.KeptTables.crate_at.Goals as goal

pub node_number-number-requires : goal.node_number-number-requires
node_number-number-requires c =
    let k = c.requires.kept in
    record { within = slice_get_within (document_in c.args.self.now).graph.nodes c.args.place.index k.node.node k.node.at }

pub at_number-requires : goal.at_number-requires
at_number-requires c =
    let k = c.requires.kept in
    number_within c.args.self.now k.krate c.node_number-number.result (c.node_number-number.ensures.number k.krate k.node)

pub unreachable-requires : goal.unreachable-requires
unreachable-requires c =
    let t = c.args.self.now in
    let k = c.requires.kept in
    let n = c.node_number-number.ensures.number k.krate k.node in
    let some = c.node_number-number.ensures.has_one k.krate k.node in
    let h = number_at c.one_reading.ensures.once t c.args.place.index c.node_number-number.result c.at_number.result k some n c.at_number.ensures in
    absurd (let no = sym h.answered ∙ c.in_default.is in cc)

pub returns : goal.returns
returns c =
    let t = c.args.self.now in
    let k = c.requires.kept in
    let n = c.node_number-number.ensures.number k.krate k.node in
    let some = c.node_number-number.ensures.has_one k.krate k.node in
    let h = number_at c.one_reading.ensures.once t c.args.place.index c.node_number-number.result c.at_number.result k some n c.at_number.ensures in
    subst (IsNumberAt t c.args.place.index) (same_Some h.number c.in-Some.kept (sym h.answered ∙ c.in-Some.is)) h.is
