use Rattle.std.proofs.Common.{map, sym, vec_len}
use Rattle.krates_cm.specs.Document.{dependency_view}
use Rattle.krates_questions.specs.Lookup.{resolved_view}
use Rattle.krates_rules.specs.Resolved.{id_of}
use Rattle.krates_build_tables.specs.Pairs.{pair_view}
use Rattle.krates_build_tables.proofs.Listing.{empty_told}
use Rattle.krates_build_tables.proofs.PairLemmas.{unresolved_told}
use Rattle.krates_build_tables.proofs.pairs.is_unresolved.Goals as goal

pub returns : goal.returns
returns c =
    unresolved_told (resolved_view c.args.document.now) (id_of c.args.krate.now) (dependency_view c.args.declared.now) (map pair_view c.in_ok-pairs.pairs.items) c.is_empty.result c.in_ok-pairs.ensures
    (empty_told pair_view c.in_ok-pairs.pairs.items (vec_len c.in_ok-pairs.pairs) c.is_empty.result (sym c.in_ok-pairs.pairs.ok.0) c.is_empty.ensures)
