use Rattle.krates_selection.proofs.KeyedFacts.{key_crate, key_feature, key_kept, key_toggled}
use Rattle.krates_selection.proofs.kept_tables.KeptTables.key_at.Goals as goal

pub returns-in-Crate : goal.returns-in-Crate
returns-in-Crate c = rw c.in-Crate.is (key_crate c.args.self.now c.in-Crate.place c.crate_at.result c.crate_at.ensures)

pub returns-in-Feature : goal.returns-in-Feature
returns-in-Feature c = rw c.in-Feature.is (key_feature c.args.self.now c.in-Feature.number c.feature_at.result c.feature_at.ensures)

pub returns-in-Kept : goal.returns-in-Kept
returns-in-Kept c = rw c.in-Kept.is (key_kept c.args.self.now c.in-Kept.place c.in-Kept.index c.in-Kept.kind c.kept_edge_key.result c.kept_edge_key.ensures)

pub returns-in-Toggled : goal.returns-in-Toggled
returns-in-Toggled c = rw c.in-Toggled.is (key_toggled c.args.self.now c.in-Toggled.place c.in-Toggled.number c.crate_at-in-Toggled.result c.feature_at-in-Toggled.result c.crate_at-in-Toggled.ensures c.feature_at-in-Toggled.ensures)
