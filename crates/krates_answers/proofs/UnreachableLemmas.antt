-- What a closed list of facts that lacks a crate says of the crate.
use Rattle.std.proofs.Common.{List, None, subst}
use Rattle.krates_checkers.specs.CheckedDocument.{HoldsOfChecked}
use Rattle.krates_cm.specs.Document.{MetadataModel}
use Rattle.krates_rules.specs.Checks.{AreComplete, IsClosedFor}
use Rattle.krates_rules.specs.Facts.{Crate, Fact, Id}
use Rattle.krates_rules.specs.Resolved.{resolved}
use Rattle.krates_rules.specs.Setting.{SettingModel}
use Rattle.krates_answers.specs.Unreachable.{IsUnreachable, LackCrate}

-- what holds of the document that is checked holds of the given one, where there is no index
pub as_it_is : (m : MetadataModel) (P : MetadataModel → Type 0) → HoldsOfChecked None m P → P m
as_it_is m P w = subst P w.is_seen w.holds

-- no derivation leads to the crate
pub unreachable : AreComplete → (m : MetadataModel) (s : SettingModel) (facts : List Fact) (id : Id) → IsClosedFor m s facts → LackCrate facts id → IsUnreachable m s id
unreachable complete m s facts id closed lack = record {
  ids = closed.ids;
  admitted = closed.admitted;
  holds = record {
    graph = closed.holds.graph;
    has_graph = closed.holds.has_graph;
    holds = λ derived. lack (complete (resolved m closed.holds.graph) s facts closed.holds.holds (Crate id) derived);
  };
}
