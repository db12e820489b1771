use Rattle.std.proofs.Common.{map, take}
use Rattle.std.specs.List.{AllZip}
use Rattle.semver.specs.Identifiers.{parts_of}
use Rattle.krates_cm.specs.Document.{id_view}
use Rattle.krates_ids.specs.Identity.{Reads}
use Rattle.krates_rules.specs.Admission.{HasThisVersion}
use Rattle.krates_document.proofs.admission.read_dep_ids.Given as goal

-- the ids so far are read, and their versions too
abbrev pub invariant-loop-dep : goal.invariant-loop-dep
invariant-loop-dep l = record {
  read : AllZip Reads (map (λ d. id_view d.pkg) (take l.dep-index l.deps)) l.kids.items;
  versions : AllZip HasThisVersion l.kids.items (map parts_of l.versions.items);
}
