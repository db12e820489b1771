-- The lists of ids that are read of a document, as clauses see them. Their order and numbers are facts of a type: so nothing here may name that type.
use Rattle.std.specs.Prelude.{List, Option, map}
use Rattle.semver.specs.Identifiers.{parts_of}
use Rattle.semver.specs.declared.Version.{Version}
use Rattle.std.specs.Global.{Vec}
use Rattle.krates_cm.specs.Document.{VersionModel}
use Rattle.krates_ids.specs.Identity.{Identity}
use Rattle.krates_rules.specs.Admission.{IdsModel}

-- lists of ids
abbrev pub kids_in : Vec (Vec Identity) → List (List Identity)
kids_in lists = map (λ (kids : Vec Identity). kids.items) lists.items

-- lists of versions
abbrev pub versions_in : Vec (Vec Version) → List (List VersionModel)
versions_in lists = map (λ (versions : Vec Version). map parts_of versions.items) lists.items

-- those of packages, members, root, nodes and dependencies, with the versions of these
abbrev pub ids_model : Vec Identity → Vec Identity → Option Identity → Vec Identity → Vec (Vec Identity) → Vec (Vec Version) → IdsModel
ids_model packages members root nodes deps versions = record {
  packages = packages.items;
  members = members.items;
  root = root;
  nodes = nodes.items;
  deps = kids_in deps;
  versions = versions_in versions;
}
