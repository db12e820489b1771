use Rattle.std.proofs.Common.{◌≡◌, option_map, rules, string_bytes}
use Rattle.semver.specs.Identifiers.{parts_of}
use Rattle.krates_cm.proofs.CopyLemmas.{same_parts}
use Rattle.krates_ids.proofs.pkgspec.PkgSpecClone.clone.Goals as goal

pub returns : goal.returns
returns c =
    let version : option_map parts_of c.in_ok-clone-2.field-0 ≡ option_map parts_of c.args.self.now.version = search (rules, c.in_ok-clone-2.ensures, same_parts) in
    let url : option_map string_bytes c.in_ok-clone-3.field-0 ≡ option_map string_bytes c.args.self.now.url = search (rules, c.in_ok-clone-3.ensures) in
    record {
      cases = λ i. record {
        name = c.in_ok-clone.ensures.cases i;
        version = version i;
        url = url i;
      };
    }
