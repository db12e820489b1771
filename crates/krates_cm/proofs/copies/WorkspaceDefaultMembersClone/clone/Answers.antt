use Rattle.std.proofs.Common.{◌≡◌, option_map, rules}
use Rattle.krates_cm.specs.Document.{ids_view}
use Rattle.krates_cm.proofs.CopyLemmas.{same_ids}
use Rattle.krates_cm.proofs.copies.WorkspaceDefaultMembersClone.clone.Goals as goal

pub returns : goal.returns
returns c =
    let same : option_map ids_view c.in_ok-clone.field-0 ≡ option_map ids_view c.args.self.now.0 = search (rules, c.in_ok-clone.ensures, same_ids) in
    record { cases = same }
