use Rattle.std.proofs.Common.{◌≡◌, Some, is_some, true, false, bytes_eq, cond, rules, map, ap, ◌∙◌}
use Rattle.krates_cm.specs.Document.{text_view}
use Rattle.krates_build_tables.specs.FeatureLists.{under}
use Rattle.krates_build_tables.proofs.FeatureLemmas.{passed, added, flipped, present_at, absent_at}
use Rattle.krates_build_tables.proofs.features.add_feature.Goals as goal

pub returns-then-contains_key : goal.returns-then-contains_key
returns-then-contains_key c f all left h =
    let key = c.args.name.now in
    let there : is_some (under key c.args.read.now) ≡ true = search rules in
    passed all (bytes_eq f key) (map text_view c.args.values.now) left (under f c.args.read.now) (present_at c.args.read.now f key there) h

pub returns : goal.returns
returns c f all left h =
    let key = c.args.name.now in
    let refs = c.in_ok-references.references in
    let none : is_some (under key c.args.read.now) ≡ false = search rules in
    let put : under f c.put.new.items ≡ cond (bytes_eq key f) (Some refs) (under f c.args.read.now) = c.in_ok-put.ensures f in
    let turned : under f c.put.new.items ≡ cond (bytes_eq f key) (Some refs) (under f c.args.read.now) = put ∙ ap (λ b. cond b (Some refs) (under f c.args.read.now)) (flipped key f) in
    rw turned (added all (bytes_eq f key) (map text_view c.args.values.now) left refs (under f c.args.read.now) c.in_ok-references.ensures (absent_at c.args.read.now f key none) h)
