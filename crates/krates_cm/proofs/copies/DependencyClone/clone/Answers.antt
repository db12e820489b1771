use Rattle.std.proofs.Common.{◌≡◌, option_map, rules}
use Rattle.krates_cm.specs.Document.{text_view}
use Rattle.krates_cm.proofs.CopyLemmas.{same_requirement, same_texts}
use Rattle.krates_cm.proofs.copies.DependencyClone.clone.Goals as goal

pub returns : goal.returns
returns c =
    let named = c.in_ok-named.ensures in
    let told = c.in_ok-told.ensures in
    let source : option_map text_view c.in_ok-named.named.1 ≡ option_map text_view c.args.self.now.source = search (rules, named.1) in
    let target : option_map text_view c.in_ok-told.told.0 ≡ option_map text_view c.args.self.now.target = search (rules, told.0) in
    let rename : option_map text_view c.in_ok-told.told.1 ≡ option_map text_view c.args.self.now.rename = search (rules, told.1) in
    let registry : option_map text_view c.in_ok-told.told.2 ≡ option_map text_view c.args.self.now.registry = search (rules, told.2) in
    let path : option_map text_view c.in_ok-told.told.3 ≡ option_map text_view c.args.self.now.path = search (rules, told.3) in
    record {
      cases = λ i. record {
        name = named.0 i;
        source = source i;
        req = same_requirement c.args.self.now.req c.in_ok-named.named.2 named.2 i;
        kind = c.args.self.now.kind;
        optional = c.args.self.now.optional;
        uses_default_features = c.args.self.now.uses_default_features;
        features = same_texts c.args.self.now.features c.in_ok-named.named.3 named.3 i;
        target = target i;
        rename = rename i;
        registry = registry i;
        path = path i;
      };
    }
