use Rattle.krates_cm.proofs.CopyLemmas.{same_items, same_texts}
use Rattle.krates_cm.proofs.copies.TargetClone.clone.Goals as goal

pub returns : goal.returns
returns c =
    let named = c.in_ok-named.ensures in
    record {
      cases = λ i. record {
        name = named.0 i;
        kind = same_items c.args.self.now.kind.items c.in_ok-named.named.1.items named.1.0 i;
        crate_types = same_items c.args.self.now.crate_types.items c.in_ok-named.named.2.items named.2.0 i;
        required_features = same_texts c.args.self.now.required_features c.in_ok-named.named.3 named.3 i;
        src_path = c.in_ok-src_path.ensures.cases i;
        edition = c.args.self.now.edition;
        doctest = c.args.self.now.doctest;
        test = c.args.self.now.test;
        doc = c.args.self.now.doc;
      };
    }
