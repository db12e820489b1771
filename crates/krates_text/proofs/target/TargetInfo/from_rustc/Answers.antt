use Rattle.krates_text.proofs.target.TargetInfo.from_rustc.Goals as goal

pub returns : goal.returns
returns c =
    let first = c.in_ok-arch.ensures in
    let second = c.in_ok-vendor.ensures in
    record {
      described = record {
        triple = c.in_ok-from_str.ensures.ok;
        arch = first.0;
        os = first.1;
        env = first.2;
        abi = first.3;
        vendor = second.0;
        pointer_width = second.1;
        endian = second.2;
        panic = second.3;
        families = c.in_ok-families.ensures;
        atomics = c.in_ok-atomics.ensures;
        features = c.in_ok-features.ensures;
      };
    }
