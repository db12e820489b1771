-- The order of kinds and targets: two compare as equal exactly where they are the same.
use Rattle.std.proofs.Common.{◌≡◌, Equal, refl, ap}
use Rattle.krates_cm.specs.Document.{DepKindInfoModel}
use Rattle.krates_search.specs.Found.{kind_cmp, kind_view}
use Rattle.krates_search.specs.declared.found.KindKey.{KindKey}
use Rattle.krates_rules.proofs.KeyOrder.{equal_then, kind_tells, option_tells, then_equal}

-- keys that compare as equal are the same kind and target
pub kind_to : (a b : KindKey) → kind_cmp a b ≡ Equal → kind_view a ≡ kind_view b
kind_to a b h =
    let w = then_equal _ _ h in
    let k = (kind_tells a.kind b.kind).0 w.0 in
    let t = (option_tells a.target.now b.target.now).0 w.1 in
    rw (k, t) refl

-- and keys of the same compare as equal
pub kind_from : (a b : KindKey) → kind_view a ≡ kind_view b → kind_cmp a b ≡ Equal
kind_from a b e =
    let k = (kind_tells a.kind b.kind).1 (ap (λ (x : DepKindInfoModel). x.kind) e) in
    let t = (option_tells a.target.now b.target.now).1 (ap (λ (x : DepKindInfoModel). x.target) e) in
    equal_then _ _ k t
