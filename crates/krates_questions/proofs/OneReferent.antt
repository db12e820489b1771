-- Where a name doesn't mean all that answer to it, it means at most one crate.
use Rattle.std.proofs.Common.{◌≡◌, ◌≢◌, false, Ordering, Less, Equal, Greater, refl}
use Rattle.std.proofs.lemmas.Cmp.{nat_list_cmp_total, on_total, then_total}
use Rattle.std.proofs.lemmas.Map.Lookups.{exact_bytes}
use Rattle.std.specs.Cmp.{IsTotalOrder}
use Rattle.std.specs.Ordering.{ordering_reverse}
use Rattle.krates_cm.specs.Document.{Text}
use Rattle.krates_rules.proofs.KeyOrder.{then_equal}
use Rattle.krates_rules.specs.Facts.{Id}
use Rattle.krates_rules.specs.Resolved.{Resolved}
use Rattle.krates_rules.specs.Referent.{IsReferent, id_order}

id_order_total : IsTotalOrder id_order
id_order_total = then_total (on_total (λ (i : Id). i.name) nat_list_cmp_total) (then_total (on_total (λ (i : Id). i.version) nat_list_cmp_total) (on_total (λ (i : Id). i.source) nat_list_cmp_total))

neither_greater : (a b : Ordering) → a ≡ ordering_reverse b → a ≢ Greater → b ≢ Greater → a ≡ Equal
neither_greater a Less is not_a not_b = absurd (not_a is)
neither_greater a Equal is not_a not_b = is
neither_greater a Greater is not_a not_b = absurd (not_b refl)

equal_id : (a b : Id) → id_order a b ≡ Equal → a ≡ b
equal_id a b h =
    let w = then_equal _ _ h in
    let v = then_equal _ _ w.1 in
    rw (exact_bytes a.name b.name w.0, exact_bytes a.version b.version v.0, exact_bytes a.source b.source v.1) refl

pub one_referent : (r : Resolved) (i : Id) (name : Text) (a b : Id) → IsReferent r false i name a → IsReferent r false i name b → a ≡ b
one_referent r i name a b x y = equal_id a b (neither_greater (id_order a b) (id_order b a) (id_order_total.antisymm a b) (x.least refl b y.is_named) (y.least refl a x.is_named))
