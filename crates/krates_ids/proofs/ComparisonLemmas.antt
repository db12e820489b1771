-- Laws of comparing ids.
use Rattle.std.proofs.Common.{◌≡◌, ◌↔◌, true, refl, sym, ◌∙◌, rules}
use Rattle.std.specs.Cmp.{IsTotalOrder, Equal-is}
use Rattle.std.specs.Cmp.Lexicographic.{bytes_decides}
use Rattle.std.specs.Cmp.Rules.{comparing}
use Rattle.std.specs.Ordering.{eq_by_cmp}
use Rattle.std.specs.declared.cmp.Ordering.TheVariants.{Equal}
use Rattle.std.proofs.lemmas.Cmp.{then_total, on_total, nat_list_cmp_total}
use Rattle.krates_ids.specs.Identity.{Identity, IsSameId, same_id, id_cmp, id_hash_input}
use Rattle.krates_ids.proofs.EscapesLemmas.{both_true}

same_id-true : (a b : Identity) → same_id a b ≡ true → IsSameId a b
same_id-true a b e =
    let first = both_true _ _ e in
    let more = both_true _ _ first.1 in
    record { name = (bytes_decides a.name b.name).0 first.0; version = (bytes_decides a.version b.version).0 more.0; source = (bytes_decides a.source b.source).0 more.1 }

same_id-refl : (a : Identity) → same_id a a ≡ true
same_id-refl a =
    rw ((bytes_decides a.name a.name).1 refl, (bytes_decides a.version a.version).1 refl, (bytes_decides a.source a.source).1 refl) refl

pub id_hash_input-same : (a b : Identity) → IsSameId a b → id_hash_input a ≡ id_hash_input b
id_hash_input-same a b same = rw (same.name, same.version, same.source) refl

same_id-from_same : (a b : Identity) → IsSameId a b → same_id a b ≡ true
same_id-from_same a b same = rw (same.name, same.version, same.source) (same_id-refl b)

pub same_id-iff : (a b : Identity) → (same_id a b ≡ true) ↔ IsSameId a b
same_id-iff a b = (same_id-true a b, same_id-from_same a b)

id_cmp-ties : (a b : Identity) → same_id a b ≡ eq_by_cmp id_cmp a b
id_cmp-ties = search (comparing, rules) depth 9

pub id_cmp-Equal : (a b : Identity) → (id_cmp a b ≡ Equal) ↔ IsSameId a b
id_cmp-Equal a b = (
  λ e. same_id-true a b (id_cmp-ties a b ∙ (Equal-is (id_cmp a b)).1 e),
  λ same. (Equal-is (id_cmp a b)).0 (sym (id_cmp-ties a b) ∙ same_id-from_same a b same),
)

pub id_cmp-total : IsTotalOrder id_cmp
id_cmp-total =
    then_total (on_total (λ id. id.name) nat_list_cmp_total) (then_total (on_total (λ id. id.version) nat_list_cmp_total) (on_total (λ id. id.source) nat_list_cmp_total))
