use Rattle.std.proofs.Common.{◌≡◌, ℕ, refl, sym, subst, option_map}
use Rattle.krates_queries.specs.Numbers.{IsNumberIn}
use Rattle.krates_drawing.specs.Node.{crate_ids}
use Rattle.krates_rules.proofs.OrderedIds.{stands_within}
use Rattle.krates_rules.specs.Resolved.{id_of}
use Rattle.krates_queries.proofs.numbers.number_in.Goals as goal

pub crate_or_feature_number-requires-clause-stands : goal.crate_or_feature_number-requires-clause-stands
crate_or_feature_number-requires-clause-stands g c =
    stands_within (crate_ids c.args.nodes.now) (id_of c.args.kid.now) c.in-Some.krate ((c.in-Some.ensures c.in-Some.krate).0 refl)

pub returns-in-Some : goal.returns-in-Some
returns-in-Some g c n = (
  λ e. record { number = c.in-Some.krate; stands = (c.in-Some.ensures c.in-Some.krate).0 refl; is = (c.crate_or_feature_number.ensures n).0 e },
  λ h.
      (let same : c.in-Some.krate ≡ h.number = cc ((c.in-Some.ensures h.number).1 h.stands) in
      (c.crate_or_feature_number.ensures n).1 (subst (λ (k : ℕ). IsNumberIn c.args.nodes.now k (option_map (λ name. name.now) c.args.feature) n) (sym same) h.is)),
)

pub returns-in-None : goal.returns-in-None
returns-in-None g c n = (
  λ e. absurd cc,
  λ h. (let none = (c.in-None.ensures h.number).1 h.stands in absurd cc),
)
