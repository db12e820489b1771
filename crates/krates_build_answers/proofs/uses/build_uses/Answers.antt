use Rattle.std.proofs.Common.{◌↔◌, ℕ, List, Contains, sym, ◌∙◌, subst}
use Rattle.std.specs.List.Sorted.{IsStrictlySortedBy}
use Rattle.std.specs.Ordering.{nat_cmp}
use Rattle.krates_build_answers.specs.BuiltCrates.{IsAmong}
use Rattle.krates_build_answers.proofs.uses.build_uses.Goals as goal

pub returns : goal.returns
returns c =
    let same = sym (c.in_ok-uses.ensures.krates ∙ c.deref.ensures.value) in
    record {
      ascending = subst (IsStrictlySortedBy nat_cmp) same c.in_ok-krates.ensures.ascending;
      exactly = λ k. subst (λ (ns : List ℕ). Contains ns k ↔ IsAmong k c.args.with_all.now) same (c.in_ok-krates.ensures.exact k);
      each = c.in_ok-uses.ensures.uses;
    }
