use Rattle.std.proofs.Common.{◌≡◌, true, arith, refl, rules, inl, inr}
use Rattle.krates_cm.specs.Document.{DependencyModel, dependency_view}
use Rattle.krates_rules.specs.DeclaredDependency.{declared_name}
use Rattle.krates_rules.proofs.Elements.{contains_read}
use Rattle.krates_rules.proofs.Seen.{each_seen}
use Rattle.krates_build_tables.proofs.package_names.declares.Goals as goal

pub returns : goal.returns
returns c = (
  λ t. absurd cc,
  λ h. absurd (each_seen dependency_view (λ (dep : DependencyModel). declared_name dep ≡ c.args.name.now → (c.args.only_optional ≡ true → dep.optional ≡ true) → ⊥) c.args.deps.now c.args.deps.now c.loop-dep.dep-index refl (omega arith) c.loop-dep.invariant h.dep h.among h.named h.optional),
)

pub returns-then-eq : goal.returns-then-eq
returns-then-eq c =
    let dep = c.dep-item.result in (
      λ t. record {
        dep = dependency_view dep;
        among = contains_read dependency_view c.args.deps.now c.loop-dep.dep-index dep (omega arith) c.dep-item.is;
        named = search rules;
        optional = elim c.if-not-only_optional.either [ inl e ↦ λ only. e | inr e ↦ λ only. absurd cc ];
      },
      λ h. refl,
    )
