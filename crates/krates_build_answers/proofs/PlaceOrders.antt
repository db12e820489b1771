-- The orders of places tell all apart.
use Rattle.std.proofs.Common.{◌≡◌, ℕ, Equal, refl}
use Rattle.std.proofs.lemmas.Map.Lookups.{exact_unsigned}
use Rattle.krates_rules.proofs.KeyOrder.{then_equal}
use Rattle.krates_rules.specs.contracts.kind.DepKindOrd.TheImpl as kind_order
use Rattle.krates_rules.specs.declared.kind.DepKind.TheVariants as kinds
use Rattle.krates_build_facts.specs.contracts.facts.PlatformNumberOrd.TheImpl as platform_order
use Rattle.krates_build_facts.specs.declared.facts.PlatformNumber.{PlatformNumber}
use Rattle.krates_build_facts.specs.declared.facts.PlatformNumber.TheVariants as platforms
use Rattle.krates_build_answers.specs.Orders.{TellsApart, built_cmp, link_cmp}
use Rattle.krates_build_answers.specs.declared.built_crates.BuiltCrate.{BuiltCrate}
use Rattle.krates_build_answers.specs.declared.links.BuildLink.{BuildLink}

platforms_apart : TellsApart (platform_order.ghosts).cmp
platforms_apart platforms.Host platforms.Host h = refl
platforms_apart platforms.Host (platforms.Machine k) h = absurd cc
platforms_apart (platforms.Machine j) platforms.Host h = absurd cc
platforms_apart (platforms.Machine j) (platforms.Machine k) h = rw (exact_unsigned j k h) refl

pub built_apart : TellsApart built_cmp
built_apart x y h =
    let w = then_equal _ _ h in
    let krate = exact_unsigned x.krate y.krate w.0 in
    let platform = platforms_apart x.platform y.platform w.1 in
    λ z. record { krate = krate z; platform = platform z }

kinds_apart : TellsApart (kind_order.ghosts).cmp
kinds_apart kinds.Normal kinds.Normal h = refl
kinds_apart kinds.Normal kinds.Build h = absurd cc
kinds_apart kinds.Normal kinds.Dev h = absurd cc
kinds_apart kinds.Build kinds.Normal h = absurd cc
kinds_apart kinds.Build kinds.Build h = refl
kinds_apart kinds.Build kinds.Dev h = absurd cc
kinds_apart kinds.Dev kinds.Normal h = absurd cc
kinds_apart kinds.Dev kinds.Build h = absurd cc
kinds_apart kinds.Dev kinds.Dev h = refl

pub links_apart : TellsApart link_cmp
links_apart x y h =
    let w = then_equal _ _ h in
    let v = then_equal _ _ w.1 in
    let from = built_apart x.from y.from w.0 in
    let to = built_apart x.to y.to v.0 in
    let kind = kinds_apart x.kind y.kind v.1 in
    λ z. record { from = from z; to = to z; kind = kind z }
