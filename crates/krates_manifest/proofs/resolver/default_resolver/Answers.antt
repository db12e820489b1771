use Rattle.std.proofs.Common.{inl, sym}
use Rattle.krates_manifest.proofs.resolver.default_resolver.Goals as goal
use Rattle.toml.specs.View.{view}

pub returns-in_ok-pkg-in-Some : goal.returns-in_ok-pkg-in-Some
returns-in_ok-pkg-in-Some c = inl (record {
  value = view c.in-Some.field-0.now;
  said = sym c.in-Some.ensures;
  pkg = c.in_ok-pkg-in-Some.pkg.now;
  found = c.in_ok-pkg-in-Some.ensures;
  is = c.edition_resolver.ensures;
})
