use Rattle.std.proofs.Common.{All, Bor, Contains, Global, List, ap, map, string_bytes, subst, ◌∙◌}
use Rattle.krates_cm.specs.declared.package.Package.{Package}
use Rattle.krates_answers.specs.PackageText.{named}
use Rattle.krates_answers.proofs.meaning.Packages.unknown.Goals as goal

pub returns : goal.returns
returns c = (
  c.in_ok-word.ensures.ok,
  subst (λ (all : List Package). All (Contains (map named all)) (map (string_bytes {Z = Global}) c.in_ok-near.near.items))
      (ap (map (λ (pkg : Bor Package). pkg.now)) c.deref.ensures.value ∙ c.in_ok-all.ensures) c.in_ok-near.ensures,
)
