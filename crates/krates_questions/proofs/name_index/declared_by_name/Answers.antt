use Rattle.std.proofs.Common.{List, arith, subst}
use Rattle.std.proofs.lemmas.List.{map-append}
use Rattle.krates_cm.specs.Document.{dependency_view, package_view}
use Rattle.krates_cm.specs.declared.dependency.Dependency.{Dependency}
use Rattle.krates_rules.specs.DeclaredDependency.{declared_name}
use Rattle.krates_document.specs.DeclaredPlaces.{target_key}
use Rattle.krates_document.specs.NamedPlaces.{AreNamed}
use Rattle.krates_document.proofs.NamedPlaces.{named_seen}
use Rattle.krates_rules.proofs.Zips.{zip_next, zip_all}
use Rattle.krates_questions.specs.NameIndex.{AreDeclaredIn, lists_in}
use Rattle.krates_questions.proofs.name_index.declared_by_name.Goals as goal

pub loop-pkg-preserved : goal.loop-pkg-preserved
loop-pkg-preserved c =
    let l = c.loop-pkg in
    let x = c.pkg-item.result in
    let list = c.in_ok-named_places.field-0 in
    let named = named_seen dependency_view declared_name (λ d. target_key d.target) x.dependencies.items list.items
    (subst (λ (ds : List Dependency). AreNamed (λ d. declared_name (dependency_view d)) (λ d. target_key (dependency_view d).target) ds list.items) c.deref.ensures.value c.in_ok-named_places.ensures) in
    rw (c.in_ok-push.ensures.items, map-append) (zip_next AreDeclaredIn package_view c.args.packages.now l.pkg-index x (lists_in l.lists) list.items (omega arith) c.pkg-item.is named l.invariant)

pub returns : goal.returns
returns c = zip_all AreDeclaredIn package_view c.args.packages.now c.loop-pkg.pkg-index (lists_in c.loop-pkg.lists) (omega arith) c.loop-pkg.invariant
