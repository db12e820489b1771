use Rattle.std.proofs.Common.{◌↔◌, IsTrue, length, refl, sym, subst}
use Rattle.std.proofs.lemmas.Option.{slice_get_read}
use Rattle.krates_cm.specs.Document.{dependency_view}
use Rattle.krates_cm.specs.declared.dependency.Dependency.{Dependency}
use Rattle.krates_document.specs.DeclaredPlaces.{FitsAs}
use Rattle.krates_document.proofs.LeastFitting.{fits_told, none_there}
use Rattle.krates_document.proofs.declared_dependency.fits_at.Goals as goal

pub returns-then-place-wanted : goal.returns-then-place-wanted
returns-then-place-wanted c =
    let ds = c.args.wanted.now.declared.now in
    fits_told c.args.wanted.now c.args.place c.index-wanted-place.result c.fits_as.result (slice_get_read ds (length ds) c.args.place c.index-wanted-place.result refl c.if-place-wanted.true c.index-wanted-place.is)
    (subst (λ (d : Dependency). IsTrue c.fits_as.result ↔ FitsAs c.args.wanted.now (dependency_view d)) (sym c.index-wanted-place.is) c.fits_as.ensures)

pub returns : goal.returns
returns c = (λ t. absurd cc, λ h. absurd (none_there c.args.wanted.now c.args.place c.if-place-wanted.false h))
