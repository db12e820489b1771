use Rattle.std.proofs.Common.{◌↔◌, Bool, IsTrue, sym, subst}
use Rattle.krates_cm.specs.Document.{dependency_view}
use Rattle.krates_document.specs.DeclaredPlaces.{FitsWhere, entry_in, kind_in}
use Rattle.krates_document.proofs.declared_dependency.fits_as.Goals as goal

pub returns-then-wanted : goal.returns-then-wanted
returns-then-wanted c =
    let s = c.args.wanted.now.sought.now in
    subst (λ (b : Bool). IsTrue c.fits_by_source.result ↔ FitsWhere b (entry_in s) (kind_in s) (dependency_view c.args.declared.now)) (sym c.if-wanted.true) c.fits_by_source.ensures

pub returns-else-wanted : goal.returns-else-wanted
returns-else-wanted c =
    let s = c.args.wanted.now.sought.now in
    subst (λ (b : Bool). IsTrue c.fits.result ↔ FitsWhere b (entry_in s) (kind_in s) (dependency_view c.args.declared.now)) (sym c.if-wanted.false) c.fits.ensures
