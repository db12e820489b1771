use Rattle.std.proofs.Common.{◌≡◌, ℕ, Bor, ◌∙◌, arith, rules}
use Rattle.krates_cm.specs.Document.{DependencyModel, dependency_view}
use Rattle.krates_cm.specs.declared.dependency.Dependency.{Dependency}
use Rattle.krates_rules.proofs.Zips.{zip_next, zip_all}
use Rattle.krates_build_tables.specs.TablesOf.{LackingSays}
use Rattle.krates_build_tables.specs.declared.tables.Lacking.{Lacking}
use Rattle.krates_build_tables.proofs.Entries.{placed_push}
use Rattle.krates_build_tables.proofs.lacking.entries_of.Goals as goal

pub loop-declared-preserved : goal.loop-declared-preserved
loop-declared-preserved c =
    let l = c.loop-declared in
    let x = c.entry_of-entry.result in
    rw c.in_ok-push.ensures record {
      says = zip_next (λ (d : DependencyModel) (x : Lacking). LackingSays x d) (λ (d : Bor Dependency). dependency_view d.now) c.args.unresolved.now l.declared-index c.declared-item.result l.entries.items x (omega arith)
          c.declared-item.is c.entry_of-entry.ensures.says l.invariant.says;
      places = placed_push (λ (k : ℕ) (x : Lacking). (x.krate ≡ c.args.number) × (x.index ≡ k)) l.entries.items x l.invariant.places (c.entry_of-entry.ensures.krate, c.entry_of-entry.ensures.index ∙ search rules);
    }

pub returns : goal.returns
returns c = record {
  says = zip_all (λ (d : DependencyModel) (x : Lacking). LackingSays x d) (λ (d : Bor Dependency). dependency_view d.now) c.args.unresolved.now c.loop-declared.declared-index c.loop-declared.entries.items (omega arith)
      c.loop-declared.invariant.says;
  places = c.loop-declared.invariant.places;
}
