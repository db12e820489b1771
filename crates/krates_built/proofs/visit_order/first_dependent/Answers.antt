use Rattle.std.proofs.Common.{◌≡◌, false, List, Some, length, arith, refl, ap, ◌∙◌, subst}
use Rattle.std.proofs.lemmas.Option.{slice_get_read, slice_get_within}
use Rattle.std.specs.List.{slice_get}
use Rattle.krates_build_tables.specs.declared.tables.CrateEntry.{CrateEntry}
use Rattle.krates_build_tables.specs.declared.tables.Tables.{Tables}
use Rattle.krates_built.proofs.PlacesRead.{none_more}
use Rattle.krates_built.proofs.visit_order.first_dependent.Goals as goal

pub returns-then-depends : goal.returns-then-depends
returns-then-depends c =
    let items = c.deref-entry-items.result.now in
    let n = c.loop-krate.krate in
    let e = c.entry-item.result in
    let same = c.deref-entry-items.ensures.value ∙ ap (λ (t : Tables). t.crates.items) c.tables-tables.ensures in
    record {
      depends = record {
        later = subst (λ (t : Tables). t.is_first ≡ false) c.tables-tables.ensures c.if-tables.false;
        entry = e;
        at = subst (λ (es : List CrateEntry). slice_get es n ≡ Some e) same (slice_get_read items (length items) n e refl c.loop-krate-test.true c.entry-item.is);
        depends = c.depends.ensures.0 c.if-depends.true;
      };
      first = c.loop-krate.invariant;
    }

pub loop-krate-preserved : goal.loop-krate-preserved
loop-krate-preserved c =
    let items = c.deref-entry-items.result.now in
    let n = c.loop-krate.krate in
    let e = c.entry-item.result in
    let same = c.deref-entry-items.ensures.value ∙ ap (λ (t : Tables). t.crates.items) c.tables-tables.ensures in
    none_more c.args.listed.now.derived n e (subst (λ (es : List CrateEntry). slice_get es n ≡ Some e) same (slice_get_read items (length items) n e refl c.loop-krate-test.true c.entry-item.is))
    (λ d. absurd (let yes = c.depends.ensures.1 d in let isnt = c.if-depends.false in cc)) c.loop-krate.invariant

pub returns : goal.returns
returns c =
    let same = c.deref-entry-items.ensures.value ∙ ap (λ (t : Tables). t.crates.items) c.tables-tables.ensures in
    λ k h. c.loop-krate.invariant k (omega (arith, slice_get_within c.args.listed.now.derived.crates.items k h.entry h.at, ap length same, c.loop-krate-test.false)) h
