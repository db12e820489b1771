use Rattle.std.proofs.Common.{◌≡◌, ◌+◌, ◌∷◌, [], ◌++◌, rules, refl, sym, subst, take, arith}
use Rattle.std.specs.List.{AllZip}
use Rattle.krates_cm.specs.Document.{text_view}
use Rattle.krates_rules.specs.Resolved.{id_of}
use Rattle.krates_selection.proofs.ByNumber.{all_item, zip_more, zip_whole}
use Rattle.krates_selection.specs.KeptTables.{kids_in}
use Rattle.krates_selection.specs.Selection.{id_at}
use Rattle.krates_selection.specs.declared.selection.ToggledFeature.{ToggledFeature}
use Rattle.krates_search.proofs.KeptLists.{toggled_in_order}
use Rattle.krates_search.specs.KeptLists.{HasKeptCrates, IsToggleCopy}
use Rattle.krates_search.proofs.kept_lists.kept_toggled.Goals as goal

pub crate_at-by-requires : goal.crate_at-by-requires
crate_at-by-requires c =
    let t = c.toggle-item.result in
    let kept = all_item (HasKeptCrates c.args.tables.now.context (kids_in c.args.tables.now)) c.args.found.now c.loop-toggle.toggle-index t c.requires.kept c.loop-toggle-test.true c.toggle-item.is in
    record { kept = record { krate = id_of t.by.now; node = kept.by; kept = kept.by_kept } }

pub crate_at-krate-requires : goal.crate_at-krate-requires
crate_at-krate-requires c =
    let t = c.toggle-item.result in
    let kept = all_item (HasKeptCrates c.args.tables.now.context (kids_in c.args.tables.now)) c.args.found.now c.loop-toggle.toggle-index t c.requires.kept c.loop-toggle-test.true c.toggle-item.is in
    record { kept = record { krate = id_of t.krate.now; node = kept.krate; kept = kept.krate_kept } }

pub loop-toggle-preserved : goal.loop-toggle-preserved
loop-toggle-preserved c =
    let kids = kids_in c.args.tables.now in
    let i = c.loop-toggle.toggle-index in
    let found = c.args.found.now in
    let t = c.toggle-item.result in
    let kept = all_item (HasKeptCrates c.args.tables.now.context kids) found i t c.requires.kept c.loop-toggle-test.true c.toggle-item.is in
    let k : ToggledFeature = record { by = c.crate_at-by.result; krate = c.crate_at-krate.result; name = c.in_ok-name.name } in
    let p : id_at kids c.crate_at-by.result ≡ id_of t.by.now = c.crate_at-by.ensures.is (id_of t.by.now) kept.by in
    let q : id_at kids c.crate_at-krate.result ≡ id_of t.krate.now = c.crate_at-krate.ensures.is (id_of t.krate.now) kept.krate in
    let name : text_view c.in_ok-name.name ≡ t.name.now = search rules in
    let copy : IsToggleCopy kids t k = record { fact = rw (p, q, name) refl; crates = record { by = c.crate_at-by.ensures.below; krate = c.crate_at-krate.ensures.below } } in
    let pushed : c.push.new.self.items ≡ c.loop-toggle.toggled.items ++ k ∷ [] = search rules in
    subst (AllZip (IsToggleCopy kids) (take (i + 1) found)) (sym pushed) (zip_more (IsToggleCopy kids) found i t c.loop-toggle.toggled.items k c.loop-toggle-test.true c.toggle-item.is copy c.loop-toggle.invariant)

pub returns : goal.returns
returns c =
    let kids = kids_in c.args.tables.now in
    let copied = zip_whole (IsToggleCopy kids) c.args.found.now c.loop-toggle.toggle-index c.loop-toggle.toggled.items (omega arith) c.loop-toggle.invariant in
    toggled_in_order kids c.args.found.now c.loop-toggle.toggled.items c.in_ok-sorted.sorted.items copied record {
      ascending = c.in_ok-sorted.ensures.ascending;
      from = c.in_ok-sorted.ensures.from;
      each = c.in_ok-sorted.ensures.kept;
    }
