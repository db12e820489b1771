use Rattle.std.proofs.Common.{◌≡◌, ℕ, List, length, get_or, ◌<◌, map, option_map, refl, sym, ap, ◌∙◌, subst, arith, slice_get}
use Rattle.std.proofs.lemmas.List.{length-map}
use Rattle.std.proofs.lemmas.Option.{slice_get-map, slice_get_read}
use Rattle.krates_ids.specs.Identity.{Identity}
use Rattle.krates_rules.specs.Resolved.{id_of}
use Rattle.krates_build_tables.specs.Builds.{ids_in, resolved_in, setting_in}
use Rattle.krates_build_tables.specs.CrateParts.{AreCrates}
use Rattle.krates_build_tables.specs.TablesOf.{CrateAt}
use Rattle.krates_build_tables.proofs.CrateNumbers.{request_at, requests_long}
use Rattle.krates_build_tables.proofs.Entries.{crates_more}
use Rattle.krates_build_tables.proofs.tables_of.crates_of.Goals as goal

-- the id that the code reads is that of the number
id_there : (all ids : List Identity) (n : ℕ) (i : Identity) → ids ≡ all → n < length ids → i ≡ get_or ids n i → CrateAt (map id_of all) n (id_of i)
id_there all ids n i same lt is =
    let here = slice_get_read ids (length ids) n i refl lt is in
    slice_get-map id_of all n ∙ ap (option_map id_of) (ap (λ xs. slice_get xs n) (sym same) ∙ here)

pub bounds-requests-number : goal.bounds-requests-number
bounds-requests-number c =
    let b = c.args.build.now in
    let long = requests_long (resolved_in b) (setting_in b) (ids_in b) c.args.requests.now c.requires.requests in
    let same = ap length c.crate_ids-ids.ensures in
    omega (arith, long, same, length-map b.document.now.ids.now.table.ids.items id_of)

pub entry_of-requires-clause-request : goal.entry_of-requires-clause-request
entry_of-requires-clause-request c =
    let b = c.args.build.now in
    let n = c.loop-number.number in
    let long = requests_long (resolved_in b) (setting_in b) (ids_in b) c.args.requests.now c.requires.requests in
    let same = ap length c.crate_ids-ids.ensures in
    let below : n < length c.args.requests.now = omega (arith, long, same, length-map b.document.now.ids.now.table.ids.items id_of) in
    let at = id_there b.document.now.ids.now.table.ids.items c.crate_ids-ids.result.now n c.index-ids-number.result c.crate_ids-ids.ensures c.loop-number-test.true c.index-ids-number.is in
    request_at (resolved_in b) (setting_in b) (ids_in b) c.args.requests.now n (id_of c.index-ids-number.result) c.index-requests-number.result c.requires.requests at
    (slice_get_read c.args.requests.now (length c.args.requests.now) n c.index-requests-number.result refl below c.index-requests-number.is)

pub loop-number-preserved : goal.loop-number-preserved
loop-number-preserved c =
    let b = c.args.build.now in
    let n = c.loop-number.number in
    let at = id_there b.document.now.ids.now.table.ids.items c.crate_ids-ids.result.now n c.index-ids-number.result c.crate_ids-ids.ensures c.loop-number-test.true c.index-ids-number.is in
    rw c.in_ok-push.ensures (crates_more b n c.loop-number.crates.items (id_of c.index-ids-number.result) c.in_ok-entry.entry at c.in_ok-entry.ensures c.loop-number.invariant)

pub returns : goal.returns
returns c =
    let b = c.args.build.now in
    let same = ap length c.crate_ids-ids.ensures in
    let n : c.loop-number.number ≡ length (ids_in b) = omega (arith, same, length-map b.document.now.ids.now.table.ids.items id_of) in
    subst (λ (m : ℕ). AreCrates b m c.loop-number.crates.items) n c.loop-number.invariant
