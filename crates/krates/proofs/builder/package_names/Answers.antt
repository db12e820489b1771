use Rattle.std.proofs.Common.{rules, ◌≡◌, Bool, true, false, cond, ◌||◌, refl, string_bytes}
use Rattle.std.specs.BTreeSet.{contains_text}
use Rattle.std.specs.Str.{bytes_eq}
use Rattle.std.proofs.lemmas.List.Folds.{list_any_more}
use Rattle.std.proofs.lemmas.Map.Text.{btree_set_updates_text}
use Rattle.krates.proofs.builder.package_names.Goals as goal

-- an added name is found, and any other is as before
added_or_before : (b x : Bool) → cond b true x ≡ (x || b)
added_or_before true true = refl
added_or_before true false = refl
added_or_before false true = refl
added_or_before false false = refl

pub loop-pkg-preserved : goal.loop-pkg-preserved
loop-pkg-preserved c t =
    let more = list_any_more (λ p. bytes_eq (string_bytes p.name) t) c.args.packages.now c.loop-pkg.pkg-index c.pkg-item.result (search rules) in
    let found = btree_set_updates_text _ _ _ _ c.in_ok-insert.ensures.updates t in
    let same : string_bytes c.in_ok-clone.field-0 ≡ string_bytes c.pkg-item.result.name = search rules in
    let step = added_or_before (bytes_eq (string_bytes c.in_ok-clone.field-0) t) (contains_text c.loop-pkg.names t) in
    let before = c.loop-pkg.invariant t in
    let item = c.pkg-item.is in
    cc
