-- What says the numbers of ids can hold in one way only.
use Rattle.std.specs.Prelude.{List, [], ◌∷◌, map, ℕ, Option, None, Some}
use Rattle.std.proofs.Props.{props}
use Rattle.std.specs.Coded.{×_prop, Unit-prop}
use Rattle.std.specs.List.{AllZip}
use Rattle.krates_ids.specs.Identity.{Identity}
use Rattle.krates_rules.specs.Admission.{IdsModel}
use Rattle.krates_rules.specs.Facts.{Id}
use Rattle.krates_rules.specs.Resolved.{id_of}
use Rattle.krates_document.specs.CrateTable.{AreNumbersOf, IsNumberOf, IsTable, numbers_in}
use Rattle.krates_document.specs.declared.crate_table.CrateTable.{CrateTable}

-- lists that are related item by item, where that can be in one way only
zip_once : {A B : Type 0} (R : A → B → Type 0) → ((x : A) (y : B) → IsProp (R x y)) → (xs : List A) (ys : List B) → IsProp (AllZip R xs ys)
zip_once R once [] [] = Unit-prop
zip_once R once [] (y ∷ ys) = hlevel props
zip_once R once (x ∷ xs) [] = hlevel props
zip_once R once (x ∷ xs) (y ∷ ys) = ×_prop (once x y) (zip_once R once xs ys)

number_once : (ids : List Id) (i : Id) (answer : Option ℕ) → IsProp (IsNumberOf ids i answer)
number_once ids i None = hlevel props
number_once ids i (Some n) = hlevel props

pub numbers_once : (ids : List Id) (list : List Identity) (numbers : List (Option ℕ)) → IsProp (AreNumbersOf ids list numbers)
numbers_once ids list numbers = zip_once (IsNumberOf ids) (number_once ids) (map id_of list) numbers

-- the table is that of the ids
pub table_once : (ids : IdsModel) (t : CrateTable) → IsProp (IsTable ids t)
table_once ids t =
    let all = map id_of t.ids.items in
    let nodes = numbers_once all ids.nodes t.node_numbers.items in
    let deps = zip_once (AreNumbersOf all) (numbers_once all) ids.deps (numbers_in t.dep_numbers) in
    hlevel (nodes, deps, number_once, props)
