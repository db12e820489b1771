use Rattle.std.proofs.Common.{◌≡◌, ℕ, List, Option, Some, length, map, slice_get, sym, subst, arith}
use Rattle.std.proofs.lemmas.List.{length-map}
use Rattle.krates_rules.specs.Resolved.{id_of}
use Rattle.krates_document.specs.CrateTable.{ArePlacesOf, TellsDoubled}
use Rattle.krates_document.proofs.NumberedPlaces.{doubled_ids, index_by, numbers_below}
use Rattle.krates_document.proofs.crate_table.index_of.Goals as goal

pub places_of-requires : goal.places_of-requires
places_of-requires c place n at =
    let numbers = c.in_ok-numbers.numbers.items in
    let lt = numbers_below (map id_of c.args.ids.now) c.args.list.now numbers c.in_ok-numbers.ensures place n (subst (λ (xs : List (Option ℕ)). slice_get xs place ≡ Some (Some n)) c.deref.ensures.value at) in
    omega (arith, lt, length-map c.args.ids.now id_of)

pub returns-clause-places : goal.returns-clause-places
returns-clause-places c =
    let ids = map id_of c.args.ids.now in
    let numbers = c.in_ok-numbers.numbers.items in
    let places = c.in_ok-places.places.items in
    let all = subst (λ (ns : List (Option ℕ)). ArePlacesOf (length c.args.ids.now) ns places) c.deref.ensures.value c.in_ok-places.ensures.places in
    index_by ids c.args.list.now numbers places c.requires.numbered c.requires.among c.in_ok-numbers.ensures (subst (λ n. ArePlacesOf n numbers places) (sym (length-map c.args.ids.now id_of)) all)

pub returns-clause-doubled : goal.returns-clause-doubled
returns-clause-doubled c =
    let numbers = c.in_ok-numbers.numbers.items in
    let doubled = c.in_ok-places.doubled in
    doubled_ids (map id_of c.args.ids.now) c.args.list.now numbers doubled c.requires.numbered c.requires.among c.in_ok-numbers.ensures (subst (λ (ns : List (Option ℕ)). TellsDoubled ns doubled) c.deref.ensures.value c.in_ok-places.ensures.doubled)
