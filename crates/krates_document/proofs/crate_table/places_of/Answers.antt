use Rattle.std.proofs.Common.{◌≡◌, ◌<◌, ℕ, None, Option, Some, ap, arith, get_or, slice_get, sym, ◌∙◌}
use Rattle.std.proofs.lemmas.List.{get_or_default}
use Rattle.std.proofs.lemmas.Option.{slice_get-get_or}
use Rattle.krates_document.proofs.NumberedPlaces.{doubled_whole, places_again, places_more, places_same, places_whole}
use Rattle.krates_document.proofs.crate_table.places_of.Goals as goal
use Rattle.krates_document.proofs.crate_table.places_of.Goals.{in-Some+in-None, in-Some+in-Some-index, in_default}

pub loop-place-preserved : goal.loop-place-preserved
loop-place-preserved c =
    let l = c.loop-place in
    let numbers = c.args.numbers.now in
    let places = l.places.items in
    let here : (o : Option ℕ) → get_or numbers l.place None ≡ o → slice_get numbers l.place ≡ Some o = λ o is. slice_get-get_or numbers l.place None (omega arith) ∙ ap (λ (x : Option ℕ). Some x) is in
    let stored : (n : ℕ) (x : Option ℕ) → n < c.args.count → x ≡ get_or places n x → get_or places n None ≡ x = λ n x low is. get_or_default places n None x (omega (arith, low, l.invariant.long)) ∙ sym is in
    elim c.match-number.branch [
      | in-Some+in-None w ↦ (
          let n = w.in-Some.number in
          let there = here (Some n) w.in-Some.is in
          let low = c.requires l.place n there in
          rw (w.places-is, w.doubled-is) (places_more c.args.count numbers l.place n places l.doubled low there (stored n w.index.result.now low w.index.ensures ∙ w.in-None.is) l.invariant))
      | in-Some+in-Some-index w ↦ (
          let n = w.in-Some.number in
          let there = here (Some n) w.in-Some.is in
          let low = c.requires l.place n there in
          rw (w.places-is, w.doubled-is, w.or-doubled.ensures) (places_again c.args.count numbers l.place n w.in-Some-index.field-0 places l.doubled low there (stored n w.index.result.now low w.index.ensures ∙ w.in-Some-index.is) l.invariant))
      | in_default w ↦ rw (w.places-is, w.doubled-is) (places_same c.args.count numbers l.place places l.doubled (here None w.in_default.is) l.invariant)
    ]

pub returns-clause-places : goal.returns-clause-places
returns-clause-places c = places_whole c.args.count c.args.numbers.now c.loop-place.place c.loop-place.places.items c.loop-place.doubled (omega arith) c.loop-place.invariant

pub returns-clause-doubled : goal.returns-clause-doubled
returns-clause-doubled c = doubled_whole c.args.numbers.now c.loop-place.place c.loop-place.doubled (omega arith) c.loop-place.invariant.again

pub index-requires : goal.index-requires
index-requires c =
    let number = slice_get-get_or c.args.numbers.now c.loop-place.place None c.loop-place-test.true ∙ ap (λ (x : Option ℕ). Some x) c.in-Some.is in
    omega (arith, c.requires c.loop-place.place c.in-Some.number number)

pub index_mut-requires : goal.index_mut-requires
index_mut-requires c =
    let number = slice_get-get_or c.args.numbers.now c.loop-place.place None c.loop-place-test.true ∙ ap (λ (x : Option ℕ). Some x) c.in-Some.is in
    omega (arith, c.requires c.loop-place.place c.in-Some.number number)
