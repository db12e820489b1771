-- The table in the program is the table of the definition.
use Rattle.std.proofs.Common.{◌≡◌, ℕ, List, [], ◌∷◌, refl, ap, ◌∙◌, inl, inr, map}
use Rattle.std.specs.Prelude.{Option, Some, None, find}
use Rattle.std.specs.Option.{option_map, option_copied}
use Rattle.std.specs.Borrow.{Bor}
use Rattle.std.specs.Str.{bytes_eq}
use Rattle.std.proofs.lemmas.Bool.{cases_Bool}
use Rattle.krates_text.specs.declared.target.Row.{Row}
use Rattle.krates_text.specs.TableRow.{described}

find-described : (rows : List Row) (triple : List ℕ) → option_map described (find (λ row. bytes_eq row.triple.now triple) rows) ≡ find (λ d. bytes_eq d.triple triple) (map described rows)
find-described [] triple = refl
find-described (row ∷ rows) triple = elim (cases_Bool (bytes_eq row.triple.now triple)) [
  | inl e ↦ rw e refl
  | inr e ↦ rw e (find-described rows triple)
]

described_copied : (r : Option (Bor Row)) → option_map (λ row. described row.now) r ≡ option_map described (option_copied r)
described_copied None = refl
described_copied (Some row) = refl

-- the row that is found
pub row_found : (rows : List Row) (triple : List ℕ) (r : Option (Bor Row)) → option_copied r ≡ find (λ row. bytes_eq row.triple.now triple) rows → option_map (λ row. described row.now) r ≡ find (λ d. bytes_eq d.triple triple) (map described rows)
row_found rows triple r e = described_copied r ∙ ap (option_map described) e ∙ find-described rows triple
