-- The values of a feature, as they are read one by one.
use Rattle.std.proofs.Common.{◌≡◌, ℕ, ◌<◌, List, length, get_or, map, option_map, Contains, String, Global, string_bytes, refl, ap, ◌∙◌}
use Rattle.std.proofs.lemmas.Option.{slice_get-map, slice_get_read}
use Rattle.krates_cm.specs.Document.{text_view}
use Rattle.krates_rules.proofs.Standings.{contains_at}

-- the value at a place is one of the values
pub value_at : (texts : List (String Global)) (k : ℕ) (text : String Global) → k < length texts → text ≡ get_or texts k text → Contains (map text_view texts) (string_bytes text)
value_at texts k text lt is = contains_at (map text_view texts) k (string_bytes text) (slice_get-map text_view texts k ∙ ap (option_map text_view) (slice_get_read texts (length texts) k text refl lt is))
