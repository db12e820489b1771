-- Where things are in the lists of an outline.
use Rattle.std.specs.Prelude.{◌≡◌, ℕ, ◌==◌, ◌&&◌, Bool, List, [], Option, Some, AllPairs, if◌then◌else◌, get_or, option_map, slice_get}
use Rattle.std.specs.declared.cmp.Ordering.TheVariants.{Less}
use Rattle.krates_selection.specs.Selection.{place_cmp}
use Rattle.krates_selection.specs.declared.selection.ToggledFeature.{ToggledFeature}
use Rattle.krates_drawing.specs.declared.outline.EdgeRow.{EdgeRow}

-- the edges are in the order of the kept ones: by parent, child and place
abbrev pub AreByEnds : List EdgeRow → Type 0
AreByEnds links = AllPairs (λ a b. place_cmp a.edge b.edge ≡ Less) links

-- whether the edge leads from the crate of the one number to that of the other
abbrev pub has_ends : ℕ → ℕ → EdgeRow → Bool
has_ends parent child l = (l.edge.parent == parent) && (l.edge.child == child)

-- whether the crate of the one number toggles the feature, which is one of the other
abbrev pub has_crates : ℕ → ℕ → ToggledFeature → Bool
has_crates by krate t = (t.by == by) && (t.krate == krate)

-- what the mapping of a crate has at a place
abbrev pub entry_at : List (List (Option ℕ)) → ℕ → ℕ → Option (Option ℕ)
entry_at mappings krate place = slice_get (get_or mappings krate []) place

-- the number of the child, where the edge leaves the crate and has the declared dependency at the place as its own; else what was found
abbrev pub claimed_of : EdgeRow → ℕ → ℕ → Option ℕ → Option ℕ
claimed_of l krate place found = if (l.edge.parent == krate) && (l.edge.declared == place) then Some l.edge.child else found

-- each entry is what the edge makes of what was there
abbrev pub IsClaimed : EdgeRow → List (List (Option ℕ)) → List (List (Option ℕ)) → Type 0
IsClaimed l old new = (krate place : ℕ) → entry_at new krate place ≡ option_map (claimed_of l krate place) (entry_at old krate place)
