-- The order of the lists of an outline, which is a fact of its type: so nothing here may name that type.
use Rattle.std.specs.Prelude.{All, length, map}
use Rattle.std.specs.Global.{Vec}
use Rattle.std.specs.List.Sorted.{IsStrictlySortedBy}
use Rattle.krates_ids.specs.Identity.{id_cmp}
use Rattle.krates_selection.specs.Selection.{HasCrates, HasEnds, HasHome, place_cmp, feature_cmp, toggled_cmp}
use Rattle.krates_selection.specs.declared.selection.ToggledFeature.{ToggledFeature}
use Rattle.krates_drawing.specs.declared.outline.CrateRow.{CrateRow}
use Rattle.krates_drawing.specs.declared.outline.EdgeRow.{EdgeRow}
use Rattle.krates_drawing.specs.declared.outline.FeatureRow.{FeatureRow}

-- each list is in the order of the selection's, without doubles, and has by number only crates that are among these
pub record AreInOrder (crates : Vec CrateRow) (edges : Vec EdgeRow) (enabled : Vec FeatureRow) (toggles : Vec ToggledFeature) : Type 0 where
  pub krates : IsStrictlySortedBy id_cmp (map (λ k. k.id) crates.items)
  pub links : IsStrictlySortedBy place_cmp (map (λ l. l.edge) edges.items)
  pub ends : All (λ l. HasEnds (length crates.items) l.edge) edges.items
  pub features : IsStrictlySortedBy feature_cmp (map (λ n. n.feature) enabled.items)
  pub homes : All (λ n. HasHome (length crates.items) n.feature) enabled.items
  pub toggled : IsStrictlySortedBy toggled_cmp toggles.items
  pub toggled_crates : All (HasCrates (length crates.items)) toggles.items
