use Rattle.std.proofs.Common.{◌≡◌, ◌∙◌, option_map, rules}
use Rattle.krates_cm.specs.Document.{text_view}
use Rattle.krates_cm.proofs.CopyLemmas.{same_texts}
use Rattle.krates_cargo.specs.contracts.command.MetadataCommand.{the_view}
use Rattle.krates_cargo.proofs.Variables.{same_variables}
use Rattle.krates_cargo.proofs.command.MetadataCommandClone.clone.Goals as goal

pub returns : goal.returns
returns c =
    let it = c.self.inside in
    let places = c.in_ok-places.ensures in
    let cargo_path : option_map text_view c.in_ok-places.places.0 ≡ option_map text_view it.cargo_path = search (rules, places.0) in
    let manifest_path : option_map text_view c.in_ok-places.places.1 ≡ option_map text_view it.manifest_path = search (rules, places.1) in
    let current_dir : option_map text_view c.in_ok-places.places.2 ≡ option_map text_view it.current_dir = search (rules, places.2) in
    let copy = record it {
      cargo_path = c.in_ok-places.places.0;
      manifest_path = c.in_ok-places.places.1;
      current_dir = c.in_ok-places.places.2;
      features = c.in_ok-places.places.3;
      other_options = c.in_ok-other_options.other_options;
      variables = c.in_ok-variables.variables;
    } in
    let same : the_view copy ≡ the_view it = λ i. record {
      cargo_path = cargo_path i;
      manifest_path = manifest_path i;
      current_dir = current_dir i;
      no_deps = it.has_no_deps;
      features = same_texts it.features c.in_ok-places.places.3 places.3 i;
      all_features = it.has_all_features;
      no_default_features = it.has_no_default_features;
      other_options = same_texts it.other_options c.in_ok-other_options.other_options c.in_ok-other_options.ensures.cases i;
      variables = same_variables it.variables c.in_ok-variables.variables c.in_ok-variables.ensures.cases i;
      verbose = it.is_verbose;
    } in
    record { cases = same ∙ c.self.view_is }
