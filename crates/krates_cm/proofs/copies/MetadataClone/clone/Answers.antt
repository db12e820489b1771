use Rattle.std.proofs.Common.{◌≡◌, option_map, rules}
use Rattle.krates_cm.specs.Document.{id_view, package_view, resolve_view, text_view}
use Rattle.krates_cm.specs.contracts.copies.PackageClone.TheImpl.{ghosts as packages}
use Rattle.krates_cm.specs.contracts.copies.PackageIdClone.TheImpl.{ghosts as ids}
use Rattle.krates_cm.proofs.CopyLemmas.{same_list}
use Rattle.krates_cm.proofs.copies.MetadataClone.clone.Goals as goal

pub returns : goal.returns
returns c =
    let graph = c.in_ok-graph.ensures in
    let places = c.in_ok-places.ensures in
    let resolve : option_map resolve_view c.in_ok-graph.graph.3 ≡ option_map resolve_view c.args.self.now.resolve = search (rules, graph.3) in
    let build_directory : option_map text_view c.in_ok-places.places.2 ≡ option_map text_view c.args.self.now.build_directory = search (rules, places.2) in
    record {
      cases = λ i. record {
        packages = same_list packages.is_clone package_view (λ x y h. h) c.args.self.now.packages.items c.in_ok-graph.graph.0.items graph.0.0 i;
        workspace_members = same_list ids.is_clone id_view (λ x y h. h) c.args.self.now.workspace_members.items c.in_ok-graph.graph.1.items graph.1.0 i;
        workspace_default_members = graph.2 i;
        resolve = resolve i;
        workspace_root = places.0 i;
        target_directory = places.1 i;
        build_directory = build_directory i;
        workspace_metadata = places.3 i;
        version = c.args.self.now.version;
      };
    }
