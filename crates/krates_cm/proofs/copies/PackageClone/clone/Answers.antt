use Rattle.std.proofs.Common.{◌≡◌, option_map, rules}
use Rattle.krates_cm.specs.Document.{dependency_view, source_view, target_view}
use Rattle.krates_cm.specs.contracts.copies.DependencyClone.TheImpl.{ghosts as deps}
use Rattle.krates_cm.specs.contracts.copies.TargetClone.TheImpl.{ghosts as targets}
use Rattle.krates_cm.proofs.CopyLemmas.{same_features, same_list, same_parts}
use Rattle.krates_cm.proofs.copies.PackageClone.clone.Goals as goal

pub returns : goal.returns
returns c =
    let named = c.in_ok-named.ensures in
    let parts = c.in_ok-parts.ensures in
    let about = c.in_ok-about.ensures in
    let settings = c.in_ok-settings.ensures in
    let source : option_map source_view c.in_ok-named.named.3 ≡ option_map source_view c.args.self.now.source = search (rules, named.3) in
    record {
      cases = λ i. record {
        name = named.0 i;
        version = same_parts c.args.self.now.version c.in_ok-named.named.1 named.1 i;
        authors = (about i).authors;
        id = named.2 i;
        source = source i;
        description = (about i).description;
        dependencies = same_list deps.is_clone dependency_view (λ x y h. h) c.args.self.now.dependencies.items c.in_ok-parts.parts.0.items parts.0.0 i;
        license = (about i).license;
        license_file = (about i).license_file;
        targets = same_list targets.is_clone target_view (λ x y h. h) c.args.self.now.targets.items c.in_ok-parts.parts.1.items parts.1.0 i;
        features = same_features c.args.self.now.features c.in_ok-parts.parts.2 parts.2 i;
        manifest_path = parts.3 i;
        categories = (about i).categories;
        keywords = (about i).keywords;
        readme = (about i).readme;
        repository = (about i).repository;
        homepage = (about i).homepage;
        documentation = (about i).documentation;
        edition = (settings i).edition;
        metadata = (settings i).metadata;
        links = (settings i).links;
        publish = (settings i).publish;
        default_run = (settings i).default_run;
        rust_version = (settings i).rust_version;
      };
    }
