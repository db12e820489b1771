use Rattle.std.proofs.Common.{◌↔◌, Contains, List, map, refl, sym, ◌∙◌, subst}
use Rattle.krates_rules.specs.Resolved.{id_of}
use Rattle.krates_text.specs.FeatureReference.{Reference}
use Rattle.krates_units.specs.Requests.{IsRequested}
use Rattle.krates_build_tables.specs.Builds.{resolved_in, setting_in}
use Rattle.krates_build_tables.specs.References.{reference_view}
use Rattle.krates_build_tables.specs.declared.reference.FeatureReference.{FeatureReference}
use Rattle.krates_build_tables.proofs.tables_of.entry_of.Goals as goal

pub returns : goal.returns
returns c =
    let r = resolved_in c.args.build.now in
    let s = setting_in c.args.build.now in
    let i = id_of c.args.krate.now in
    let parts = c.in_ok-parts.ensures in
    record {
      number_is = refl;
      root = c.requires.request.root;
      starts_on_host = parts.starts_on_host;
      selected = c.requires.request.selected;
      script = parts.script;
      native = parts.native;
      requested = subst (λ (rs : List FeatureReference). (v : Reference) → IsRequested r s i v ↔ Contains (map reference_view rs) v) (sym (c.in_ok-requested.ensures ∙ c.deref.ensures.value)) c.requires.request.requested;
      features = parts.features;
      implied = parts.implied;
      links = parts.links;
      lacking = parts.lacking;
      targets = parts.targets;
    }
