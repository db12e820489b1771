use Rattle.std.proofs.Common.{List, map, sym, ap, ◌∙◌, subst}
use Rattle.krates_built.specs.BuildLists.{IsListOf, feature_cmp, feature_fact, feature_view}
use Rattle.krates_built.specs.declared.listed.Listed.{Listed}
use Rattle.krates_built.specs.declared.places.FeaturePlace.{FeaturePlace}
use Rattle.krates_built.proofs.units.Units.features_of.Goals as goal

pub returns : goal.returns
returns c =
    let t = c.args.self.now.derived in
    let same = c.deref.ensures.value ∙ ap (λ (l : Listed). l.lists.features.items) c.self.view_is in
    c.in_ok-names.ensures t (subst (λ (fs : List FeaturePlace). IsListOf t feature_fact feature_cmp (map feature_view fs)) (sym same) c.agrees.ensures.features)
