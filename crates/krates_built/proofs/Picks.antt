-- What facts say of one kind: which facts those are, and that their order is that of the facts.
use Rattle.std.proofs.Common.{◌≡◌, Option, Some, Ordering, Less, refl, ap, subst}
use Rattle.std.proofs.lemmas.Option.{same_Some}
use Rattle.krates_build_facts.specs.FactModels.{FactModel, ActivatedFeature, Compiled, Lost, Needed, RunNeeded, ScriptCompiled, ScriptRun, fact_view}
use Rattle.krates_build_facts.specs.Mattering.{MayMatter}
use Rattle.krates_build_tables.specs.declared.tables.Tables.{Tables}
use Rattle.krates_build_facts.specs.FactOrder.{fact_cmp}
use Rattle.krates_build_facts.specs.declared.facts.BuildFact.{BuildFact}
use Rattle.krates_build_facts.specs.declared.facts.BuildFact.TheVariants as facts
use Rattle.krates_build_facts.specs.declared.facts.UnitPlace.{UnitPlace}
use Rattle.krates_built.specs.BuildLists.{FeatureModel, feature_cmp, feature_fact, lost_cmp, lost_fact, need_cmp, need_fact, run_cmp, run_fact, run_need_cmp, run_need_fact, script_cmp, script_fact, unit_cmp}
use Rattle.krates_built.specs.FactLists.{feature_in, lost_in, need_in, run_in, run_need_in, script_in, unit_in}
use Rattle.krates_built.specs.declared.places.LostPlace.{LostPlace}
use Rattle.krates_built.specs.declared.places.NeedPlace.{NeedPlace}
use Rattle.krates_built.specs.declared.places.RunNeedPlace.{RunNeedPlace}
use Rattle.krates_built.specs.declared.places.RunPlace.{RunPlace}
use Rattle.krates_built.specs.declared.places.ScriptPlace.{ScriptPlace}

-- the function picks the places of facts of this form, and facts in order have places in order
pub record IsPick {A : Type 0} (pick : FactModel → Option A) (fact : A → FactModel) (order : A → A → Ordering) : Type 0 where
  pub picked : (f : FactModel) (x : A) → pick f ≡ Some x → f ≡ fact x
  pub picks : (x : A) → pick (fact x) ≡ Some x
  pub matters : (t : Tables) (x : A) → MayMatter t (fact x)
  pub keeps : (f g : BuildFact) (x y : A) → pick (fact_view f) ≡ Some x → pick (fact_view g) ≡ Some y → fact_cmp f g ≡ Less → order x y ≡ Less

-- what is said of two places is said of equal ones
with_same : {A : Type 0} (order : A → A → Ordering) (u v x y : A) → Some u ≡ Some x → Some v ≡ Some y → order u v ≡ Less → order x y ≡ Less
with_same {A} order u v x y a b less = subst (λ (z : A). order z y ≡ Less) (same_Some u x a) (subst (λ (z : A). order u z ≡ Less) (same_Some v y b) less)

-- ---- units

unit_picked : (f : FactModel) (x : UnitPlace) → unit_in f ≡ Some x → f ≡ Compiled x
unit_picked (Compiled unit) x e = ap (λ (z : UnitPlace). Compiled z) (same_Some unit x e)
unit_picked _ x e = absurd cc

unit_keeps : (f g : BuildFact) (x y : UnitPlace) → unit_in (fact_view f) ≡ Some x → unit_in (fact_view g) ≡ Some y → fact_cmp f g ≡ Less
    → unit_cmp x y ≡ Less
unit_keeps (facts.Compiled u) (facts.Compiled v) x y a b less = with_same unit_cmp u v x y a b less
unit_keeps (facts.Compiled u) _ x y a b less = absurd cc
unit_keeps _ g x y a b less = absurd cc

pub unit_pick : IsPick unit_in Compiled unit_cmp
unit_pick = record { picked = unit_picked; picks = λ x. refl; matters = λ t x. tt; keeps = unit_keeps }

-- ---- build scripts

script_picked : (f : FactModel) (x : ScriptPlace) → script_in f ≡ Some x → f ≡ script_fact x
script_picked (ScriptCompiled krate side) x e = ap script_fact (same_Some _ x e)
script_picked _ x e = absurd cc

script_keeps : (f g : BuildFact) (x y : ScriptPlace) → script_in (fact_view f) ≡ Some x → script_in (fact_view g) ≡ Some y → fact_cmp f g ≡ Less
    → script_cmp x y ≡ Less
script_keeps (facts.ScriptCompiled c n) (facts.ScriptCompiled d m) x y a b less = with_same script_cmp _ _ x y a b less
script_keeps (facts.ScriptCompiled c n) _ x y a b less = absurd cc
script_keeps _ g x y a b less = absurd cc

pub script_pick : IsPick script_in script_fact script_cmp
script_pick = record { picked = script_picked; picks = λ x. refl; matters = λ t x. tt; keeps = script_keeps }

-- ---- runs

run_picked : (f : FactModel) (x : RunPlace) → run_in f ≡ Some x → f ≡ run_fact x
run_picked (ScriptRun krate placement) x e = ap run_fact (same_Some _ x e)
run_picked _ x e = absurd cc

run_keeps : (f g : BuildFact) (x y : RunPlace) → run_in (fact_view f) ≡ Some x → run_in (fact_view g) ≡ Some y → fact_cmp f g ≡ Less
    → run_cmp x y ≡ Less
run_keeps (facts.ScriptRun c n) (facts.ScriptRun d m) x y a b less = with_same run_cmp _ _ x y a b less
run_keeps (facts.ScriptRun c n) _ x y a b less = absurd cc
run_keeps _ g x y a b less = absurd cc

pub run_pick : IsPick run_in run_fact run_cmp
run_pick = record { picked = run_picked; picks = λ x. refl; matters = λ t x. tt; keeps = run_keeps }

-- ---- needs

need_picked : (f : FactModel) (x : NeedPlace) → need_in f ≡ Some x → f ≡ need_fact x
need_picked (Needed link from library) x e = ap need_fact (same_Some _ x e)
need_picked _ x e = absurd cc

need_keeps : (f g : BuildFact) (x y : NeedPlace) → need_in (fact_view f) ≡ Some x → need_in (fact_view g) ≡ Some y → fact_cmp f g ≡ Less
    → need_cmp x y ≡ Less
need_keeps (facts.Needed l k u) (facts.Needed m j v) x y a b less = with_same need_cmp _ _ x y a b less
need_keeps (facts.Needed l k u) _ x y a b less = absurd cc
need_keeps _ g x y a b less = absurd cc

pub need_pick : IsPick need_in need_fact need_cmp
need_pick = record { picked = need_picked; picks = λ x. refl; matters = λ t x. tt; keeps = need_keeps }

-- ---- needs of runs

run_need_picked : (f : FactModel) (x : RunNeedPlace) → run_need_in f ≡ Some x → f ≡ run_need_fact x
run_need_picked (RunNeeded link from run) x e = ap run_need_fact (same_Some _ x e)
run_need_picked _ x e = absurd cc

run_need_keeps : (f g : BuildFact) (x y : RunNeedPlace) → run_need_in (fact_view f) ≡ Some x → run_need_in (fact_view g) ≡ Some y
    → fact_cmp f g ≡ Less → run_need_cmp x y ≡ Less
run_need_keeps (facts.RunNeeded l k u) (facts.RunNeeded m j v) x y a b less = with_same run_need_cmp _ _ x y a b less
run_need_keeps (facts.RunNeeded l k u) _ x y a b less = absurd cc
run_need_keeps _ g x y a b less = absurd cc

pub run_need_pick : IsPick run_need_in run_need_fact run_need_cmp
run_need_pick = record { picked = run_need_picked; picks = λ x. refl; matters = λ t x. tt; keeps = run_need_keeps }

-- ---- features

feature_picked : (f : FactModel) (x : FeatureModel) → feature_in f ≡ Some x → f ≡ feature_fact x
feature_picked (ActivatedFeature krate side name) x e = ap feature_fact (same_Some _ x e)
feature_picked _ x e = absurd cc

feature_keeps : (f g : BuildFact) (x y : FeatureModel) → feature_in (fact_view f) ≡ Some x → feature_in (fact_view g) ≡ Some y → fact_cmp f g ≡ Less
    → feature_cmp x y ≡ Less
feature_keeps (facts.ActivatedFeature c n f) (facts.ActivatedFeature d m g) x y a b less = with_same feature_cmp _ _ x y a b less
feature_keeps (facts.ActivatedFeature c n f) _ x y a b less = absurd cc
feature_keeps _ g x y a b less = absurd cc

pub feature_pick : IsPick feature_in feature_fact feature_cmp
feature_pick = record { picked = feature_picked; picks = λ x. refl; matters = λ t x. tt; keeps = feature_keeps }

-- ---- what is lost

lost_picked : (f : FactModel) (x : LostPlace) → lost_in f ≡ Some x → f ≡ lost_fact x
lost_picked (Lost krate index) x e = ap lost_fact (same_Some _ x e)
lost_picked _ x e = absurd cc

lost_keeps : (f g : BuildFact) (x y : LostPlace) → lost_in (fact_view f) ≡ Some x → lost_in (fact_view g) ≡ Some y → fact_cmp f g ≡ Less
    → lost_cmp x y ≡ Less
lost_keeps (facts.Lost c n) (facts.Lost d m) x y a b less = with_same lost_cmp _ _ x y a b less
lost_keeps (facts.Lost c n) _ x y a b less = absurd cc
lost_keeps _ g x y a b less = absurd cc

pub lost_pick : IsPick lost_in lost_fact lost_cmp
lost_pick = record { picked = lost_picked; picks = λ x. refl; matters = λ t x. tt; keeps = lost_keeps }
