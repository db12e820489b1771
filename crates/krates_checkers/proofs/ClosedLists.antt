-- What the facts of a list give, and when the list is closed.
use Rattle.std.proofs.Common.{◌≡◌, ◌↔◌, ◌∙◌, List, [], ◌∷◌, Bool, IsTrue, true, false, Contains, inl, inr, refl, sym, subst}
use Rattle.krates_cm.specs.Document.{Text, DepKindInfoModel}
use Rattle.krates_derive.specs.Giving.{CrateIn, DepIn, EdgesToIn, FactIn, FeatureIn, GivesIn, KeptIn, ReferenceIn, ReferencesIn, RootsIn, ToggledIn}
use Rattle.krates_derive.specs.Following.{toggling}
use Rattle.krates_text.specs.FeatureReference.{HasOneReading, IsReference, Reference, krate, simple, strong, weak}
use Rattle.krates_rules.specs.Demands.{Demands}
use Rattle.krates_rules.specs.Facts.{Id, Edge, Fact, Cause, Crate, Feature, Kept, Toggled, Lost}
use Rattle.krates_rules.specs.Features.{HasReference}
use Rattle.krates_questions.specs.FeatureTable.{AreValuesOf}
use Rattle.krates_rules.specs.Derivation.{Among, IsClosed}
use Rattle.krates_rules.specs.Referent.{IsReferent}
use Rattle.krates_rules.specs.Rules.{IsAskedFor, root_crate, root_feature, lost_root_package, lost_root_node, feature_crate, named, lost_named, asked, toggled_strongly, lost_asked_package, lost_asked_node, lost_toggled_strongly, required, target, lost_undeclared, lost_required_package, lost_required_node, declared, by_default, lost_declared, toggled_weakly, toggled_feature, lost_toggled_weakly}
use Rattle.krates_rules.specs.StepViews.{facts_view, fact_view}
use Rattle.krates_rules.specs.declared.derivation.Fact.{Fact as ToldFact}
use Rattle.krates_rules.specs.declared.derivation.Fact.TheVariants as told
use Rattle.krates_rules.proofs.FirstPlaces.{seen_at}
use Rattle.krates_rules.proofs.OnlyOne.{place_in}
use Rattle.krates_rules.specs.Questions.{edge_between, questions}
use Rattle.krates_rules.specs.Resolved.{Resolved}
use Rattle.krates_rules.specs.Setting.{SettingModel}

-- ---- references of a feature

-- a text is only one reference, so what that gives is all that the text gives
pub reference_told : {text : Text} → HasOneReading text → (r : Resolved) (s : SettingModel) (fs : List Fact) (p : Id) (a : Reference) (b : Bool) → IsReference text a → (IsTrue b ↔ GivesIn r s fs p a) → IsTrue b ↔ ReferenceIn r s fs p text
reference_told {text} h r s fs p a b x told = (λ t other y. subst (GivesIn r s fs p) (h.only a x ∙ sym (h.only other y)) (told.0 t), λ all. told.1 (all a x))

-- the references of a feature are those that its values are
pub references_among : (r : Resolved) (s : SettingModel) (fs : List Fact) (p : Id) (f : Text) (values : List Text) → AreValuesOf r p f values
    → ReferencesIn r s fs p values ↔ ((a : Reference) → HasReference r p f a → GivesIn r s fs p a)
references_among r s fs p f values are = (
  λ h a has. (let at = (are a).0 has in h at.text at.among a at.is),
  λ h text among a is. h a ((are a).1 (record { text = text; among = among; is = is })),
)

-- a reference that requires the edges to what a name means gives them
edges_given : (r : Resolved) (s : SettingModel) (fs : List Fact) (p : Id) (a : Reference) (dep : Text) → Demands a dep → GivesIn r s fs p a → EdgesToIn r s fs p dep
edges_given r s fs p (simple g) dep asks h = absurd asks
edges_given r s fs p (krate c) dep asks h = subst (EdgesToIn r s fs p) (sym asks) h
edges_given r s fs p (strong c g) dep asks h = subst (EdgesToIn r s fs p) (sym asks) h.0
edges_given r s fs p (weak c g) dep asks h = absurd asks

-- ---- lists that are closed

told_not_lost : (x : ToldFact) (c : Cause) → fact_view x ≡ Lost c → ⊥
told_not_lost (told.Crate k) c e = absurd cc
told_not_lost (told.Feature k n) c e = absurd cc
told_not_lost (told.Kept p d k t) c e = absurd cc
told_not_lost (told.Toggled p d n) c e = absurd cc

-- no fact of the caller's list is lost
pub none_lost : (xs : List ToldFact) (c : Cause) → Contains (facts_view xs) (Lost c) → ⊥
none_lost xs c h =
    let at = place_in (facts_view xs) (Lost c) h in
    let s = seen_at fact_view xs at.0 (Lost c) at.1 in
    told_not_lost _ c s.2

none : (P : Fact → Type 0) (g : Fact) → Among g [] → P g
none P g m = absurd m

one : (P : Fact → Type 0) (f : Fact) → P f → (g : Fact) → Among g (f ∷ []) → P g
one P f h g (inl e) = subst P (sym e) h
one P f h g (inr e) = absurd e

two : (P : Fact → Type 0) (a b : Fact) → P a → P b → (g : Fact) → Among g (a ∷ b ∷ []) → P g
two P a b x y g (inl e) = subst P (sym e) x
two P a b x y g (inr (inl e)) = subst P (sym e) y
two P a b x y g (inr (inr e)) = absurd e

roots_given : (r : Resolved) (s : SettingModel) (fs : List Fact) → ((c : Cause) → Contains fs (Lost c) → ⊥) → IsClosed (questions r s) fs → RootsIn r s fs
unfolding questions
roots_given r s fs lost closed i root = record {
  kept = λ stands. closed _ _ _ (root_crate {p = i} root stands) (none (Contains fs));
  enabled = λ stands f lists. closed _ _ _ (root_feature {p = i} {f = f} root stands lists) (none (Contains fs));
  has_package = λ out. lost _ (closed _ _ _ (lost_root_package {p = i} root out) (none (Contains fs)));
  has_node = λ out. lost _ (closed _ _ _ (lost_root_node {p = i} root out) (none (Contains fs)));
}

crate_given : (r : Resolved) (s : SettingModel) (fs : List Fact) (p : Id) → ((c : Cause) → Contains fs (Lost c) → ⊥) → IsClosed (questions r s) fs → Contains fs (Crate p) → CrateIn r s fs p
unfolding questions
crate_given r s fs p lost closed here c k =
    let e : Edge = edge_between p c k in
    record {
      child = λ d w t. record {
        kept = λ stands. closed _ _ _ (required {e = e} {d = d} (record { wanted = w; stands = stands }) t) (one (Contains fs) (Crate p) here);
        has_package = λ out. lost _ (closed _ _ _ (lost_required_package {e = e} {d = d} w t out) (one (Contains fs) (Crate p) here));
        has_node = λ out. lost _ (closed _ _ _ (lost_required_node {e = e} {d = d} w t out) (one (Contains fs) (Crate p) here));
      };
      declared = λ is l. lost _ (closed _ _ _ (lost_undeclared {e = e} l) (one (Contains fs) (Crate p) here));
    }

asked_for : (r : Resolved) (s : SettingModel) (p : Id) (f : Text) (a : Reference) (dep : Text) (c : Id) (k : DepKindInfoModel) → HasReference r p f a → Demands a dep → IsReferent r s.all_named p dep c → IsAskedFor (questions r s) f (edge_between p c k)
unfolding questions
asked_for r s p f a dep c k has asks is = record { reference = a; dep = dep; refers = has; asks = asks; referent = is }

feature_given : (r : Resolved) (s : SettingModel) (fs : List Fact) (p : Id) (f : Text) → ((c : Cause) → Contains fs (Lost c) → ⊥) → IsClosed (questions r s) fs → Contains fs (Feature p f) → FeatureIn r s fs p f
unfolding questions
feature_given r s fs p f lost closed here =
    record { crate = closed _ _ _ (feature_crate {p = p} {f = f}) from; given = gives }
  where
    from : (g : Fact) → Among g (Feature p f ∷ []) → Contains fs g
    from = one (Contains fs) (Feature p f) here

    at_edge : (weakly : Bool) (dep g : Text) (e : Edge) → HasReference r e.parent f (toggling weakly dep g) → IsReferent r s.all_named e.parent dep e.child → Contains fs (Feature e.parent f) → Contains fs (Kept e) → ToggledIn r fs e.parent e.child g
    at_edge true dep g e has is feature kept = record {
      toggled = λ lists. closed _ _ _ (toggled_weakly {e = e} {f = f} {g = g} {c = dep} has is lists) (two (Contains fs) (Feature e.parent f) (Kept e) feature kept);
      listed = λ lacks. lost _ (closed _ _ _ (lost_toggled_weakly {e = e} {f = f} {g = g} {c = dep} has is lacks) (two (Contains fs) (Feature e.parent f) (Kept e) feature kept));
    }
    at_edge false dep g e has is feature kept = record {
      toggled = λ lists. closed _ _ _ (toggled_strongly {e = e} {f = f} {g = g} {c = dep} has is lists) (two (Contains fs) (Feature e.parent f) (Kept e) feature kept);
      listed = λ lacks. lost _ (closed _ _ _ (lost_toggled_strongly {e = e} {f = f} {g = g} {c = dep} has is lacks) (two (Contains fs) (Feature e.parent f) (Kept e) feature kept));
    }

    over : (weakly : Bool) (dep g : Text) → HasReference r p f (toggling weakly dep g) → DepIn r s fs p dep g
    over weakly dep g has c is e kept same child =
        let h = at_edge weakly dep g e (subst (λ i. HasReference r i f (toggling weakly dep g)) (sym same) has) (subst (λ i. IsReferent r s.all_named i dep e.child) (sym same) (subst (IsReferent r s.all_named p dep) (sym child) is)) (subst (λ i. Contains fs (Feature i f)) (sym same) here) kept in
        subst (λ i. ToggledIn r fs p i g) child (subst (λ i. ToggledIn r fs i e.child g) same h)

    edges_to : (a : Reference) (dep : Text) → Demands a dep → HasReference r p f a → EdgesToIn r s fs p dep
    edges_to a dep asks has c is k =
        let e : Edge = edge_between p c k in
        let by = asked_for r s p f a dep c k has asks is in
        record {
          child = λ d w t. record {
            kept = λ stands. closed _ _ _ (asked {e = e} {f = f} {d = d} by (record { wanted = w; stands = stands })) from;
            has_package = λ out. lost _ (closed _ _ _ (lost_asked_package {e = e} {f = f} {d = d} by w out) from);
            has_node = λ out. lost _ (closed _ _ _ (lost_asked_node {e = e} {f = f} {d = d} by w out) from);
          };
          declared = λ is l. absurd cc;
        }

    gives : (a : Reference) → HasReference r p f a → GivesIn r s fs p a
    gives (simple g) has = record {
      enabled = λ lists. closed _ _ _ (named {p = p} {f = f} {g = g} has lists) from;
      listed = λ lacks. lost _ (closed _ _ _ (lost_named {p = p} {f = f} {g = g} has lacks) from);
    }
    gives (krate dep) has = edges_to (krate dep) dep refl has
    gives (strong dep g) has = (edges_to (strong dep g) dep refl has, over false dep g has)
    gives (weak dep g) has = over true dep g has

kept_given : (r : Resolved) (s : SettingModel) (fs : List Fact) (e : Edge) → ((c : Cause) → Contains fs (Lost c) → ⊥) → IsClosed (questions r s) fs → Contains fs (Kept e) → KeptIn r fs e
unfolding questions
kept_given r s fs e lost closed here =
    let from = one (Contains fs) (Kept e) here in
    record {
      crate = closed _ _ _ (target {e = e}) from;
      used = λ d w. record {
        declared = λ g among. record {
          enabled = λ lists. closed _ _ _ (declared {e = e} {d = d} {g = g} w among lists) from;
          listed = λ lacks. lost _ (closed _ _ _ (lost_declared {e = e} {d = d} {g = g} w among lacks) from);
        };
        by_default = λ uses lists. closed _ _ _ (by_default {e = e} {d = d} w uses lists) from;
      };
    }

fact_given : (r : Resolved) (s : SettingModel) (fs : List Fact) (f : Fact) → ((c : Cause) → Contains fs (Lost c) → ⊥) → IsClosed (questions r s) fs → Contains fs f → FactIn r s fs f
fact_given r s fs (Crate p) lost closed here = crate_given r s fs p lost closed here
fact_given r s fs (Feature p f) lost closed here = feature_given r s fs p f lost closed here
fact_given r s fs (Kept e) lost closed here = kept_given r s fs e lost closed here
fact_given r s fs (Toggled p c g) lost closed here = closed _ _ _ (toggled_feature {p = p} {c = c} {g = g}) (one (Contains fs) (Toggled p c g) here)
fact_given r s fs (Lost c) lost closed here = tt

-- all that the roots and the facts give is in the list, so the list is closed
facts_closed : (r : Resolved) (s : SettingModel) (fs : List Fact) → RootsIn r s fs → ((f : Fact) → Contains fs f → FactIn r s fs f) → IsClosed (questions r s) fs
unfolding questions
facts_closed r s fs roots facts n ps x (root_crate {p} root stands) from = (roots p root).kept stands
facts_closed r s fs roots facts n ps x (root_feature {p} {f} root stands lists) from = (roots p root).enabled stands f lists
facts_closed r s fs roots facts n ps x (lost_root_package {p} root out) from = absurd ((roots p root).has_package out)
facts_closed r s fs roots facts n ps x (lost_root_node {p} root out) from = absurd ((roots p root).has_node out)
facts_closed r s fs roots facts n ps x (feature_crate {p} {f}) from = (facts (Feature p f) (from _ (inl refl))).crate
facts_closed r s fs roots facts n ps x (named {p} {f} {g} has lists) from = ((facts (Feature p f) (from _ (inl refl))).given (simple g) has).enabled lists
facts_closed r s fs roots facts n ps x (lost_named {p} {f} {g} has lacks) from = absurd (((facts (Feature p f) (from _ (inl refl))).given (simple g) has).listed lacks)
facts_closed r s fs roots facts n ps x (asked {e} {f} {d} a o) from =
    ((edges_given r s fs e.parent a.reference a.dep a.asks ((facts (Feature e.parent f) (from _ (inl refl))).given a.reference a.refers) e.child a.referent (record { kind = e.kind; target = e.cfg })).child d o.wanted tt).kept o.stands
facts_closed r s fs roots facts n ps x (toggled_strongly {e} {f} {g} {c} has is lists) from =
    (((facts (Feature e.parent f) (from _ (inl refl))).given (strong c g) has).1 e.child is e (from _ (inr (inl refl))) refl refl).toggled lists
facts_closed r s fs roots facts n ps x (lost_asked_package {e} {f} {d} a w out) from =
    absurd (((edges_given r s fs e.parent a.reference a.dep a.asks ((facts (Feature e.parent f) (from _ (inl refl))).given a.reference a.refers) e.child a.referent (record { kind = e.kind; target = e.cfg })).child d w tt).has_package out)
facts_closed r s fs roots facts n ps x (lost_asked_node {e} {f} {d} a w out) from =
    absurd (((edges_given r s fs e.parent a.reference a.dep a.asks ((facts (Feature e.parent f) (from _ (inl refl))).given a.reference a.refers) e.child a.referent (record { kind = e.kind; target = e.cfg })).child d w tt).has_node out)
facts_closed r s fs roots facts n ps x (lost_toggled_strongly {e} {f} {g} {c} has is lacks) from =
    absurd ((((facts (Feature e.parent f) (from _ (inl refl))).given (strong c g) has).1 e.child is e (from _ (inr (inl refl))) refl refl).listed lacks)
facts_closed r s fs roots facts n ps x (required {e} {d} o t) from = (((facts (Crate e.parent) (from _ (inl refl))) e.child (record { kind = e.kind; target = e.cfg })).child d o.wanted t).kept o.stands
facts_closed r s fs roots facts n ps x (target {e}) from = (facts (Kept e) (from _ (inl refl))).crate
facts_closed r s fs roots facts n ps x (lost_undeclared {e} l) from = absurd (((facts (Crate e.parent) (from _ (inl refl))) e.child (record { kind = e.kind; target = e.cfg })).declared refl l)
facts_closed r s fs roots facts n ps x (lost_required_package {e} {d} w t out) from = absurd ((((facts (Crate e.parent) (from _ (inl refl))) e.child (record { kind = e.kind; target = e.cfg })).child d w t).has_package out)
facts_closed r s fs roots facts n ps x (lost_required_node {e} {d} w t out) from = absurd ((((facts (Crate e.parent) (from _ (inl refl))) e.child (record { kind = e.kind; target = e.cfg })).child d w t).has_node out)
facts_closed r s fs roots facts n ps x (declared {e} {d} {g} w among lists) from = (((facts (Kept e) (from _ (inl refl))).used d w).declared g among).enabled lists
facts_closed r s fs roots facts n ps x (by_default {e} {d} w uses lists) from = ((facts (Kept e) (from _ (inl refl))).used d w).by_default uses lists
facts_closed r s fs roots facts n ps x (lost_declared {e} {d} {g} w among lacks) from = absurd ((((facts (Kept e) (from _ (inl refl))).used d w).declared g among).listed lacks)
facts_closed r s fs roots facts n ps x (toggled_weakly {e} {f} {g} {c} has is lists) from =
    ((facts (Feature e.parent f) (from _ (inl refl))).given (weak c g) has e.child is e (from _ (inr (inl refl))) refl refl).toggled lists
facts_closed r s fs roots facts n ps x (toggled_feature {p} {c} {g}) from = facts (Toggled p c g) (from _ (inl refl))
facts_closed r s fs roots facts n ps x (lost_toggled_weakly {e} {f} {g} {c} has is lacks) from =
    absurd (((facts (Feature e.parent f) (from _ (inl refl))).given (weak c g) has e.child is e (from _ (inr (inl refl))) refl refl).listed lacks)

-- a list without lost facts is closed exactly where all of that is in it
pub closed_told : (r : Resolved) (s : SettingModel) (xs : List ToldFact) → (RootsIn r s (facts_view xs) × ((f : Fact) → Contains (facts_view xs) f → FactIn r s (facts_view xs) f)) ↔ IsClosed (questions r s) (facts_view xs)
closed_told r s xs = (
  λ h. facts_closed r s (facts_view xs) h.0 h.1,
  λ closed. (roots_given r s (facts_view xs) (none_lost xs) closed, λ f here. fact_given r s (facts_view xs) f (none_lost xs) closed here),
)
