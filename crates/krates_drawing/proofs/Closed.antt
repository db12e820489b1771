-- For the lists of a selection, both ends of each drawn edge are nodes.
use Rattle.std.proofs.Common.{◌≡◌, inl, inr, List, [], ◌∷◌, Bool, true, false, Option, Some, None, unwrap_or, cond, refl, sym, subst}
use Rattle.std.specs.List.{AllZip, list_any}
use Rattle.std.specs.Str.{bytes_eq}
use Rattle.krates_cm.specs.Document.{Text, DependencyModel, PackageModel}
use Rattle.krates_ids.specs.Correction.{named}
use Rattle.krates_text.specs.FeatureReference.{Reference}
use Rattle.krates_text.specs.FeatureReference as references
use Rattle.krates_rules.specs.Derivation.{Derivable, follows}
use Rattle.krates_rules.specs.Facts.{Id, Edge, LostFeature, Feature, Kept, Toggled, Lost}
use Rattle.krates_rules.specs.Features.{ListsFeature, LacksFeature, HasReference}
use Rattle.krates_rules.specs.Questions.{IsDeclaredAs, questions}
use Rattle.krates_rules.specs.Resolved.{Resolved, HasPackage}
use Rattle.krates_rules.specs.Rules as rules
use Rattle.krates_rules.specs.Rules.{Questions, default_name}
use Rattle.krates_rules.specs.Setting.{SettingModel}
use Rattle.krates_drawing.specs.Drawing.{Endpoint, AtFeature, EdgeModel, is_feature}
use Rattle.krates_drawing.specs.Outline.{EdgeRow, asked_by, Meaning, OwnFeature, FeatureOf, FeatureRow, IsMeaning, Names, Outline}
use Rattle.krates_text.specs.Texts.{has_text}
use Rattle.krates_drawing.proofs.DrawnEdges.{IsDrawnEdge, dep, dep_feature, toggles, own, names, names_crate, names_feature, KeepsEnds}
use Rattle.krates_drawing.proofs.Derivations.{one, two, crate_of_feature, child_kept, kept_by}
use Rattle.krates_drawing.proofs.Holding.{Holds}
use Rattle.krates_rules.proofs.Members.{Member, contains_of, member_append, kept_of, passing_of, member_any, partner_of, swapped}
use Rattle.krates_drawing.proofs.NodeNumbers.{text_is, text_same, feature_is, feature_passes, HasCrate, HasFeature, Stands, crate_stands, feature_stands}

-- ---- kept edges

pub keeps_ends : (r : Resolved) (s : SettingModel) (t : Outline) → Holds r s t → KeepsEnds t
keeps_ends r s t h l m =
    let d = h.link_of l m in
    (h.crate_in l.edge.parent (kept_by (questions r s) l.edge d).parent, h.crate_in l.edge.child (child_kept (questions r s) l.edge d))

-- ---- what a kept edge enables is enabled

-- a feature that the dependency names, or `default` if that is used
data AskedFor (d : DependencyModel) (g : Text) : Type 0 where
  by_name : Member d.features g → AskedFor d g
  by_use : d.uses_default_features ≡ true → g ≡ default_name → AskedFor d g

default_of : (b : Bool) (g : Text) → Member (cond b (default_name ∷ []) []) g → (b ≡ true) × (g ≡ default_name)
default_of true g (inl e) = (refl, sym e)
default_of true g (inr m) = absurd m
default_of false g m = absurd m

asked_for : (d : DependencyModel) (g : Text) → Member (asked_by d) g → AskedFor d g
asked_for d g m = elim (member_append d.features _ g m) [
  | inl here ↦ by_name here
  | inr more ↦ (let w = default_of d.uses_default_features g more in by_use w.0 w.1)
]

pub text_there : (texts : List Text) (t : Text) → has_text texts t ≡ true → Member texts t
text_there texts t h = let w = passing_of (bytes_eq t) texts h in subst (Member texts) (sym (text_is t w.from w.passes)) w.member

pub text_has : (texts : List Text) (t : Text) → Member texts t → has_text texts t ≡ true
text_has texts t m = member_any (bytes_eq t) texts t m (text_same t)

pub given_enabled : (r : Resolved) (s : SettingModel) (t : Outline) (l : EdgeRow) (g : Text) → Holds r s t → Member t.links l → Member l.given g → Derivable (questions r s) (Feature l.edge.child g)
unfolding questions
given_enabled r s t l g h at m =
    let q = questions r s in
    let kept = h.link_of l at in
    let w = h.edge_of l at in
    let k = kept_of (has_text w.node.features) (asked_by w.placed.dependency) g (subst (λ fs. Member fs g) w.given m) in
    let lists : ListsFeature r l.edge.child g = record { node = w.node; has_node = w.has_node; among = contains_of w.node.features g (text_there w.node.features g k.1) } in
    let declared : IsDeclaredAs r l.edge w.placed.dependency = (l.place, w.placed.declared.declares) in
    elim (asked_for w.placed.dependency g k.0) [
      | by_name here ↦ follows (rules.declared {e = l.edge} {d = w.placed.dependency} {g = g} declared (contains_of w.placed.dependency.features g here) lists) (one q (Kept l.edge) kept)
      | by_use on is ↦ (
          let plain : Derivable q (Feature l.edge.child default_name) = follows (rules.by_default {e = l.edge} {d = w.placed.dependency} declared on (subst (λ x. ListsFeature r l.edge.child x) is lists)) (one q (Kept l.edge) kept) in
          subst (λ x. Derivable q (Feature l.edge.child x)) (sym is) plain)
    ]

-- ---- a feature that is asked for is enabled, since nothing is lost

-- a feature that is enabled if it is listed and lost otherwise is one of the outline
found_step : (r : Resolved) (s : SettingModel) (t : Outline) (i : Id) (g : Text) (b : Bool) → list_any (is_feature i g) t.features ≡ b → Holds r s t
    → (ListsFeature r i g → Derivable (questions r s) (Feature i g)) → (LacksFeature r i g → Derivable (questions r s) (Lost (LostFeature i g))) → HasFeature t i g
found_step r s t i g true e h enabled lost =
    let w = passing_of (is_feature i g) t.features e in
    let is = feature_is i g w.from w.passes in
    record { named = w.from; member = w.member; krate = is.0; name = is.1 }
found_step r s t i g false e h enabled lost = absurd (h.none_lost (LostFeature i g) (lost (λ lists.
    let there = h.feature_in i g (enabled lists) in
    let yes = member_any (is_feature i g) t.features there.named there.member (feature_passes t i g there) in
    cc (yes, e))))

found : (r : Resolved) (s : SettingModel) (t : Outline) (i : Id) (g : Text) → Holds r s t
    → (ListsFeature r i g → Derivable (questions r s) (Feature i g)) → (LacksFeature r i g → Derivable (questions r s) (Lost (LostFeature i g))) → HasFeature t i g
found r s t i g h enabled lost = found_step r s t i g (list_any (is_feature i g) t.features) refl h enabled lost

-- ---- the references of a feature

-- the feature has a reference that names this
record IsNaming (r : Resolved) (s : SettingModel) (n : FeatureRow) (m : Meaning) : Type 0 where
  reference : Reference
  has : HasReference r n.krate n.name reference
  names_it : Names r s.all_named n.krate reference m

naming_in : (r : Resolved) (s : SettingModel) (n : FeatureRow) (m : Meaning) (p : PackageModel) (o : Option (List Text)) → named p.features n.name ≡ o → HasPackage r n.krate p → AllZip (IsMeaning r s.all_named n.krate) (unwrap_or o []) n.meanings
    → Member n.meanings m → IsNaming r s n m
naming_in r s n m p None e h z at = let w = partner_of (λ m text. IsMeaning r s.all_named n.krate text m) n.meanings [] m (swapped (IsMeaning r s.all_named n.krate) [] n.meanings z) at in absurd w.member
naming_in r s n m p (Some values) e h z at =
    let w = partner_of (λ m text. IsMeaning r s.all_named n.krate text m) n.meanings values m (swapped (IsMeaning r s.all_named n.krate) values n.meanings z) at in
    record {
      reference = w.related.reference;
      has = record { pkg = p; has_package = h; values = values; feature = e; text = w.partner; among = contains_of values w.partner w.member; is = w.related.is };
      names_it = w.related.names;
    }

naming : (r : Resolved) (s : SettingModel) (t : Outline) (n : FeatureRow) (m : Meaning) → Holds r s t → Member t.features n → Member n.meanings m → IsNaming r s n m
naming r s t n m h at among = let w = h.named_of n at in naming_in r s n m w.pkg (named w.pkg.features n.name) refl w.has_package w.meanings among

-- ---- what a reference names is enabled

own_enabled : (r : Resolved) (s : SettingModel) (t : Outline) (n : FeatureRow) (g : Text) (reference : Reference) → Holds r s t → Derivable (questions r s) (Feature n.krate n.name) → HasReference r n.krate n.name reference → Names r s.all_named n.krate reference (OwnFeature g)
    → HasFeature t n.krate g
unfolding questions
own_enabled r s t n g (references.simple f) h d has is =
    let q = questions r s in
    let premise = one q (Feature n.krate n.name) d in
    subst (λ x. HasFeature t n.krate x) (sym is)
    (found r s t n.krate f h (λ lists. follows (rules.named {p = n.krate} {f = n.name} {g = f} has lists) premise) (λ lacks. follows (rules.lost_named {p = n.krate} {f = n.name} {g = f} has lacks) premise))
own_enabled r s t n g (references.krate c) h d has is = absurd is
own_enabled r s t n g (references.strong c f) h d has is = absurd is
own_enabled r s t n g (references.weak c f) h d has is = absurd is

pub toggle_enabled : (q : Questions) (p c : Id) (g : Text) → Derivable q (Toggled p c g) → Derivable q (Feature c g)
toggle_enabled q p c g d = follows (rules.toggled_feature {p = p} {c = c} {g = g}) (one q (Toggled p c g) d)

-- a reference from a feature of the parent to a feature of the child enables that feature, if the edge is kept
other_enabled : (r : Resolved) (s : SettingModel) (t : Outline) (e : Edge) (f g : Text) (ids : List Id) (reference : Reference) → Holds r s t → Derivable (questions r s) (Kept e) → Derivable (questions r s) (Feature e.parent f)
    → HasReference r e.parent f reference → Names r s.all_named e.parent reference (FeatureOf ids g) → Member ids e.child → HasFeature t e.child g
unfolding questions
other_enabled r s t e f g ids (references.strong c x) h kept d has is m =
    let q = questions r s in
    let means = (is.0.exactly e.child).0 (contains_of ids e.child m) in
    let premises = two q (Feature e.parent f) (Kept e) d kept in
    subst (λ y. HasFeature t e.child y) (sym is.1)
    (found r s t e.child x h
    (λ lists. toggle_enabled q e.parent e.child x (follows (rules.toggled_strongly {e = e} {f = f} {g = x} {c = c} has means lists) premises))
    (λ lacks. follows (rules.lost_toggled_strongly {e = e} {f = f} {g = x} {c = c} has means lacks) premises))
other_enabled r s t e f g ids (references.weak c x) h kept d has is m =
    let q = questions r s in
    let means = (is.0.exactly e.child).0 (contains_of ids e.child m) in
    let premises = two q (Feature e.parent f) (Kept e) d kept in
    subst (λ y. HasFeature t e.child y) (sym is.1)
    (found r s t e.child x h
    (λ lists. toggle_enabled q e.parent e.child x (follows (rules.toggled_weakly {e = e} {f = f} {g = x} {c = c} has means lists) premises))
    (λ lacks. follows (rules.lost_toggled_weakly {e = e} {f = f} {g = x} {c = c} has means lacks) premises))
other_enabled r s t e f g ids (references.simple c) h kept d has is m = absurd is
other_enabled r s t e f g ids (references.krate c) h kept d has is m = absurd is

named_enabled : (r : Resolved) (s : SettingModel) (t : Outline) (n : FeatureRow) (ids : List Id) (g : Text) (l : EdgeRow) → Holds r s t → Member t.features n → Member n.meanings (FeatureOf ids g) → Member ids l.edge.child → Member t.links l → l.edge.parent ≡ n.krate
    → HasFeature t l.edge.child g
named_enabled r s t n ids g l h at among means kept e =
    let w = naming r s t n (FeatureOf ids g) h at among in
    let d = subst (λ i. Derivable (questions r s) (Feature i n.name)) (sym e) (h.feature_of n at) in
    let has = subst (λ i. HasReference r i n.name w.reference) (sym e) w.has in
    let is = subst (λ i. Names r s.all_named i w.reference (FeatureOf ids g)) (sym e) w.names_it in
    other_enabled r s t l.edge n.name g ids w.reference h (h.link_of l kept) d has is means

-- ---- both ends of each planned

feature_there : (t : Outline) (n : FeatureRow) → Member t.features n → Stands t (AtFeature n.krate n.name)
feature_there t n at = feature_stands {p = n.krate} {f = n.name} (record { named = n; member = at; krate = refl; name = refl })

pub ends_stand : (r : Resolved) (s : SettingModel) (t : Outline) (from to : Endpoint) (tie : EdgeModel) → Holds r s t → IsDrawnEdge t from to tie → Stands t from × Stands t to
ends_stand r s t _ _ _ h (dep l at none) =
    let k = keeps_ends r s t h l at in (crate_stands {p = l.edge.parent} k.0, crate_stands {p = l.edge.child} k.1)
ends_stand r s t _ _ _ h (dep_feature l g at gives) =
    let k = keeps_ends r s t h l at in
    (crate_stands {p = l.edge.parent} k.0, feature_stands {p = l.edge.child} {f = g} (h.feature_in l.edge.child g (given_enabled r s t l g h at gives)))
ends_stand r s t _ _ _ h (toggles g l at kept by theirs) =
    let k = keeps_ends r s t h l kept in
    (crate_stands {p = g.by} (subst (HasCrate t) by k.0), feature_stands {p = g.krate} {f = g.name} (h.feature_in g.krate g.name (toggle_enabled (questions r s) g.by g.krate g.name (h.toggle_of g at))))
ends_stand r s t _ _ _ h (own n at) =
    (feature_there t n at, crate_stands {p = n.krate} (h.crate_in n.krate (crate_of_feature (questions r s) n.krate n.name (h.feature_of n at))))
ends_stand r s t _ _ _ h (names n g at among) =
    let w = naming r s t n (OwnFeature g) h at among in
    (feature_there t n at, feature_stands {p = n.krate} {f = g} (own_enabled r s t n g w.reference h (h.feature_of n at) w.has w.names_it))
ends_stand r s t _ _ _ h (names_crate n ids l at among means kept e) = (feature_there t n at, crate_stands {p = l.edge.child} (keeps_ends r s t h l kept).1)
ends_stand r s t _ _ _ h (names_feature n ids g l at among means kept e) =
    (feature_there t n at, feature_stands {p = l.edge.child} {f = g} (named_enabled r s t n ids g l h at among means kept e))
