-- The outline of a narrower setting is a part of the outline of the wider one.
use Rattle.std.proofs.Common.{◌≡◌, Contains, refl, sym, subst}
use Rattle.krates_cm.specs.Document.{NodeModel}
use Rattle.krates_rules.specs.Admission.{NoneDoubled}
use Rattle.krates_rules.specs.Facts.{Edge}
use Rattle.krates_rules.specs.Narrowing.{IsNarrower, IsNarrowing, asks_targets, excludes_more, ignores_more}
use Rattle.krates_rules.specs.Questions.{questions}
use Rattle.krates_rules.specs.Reordering.{SayAlike, ReordersPackage}
use Rattle.krates_rules.specs.Resolved.{Resolved}
use Rattle.krates_rules.specs.Setting.{SettingModel, IsIgnored}
use Rattle.krates_rules.proofs.OnlyOne.{one_package, one_node, one_dep}
use Rattle.krates_drawing.specs.Narrower.{NarrowerDrawsNoMore}
use Rattle.krates_drawing.specs.Outline.{EdgeRow, IsEdgeRow, IsFeatureRow, Outline, IsOutline}
use Rattle.krates_drawing.proofs.ById.{crates_total, features_total, links_total, toggles_total}
use Rattle.krates_drawing.proofs.FewerLines.{IsPartOutline, draws_no_more}
use Rattle.krates_drawing.proofs.Holding.{holds}
use Rattle.krates_drawing.proofs.OneOutline.{Carries, ReadsOneReference, RowsAlike, rows_alike, rows_within}
use Rattle.krates_drawing.proofs.Ordered.{part_within}
use Rattle.krates_drawing.proofs.SaidAlike.{SaidAlike, declared_alike, place_alike}

-- ---- a document says the same as itself

say_itself : (r : Resolved) → NoneDoubled r.metadata r.graph → SayAlike r r
say_itself r none = record {
  packages = λ i p q a b.
      let same = one_package r i p q none a b in
      subst (λ z. ReordersPackage p z) same (record { features = λ name. refl; rest = refl });
  features = λ i n o a b f.
      let same = one_node r i n o none a b in
      (λ h. subst (λ (z : NodeModel). Contains z.features f) same h, λ h. subst (λ (z : NodeModel). Contains z.features f) (sym same) h);
  deps = λ e d c a b. one_dep r e.parent e.child a.node b.node d c none a.has_node b.has_node a.has_dep b.has_dep;
  referents = λ all i name c. (λ x. x, λ x. x);
}

pub said_itself : (r : Resolved) (s : SettingModel) → NoneDoubled r.metadata r.graph → SaidAlike r r s
said_itself r s none =
    let say = say_itself r none in
    record {
      facts = λ f. (λ d. d, λ d. d);
      packages = say.packages;
      features = say.features;
      declared = declared_alike r r s say;
      place = place_alike r r s say;
      referents = say.referents s.all_named;
    }

-- ---- rows under two settings

-- the row of an edge under one setting is its row under any that doesn't ignore it
link_wider : (r : Resolved) (s z : SettingModel) (l : EdgeRow) → (IsIgnored r z l.edge → ⊥) → IsEdgeRow r s l → IsEdgeRow r z l
link_wider r s z l regarded h = record {
  placed = record { dependency = h.placed.dependency; declared = record { declares = h.placed.declared.declares; not_ignored = regarded }; place = h.placed.place };
  node = h.node;
  has_node = h.has_node;
  given = h.given;
}

rows_wider : ReadsOneReference → (r : Resolved) (s z : SettingModel) → NoneDoubled r.metadata r.graph → s.all_named ≡ z.all_named → RowsAlike r r s z
rows_wider one r s z none naming =
    let w = rows_alike one r r z (said_itself r z none) in
    record {
      krates = w.krates;
      links = λ k l e p q. w.links k l e (link_wider r s z k (subst (λ (f : Edge). IsIgnored r z f → ⊥) (sym e) q.placed.declared.not_ignored) p) q;
      features = λ k l e f p q. w.features k l e f (subst (λ b. IsFeatureRow r b k) naming p) q;
    }

part_outline : (r : Resolved) (s z : SettingModel) → RowsAlike r r s z → Carries (questions r s) (questions r z) → (t v : Outline) → IsOutline r s t → IsOutline r z v → IsPartOutline t v
part_outline r s z w c t v p q =
    let within = rows_within r r s z w c t v (holds r s t p) (holds r z v q) in
    record {
      krates = part_within _ crates_total t.krates v.krates p.by_id q.by_id within.krates;
      links = part_within _ links_total t.links v.links p.by_ends q.by_ends within.links;
      features = part_within _ features_total t.features v.features p.by_crate q.by_crate within.features;
      toggled = part_within _ toggles_total t.toggled v.toggled p.by_toggling q.by_toggling within.toggled;
    }

-- ---- the law

-- a name means as much under the narrower setting
named_alike : (wide narrow : SettingModel) → IsNarrower wide narrow → narrow.all_named ≡ wide.all_named
named_alike wide _ (excludes_more exclusions more) = refl
named_alike wide _ (ignores_more ignored kind scope more) = refl
named_alike wide _ (asks_targets targets none) = refl

pub narrower_draws_no_more : IsNarrowing → ReadsOneReference → NarrowerDrawsNoMore
narrower_draws_no_more law one r none wide narrow step t v p q =
    draws_no_more t v (part_outline r narrow wide (rows_wider one r narrow wide none (named_alike wide narrow step)) (law r wide narrow step).facts t v p q)
