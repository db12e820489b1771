-- Where a second document and setting answer the rules yes wherever the first do, what is derivable of the first is derivable of the second.
use Rattle.std.proofs.Common.{List, Option}
use Rattle.krates_cm.specs.Document.{Text, TargetModel, DependencyModel}
use Rattle.krates_text.specs.FeatureReference.{Reference}
use Rattle.krates_rules.specs.Facts.{Id, Edge}
use Rattle.krates_rules.specs.Features.{HasReference}
use Rattle.krates_rules.specs.Resolved.{Resolved}
use Rattle.krates_units.specs.BuildFacts.{Fact, CompiledUnit, Platform}
use Rattle.krates_units.specs.BuildRules.{Rule, IsAsked, IsBuiltFrom, IsLinkedFrom}
use Rattle.krates_units.specs.BuildRules as rules
use Rattle.krates_units.specs.BuildSetting.{BuildSettingModel}
use Rattle.krates_units.specs.BuildTargets.{HasTarget, HasTargetThat, LinksNatively}
use Rattle.krates_units.specs.Built.{IsDerivable, follows}
use Rattle.krates_units.specs.Machines.{PassesOn}
use Rattle.krates_units.specs.Requests.{IsBuildRoot, IsRequested, HasFeature, KnowsOptional, GivesFeature}
use Rattle.krates_units.specs.Requests as requests
use Rattle.krates_units.specs.Resolves.{Resolves, LacksEdge}
use Rattle.krates_units.specs.Sides.{StartsOn, Counts, Leads, LooksOn, HasFeaturesOf, machine_of}
use Rattle.krates_units.specs.declared.sides.Side.{Side}

-- the second document and setting answer each question of the rules yes wherever the first do
pub record AnsweredWithin (r : Resolved) (s : BuildSettingModel) (t : Resolved) (z : BuildSettingModel) : Type 0 where
  pub root : (i : Id) → IsBuildRoot r s i → IsBuildRoot t z i
  pub requested : (i : Id) (v : Reference) → IsRequested r s i v → IsRequested t z i v
  pub reference : (i : Id) (f : Text) (v : Reference) → HasReference r i f v → HasReference t i f v
  pub feature : (i : Id) (f : Text) → HasFeature r i f → HasFeature t i f
  pub optional : (i : Id) (name : Text) → KnowsOptional r i name → KnowsOptional t i name
  pub resolves : (e : Edge) (d : DependencyModel) → Resolves r e d → Resolves t e d
  pub lacks : (i : Id) (d : DependencyModel) → LacksEdge r i d → LacksEdge t i d
  pub starts : (i : Id) (n : Side) → StartsOn r s i n → StartsOn t z i n
  pub counts : (n : Side) (e : Edge) → Counts r s n e → Counts t z n e
  pub leads : (n : Side) (e : Edge) (m : Side) → Leads r s n e m → Leads t z n e m
  pub looks : (e : Edge) (m : Side) → LooksOn r s e m → LooksOn t z e m
  pub asked : (u : CompiledUnit) → IsAsked r s u → IsAsked t z u
  pub target : (i : Id) (l : TargetModel) → HasTarget r i l → HasTarget t i l
  pub native : (i : Id) → LinksNatively r i → LinksNatively t i
  pub passes : (k : Platform) (cfg : Option Text) → PassesOn (machine_of s k) cfg → PassesOn (machine_of z k) cfg
  pub features_of : (n m : Side) → HasFeaturesOf s n m → HasFeaturesOf z n m

module _ (r : Resolved) (s : BuildSettingModel) (t : Resolved) (z : BuildSettingModel) (y : AnsweredWithin r s t z) where
  gives_within : (d : DependencyModel) (c : Id) (g : Text) → GivesFeature r d c g → GivesFeature t d c g
  gives_within d c _ (requests.declared {feature = g} h) = requests.declared {feature = g} h
  gives_within d c _ (requests.by_default on has) = requests.by_default on (y.feature c _ has)

  target_within : (i : Id) (P : TargetModel → Type 0) → HasTargetThat r i P → HasTargetThat t i P
  target_within i P h = (h.0, y.target i h.0 h.1, h.2)

  built_within : (k : Platform) (e : Edge) (l : TargetModel) → IsBuiltFrom r s k e l → IsBuiltFrom t z k e l
  built_within k e l h = record { passes = y.passes k e.cfg h.passes; has = y.target e.child l h.has; library = h.library }

  linked_within : (k : Platform) (e : Edge) (l : TargetModel) → IsLinkedFrom r s k e l → IsLinkedFrom t z k e l
  linked_within k e l h = record {
    passes = y.passes k e.cfg h.passes;
    has = y.target e.child l h.has;
    linkable = h.linkable;
    native = y.native e.child h.native;
    script = target_within e.child _ h.script;
  }

  rule_within : {ps : List Fact} {f : Fact} → Rule r s ps f → Rule t z ps f
  rule_within (rules.root_met {p} h) = rules.root_met (y.root p h)
  rule_within (rules.root_linked {p} {v} h) = rules.root_linked (y.requested p v h)
  rule_within (rules.linked_reference {p} {w} {f} {v} h) = rules.linked_reference {f = f} (y.reference p f v h)
  rule_within (rules.linked_feature {p} {w} {g}) = rules.linked_feature
  rule_within (rules.linked_name {p} {w} {v} {c} h) = rules.linked_name {v = v} h
  rule_within (rules.linked_implied {p} {w} {c} {g} h k) = rules.linked_implied {g = g} (y.optional p c h) (y.feature p c k)
  rule_within (rules.linked_toggled {e} {d} {w} {v} {g} h k l) = rules.linked_toggled {e = e} {d = d} {w = w} {v = v} (y.resolves e d h) k l
  rule_within (rules.linked {e} {d} {w} h k) = rules.linked {e = e} {d = d} {w = w} (y.resolves e d h) k
  rule_within (rules.linked_met {e} {d}) = rules.linked_met {e = e} {d = d}
  rule_within (rules.linked_given {e} {d} {g} h) = rules.linked_given {e = e} {d = d} (gives_within d e.child g h)
  rule_within (rules.lost {p} {d} {w} h k) = rules.lost {w = w} (y.lacks p d h) k
  rule_within (rules.root_activated {p} {n} h k) = rules.root_activated (y.root p h) (y.starts p n k)
  rule_within (rules.root_reference {p} {n} {v} h k) = rules.root_reference (y.requested p v h) (y.starts p n k)
  rule_within (rules.reference {p} {n} {f} {v} h) = rules.reference {f = f} (y.reference p f v h)
  rule_within (rules.feature {p} {n} {g}) = rules.feature
  rule_within (rules.name {p} {n} {c}) = rules.name
  rule_within (rules.name_strongly {e} {d} {n} {g} h k) = rules.name_strongly {e = e} {d = d} {n = n} {g = g} (y.counts n e h) k
  rule_within (rules.implied {e} {d} {n} {g} h k l) =
      rules.implied {e = e} {d = d} {n = n} {g = g} (y.counts n e h) k (y.feature e.parent _ l)
  rule_within (rules.used {e} {d} {n} h k) = rules.used {e = e} {d = d} {n = n} (y.counts n e h) k
  rule_within (rules.used_by_name {e} {d} {n} h) = rules.used_by_name {e = e} {d = d} {n = n} (y.counts n e h)
  rule_within (rules.used_activated {e} {d} {n} {m} h) = rules.used_activated {e = e} {d = d} {n = n} {m = m} (y.leads n e m h)
  rule_within (rules.used_given {e} {d} {n} {m} {g} h k) =
      rules.used_given {e = e} {d = d} {n = n} {m = m} {g = g} (gives_within d e.child g h) (y.leads n e m k)
  rule_within (rules.toggled {e} {d} {n} {m} {v} {g} h k) = rules.toggled {e = e} {d = d} {n = n} {m = m} {v = v} {g = g} h (y.leads n e m k)
  rule_within (rules.available {p} {f}) = rules.available
  rule_within (rules.available_below {e} {d} {m} {f} h) = rules.available_below {e = e} {d = d} {m = m} {f = f} (y.looks e m h)
  rule_within (rules.asked_library {u} h k) = rules.asked_library (y.asked u h) k
  rule_within (rules.asked {u} h k) = rules.asked (y.asked u h) k
  rule_within (rules.library_below {u} {e} {d} {l} {n} {at} h k b f g) =
      rules.library_below {u = u} {e = e} {d = d} {l = l} {n = n} {at = at} h k (built_within u.placement.platform e l b)
      (y.features_of u.placement.side n f) g
  rule_within (rules.needed_library {e} {d} {k} {u}) = rules.needed_library {e = e} {d = d} {k = k}
  rule_within (rules.own_library {u} {l} {at} h k b g) = rules.own_library {u = u} {l = l} {at = at} h (y.target u.krate l k) b g
  rule_within (rules.own_program {u} {b} h k l) = rules.own_program {u = u} {b = b} h (y.target u.krate b k) l
  rule_within (rules.script_run {u} h) = rules.script_run {u = u} (target_within u.krate _ h)
  rule_within (rules.script_compiled {p} {at}) = rules.script_compiled {p = p} {at = at}
  rule_within (rules.script_below {e} {d} {l} {m} {n} h b f) =
      rules.script_below {e = e} {d = d} {l = l} {m = m} {n = n} h (built_within _ e l b) (y.features_of m n f)
  rule_within (rules.run_below {u} {e} {d} {l} {n} {at} h k q b f g) =
      rules.run_below {u = u} {e = e} {d = d} {l = l} {n = n} {at = at} h k (target_within u.krate _ q)
      (linked_within u.placement.platform e l b) (y.features_of u.placement.side n f) g

  pub derivable_within : {f : Fact} → IsDerivable r s f → IsDerivable t z f
  derivable_within (follows rule below) = follows (rule_within rule) (λ g m. derivable_within (below g m))
