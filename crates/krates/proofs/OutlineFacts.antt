-- Which crates, features and causes a document has under a setting, by its outline.
use Rattle.std.proofs.Common.{◌≡◌, ◌↔◌, List, map, Some, Contains, refl, subst}
use Rattle.krates_cm.specs.Document.{MetadataModel, ResolveModel, Text}
use Rattle.krates_rules.specs.Derivation.{Derivable}
use Rattle.krates_rules.specs.Facts.{Id, Cause, Fact, Crate, Feature, Lost}
use Rattle.krates_rules.specs.Questions.{questions}
use Rattle.krates_rules.specs.Resolved.{resolved}
use Rattle.krates_rules.specs.Setting.{SettingModel}
use Rattle.krates_rules.proofs.Members.{Member, member_of, contains_of, mapped_of, member_map}
use Rattle.krates_drawing.specs.Outline.{CrateRow, Outline}
use Rattle.krates_drawing.proofs.Holding.{Holds, holds}
use Rattle.krates_queries.specs.Drawn.{IsOutlineFor}
use Rattle.krates_rules.specs.Resolution.{IsDerived}
use Rattle.krates.specs.Build.{KeepsCrate}
use Rattle.krates.specs.KeptGraph.{named_fact}

-- for one graph there is one answer
pub derived_at : (m : MetadataModel) (s : SettingModel) (g : ResolveModel) (f : Fact) → m.resolve ≡ Some g → IsDerived m s f → Derivable (questions (resolved m g) s) f
derived_at m s g f is h =
    let same : h.graph ≡ g = cc (h.has_graph, is) in
    subst (λ z. Derivable (questions (resolved m z) s) f) same h.holds

pub derived_of : (m : MetadataModel) (s : SettingModel) (g : ResolveModel) (f : Fact) → m.resolve ≡ Some g → Derivable (questions (resolved m g) s) f → IsDerived m s f
derived_of m s g f is d = record { graph = g; has_graph = is; holds = d }

-- the ids of the crates of an outline
abbrev pub outlined_ids : Outline → List Id
outlined_ids t = map (λ (k : CrateRow). k.id) t.krates

module _ (m : MetadataModel) (s : SettingModel) (t : Outline) (h : IsOutlineFor m s t) where
  here : Holds (resolved m h.graph) s t
  here = holds (resolved m h.graph) s t h.holds

  at : (f : Fact) → IsDerived m s f → Derivable (questions (resolved m h.graph) s) f
  at f = derived_at m s h.graph f h.has_graph

  back : (f : Fact) → Derivable (questions (resolved m h.graph) s) f → IsDerived m s f
  back f = derived_of m s h.graph f h.has_graph

  pub kept_among : (i : Id) → KeepsCrate m s i ↔ Contains (outlined_ids t) i
  kept_among i = (
    λ k.
        (let w = here.crate_in i (at (Crate i) k) in
        contains_of (outlined_ids t) i (subst (Member (outlined_ids t)) w.id (member_map (λ (k : CrateRow). k.id) t.krates w.krate w.member))),
    λ c.
        (let w = mapped_of (λ (k : CrateRow). k.id) t.krates i (member_of (outlined_ids t) i c) in
        subst (KeepsCrate m s) w.is (back (Crate w.from.id) (here.crate_of w.from w.member))),
  )

  -- a derivable feature is one of the features of the outline
  pub enabled_among : (i : Id) (f : Text) → IsDerived m s (Feature i f) ↔ Contains (map named_fact t.features) (Feature i f)
  enabled_among i f = (
    λ d.
        (let w = here.feature_in i f (at (Feature i f) d) in
        let same : Feature w.named.krate w.named.name ≡ Feature i f = rw (w.krate, w.name) refl in
        contains_of (map named_fact t.features) (Feature i f) (subst (Member (map named_fact t.features)) same (member_map named_fact t.features w.named w.member))),
    λ c.
        (let w = mapped_of named_fact t.features (Feature i f) (member_of (map named_fact t.features) (Feature i f) c) in
        subst (IsDerived m s) w.is (back (named_fact w.from) (here.feature_of w.from w.member))),
  )

  pub some_kept : (i : Id) × KeepsCrate m s i
  some_kept = (h.holds.some.0, back (Crate h.holds.some.0) h.holds.some.1)

  pub none_lost : (c : Cause) → IsDerived m s (Lost c) → ⊥
  none_lost c l = here.none_lost c (at (Lost c) l)
