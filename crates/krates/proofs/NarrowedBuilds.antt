-- A build under a narrower setting keeps a part of what the wider one keeps.
use Rattle.std.proofs.Common.{◌≡◌, ◌⊎◌, ℕ, ◌<◌, ◌≤◌, ◌^◌, List, length, Contains, refl, sym, subst, inl, inr, arith}
use Rattle.krates_cm.specs.Document.{MetadataModel, metadata_view}
use Rattle.krates_cm.specs.declared.metadata.Metadata.{Metadata}
use Rattle.krates_cm.specs.declared.package.Package.{Package}
use Rattle.krates_drawing.specs.Drawing.{planned_edges, planned_nodes}
use Rattle.krates_drawing.specs.Narrower.{DrawsNoMore, NarrowerDrawsNoMore}
use Rattle.krates_drawing.specs.Outline.{IsOutline, Outline}
use Rattle.krates_ids.specs.Identity.{Identity}
use Rattle.krates_ids.specs.declared.error.Error.{Error}
use Rattle.krates_ids.specs.declared.error.Error.TheVariants as errors
use Rattle.krates_rules.specs.Admission.{AreIdsOf, IsDoubled}
use Rattle.krates_rules.specs.Facts.{Fact, Crate, Lost}
use Rattle.krates_rules.specs.Narrowing.{IsNarrower, IsNarrowing}
use Rattle.krates_rules.specs.Resolved.{id_of, resolved}
use Rattle.krates_rules.specs.SelectionRefusals.{cause_of}
use Rattle.krates_rules.specs.Setting.{SettingModel}
use Rattle.krates_rules.specs.Resolution.{IsDerived}
use Rattle.krates.specs.Build.{IsResolvable, KeepsCrate, GraphRefusal, IsRefusedSeeing}
use Rattle.krates_drawing.specs.Listed.{AreThosePackages}
use Rattle.krates.specs.BuildLaws.{Succeeds}
use Rattle.krates_queries.specs.Drawn.{CanBeNumbered, IsOutlineFor}
use Rattle.krates_drawing.proofs.DivisionLemmas.{ReadsOnce}
use Rattle.krates_rules.proofs.AdmittedTexts.{none_invalid}
use Rattle.krates.proofs.OutlineFacts.{derived_of}
use Rattle.krates.proofs.ResolvableLemmas.{admitted_of}

-- ---- the law

pub part : IsNarrowing → (p : MetadataModel) (wide narrow : SettingModel) → IsNarrower wide narrow → (f : Fact) → IsDerived p narrow f → IsDerived p wide f
part law p wide narrow step f h = record { graph = h.graph; has_graph = h.has_graph; holds = (law (resolved p h.graph) wide narrow step).facts f h.holds }

-- each package listed as kept under the narrower setting is listed as kept under the wider one
pub packages_part : (p : Metadata) (wide narrow : SettingModel) → ((f : Fact) → IsDerived (metadata_view p) narrow f → IsDerived (metadata_view p) wide f) → (is js : List Identity) (xs ys : List Package)
    → AreThosePackages p.packages.items (KeepsCrate (metadata_view p) narrow) is xs → AreThosePackages p.packages.items (KeepsCrate (metadata_view p) wide) js ys
    → (pkg : Package) → Contains xs pkg → Contains ys pkg
packages_part p wide narrow facts is js xs ys a b pkg c =
    let both = (a.exactly pkg).0 c in
    (b.exactly pkg).1 (both.0, record { id = both.1.id; reads = both.1.reads; holds = facts (Crate both.1.id) both.1.holds })

-- a part of what can be numbered can be numbered
pub outlines_part : NarrowerDrawsNoMore → (p : MetadataModel) (wide narrow : SettingModel) → IsNarrower wide narrow → IsResolvable p → (t v : Outline) → IsOutlineFor p narrow t → IsOutlineFor p wide v → DrawsNoMore t v
outlines_part law p wide narrow step r t v a b =
    let g = r.graph in
    let here : a.graph ≡ g = cc (a.has_graph, r.has_graph) in
    let there : b.graph ≡ g = cc (b.has_graph, r.has_graph) in
    let first = subst (λ z. IsOutline (resolved p z) narrow t) here a.holds in
    let second = subst (λ z. IsOutline (resolved p z) wide v) there b.holds in
    law (resolved p g) r.none_doubled wide narrow step t v first second

too_few : (n k : ℕ) → n ≤ k → k < 2 ^ 32 → 2 ^ 32 ≤ n → ⊥
too_few n k le lt many = absurd (omega (arith, le, lt, many))

beyond : (t v : Outline) → DrawsNoMore t v → CanBeNumbered v → (2 ^ 32 ≤ length (planned_nodes t)) ⊎ (2 ^ 32 ≤ length (planned_edges t)) → ⊥
beyond t v w n (inl nodes) = too_few (length (planned_nodes t)) (length (planned_nodes v)) w.nodes n.nodes nodes
beyond t v w n (inr edges) = too_few (length (planned_edges t)) (length (planned_edges v)) w.edges n.edges edges

not_too_many : NarrowerDrawsNoMore → (m p : Metadata) (wide narrow : SettingModel) (ids : List Identity) → IsNarrower wide narrow → Succeeds m p wide ids → GraphRefusal (metadata_view p) narrow errors.TooMany → ⊥
not_too_many law m p wide narrow ids step s h =
    beyond h.outline s.outline (outlines_part law (metadata_view p) wide narrow step s.seen h.outline s.outline h.is_outline s.is_outline) s.numbered h.many

pub refusals : ReadsOnce → IsNarrowing → NarrowerDrawsNoMore → (m p : Metadata) (wide narrow : SettingModel) (ids : List Identity) → IsNarrower wide narrow → Succeeds m p wide ids → (e : Error) → IsRefusedSeeing m p narrow e
    → (e ≡ errors.NoRootKrates) ⊎ (e ≡ errors.Memory)
refusals once law fewer m p wide narrow ids step s errors.NoResolveGraph (inl h) = let is = s.resolvable.has_graph in absurd cc
refusals once law fewer m p wide narrow ids step s (errors.InvalidId t) (inl h) =
    let both = admitted_of (metadata_view m) s.resolvable in
    let a = both.1 in
    let same : h.graph ≡ a.graph = cc (h.has_graph, a.has_graph) in
    absurd (none_invalid once (metadata_view m) h.graph both.0 _ (subst (λ g. AreIdsOf (metadata_view m) g both.0) (sym same) a.read) h.holds)
refusals once law fewer m p wide narrow ids step s (errors.Doubled kid) (inl h) =
    let a = s.resolvable in
    let same : h.graph ≡ a.graph = cc (h.has_graph, a.has_graph) in
    absurd (a.none_doubled _ (subst (λ g. IsDoubled (metadata_view m) g (id_of kid)) same h.holds))
refusals once law fewer m p wide narrow ids step s errors.Memory h = inr refl
refusals once law fewer m p wide narrow ids step s e (inl h) = absurd h
refusals once law fewer m p wide narrow ids step s errors.NoRootKrates (inr h) = inl refl
refusals once law fewer m p wide narrow ids step s errors.TooMany (inr h) = absurd (not_too_many fewer m p wide narrow ids step s h.1)
refusals once law fewer m p wide narrow ids step s (errors.Lost what) (inr h) =
    let d = h.1 in
    let lost = derived_of (metadata_view p) narrow d.graph (Lost (cause_of what)) d.has_graph d.holds in
    absurd (s.none_lost (cause_of what) (part law (metadata_view p) wide narrow step (Lost (cause_of what)) lost))
refusals once law fewer m p wide narrow ids step s e (inr h) = absurd h.1.holds
