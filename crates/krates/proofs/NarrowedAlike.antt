-- A build under a narrower setting keeps a part, however one answer of an index corrected the document for each build.
use Rattle.std.proofs.Common.{◌≡◌, List, [], ◌∷◌, Option, Some, None, true, false, Contains, refl, sym, ap, subst}
use Rattle.std.proofs.lemmas.List.Sorted.{IsPermutation-refl}
use Rattle.std.specs.List.{AllZip}
use Rattle.krates_cm.specs.Document.{PackageModel, NodeModel, ResolveModel, MetadataModel, id_view, metadata_view}
use Rattle.krates_cm.specs.declared.metadata.Metadata.{Metadata}
use Rattle.krates_cm.specs.declared.package.Package.{Package}
use Rattle.krates_drawing.specs.Alike.{IsOutlineThere}
use Rattle.krates_drawing.specs.Narrower.{NarrowerDrawsNoMore}
use Rattle.krates_rules.proofs.Members.{member_of, contains_of}
use Rattle.krates_ids.specs.Identity.{Identity}
use Rattle.krates_rules.specs.Facts.{Fact, Crate}
use Rattle.krates_rules.specs.Naming.{IsNamedPart, naming}
use Rattle.krates_rules.specs.Narrowing.{IsNarrowing}
use Rattle.krates_rules.specs.Reordering.{ReordersPackage, ReordersNode, ReordersResolve, Reorders, IsOrderFree}
use Rattle.krates_rules.specs.Resolved.{ReadsAs, resolved}
use Rattle.krates_rules.specs.Setting.{SettingModel}
use Rattle.krates_rules.specs.Resolution.{IsDerived}
use Rattle.krates.specs.Build.{IsResolvable, KeepsCrate}
use Rattle.krates_drawing.specs.Listed.{AreThosePackages}
use Rattle.krates.specs.BuildLaws.{IsBuildNamedPart, IsBuildNarrowing, KeepsPackages, ListsSame}
use Rattle.krates.proofs.BuildsAlike.{outline_for_there, refused_there}
use Rattle.krates.proofs.CorrectedAlike.{OneCorrection, seen_alike}
use Rattle.krates_drawing.proofs.DivisionLemmas.{ReadsOnce}
use Rattle.krates.proofs.ListedAlike.{same_there}
use Rattle.krates.proofs.NarrowedBuilds.{part, packages_part, outlines_part, refusals}
use Rattle.krates.proofs.SeenLemmas.{resolvable_seen}

-- ---- a document differs from itself only in order

own_packages : (xs : List PackageModel) → AllZip ReordersPackage xs xs
own_packages [] = tt
own_packages (x ∷ xs) = (record { features = λ name. refl; rest = refl }, own_packages xs)

own_node : (n : NodeModel) → ReordersNode n n
own_node n = record { deps = IsPermutation-refl n.deps; dependencies = IsPermutation-refl n.dependencies; features = IsPermutation-refl n.features; rest = refl }

own_nodes : (xs : List NodeModel) → AllZip ReordersNode xs xs
own_nodes [] = tt
own_nodes (x ∷ xs) = (own_node x, own_nodes xs)

own_graph : (o : Option ResolveModel) → ReordersResolve o o
own_graph None = refl
own_graph (Some g) = record { nodes = g.nodes; each = own_nodes g.nodes; moved = IsPermutation-refl g.nodes; root = refl }

own_order : (m : MetadataModel) → Reorders m m
own_order m = record {
  packages = record { packages = m.packages; each = own_packages m.packages; moved = IsPermutation-refl m.packages };
  members = IsPermutation-refl m.workspace_members;
  resolve = own_graph m.resolve;
  rest = refl;
}

-- ---- the law

lists_same : (p q : Metadata) (wide narrow : SettingModel) → Reorders (metadata_view q) (metadata_view p) → ((f : Fact) → IsDerived (metadata_view q) narrow f → IsDerived (metadata_view p) wide f) → (is js : List Identity) (xs ys : List Package)
    → AreThosePackages q.packages.items (KeepsCrate (metadata_view q) narrow) is xs → AreThosePackages p.packages.items (KeepsCrate (metadata_view p) wide) js ys → (pkg : Package) → Contains xs pkg → ListsSame ys pkg
lists_same p q wide narrow back facts is js xs ys a b pkg c =
    let both = (a.exactly pkg).0 c in
    let s = same_there q p pkg back (member_of q.packages.items pkg both.0) in
    let text : id_view s.pkg.id ≡ id_view pkg.id = ap (λ (z : PackageModel). z.id) s.same.rest in
    record {
      other = s.pkg;
      among = (b.exactly s.pkg).1 (
        contains_of p.packages.items s.pkg s.member,
        record { id = both.1.id; reads = subst (λ t. ReadsAs t both.1.id) (sym text) both.1.reads; holds = facts (Crate both.1.id) both.1.holds },
      );
      same = s.same;
    }

pub build_narrowing : OneCorrection → IsOutlineThere → IsOrderFree → ReadsOnce → IsNarrowing → NarrowerDrawsNoMore → IsBuildNarrowing
build_narrowing one there free once law fewer answer m p q wide narrow step x y =
    let own = own_order (metadata_view m) in
    let back = seen_alike one answer m m q p own y x in
    let alike = free (metadata_view q) (metadata_view p) back in
    let facts : (f : Fact) → IsDerived (metadata_view q) narrow f → IsDerived (metadata_view p) wide f = λ f h. part law (metadata_view p) wide narrow step f ((alike.facts narrow f).0 h) in
    let seen : IsResolvable (metadata_view m) → IsResolvable (metadata_view p) = resolvable_seen answer m p x in
    record {
      facts = facts;
      packages = lists_same p q wide narrow back facts;
      drawn = λ r t v h k. outlines_part fewer (metadata_view p) wide narrow step (seen r) t v (outline_for_there there (metadata_view q) (metadata_view p) narrow t back (seen r) h) k;
      refusals = λ ids s e h. refusals once law fewer m p wide narrow ids step s e (refused_there there m m q p narrow (λ r. (r, seen r)) (free (metadata_view m) (metadata_view m) own) alike back e h);
    }

pub packages_kept : IsNarrowing → KeepsPackages
packages_kept law p wide narrow step = packages_part p wide narrow (part law (metadata_view p) wide narrow step)

-- ---- what a name means

named_facts : IsNamedPart → (p : MetadataModel) (s : SettingModel) (f : Fact) → IsDerived p (naming s false) f → IsDerived p (naming s true) f
named_facts law p s f h = record { graph = h.graph; has_graph = h.has_graph; holds = law (resolved p h.graph) s f h.holds }

pub build_named_part : OneCorrection → IsOrderFree → IsNamedPart → IsBuildNamedPart
build_named_part one free law answer m p q s x y =
    let back = seen_alike one answer m m q p (own_order (metadata_view m)) y x in
    let alike = free (metadata_view q) (metadata_view p) back in
    let facts : (f : Fact) → IsDerived (metadata_view q) (naming s false) f → IsDerived (metadata_view p) (naming s true) f = λ f h. named_facts law (metadata_view p) s f ((alike.facts (naming s false) f).0 h) in
    record { facts = facts; packages = lists_same p q (naming s true) (naming s false) back facts }
