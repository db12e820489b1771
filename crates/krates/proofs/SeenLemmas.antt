-- A correction changes no id, so a document whose packages are corrected is admitted with the same ids.
use Rattle.std.proofs.Common.{◌≡◌, List, [], ◌∷◌, Option, Some, None, Contains, map, refl, sym, ap, ◌∙◌, subst, inr}
use Rattle.std.specs.List.{AllByRecursion, AllZip}
use Rattle.krates_cm.specs.Document.{MetadataModel, ResolveModel, PackageModel, Text, id_view, package_view, metadata_view}
use Rattle.krates_cm.specs.declared.metadata.Metadata.{Metadata}
use Rattle.krates_cm.specs.declared.package.Package.{Package}
use Rattle.krates_drawing.specs.declared.edge.Edge.{Edge}
use Rattle.krates_ids.specs.Identity.{Identity, Reads}
use Rattle.krates_ids.specs.declared.index.IndexAnswer.{IndexAnswer}
use Rattle.krates_ids.specs.declared.index.PackageNames.{PackageNames}
use Rattle.krates_rules.specs.Admission.{IsAdmitted, IsDoubled, IsDoubledIn, StandsForId, package_texts, doubled_package, doubled_node, doubled_dep, of_package, of_member, of_root, of_node, of_dep, IdsModel}
use Rattle.krates_rules.specs.Facts.{Id}
use Rattle.krates_rules.specs.NamedIds.{IsReadOf, NamesReadIds, named_ids}
use Rattle.krates_rules.specs.Resolved.{HasGraphWith, resolved}
use Rattle.std.specs.Prelude.{Result, Ok, Err, IfOk, IfErr}
use Rattle.krates_ids.specs.declared.error.Error.{Error}
use Rattle.krates_rules.specs.Setting.{SettingModel}
use Rattle.krates.specs.Build.{IsResolvable, IsBuilt, GraphRefusal, BuildRefusal}
use Rattle.krates_queries.specs.Kept.{KeptCrates}
use Rattle.krates_document.specs.CorrectedDocument.{IsCorrectedPackage, IsCorrectedDocument}
use Rattle.krates.specs.Indexed.{Answering, HasNames, IsSeen, Sees, IsSeenBy}
use Rattle.krates.proofs.ResolvableLemmas.{admitted_of, resolvable}

-- the texts of the ids are unchanged
same_texts : (answer : IndexAnswer) (xs ys : List Package) → AllZip (IsCorrectedPackage answer) xs ys
    → map (λ (p : PackageModel). p.id) (map package_view ys) ≡ map (λ (p : PackageModel). p.id) (map package_view xs)
same_texts answer [] [] h = refl
same_texts answer [] (y ∷ ys) h = absurd h
same_texts answer (x ∷ xs) [] h = absurd h
same_texts answer (x ∷ xs) (y ∷ ys) h =
    ap (λ t. t ∷ map (λ (p : PackageModel). p.id) (map package_view ys)) (ap (λ (p : Package). id_view p.id) h.0.nothing_else) ∙ ap (λ ts. id_view x.id ∷ ts) (same_texts answer xs ys h.1)

same_doubled : (m n : MetadataModel) (g : ResolveModel) (id : Id) → package_texts n ≡ package_texts m → IsDoubled n g id → IsDoubled m g id
same_doubled m n g id texts (doubled_package twice) = doubled_package (subst (λ ts. IsDoubledIn ts id) texts twice)
same_doubled m n g id texts (doubled_node twice) = doubled_node twice
same_doubled m n g id texts (doubled_dep node among twice) = doubled_dep node among twice

same_admitted : (m n : MetadataModel) (ids : IdsModel) → n.resolve ≡ m.resolve → n.workspace_members ≡ m.workspace_members → package_texts n ≡ package_texts m
    → IsAdmitted m ids → IsAdmitted n ids
same_admitted m n ids graph members texts a = record {
  graph = a.graph;
  has_graph = graph ∙ a.has_graph;
  read = record {
    packages = subst (λ ts. AllZip Reads ts ids.packages) (sym texts) a.read.packages;
    members = subst (λ ts. AllZip Reads ts ids.members) (sym members) a.read.members;
    root = a.read.root;
    nodes = a.read.nodes;
    deps = a.read.deps;
    versions = a.read.versions;
  };
  none_doubled = λ id d. a.none_doubled id (same_doubled m n a.graph id texts d);
}

admitted_corrected : (answer : IndexAnswer) (given seen : Metadata) (ids : IdsModel) → IsCorrectedDocument answer given seen → IsAdmitted (metadata_view given) ids → IsAdmitted (metadata_view seen) ids
admitted_corrected answer given seen ids c a =
    same_admitted (metadata_view given) (metadata_view seen) ids
    (ap (λ (m : Metadata). (metadata_view m).resolve) c.nothing_else)
    (ap (λ (m : Metadata). (metadata_view m).workspace_members) c.nothing_else)
    (same_texts answer given.packages.items seen.packages.items c.packages) a

-- so the document that is resolved is admitted with the ids of the given one
admitted_by : (answer : Option IndexAnswer) (given seen : Metadata) (ids : IdsModel) → IsSeenBy answer given seen → IsAdmitted (metadata_view given) ids → IsAdmitted (metadata_view seen) ids
admitted_by None given seen ids is_seen a = subst (λ (m : Metadata). IsAdmitted (metadata_view m) ids) (sym is_seen) a
admitted_by (Some answer) given seen ids is_seen a = admitted_corrected answer given seen ids is_seen a

pub admitted_seen : {S : Type 0} (may_answer : Answering S) (index : Option S) (given seen : Metadata) (ids : IdsModel) → IsSeen may_answer index given seen
    → IsAdmitted (metadata_view given) ids → IsAdmitted (metadata_view seen) ids
admitted_seen may_answer index given seen ids s a = subst (λ (m : Metadata). IsAdmitted (metadata_view m) ids) s.holds (admitted_by s.answer given s.seen ids s.is_seen a)

-- so if the document that was given can be resolved, the corrected one can
pub resolvable_seen : (answer : Option IndexAnswer) (given seen : Metadata) → IsSeenBy answer given seen → IsResolvable (metadata_view given) → IsResolvable (metadata_view seen)
resolvable_seen answer given seen is_seen r =
    let a = admitted_of (metadata_view given) r in
    resolvable (metadata_view seen) a.0 (admitted_by answer given seen a.0 is_seen a.1)

-- ---- what is said about the document that is resolved

-- what holds of the document that is resolved
seen_holds : {S : Type 0} (may_answer : Answering S) (index : Option S) (given seen : Metadata) (P : Metadata → Type 0) → IsSeen may_answer index given seen → P seen → Sees may_answer index given P
seen_holds may_answer index given seen P s h = record { answer = s.answer; is_answer = s.is_answer; seen = s.seen; is_seen = s.is_seen; holds = subst P (sym s.holds) h }

-- without an index the given one is seen
pub unindexed : {S : Type 0} (may_answer : Answering S) (index : Option S) (m : Metadata) → index ≡ None → IsSeen may_answer index m m
unindexed may_answer index m none =
    subst (λ i. IsSeen may_answer i m m) (sym none) (record { answer = None; is_answer = refl; seen = m; is_seen = refl; holds = refl })

-- with one, what its answer corrects
pub answered : {S : Type 0} (may_answer : Answering S) (index : Option S) (source : S) (m seen : Metadata) (names : PackageNames) (answer : IndexAnswer) → index ≡ Some source
    → HasNames m.packages.items names → may_answer source names answer → IsCorrectedDocument answer m seen → IsSeen may_answer index m seen
answered may_answer index source m seen names answer is has given corrected =
    subst (λ i. IsSeen may_answer i m seen) (sym is) (record { answer = Some answer; is_answer = (names, has, given); seen = seen; is_seen = corrected; holds = refl })

-- without an index it is the given one
pub as_given : {S : Type 0} (may_answer : Answering S) (m : Metadata) (P : Metadata → Type 0) → Sees may_answer None m P → P m
as_given may_answer m P h = subst P (subst (λ a. IsSeenBy a m h.seen) h.is_answer h.is_seen) h.holds

pub sees_built : {S F N E : Type 0} (may_answer : Answering S) (index : Option S) (given seen : Metadata) (s : SettingModel) (filters : F → Package → F → Type 0) (made : Package → N → Type 0)
    (made_edge : Edge → E → Type 0) (before after : F) (result : Result (KeptCrates N E) Error) → IsSeen may_answer index given seen → IfOk result (IsBuilt filters made made_edge seen s before after)
    → IfOk result (λ k. Sees may_answer index given (λ m. IsBuilt filters made made_edge m s before after k))
sees_built may_answer index given seen s filters made made_edge before after (Ok k) is_seen b = seen_holds may_answer index given seen (λ m. IsBuilt filters made made_edge m s before after k) is_seen b
sees_built may_answer index given seen s filters made made_edge before after (Err e) is_seen b = tt

-- the texts that have to be ids are the same, so the ids that are read of the corrected document are read of the given one
same_stands : (m n : MetadataModel) (g : ResolveModel) (t : Text) → n.workspace_members ≡ m.workspace_members → package_texts n ≡ package_texts m → StandsForId n g t → StandsForId m g t
same_stands m n g t members texts (of_package among) = of_package (subst (λ ts. Contains ts t) texts among)
same_stands m n g t members texts (of_member among) = of_member (subst (λ ts. Contains ts t) members among)
same_stands m n g t members texts (of_root is) = of_root is
same_stands m n g t members texts (of_node among) = of_node among
same_stands m n g t members texts (of_dep node among has) = of_dep node among has

each_read : (m n : MetadataModel) (ids : List Identity) → n.resolve ≡ m.resolve → n.workspace_members ≡ m.workspace_members → package_texts n ≡ package_texts m
    → AllByRecursion (λ id. HasGraphWith n (λ g. IsReadOf (resolved n g) id)) ids → AllByRecursion (λ id. HasGraphWith m (λ g. IsReadOf (resolved m g) id)) ids
each_read m n [] graph members texts all = tt
each_read m n (id ∷ ids) graph members texts all =
    let h = all.0 in
    let read = h.holds in
    (record { graph = h.graph; has_graph = sym graph ∙ h.has_graph; holds = (read.0, same_stands m n h.graph read.0 members texts read.1, read.2) }, each_read m n ids graph members texts all.1)

named_corrected : (answer : IndexAnswer) (given seen : Metadata) (e : Error) → IsCorrectedDocument answer given seen → NamesReadIds (metadata_view seen) e → NamesReadIds (metadata_view given) e
named_corrected answer given seen e c h =
    each_read (metadata_view given) (metadata_view seen) (named_ids e)
    (ap (λ (m : Metadata). (metadata_view m).resolve) c.nothing_else)
    (ap (λ (m : Metadata). (metadata_view m).workspace_members) c.nothing_else)
    (same_texts answer given.packages.items seen.packages.items c.packages) h

named_by : (answer : Option IndexAnswer) (given seen : Metadata) (e : Error) → IsSeenBy answer given seen → NamesReadIds (metadata_view seen) e → NamesReadIds (metadata_view given) e
named_by None given seen e is_seen h = subst (λ (m : Metadata). NamesReadIds (metadata_view m) e) is_seen h
named_by (Some answer) given seen e is_seen h = named_corrected answer given seen e is_seen h

pub sees_named : {S K : Type 0} (may_answer : Answering S) (index : Option S) (given seen : Metadata) (result : Result K Error) → IsSeen may_answer index given seen
    → IfErr result (NamesReadIds (metadata_view seen)) → IfErr result (NamesReadIds (metadata_view given))
sees_named may_answer index given seen (Ok k) is_seen h = tt
sees_named may_answer index given seen (Err e) s h = named_by s.answer given s.seen e s.is_seen (subst (λ (m : Metadata). NamesReadIds (metadata_view m) e) (sym s.holds) h)

pub sees_refused : {S : Type 0} (may_answer : Answering S) (index : Option S) (given seen : Metadata) (s : SettingModel) (ids : IdsModel) {K : Type 0} (result : Result K Error)
    → IsAdmitted (metadata_view given) ids → IsSeen may_answer index given seen → IfErr result (GraphRefusal (metadata_view seen) s) → IfErr result (BuildRefusal may_answer index given s)
sees_refused may_answer index given seen s ids (Ok k) a is_seen h = tt
sees_refused may_answer index given seen s ids (Err e) a is_seen h = inr (resolvable (metadata_view given) ids a, seen_holds may_answer index given seen (λ m. GraphRefusal (metadata_view m) s e) is_seen h)
