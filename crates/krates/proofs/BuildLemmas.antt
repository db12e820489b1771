-- What a build keeps, and why it is refused.
use Rattle.std.proofs.Common.{◌≡◌, ◌↔◌, List, [], ◌∷◌, map, Contains, refl, sym, ap, ◌∙◌, subst, inl, inr}
use Rattle.std.specs.List.{AllZip}
use Rattle.krates_cm.specs.Document.{Text, MetadataModel, PackageModel, id_view, package_view, metadata_view}
use Rattle.krates_cm.specs.declared.metadata.Metadata.{Metadata}
use Rattle.krates_cm.specs.declared.package.Package.{Package}
use Rattle.krates_ids.specs.Identity.{Identity, Reads}
use Rattle.krates_rules.specs.Admission.{IsAdmitted, package_texts, doubled_package, IdsModel}
use Rattle.krates_document.proofs.AdmissionLemmas.{twice_texts}
use Rattle.krates_rules.specs.DistinctIds.{AreDistinct}
use Rattle.krates_rules.specs.Facts.{Id, Cause, Feature, Lost}
use Rattle.krates_rules.specs.Questions.{Stands, questions}
use Rattle.krates_rules.specs.Resolved.{ReadsAs, resolved, id_of}
use Rattle.krates_rules.specs.Setting.{SettingModel}
use Rattle.krates_rules.specs.Resolution.{IsDerived}
use Rattle.krates.specs.Build.{KeepsCrate, DropsCrate}
use Rattle.krates_drawing.specs.Listed.{AreThosePackages}
use Rattle.krates_drawing.specs.Division.{IsAmong, IsDivision, krate_ids, krate_packages}
use Rattle.krates_drawing.specs.declared.division.Division.{Division}
use Rattle.krates_drawing.proofs.DivisionLemmas.{ReadsOnce}
use Rattle.krates_rules.proofs.Members.{Member, member_of, contains_of, mapped_of, member_map}
use Rattle.krates_drawing.specs.Outline.{Outline}
use Rattle.krates_queries.specs.Drawn.{IsOutlineFor}
use Rattle.krates.specs.KeptGraph.{named_fact}
use Rattle.krates_drawing.proofs.Derivations.{crate_of_feature}
use Rattle.krates.proofs.OutlineFacts.{enabled_among, kept_among, none_lost, outlined_ids, some_kept}
use Rattle.krates_questions.proofs.StandingLaws.{derivable_stands}

-- ---- an admitted document

texts_of : (ps : List Package) → map (λ (p : PackageModel). p.id) (map package_view ps) ≡ map (λ (p : Package). id_view p.id) ps
texts_of [] = refl
texts_of (p ∷ ps) = ap (λ ts. id_view p.id ∷ ts) (texts_of ps)

pub package_ids : (m : Metadata) (ids : IdsModel) → IsAdmitted (metadata_view m) ids → AllZip Reads (map (λ p. id_view p.id) m.packages.items) ids.packages
package_ids m ids a = subst (λ ts. AllZip Reads ts ids.packages) (texts_of m.packages.items) a.read.packages

pub ids_distinct : (m : MetadataModel) (ids : IdsModel) → IsAdmitted m ids → AreDistinct ids.packages
ids_distinct m ids a id t = a.none_doubled id (doubled_package (twice_texts (package_texts m) ids.packages id a.read.packages t))

-- ---- packages with certain ids

-- ids for which one property holds where another does
pub those_same : (all : List Package) (P Q : Id → Type 0) (ids : List Identity) (listed : List Package) → ((i : Id) → P i ↔ Q i) → AreThosePackages all P ids listed → AreThosePackages all Q ids listed
those_same all P Q ids listed iff h = record {
  read = h.read;
  ascending = h.ascending;
  exactly = λ pkg. (
    λ c. (let both = (h.exactly pkg).0 c in (both.0, record { id = both.1.id; reads = both.1.reads; holds = (iff both.1.id).0 both.1.holds })),
    λ both. (h.exactly pkg).1 (both.0, record { id = both.1.id; reads = both.1.reads; holds = (iff both.1.id).1 both.1.holds }),
  );
}

-- each package that is listed has an id in the list of ids, and the other way round
record Beside (ids : List Identity) (pkg : Package) : Type 0 where
  id : Identity
  member : Member ids id
  reads : Reads (id_view pkg.id) id

beside : (listed : List Package) (ids : List Identity) → AllZip (λ p i. Reads (id_view p.id) i) listed ids → (pkg : Package) → Member listed pkg → Beside ids pkg
beside [] ids h pkg m = absurd m
beside (p ∷ ps) [] h pkg m = absurd h
beside (p ∷ ps) (i ∷ ids) h pkg (inl e) = record { id = i; member = inl refl; reads = subst (λ (x : Package). Reads (id_view x.id) i) e h.0 }
beside (p ∷ ps) (i ∷ ids) h pkg (inr m) = let w = beside ps ids h.1 pkg m in record { id = w.id; member = inr w.member; reads = w.reads }

record BesideId (listed : List Package) (id : Identity) : Type 0 where
  pkg : Package
  member : Member listed pkg
  reads : Reads (id_view pkg.id) id

beside_id : (listed : List Package) (ids : List Identity) → AllZip (λ p i. Reads (id_view p.id) i) listed ids → (id : Identity) → Member ids id → BesideId listed id
beside_id [] [] h id m = absurd m
beside_id [] (i ∷ ids) h id m = absurd h
beside_id (p ∷ ps) [] h id m = absurd m
beside_id (p ∷ ps) (i ∷ ids) h id (inl e) = record { pkg = p; member = inl refl; reads = subst (λ (x : Identity). Reads (id_view p.id) x) e h.0 }
beside_id (p ∷ ps) (i ∷ ids) h id (inr m) = let w = beside_id ps ids h.1 id m in record { pkg = w.pkg; member = inr w.member; reads = w.reads }

-- if each of these ids has a package, the ids of the list are exactly these
pub exactly_those : ReadsOnce → (all : List Package) (P : Id → Type 0) (ids : List Identity) (listed : List Package) → AreThosePackages all P ids listed
    → ((i : Id) → P i → (pkg : Package) × Contains all pkg × ReadsAs (id_view pkg.id) i)
    → (i : Id) → P i ↔ Contains (map id_of ids) i
exactly_those once all P ids listed h has i = (
  λ holds.
      (let (pkg, among, reads) = has i holds in
      let there = (h.exactly pkg).1 (among, record { id = i; reads = reads; holds = holds }) in
      let w = beside listed ids h.read pkg (member_of listed pkg there) in
      let same : id_of w.id ≡ i = ap id_of (once (id_view pkg.id) w.id reads.read w.reads reads.reads) ∙ reads.same in
      subst (λ z. Contains (map id_of ids) z) same (contains_of (map id_of ids) (id_of w.id) (member_map id_of ids w.id w.member))),
  λ c.
      (let w = mapped_of id_of ids i (member_of (map id_of ids) i c) in
      let p = beside_id listed ids h.read w.from w.member in
      let both = (h.exactly p.pkg).0 (contains_of listed p.pkg p.member) in
      let same : both.1.id ≡ i = sym both.1.reads.same ∙ ap id_of (once (id_view p.pkg.id) both.1.reads.read w.from both.1.reads.reads p.reads) ∙ w.is in
      subst P same both.1.holds),
)

-- ---- what is kept

-- a kept crate has a package
pub has_package : (m : Metadata) (s : SettingModel) (i : Id) → KeepsCrate (metadata_view m) s i → (pkg : Package) × Contains m.packages.items pkg × ReadsAs (id_view pkg.id) i
has_package m s i h =
    let stands : Stands (resolved (metadata_view m) h.graph) s i = unfold questions in derivable_stands (questions (resolved (metadata_view m) h.graph) s) h.holds in
    let found = stands.included.has_package in
    let w = mapped_of package_view m.packages.items stands.included.pkg (member_of _ stands.included.pkg found.among) in
    (w.from, contains_of m.packages.items w.from w.member, subst (λ (p : PackageModel). ReadsAs p.id i) (sym w.is) found.id)

-- all that a build says about what it keeps
pub record Builds (m : Metadata) (s : SettingModel) (d : Division) : Type 0 where
  pub kept : (i : Id) → KeepsCrate (metadata_view m) s i ↔ Contains (map id_of (krate_ids d.kept.items)) i
  pub some : (i : Id) × KeepsCrate (metadata_view m) s i
  pub none_lost : (c : Cause) → IsDerived (metadata_view m) s (Lost c) → ⊥
  pub packages : AreThosePackages m.packages.items (KeepsCrate (metadata_view m) s) (krate_ids d.kept.items) (krate_packages d.kept.items)
  pub others : AreThosePackages m.packages.items (DropsCrate (metadata_view m) s) (krate_ids d.others.items) (krate_packages d.others.items)

not_iff : (P Q : Type 0) → P ↔ Q → (P → ⊥) ↔ (Q → ⊥)
not_iff P Q h = (λ n q. n (h.1 q), λ n p. n (h.0 p))

pub builds : ReadsOnce → (m : Metadata) (s : SettingModel) (t : Outline) (selected : List Identity) (d : Division) → map id_of selected ≡ outlined_ids t → IsOutlineFor (metadata_view m) s t
    → IsDivision m.packages.items selected d → Builds m s d
builds once m s t selected d those h div =
    let iff : (i : Id) → IsAmong selected i ↔ KeepsCrate (metadata_view m) s i = λ i.
    subst (λ (ids : List Id). Contains ids i ↔ KeepsCrate (metadata_view m) s i) (sym those) ((kept_among (metadata_view m) s t h i).1, (kept_among (metadata_view m) s t h i).0) in
    let packages = those_same m.packages.items (IsAmong selected) (KeepsCrate (metadata_view m) s) (krate_ids d.kept.items) (krate_packages d.kept.items) iff div.kept in
    record {
      kept = exactly_those once m.packages.items (KeepsCrate (metadata_view m) s) (krate_ids d.kept.items) (krate_packages d.kept.items) packages (has_package m s);
      some = some_kept (metadata_view m) s t h;
      none_lost = none_lost (metadata_view m) s t h;
      packages = packages;
      others = those_same m.packages.items (λ i. IsAmong selected i → ⊥) (DropsCrate (metadata_view m) s) (krate_ids d.others.items) (krate_packages d.others.items) (λ i. not_iff _ _ (iff i)) div.others;
    }

-- the features of the outline are the enabled ones
pub enabled : (m : Metadata) (s : SettingModel) (t : Outline) (d : Division) (P : Id → Text → Type 0) → IsOutlineFor (metadata_view m) s t → Builds m s d
    → ((i : Id) (f : Text) → P i f ↔ (IsAmong (krate_ids d.kept.items) i × Contains (map named_fact t.features) (Feature i f)))
    → (i : Id) (f : Text) → IsDerived (metadata_view m) s (Feature i f) ↔ P i f
enabled m s t d P h b so i f =
    let told = enabled_among (metadata_view m) s t h i f in (
      λ x.
          (let krate : KeepsCrate (metadata_view m) s i = record { graph = x.graph; has_graph = x.has_graph; holds = crate_of_feature (questions (resolved (metadata_view m) x.graph) s) i f x.holds } in
          (so i f).1 ((b.kept i).0 krate, told.0 x)),
      λ p. told.1 ((so i f).0 p).1,
    )
