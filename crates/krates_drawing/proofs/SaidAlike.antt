-- What documents that differ only in order say about crates, edges and names under a setting.
use Rattle.std.proofs.Common.{◌≡◌, ◌↔◌, ℕ, Contains, Some, sym, ap, ◌∙◌, subst}
use Rattle.std.proofs.lemmas.Option.{same_Some}
use Rattle.krates_cm.specs.Document.{Text, DependencyModel, DepKindInfoModel, PackageModel, NodeDepModel, NodeModel, ResolveModel, MetadataModel}
use Rattle.krates_rules.specs.Admission.{NoneDoubled}
use Rattle.krates_rules.specs.DeclaredDependency.{FirstAt, IsDeclared, dependency_entry}
use Rattle.krates_rules.specs.Derivation.{Derivable}
use Rattle.krates_rules.specs.Facts.{Id, Edge, Fact}
use Rattle.krates_rules.specs.Questions.{IsDeclaredAt, kind_info_of, questions}
use Rattle.krates_rules.specs.Referent.{IsReferent}
use Rattle.krates_rules.specs.Reordering.{ReordersPackage, SayAlike, ResolveAlike}
use Rattle.krates_rules.specs.Resolution.{IsDerived}
use Rattle.krates_rules.specs.Resolved.{Resolved, HasPackage, HasNode, resolved}
use Rattle.krates_rules.specs.Setting.{SettingModel}
use Rattle.krates_selection.specs.Selection.{IsPlacedAs}
use Rattle.krates_document.proofs.DeclaredOnce.{one_first, declared_once}

-- both say the same about each fact, package, node, edge and name
pub record SaidAlike (r u : Resolved) (s : SettingModel) : Type 0 where
  pub facts : (f : Fact) → Derivable (questions r s) f ↔ Derivable (questions u s) f
  pub packages : (i : Id) (p q : PackageModel) → HasPackage r i p → HasPackage u i q → ReordersPackage p q
  pub features : (i : Id) (n o : NodeModel) → HasNode r i n → HasNode u i o → (f : Text) → Contains n.features f ↔ Contains o.features f
  pub declared : (e : Edge) (j k : ℕ) (d c : DependencyModel) → IsDeclaredAt r s e j d → IsDeclaredAt u s e k c → (j ≡ k) × (d ≡ c)
  pub place : (e : Edge) (j k m n : ℕ) → IsPlacedAs r s e j m → IsPlacedAs u s e k n → m ≡ n
  pub referents : (i : Id) (name : Text) (c : Id) → IsReferent r s.all_named i name c ↔ IsReferent u s.all_named i name c

-- ---- the declared dependency

-- packages that differ only in the order of their features declare the same dependencies
pub dependencies_same : (p q : PackageModel) → ReordersPackage p q → p.dependencies ≡ q.dependencies
dependencies_same p q w = sym (ap (λ (x : PackageModel). x.dependencies) w.rest)

pub declared_alike : (r u : Resolved) (s : SettingModel) → SayAlike r u → (e : Edge) (j k : ℕ) (d c : DependencyModel) → IsDeclaredAt r s e j d → IsDeclaredAt u s e k c → (j ≡ k) × (d ≡ c)
declared_alike r u s w e j k d c p q =
    let a = p.declares in
    let b = q.declares in
    let declares = dependencies_same a.pkg b.pkg (w.packages e.parent a.pkg b.pkg a.has_package b.has_package) in
    let dep = w.deps e a.dep b.dep a.lists b.lists in
    let there = subst (λ ds. IsDeclared ds (dependency_entry e.child a.dep) (kind_info_of e) j d) declares a.declared in
    let here = subst (λ (z : NodeDepModel). IsDeclared b.pkg.dependencies (dependency_entry e.child z) (kind_info_of e) j d) dep there in
    declared_once b.pkg.dependencies (dependency_entry e.child b.dep) (kind_info_of e) j k d c here b.declared

pub place_alike : (r u : Resolved) (s : SettingModel) → SayAlike r u → (e : Edge) (j k m n : ℕ) → IsPlacedAs r s e j m → IsPlacedAs u s e k n → m ≡ n
place_alike r u s w e j k m n p q =
    let a = p.declared.declares in
    let b = q.declared.declares in
    let dep = w.deps e a.dep b.dep a.lists b.lists in
    let there = subst (λ (z : NodeDepModel). FirstAt (λ i. i ≡ kind_info_of e) z.dep_kinds m (kind_info_of e)) dep p.place in
    (one_first (λ (i : DepKindInfoModel). i ≡ kind_info_of e) b.dep.dep_kinds m n (kind_info_of e) (kind_info_of e) there q.place).0

-- ---- the whole

-- what is derivable from the document is derivable from its graph
derived : (m : MetadataModel) (g : ResolveModel) (s : SettingModel) (f : Fact) → m.resolve ≡ Some g → IsDerived m s f → Derivable (questions (resolved m g) s) f
derived m g s f has x = subst (λ z. Derivable (questions (resolved m z) s) f) (same_Some x.graph g (sym x.has_graph ∙ has)) x.holds

pub said_alike : (m n : MetadataModel) (g h : ResolveModel) (s : SettingModel) → ResolveAlike m n → m.resolve ≡ Some g → n.resolve ≡ Some h → NoneDoubled n h → SaidAlike (resolved m g) (resolved n h) s
said_alike m n g h s w has_g has_h none =
    let say = w.says g h has_g has_h none in
    record {
      facts = λ f. (
        λ d. derived n h s f has_h ((w.facts s f).0 (record { graph = g; has_graph = has_g; holds = d })),
        λ d. derived m g s f has_g ((w.facts s f).1 (record { graph = h; has_graph = has_h; holds = d })),
      );
      packages = say.packages;
      features = say.features;
      declared = declared_alike (resolved m g) (resolved n h) s say;
      place = place_alike (resolved m g) (resolved n h) s say;
      referents = say.referents s.all_named;
    }
