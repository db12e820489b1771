-- By number, cargo's answer depends on the order of its visits exactly for the crates for which it does in the document.
use Rattle.std.proofs.Common.{◌≡◌, ◌↔◌, ℕ, List, Bool, true, false, IsTrue, Some, refl, sym, ◌∙◌, subst}
use Rattle.std.proofs.lemmas.Bool.{false≢true}
use Rattle.std.proofs.lemmas.Option.{same_Some}
use Rattle.std.specs.List.{slice_get}
use Rattle.krates_cm.specs.Document.{DependencyModel, PackageModel, Text}
use Rattle.krates_rules.specs.DeclaredDependency.{declared_name}
use Rattle.krates_rules.specs.Facts.{Id, Edge}
use Rattle.krates_rules.specs.Resolved.{Resolved}
use Rattle.krates_rules.proofs.Standings.{contains_at}
use Rattle.krates_units.specs.BuildFacts as means
use Rattle.krates_units.specs.BuildSetting.{BuildSettingModel, IsFirst, IsLater}
use Rattle.krates_units.specs.Built.{IsDerivable}
use Rattle.krates_units.specs.Machines.{MachineModel}
use Rattle.krates_units.specs.VisitOrder.{DependsOnOrder}
use Rattle.krates_units.specs.declared.setting.Resolver.{Resolver}
use Rattle.krates_units.specs.declared.setting.Resolver.TheVariants.{V1, V2, V3}
use Rattle.krates_units.specs.declared.sides.Side.{Side}
use Rattle.krates_units.specs.declared.sides.Side.TheVariants as sides
use Rattle.krates_build_tables.specs.TablesOf.{AreTables, CrateAt}
use Rattle.krates_build_tables.specs.declared.tables.LinkPlace.{LinkPlace}
use Rattle.krates_build_tables.specs.declared.tables.Tables.{Tables}
use Rattle.krates_build_facts.specs.FactModels.{FactModel, ActivatedFeature, ActivatedName, Linked, ScriptCompiled}
use Rattle.krates_build_facts.specs.Meanings.{EachHasNumber, Follows, FollowsAsDerivable, LinkMeans}
use Rattle.krates_build_facts.proofs.FactNumbers.{of_number}
use Rattle.krates_build_facts.proofs.TableEntries.{crate_here, crate_of, link_here, link_of}
use Rattle.krates_built.specs.OrderAt.{DependsAt}
use Rattle.krates_built.specs.Refusals.{IsPackageAt}

-- a resolver that isn't the first is a later one
later_of : (v : Resolver) (first : Bool) → (IsFirst v → IsTrue first) → first ≡ false → IsLater v
later_of V1 first h isnt = absurd (false≢true (sym isnt ∙ h tt))
later_of V2 first h isnt = tt
later_of V3 first h isnt = tt

not_first : (v : Resolver) (first : Bool) → (IsTrue first → IsFirst v) → IsLater v → first ≡ false
not_first v false h later = refl
not_first V1 true h later = absurd later
not_first V2 true h later = absurd (h refl)
not_first V3 true h later = absurd (h refl)

module _ (exact : FollowsAsDerivable) (complete : EachHasNumber) (r : Resolved) (s : BuildSettingModel) (ids : List Id) (ms : List MachineModel)
    (t : Tables) (tables : AreTables r s ids ms t) where
  -- ---- facts of a crate

  script : (c : ℕ) (i : Id) → CrateAt ids c i → (n : Side) → Follows t (ScriptCompiled c n) ↔ IsDerivable r s (means.ScriptCompiled i n)
  script c i at n = exact r s ids ms t tables (ScriptCompiled c n) (means.ScriptCompiled i n) (i, at, refl)

  feature : (c : ℕ) (i : Id) → CrateAt ids c i → (n : Side) (f : Text)
      → Follows t (ActivatedFeature c n f) ↔ IsDerivable r s (means.ActivatedFeature i n f)
  feature c i at n f = exact r s ids ms t tables (ActivatedFeature c n f) (means.ActivatedFeature i n f) (i, at, refl)

  named : (c : ℕ) (i : Id) → CrateAt ids c i → (n : Side) (name other : Text) → name ≡ other
      → Follows t (ActivatedName c n name) ↔ IsDerivable r s (means.ActivatedName i n other)
  named c i at n name other same = subst (λ (f : Text). Follows t (ActivatedName c n name) ↔ IsDerivable r s (means.ActivatedName i n f)) same
      (exact r s ids ms t tables (ActivatedName c n name) (means.ActivatedName i n name) (i, at, refl))

  -- ---- both directions

  pub depends_on : (c : ℕ) (i : Id) → CrateAt ids c i → DependsAt t c → DependsOnOrder r s i
  depends_on c i at h =
      let crate = crate_here r s ids ms t tables c i h.entry at h.at in
      let differs = h.depends.differing.differs in
      let l = h.depends.differing.link in
      let w = link_of r s ids ms t tables c i h.entry crate l h.depends.differing.among in
      let says = w.3.says in
      let once = differs.on_one_side in
      record {
        later = later_of s.resolver t.is_first tables.first.1 h.later;
        compiled = λ n. (script c i at n).0 (h.depends.both n);
        same_features = λ n m f d. (feature c i at m f).0 (h.depends.same n f ((feature c i at n f).1 d) m);
        edge = w.0;
        dep = w.1;
        of_script = record {
          parent = same_Some w.0.parent i (sym w.3.parent_at ∙ at);
          kind = says.kind ∙ differs.may.kind;
          optional = sym says.optional ∙ differs.may.optional;
          passes = says.host.0 differs.may.passes;
          linked = (exact r s ids ms t tables (Linked l.place) (means.Linked w.0 w.1) (w.0, w.1, w.3.means, refl)).0 differs.linked;
        };
        turned_on_once = record {
          on = once.on;
          off = once.off;
          turned_on = (named c i at once.on l.name.now (declared_name w.1) says.name).0 once.turned_on;
          turned_off = λ x. once.turned_off ((named c i at once.off l.name.now (declared_name w.1) says.name).1 x);
        };
      }

  -- the link of what is derivable
  link_derivable : (e : Edge) (d : DependencyModel) → IsDerivable r s (means.Linked e d)
      → (place : LinkPlace) × LinkMeans r s ids ms t place e d × Follows t (Linked place)
  link_derivable e d h =
      let w = complete r s ids ms t tables (means.Linked e d) h in
      of_number r s ids ms t (λ (n : FactModel). Follows t n → (place : LinkPlace) × LinkMeans r s ids ms t place e d × Follows t (Linked place))
      (means.Linked e d) (λ place is follows. (place, is, follows)) w.0 w.1 w.2

  pub depends_at : (c : ℕ) (i : Id) → CrateAt ids c i → DependsOnOrder r s i → DependsAt t c
  depends_at c i at h =
      let w = link_derivable h.edge h.dep h.of_script.linked in
      let here = link_here r s ids ms t tables w.0 h.edge h.dep w.1 in
      let mine : CrateAt ids w.0.krate i = subst (CrateAt ids w.0.krate) h.of_script.parent here.crate.crate_at in
      let same : w.0.krate ≡ c = tables.ids_once w.0.krate c i mine at in
      let once = h.turned_on_once in
      record {
        later = not_first s.resolver t.is_first tables.first.0 h.later;
        entry = here.entry;
        at = subst (λ (n : ℕ). slice_get t.crates.items n ≡ Some here.entry) same here.crate.at;
        depends = record {
          both = λ n. (script c i at n).1 (h.compiled n);
          differing = record {
            link = here.link;
            among = contains_at here.entry.links.items w.0.index here.link here.at;
            differs = record {
              may = record {
                kind = sym here.says.kind ∙ h.of_script.kind;
                optional = here.says.optional ∙ h.of_script.optional;
                passes = here.says.host.1 h.of_script.passes;
              };
              linked = subst (λ (p : LinkPlace). Follows t (Linked p)) (sym here.place_is) w.2;
              on_one_side = record {
                on = once.on;
                off = once.off;
                turned_on = (named c i at once.on here.link.name.now (declared_name h.dep) here.says.name).1 once.turned_on;
                turned_off = λ x. once.turned_off ((named c i at once.off here.link.name.now (declared_name h.dep) here.says.name).0 x);
              };
            };
          };
          same = λ n f follows m. (feature c i at m f).1 (h.same_features n m f ((feature c i at n f).0 follows));
        };
      }

  -- the number of such a crate
  pub number_of : (i : Id) → DependsOnOrder r s i → (c : ℕ) × CrateAt ids c i
  number_of i h =
      let w = complete r s ids ms t tables (means.ScriptCompiled i sides.Host) (h.compiled sides.Host) in
      of_number r s ids ms t (λ (n : FactModel). (c : ℕ) × CrateAt ids c i) (means.ScriptCompiled i sides.Host) (λ c at. (c, at)) w.0 w.1

  -- and its package
  pub package_of : (c : ℕ) → DependsAt t c → (pkg : PackageModel) × IsPackageAt r ids c pkg
  package_of c h =
      let crate = crate_of r s ids ms t tables c h.entry h.at in
      let w = link_of r s ids ms t tables c crate.0 h.entry crate.1 h.depends.differing.link h.depends.differing.among in
      let declared = w.2.declared in
      (declared.pkg, record { id = w.0.parent; at = w.3.parent_at; has_package = declared.has_package })
