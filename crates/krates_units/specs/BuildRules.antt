-- The rules of what cargo builds, as a function of a document and of what a build is asked for.
--
-- Each rule is a row with the facts that it uses, in order, and the fact that it gives. Where the Cargo Book has no section for a row,
-- it was found by trial: `linked_implied`, `linked_toggled` with weak references, `implied`, `available_below` and the rows of lost
-- dependencies.
use Rattle.std.specs.Prelude.{◌≡◌, ◌++◌, List, [], ◌∷◌, true, false, Contains, codes, map, if◌then◌else◌}
use Rattle.krates_cm.specs.Document.{Text, TargetModel, DependencyModel}
use Rattle.krates_cm.specs.declared.dependency.DependencyKind.TheVariants.{Normal, Build}
use Rattle.krates_cm.specs.declared.target.TargetKind.TheVariants.{Bin}
use Rattle.krates_text.specs.FeatureReference.{Reference, krate, strong, simple}
use Rattle.krates_rules.specs.DeclaredDependency.{declared_name}
use Rattle.krates_rules.specs.Facts.{Id, Edge}
use Rattle.krates_rules.specs.Features.{HasReference}
use Rattle.krates_rules.specs.Resolved.{Resolved}
use Rattle.krates_units.specs.BuildFacts.{Fact, Met, LinkedReference, LinkedFeature, LinkedName, Linked, Lost, Activated, ActivatedReference, ActivatedFeature, ActivatedName, Used, Available, Compiled, Needed, ScriptRun, ScriptCompiled, RunNeeded, CompiledUnit, Platform, host, machine, Placement}
use Rattle.krates_units.specs.BuildSetting.{BuildSettingModel, machines}
use Rattle.krates_units.specs.BuildTargets.{IsLibrary, IsLinkable, IsScript, HasTarget, HasTargetThat, LinksNatively, AsksFor, RunsPrograms}
use Rattle.krates_units.specs.FeaturesNamed.{NamesDependency, NamesFeatureOf}
use Rattle.krates_units.specs.Machines.{MachineModel, PassesOn}
use Rattle.krates_units.specs.Requests.{IsBuildRoot, IsRequested, IsSelected, HasFeature, KnowsOptional, GivesFeature}
use Rattle.krates_units.specs.Resolves.{Resolves, LacksEdge}
use Rattle.krates_units.specs.Sides.{TakesKind, machine_of, StartsOn, Counts, Leads, LooksOn, HasFeaturesOf, host_placement, GoesTo, HasKind}
use Rattle.krates_units.specs.declared.kinds.Mode.{Mode}
use Rattle.krates_units.specs.declared.kinds.Mode.TheVariants as modes
use Rattle.krates_units.specs.declared.sides.Meeting.{Meeting}
use Rattle.krates_units.specs.declared.sides.Meeting.TheVariants as meetings
use Rattle.krates_units.specs.declared.sides.Side.{Side}
use Rattle.krates_units.specs.declared.sides.Side.TheVariants as sides

-- a fact that is used only if the dependency is optional
abbrev pub if_optional : DependencyModel → Fact → List Fact
if_optional d f = if d.optional then f ∷ [] else []

-- what a target needs that requires features
abbrev pub requires : Id → TargetModel → List Fact
requires p t = map (Available p) t.required_features

-- a target of a crate, in a mode, placed so
abbrev pub unit : Id → TargetModel → Mode → Placement → CompiledUnit
unit p t mode at = record { krate = p; target = t; mode = mode; placement = at }

-- what is for a machine that the build is for
abbrev pub machine_placement : MachineModel → Placement
machine_placement m = record { platform = machine m; side = sides.Targets }

-- the target of a selected crate is asked for, in this mode, and is placed so
pub record IsAsked (r : Resolved) (s : BuildSettingModel) (u : CompiledUnit) : Type 0 where
  pub selected : IsSelected r s u.krate
  pub has : HasTarget r u.krate u.target
  pub no_script : ¬ IsScript u.target
  pub asked : AsksFor s.kinds u.target u.mode
  pub target : MachineModel
  pub among : Contains (machines s.host s.targets) target
  pub goes : GoesTo u.target (machine_placement target) u.placement

-- the edge leads to this library of its child, and passes on this platform
pub record IsBuiltFrom (r : Resolved) (s : BuildSettingModel) (k : Platform) (e : Edge) (l : TargetModel) : Type 0 where
  pub passes : PassesOn (machine_of s k) e.cfg
  pub has : HasTarget r e.child l
  pub library : IsLibrary l

-- The edge leads to this library of its child, and passes on this platform; what needs the library is linked with it, and with the native
-- library that its build script is for.
pub record IsLinkedFrom (r : Resolved) (s : BuildSettingModel) (k : Platform) (e : Edge) (l : TargetModel) : Type 0 where
  pub passes : PassesOn (machine_of s k) e.cfg
  pub has : HasTarget r e.child l
  pub linkable : IsLinkable l
  pub native : LinksNatively r e.child
  pub script : HasTargetThat r e.child IsScript

-- a fact follows by a rule from these facts, in order
pub data Rule (r : Resolved) (s : BuildSettingModel) : List Fact → Fact → Type 0 where
  -- ---- which dependencies exist (Cargo Book, "Dependency Resolution")
  -- a root is met, with what is requested of it
  root_met : {p : Id} → IsBuildRoot r s p → Rule r s [] (Met p meetings.Root)
  root_linked : {p : Id} {v : Reference} → IsRequested r s p v → Rule r s [] (LinkedReference p meetings.Root v)
  -- an enabled feature lists its references; these enable features and turn dependencies on, whether weak or not
  linked_reference : {p : Id} {w : Meeting} {f : Text} {v : Reference} → HasReference r p f v
      → Rule r s (LinkedFeature p w f ∷ []) (LinkedReference p w v)
  linked_feature : {p : Id} {w : Meeting} {g : Text} → Rule r s (LinkedReference p w (simple g) ∷ []) (LinkedFeature p w g)
  linked_name : {p : Id} {w : Meeting} {v : Reference} {c : Text} → NamesDependency v c
      → Rule r s (LinkedReference p w v ∷ []) (LinkedName p w c)
  linked_implied : {p : Id} {w : Meeting} {c g : Text} → KnowsOptional r p c → HasFeature r p c
      → Rule r s (LinkedReference p w (strong c g) ∷ []) (LinkedFeature p w c)
  linked_toggled : {e : Edge} {d : DependencyModel} {w : Meeting} {v : Reference} {g : Text} → Resolves r e d → TakesKind w e.kind
      → NamesFeatureOf v (declared_name d) g
      → Rule r s (LinkedReference e.parent w v ∷ []) (LinkedFeature e.child meetings.Dependency g)
  -- a crate that is met links its dependencies, optional ones if they are turned on; what is linked is met, with the features that
  -- the dependency gives
  linked : {e : Edge} {d : DependencyModel} {w : Meeting} → Resolves r e d → TakesKind w e.kind
      → Rule r s (Met e.parent w ∷ if_optional d (LinkedName e.parent w (declared_name d))) (Linked e d)
  linked_met : {e : Edge} {d : DependencyModel} → Rule r s (Linked e d ∷ []) (Met e.child meetings.Dependency)
  linked_given : {e : Edge} {d : DependencyModel} {g : Text} → GivesFeature r d e.child g
      → Rule r s (Linked e d ∷ []) (LinkedFeature e.child meetings.Dependency g)
  lost : {p : Id} {d : DependencyModel} {w : Meeting} → LacksEdge r p d → TakesKind w d.kind
      → Rule r s (Met p w ∷ if_optional d (LinkedName p w (declared_name d))) (Lost p d)
  -- ---- features of each side (Cargo Book, "Features", "Feature resolver version 2")
  -- a root takes part, with what is requested of it
  root_activated : {p : Id} {n : Side} → IsBuildRoot r s p → StartsOn r s p n → Rule r s [] (Activated p n)
  root_reference : {p : Id} {n : Side} {v : Reference} → IsRequested r s p v → StartsOn r s p n
      → Rule r s [] (ActivatedReference p n v)
  -- an enabled feature lists its references; these enable features, and turn dependencies on
  reference : {p : Id} {n : Side} {f : Text} {v : Reference} → HasReference r p f v
      → Rule r s (ActivatedFeature p n f ∷ []) (ActivatedReference p n v)
  feature : {p : Id} {n : Side} {g : Text} → Rule r s (ActivatedReference p n (simple g) ∷ []) (ActivatedFeature p n g)
  name : {p : Id} {n : Side} {c : Text} → Rule r s (ActivatedReference p n (krate c) ∷ []) (ActivatedName p n c)
  name_strongly : {e : Edge} {d : DependencyModel} {n : Side} {g : Text} → Counts r s n e → d.optional ≡ true
      → Rule r s (ActivatedReference e.parent n (strong (declared_name d) g) ∷ Linked e d ∷ [])
      (ActivatedName e.parent n (declared_name d))
  implied : {e : Edge} {d : DependencyModel} {n : Side} {g : Text} → Counts r s n e → d.optional ≡ true
      → HasFeature r e.parent (declared_name d)
      → Rule r s (ActivatedReference e.parent n (strong (declared_name d) g) ∷ Linked e d ∷ [])
      (ActivatedFeature e.parent n (declared_name d))
  -- a linked dependency that counts is used, an optional one if it is turned on
  used : {e : Edge} {d : DependencyModel} {n : Side} → Counts r s n e → d.optional ≡ false
      → Rule r s (Activated e.parent n ∷ Linked e d ∷ []) (Used e d n)
  used_by_name : {e : Edge} {d : DependencyModel} {n : Side} → Counts r s n e
      → Rule r s (ActivatedName e.parent n (declared_name d) ∷ Linked e d ∷ []) (Used e d n)
  -- where it leads to, the crate takes part, with the features that the dependency gives and those that a reference names
  used_activated : {e : Edge} {d : DependencyModel} {n m : Side} → Leads r s n e m → Rule r s (Used e d n ∷ []) (Activated e.child m)
  used_given : {e : Edge} {d : DependencyModel} {n m : Side} {g : Text} → GivesFeature r d e.child g → Leads r s n e m
      → Rule r s (Used e d n ∷ []) (ActivatedFeature e.child m g)
  toggled : {e : Edge} {d : DependencyModel} {n m : Side} {v : Reference} {g : Text} → NamesFeatureOf v (declared_name d) g
      → Leads r s n e m → Rule r s (ActivatedReference e.parent n v ∷ Used e d n ∷ []) (ActivatedFeature e.child m g)
  -- a target may require a feature of its crate, or `d/f`, one of a linked dependency (Cargo Book, "The `required-features` field")
  available : {p : Id} {f : Text} → Rule r s (ActivatedFeature p sides.Targets f ∷ []) (Available p f)
  available_below : {e : Edge} {d : DependencyModel} {m : Side} {f : Text} → LooksOn r s e m
      → Rule r s (Linked e d ∷ ActivatedFeature e.child m f ∷ []) (Available e.parent (declared_name d ++ codes "/" ++ f))
  -- ---- units (Cargo Book, "Cargo Targets", "Build Scripts", "Platform specific dependencies")
  -- what is asked for is compiled, if the features are there that it requires; a library requires none
  asked_library : {u : CompiledUnit} → IsAsked r s u → IsLibrary u.target → Rule r s [] (Compiled u)
  asked : {u : CompiledUnit} → IsAsked r s u → ¬ IsLibrary u.target → Rule r s (requires u.krate u.target) (Compiled u)
  -- a unit needs the libraries of its dependencies: those that pass where it runs, optional ones if they are turned on
  library_below : {u : CompiledUnit} {e : Edge} {d : DependencyModel} {l : TargetModel} {n : Side} {at : Placement}
      → e.parent ≡ u.krate → HasKind u.target u.mode e.kind → IsBuiltFrom r s u.placement.platform e l
      → HasFeaturesOf s u.placement.side n → GoesTo l u.placement at
      → Rule r s (Compiled u ∷ Linked e d ∷ if_optional d (ActivatedName e.parent n (declared_name d)))
      (Needed e d u.placement.platform (unit e.child l modes.Build at))
  needed_library : {e : Edge} {d : DependencyModel} {k : Platform} {u : CompiledUnit} → Rule r s (Needed e d k u ∷ []) (Compiled u)
  -- it needs its crate's library, and with its tests it may need its crate's programs
  own_library : {u : CompiledUnit} {l : TargetModel} {at : Placement} → ¬ IsLibrary u.target → HasTarget r u.krate l → IsLinkable l
      → GoesTo l u.placement at → Rule r s (Compiled u ∷ []) (Compiled (unit u.krate l modes.Build at))
  own_program : {u : CompiledUnit} {b : TargetModel} → RunsPrograms u.target u.mode → HasTarget r u.krate b → Contains b.kind Bin
      → Rule r s (Compiled u ∷ requires u.krate b)
      (Compiled (unit u.krate b modes.Build (record { platform = u.placement.platform; side = sides.Targets })))
  -- it needs a run of its crate's build script, which is compiled for the host, with the features of its crate's side
  script_run : {u : CompiledUnit} → HasTargetThat r u.krate IsScript → Rule r s (Compiled u ∷ []) (ScriptRun u.krate u.placement)
  script_compiled : {p : Id} {at : Placement} → Rule r s (ScriptRun p at ∷ []) (ScriptCompiled p at.side)
  script_below : {e : Edge} {d : DependencyModel} {l : TargetModel} {m n : Side} → e.kind ≡ Build → IsBuiltFrom r s host e l
      → HasFeaturesOf s m n
      → Rule r s (ScriptCompiled e.parent m ∷ Linked e d ∷ if_optional d (ActivatedName e.parent n (declared_name d)))
      (Needed e d host (unit e.child l modes.Build host_placement))
  -- the run needs those of the scripts of the libraries that its crate is linked with, where these are for a native library (Cargo Book,
  -- "Build Scripts", "The `links` Manifest Key"); that dev dependencies don't count was found by trial
  run_below : {u : CompiledUnit} {e : Edge} {d : DependencyModel} {l : TargetModel} {n : Side} {at : Placement}
      → e.parent ≡ u.krate → e.kind ≡ Normal → HasTargetThat r u.krate IsScript → IsLinkedFrom r s u.placement.platform e l
      → HasFeaturesOf s u.placement.side n → GoesTo l u.placement at
      → Rule r s (Compiled u ∷ Linked e d ∷ if_optional d (ActivatedName e.parent n (declared_name d)))
      (RunNeeded e d u.placement at)
