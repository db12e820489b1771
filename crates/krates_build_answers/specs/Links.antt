-- By number: which built crates need which.
use Rattle.std.specs.Prelude.{◌≡◌, ◌≢◌, ◌↔◌, List, Option, Some, Contains, slice_get, true}
use Rattle.std.specs.Option.{option_and_then}
use Rattle.krates_cm.specs.declared.dependency.DependencyKind.{DependencyKind}
use Rattle.krates_cm.specs.declared.dependency.DependencyKind.TheVariants.{Build}
use Rattle.krates_rules.specs.Kind.{kind_of}
use Rattle.krates_build_tables.specs.declared.tables.Link.{Link}
use Rattle.krates_build_tables.specs.declared.tables.LinkPlace.{LinkPlace}
use Rattle.krates_build_tables.specs.declared.tables.Tables.{Tables}
use Rattle.krates_build_facts.specs.FactModels.{ActivatedName}
use Rattle.krates_build_facts.specs.Meanings.{Follows}
use Rattle.krates_build_facts.specs.Rows.{features_side}
use Rattle.krates_build_facts.specs.declared.facts.PlatformNumber.{PlatformNumber}
use Rattle.krates_built.specs.BuildLists.{need_fact, run_fact}
use Rattle.krates_built.specs.declared.places.NeedPlace.{NeedPlace}
use Rattle.krates_built.specs.declared.places.RunPlace.{RunPlace}
use Rattle.krates_build_answers.specs.declared.links.BuildLink.{BuildLink}

-- the link at the place
abbrev pub link_at : Tables → LinkPlace → Option Link
link_at t place = option_and_then (λ e. slice_get e.links.items place.index) (slice_get t.crates.items place.krate)

-- what is built for the platform, of the crate that has the dependency, needs the library, by a dependency of this kind
abbrev pub over : NeedPlace → PlatformNumber → DependencyKind → BuildLink
over need from kind = record {
  from = record { krate = need.link.krate; platform = from };
  to = record { krate = need.library.target.krate; platform = need.library.placement.platform };
  kind = kind_of kind;
}

-- for the run of a build script, the dependency isn't optional, or it is turned on, on the side of the features that the script has
abbrev pub IsTurnedOn : Tables → Link → RunPlace → Type 0
IsTurnedOn t l run = l.is_optional ≡ true → Follows t (ActivatedName run.krate (features_side t run.placement.side) l.name.now)

-- the run is one of the crate's build script, which needs the library
pub record IsRunFor (t : Tables) (need : NeedPlace) (l : Link) (run : RunPlace) : Type 0 where
  pub krate : run.krate ≡ need.link.krate
  pub turned_on : IsTurnedOn t l run

-- so what the run is for needs it
pub record IsOfRun (t : Tables) (need : NeedPlace) (l : Link) (run : RunPlace) (x : BuildLink) : Type 0 where
  pub run_for : IsRunFor t need l run
  pub is : over need run.placement.platform l.kind ≡ x

-- some run of the crate's build script is for what needs it
pub record IsOfScript (t : Tables) (need : NeedPlace) (l : Link) (x : BuildLink) : Type 0 where
  pub run : RunPlace
  pub follows : Follows t (run_fact run)
  pub is : IsOfRun t need l run x

-- What a build script needs is needed by what its crate is built for, if the script is run for that. What else needs a library needs it itself.
pub data IsOver (t : Tables) (need : NeedPlace) (l : Link) (x : BuildLink) : Type 0 where
  of_unit : l.kind ≢ Build → over need need.from l.kind ≡ x → IsOver t need l x
  of_script : l.kind ≡ Build → IsOfScript t need l x → IsOver t need l x

-- so over the link by which a library is needed
pub record IsLinkOver (t : Tables) (need : NeedPlace) (x : BuildLink) : Type 0 where
  pub link : Link
  pub at : link_at t need.link ≡ Some link
  pub is : IsOver t need link x

-- over some library that is needed
pub record IsLinkAt (t : Tables) (x : BuildLink) : Type 0 where
  pub need : NeedPlace
  pub follows : Follows t (need_fact need)
  pub is : IsLinkOver t need x

-- these are exactly those links
abbrev pub AreLinksIn : Tables → List BuildLink → Type 0
AreLinksIn t links = (x : BuildLink) → Contains links x ↔ IsLinkAt t x
