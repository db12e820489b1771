-- The links over one need, by the link of the tables.
use Rattle.std.proofs.Common.{◌≡◌, ◌≢◌, ◌↔◌, List, [], Some, None, Contains, sym, ◌∙◌, subst, inl, inr}
use Rattle.std.proofs.lemmas.Option.{none-some, same_Some}
use Rattle.krates_cm.specs.declared.dependency.DependencyKind.TheVariants.{Build}
use Rattle.krates_rules.proofs.Members.{member_of}
use Rattle.krates_build_tables.specs.declared.tables.Link.{Link}
use Rattle.krates_build_tables.specs.declared.tables.Tables.{Tables}
use Rattle.krates_built.specs.BuildLists.{IsListOf, need_cmp, need_fact, run_cmp, run_fact}
use Rattle.krates_built.specs.declared.places.NeedPlace.{NeedPlace}
use Rattle.krates_built.specs.declared.places.RunPlace.{RunPlace}
use Rattle.krates_build_answers.specs.Adding.{Adds, IsOfSome}
use Rattle.krates_build_answers.specs.Links.{AreLinksIn, IsLinkAt, IsLinkOver, IsOfRun, IsOfScript, IsOver, IsRunFor, link_at, of_script, of_unit, over}
use Rattle.krates_build_answers.specs.declared.links.BuildLink.{BuildLink}

module _ (t : Tables) (need : NeedPlace) where
  -- no link is there
  pub none_over : link_at t need.link ≡ None → (x : BuildLink) → IsLinkOver t need x → ⊥
  none_over none x h = none-some h.link (sym none ∙ h.at)

  -- this link is there
  pub over_link : (l : Link) → link_at t need.link ≡ Some l → (x : BuildLink) → IsOver t need l x ↔ IsLinkOver t need x
  over_link l at x = (
    λ h. record { link = l; at = at; is = h },
    λ h. subst (λ (k : Link). IsOver t need k x) (same_Some h.link l (sym h.at ∙ at)) h.is,
  )

  script_of : (l : Link) → l.kind ≡ Build → (x : BuildLink) → IsOver t need l x → IsOfScript t need l x
  script_of l kind x (of_unit isnt is) = absurd (isnt kind)
  script_of l kind x (of_script is h) = h

  -- it is one of a build script
  pub over_script : (l : Link) → l.kind ≡ Build → (x : BuildLink) → IsOfScript t need l x ↔ IsOver t need l x
  over_script l kind x = (λ h. of_script kind h, script_of l kind x)

  unit_of : (l : Link) → l.kind ≢ Build → (x : BuildLink) → IsOver t need l x → over need need.from l.kind ≡ x
  unit_of l isnt x (of_unit other is) = is
  unit_of l isnt x (of_script kind h) = absurd (isnt kind)

  -- or not
  pub over_unit : (l : Link) → l.kind ≢ Build → (x : BuildLink) → (over need need.from l.kind ≡ x) ↔ IsOver t need l x
  over_unit l isnt x = (λ is. of_unit isnt is, unit_of l isnt x)

  -- ---- runs

  pub of_run : (l : Link) (run : RunPlace) → IsRunFor t need l run → (x : BuildLink) → (over need run.placement.platform l.kind ≡ x) ↔ IsOfRun t need l run x
  of_run l run is x = (λ e. record { run_for = is; is = e }, λ h. h.is)

  -- those of all runs are those of the script
  pub of_runs : (l : Link) (runs : List RunPlace) → IsListOf t run_fact run_cmp runs → (x : BuildLink) → IsOfSome (IsOfRun t need l) runs x ↔ IsOfScript t need l x
  of_runs l runs whole x = (
    λ w. record { run = w.from; follows = (whole.exact w.from).0 w.among; is = w.related },
    λ h. record { from = h.run; among = (whole.exact h.run).1 h.follows; related = h.is },
  )

-- ---- all needs

nothing_there : (x : BuildLink) → Contains [] x → ⊥
nothing_there x c = member_of [] x c

-- those over all needs are all links
pub all_links : (t : Tables) (needs : List NeedPlace) (all links : List BuildLink) → IsListOf t need_fact need_cmp needs
    → Adds (IsOfSome (IsLinkOver t) needs) [] all → ((x : BuildLink) → Contains links x ↔ Contains all x) → AreLinksIn t links
all_links t needs all links whole h same x = (
  λ c. elim ((h x).0 ((same x).0 c)) [
    | inl none ↦ absurd (nothing_there x none)
    | inr w ↦ record { need = w.from; follows = (whole.exact w.from).0 w.among; is = w.related }
  ],
  λ w. (same x).1 ((h x).1 (inr (record { from = w.need; among = (whole.exact w.need).1 w.follows; related = w.is }))),
)
