-- By the rows of tables follow exactly the facts that are derivable, and each row is a rule.
use Rattle.std.proofs.Common.{◌↔◌, List, [], ◌∷◌, inl, inr, subst}
use Rattle.krates_rules.specs.Facts.{Id}
use Rattle.krates_rules.specs.Resolved.{Resolved}
use Rattle.krates_units.specs.BuildFacts.{Fact}
use Rattle.krates_units.specs.BuildRules.{Rule}
use Rattle.krates_units.specs.BuildRules as rules
use Rattle.krates_units.specs.BuildSetting.{BuildSettingModel}
use Rattle.krates_units.specs.Built.{IsDerivable, IsPremise, follows}
use Rattle.krates_units.specs.Machines.{MachineModel}
use Rattle.krates_build_tables.specs.TablesOf.{AreTables}
use Rattle.krates_build_tables.specs.declared.tables.Tables.{Tables}
use Rattle.krates_build_facts.specs.FactModels.{FactModel, Met, LinkedReference, LinkedFeature, LinkedName, Linked, Lost, Activated, ActivatedReference, ActivatedFeature, ActivatedName, Used, Available, Compiled, Needed, ScriptRun, ScriptCompiled, RunNeeded}
use Rattle.krates_build_facts.specs.Meanings.{AreMeant, EachHasMeaning, EachHasNumber, EachRowIsRule, Follows, FollowsAsDerivable, IsRow, Means, by_row}
use Rattle.krates_build_facts.specs.Rows.{rows_of}
use Rattle.krates_build_facts.proofs.CoverActivated as activated
use Rattle.krates_build_facts.proofs.CoverLinked as linked
use Rattle.krates_build_facts.proofs.AskedRows.{asked, asked_library, sound_initial}
use Rattle.krates_build_facts.proofs.AvailableRows.{available, available_below, sound_available}
use Rattle.krates_build_facts.proofs.Claims.{AreSound, HasNumbers, IsCovered, IsSound, MeansDerivable}
use Rattle.krates_build_facts.proofs.LibraryRows.{needed_library, sound_needed}
use Rattle.krates_build_facts.proofs.OwnTargetRows.{own_library, own_program, script_run, sound_compiled}
use Rattle.krates_build_facts.proofs.RowLists.{Each, first_of, more_premises, none_premise, rest_of}
use Rattle.krates_build_facts.proofs.RootRows.{root_activated, root_linked, root_met, root_reference}
use Rattle.krates_build_facts.proofs.RunRows.{run_below, sound_run_needed}
use Rattle.krates_build_facts.proofs.ScriptRows.{script_below, script_compiled, sound_script_compiled, sound_script_run}
use Rattle.krates_build_facts.proofs.SoundActivated.{sound_activated, sound_activated_feature, sound_activated_name, sound_activated_reference, sound_used}
use Rattle.krates_build_facts.proofs.SoundLinked.{sound_linked, sound_linked_feature, sound_linked_name, sound_linked_reference, sound_lost, sound_met}
use Rattle.krates_build_facts.proofs.UniqueMeanings.{unique_meaning}
use Rattle.krates_build_facts.proofs.UnitLibraryRows.{library_below}

module _ (r : Resolved) (s : BuildSettingModel) (ids : List Id) (ms : List MachineModel) (t : Tables)
    (tables : AreTables r s ids ms t) where
  -- ---- each row is a rule

  sound_begin : (begin : FactModel) → AreSound r s ids ms t (rows_of t begin)
  sound_begin (Met c m) = sound_met r s ids ms t tables c m
  sound_begin (LinkedReference c m v) = sound_linked_reference r s ids ms t tables c m v
  sound_begin (LinkedFeature c m f) = sound_linked_feature r s ids ms t tables c m f
  sound_begin (LinkedName c m d) = sound_linked_name r s ids ms t tables c m d
  sound_begin (Linked place) = sound_linked r s ids ms t tables place
  sound_begin (Lost c index) = sound_lost r s ids ms t tables c index
  sound_begin (Activated c n) = sound_activated r s ids ms t tables c n
  sound_begin (ActivatedReference c n v) = sound_activated_reference r s ids ms t tables c n v
  sound_begin (ActivatedFeature c n f) = sound_activated_feature r s ids ms t tables c n f
  sound_begin (ActivatedName c n d) = sound_activated_name r s ids ms t tables c n d
  sound_begin (Used place n) = sound_used r s ids ms t tables place n
  sound_begin (Available c text) = sound_available r s ids ms t tables c text
  sound_begin (Compiled u) = sound_compiled r s ids ms t tables u
  sound_begin (Needed place from library) = sound_needed r s ids ms t tables place from library
  sound_begin (ScriptRun c at) = sound_script_run r s ids ms t tables c at
  sound_begin (ScriptCompiled c n) = sound_script_compiled r s ids ms t tables c n
  sound_begin (RunNeeded place from run) = sound_run_needed r s ids ms t tables place from run

  sound_row : (ps : List FactModel) (n : FactModel) → IsRow t ps n → IsSound r s ids ms t ps n
  sound_row ps n (inl first) = sound_initial r s ids ms t tables ps n first
  sound_row ps n (inr (begin, c)) = sound_begin begin ps n c

  -- ---- what follows is derivable

  -- what derivable facts mean, one by one
  derivable_meanings : (ns : List FactModel) → Each (MeansDerivable r s ids ms t) ns
      → (fs : List Fact) × AreMeant r s ids ms t ns fs × ((g : Fact) → IsPremise g fs → IsDerivable r s g)
  derivable_meanings [] each = ([], tt, none_premise (IsDerivable r s))
  derivable_meanings (n ∷ ns) each =
      let MD = MeansDerivable r s ids ms t in
      let first = first_of MD n ns each in
      let more = derivable_meanings ns (rest_of MD n ns each) in
      (first.fact ∷ more.0, (first.means, more.1), more_premises (IsDerivable r s) first.fact more.0 first.derivable more.2)

  row_derivable : (ps : List FactModel) (n : FactModel) → IsRow t ps n → Each (MeansDerivable r s ids ms t) ps → MeansDerivable r s ids ms t n
  row_derivable ps n row each =
      let meant = derivable_meanings ps each in
      let by = sound_row ps n row meant.0 meant.1 in
      record { fact = by.0; means = by.1; derivable = follows by.2 meant.2 }

  following : {n : FactModel} → Follows t n → MeansDerivable r s ids ms t n
  following (by_row {premises = ps} {f = n} row below) = row_derivable ps n row (λ p c. following (below p c))

  -- ---- what is derivable follows

  rule_covered : {premises : List Fact} {fact : Fact} → Rule r s premises fact → IsCovered r s ids ms t premises fact
  rule_covered (rules.root_met {p = p} h) = root_met r s ids ms t tables p h
  rule_covered (rules.root_linked {p = p} {v = v} h) = root_linked r s ids ms t tables p v h
  rule_covered (rules.linked_reference {p = p} {w = w} {f = f} {v = v} h) = linked.linked_reference_covered r s ids ms t tables p w f v h
  rule_covered (rules.linked_feature {p = p} {w = w} {g = g}) = linked.linked_feature_covered r s ids ms t tables p w g
  rule_covered (rules.linked_name {p = p} {w = w} {v = v} {c = c} h) = linked.linked_name_covered r s ids ms t tables p w v c h
  rule_covered (rules.linked_implied {p = p} {w = w} {c = c} {g = g} h k) = linked.linked_implied_covered r s ids ms t tables p w c g h k
  rule_covered (rules.linked_toggled {e = e} {d = d} {w = w} {v = v} {g = g} h k l) =
      linked.linked_toggled_covered r s ids ms t tables e d w v g h k l
  rule_covered (rules.linked {e = e} {d = d} {w = w} h k) = linked.linked_covered r s ids ms t tables e d w h k
  rule_covered (rules.linked_met {e = e} {d = d}) = linked.linked_met_covered r s ids ms t tables e d
  rule_covered (rules.linked_given {e = e} {d = d} {g = g} h) = linked.linked_given_covered r s ids ms t tables e d g h
  rule_covered (rules.lost {p = p} {d = d} {w = w} h k) = linked.lost_covered r s ids ms t tables p d w h k
  rule_covered (rules.root_activated {p = p} {n = n} h k) = root_activated r s ids ms t tables p n h k
  rule_covered (rules.root_reference {p = p} {n = n} {v = v} h k) = root_reference r s ids ms t tables p n v h k
  rule_covered (rules.reference {p = p} {n = n} {f = f} {v = v} h) = activated.reference_covered r s ids ms t tables p n f v h
  rule_covered (rules.feature {p = p} {n = n} {g = g}) = activated.feature_covered r s ids ms t tables p n g
  rule_covered (rules.name {p = p} {n = n} {c = c}) = activated.name_covered r s ids ms t tables p n c
  rule_covered (rules.name_strongly {e = e} {d = d} {n = n} {g = g} h k) = activated.name_strongly_covered r s ids ms t tables e d n g h k
  rule_covered (rules.implied {e = e} {d = d} {n = n} {g = g} h k l) = activated.implied_covered r s ids ms t tables e d n g h k l
  rule_covered (rules.used {e = e} {d = d} {n = n} h k) = activated.used_covered r s ids ms t tables e d n h k
  rule_covered (rules.used_by_name {e = e} {d = d} {n = n} h) = activated.used_by_name_covered r s ids ms t tables e d n h
  rule_covered (rules.used_activated {e = e} {d = d} {n = n} {m = m} h) = activated.used_activated_covered r s ids ms t tables e d n m h
  rule_covered (rules.used_given {e = e} {d = d} {n = n} {m = m} {g = g} h k) =
      activated.used_given_covered r s ids ms t tables e d n m g h k
  rule_covered (rules.toggled {e = e} {d = d} {n = n} {m = m} {v = v} {g = g} h k) =
      activated.toggled_covered r s ids ms t tables e d n m v g h k
  rule_covered (rules.available {p = p} {f = f}) = available r s ids ms t tables p f
  rule_covered (rules.available_below {e = e} {d = d} {m = m} {f = f} h) = available_below r s ids ms t tables e d m f h
  rule_covered (rules.asked_library {u = u} h k) = asked_library r s ids ms t tables u h k
  rule_covered (rules.asked {u = u} h k) = asked r s ids ms t tables u h k
  rule_covered (rules.library_below {u = u} {e = e} {d = d} {l = l} {n = n} {at = at} h k b f g) =
      library_below r s ids ms t tables u e d l n at h k b f g
  rule_covered (rules.needed_library {e = e} {d = d} {k = k} {u = u}) = needed_library r s ids ms t tables e d k u
  rule_covered (rules.own_library {u = u} {l = l} {at = at} h k b g) = own_library r s ids ms t tables u l at h k b g
  rule_covered (rules.own_program {u = u} {b = b} h k l) = own_program r s ids ms t tables u b h k l
  rule_covered (rules.script_run {u = u} h) = script_run r s ids ms t tables u h
  rule_covered (rules.script_compiled {p = p} {at = at}) = script_compiled r s ids ms t tables p at
  rule_covered (rules.script_below {e = e} {d = d} {l = l} {m = m} {n = n} h k b) = script_below r s ids ms t tables e d l m n h k b
  rule_covered (rules.run_below {u = u} {e = e} {d = d} {l = l} {n = n} {at = at} h k i b f g) =
      run_below r s ids ms t tables u e d l n at h k i b f g

  deriving_numbers : {f : Fact} → IsDerivable r s f → HasNumbers r s ids ms t f
  deriving_numbers (follows rule below) = rule_covered rule (λ g m. deriving_numbers (below g m))

  -- ---- both

  as_derivable : (number : FactModel) (f : Fact) → Means r s ids ms t number f → Follows t number ↔ IsDerivable r s f
  as_derivable number f means = (
    λ h. (
        let is = following h in
        subst (IsDerivable r s) (unique_meaning r s ids ms t number is.fact f is.means means) is.derivable),
    λ h. (deriving_numbers h).follows number means,
  )

  has_number : (f : Fact) → IsDerivable r s f → (n : FactModel) × Means r s ids ms t n f × Follows t n
  has_number f h = let all = deriving_numbers h in (all.number, all.means, all.follows all.number all.means)

pub each_row_is_rule : EachRowIsRule
each_row_is_rule r s ids ms t tables premises number row = sound_row r s ids ms t tables premises number row

pub follows_as_derivable : FollowsAsDerivable
follows_as_derivable = as_derivable

pub each_has_meaning : EachHasMeaning
each_has_meaning r s ids ms t tables number h = let is = following r s ids ms t tables h in (is.fact, is.means, is.derivable)

pub each_has_number : EachHasNumber
each_has_number = has_number
