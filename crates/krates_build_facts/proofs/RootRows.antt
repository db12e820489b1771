-- The rows of roots, with which a build begins.
use Rattle.std.proofs.Common.{◌≡◌, ℕ, true, List, [], ◌∷◌, ◌++◌, Contains, Some, if◌then◌else◌, refl, sym, subst, slice_get, flat_map}
use Rattle.std.proofs.lemmas.List.Elements.{Contains-append_left, Contains-append_right}
use Rattle.krates_text.specs.FeatureReference.{Reference}
use Rattle.krates_rules.specs.Facts.{Id}
use Rattle.krates_rules.specs.Resolved.{Resolved}
use Rattle.krates_rules.proofs.Elements.{contains_image, contains_source}
use Rattle.krates_rules.proofs.OnlyOne.{place_in}
use Rattle.krates_units.specs.BuildFacts.{Fact}
use Rattle.krates_units.specs.BuildFacts as means
use Rattle.krates_units.specs.BuildRules.{Rule}
use Rattle.krates_units.specs.BuildRules as rules
use Rattle.krates_units.specs.BuildSetting.{BuildSettingModel}
use Rattle.krates_units.specs.Machines.{MachineModel}
use Rattle.krates_units.specs.Requests.{IsBuildRoot, IsRequested, default, each, taken}
use Rattle.krates_units.specs.Sides.{StartsOn, on_targets}
use Rattle.krates_units.specs.declared.sides.Meeting.TheVariants as meetings
use Rattle.krates_units.specs.declared.sides.Side.{Side}
use Rattle.krates_units.specs.declared.sides.Side.TheVariants as sides
use Rattle.krates_build_tables.specs.References.{reference_view}
use Rattle.krates_build_tables.specs.TablesOf.{AreTables, CrateAt}
use Rattle.krates_build_tables.specs.declared.tables.CrateEntry.{CrateEntry}
use Rattle.krates_build_tables.specs.declared.tables.Tables.{Tables}
use Rattle.krates_build_facts.specs.FactModels.{FactModel, RuleModel, Activated, ActivatedReference, LinkedReference, Met}
use Rattle.krates_build_facts.specs.InitialRows.{asked_rows, initial_in, initial_rows, machine_count, requested, root_rows}
use Rattle.krates_build_facts.specs.Meanings.{Follows, Means}
use Rattle.krates_build_facts.specs.Rows.{rule, rule_if}
use Rattle.krates_build_facts.proofs.Claims.{AreSound, IsCovered, IsSound}
use Rattle.krates_build_facts.proofs.CoverRows.{by_initial, numbers}
use Rattle.krates_build_facts.proofs.RowLists.{each_none, here, in_flat_at, in_if, in_where, rows_append, rows_flat, rows_if, rows_more, rows_where, there}
use Rattle.krates_build_facts.proofs.SoundRows.{gives}
use Rattle.krates_build_facts.proofs.TableEntries.{CrateHere, crate_of, entry_of}

-- what is requested is so of a root
requested_root : (r : Resolved) (s : BuildSettingModel) (i : Id) (v : Reference) → IsRequested r s i v → IsBuildRoot r s i
requested_root r s i v (default kind is asks has) = (kind, is)
requested_root r s i v (each kind is differs all has) = (kind, is)
requested_root r s i v (taken kind is given takes) = (kind, is)

-- a root's rows, but for what is requested
abbrev pub host_row : CrateEntry → List RuleModel
host_row e = rule_if e.starts_on_host [] (Activated e.number sides.Host)

abbrev pub side_rows : CrateEntry → List RuleModel
side_rows e = rule [] (Activated e.number sides.Targets) ∷ host_row e

abbrev pub root_itself : CrateEntry → List RuleModel
root_itself e = rule [] (Met e.number meetings.Root) ∷ side_rows e

-- those of what is requested
abbrev pub host_request : CrateEntry → Reference → List RuleModel
host_request e v = rule_if e.starts_on_host [] (ActivatedReference e.number sides.Host v)

abbrev pub side_requests : CrateEntry → Reference → List RuleModel
side_requests e v = rule [] (ActivatedReference e.number sides.Targets v) ∷ host_request e v

abbrev pub requested_rows : CrateEntry → List RuleModel
requested_rows e = flat_map (λ v. requested e (reference_view v)) e.requested.items

module _ (r : Resolved) (s : BuildSettingModel) (ids : List Id) (ms : List MachineModel) (t : Tables)
    (tables : AreTables r s ids ms t) where
  -- ---- the rows are rules

  from_nothing : (n : FactModel) (f : Fact) → Means r s ids ms t n f → Rule r s [] f → IsSound r s ids ms t [] n
  from_nothing n f is by = gives r s ids ms t [] n f [] is by tt

  requested_sound : (i : Id) (e : CrateEntry) (v : Reference) → CrateAt ids e.number i
      → (e.starts_on_host ≡ true → StartsOn r s i sides.Host) → IsRequested r s i v → AreSound r s ids ms t (requested e v)
  requested_sound i e v crate starts asks =
      let P = IsSound r s ids ms t in
      rows_more P [] (LinkedReference e.number meetings.Root v) (rule [] (ActivatedReference e.number sides.Targets v) ∷ host_request e v)
      (from_nothing (LinkedReference e.number meetings.Root v) (means.LinkedReference i meetings.Root v) (i, crate, refl)
      (rules.root_linked asks))
      (rows_more P [] (ActivatedReference e.number sides.Targets v) (host_request e v)
      (from_nothing (ActivatedReference e.number sides.Targets v) (means.ActivatedReference i sides.Targets v) (i, crate, refl)
      (rules.root_reference asks on_targets))
      (rows_if P e.starts_on_host [] (ActivatedReference e.number sides.Host v) (λ is.
      from_nothing (ActivatedReference e.number sides.Host v) (means.ActivatedReference i sides.Host v) (i, crate, refl)
      (rules.root_reference asks (starts is)))))

  pub root_rows_sound : (c : ℕ) (e : CrateEntry) → slice_get t.crates.items c ≡ Some e → AreSound r s ids ms t (root_rows e)
  root_rows_sound c e at =
      let P = IsSound r s ids ms t in
      let found = crate_of r s ids ms t tables c e at in
      let i = found.0 in
      let crate : CrateAt ids e.number i = subst (λ k. CrateAt ids k i) (sym found.1.says.number_is) found.1.crate_at in
      rows_where P e.is_root (root_itself e ++ requested_rows e) (λ is.
      (let root = found.1.says.root.0 is in
      rows_more P [] (Met e.number meetings.Root) (rule [] (Activated e.number sides.Targets) ∷ (host_row e ++ requested_rows e))
      (from_nothing (Met e.number meetings.Root) (means.Met i meetings.Root) (i, crate, refl) (rules.root_met root))
      (rows_more P [] (Activated e.number sides.Targets) (host_row e ++ requested_rows e)
      (from_nothing (Activated e.number sides.Targets) (means.Activated i sides.Targets) (i, crate, refl)
      (rules.root_activated root on_targets))
      (rows_append P (host_row e) (requested_rows e)
      (rows_if P e.starts_on_host [] (Activated e.number sides.Host) (λ starts.
      from_nothing (Activated e.number sides.Host) (means.Activated i sides.Host) (i, crate, refl)
      (rules.root_activated root (found.1.says.starts_on_host.0 starts))))
      (rows_flat P (λ v. requested e (reference_view v)) e.requested.items (λ v among.
      requested_sound i e (reference_view v) crate found.1.says.starts_on_host.0
      ((found.1.says.requested (reference_view v)).1 (contains_image reference_view e.requested.items v among))))))))

  -- ---- what roots have by the rules is so by rows

  -- a row of a root is one of those that a build begins with
  among_rows : (c : ℕ) (i : Id) (e : CrateEntry) (row : RuleModel) → CrateHere r s ids ms t c i e → IsBuildRoot r s i
      → Contains (root_itself e ++ requested_rows e) row → Contains (initial_rows t) row
  among_rows c i e row crate root there =
      in_flat_at (initial_in (machine_count t)) t.crates.items c e row crate.at
      (Contains-append_left (root_rows e) (if e.is_selected then flat_map (asked_rows (machine_count t)) e.targets.items else []) row
      (in_where e.is_root (root_itself e ++ requested_rows e) row (crate.says.root.1 root) there))

  -- a number of the fact follows by the row
  root_row : (P : ℕ → FactModel) (c : ℕ) (i : Id) → CrateAt ids c i → IsBuildRoot r s i
      → ((e : CrateEntry) → CrateHere r s ids ms t c i e → Contains (root_itself e ++ requested_rows e) (rule [] (P e.number)))
      → Follows t (P c)
  root_row P c i crate root row =
      let entry = entry_of r s ids ms t tables c i crate in
      let e = entry.0 in
      subst (λ k. Follows t (P k)) entry.1.says.number_is
      (by_initial t [] (P e.number) (among_rows c i e (rule [] (P e.number)) entry.1 root (row e entry.1)) (each_none (Follows t)))

  -- what is requested is among the rows
  among_requested : (c : ℕ) (i : Id) (e : CrateEntry) (v : Reference) (row : RuleModel) → CrateHere r s ids ms t c i e
      → IsRequested r s i v → Contains (requested e v) row
      → Contains (root_itself e ++ requested_rows e) row
  among_requested c i e v row crate asks there =
      let found = contains_source reference_view e.requested.items v ((crate.says.requested v).0 asks) in
      let place = place_in e.requested.items found.0 found.1 in
      Contains-append_right (root_itself e) (requested_rows e) row
      (in_flat_at (λ v. requested e (reference_view v)) e.requested.items place.0 found.0 row place.1
      (subst (λ v. Contains (requested e v) row) (sym found.2) there))

  pub root_met : (p : Id) → IsBuildRoot r s p → IsCovered r s ids ms t [] (means.Met p meetings.Root)
  root_met p root have =
      let number = tables.roots p root in
      let fact = means.Met p meetings.Root in
      numbers r s ids ms t fact (Met number.0 meetings.Root) (p, number.1, refl) (λ c crate.
      root_row (λ c. Met c meetings.Root) c p crate root (λ e entry.
      Contains-append_left (root_itself e) (requested_rows e) (rule [] (Met e.number meetings.Root))
      (here (rule [] (Met e.number meetings.Root)) (side_rows e))))

  pub root_linked : (p : Id) (v : Reference) → IsRequested r s p v → IsCovered r s ids ms t [] (means.LinkedReference p meetings.Root v)
  root_linked p v asks have =
      let root = requested_root r s p v asks in
      let number = tables.roots p root in
      let fact = means.LinkedReference p meetings.Root v in
      numbers r s ids ms t fact (LinkedReference number.0 meetings.Root v) (p, number.1, refl) (λ c crate.
      root_row (λ c. LinkedReference c meetings.Root v) c p crate root (λ e entry.
      among_requested c p e v (rule [] (LinkedReference e.number meetings.Root v)) entry asks
      (here (rule [] (LinkedReference e.number meetings.Root v)) (side_requests e v))))

  activated_row : (p : Id) (n : Side) (c : ℕ) (e : CrateEntry) → CrateHere r s ids ms t c p e → StartsOn r s p n
      → Contains (root_itself e) (rule [] (Activated e.number n))
  activated_row p sides.Targets c e crate starts =
      there (rule [] (Met e.number meetings.Root)) (side_rows e) (rule [] (Activated e.number sides.Targets))
      (here (rule [] (Activated e.number sides.Targets)) (host_row e))
  activated_row p sides.Host c e crate starts =
      there (rule [] (Met e.number meetings.Root)) (side_rows e) (rule [] (Activated e.number sides.Host))
      (there (rule [] (Activated e.number sides.Targets)) (host_row e) (rule [] (Activated e.number sides.Host))
      (in_if e.starts_on_host [] (Activated e.number sides.Host) (crate.says.starts_on_host.1 starts)))

  pub root_activated : (p : Id) (n : Side) → IsBuildRoot r s p → StartsOn r s p n → IsCovered r s ids ms t [] (means.Activated p n)
  root_activated p n root starts have =
      let number = tables.roots p root in
      let fact = means.Activated p n in
      numbers r s ids ms t fact (Activated number.0 n) (p, number.1, refl) (λ c crate.
      root_row (λ c. Activated c n) c p crate root (λ e entry.
      Contains-append_left (root_itself e) (requested_rows e) (rule [] (Activated e.number n)) (activated_row p n c e entry starts)))

  reference_row : (p : Id) (n : Side) (v : Reference) (c : ℕ) (e : CrateEntry) → CrateHere r s ids ms t c p e → StartsOn r s p n
      → Contains (requested e v) (rule [] (ActivatedReference e.number n v))
  reference_row p sides.Targets v c e crate starts =
      there (rule [] (LinkedReference e.number meetings.Root v)) (side_requests e v)
      (rule [] (ActivatedReference e.number sides.Targets v)) (here (rule [] (ActivatedReference e.number sides.Targets v))
      (host_request e v))
  reference_row p sides.Host v c e crate starts =
      there (rule [] (LinkedReference e.number meetings.Root v)) (side_requests e v) (rule [] (ActivatedReference e.number sides.Host v))
      (there (rule [] (ActivatedReference e.number sides.Targets v)) (host_request e v) (rule [] (ActivatedReference e.number sides.Host v))
      (in_if e.starts_on_host [] (ActivatedReference e.number sides.Host v) (crate.says.starts_on_host.1 starts)))

  pub root_reference : (p : Id) (n : Side) (v : Reference) → IsRequested r s p v → StartsOn r s p n
      → IsCovered r s ids ms t [] (means.ActivatedReference p n v)
  root_reference p n v asks starts have =
      let root = requested_root r s p v asks in
      let number = tables.roots p root in
      let fact = means.ActivatedReference p n v in
      numbers r s ids ms t fact (ActivatedReference number.0 n v) (p, number.1, refl) (λ c crate.
      root_row (λ c. ActivatedReference c n v) c p crate root (λ e entry.
      among_requested c p e v (rule [] (ActivatedReference e.number n v)) entry asks (reference_row p n v c e entry starts)))
