-- The setting that leaves out nothing that may count allows each build of members.
use Rattle.std.proofs.Common.{◌≡◌, ◌∙◌, ◌⊎◌, inl, inr, Bool, true, false, not, ◌&&◌, ◌||◌, ltb, List, [], ◌∷◌, Option, Some, None, Contains, refl, sym, ap, subst, arith}
use Rattle.std.proofs.lemmas.Bool.{both_ways, cases_lt, lt-ltb}
use Rattle.krates_cm.specs.Document.{Text, PackageModel, DependencyModel}
use Rattle.krates_cm.specs.declared.dependency.DependencyKind.{DependencyKind}
use Rattle.krates_cm.specs.declared.dependency.DependencyKind.TheVariants as written
use Rattle.krates_text.specs.CfgGrammar.{Tree, all_of, any_of, not_of, constant, word, pair, Trees, no_trees, tree}
use Rattle.krates_text.specs.CfgHolding.{value_among, all_among, some_among}
use Rattle.krates_text.specs.CfgValue.{value, all_true, some_true, count, count_among}
use Rattle.krates_text.specs.Passing.{TellsPassing, expression_passes}
use Rattle.krates_text.specs.TargetTable.{unknown}
use Rattle.krates_rules.specs.Facts.{Id, Edge}
use Rattle.krates_rules.specs.Questions.{Stands}
use Rattle.krates_rules.specs.Resolved.{Resolved, HasPackage, IsMember}
use Rattle.krates_rules.specs.Roots as roots
use Rattle.krates_rules.specs.Roots.{IsRoot}
use Rattle.krates_rules.specs.Setting as settings
use Rattle.krates_rules.specs.Setting.{SettingModel, IsExcluded, IsIgnored, Passes}
use Rattle.krates_units.specs.BuildSetting.{BuildSettingModel, machines}
use Rattle.krates_units.specs.KeptBuild as parts
use Rattle.krates_units.specs.KeptBuild.{AllowsEdge, Extent, MayCount}
use Rattle.krates_units.specs.Machines.{MachineModel, HoldsAt, PassesOn}
use Rattle.krates_units.specs.Requests.{IsBuildRoot, IsBuildRootAs, IsSelected, RootKind}
use Rattle.krates_units.specs.Requests as requests
use Rattle.krates_units.specs.Resolves.{Resolves}
use Rattle.krates_units.specs.WholeSetting.{MeansKind, LeavesOutNothing, IsWholeDocument, PassesSomewhere, IsOfMembers, AllowsEachBuild}

-- ---- target texts

-- an expression without words and pairs has the same value at each machine as where nothing is known
mutual
  value_anywhere : (words : List Text) (pairs : List (Text × Text)) (p : Tree) → count p ≡ 0 → value_among words pairs p ≡ value (unknown []) [] p
  value_anywhere words pairs (all_of ps) none = all_anywhere words pairs ps none
  value_anywhere words pairs (any_of ps) none = some_anywhere words pairs ps none
  value_anywhere words pairs (not_of p) none = ap not (value_anywhere words pairs p none)
  value_anywhere words pairs (constant b) none = refl
  value_anywhere words pairs (word w) none = absurd (omega (arith, none))
  value_anywhere words pairs (pair key string) none = absurd (omega (arith, none))

  all_anywhere : (words : List Text) (pairs : List (Text × Text)) (ps : Trees) → count_among ps ≡ 0
      → all_among words pairs ps ≡ all_true (unknown []) [] ps
  all_anywhere words pairs no_trees none = refl
  all_anywhere words pairs (tree p ps) none =
      let first = value_anywhere words pairs p (omega (arith, none)) in
      let rest = all_anywhere words pairs ps (omega (arith, none)) in
      ap (λ b. b && all_among words pairs ps) first ∙ ap (λ b. value (unknown []) [] p && b) rest

  some_anywhere : (words : List Text) (pairs : List (Text × Text)) (ps : Trees) → count_among ps ≡ 0
      → some_among words pairs ps ≡ some_true (unknown []) [] ps
  some_anywhere words pairs no_trees none = refl
  some_anywhere words pairs (tree p ps) none =
      let first = value_anywhere words pairs p (omega (arith, none)) in
      let rest = some_anywhere words pairs ps (omega (arith, none)) in
      ap (λ b. b || some_among words pairs ps) first ∙ ap (λ b. value (unknown []) [] p || b) rest

or_right : (a b : Bool) → true ≡ b → true ≡ (a || b)
or_right true b told = refl
or_right false b told = told

expression_somewhere : (words : List Text) (pairs : List (Text × Text)) (p : Tree) → value_among words pairs p ≡ true → true ≡ expression_passes p []
expression_somewhere words pairs p holds = elim (cases_lt 0 (count p)) [
  | inl some ↦ ap (λ b. b || value (unknown []) [] p) (sym (lt-ltb 0 (count p) some))
  | inr none ↦ or_right (ltb 0 (count p)) (value (unknown []) [] p) (sym holds ∙ value_anywhere words pairs p (omega (arith, none)))
]

-- what holds at some machine passes where no target is set
holds_somewhere : (text : Text) (m : MachineModel) → HoldsAt text m → TellsPassing text [] true
holds_somewhere text m h = record {
  expression = λ p is. expression_somewhere m.words m.pairs p (h.expression p is);
  triple = λ none. refl;
}

passes_somewhere : (ms : List MachineModel) (cfg : Option Text) → PassesOn ms cfg → PassesSomewhere cfg
passes_somewhere ms None h = tt
passes_somewhere ms (Some text) h = holds_somewhere text h.0 h.2

without_targets : (t : SettingModel) (cfg : Option Text) → t.targets ≡ [] → PassesSomewhere cfg → Passes t cfg
without_targets t None none h = tt
without_targets t (Some text) none h = subst (λ targets. TellsPassing text targets true) (sym none) h

-- ---- the setting

-- an empty list has nothing
nothing_in : {A : Type 0} (xs : List A) (x : A) → xs ≡ [] → Contains xs x → ⊥
nothing_in xs x none c =
    let there : Contains [] x = subst (λ ys. Contains ys x) none c in
    omega (arith, there.1)

-- an edge that may count is of a kind that may
kind_meant : (r : Resolved) (s : BuildSettingModel) (x : Extent) (e : Edge) (kind : DependencyKind) → e.kind ≡ kind → MayCount r s x e
    → MeansKind s x kind
kind_meant r s x e written.Normal is may = tt
kind_meant r s x e written.Development is may = (may.dev is).counts
kind_meant r s parts.everything e written.Build is may = refl
kind_meant r s parts.for_targets e written.Build is may = absurd (may.meant.kind is)

module _ (r : Resolved) (s : BuildSettingModel) (t : SettingModel) (x : Extent) (whole : IsWholeDocument r) (build : IsOfMembers r s)
    (all : LeavesOutNothing s x t) where
  none_excluded : (p : PackageModel) → IsExcluded t p → ⊥
  none_excluded p y = nothing_in t.exclusions y.spec all.exclusions y.among

  none_ignored : (e : Edge) → MayCount r s x e → IsIgnored r t e → ⊥
  none_ignored e may (settings.of_member member told) = both_ways _ (all.ignored e.kind true (kind_meant r s x e e.kind refl may)) told
  none_ignored e may (settings.of_other other told) = both_ways _ (all.ignored e.kind false (kind_meant r s x e e.kind refl may)) told

  with_package : (i : Id) (p : PackageModel) → HasPackage r i p → Stands r t i
  with_package i p has =
      let n = whole.nodes i p has in
      record { included = record { pkg = p; has_package = has; not_excluded = none_excluded p }; node = n.0; has_node = n.1 }

  root_member : (i : Id) (kind : RootKind) → IsBuildRootAs r s i kind → IsMember r i
  root_member i requests.alike y = y.1.0
  root_member i requests.unselected y = y.2
  root_member i requests.current y = y.1.member
  root_member i requests.other y = y.2.0

  member_root : (i : Id) → IsMember r i → IsRoot r t i × Stands r t i
  member_root i member =
      let p = whole.packages i member in
      (roots.of_workspace (roots.by_setting all.manifests all.workspace) member, with_package i p.0 p.1)

  begun_root : (i : Id) → IsBuildRoot r s i ⊎ IsSelected r s i → IsRoot r t i × Stands r t i
  begun_root i (inl root) = member_root i (root_member i root.0 root.1)
  begun_root i (inr selected) = member_root i (build.selected i selected)

  edge_allowed : (e : Edge) (d : DependencyModel) → Resolves r e d → MayCount r s x e → AllowsEdge r t e d
  edge_allowed e d is may =
      let y = whole.edges e d is in
      record {
        declared = y.declared;
        not_ignored = none_ignored e may;
        passes = without_targets t e.cfg all.targets (elim may.passes [
          | inl first ↦ build.texts first e d is
          | inr passes ↦ passes_somewhere (s.host ∷ machines s.host s.targets) e.cfg passes
        ]);
        stands = with_package e.child is.pkg is.has_package;
        named = record { is_named = y.named; least = λ off. absurd (both_ways t.all_named off all.all_named) };
        default = y.default;
      }

pub allows_each_build : AllowsEachBuild
allows_each_build r s t x whole build suits all loses = record {
  resolver = suits;
  none_doubled = whole.none_doubled;
  loses_nothing = loses;
  roots = begun_root r s t x whole build all;
  requested = build.requested;
  edges = edge_allowed r s t x whole build all;
  implied = whole.implied;
  targets = whole.targets;
}
