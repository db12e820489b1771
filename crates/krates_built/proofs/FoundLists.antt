-- The lists of all facts that follow are whole and in order.
use Rattle.std.proofs.Common.{◌≡◌, List, [], ◌∷◌, ◌++◌, All, Contains, Option, Ordering, map, sym, ◌∙◌, subst}
use Rattle.std.proofs.lemmas.List.Elements.{All-contains}
use Rattle.std.specs.List.{filter_map}
use Rattle.std.specs.List.Sorted.{IsStrictlySortedBy}
use Rattle.krates_rules.proofs.Members.{contains_of, member_of}
use Rattle.krates_build_tables.specs.declared.tables.Tables.{Tables}
use Rattle.krates_build_facts.specs.FactModels.{FactModel, fact_view}
use Rattle.krates_build_facts.specs.Mattering.{MayMatter}
use Rattle.krates_build_facts.specs.Meanings.{Follows}
use Rattle.krates_build_facts.specs.FactOrder.{fact_cmp}
use Rattle.krates_build_facts.specs.declared.facts.BuildFact.{BuildFact}
use Rattle.krates_built.specs.BuildLists.{AreListsIn, IsListOf}
use Rattle.krates_built.specs.FactLists.{AreListsOf, HasAdded, feature_in, lost_in, need_in, run_in, run_need_in, script_in, unit_in, with_one}
use Rattle.krates_built.specs.declared.lists.Lists.{Lists}
use Rattle.krates_built.proofs.Picked.{picked_from, picked_map, picked_more, picked_of, picked_sorted}
use Rattle.krates_built.proofs.Picks.{IsPick, feature_pick, lost_pick, need_pick, run_need_pick, run_pick, script_pick, unit_pick}

-- ---- fact by fact

one_more : {A : Type 0} (pick : FactModel → Option A) (fs : List FactModel) (f : FactModel) (old new : List A) → old ≡ filter_map pick fs
    → new ≡ with_one old (pick f) → new ≡ filter_map pick (fs ++ f ∷ [])
one_more {A} pick fs f old new h is = is ∙ subst (λ (xs : List A). with_one xs (pick f) ≡ filter_map pick (fs ++ f ∷ [])) (sym h) (sym (picked_more pick fs f))

-- with one more fact
pub lists_more : (fs gs : List FactModel) (f : FactModel) (old new : Lists) → gs ≡ fs ++ f ∷ [] → AreListsOf fs old → HasAdded old new f → AreListsOf gs new
lists_more fs gs f old new is h added = subst (λ (hs : List FactModel). AreListsOf hs new) (sym is) (record {
  units = one_more unit_in fs f _ _ h.units added.units;
  scripts = one_more script_in fs f _ _ h.scripts added.scripts;
  runs = one_more run_in fs f _ _ h.runs added.runs;
  needs = one_more need_in fs f _ _ h.needs added.needs;
  run_needs = one_more run_need_in fs f _ _ h.run_needs added.run_needs;
  features = one_more feature_in fs f _ _ h.features added.features;
  lost = one_more lost_in fs f _ _ h.lost added.lost;
})

-- ---- of all that follow

module _ (t : Tables) (facts : List BuildFact) (sound : All (Follows t) (map fact_view facts))
    (complete : (f : FactModel) → MayMatter t f → Follows t f → Contains (map fact_view facts) f) (ordered : IsStrictlySortedBy fact_cmp facts) where
  list_found : {A : Type 0} (pick : FactModel → Option A) (fact : A → FactModel) (order : A → A → Ordering) → IsPick pick fact order → (items : List A)
      → items ≡ filter_map pick (map fact_view facts) → IsListOf t fact order items
  list_found {A} pick fact order one items is =
      let fs = map fact_view facts in
      record {
        exact = λ x. (
          λ c. (
              let w = picked_from pick fs x (member_of _ x (subst (λ (xs : List A). Contains xs x) is c)) in
              subst (Follows t) (one.picked w.0 x w.2) (All-contains (Follows t) fs w.0 sound (contains_of fs w.0 w.1))),
          λ h. (
              let there = member_of fs (fact x) (complete (fact x) (one.matters t x) h) in
              subst (λ (xs : List A). Contains xs x) (sym is) (contains_of _ x (picked_of pick fs (fact x) x there (one.picks x)))),
        );
        ascending = subst (IsStrictlySortedBy order) (sym (is ∙ picked_map pick fact_view facts))
            (picked_sorted fact_cmp order (λ (f : BuildFact). pick (fact_view f)) one.keeps facts ordered);
      }

  pub lists_found : (l : Lists) → AreListsOf (map fact_view facts) l → AreListsIn t l
  lists_found l are = record {
    units = list_found unit_in _ _ unit_pick _ are.units;
    scripts = list_found script_in _ _ script_pick _ are.scripts;
    runs = list_found run_in _ _ run_pick _ are.runs;
    needs = list_found need_in _ _ need_pick _ are.needs;
    run_needs = list_found run_need_in _ _ run_need_pick _ are.run_needs;
    features = list_found feature_in _ _ feature_pick _ are.features;
    lost = list_found lost_in _ _ lost_pick _ are.lost;
  }
