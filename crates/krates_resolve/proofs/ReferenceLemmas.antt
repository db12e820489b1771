-- What an enabled feature gives by its references, and what it may give.
use Rattle.std.proofs.Common.{Bor, ◌≡◌, ℕ, ◌+◌, ◌<◌, List, [], ◌∷◌, ◌++◌, length, get_or, take, map, Some, Contains, Result, Ok, Err, OnOk, String, Global, refl, sym, ap, ◌∙◌, subst}
use Rattle.std.proofs.lemmas.Option.{same_Some}
use Rattle.std.proofs.lemmas.List.Sums.{sum_by_push}
use Rattle.std.specs.List.{AllZip, slice_get, sum}
use Rattle.krates_cm.specs.Document.{Text, node_dep_view, text_view}
use Rattle.krates_text.specs.FeatureReference.{Reference, weak, strong, simple, IsReference, HasOneReading, reference_of}
use Rattle.krates_ids.specs.Identity.{Identity}
use Rattle.krates_rules.specs.Admission.{NoneDoubled}
use Rattle.krates_rules.specs.Demands.{Demands}
use Rattle.krates_rules.specs.Derivation.{follows}
use Rattle.krates_rules.specs.Facts.{Id, Edge, Crate, Feature, Kept}
use Rattle.krates_questions.specs.FeatureTable.{AreNamed, AreValuesOf, listed_features, FeatureAt}
use Rattle.krates_search.specs.SearchState.{HasFound, HasFollowed, HasFollowedReferences, HasTriedEach, IsAny, Grows, MayEnable, MayToggle, IsSound, IsAskingStep, Advances, IsValueOfEnabled, MayTry, HasTried}
use Rattle.krates_search.specs.SearchContext.{IsAskedAt, IsToggledStronglyAt, IsValueStep, HasEnabledReference}
use Rattle.krates_rules.specs.Resolved.{DepAt, NodeAt, Resolved, NoNode, id_of}
use Rattle.krates_search.specs.Links.{IsMarked, HasWaiter}
use Rattle.krates_questions.specs.NodeEntry.{IsEntry, IsEntryOf, parent_of, child_of, krate_of}
use Rattle.krates_rules.specs.Questions.{Stands, questions}
use Rattle.krates_rules.specs.Referent.{IsReferent}
use Rattle.krates_rules.specs.Rules.{IsAskedFor, feature_crate, named, lost_named, asked, toggled_strongly, lost_asked_package, lost_asked_node, lost_toggled_strongly, toggled_weakly, lost_toggled_weakly}
use Rattle.krates_selection.specs.Selection.{CountsText, HasReferences, counted}
use Rattle.krates_questions.proofs.StandingLaws.{derivable_stands}
use Rattle.krates_search.specs.declared.search_state.SearchState.{SearchState}
use Rattle.krates_search.specs.declared.links.Links.{Links}
use Rattle.krates_questions.specs.declared.node_entry.NodeEntry.{NodeEntry}
use Rattle.krates_questions.specs.declared.node_entry.NodeParts.{NodeParts}
use Rattle.krates_questions.specs.declared.lookup.NodePlace.{NodePlace}
use Rattle.krates_rules.proofs.Readings.{ReadsOnce}
use Rattle.krates_rules.proofs.Zips.{zip_next}
use Rattle.krates_resolve.proofs.Counted.{counted_more}
use Rattle.krates_questions.specs.Context.{document_of, rules_of, Derives, IsNodeAt, IsDepAt, HasParts}
use Rattle.krates_resolve.specs.References.{NamesDependency, RefersTo, Refers}
use Rattle.krates_resolve.specs.declared.references.Referrer.{Referrer}
use Rattle.krates_text.specs.declared.features.Feature.{Feature as Written}
use Rattle.krates_search.proofs.EntriesTried.{entry_tried}
use Rattle.krates_search.proofs.TriedEdges.{undeclared_lost}
use Rattle.krates_search.proofs.Waking.{one, two}
use Rattle.krates_search.proofs.Growth.{waiter_advances, with_links}
use Rattle.krates_selection.specs.Trace.{HasStep}
use Rattle.krates_selection.specs.declared.trace.NumberedStep.{NumberedStep}
use Rattle.krates_questions.proofs.Lookups.{one_id}
use Rattle.krates_questions.proofs.NodeParts.{entry_here}
use Rattle.krates_rules.proofs.Standings.{contains_at}
use Rattle.krates_selection.proofs.Steps.{one_way}
use Rattle.krates_questions.specs.declared.context.Context.{Context}
use Rattle.krates_text.specs.declared.features.Feature.TheVariants as written

-- ---- derivations

feature_keeps : (b : Context) (i : Id) (f : Text) → Derives b (Feature i f) → Derives b (Crate i)
feature_keeps b i f enabled = follows (feature_crate {p = i} {f = f}) (one (rules_of b) (Feature i f) enabled)

pub may_name : (b : Context) (i : Id) (g : Text) → HasEnabledReference b i (simple g) → MayEnable b i g
unfolding questions
may_name b i g m = record {
  enabled = λ lists. follows (named {p = i} {f = m.feature} {g = g} m.refers lists) (one (rules_of b) (Feature i m.feature) m.enabled);
  listed = λ lacks. follows (lost_named {p = i} {f = m.feature} {g = g} m.refers lacks) (one (rules_of b) (Feature i m.feature) m.enabled);
}

-- what a reference may give that asks for the edge
pub asked_may_try : (b : Context) (e : Edge) (reference : Reference) (name : Text) → HasEnabledReference b e.parent reference → Demands reference name → IsReferent (document_of b) b.setting.now.all_named e.parent name e.child → MayTry b e IsAny
unfolding questions
asked_may_try b e reference name m asks referent =
    let f = m.feature in
    let for_it : IsAskedFor (rules_of b) f e = record { reference = reference; dep = name; refers = m.refers; asks = asks; referent = referent } in
    let premise = one (rules_of b) (Feature e.parent f) m.enabled in
    record {
      kept = λ d w any stands. follows (asked {e = e} {f = f} {d = d} for_it (record { wanted = w; stands = stands })) premise;
      has_package = λ d w any none. follows (lost_asked_package {e = e} {f = f} {d = d} for_it w none) premise;
      has_node = λ d w any none. follows (lost_asked_node {e = e} {f = f} {d = d} for_it w none) premise;
      declared = undeclared_lost b e (feature_keeps b e.parent f m.enabled);
    }

pub may_toggle_strongly : (b : Context) (e : Edge) (name g : Text) → HasEnabledReference b e.parent (strong name g) → IsReferent (document_of b) b.setting.now.all_named e.parent name e.child → Derives b (Kept e) → MayToggle b e.parent e.child g
unfolding questions
may_toggle_strongly b e name g m referent kept =
    let premises = two (rules_of b) (Feature e.parent m.feature) (Kept e) m.enabled kept in
    record {
      toggled = λ lists. follows (toggled_strongly {e = e} {f = m.feature} {g = g} {c = name} m.refers referent lists) premises;
      listed = λ lacks. follows (lost_toggled_strongly {e = e} {f = m.feature} {g = g} {c = name} m.refers referent lacks) premises;
    }

pub may_toggle_weakly : (b : Context) (e : Edge) (name g : Text) → HasEnabledReference b e.parent (weak name g) → IsReferent (document_of b) b.setting.now.all_named e.parent name e.child → Derives b (Kept e) → MayToggle b e.parent e.child g
unfolding questions
may_toggle_weakly b e name g m referent kept =
    let premises = two (rules_of b) (Feature e.parent m.feature) (Kept e) m.enabled kept in
    record {
      toggled = λ lists. follows (toggled_weakly {e = e} {f = m.feature} {g = g} {c = name} m.refers referent lists) premises;
      listed = λ lacks. follows (lost_toggled_weakly {e = e} {f = m.feature} {g = g} {c = name} m.refers referent lacks) premises;
    }

-- a crate that was found has a node
pub found_node : (b : Context) (x : SearchState) (i : Id) → HasFound b x (Crate i) → NoNode (document_of b) i → ⊥
found_node b x i found none = none found.node.node (record { among = contains_at (document_of b).graph.nodes found.place found.node.node found.node.at; id = found.node.id })

-- ---- a dependency that is asked for

-- an entry's own dependency
pub dep_of_entry : (r : Resolved) (parts : NodeParts) (y : NodeEntry) (index : ℕ) → IsEntryOf parts index y → IsEntry r y → DepAt r (id_of parts.parent.now) (child_of y) parts.place.index index
dep_of_entry r parts y index e is =
    let of_parent = subst (λ (i : Identity). DepAt r (id_of i) (child_of y) y.place.index y.index) e.parent is.at in
    subst (λ (p : NodePlace). DepAt r (id_of parts.parent.now) (child_of y) p.index index) e.place (subst (λ (n : ℕ). DepAt r (id_of parts.parent.now) (child_of y) y.place.index n) e.index of_parent)

pub tried_at : ReadsOnce → (b : Context) (x : SearchState) (parts : NodeParts) (y : NodeEntry) (index : ℕ) (e : Edge) → NoneDoubled (document_of b).metadata (document_of b).graph → HasParts b parts.place.index parts → IsEntryOf parts index y
    → HasTriedEach b x (parent_of y) (child_of y) (node_dep_view y.dep.now) IsAny → IsDepAt b e.parent e.child parts.place.index index → HasTried b x e IsAny
tried_at once b x parts y index e none p of tried there =
    let is = entry_here (document_of b) parts.place.index parts index y p of in
    let same = one_way once (document_of b) (id_of parts.parent.now) (child_of y) e.parent e.child parts.place.index index (dep_of_entry (document_of b) parts y index of is) there in
    entry_tried b x y e none is (ap id_of of.parent ∙ same.0) same.1 tried

-- ---- a feature that is toggled strongly

-- if no edge that was asked for is kept, none may be kept
pub unmarked_strongly : (b : Context) (x : SearchState) (p : Id) (g : Text) (place index : ℕ) → IsSound b x → IsAskedAt b x p place index
    → (IsMarked x.links place index → ⊥) → IsToggledStronglyAt b x p place index g
unmarked_strongly b x p g place index sound is_asked unmarked e d same there w stands =
    let kept = (is_asked e same there).kept d w tt stands in
    absurd (unmarked (sound.marked e place index kept (subst (λ (i : Id). IsDepAt b i e.child place index) (sym same) there)))

-- ---- a feature that waits

-- one more feature waits, for a dependency to which no edge is kept yet
pub wait_advances : ReadsOnce → (by : Referrer) (x : SearchState) (links : Links) (c : Text) (feature : Bor (List ℕ)) (index : ℕ) → IsSound by.context x → RefersTo by x (weak c feature.now) index
    → HasWaiter x.links links by.parts.place.index index (record { name = feature; step = by.step }) → (IsMarked x.links by.parts.place.index index → ⊥) → Advances by.context x (with_links x links)
wait_advances once by x links c feature index sound to more unmarked =
    let b = by.context in
    let p = krate_of by.parts in
    let place = by.parts.place.index in
    let step = to.refers.has_step in
    let same : (q child : Id) → IsDepAt b q child place index → p ≡ q = λ q child there. (one_way once (document_of b) p to.child q child place index to.dep there).0 in
    let is : (q child : Id) → IsDepAt b q child place index → IsReferent (document_of b) b.setting.now.all_named p c child = λ q child there. to.is child (subst (λ (i : Id). IsDepAt b i child place index) (sym (same q child there)) there) in
    waiter_advances b x links place index (record { name = feature; step = by.step }) sound more
    (λ q child there. subst (λ (i : Id). IsAskingStep b x.trace.items i child feature.now by.step) (same q child there) (record { feature = step.feature; found = step.found; name = c; refers = step.refers; referent = is q child there }))
    unmarked

-- the reference that a text is, which is a value of the enabled feature, is one of that feature
pub text_refers : (by : Referrer) (x : SearchState) (text : Text) (reference : Reference) → IsValueOfEnabled by.context (krate_of by.parts) text → IsValueStep by.context x.trace.items by.step (krate_of by.parts) text → IsReference text reference → Refers by x reference
text_refers by x text reference may step is = record {
  may = record { feature = may.feature; enabled = may.enabled; refers = may.refers reference is };
  has_step = record { feature = step.feature; found = step.found; refers = step.refers reference is };
}

-- what isn't a feature of its own crate names a dependency
pub not_simple : (f : Written) → ((name : Bor (List ℕ)) → f ≡ written.Simple name → ⊥) → NamesDependency (reference_of f)
not_simple (written.Simple name) h = h name refl
not_simple (written.Krate name) h = tt
not_simple (written.Strong name g) h = tt
not_simple (written.Weak name g) h = tt

-- and remains one as more is found
pub refers_more : (by : Referrer) (x y : SearchState) (reference : Reference) → Grows by.context x y → Refers by x reference → Refers by y reference
refers_more by x y reference more h =
    let step = h.has_step in
    record { may = h.may; has_step = record { feature = step.feature; found = more.steps by.step (Feature (krate_of by.parts) step.feature) step.found; refers = step.refers } }

-- a value of the feature of a step
pub value_of_step : (b : Context) (trace : List NumberedStep) (n : ℕ) (p : Id) (f : Text) (values : List Text) (text : Text) → HasStep (document_of b) trace n (Feature p f) → AreValuesOf (document_of b) p f values → Contains values text → IsValueStep b trace n p text
value_of_step b trace n p f values text found are among = record { feature = f; found = found; refers = λ reference is. (are reference).1 (record { text = text; among = among; is = is }) }

-- ---- each text is one reference

-- what follows from two clauses of a call that succeeded
pub on_ok_both : {T E P Q R : Type 0} (result : Result T E) → (P → Q → R) → OnOk result P → OnOk result Q → OnOk result R
on_ok_both (Ok x) f p q = f p q
on_ok_both (Err e) f p q = tt

pub followed_by : (b : Context) (x : SearchState) (p : Id) (text : Text) (reference : Reference) → HasOneReading text → IsReference text reference → HasFollowed b x p reference
    → (other : Reference) → IsReference text other → HasFollowed b x p other
followed_by b x p text reference reading is followed other there = subst (HasFollowed b x p) (reading.only reference is ∙ sym (reading.only other there)) followed

-- each value of a feature has been followed, so its references have been
pub followed_all_here : (b : Context) (x : SearchState) (p : Id) (f : Text) (values : List Text) → AreValuesOf (document_of b) p f values
    → ((text : Text) → Contains values text → (reference : Reference) → IsReference text reference → HasFollowed b x p reference) → HasFollowedReferences b x p f
followed_all_here b x p f values are each reference has = let v = (are reference).0 has in each v.text v.among reference v.is

-- and so a value of an enabled feature
pub value_of_enabled : (b : Context) (p : Id) (f : Text) (values : List Text) (text : Text) → Derives b (Feature p f) → AreValuesOf (document_of b) p f values → Contains values text → IsValueOfEnabled b p text
value_of_enabled b p f values text enabled are among = record { feature = f; enabled = enabled; refers = λ reference is. (are reference).1 (record { text = text; among = among; is = is }) }

-- ---- listed features

-- the feature of a number that was taken was found
pub listed_found : (b : Context) (x : SearchState) (taken number : ℕ) (i : Id) (place : ℕ) (f : Text) → Contains x.features.put taken → number ≡ taken → slice_get (listed_features (document_of b)) number ≡ Some (place, f) → IsNodeAt b i place
    → HasFound b x (Feature i f)
listed_found b x taken number i place f put same at node = record { number = number; among = subst (λ (n : ℕ). Contains x.features.put n) (sym same) put; at = record { place = place; at = at; node = node } }

-- the number of a feature belongs to only one crate and one name
pub one_feature : ReadsOnce → (r : Resolved) (i j : Id) (place number : ℕ) (f g : Text) → NodeAt r i place → slice_get (listed_features r) number ≡ Some (place, f) → FeatureAt r j g number → (i ≡ j) × (f ≡ g)
one_feature once r i j place number f g node at there =
    let same = same_Some (place, f) (there.place, g) (sym at ∙ there.at) in
    (one_id once r i j place node (subst (λ (n : ℕ). NodeAt r j n) (sym (ap (λ (w : ℕ × Text). w.0) same)) there.node), ap (λ (w : ℕ × Text). w.1) same)

-- ---- how often references count

-- the counts so far
pub record CountsSoFar (b : Context) (i : Id) (values : List (String Global)) (k n : ℕ) : Type 0 where
  pub counts : List ℕ
  pub each : AllZip (CountsText (document_of b) b.setting.now.all_named i) (map text_view (take k values)) counts
  pub count : n ≡ counted (sum counts)

pub none_counted : (b : Context) (i : Id) (values : List (String Global)) → CountsSoFar b i values 0 0
none_counted b i values = record { counts = []; each = tt; count = refl }

pub one_counted : (b : Context) (i : Id) (values : List (String Global)) (k n m next : ℕ) (text : String Global) → k < length values → text ≡ get_or values k text → CountsText (document_of b) b.setting.now.all_named i (text_view text) m
    → next ≡ counted (n + m) → CountsSoFar b i values k n → CountsSoFar b i values (k + 1) next
one_counted b i values k n m next text lt is here more h = record {
  counts = h.counts ++ m ∷ [];
  each = zip_next (CountsText (document_of b) b.setting.now.all_named i) text_view values k text h.counts m lt is here h.each;
  count = more ∙ ap (λ (j : ℕ). counted (j + m)) h.count ∙ counted_more (sum h.counts) m ∙ ap counted (sym (sum_by_push (λ (j : ℕ). j) h.counts m));
}

-- the references of an enabled feature are the sum of the counts of its values
pub references_here : (b : Context) (i : Id) (f : Text) (values : List Text) (counts : List ℕ) → Derives b (Feature i f) → AreNamed (document_of b) i f values → AllZip (CountsText (document_of b) b.setting.now.all_named i) values counts
    → HasReferences (document_of b) b.setting.now i f (sum counts)
unfolding questions
references_here b i f values counts enabled are each =
    let stands : Stands (document_of b) b.setting.now i = derivable_stands (rules_of b) enabled in
    let kept = stands.included in
    record { pkg = kept.pkg; has_package = kept.has_package; counts = counts; each = subst (λ (vs : List Text). AllZip (CountsText (document_of b) b.setting.now.all_named i) vs counts) (sym (are kept.pkg kept.has_package)) each; count = refl }
