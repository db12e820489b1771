-- What is put with its step, and what was put before.
use Rattle.std.proofs.Common.{◌≡◌, ℕ, ◌∷◌, ◌++◌, [], length, Bool, true, false, Contains, refl, sym, subst}
use Rattle.std.specs.Bool.{OnTrue, OnFalse}
use Rattle.std.specs.Global.{Vec}
use Rattle.krates_cm.specs.Document.{Text}
use Rattle.krates_graph.specs.Agenda.{PutNumbers}
use Rattle.krates_questions.specs.FeatureTable.{IsOwn}
use Rattle.krates_questions.specs.declared.lookup.NodePlace.{NodePlace}
use Rattle.krates_search.proofs.Growing.{advances_refl, advances_trans}
use Rattle.krates_search.proofs.Growth.{crate_advances, feature_advances, put_step_has, step_advances}
use Rattle.krates_search.specs.SearchState.{HasFound, IsSound, Advances}
use Rattle.krates_selection.specs.Trace.{HasStep, MayFind, Names}
use Rattle.krates_search.specs.declared.search_state.SearchState.{SearchState}
use Rattle.krates_selection.specs.declared.trace.NumberedStep.{NumberedStep}
use Rattle.krates_selection.specs.declared.trace.Reason.{Reason}
use Rattle.krates_rules.proofs.Readings.{ReadsOnce}
use Rattle.krates_rules.specs.Facts.{Id, Crate, Feature}
use Rattle.krates_questions.specs.declared.context.Context.{Context}
use Rattle.krates_questions.specs.Context.{document_of, IsNodeAt, IsFeatureAt}
use Rattle.krates_selection.specs.declared.trace.NumberedFact.TheVariants as numbered

pub on_false : {P : Type 0} (b : Bool) → b ≡ false → OnFalse b P → P
on_false true e h = absurd cc
on_false false e h = h

pub on_true : {P : Type 0} (b : Bool) → b ≡ true → OnTrue b P → P
on_true true e h = h
on_true false e h = absurd cc

-- ---- what was put before

pub krate_stays : (b : Context) (x : SearchState) (a : PutNumbers) → IsSound b x → a ≡ x.krates → Advances b x (record x { krates = a })
krate_stays b x a sound e = subst (λ (y : PutNumbers). Advances b x (record x { krates = y })) (sym e) (advances_refl b x sound)

pub feature_stays : (b : Context) (x : SearchState) (a : PutNumbers) → IsSound b x → a ≡ x.features → Advances b x (record x { features = a })
feature_stays b x a sound e = subst (λ (y : PutNumbers). Advances b x (record x { features = y })) (sym e) (advances_refl b x sound)

-- ---- what is new

pub krate_put : ReadsOnce → (b : Context) (x : SearchState) (a : PutNumbers) (v : Vec ℕ) (t : Vec NumberedStep) (place : NodePlace) (n : ℕ) (i : Id) (reason : Reason) → IsSound b x → a ≡ record x.krates { put = x.krates.put ++ place.index ∷ [] }
    → v.items ≡ x.krate_steps.items ++ n ∷ [] → n ≡ length x.trace.items → t.items ≡ x.trace.items ++ (record { fact = numbered.Crate place; reason = reason }) ∷ [] → IsNodeAt b i place.index → MayFind (document_of b) b.setting.now x.trace.items reason (Crate i)
    → Advances b x (record x { krates = a; krate_steps = v; trace = t })
krate_put once b x a v t place n i reason sound is pushed at more node finds =
    let step : NumberedStep = record { fact = numbered.Crate place; reason = reason } in
    let names : Names (document_of b) step.fact (Crate i) = record { krate = i; node = node; is = refl } in
    let y : SearchState = record x { trace = t } in
    let first : Advances b x y = step_advances once b x t step (Crate i) sound more names finds in
    let has : HasStep (document_of b) t.items n (Crate i) = subst (λ (m : ℕ). HasStep (document_of b) t.items m (Crate i)) (sym at) (put_step_has (document_of b) x.trace.items t step (Crate i) more names) in
    subst (λ (c : PutNumbers). Advances b x (record y { krates = c; krate_steps = v })) (sym is) (advances_trans b x y _ first (crate_advances once b y v place.index n i first.sound pushed node has))

pub feature_put : ReadsOnce → (b : Context) (x : SearchState) (a : PutNumbers) (v : Vec ℕ) (t : Vec NumberedStep) (number n : ℕ) (i : Id) (f : Text) (reason : Reason) → IsSound b x
    → a ≡ record x.features { put = x.features.put ++ number ∷ [] } → v.items ≡ x.feature_steps.items ++ n ∷ [] → n ≡ length x.trace.items → t.items ≡ x.trace.items ++ (record { fact = numbered.Feature number; reason = reason }) ∷ []
    → IsFeatureAt b i f number → IsOwn (document_of b) number → HasFound b x (Crate i) → MayFind (document_of b) b.setting.now x.trace.items reason (Feature i f) → Advances b x (record x { features = a; feature_steps = v; trace = t })
feature_put once b x a v t number n i f reason sound is pushed at more here own kept finds =
    let step : NumberedStep = record { fact = numbered.Feature number; reason = reason } in
    let names : Names (document_of b) step.fact (Feature i f) = record { krate = i; name = f; at = here; is = refl } in
    let y : SearchState = record x { trace = t } in
    let first : Advances b x y = step_advances once b x t step (Feature i f) sound more names finds in
    let has : HasStep (document_of b) t.items n (Feature i f) = subst (λ (m : ℕ). HasStep (document_of b) t.items m (Feature i f)) (sym at) (put_step_has (document_of b) x.trace.items t step (Feature i f) more names) in
    subst (λ (c : PutNumbers). Advances b x (record y { features = c; feature_steps = v })) (sym is) (advances_trans b x y _ first (feature_advances once b y v number n i f first.sound pushed here own (first.grows.found (Crate i) kept) has))

-- the number that was put
pub put_there : (old new : PutNumbers) (number : ℕ) → new ≡ record old { put = old.put ++ number ∷ [] } → Contains (old.put ++ number ∷ []) number → Contains new.put number
put_there old new number is c = subst (λ (a : PutNumbers). Contains a.put number) (sym is) c
