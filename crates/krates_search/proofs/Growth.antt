-- What was found grows by a crate, a feature, an edge, a toggled feature, a mark, or a feature that waits.
use Rattle.std.proofs.Common.{◌≡◌, ◌⊎◌, ℕ, List, [], ◌∷◌, ◌++◌, length, map, All, Contains, refl, sym, ap, ◌∙◌, subst, inl, inr}
use Rattle.std.proofs.lemmas.List.{map-append}
use Rattle.std.proofs.lemmas.List.Elements.{All-push, Contains-push, Contains-push_cases, Contains-append_left}
use Rattle.std.specs.List.{AllZip}
use Rattle.std.specs.Global.{Vec}
use Rattle.krates_cm.specs.Document.{Text, DepKindInfoModel}
use Rattle.krates_rules.specs.Facts.{Id, Edge, Fact, Crate, Feature, Kept, Toggled, Lost}
use Rattle.krates_search.specs.SearchState.{HasFound, IsAny, IsEdgeStep, IsFeatureStep, IsKrateStep, HasStepOf, Grows, IsSound, IsAskingStep, Advances, HasToggled, HasTried}
use Rattle.krates_rules.specs.Resolved.{DepAt, Resolved, id_of}
use Rattle.krates_search.specs.Links.{IsMarked, NotesAsked, IsWaiter, IsMarkedBy, HasMarked, HasWaiter, Waits, HasLinks, WasAsked}
use Rattle.krates_rules.specs.Questions.{edge_between}
use Rattle.krates_questions.specs.FeatureTable.{IsOwn}
use Rattle.krates_search.specs.Found.{found_toggled, IsFoundToggle}
use Rattle.krates_search.specs.declared.search_state.SearchState.{SearchState}
use Rattle.krates_selection.specs.Trace.{HasSomeStep, HasStep, IsTrace, MayFind, Names}
use Rattle.krates_search.specs.declared.links.Links.{Links}
use Rattle.krates_search.specs.declared.links.Waiting.{Waiting}
use Rattle.krates_search.specs.declared.found.FoundToggle.{FoundToggle}
use Rattle.krates_selection.specs.declared.trace.NumberedStep.{NumberedStep}
use Rattle.krates_rules.proofs.Readings.{ReadsOnce}
use Rattle.krates_search.proofs.Growing.{used_grows, tried_grows}
use Rattle.krates_selection.proofs.Steps.{StepsStay, last_step, one_feature, stays_at, step_derivable, step_stays, trace_put, zip_push, zip_weaker}
use Rattle.krates_questions.proofs.Lookups.{one_id}
use Rattle.krates_questions.specs.declared.context.Context.{Context}
use Rattle.krates_questions.specs.Context.{document_of, Derives, IsNodeAt, IsDepAt, IsFeatureAt}

-- ---- one more crate

abbrev WithKrates : SearchState → ℕ → Vec ℕ → SearchState
WithKrates x place v = record x { krates = record x.krates { put = x.krates.put ++ place ∷ [] }; krate_steps = v }

crate_found : (b : Context) (x : SearchState) (v : Vec ℕ) (place : ℕ) (f : Fact) → HasFound b x f → HasFound b (WithKrates x place v) f
crate_found b x v place (Crate i) h = record { place = h.place; among = Contains-append_left x.krates.put (place ∷ []) h.place h.among; node = h.node }
crate_found b x v place (Kept e) h = h
crate_found b x v place (Feature i g) h = h
crate_found b x v place (Toggled i j g) h = h
crate_found b x v place (Lost c) h = h

-- what holds of each fact found before, and of the crate that is put, holds of each fact found now
crate_each : (P : Fact → Type 0) → ReadsOnce → (b : Context) (x : SearchState) (v : Vec ℕ) (place : ℕ) (i : Id) (f : Fact) → ((g : Fact) → HasFound b x g → P g) → IsNodeAt b i place → P (Crate i) → HasFound b (WithKrates x place v) f → P f
crate_each P once b x v place i (Crate j) old n d h = elim (Contains-push_cases x.krates.put place h.place h.among) [
  | inl c ↦ old (Crate j) (record { place = h.place; among = c; node = h.node })
  | inr e ↦ subst (λ (k : Id). P (Crate k)) (one_id once (document_of b) i j h.place (subst (IsNodeAt b i) e n) h.node) d
]
crate_each P once b x v place i (Kept e) old n d h = old (Kept e) h
crate_each P once b x v place i (Feature j g) old n d h = old (Feature j g) h
crate_each P once b x v place i (Toggled j k g) old n d h = old (Toggled j k g) h
crate_each P once b x v place i (Lost c) old n d h = absurd h

-- the crate of a node is put, with its step
pub crate_advances : ReadsOnce → (b : Context) (x : SearchState) (v : Vec ℕ) (place n : ℕ) (i : Id) → IsSound b x → v.items ≡ x.krate_steps.items ++ n ∷ [] → IsNodeAt b i place → HasStepOf b x n (Crate i) → Advances b x (WithKrates x place v)
crate_advances once b x v place n i sound more at step =
    let y = WithKrates x place v in
    let grown = crate_found b x v place in
    let here : IsKrateStep b x.trace.items place n = λ j there. subst (λ (k : Id). HasStepOf b x n (Crate k)) (one_id once (document_of b) i j place at there) step in
    record {
      sound = record {
        excluded = sound.excluded;
        krates_size = sound.krates_size;
        features_size = sound.features_size;
        own = sound.own;
        has_links = sound.has_links;
        derivable = λ f h. crate_each (Derives b) once b x v place i f sound.derivable at (step_derivable once (document_of b) b.setting.now x.trace.items n (Crate i) sound.trace step) h;
        trace = sound.trace;
        stepped = λ f h. crate_each (HasSomeStep (document_of b) x.trace.items) once b x v place i f sound.stepped at (n, step) h;
        numbered = record {
          krates = subst (AllZip (IsKrateStep b x.trace.items) y.krates.put) (sym more) (zip_push (IsKrateStep b x.trace.items) x.krates.put x.krate_steps.items place n sound.numbered.krates here);
          features = sound.numbered.features;
          marked = sound.numbered.marked;
          waiting = sound.numbered.waiting;
        };
        placed = sound.placed;
        toggles = sound.toggles;
        reached = λ e h. grown (Crate e.child) (sound.reached e h);
        used = λ e h d w. used_grows b x y d e.child grown (sound.used e h d w);
        marked = sound.marked;
        woken = sound.woken;
        tried = λ e m k there was. tried_grows b x y e IsAny grown (sound.tried e m k there was);
        arrived = λ p c k m there marked. grown (Crate c) (sound.arrived p c k m there marked);
        toggled = sound.toggled;
        enabled = λ j f h. grown (Crate j) (sound.enabled j f h);
      };
      grows = record { found = grown; steps = λ n f h. h; waits = λ p c k i g at h. inl h; krates = stays_at x.krates.put place; features = λ k n h. h; krates_taken = refl; features_taken = refl };
    }

-- ---- one more feature

abbrev WithFeatures : SearchState → ℕ → Vec ℕ → SearchState
WithFeatures x number v = record x { features = record x.features { put = x.features.put ++ number ∷ [] }; feature_steps = v }

feature_found : (b : Context) (x : SearchState) (v : Vec ℕ) (number : ℕ) (f : Fact) → HasFound b x f → HasFound b (WithFeatures x number v) f
feature_found b x v number (Feature i g) h = record { number = h.number; among = Contains-append_left x.features.put (number ∷ []) h.number h.among; at = h.at }
feature_found b x v number (Crate i) h = h
feature_found b x v number (Kept e) h = h
feature_found b x v number (Toggled i j g) h = h
feature_found b x v number (Lost c) h = h

-- a feature now is one from before, or the one that is put
feature_from : ReadsOnce → (b : Context) (x : SearchState) (v : Vec ℕ) (number : ℕ) (i j : Id) (f g : Text) → IsFeatureAt b i f number → HasFound b (WithFeatures x number v) (Feature j g) → HasFound b x (Feature j g) ⊎ ((i ≡ j) × (f ≡ g))
feature_from once b x v number i j f g at h = elim (Contains-push_cases x.features.put number h.number h.among) [
  | inl c ↦ inl (record { number = h.number; among = c; at = h.at })
  | inr e ↦ inr (one_feature once (document_of b) i j f g h.number (subst (IsFeatureAt b i f) e at) h.at)
]

-- what holds of each fact found before, and of the feature that is put, holds of each fact found now
feature_each : (P : Fact → Type 0) → ReadsOnce → (b : Context) (x : SearchState) (v : Vec ℕ) (number : ℕ) (i : Id) (f : Text) (y : Fact) → ((g : Fact) → HasFound b x g → P g) → IsFeatureAt b i f number → P (Feature i f) → HasFound b (WithFeatures x number v) y → P y
feature_each P once b x v number i f (Feature j g) old at d h = elim (feature_from once b x v number i j f g at h) [
  | inl o ↦ old (Feature j g) o
  | inr e ↦ subst (λ (k : Id). P (Feature k g)) e.0 (subst (λ (t : Text). P (Feature i t)) e.1 d)
]
feature_each P once b x v number i f (Crate j) old at d h = old (Crate j) h
feature_each P once b x v number i f (Kept e) old at d h = old (Kept e) h
feature_each P once b x v number i f (Toggled j k g) old at d h = old (Toggled j k g) h
feature_each P once b x v number i f (Lost c) old at d h = absurd h

-- the feature of a kept crate is put, with its step
pub feature_advances : ReadsOnce → (b : Context) (x : SearchState) (v : Vec ℕ) (number n : ℕ) (i : Id) (f : Text) → IsSound b x → v.items ≡ x.feature_steps.items ++ n ∷ [] → IsFeatureAt b i f number → IsOwn (document_of b) number
    → HasFound b x (Crate i) → HasStepOf b x n (Feature i f) → Advances b x (WithFeatures x number v)
feature_advances once b x v number n i f sound more at own kept step =
    let y = WithFeatures x number v in
    let grown = feature_found b x v number in
    let here : IsFeatureStep b x.trace.items number n = λ j t there.
    let same = one_feature once (document_of b) i j f t number at there in
    subst (λ (k : Id). HasStepOf b x n (Feature k t)) same.0 (subst (λ (h : Text). HasStepOf b x n (Feature i h)) same.1 step) in
    record {
      sound = record {
        excluded = sound.excluded;
        krates_size = sound.krates_size;
        features_size = sound.features_size;
        own = λ m c. elim (Contains-push_cases x.features.put number m c) [
          | inl o ↦ sound.own m o
          | inr e ↦ subst (IsOwn (document_of b)) e own
        ];
        has_links = sound.has_links;
        derivable = λ z h. feature_each (Derives b) once b x v number i f z sound.derivable at (step_derivable once (document_of b) b.setting.now x.trace.items n (Feature i f) sound.trace step) h;
        trace = sound.trace;
        stepped = λ z h. feature_each (HasSomeStep (document_of b) x.trace.items) once b x v number i f z sound.stepped at (n, step) h;
        numbered = record {
          krates = sound.numbered.krates;
          features = subst (AllZip (IsFeatureStep b x.trace.items) y.features.put) (sym more) (zip_push (IsFeatureStep b x.trace.items) x.features.put x.feature_steps.items number n sound.numbered.features here);
          marked = sound.numbered.marked;
          waiting = sound.numbered.waiting;
        };
        placed = sound.placed;
        toggles = sound.toggles;
        reached = sound.reached;
        used = λ e h d w. used_grows b x y d e.child grown (sound.used e h d w);
        marked = sound.marked;
        woken = sound.woken;
        tried = λ e m k there was. tried_grows b x y e IsAny grown (sound.tried e m k there was);
        arrived = sound.arrived;
        toggled = λ p c t h. grown (Feature c t) (sound.toggled p c t h);
        enabled = λ j t h. elim (feature_from once b x v number i j f t at h) [
          | inl o ↦ sound.enabled j t o
          | inr e ↦ subst (λ (k : Id). HasFound b x (Crate k)) e.0 kept
        ];
      };
      grows = record { found = grown; steps = λ n f h. h; waits = λ p c k i g at h. inl h; krates = λ k n h. h; features = stays_at x.features.put number; krates_taken = refl; features_taken = refl };
    }

-- ---- one more toggled feature

-- the views of a list with one more element
pub seen_from : {A B : Type 0} (f : A → B) (xs ys : List A) (x : A) (y : B) → ys ≡ xs ++ x ∷ [] → Contains (map f ys) y → Contains (map f xs) y ⊎ (f x ≡ y)
seen_from f xs ys x y more h = Contains-push_cases (map f xs) (f x) y (subst (λ zs. Contains zs y) (ap (map f) more ∙ map-append f xs (x ∷ [])) h)

pub seen_still : {A B : Type 0} (f : A → B) (xs ys : List A) (x : A) (y : B) → ys ≡ xs ++ x ∷ [] → Contains (map f xs) y → Contains (map f ys) y
seen_still f xs ys x y more h = subst (λ zs. Contains zs y) (sym (ap (map f) more ∙ map-append f xs (x ∷ []))) (Contains-append_left (map f xs) (f x ∷ []) y h)

pub seen_there : {A B : Type 0} (f : A → B) (xs ys : List A) (x : A) → ys ≡ xs ++ x ∷ [] → Contains (map f ys) (f x)
seen_there f xs ys x more = subst (λ zs. Contains zs (f x)) (sym (ap (map f) more ∙ map-append f xs (x ∷ []))) (Contains-push (map f xs) (f x))

abbrev WithToggled : SearchState → Vec FoundToggle → SearchState
WithToggled x v = record x { toggled = v }

toggled_found : (b : Context) (x : SearchState) (v : Vec FoundToggle) (t : FoundToggle) (f : Fact) → v.items ≡ x.toggled.items ++ t ∷ [] → HasFound b x f → HasFound b (WithToggled x v) f
toggled_found b x v t (Toggled i j g) more h = seen_still found_toggled x.toggled.items v.items t (Toggled i j g) more h
toggled_found b x v t (Crate i) more h = h
toggled_found b x v t (Kept e) more h = h
toggled_found b x v t (Feature i g) more h = h
toggled_found b x v t (Lost c) more h = h

-- what holds of each fact found before, and of the toggled feature that is added, holds of each fact found now
toggled_each : (P : Fact → Type 0) → (b : Context) (x : SearchState) (v : Vec FoundToggle) (t : FoundToggle) (f : Fact) → ((g : Fact) → HasFound b x g → P g) → v.items ≡ x.toggled.items ++ t ∷ [] → P (found_toggled t)
    → HasFound b (WithToggled x v) f → P f
toggled_each P b x v t (Toggled i j g) old more d h = elim (seen_from found_toggled x.toggled.items v.items t (Toggled i j g) more h) [
  | inl o ↦ old (Toggled i j g) o
  | inr e ↦ subst P e d
]
toggled_each P b x v t (Crate i) old more d h = old (Crate i) h
toggled_each P b x v t (Kept e) old more d h = old (Kept e) h
toggled_each P b x v t (Feature i g) old more d h = old (Feature i g) h
toggled_each P b x v t (Lost c) old more d h = absurd h

-- the feature that is enabled by being toggled
abbrev enabled_by : Fact → Fact
enabled_by (Toggled i j g) = Feature j g
enabled_by f = f

-- a toggled feature is added, which is enabled
pub toggled_advances : (b : Context) (x : SearchState) (v : Vec FoundToggle) (t : FoundToggle) → IsSound b x → v.items ≡ x.toggled.items ++ t ∷ [] → IsFoundToggle b t → HasFound b x (Feature (id_of t.krate.now) t.name.now)
    → Derives b (found_toggled t) → HasSomeStep (document_of b) x.trace.items (found_toggled t) → Advances b x (record x { toggled = v })
toggled_advances b x v t sound more nodes enabled d step =
    let y = WithToggled x v in
    let grown : Grows b x y = record { found = λ f h. toggled_found b x v t f more h; steps = λ n f h. h; waits = λ u k m n z at h. inl h; krates = λ k n h. h; features = λ k n h. h; krates_taken = refl; features_taken = refl } in
    record {
      sound = record {
        excluded = sound.excluded;
        krates_size = sound.krates_size;
        features_size = sound.features_size;
        own = sound.own;
        has_links = sound.has_links;
        derivable = λ f h. toggled_each (Derives b) b x v t f sound.derivable more d h;
        trace = sound.trace;
        stepped = λ f h. toggled_each (HasSomeStep (document_of b) x.trace.items) b x v t f sound.stepped more step h;
        numbered = record { krates = sound.numbered.krates; features = sound.numbered.features; marked = sound.numbered.marked; waiting = sound.numbered.waiting };
        placed = sound.placed;
        toggles = subst (All (IsFoundToggle b)) (sym more) (All-push (IsFoundToggle b) x.toggled.items t sound.toggles nodes);
        reached = sound.reached;
        used = λ e h u w. used_grows b x y u e.child grown.found (sound.used e h u w);
        marked = sound.marked;
        woken = sound.woken;
        tried = λ e m k at was. tried_grows b x y e IsAny grown.found (sound.tried e m k at was);
        arrived = sound.arrived;
        toggled = λ u k z h. elim (seen_from found_toggled x.toggled.items v.items t (Toggled u k z) more h) [
          | inl o ↦ sound.toggled u k z o
          | inr e ↦ subst (HasFound b x) (ap enabled_by e) enabled
        ];
        enabled = sound.enabled;
      };
      grows = grown;
    }

-- ---- other links

-- the dependency at the same places
dep_there : (r : Resolved) (p c : Id) (k i place index : ℕ) → k ≡ place → i ≡ index → DepAt r p c k i → DepAt r p c place index
dep_there r p c k i place index a b at = subst (λ (m : ℕ). DepAt r p c m index) a (subst (DepAt r p c k) b at)

-- what was found, with other links
abbrev pub with_links : SearchState → Links → SearchState
with_links x l =
    record { krates = x.krates; features = x.features; edges = x.edges; toggled = x.toggled; trace = x.trace; krate_steps = x.krate_steps; feature_steps = x.feature_steps; links = l; excluded = x.excluded }

links_grow : (b : Context) (x : SearchState) (l : Links) → ((k i : ℕ) (w : Waiting) → IsWaiter x.links k i w → IsWaiter l k i w) → Grows b x (with_links x l)
links_grow b x l waits = record { found = λ f h. h; steps = λ n f h. h; waits = λ p c k i g at h. inl (record { waiter = h.waiter; waits = waits k i h.waiter h.waits; named = h.named }); krates = λ k n h. h; features = λ k n h. h; krates_taken = refl; features_taken = refl }

-- what is said of other links
record AreRightLinks (b : Context) (x : SearchState) (l : Links) : Type 0 where
  pub there : HasLinks (document_of b) l
  pub mark_steps : (p child : Id) (place index step : ℕ) → IsDepAt b p child place index → IsMarkedBy l place index step → IsEdgeStep b x.trace.items p child step
  pub wait_steps : (p child : Id) (place index : ℕ) (w : Waiting) → IsDepAt b p child place index → IsWaiter l place index w → IsAskingStep b x.trace.items p child w.name.now w.step
  pub marked : (e : Edge) (place index : ℕ) → HasFound b x (Kept e) → IsDepAt b e.parent e.child place index → IsMarked l place index
  pub woken : (place index : ℕ) (g : Text) → IsMarked l place index → Waits l place index g → ⊥
  pub tried : (e : Edge) (place index : ℕ) → IsDepAt b e.parent e.child place index → WasAsked l place index → HasTried b x e IsAny
  pub arrived : (p child : Id) (place index : ℕ) → IsDepAt b p child place index → IsMarked l place index → HasFound b x (Crate child)

-- nothing else depends on them
links_sound : (b : Context) (x : SearchState) (l : Links) → IsSound b x → AreRightLinks b x l → IsSound b (with_links x l)
links_sound b x l sound links = record {
  excluded = sound.excluded;
  krates_size = sound.krates_size;
  features_size = sound.features_size;
  own = sound.own;
  has_links = links.there;
  derivable = sound.derivable;
  trace = sound.trace;
  stepped = sound.stepped;
  numbered = record { krates = sound.numbered.krates; features = sound.numbered.features; marked = links.mark_steps; waiting = links.wait_steps };
  placed = sound.placed;
  toggles = sound.toggles;
  reached = sound.reached;
  used = λ e h d w. used_grows b x (with_links x l) d e.child (λ f m. m) (sound.used e h d w);
  marked = links.marked;
  woken = links.woken;
  tried = λ e k i at was. tried_grows b x (with_links x l) e IsAny (λ f m. m) (links.tried e k i at was);
  arrived = links.arrived;
  toggled = sound.toggled;
  enabled = sound.enabled;
}

-- a mark of the other links, by the same step
same_mark : (a b : Links) (k i : ℕ) → ((n : ℕ) → IsMarkedBy a k i n → IsMarkedBy b k i n) → IsMarked a k i → IsMarked b k i
same_mark a b k i f m = (m.0, f m.0 m.1)

-- ---- one more step

-- a step that follows is appended
pub step_advances : ReadsOnce → (b : Context) (x : SearchState) (v : Vec NumberedStep) (step : NumberedStep) (f : Fact) → IsSound b x → v.items ≡ x.trace.items ++ step ∷ [] → Names (document_of b) step.fact f
    → MayFind (document_of b) b.setting.now x.trace.items step.reason f → Advances b x (record x { trace = v })
step_advances once b x v step f sound more names finds =
    let stay : StepsStay (document_of b) x.trace.items v.items = λ n g h. subst (λ (steps : List NumberedStep). HasStep (document_of b) steps n g) (sym more) (step_stays (document_of b) x.trace.items step n g h) in
    let y : SearchState = record x { trace = v } in
    let grown : Grows b x y = record { found = λ g h. h; steps = stay; waits = λ u k m n z at h. inl h; krates = λ k n h. h; features = λ k n h. h; krates_taken = refl; features_taken = refl } in
    record {
      sound = record {
        excluded = sound.excluded;
        krates_size = sound.krates_size;
        features_size = sound.features_size;
        own = sound.own;
        has_links = sound.has_links;
        derivable = sound.derivable;
        trace = subst (IsTrace (document_of b) b.setting.now) (sym more) (trace_put once (document_of b) b.setting.now x.trace.items step f sound.trace names finds);
        stepped = λ g h. let old = sound.stepped g h in (old.0, stay old.0 g old.1);
        numbered = record {
          krates = zip_weaker (IsKrateStep b x.trace.items) (IsKrateStep b v.items) x.krates.put x.krate_steps.items (λ place n h i at. stay n (Crate i) (h i at)) sound.numbered.krates;
          features = zip_weaker (IsFeatureStep b x.trace.items) (IsFeatureStep b v.items) x.features.put x.feature_steps.items (λ number n h i g at. stay n (Feature i g) (h i g at)) sound.numbered.features;
          marked = λ p c k i n at m. let old = sound.numbered.marked p c k i n at m in (old.0, stay n (Kept (edge_between p c old.0)) old.1);
          waiting = λ p c k i w at waits.
              let old = sound.numbered.waiting p c k i w at waits in
              record { feature = old.feature; found = stay w.step (Feature p old.feature) old.found; name = old.name; refers = old.refers; referent = old.referent };
        };
        placed = sound.placed;
        toggles = sound.toggles;
        reached = sound.reached;
        used = λ e h u w. used_grows b x y u e.child grown.found (sound.used e h u w);
        marked = sound.marked;
        woken = sound.woken;
        tried = λ e m k at was. tried_grows b x y e IsAny grown.found (sound.tried e m k at was);
        arrived = sound.arrived;
        toggled = sound.toggled;
        enabled = sound.enabled;
      };
      grows = grown;
    }

-- and its fact is the fact of that step
pub put_step_has : (r : Resolved) (trace : List NumberedStep) (v : Vec NumberedStep) (step : NumberedStep) (f : Fact) → v.items ≡ trace ++ step ∷ [] → Names r step.fact f → HasStep r v.items (length trace) f
put_step_has r trace v step f more names = subst (λ (steps : List NumberedStep). HasStep r steps (length trace) f) (sym more) (last_step r trace step f names)

-- ---- one more feature that waits

-- the name of a feature that an enabled feature asks for weakly, by its step, through a dependency without a mark
pub waiter_advances : (b : Context) (x : SearchState) (l : Links) (place index : ℕ) (w : Waiting) → IsSound b x → HasWaiter x.links l place index w
    → ((p child : Id) → IsDepAt b p child place index → IsAskingStep b x.trace.items p child w.name.now w.step) → (IsMarked x.links place index → ⊥) → Advances b x (with_links x l)
waiter_advances b x l place index w sound more step unmarked =
    let back : (k i : ℕ) → IsMarked l k i → IsMarked x.links k i = λ k i. same_mark l x.links k i (λ n. (more.marks k i n).1) in
    record {
      sound = links_sound b x l sound record {
        there = λ p c k i at. more.links k i (sound.has_links p c k i at);
        mark_steps = λ p c k i n at m. sound.numbered.marked p c k i n at ((more.marks k i n).1 m);
        wait_steps = λ p c k i v at waits. elim (more.from k i v waits) [
          | inl o ↦ sound.numbered.waiting p c k i v at o
          | inr same ↦ subst (λ (z : Waiting). IsAskingStep b x.trace.items p c z.name.now z.step) (sym same.2) (step p c (dep_there (document_of b) p c k i place index same.0 same.1 at))
        ];
        marked = λ e k i h at. same_mark x.links l k i (λ n. (more.marks k i n).0) (sound.marked e k i h at);
        woken = λ k i t m waits. elim (more.from k i waits.waiter waits.waits) [
          | inl o ↦ sound.woken k i t (back k i m) (record { waiter = waits.waiter; waits = o; named = waits.named })
          | inr same ↦ unmarked (subst (λ (n : ℕ). IsMarked x.links n index) same.0 (subst (IsMarked x.links k) same.1 (back k i m)))
        ];
        tried = λ e k i at was. sound.tried e k i at (more.asked k i was);
        arrived = λ p c k i at m. sound.arrived p c k i at (back k i m);
      };
      grows = links_grow b x l more.stays;
    }

-- ---- the edges by a dependency have been asked for

pub asked_advances : (b : Context) (x : SearchState) (l : Links) (place index : ℕ) → IsSound b x → NotesAsked x.links l place index
    → ((e : Edge) → IsDepAt b e.parent e.child place index → HasTried b x e IsAny) → Advances b x (with_links x l)
asked_advances b x l place index sound more now_tried =
    let back : (k i : ℕ) → IsMarked l k i → IsMarked x.links k i = λ k i. same_mark l x.links k i (λ n. (more.marks k i n).1) in
    record {
      sound = links_sound b x l sound record {
        there = λ p c k i at. more.links k i (sound.has_links p c k i at);
        mark_steps = λ p c k i n at m. sound.numbered.marked p c k i n at ((more.marks k i n).1 m);
        wait_steps = λ p c k i v at w. sound.numbered.waiting p c k i v at ((more.waits k i v).1 w);
        marked = λ e k i h at. same_mark x.links l k i (λ n. (more.marks k i n).0) (sound.marked e k i h at);
        woken = λ k i t m w. sound.woken k i t (back k i m) (record { waiter = w.waiter; waits = (more.waits k i w.waiter).1 w.waits; named = w.named });
        tried = λ e k i at was. elim (more.from k i was) [
          | inl o ↦ sound.tried e k i at o
          | inr same ↦ now_tried e (dep_there (document_of b) e.parent e.child k i place index same.0 same.1 at)
        ];
        arrived = λ p c k i at m. sound.arrived p c k i at (back k i m);
      };
      grows = links_grow b x l (λ k i w. (more.waits k i w).0);
    }

-- ---- one more mark

-- a dependency is marked with the step of an edge whose child is kept
pub mark_sound : (b : Context) (x : SearchState) (l : Links) (place index n : ℕ) (waiters : List Waiting) → IsSound b x → HasMarked x.links l place index n waiters
    → ((p child : Id) → IsDepAt b p child place index → HasFound b x (Crate child) × IsEdgeStep b x.trace.items p child n) → IsSound b (with_links x l)
mark_sound b x l place index n waiters sound more kept = links_sound b x l sound record {
  there = λ p c k i at. more.links k i (sound.has_links p c k i at);
  mark_steps = λ p c k i m at by. elim (more.from k i m by) [
    | inl o ↦ sound.numbered.marked p c k i m at o
    | inr same ↦ subst (IsEdgeStep b x.trace.items p c) (sym same.2) (kept p c (dep_there (document_of b) p c k i place index same.0 same.1 at)).1
  ];
  wait_steps = λ p c k i v at w. sound.numbered.waiting p c k i v at (more.waited k i v w);
  marked = λ e k i h at. more.stays k i (sound.marked e k i h at);
  woken = λ k i t m w. elim (more.from k i m.0 m.1) [
    | inl o ↦ sound.woken k i t (m.0, o) (record { waiter = w.waiter; waits = more.waited k i w.waiter w.waits; named = w.named })
    | inr same ↦ more.none_left w.waiter (subst (λ (j : ℕ). IsWaiter l j index w.waiter) same.0 (subst (λ (j : ℕ). IsWaiter l k j w.waiter) same.1 w.waits))
  ];
  tried = λ e k i at was. sound.tried e k i at (more.asked k i was);
  arrived = λ p c k i at m. elim (more.from k i m.0 m.1) [
    | inl o ↦ sound.arrived p c k i at (m.0, o)
    | inr same ↦ (kept p c (dep_there (document_of b) p c k i place index same.0 same.1 at)).0
  ];
}

-- some edge by a marked dependency may be kept
pub marked_derives : ReadsOnce → (b : Context) (x : SearchState) (p child : Id) (place index n : ℕ) → IsSound b x → IsDepAt b p child place index → IsMarkedBy x.links place index n → (k : DepKindInfoModel) × Derives b (Kept (edge_between p child k))
marked_derives once b x p child place index n sound at m =
    let by = sound.numbered.marked p child place index n at m in
    (by.0, step_derivable once (document_of b) b.setting.now x.trace.items n (Kept (edge_between p child by.0)) sound.trace by.1)

-- the mark loses nothing if the features that waited have been toggled since
pub mark_grows : (b : Context) (x : SearchState) (l : Links) (z : SearchState) (place index n : ℕ) (waiters : List Waiting) → HasMarked x.links l place index n waiters → Grows b (with_links x l) z
    → ((p child : Id) (w : Waiting) → IsDepAt b p child place index → Contains waiters w → HasToggled b z p child w.name.now) → Grows b x z
mark_grows b x l z place index n waiters more g toggled = record {
  found = g.found;
  steps = g.steps;
  waits = λ p c k i t at w. elim (more.waits k i w.waiter w.waits) [
    | inl o ↦ g.waits p c k i t at (record { waiter = w.waiter; waits = o; named = w.named })
    | inr same ↦ inr (subst (HasToggled b z p c) w.named (toggled p c w.waiter (dep_there (document_of b) p c k i place index same.0 same.1 at) same.2))
  ];
  krates = g.krates;
  features = g.features;
  krates_taken = g.krates_taken;
  features_taken = g.features_taken;
}
