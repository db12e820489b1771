-- Steps stay when one more is appended.
use Rattle.std.proofs.Common.{◌≡◌, ℕ, zero, suc, List, [], ◌∷◌, ◌++◌, length, Some, refl, sym, ap, ◌∙◌, subst}
use Rattle.std.proofs.lemmas.Option.{same_Some, slice_get_within}
use Rattle.std.specs.List.{AllZip, slice_get}
use Rattle.krates_cm.specs.Document.{DepKindInfoModel, NodeDepModel, NodeModel, Text}
use Rattle.krates_questions.proofs.Lookups.{one_id}
use Rattle.krates_questions.specs.FeatureTable.{FeatureAt}
use Rattle.krates_selection.specs.Trace.{EdgeAt, HasStep, IsShown, IsTrace, MayFind, Names}
use Rattle.krates_selection.specs.declared.trace.NumberedFact.{NumberedFact}
use Rattle.krates_selection.specs.declared.trace.NumberedFact.TheVariants as numbered
use Rattle.krates_selection.specs.declared.trace.NumberedStep.{NumberedStep}
use Rattle.krates_selection.specs.declared.trace.Reason.{Reason}
use Rattle.krates_rules.proofs.ListsOfSteps.{contained_derived, step_put}
use Rattle.krates_rules.proofs.Readings.{ReadsOnce, right_of}
use Rattle.krates_rules.proofs.Standings.{contains_at}
use Rattle.krates_rules.specs.Derivation.{Derivable}
use Rattle.krates_rules.specs.Facts.{Id, Edge, Fact, Crate, Feature, Kept, Toggled}
use Rattle.krates_rules.specs.Questions.{edge_between, kind_info_of, questions}
use Rattle.krates_rules.specs.Resolved.{DepAt, NodeAt, Resolved, ReadsAs, id_of}
use Rattle.krates_rules.specs.Setting.{SettingModel}
use Rattle.krates_rules.specs.Steps.{Gives, IsEarlier, StepModel}
use Rattle.krates_rules.specs.Uses.{numbers_used}

-- ---- lists with one more element

-- what is at a place stays there
pub stays_at : {A : Type 0} (xs : List A) (y : A) (k : ℕ) (x : A) → slice_get xs k ≡ Some x → slice_get (xs ++ y ∷ []) k ≡ Some x
stays_at [] y k x h = absurd cc
stays_at (z ∷ xs) y zero x h = h
stays_at (z ∷ xs) y (suc k) x h = stays_at xs y k x h

-- the last element comes after the others
pub last_at : {A : Type 0} (xs : List A) (y : A) → slice_get (xs ++ y ∷ []) (length xs) ≡ Some y
last_at [] y = refl
last_at (z ∷ xs) y = last_at xs y

pub zip_push : {A B : Type 0} (R : A → B → Type 0) (xs : List A) (ys : List B) (x : A) (y : B) → AllZip R xs ys → R x y → AllZip R (xs ++ x ∷ []) (ys ++ y ∷ [])
zip_push R [] [] x y z h = (h, tt)
zip_push R [] (b ∷ ys) x y z h = absurd z
zip_push R (a ∷ xs) [] x y z h = absurd z
zip_push R (a ∷ xs) (b ∷ ys) x y z h = (z.0, zip_push R xs ys x y z.1 h)

pub zip_weaker : {A B : Type 0} (P Q : A → B → Type 0) (xs : List A) (ys : List B) → ((x : A) (y : B) → P x y → Q x y) → AllZip P xs ys → AllZip Q xs ys
zip_weaker P Q [] [] f z = tt
zip_weaker P Q [] (b ∷ ys) f z = absurd z
zip_weaker P Q (a ∷ xs) [] f z = absurd z
zip_weaker P Q (a ∷ xs) (b ∷ ys) f z = (f a b z.0, zip_weaker P Q xs ys f z.1)

-- ---- a number stands for only one fact

-- the number of a feature belongs to only one feature of one crate
pub one_feature : ReadsOnce → (r : Resolved) (i j : Id) (f g : Text) (number : ℕ) → FeatureAt r i f number → FeatureAt r j g number → (i ≡ j) × (f ≡ g)
one_feature once r i j f g number a b =
    let same = same_Some (a.place, f) (b.place, g) (sym a.at ∙ b.at) in
    let place : a.place ≡ b.place = ap (λ (x : ℕ × Text). x.0) same in
    (one_id once r i j b.place (subst (NodeAt r i) place a.node) b.node, ap (λ (x : ℕ × Text). x.1) same)

-- the dependency at a place of a node leads from one crate to one other
pub one_way : ReadsOnce → (r : Resolved) (p c q d : Id) (place index : ℕ) → DepAt r p c place index → DepAt r q d place index → (p ≡ q) × (c ≡ d)
one_way once r p c q d place index a b =
    let node = same_Some a.node.node b.node.node (sym a.node.at ∙ b.node.at) in
    let dep = same_Some a.dep b.dep (sym a.at ∙ ap (λ (n : NodeModel). slice_get n.deps index) node ∙ b.at) in
    let there = subst (λ (n : NodeDepModel). ReadsAs n.pkg d) (sym dep) b.id in
    (one_id once r p q place a.node b.node, sym a.id.same ∙ ap id_of (once a.dep.pkg a.id.read there.read a.id.reads there.reads) ∙ there.same)

one_edge : ReadsOnce → (r : Resolved) (e g : Edge) (place index kind : ℕ) → EdgeAt r e place index kind → EdgeAt r g place index kind → e ≡ g
one_edge once r e g place index kind a b =
    let way = one_way once r e.parent e.child g.parent g.child place index a.dep b.dep in
    let node = same_Some a.dep.node.node b.dep.node.node (sym a.dep.node.at ∙ b.dep.node.at) in
    let dep = same_Some a.dep.dep b.dep.dep (sym a.dep.at ∙ ap (λ (n : NodeModel). slice_get n.deps index) node ∙ b.dep.at) in
    let kind_of = same_Some (kind_info_of e) (kind_info_of g) (sym a.here ∙ ap (λ (d : NodeDepModel). slice_get d.dep_kinds kind) dep ∙ b.here) in
    ap (λ (i : Id). edge_between i e.child (kind_info_of e)) way.0 ∙ ap (λ (i : Id). edge_between g.parent i (kind_info_of e)) way.1 ∙ ap (λ (k : DepKindInfoModel). edge_between g.parent g.child k) kind_of

pub names_once : ReadsOnce → (r : Resolved) (n : NumberedFact) (f g : Fact) → Names r n f → Names r n g → f ≡ g
names_once once r (numbered.Crate place) f g a b = a.is ∙ ap (λ (i : Id). Crate i) (one_id once r a.krate b.krate place.index a.node b.node) ∙ sym b.is
names_once once r (numbered.Feature number) f g a b =
    let same = one_feature once r a.krate b.krate a.name b.name number a.at b.at in
    a.is ∙ ap (λ (i : Id). Feature i a.name) same.0 ∙ ap (λ (t : Text). Feature b.krate t) same.1 ∙ sym b.is
names_once once r (numbered.Kept place index kind) f g a b = a.is ∙ ap (λ (e : Edge). Kept e) (one_edge once r a.edge b.edge place.index index kind a.at b.at) ∙ sym b.is
names_once once r (numbered.Toggled place number) f g a b =
    let by = one_id once r a.by b.by place.index a.node b.node in
    let same = one_feature once r a.krate b.krate a.name b.name number a.at b.at in
    a.is ∙ ap (λ (i : Id). Toggled i a.krate a.name) by ∙ ap (λ (i : Id). Toggled b.by i a.name) same.0 ∙ ap (λ (t : Text). Toggled b.by b.krate t) same.1 ∙ sym b.is

-- ---- steps stay

-- each step of one list is a step of the other
abbrev pub StepsStay : Resolved → List NumberedStep → List NumberedStep → Type 0
StepsStay r old new = (n : ℕ) (f : Fact) → HasStep r old n f → HasStep r new n f

pub step_stays : (r : Resolved) (trace : List NumberedStep) (y : NumberedStep) → StepsStay r trace (trace ++ y ∷ [])
step_stays r trace y n f h = record { step = h.step; at = stays_at trace y n h.step h.at; names = h.names }

-- the last step has its fact
pub last_step : (r : Resolved) (trace : List NumberedStep) (y : NumberedStep) (f : Fact) → Names r y.fact f → HasStep r (trace ++ y ∷ []) (length trace) f
last_step r trace y f names = record { step = y; at = last_at trace y; names = names }

-- what follows from the steps follows from more steps
pub finds_more : (r : Resolved) (s : SettingModel) (old new : List NumberedStep) (reason : Reason) (f : Fact) → StepsStay r old new → MayFind r s old reason f → MayFind r s new reason f
finds_more r s old new reason f stay h = record { premises = h.premises; uses = zip_weaker (HasStep r old) (HasStep r new) (numbers_used reason.uses) h.premises stay h.uses; rule = h.rule }

-- ---- what follows

-- a step that is used comes earlier in the derivation
earlier : ReadsOnce → (r : Resolved) (trace : List NumberedStep) (steps : List StepModel) → AllZip (IsShown r) trace steps → (n : ℕ) (f : Fact) → HasStep r trace n f → IsEarlier steps (length steps) n f
earlier once r trace steps shown n f h =
    let x = right_of (IsShown r) trace steps n h.step shown h.at in
    record { before = slice_get_within steps n x.0 x.1; step = x.0; at = x.1; has = names_once once r h.step.fact x.0.fact f x.2.fact h.names }

given : ReadsOnce → (r : Resolved) (s : SettingModel) (trace : List NumberedStep) (reason : Reason) (f : Fact) → (t : IsTrace r s trace) → MayFind r s trace reason f → Gives (questions r s) t.steps reason.rule (numbers_used reason.uses) f
given once r s trace reason f t h = record {
  premises = h.premises;
  uses = zip_weaker (HasStep r trace) (IsEarlier t.steps (length t.steps)) (numbers_used reason.uses) h.premises (earlier once r trace t.steps t.shown) h.uses;
  rule = h.rule;
}

-- and so is the fact of each step
pub step_derivable : ReadsOnce → (r : Resolved) (s : SettingModel) (trace : List NumberedStep) (n : ℕ) (f : Fact) → IsTrace r s trace → HasStep r trace n f → Derivable (questions r s) f
step_derivable once r s trace n f t h =
    let x = right_of (IsShown r) trace t.steps n h.step t.shown h.at in
    let is = names_once once r h.step.fact x.0.fact f x.2.fact h.names in
    subst (Derivable (questions r s)) is (contained_derived (questions r s) t.steps t.follows x.0 (contains_at t.steps n x.0 x.1))

-- a step that follows is appended
pub trace_put : ReadsOnce → (r : Resolved) (s : SettingModel) (trace : List NumberedStep) (y : NumberedStep) (f : Fact) → IsTrace r s trace → Names r y.fact f → MayFind r s trace y.reason f → IsTrace r s (trace ++ y ∷ [])
trace_put once r s trace y f t names h =
    let x : StepModel = record { rule = y.reason.rule; fact = f; uses = numbers_used y.reason.uses } in
    record {
      steps = t.steps ++ x ∷ [];
      shown = zip_push (IsShown r) trace t.steps y x t.shown (record { fact = names; rule = refl; uses = refl });
      follows = step_put (questions r s) t.steps y.reason.rule (numbers_used y.reason.uses) f t.follows (given once r s trace y.reason f t h);
    }
