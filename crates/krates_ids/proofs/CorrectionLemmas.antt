-- Features by name: in a map with text keys, and in the list of its entries.
use Rattle.std.proofs.Common.{◌≡◌, ◌↔◌, ℕ, ◌+◌, ◌<◌, List, length, take, get_or, [], ◌∷◌, ◌++◌, Option, Some, None, Bool, true, false, IsTrue, not, cond, map, option_map, is_some, String, Global, string_cmp, nat_cmp, refl, sym, ap, ◌∙◌}
use Rattle.std.specs.Option.{option_or}
use Rattle.std.proofs.lemmas.List.{take_more, map-append}
use Rattle.std.specs.BTreeMap as tree
use Rattle.std.specs.BTreeMap.{BTreeMap, is_at, get_by_text}
use Rattle.std.specs.Cmp.Lexicographic.{slice_cmp, bytes_decides}
use Rattle.std.specs.Global.{Vec}
use Rattle.std.specs.Map.{lookup}
use Rattle.std.specs.Str.{bytes_eq}
use Rattle.std.proofs.lemmas.Map.Text.{is_eq-slice_cmp, btree_map_updates_text}
use Rattle.krates_cm.specs.Document.{Text, text_view, texts_view, FeaturesModel, features_view}
use Rattle.krates_ids.specs.Correction.{named}

-- a test that holds only of equal texts
pub eq_from_true : (s t : Text) → bytes_eq s t ≡ true → s ≡ t
eq_from_true s t e = (bytes_decides s t).0 e

pub true_from_eq : (s t : Text) → s ≡ t → bytes_eq s t ≡ true
true_from_eq s t e = (bytes_decides s t).1 e

-- two tests that hold together
same_tests : (a b : Bool) → (a ≡ true → b ≡ true) → (b ≡ true → a ≡ true) → a ≡ b
same_tests true b there back = sym (there refl)
same_tests false true there back = back refl
same_tests false false there back = refl

-- the entries of a map of features, as texts
abbrev pub entries_view : List (String Global × Vec (String Global)) → FeaturesModel
entries_view es = map (λ e. (text_view e.0, texts_view e.1)) es

-- one entry more in front
at_front : {X Y : Type 0} (seen : X → Y) (b : Bool) (x : X) (there : Option Y) (found : Option X) → there ≡ option_map seen found → cond b (Some (seen x)) there ≡ option_map seen (cond b (Some x) found)
at_front seen true x there found e = refl
at_front seen false x there found e = e

-- what the map has under a text is what the list has under that name
pub named-entries : {K X Y : Type 0} (key : K → Text) (seen : X → Y) (es : List (K × X)) (name : Text)
    → named (map (λ e. (key e.0, seen e.1)) es) name ≡ option_map seen (lookup (is_at (λ k. slice_cmp nat_cmp name (key k))) es)
named-entries key seen [] name = refl
named-entries key seen (e ∷ es) name =
    rw (is_eq-slice_cmp name (key e.0)) (at_front seen (bytes_eq name (key e.0)) e.1 _ _ (named-entries key seen es name))

abbrev pub Values : Type 0
Values = Vec (String Global)

-- equal texts are equal from either side
bytes_eq-sym : (s t : Text) → bytes_eq s t ≡ bytes_eq t s
bytes_eq-sym s t = same_tests (bytes_eq s t) (bytes_eq t s) (λ e. true_from_eq t s (sym (eq_from_true s t e))) (λ e. true_from_eq s t (sym (eq_from_true t s e)))

-- a value that is inserted is found under its name; under any other name is what was there before
pub named-put : (m n : BTreeMap (String Global) Values) (key : String Global) (values : Values) → tree.Updates string_cmp m n key (Some values) → (name : Text)
    → named (features_view n) name ≡ cond (bytes_eq name (text_view key)) (Some (texts_view values)) (named (features_view m) name)
named-put m n key values updates name =
    let found = btree_map_updates_text (text_view key) m n (Some values) updates name in
    named-entries text_view texts_view n.entries name ∙ ap (option_map texts_view) found ∙ rw (bytes_eq-sym (text_view key) name)
    (sym (at_front texts_view (bytes_eq name (text_view key)) values _ _ (named-entries text_view texts_view m.entries name)))

-- an entry whose name is there already changes nothing
pub present_passed : {A : Type 0} (there : Option A) (b : Bool) (x : A) (left : Option A) → (b ≡ true → there ≡ None → ⊥)
    → option_or there left ≡ option_or there (cond b (Some x) left)
present_passed (Some y) b x left h = refl
present_passed None true x left h = absurd (h refl refl)
present_passed None false x left h = refl

-- an entry whose name is missing is inserted
pub absent_put : {A : Type 0} (there : Option A) (b : Bool) (x : A) (left : Option A) → (b ≡ true → there ≡ None)
    → option_or (cond b (Some x) there) left ≡ option_or there (cond b (Some x) left)
absent_put None true x left h = refl
absent_put (Some y) true x left h = absurd (let e = h refl in cc)
absent_put there false x left h = refl

-- under equal names are the same values
pub named_at : (m : BTreeMap (String Global) Values) (name key : Text) → bytes_eq name key ≡ true → named (features_view m) name ≡ named (features_view m) key
named_at m name key e = ap (named (features_view m)) (eq_from_true name key e)

-- what `contains_key` says about the names
not_there : {A B : Type 0} (seen : A → B) (found : Option A) → is_some found ≡ false → option_map seen found ≡ None
not_there seen None e = refl
not_there seen (Some x) e = absurd cc

there : {A B : Type 0} (seen : A → B) (found : Option A) → is_some found ≡ true → option_map seen found ≡ None → ⊥
there seen None e none = absurd cc
there seen (Some x) e none = absurd cc

pub is_absent : (m : BTreeMap (String Global) Values) (key : Text) → is_some (get_by_text m key) ≡ false → named (features_view m) key ≡ None
is_absent m key e = named-entries text_view texts_view m.entries key ∙ not_there texts_view (get_by_text m key) e

pub is_present : (m : BTreeMap (String Global) Values) (key : Text) → is_some (get_by_text m key) ≡ true → named (features_view m) key ≡ None → ⊥
is_present m key e none = there texts_view (get_by_text m key) e (sym (named-entries text_view texts_view m.entries key) ∙ none)

-- one more element has been looked at
pub taken_more : {A B : Type 0} (f : A → B) (xs : List A) (i : ℕ) (x : A) → i < length xs → x ≡ get_or xs i x → map f (take (i + 1) xs) ≡ map f (take i xs) ++ f x ∷ []
taken_more f xs i x lt is = ap (map f) (take_more xs i x lt) ∙ map-append f (take i xs) (get_or xs i x ∷ []) ∙ ap (λ y. map f (take i xs) ++ f y ∷ []) (sym is)

-- what is missing from a map, by the answer of a look-up
pub absent_answer : (m : BTreeMap (String Global) Values) (key : Text) (P : Type 0) (b : Bool) → b ≡ is_some (get_by_text m key) → P → IsTrue (not b) ↔ (P × (named (features_view m) key ≡ None))
absent_answer m key P false e p = (λ h. (p, is_absent m key (sym e)), λ w. refl)
absent_answer m key P true e p = (λ h. absurd cc, λ w. absurd (is_present m key (sym e) w.1))

-- what is inserted, by its texts
pub named-put-as : (m n : BTreeMap (String Global) Values) (key : String Global) (values : Values) (k : Text) (vs : List Text) → text_view key ≡ k → texts_view values ≡ vs → tree.Updates string_cmp m n key (Some values) → (name : Text)
    → named (features_view n) name ≡ cond (bytes_eq name k) (Some vs) (named (features_view m) name)
named-put-as m n key values k vs same seen updates name =
    named-put m n key values updates name ∙ ap (λ t. cond (bytes_eq name t) (Some (texts_view values)) (named (features_view m) name)) same
    ∙ ap (λ v. cond (bytes_eq name k) (Some v) (named (features_view m) name)) seen

-- an empty map has nothing
pub empty_first : (m : BTreeMap (String Global) Values) (name : Text) (found : Option (List Text)) → m.entries ≡ [] → option_or (named (features_view m) name) found ≡ found
empty_first m name found e = ap (λ es. option_or (named (entries_view es) name) found) e
