-- Lists of rows and of premises: what is in them, and what holds of each of them.
use Rattle.std.proofs.Common.{◌≡◌, ℕ, List, [], ◌∷◌, ◌++◌, map, Option, Some, None, Bool, true, false, if◌then◌else◌, IsTrue, refl, sym, ap, subst, inl, inr}
use Rattle.std.specs.List.{Contains, flat_map, slice_get}
use Rattle.std.proofs.lemmas.List.Elements.{Contains-append_cases}
use Rattle.krates_rules.proofs.Elements.{contains_image, contains_source}
use Rattle.krates_rules.proofs.Members.{contains_of, member_of, member_spread, spread_of}
use Rattle.krates_rules.proofs.Standings.{contains_at}
use Rattle.krates_units.specs.BuildFacts.{Fact}
use Rattle.krates_units.specs.Built.{IsPremise}
use Rattle.krates_build_facts.specs.FactModels.{FactModel, RuleModel}
use Rattle.krates_build_facts.specs.Rows.{of_some, rule, rule_if}

-- ---- what holds of each element

-- it holds of each element
abbrev pub Each : {X : Type 0} → (X → Type 0) → List X → Type 0
Each {X} P xs = (x : X) → Contains xs x → P x

pub each_none : {X : Type 0} (P : X → Type 0) → Each P []
each_none P x c = absurd (member_of [] x c)

pub each_more : {X : Type 0} (P : X → Type 0) (x : X) (xs : List X) → P x → Each P xs → Each P (x ∷ xs)
each_more P x xs h more y c = elim (member_of (x ∷ xs) y c) [
  | inl e ↦ subst P e h
  | inr m ↦ more y (contains_of xs y m)
]

pub each_one : {X : Type 0} (P : X → Type 0) (x : X) → P x → Each P (x ∷ [])
each_one P x h = each_more P x [] h (each_none P)

pub each_two : {X : Type 0} (P : X → Type 0) (x y : X) → P x → P y → Each P (x ∷ y ∷ [])
each_two P x y h k = each_more P x (y ∷ []) h (each_one P y k)

pub each_unless : {X : Type 0} (P : X → Type 0) (b : Bool) (xs : List X) → (b ≡ false → Each P xs) → Each P (if b then [] else xs)
each_unless P true xs h = each_none P
each_unless P false xs h = h refl

pub first_of : {X : Type 0} (P : X → Type 0) (x : X) (xs : List X) → Each P (x ∷ xs) → P x
first_of P x xs h = h x (contains_of (x ∷ xs) x (inl refl))

pub rest_of : {X : Type 0} (P : X → Type 0) (x : X) (xs : List X) → Each P (x ∷ xs) → Each P xs
rest_of P x xs h y c = h y (contains_of (x ∷ xs) y (inr (member_of xs y c)))

-- ---- what holds of each premise of a rule

pub none_premise : (P : Fact → Type 0) → (g : Fact) → IsPremise g [] → P g
none_premise P g h = absurd h

pub more_premises : (P : Fact → Type 0) (f : Fact) (fs : List Fact) → P f → ((g : Fact) → IsPremise g fs → P g) → (g : Fact)
    → IsPremise g (f ∷ fs) → P g
more_premises P f fs h more g (inl e) = subst P (sym e) h
more_premises P f fs h more g (inr m) = more g m

-- ---- what holds of each row

-- it holds of the premises and the fact of each row
abbrev pub EachRow : (List FactModel → FactModel → Type 0) → List RuleModel → Type 0
EachRow P rows = (ps : List FactModel) (n : FactModel) → Contains rows (rule ps n) → P ps n

pub rows_none : (P : List FactModel → FactModel → Type 0) → EachRow P []
rows_none P ps n c = absurd (member_of [] (rule ps n) c)

pub rows_more : (P : List FactModel → FactModel → Type 0) (ps : List FactModel) (n : FactModel) (rows : List RuleModel) → P ps n
    → EachRow P rows → EachRow P (rule ps n ∷ rows)
rows_more P ps n rows h more qs m c = elim (member_of (rule ps n ∷ rows) (rule qs m) c) [
  | inl e ↦ subst (λ (x : RuleModel). P x.premises x.fact) e h
  | inr there ↦ more qs m (contains_of rows (rule qs m) there)
]

pub rows_one : (P : List FactModel → FactModel → Type 0) (ps : List FactModel) (n : FactModel) → P ps n → EachRow P (rule ps n ∷ [])
rows_one P ps n h = rows_more P ps n [] h (rows_none P)

pub rows_if : (P : List FactModel → FactModel → Type 0) (b : Bool) (ps : List FactModel) (n : FactModel) → (IsTrue b → P ps n)
    → EachRow P (rule_if b ps n)
rows_if P true ps n h = rows_one P ps n (h refl)
rows_if P false ps n h = rows_none P

pub rows_where : (P : List FactModel → FactModel → Type 0) (b : Bool) (rows : List RuleModel) → (IsTrue b → EachRow P rows)
    → EachRow P (if b then rows else [])
rows_where P true rows h = h refl
rows_where P false rows h = rows_none P

pub rows_unless : (P : List FactModel → FactModel → Type 0) (b : Bool) (rows : List RuleModel) → (b ≡ false → EachRow P rows)
    → EachRow P (if b then [] else rows)
rows_unless P true rows h = rows_none P
rows_unless P false rows h = h refl

pub rows_append : (P : List FactModel → FactModel → Type 0) (xs ys : List RuleModel) → EachRow P xs → EachRow P ys → EachRow P (xs ++ ys)
rows_append P xs ys h k ps n c = elim (Contains-append_cases xs ys (rule ps n) c) [ inl here ↦ h ps n here | inr there ↦ k ps n there ]

pub rows_some : {A : Type 0} (P : List FactModel → FactModel → Type 0) (o : Option A) (rows : A → List RuleModel)
    → ((x : A) → o ≡ Some x → EachRow P (rows x)) → EachRow P (of_some o rows)
rows_some P None rows h = rows_none P
rows_some P (Some x) rows h = h x refl

pub rows_flat : {A : Type 0} (P : List FactModel → FactModel → Type 0) (f : A → List RuleModel) (xs : List A)
    → ((x : A) → Contains xs x → EachRow P (f x)) → EachRow P (flat_map f xs)
rows_flat P f xs h ps n c =
    let w = spread_of f xs (rule ps n) (member_of (flat_map f xs) (rule ps n) c) in
    h w.from (contains_of xs w.from w.member) ps n (contains_of (f w.from) (rule ps n) w.there)

pub rows_mapped : {A : Type 0} (P : List FactModel → FactModel → Type 0) (f : A → RuleModel) (xs : List A)
    → ((x : A) → Contains xs x → P (f x).premises (f x).fact) → EachRow P (map f xs)
rows_mapped P f xs h ps n c =
    let w = contains_source f xs (rule ps n) c in
    subst (λ (x : RuleModel). P x.premises x.fact) w.2 (h w.0 w.1)

-- ---- a row that is there

pub here : {X : Type 0} (x : X) (xs : List X) → Contains (x ∷ xs) x
here x xs = contains_of (x ∷ xs) x (inl refl)

pub there : {X : Type 0} (y : X) (xs : List X) (x : X) → Contains xs x → Contains (y ∷ xs) x
there y xs x c = contains_of (y ∷ xs) x (inr (member_of xs x c))

pub in_if : (b : Bool) (ps : List FactModel) (n : FactModel) → IsTrue b → Contains (rule_if b ps n) (rule ps n)
in_if true ps n h = here (rule ps n) []
in_if false ps n h = absurd cc

pub in_where : (b : Bool) (rows : List RuleModel) (row : RuleModel) → IsTrue b → Contains rows row → Contains (if b then rows else []) row
in_where true rows row h c = c
in_where false rows row h c = absurd cc

pub in_unless : (b : Bool) (rows : List RuleModel) (row : RuleModel) → b ≡ false → Contains rows row → Contains (if b then [] else rows) row
in_unless true rows row h c = absurd cc
in_unless false rows row h c = c

pub in_some : {A : Type 0} (o : Option A) (x : A) (rows : A → List RuleModel) (row : RuleModel) → o ≡ Some x → Contains (rows x) row
    → Contains (of_some o rows) row
in_some o x rows row e c = subst (λ (w : Option _). Contains (of_some w rows) row) (sym e) c

pub in_flat : {A : Type 0} (f : A → List RuleModel) (xs : List A) (x : A) (row : RuleModel) → Contains xs x → Contains (f x) row
    → Contains (flat_map f xs) row
in_flat f xs x row at c = contains_of (flat_map f xs) row (member_spread f xs x row (member_of xs x at) (member_of (f x) row c))

-- by the place of the element
pub in_flat_at : {A : Type 0} (f : A → List RuleModel) (xs : List A) (k : ℕ) (x : A) (row : RuleModel) → slice_get xs k ≡ Some x
    → Contains (f x) row → Contains (flat_map f xs) row
in_flat_at f xs k x row at c = in_flat f xs x row (contains_at xs k x at) c

-- a row made of what a function maps to an element
pub mapped_row : {A B : Type 0} (f : A → B) (row : B → RuleModel) (xs : List A) (y : B) → Contains (map f xs) y
    → Contains (map (λ x. row (f x)) xs) (row y)
mapped_row f row xs y c =
    let from = contains_source f xs y c in
    subst (λ (z : RuleModel). Contains (map (λ x. row (f x)) xs) z) (ap row from.2) (contains_image (λ x. row (f x)) xs from.0 from.1)
