-- The items under a key, among items with their keys.
use Rattle.std.proofs.Common.{◌≡◌, ◌++◌, List, [], ◌∷◌, Bool, true, false, cond, map, filter, bytes_eq, refl, sym, ap, ◌∙◌, subst}
use Rattle.std.proofs.lemmas.List.{map-append}
use Rattle.std.proofs.lemmas.List.Elements.{filter-append}
use Rattle.std.proofs.lemmas.Slice.Eq.{bytes_eq-Decides}
use Rattle.krates_cm.specs.Document.{Text}
use Rattle.krates_rules.proofs.Members.{Member, member_map, mapped_of, kept_of, member_filter}
use Rattle.krates_answers.specs.Grouped.{items_under}

-- the item of a pair that was put at the end
last_under : {T : Type 0} (key : Text) (item : T) (b : Bool) → map (λ (p : Text × T). p.1) (cond b ((key, item) ∷ []) []) ≡ cond b (item ∷ []) []
last_under key item true = refl
last_under key item false = refl

pub items_under-push : {T : Type 0} (q key : Text) (item : T) (pairs : List (Text × T)) → items_under q (pairs ++ (key, item) ∷ []) ≡ items_under q pairs ++ cond (bytes_eq q key) (item ∷ []) []
items_under-push {T} q key item pairs =
    let is_key : Text × T → Bool = λ p. bytes_eq q p.0 in
    let items : List (Text × T) → List T = map (λ p. p.1) in
    ap items (filter-append is_key pairs ((key, item) ∷ [])) ∙ map-append (λ (p : Text × T). p.1) (filter is_key pairs) (filter is_key ((key, item) ∷ []))
    ∙ ap (λ last. items_under q pairs ++ last) (last_under key item (bytes_eq q key))

-- an item under a key comes from a pair with it
pub key_of_item : {T : Type 0} (q : Text) (pairs : List (Text × T)) (item : T) → Member (items_under q pairs) item → Member (map (λ p. p.0) pairs) q
key_of_item {T} q pairs item m =
    let pair = mapped_of (λ (p : Text × T). p.1) (filter (λ p. bytes_eq q p.0) pairs) item m in
    let kept = kept_of (λ (p : Text × T). bytes_eq q p.0) pairs pair.from pair.member in
    let is : q ≡ pair.from.0 = (bytes_eq-Decides q pair.from.0).0 kept.1 in
    subst (Member (map (λ (p : Text × T). p.0) pairs)) (sym is) (member_map (λ (p : Text × T). p.0) pairs pair.from kept.0)

-- each key has an item
pub item_of_key : {T : Type 0} (q : Text) (pairs : List (Text × T)) → Member (map (λ p. p.0) pairs) q → (item : T) × Member (items_under q pairs) item
item_of_key {T} q pairs m =
    let pair = mapped_of (λ (p : Text × T). p.0) pairs q m in
    let passes : bytes_eq q pair.from.0 ≡ true = (bytes_eq-Decides q pair.from.0).1 (sym pair.is) in
    (pair.from.1, member_map (λ (p : Text × T). p.1) (filter (λ p. bytes_eq q p.0) pairs) pair.from (member_filter (λ (p : Text × T). bytes_eq q p.0) pairs pair.from passes pair.member))
