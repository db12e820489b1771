-- What a map has under each key, where it has the items of pairs.
use Rattle.std.proofs.Common.{◌≡◌, ◌++◌, List, [], ◌∷◌, Bool, true, false, cond, Bor, Option, Ordering, Some, None, BTreeMap, bytes_eq, nat_cmp, option_map, append-nil, vec_len, refl, sym, ap, ◌∙◌}
use Rattle.std.proofs.lemmas.Cmp.{nat_list_cmp_total, nat_list_eq_equiv, on_total}
use Rattle.std.proofs.lemmas.Map.Text.{btree_map_updates_str}
use Rattle.std.proofs.lemmas.Slice.Eq.{bytes_eq-Decides}
use Rattle.std.specs.BTreeMap.{IsEmpty, Updates, get_by}
use Rattle.std.specs.Cmp.{IsTotalOrder}
use Rattle.std.specs.Cmp.Lexicographic.{slice_cmp}
use Rattle.std.specs.Global.{Vec}
use Rattle.std.specs.Option.{UnwrapsOrElse, is_some}
use Rattle.krates_cm.specs.Document.{Text}
use Rattle.krates_answers.specs.Grouped.{items_under}
use Rattle.krates_answers.proofs.IfAny.{if_any, if_any-push, same_if_any, none_if_any}
use Rattle.krates_answers.proofs.ItemsUnder.{items_under-push}

-- the order of the keys
abbrev pub text_order : Bor Text → Bor Text → Ordering
text_order x y = slice_cmp nat_cmp x.now y.now

pub text_order_total : IsTotalOrder text_order
text_order_total = on_total (λ (t : Bor Text). t.now) nat_list_cmp_total

-- what the map has under a key
abbrev pub value_under : {T : Type 0} → BTreeMap (Bor Text) (Vec T) → Text → Option (Vec T)
value_under m q = get_by (λ k. slice_cmp nat_cmp q k.now) m

abbrev pub items_of : {T : Type 0} → Vec T → List T
items_of v = v.items

-- under each key, the map has the items of the pairs with it, and nothing where there are none
abbrev pub HoldsPairs : {T : Type 0} → List (Text × T) → BTreeMap (Bor Text) (Vec T) → Type 0
HoldsPairs pairs m = (q : Text) → option_map items_of (value_under m q) ≡ if_any (items_under q pairs)

pub holds_none : {T : Type 0} (m : BTreeMap (Bor Text) (Vec T)) → IsEmpty m → HoldsPairs [] m
holds_none m none q = rw none refl

-- where the items under the key were so, and one more was put at their end
held_at : {T : Type 0} (pairs : List (Text × T)) (key : Text) (item : T) (v : Vec T) (old : Option (Vec T)) (q : Text) (b : Bool) → bytes_eq key q ≡ b → v.items ≡ items_under key pairs ++ item ∷ []
    → option_map items_of old ≡ if_any (items_under q pairs) → option_map items_of (cond b (Some v) old) ≡ if_any (items_under q (pairs ++ (key, item) ∷ []))
held_at pairs key item v old q true same is before =
    let k : key ≡ q = (bytes_eq-Decides key q).0 same in
    let mine : bytes_eq q key ≡ true = (bytes_eq-Decides q key).1 (sym k) in
    let now : items_under q (pairs ++ (key, item) ∷ []) ≡ items_under q pairs ++ item ∷ [] = items_under-push q key item pairs ∙ ap (λ b. items_under q pairs ++ cond b (item ∷ []) []) mine in
    ap Some (is ∙ ap (λ t. items_under t pairs ++ item ∷ []) k) ∙ sym (if_any-push (items_under q pairs) item) ∙ ap if_any (sym now)
held_at pairs key item v old q false other is before =
    let not_mine : bytes_eq q key ≡ false = nat_list_eq_equiv.symm q key ∙ other in
    let now : items_under q (pairs ++ (key, item) ∷ []) ≡ items_under q pairs = items_under-push q key item pairs ∙ ap (λ b. items_under q pairs ++ cond b (item ∷ []) []) not_mine ∙ append-nil (items_under q pairs) in
    before ∙ ap if_any (sym now)

pub holds_more : {T : Type 0} (pairs : List (Text × T)) (m n : BTreeMap (Bor Text) (Vec T)) (key : Bor Text) (item : T) (v : Vec T) → HoldsPairs pairs m → v.items ≡ items_under key.now pairs ++ item ∷ []
    → Updates text_order m n key (Some v) → HoldsPairs (pairs ++ (key.now, item) ∷ []) n
holds_more pairs m n key item v holds is updates q =
    ap (option_map items_of) (btree_map_updates_str key.now m n (Some v) updates q) ∙ held_at pairs key.now item v (value_under m q) q (bytes_eq key.now q) refl is (holds q)

-- the items so far, where the map has some, or none
pub so_far : {T : Type 0} (pairs : List (Text × T)) (q : Text) (old : Option (Vec T)) (v : Vec T) → option_map items_of old ≡ if_any (items_under q pairs)
    → UnwrapsOrElse old (λ made. (made.items ≡ []) × (vec_len made ≡ 0)) v → v.items ≡ items_under q pairs
so_far pairs q None v before made = made.0 ∙ none_if_any (items_under q pairs) before
so_far pairs q (Some w) v before made = ap items_of made ∙ same_if_any w.items (items_under q pairs) before

pub some_of_map : {T : Type 0} (found : Option (Vec T)) → is_some (option_map items_of found) ≡ true → is_some found ≡ true
some_of_map None h = absurd cc
some_of_map (Some v) h = refl
