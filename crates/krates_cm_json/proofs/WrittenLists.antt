-- A list that is written item by item.
use Rattle.std.proofs.Common.{◌≡◌, ℕ, ◌+◌, ◌<◌, ◌≤◌, List, [], ◌∷◌, ◌++◌, length, get_or, take, map, String, Global, string_bytes, sym, ap, ◌∙◌, subst}
use Rattle.std.proofs.lemmas.List.{map-append, take_more, take_all}
use Rattle.serde_json.specs.Data.{Data}
use Rattle.serde_json.specs.View.{view, items_view, members_view}
use Rattle.serde_json.proofs.Views.{Entry}
use Rattle.serde_json.specs.declared.value.Value.{Value}
use Rattle.krates_cm_json.specs.Objects.{EachWritten, EntriesWritten}
use Rattle.krates_cm_json.proofs.MapReading.{entry_seen}

each_pushed : {A : Type 0} (W : A → Data → Type 0) (xs : List A) (vs : List Value) (x : A) (v : Value) → EachWritten W xs (items_view vs) → W x (view v) → EachWritten W (xs ++ x ∷ []) (items_view (vs ++ v ∷ []))
each_pushed W [] [] x v h here = (here, tt)
each_pushed W [] (u ∷ vs) x v h here = absurd h
each_pushed W (y ∷ xs) [] x v h here = absurd h
each_pushed W (y ∷ xs) (u ∷ vs) x v h here = (h.0, each_pushed W xs vs x v h.1 here)

-- one more item is written
pub written_next : {X A : Type 0} (W : A → Data → Type 0) (seen : X → A) (xs : List X) (i : ℕ) (x : X) (vs : List Value) (v : Value) → i < length xs → x ≡ get_or xs i x
    → W (seen x) (view v) → EachWritten W (map seen (take i xs)) (items_view vs) → EachWritten W (map seen (take (i + 1) xs)) (items_view (vs ++ v ∷ []))
written_next W seen xs i x vs v lt is here so_far =
    let more : take (i + 1) xs ≡ take i xs ++ x ∷ [] = take_more xs i x lt ∙ ap (λ y. take i xs ++ y ∷ []) (sym is) in
    rw (more, map-append) (each_pushed W (map seen (take i xs)) vs (seen x) v so_far here)

pub written_all : {X A : Type 0} (W : A → Data → Type 0) (seen : X → A) (xs : List X) (i : ℕ) (vs : List Value) → length xs ≤ i → EachWritten W (map seen (take i xs)) (items_view vs) → EachWritten W (map seen xs) (items_view vs)
written_all W seen xs i vs le h = subst (λ ys. EachWritten W (map seen ys) (items_view vs)) (take_all i xs le) h

-- one more entry is written
pub entry_next : {X A : Type 0} (W : A → Data → Type 0) (seen : X → A) (done : List (String Global × X)) (made : List Entry) (e : String Global × X) (copy : String Global) (v : Value) → string_bytes copy ≡ string_bytes e.0
    → W (seen e.1) (view v) → EntriesWritten W (map (entry_seen seen) done) (members_view made) → EntriesWritten W (map (entry_seen seen) (done ++ e ∷ [])) (members_view (made ++ (copy, v) ∷ []))
entry_next W seen [] [] e copy v is here h = (is, here, tt)
entry_next W seen [] (m ∷ made) e copy v is here h = absurd h
entry_next W seen (d ∷ done) [] e copy v is here h = absurd h
entry_next W seen (d ∷ done) (m ∷ made) e copy v is here h = (h.0, h.1, entry_next W seen done made e copy v is here h.2)
