-- Fields that are put in one after another make the object of a table.
use Rattle.std.proofs.Common.{◌≡◌, List, [], ◌∷◌, Bool, true, false, refl, sym, subst, nat_cmp, cond}
use Rattle.std.specs.Prelude.{⊤}
use Rattle.std.specs.Cmp.Lexicographic.{slice_cmp}
use Rattle.std.specs.Ordering.{match_ordering}
use Rattle.std.specs.declared.cmp.Ordering.{Ordering}
use Rattle.std.specs.declared.cmp.Ordering.TheVariants.{Less, Equal, Greater}
use Rattle.serde_json.specs.Data.{Data, Members, no_members, member, put}
use Rattle.krates_cm.specs.Document.{Text}
use Rattle.krates_cm_json.specs.Fields.{members_of, AddedWhere}
use Rattle.krates_cm_json.specs.declared.write.object.Fields.{Fields}
use Rattle.krates_cm_json.specs.Objects.{Table, no_more, row, MembersWritten}

-- the key is above those of the rows
abbrev pub above : Text → Table → Bool
above key no_more = true
above key (row there k V rest) = match_ordering (slice_cmp nat_cmp key k) false false (above key rest)

-- the rows, and then one more
abbrev pub then_row : Table → Bool → Text → (Data → Type 0) → Table
then_row no_more there key W = row there key W no_more
then_row (row t k V rest) there key W = row t k V (then_row rest there key W)

-- the rows, and then those
abbrev pub then_rows : Table → Table → Table
then_rows done no_more = done
then_rows done (row there key W rest) = then_rows (then_row done there key W) rest

-- each key of those is above those before it
abbrev pub in_order : Table → Table → Bool
in_order done no_more = true
in_order done (row there key W rest) = cond (above key done) (in_order (then_row done there key W) rest) false

-- a field is added for each row, and those are the fields after each
abbrev pub AddedAll : Table → Fields → List Fields → Type 0
AddedAll no_more before steps = ⊤
AddedAll (row there key W rest) before [] = ⊥
AddedAll (row there key W rest) before (next ∷ steps) = AddedWhere there key W (members_of before) (members_of next) × AddedAll rest next steps

infixr 5 ◌and◌
pub ◌and◌ : {A B : Type 0} → A → B → A × B
first and rest = (first, rest)

-- the fields after all rows
abbrev pub after_all : Table → Fields → List Fields → Fields
after_all no_more before steps = before
after_all (row there key W rest) before [] = before
after_all (row there key W rest) before (next ∷ steps) = after_all rest next steps

put_last : (o : Ordering) (key k : Text) (d e : Data) (ms : Members) (later : Bool) → slice_cmp nat_cmp key k ≡ o → match_ordering o false false later ≡ true
    → (put key d (member k e ms) ≡ member k e (put key d ms)) × (later ≡ true)
put_last Less key k d e ms later is up = absurd cc
put_last Equal key k d e ms later is up = absurd cc
put_last Greater key k d e ms later is up = (rw is refl, up)

added_last : (done : Table) (key : Text) (W : Data → Type 0) (ms : Members) (d : Data) → MembersWritten done ms → W d → above key done ≡ true → MembersWritten (then_row done true key W) (put key d ms)
added_last no_more key W no_members d h w up = (refl, w, tt)
added_last no_more key W (member l e ms) d h w up = absurd h
added_last (row true k V rest) key W no_members d h w up = absurd h
added_last (row true k V rest) key W (member l e ms) d h w up =
    let (last, later) = put_last (slice_cmp nat_cmp key k) key k d e ms (above key rest) refl up in
    let table = row true k V (then_row rest true key W) in
    let here : MembersWritten table (member k e (put key d ms)) = (refl, h.1, added_last rest key W ms d h.2 w later) in
    subst (λ (n : Text). MembersWritten table (put key d (member n e ms))) (sym h.0) (subst (MembersWritten table) (sym last) here)
added_last (row false k V rest) key W ms d h w up =
    added_last rest key W ms d h w (put_last (slice_cmp nat_cmp key k) key k d d ms (above key rest) refl up).1

left_out : (done : Table) (key : Text) (W : Data → Type 0) (ms : Members) → MembersWritten done ms → MembersWritten (then_row done false key W) ms
left_out no_more key W ms h = h
left_out (row true k V rest) key W no_members h = absurd h
left_out (row true k V rest) key W (member l e ms) h = (h.0, h.1, left_out rest key W ms h.2)
left_out (row false k V rest) key W ms h = left_out rest key W ms h

one_more : (done : Table) (there : Bool) (key : Text) (W : Data → Type 0) (before after : Members) → MembersWritten done before → AddedWhere there key W before after → above key done ≡ true → MembersWritten (then_row done there key W) after
one_more done true key W before after h (d, w, is) up = subst (MembersWritten (then_row done true key W)) (sym is) (added_last done key W before d h w up)
one_more done false key W before after h is up = subst (MembersWritten (then_row done false key W)) (sym is) (left_out done key W before h)

both : (a b : Bool) → cond a b false ≡ true → (a ≡ true) × (b ≡ true)
both true b h = (refl, h)
both false b h = absurd cc

all_written : (done rest : Table) (before : Fields) (steps : List Fields) → MembersWritten done (members_of before) → AddedAll rest before steps → in_order done rest ≡ true
    → MembersWritten (then_rows done rest) (members_of (after_all rest before steps))
all_written done no_more before steps h added ordered = h
all_written done (row there key W rest) before [] h added ordered = absurd added
all_written done (row there key W rest) before (next ∷ steps) h (first, others) ordered =
    let (up, later) = both (above key done) _ ordered in
    all_written (then_row done there key W) rest next steps (one_more done there key W (members_of before) (members_of next) h first up) others later

-- what is added to no field for rows in order is what they say
pub fields_written : (table : Table) (first : Fields) (steps : List Fields) → members_of first ≡ no_members → AddedAll table first steps → in_order no_more table ≡ true
    → MembersWritten (then_rows no_more table) (members_of (after_all table first steps))
fields_written table first steps none added ordered = all_written no_more table first steps (rw none tt) added ordered
