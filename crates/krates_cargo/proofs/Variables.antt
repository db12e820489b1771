-- Variables of the environment, by name.
use Rattle.std.proofs.Common.{◌≡◌, List, [], ◌∷◌, refl, ap, ◌∙◌, map}
use Rattle.std.specs.Prelude.{String}
use Rattle.std.specs.BTreeMap.{BTreeMap, IsClone, insert_entry}
use Rattle.std.specs.Cmp.Lexicographic.{slice_cmp}
use Rattle.std.specs.Ordering.{nat_cmp, match_ordering}
use Rattle.std.specs.String.{string_cmp}
use Rattle.std.specs.declared.alloc.Global.{Global}
use Rattle.std.specs.declared.cmp.Ordering.{Ordering}
use Rattle.std.specs.declared.cmp.Ordering.TheVariants.{Less, Equal, Greater}
use Rattle.krates_cm.specs.Document.{Text, text_view}
use Rattle.krates_cm.proofs.CopyLemmas.{same_list}
use Rattle.krates_cargo.specs.Command.{variables_view}

-- an entry, as the clauses see it
abbrev texts : String Global × String Global → Text × Text
texts e = (text_view e.0, text_view e.1)

map-match : {A B : Type 0} (f : A → B) (o : Ordering) (xs ys zs : List A) → map f (match_ordering o xs ys zs) ≡ match_ordering o (map f xs) (map f ys) (map f zs)
map-match f Less xs ys zs = refl
map-match f Equal xs ys zs = refl
map-match f Greater xs ys zs = refl

-- inserting a variable into the map inserts it into what the clauses see
pub seen_insert : (es : List (String Global × String Global)) (name value : String Global)
    → map texts (insert_entry string_cmp es name value) ≡ insert_entry (slice_cmp nat_cmp) (map texts es) (text_view name) (text_view value)
seen_insert [] name value = refl
seen_insert (e ∷ es) name value =
    map-match texts (string_cmp name e.0) _ _ _
    ∙ ap (λ rest. match_ordering (string_cmp name e.0) (texts (name, value) ∷ texts e ∷ map texts es) (texts (e.0, value) ∷ map texts es) (texts e ∷ rest)) (seen_insert es name value)

-- ---- copies
abbrev IsSameText : String Global → String Global → Type 0
IsSameText s t = text_view t ≡ text_view s

abbrev EntryCopied : String Global × String Global → String Global × String Global → Type 0
EntryCopied e f = IsSameText e.0 f.0 × IsSameText e.1 f.1

-- a copy of the variables has the same view
pub same_variables : (m n : BTreeMap (String Global) (String Global)) → IsClone IsSameText IsSameText m n → variables_view n ≡ variables_view m
same_variables m n h = same_list EntryCopied texts (λ e f same. λ i. (same.0 i, same.1 i)) m.entries n.entries h
