-- Variables that are set one after another, in the order of a map.
use Rattle.std.proofs.Common.{◌≡◌, Bool, Less, true, false, cond, List, [], ◌∷◌, Option, Some, None, String, refl, sym, ap, ◌∙◌, map, fold}
use Rattle.std.proofs.lemmas.Bool.{false_from_ne_true}
use Rattle.std.proofs.lemmas.Map.Text.{is_eq-slice_cmp}
use Rattle.std.proofs.lemmas.Slice.Eq.{bytes_eq-Decides}
use Rattle.std.specs.List.{AllByRecursion}
use Rattle.std.specs.List.Sorted.{IsStrictlySortedBy}
use Rattle.std.specs.Map.{keys_of, lookup}
use Rattle.std.specs.Option.{option_map}
use Rattle.std.specs.Ordering.{is_eq}
use Rattle.std.specs.Str.{bytes_eq}
use Rattle.std.specs.String.{string_cmp}
use Rattle.std.specs.declared.alloc.Global.{Global}
use Rattle.krates_cm.specs.Document.{Text, text_view}

abbrev pub Entry : Type 0
Entry = String Global × String Global

abbrev pub entry_view : Entry → Text × Text
entry_view e = (text_view e.0, text_view e.1)

-- what a command says about a name after one more variable is set
abbrev pub said_next : Text → Option (Option Text) → Entry → Option (Option Text)
said_next name said e = cond (bytes_eq (text_view e.0) name) (Some (Some (text_view e.1))) said

-- and after all of these are set, in order
abbrev pub said_after : Text → Option (Option Text) → List Entry → Option (Option Text)
said_after name said es = fold (said_next name) said es

-- what the variables say about the name
abbrev pub said_by : Text → List Entry → Option (Option Text)
said_by name es = option_map Some (lookup (bytes_eq name) (map entry_view es))

-- variables of other names change nothing
kept_after : (name : Text) (said : Option (Option Text)) (es : List Entry) → AllByRecursion (λ e. bytes_eq (text_view e.0) name ≡ false) es → said_after name said es ≡ said
kept_after name said [] others = refl
kept_after name said (e ∷ es) others = ap (λ b. said_after name (cond b (Some (Some (text_view e.1))) said) es) others.0 ∙ kept_after name said es others.1

-- a name that is less than another differs from it
differ : (x y : String Global) → string_cmp x y ≡ Less → text_view x ≡ text_view y → ⊥
differ x y below same = absurd (cc (sym (is_eq-slice_cmp (text_view x) (text_view y)) ∙ ap is_eq below, (bytes_eq-Decides (text_view x) (text_view y)).1 same))

-- no later variable has the name
later_differ : (name : Text) (e : Entry) (es : List Entry) → text_view e.0 ≡ name → AllByRecursion (λ k. string_cmp e.0 k ≡ Less) (keys_of es) → AllByRecursion (λ x. bytes_eq (text_view x.0) name ≡ false) es
later_differ name e [] same below = tt
later_differ name e (x ∷ es) same below = (
  false_from_ne_true (bytes_eq (text_view x.0) name) (λ is. differ e.0 x.0 below.0 (same ∙ sym ((bytes_eq-Decides (text_view x.0) name).0 is))),
  later_differ name e es same below.1,
)

turned : (a b : Text) (t : Bool) → bytes_eq a b ≡ t → bytes_eq b a ≡ t
turned a b true is = (bytes_eq-Decides b a).1 (sym ((bytes_eq-Decides a b).0 is))
turned a b false is = false_from_ne_true (bytes_eq b a) (λ t. absurd (cc (is, (bytes_eq-Decides a b).1 (sym ((bytes_eq-Decides b a).0 t)))))

first_said : (name : Text) (e : Entry) (es : List Entry) (t : Bool) → bytes_eq (text_view e.0) name ≡ t → AllByRecursion (λ k. string_cmp e.0 k ≡ Less) (keys_of es) → said_after name None es ≡ said_by name es
    → said_after name None (e ∷ es) ≡ said_by name (e ∷ es)
first_said name e es true is below rest =
    let v = text_view e.1 in
    ap (λ b. said_after name (cond b (Some (Some v)) None) es) is
    ∙ kept_after name (Some (Some v)) es (later_differ name e es ((bytes_eq-Decides (text_view e.0) name).0 is) below)
    ∙ sym (ap (λ b. option_map Some (cond b (Some v) (lookup (bytes_eq name) (map entry_view es)))) (turned (text_view e.0) name true is))
first_said name e es false is below rest =
    let v = text_view e.1 in
    ap (λ b. said_after name (cond b (Some (Some v)) None) es) is
    ∙ rest
    ∙ sym (ap (λ b. option_map Some (cond b (Some v) (lookup (bytes_eq name) (map entry_view es)))) (turned (text_view e.0) name false is))

-- for all variables, where nothing was said before and each name occurs once
pub said_all : (name : Text) (es : List Entry) → IsStrictlySortedBy string_cmp (keys_of es) → said_after name None es ≡ said_by name es
unfolding IsStrictlySortedBy
said_all name [] sorted = refl
said_all name (e ∷ es) sorted = first_said name e es (bytes_eq (text_view e.0) name) refl sorted.0 (said_all name es sorted.1)
