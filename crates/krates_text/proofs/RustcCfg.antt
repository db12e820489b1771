-- Lemmas of what rustc says of a target.
use Rattle.std.proofs.Common.{◌≡◌, ◌∙◌, ℕ, ◌∷◌, ◌++◌, [], List, Option, Some, None, Bor, codes, refl, sym, ap}
use Rattle.std.specs.Option.{MatchOption}
use Rattle.std.specs.Str.Pattern.{FindsTextSuffix, StripsSuffix}
use Rattle.std.proofs.lemmas.List.{append_cancel_left}
use Rattle.krates_text.specs.RustcCfg.{AreValuesIn, no_line, gives, other, GivesNone, GivesValue, last_or_empty}

-- what comes before the last quote is the value, and without that quote there is none
pub value_before_quote : (key line behind quoted : List ℕ) (r : Option (Bor (List ℕ))) → line ≡ key ++ behind → behind ≡ codes "=\"" ++ quoted
    → MatchOption r (FindsTextSuffix (codes "\"") quoted None) (λ x. StripsSuffix (FindsTextSuffix (codes "\"")) quoted x.now)
    → MatchOption r (GivesNone key line) (λ value. GivesValue key value.now line)
value_before_quote key line behind quoted None front equals none = λ value e.
    let same : codes "=\"" ++ quoted ≡ codes "=\"" ++ (value ++ codes "\"") = append_cancel_left key _ _ (ap (λ l. key ++ l) (sym equals) ∙ sym front ∙ e) in
    none value cc
value_before_quote key line behind quoted (Some x) front equals found =
    front ∙ ap (λ l. key ++ l) (equals ∙ ap (λ l. codes "=\"" ++ l) (found.1.1 ∙ ap (λ l. l ++ codes "\"") (sym found.2)))

-- one more line gives a value
pub one_more_value : (key value line : List ℕ) (among values : List (List ℕ)) → GivesValue key value line → AreValuesIn key among values → AreValuesIn key (among ++ line ∷ []) (values ++ value ∷ [])
one_more_value key value line _ _ e no_line = gives e no_line
one_more_value key value line _ _ e (gives here more) = gives here (one_more_value key value line _ _ e more)
one_more_value key value line _ _ e (other here more) = other here (one_more_value key value line _ _ e more)

-- one more line says nothing
pub one_more_other : (key line : List ℕ) (among values : List (List ℕ)) → GivesNone key line → AreValuesIn key among values → AreValuesIn key (among ++ line ∷ []) values
one_more_other key line _ _ e no_line = other e no_line
one_more_other key line _ _ e (gives here more) = gives here (one_more_other key line _ _ e more)
one_more_other key line _ _ e (other here more) = other here (one_more_other key line _ _ e more)

-- what is taken from the end is the last
pub last_taken : (values : List (List ℕ)) (value : List ℕ) → last_or_empty (values ++ value ∷ []) ≡ value
last_taken [] value = refl
last_taken (first ∷ []) value = refl
last_taken (first ∷ next ∷ values) value = last_taken (next ∷ values) value
