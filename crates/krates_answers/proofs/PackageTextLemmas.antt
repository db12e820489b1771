-- The texts by which packages are told.
use Rattle.std.proofs.Common.{◌≡◌, ◌≤◌, ◌<◌, ◌+◌, ◌++◌, ◌∷◌, ◌∙◌, ℕ, List, [], All, Bor, Contains, Err, IfOk, MatchResult, Ok, Result, ap, arith, get_or, length, map, sym, subst, take}
use Rattle.std.proofs.lemmas.List.{map-append}
use Rattle.std.proofs.lemmas.List.Elements.{All-push}
use Rattle.std.specs.List.{AllZip}
use Rattle.krates_cm.specs.Document.{Text, id_view}
use Rattle.krates_cm.specs.declared.package.Package.{Package}
use Rattle.krates_rules.proofs.Members.{contains_of, member_map, member_of}
use Rattle.krates_answers.specs.PackageText.{IsNamesake, IsTextAmong, by_id, by_name, named}
use Rattle.krates_answers.proofs.TakenLemmas.{Counted, one_taken}

-- of a package with a namesake its id, of any other its name and version
pub told_by_id : {T E : Type 0} (bytes : T → Text) (told : Result T E) (Q : E → Type 0) (all : List Package) (pkg : Package) (count : ℕ) → Counted (IsNamesake pkg) all count → 1 < count
    → MatchResult told (λ t. bytes t ≡ id_view pkg.id) Q → IfOk told (λ t. IsTextAmong all pkg (bytes t))
told_by_id bytes (Ok t) Q all pkg count (those, are, same) several is = by_id those are (omega (arith, same, several)) is
told_by_id bytes (Err e) Q all pkg count counted several is = tt

pub told_by_name : {T E : Type 0} (bytes : T → Text) (told : Result T E) (all : List Package) (pkg : Package) (count : ℕ) → Counted (IsNamesake pkg) all count → count ≤ 1
    → IfOk told (λ t. bytes t ≡ named pkg) → IfOk told (λ t. IsTextAmong all pkg (bytes t))
told_by_name bytes (Ok t) all pkg count (those, are, same) alone is = by_name those are (omega (arith, same, alone)) is
told_by_name bytes (Err e) all pkg count counted alone is = tt

-- one more of two lists
zip_more : {A B : Type 0} (R : A → B → Type 0) (xs : List A) (ys : List B) (x : A) (y : B) → AllZip R xs ys → R x y → AllZip R (xs ++ x ∷ []) (ys ++ y ∷ [])
zip_more R [] [] x y each has = (has, tt)
zip_more R [] (b ∷ ys) x y each has = absurd each
zip_more R (a ∷ xs) [] x y each has = absurd each
zip_more R (a ∷ xs) (b ∷ ys) x y each has = (each.0, zip_more R xs ys x y each.1 has)

-- a text more, of the next package
pub zip_taken : {A B C D : Type 0} (R : A → D → Type 0) (now : B → A) (xs : List B) (i : ℕ) (x : B) (bytes : C → D) (old new : List C) (y : C) → i < length xs → x ≡ get_or xs i x
    → AllZip R (map now (take i xs)) (map bytes old) → R (now x) (bytes y) → new ≡ old ++ y ∷ [] → AllZip R (map now (take (i + 1) xs)) (map bytes new)
zip_taken R now xs i x bytes old new y lt is before has added =
    subst (λ us. AllZip R us (map bytes new)) (sym (ap (map now) (one_taken xs i x lt is) ∙ map-append now (take i xs) (x ∷ [])))
    (subst (AllZip R (map now (take i xs) ++ now x ∷ [])) (sym (ap (map bytes) added ∙ map-append bytes old (y ∷ []))) (zip_more R (map now (take i xs)) (map bytes old) (now x) (bytes y) before has))

-- a text more, of one of the packages
pub all_pushed : {C D : Type 0} (P : D → Type 0) (bytes : C → D) (old new : List C) (y : C) → All P (map bytes old) → P (bytes y) → new ≡ old ++ y ∷ [] → All P (map bytes new)
all_pushed P bytes old new y before has added =
    subst (All P) (sym (ap (map bytes) added ∙ map-append bytes old (y ∷ []))) (All-push P (map bytes old) (bytes y) before has)

pub named_among : (xs : List (Bor Package)) (i : ℕ) (x : Bor Package) (t : Text) → i < length xs → x ≡ get_or xs i x → t ≡ named x.now
    → Contains (map named (map (λ (pkg : Bor Package). pkg.now) xs)) t
named_among xs i x t lt is told =
    let now = λ (pkg : Bor Package). pkg.now in
    let among = member_map named (map now xs) x.now (member_map now xs x (member_of xs x (i, lt, sym is))) in
    subst (Contains (map named (map now xs))) (sym told) (contains_of (map named (map now xs)) (named x.now) among)
