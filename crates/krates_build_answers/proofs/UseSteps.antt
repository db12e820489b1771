-- The uses of crates, one after another.
use Rattle.std.proofs.Common.{◌≡◌, ◌+◌, ◌<◌, ℕ, List, [], ◌∷◌, ◌++◌, All, get_or, length, map, take, sym, ap, ◌∙◌, subst}
use Rattle.std.proofs.lemmas.List.{map-append, take_more}
use Rattle.std.proofs.lemmas.List.Elements.{All-push}
use Rattle.krates_build_answers.specs.declared.uses.UsedCrate.{UsedCrate}

-- the numbers, with one more
pub numbers_more : (uses grown : List UsedCrate) (u : UsedCrate) (krates : List ℕ) (i d : ℕ) → grown ≡ uses ++ u ∷ [] → i < length krates → u.krate ≡ get_or krates i d
    → map (λ (x : UsedCrate). x.krate) uses ≡ take i krates → map (λ (x : UsedCrate). x.krate) grown ≡ take (i + 1) krates
numbers_more uses grown u krates i d is lt same h =
    let number = λ (x : UsedCrate). x.krate in
    ap (map number) is ∙ map-append number uses (u ∷ []) ∙ ap (λ (ns : List ℕ). ns ++ u.krate ∷ []) h ∙ ap (λ (n : ℕ). take i krates ++ n ∷ []) same ∙ sym (take_more krates i d lt)

-- what holds of each, with one more
pub each_more : (P : UsedCrate → Type 0) (uses grown : List UsedCrate) (u : UsedCrate) → grown ≡ uses ++ u ∷ [] → All P uses → P u → All P grown
each_more P uses grown u is all p = subst (All P) (sym is) (All-push P uses u all p)
