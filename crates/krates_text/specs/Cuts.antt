-- Texts that are cut at a byte: the parts before and after it.
use Rattle.std.specs.Prelude.{◌≡◌, ◌≢◌, ℕ, List, [], ◌∷◌, ◌++◌, Bool, Option, MatchOption}
use Rattle.std.specs.Bool.{MatchBool}
use Rattle.std.specs.Borrow.{Bor}
use Rattle.std.specs.List.{AllByRecursion}

-- the byte c is not in the text
abbrev pub Lacks : ℕ → List ℕ → Type 0
Lacks c t = AllByRecursion (λ b. b ≢ c) t

-- the byte c is in the text
abbrev pub Has : ℕ → List ℕ → Type 0
Has c t = Lacks c t → ⊥

-- the text is x, c and y, and this is its first c
pub record FirstCut (c : ℕ) (t x y : List ℕ) : Type 0 where
  pub is : t ≡ x ++ c ∷ y
  pub lacks : Lacks c x

-- the text is x, c and y, and this is its last c
pub record LastCut (c : ℕ) (t x y : List ℕ) : Type 0 where
  pub is : t ≡ x ++ c ∷ y
  pub lacks : Lacks c y

-- the text ends with these bytes
pub record EndsWith (t end : List ℕ) : Type 0 where
  pub front : List ℕ
  pub is : t ≡ front ++ end

-- r says whether the text has the byte
abbrev pub TellsHas : ℕ → List ℕ → Bool → Type 0
TellsHas c t r = MatchBool r (Has c t) (Lacks c t)

-- the text, cut at its first c, where it has one
abbrev pub CutsFirst : ℕ → List ℕ → Option (Bor (List ℕ) × Bor (List ℕ)) → Type 0
CutsFirst c t r = MatchOption r (Lacks c t) (λ p. FirstCut c t p.0.now p.1.now)

-- the text, cut at its last c, where it has one
abbrev pub CutsLast : ℕ → List ℕ → Option (Bor (List ℕ) × Bor (List ℕ)) → Type 0
CutsLast c t r = MatchOption r (Lacks c t) (λ p. LastCut c t p.0.now p.1.now)

-- what follows the c that the text begins with
abbrev pub FollowsFront : ℕ → List ℕ → Option (Bor (List ℕ)) → Type 0
FollowsFront c t r = MatchOption r ((rest : List ℕ) → t ≢ c ∷ rest) (λ x. t ≡ c ∷ x.now)

-- what comes before the c that the text ends with
abbrev pub ComesBeforeEnd : ℕ → List ℕ → Option (Bor (List ℕ)) → Type 0
ComesBeforeEnd c t r = MatchOption r ((front : List ℕ) → t ≢ front ++ c ∷ []) (λ x. t ≡ x.now ++ c ∷ [])
