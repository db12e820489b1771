-- The crates of the lines below a parent, where lines are joined, written or made.
use Rattle.std.proofs.Common.{◌≡◌, ℕ, Bool, true, false, cond, List, [], ◌∷◌, ◌++◌, map, filter, nat_eq, Option, Contains, append_assoc, refl, sym, ap, ◌∙◌, subst}
use Rattle.std.proofs.lemmas.List.{map-append}
use Rattle.std.proofs.lemmas.List.Elements.{filter-append}
use Rattle.std.specs.Option.{option_eq}
use Rattle.krates_rules.proofs.Members.{contains_of, kept_of, mapped_of, member_map, member_of}
use Rattle.krates_answers.specs.Tree.{crates_below, crates_in}
use Rattle.krates_answers.specs.declared.tree.TreeLine.{TreeLine}

-- whether the line has this parent
abbrev stands : Option ℕ → TreeLine → Bool
stands parent line = option_eq nat_eq line.parent parent

pub crates_below-append : (o : Option ℕ) (xs ys : List TreeLine) → crates_below o (xs ++ ys) ≡ crates_below o xs ++ crates_below o ys
crates_below-append o xs ys =
    ap crates_in (filter-append (stands o) xs ys) ∙ map-append (λ (line : TreeLine). line.krate) (filter (stands o) xs) (filter (stands o) ys)

-- ---- a line that is written

-- the line, opened or not
abbrev pub marked : TreeLine → Bool → TreeLine
marked line b = record line { is_opened = b }

same_first : (line : TreeLine) (b : Bool) (rest : List TreeLine) (t : Bool) → crates_in (cond t (marked line b ∷ rest) rest) ≡ crates_in (cond t (line ∷ rest) rest)
same_first line b rest true = refl
same_first line b rest false = refl

-- the next line is written: together with those that are left there are the same lines
pub crates_below-moved : (o : Option ℕ) (lines : List TreeLine) (line : TreeLine) (b : Bool) (rest : List TreeLine)
    → crates_below o (lines ++ marked line b ∷ []) ++ crates_below o rest ≡ crates_below o lines ++ crates_below o (line ∷ rest)
crates_below-moved o lines line b rest =
    sym (crates_below-append o (lines ++ marked line b ∷ []) rest) ∙ ap (crates_below o) (append_assoc lines (marked line b ∷ []) rest)
    ∙ crates_below-append o lines (marked line b ∷ rest)
    ∙ ap (λ (cs : List ℕ). crates_below o lines ++ cs) (same_first line b (filter (stands o) rest) (stands o line))

-- ---- lines that are made of crates, with one parent

pub crates_below-all : (o : Option ℕ) (f : ℕ → TreeLine) → ((c : ℕ) → option_eq nat_eq (f c).parent o ≡ true) → ((c : ℕ) → (f c).krate ≡ c) → (cs : List ℕ) → crates_below o (map f cs) ≡ cs
crates_below-all o f here is [] = refl
crates_below-all o f here is (c ∷ cs) =
    let rest = filter (stands o) (map f cs) in
    ap (λ (t : Bool). crates_in (cond t (f c ∷ rest) rest)) (here c) ∙ ap (λ (n : ℕ). n ∷ crates_in rest) (is c) ∙ ap (λ (ns : List ℕ). c ∷ ns) (crates_below-all o f here is cs)

pub crates_below-none : (o : Option ℕ) (f : ℕ → TreeLine) → ((c : ℕ) → option_eq nat_eq (f c).parent o ≡ false) → (cs : List ℕ) → crates_below o (map f cs) ≡ []
crates_below-none o f other [] = refl
crates_below-none o f other (c ∷ cs) =
    let rest = filter (stands o) (map f cs) in
    ap (λ (t : Bool). crates_in (cond t (f c ∷ rest) rest)) (other c) ∙ crates_below-none o f other cs

-- ---- a crate below a parent has a line

pub crates_below-within : (o : Option ℕ) (lines : List TreeLine) (n : ℕ) → Contains (crates_below o lines) n → Contains (crates_in lines) n
crates_below-within o lines n c =
    let krate : TreeLine → ℕ = λ line. line.krate in
    let found = mapped_of krate (filter (stands o) lines) n (member_of (crates_below o lines) n c) in
    let line = kept_of (stands o) lines found.from found.member in
    subst (Contains (crates_in lines)) found.is (contains_of (crates_in lines) found.from.krate (member_map krate lines found.from line.0))
