-- When two machines are the same.
use Rattle.std.proofs.Common.{◌≡◌, ◌∙◌, ◌↔◌, ◌&&◌, Bool, true, IsTrue, List, [], ◌∷◌, String, Global, string_bytes, bytes_eq, map, refl, sym, ap}
use Rattle.std.proofs.lemmas.Bool.{and_from, and_parts}
use Rattle.std.proofs.lemmas.Slice.Eq.{bytes_eq-Decides}
use Rattle.std.specs.Bool.{Decides}
use Rattle.std.specs.Cmp.Lexicographic.{pointwise}
use Rattle.std.specs.String.{string_eq}
use Rattle.krates_cm.specs.Document.{Text}
use Rattle.krates_text.specs.CfgHolding.{pair_bytes}
use Rattle.krates_units.specs.Machines.{MachineModel, machine_view}
use Rattle.krates_units.specs.declared.machine.Machine.{Machine}

-- a test of each two elements decides whether the views are the same
mapped : {A B : Type 0} (E : A → A → Bool) (f : A → B) → ((x y : A) → Decides (E x y) (f x ≡ f y)) → (xs ys : List A) → Decides (pointwise E xs ys) (map f xs ≡ map f ys)
mapped E f d [] [] = (λ t. refl, λ e. refl)
mapped E f d [] (y ∷ ys) = (λ t. absurd cc, λ e. absurd cc)
mapped E f d (x ∷ xs) [] = (λ t. absurd cc, λ e. absurd cc)
mapped E f d (x ∷ xs) (y ∷ ys) = (
  λ t. (let p = and_parts _ _ t in let a = (d x y).0 p.0 in let b = (mapped E f d xs ys).0 p.1 in cc),
  λ e. (let a : f x ≡ f y = cc in let b : map f xs ≡ map f ys = cc in and_from _ _ ((d x y).1 a) ((mapped E f d xs ys).1 b)),
)

text_told : (s t : String Global) → Decides (string_eq s t) (string_bytes s ≡ string_bytes t)
text_told s t = bytes_eq-Decides (string_bytes s) (string_bytes t)

abbrev pair_eq : String Global × String Global → String Global × String Global → Bool
pair_eq p q = string_eq p.0 q.0 && string_eq p.1 q.1

pair_told : (p q : String Global × String Global) → Decides (pair_eq p q) (pair_bytes p ≡ pair_bytes q)
pair_told p q = (
  λ t. (let w = and_parts _ _ t in let a = (text_told p.0 q.0).0 w.0 in let b = (text_told p.1 q.1).0 w.1 in cc),
  λ e. and_from _ _ ((text_told p.0 q.0).1 (ap (λ (x : Text × Text). x.0) e)) ((text_told p.1 q.1).1 (ap (λ (x : Text × Text). x.1) e)),
)

model : Text → List Text → List (Text × Text) → MachineModel
model triple words pairs = record { triple = triple; words = words; pairs = pairs }

pub same_told : (m n : Machine) (t w p b : Bool) → t ≡ string_eq m.triple n.triple → w ≡ pointwise string_eq m.words.items n.words.items → p ≡ pointwise pair_eq m.pairs.items n.pairs.items → b ≡ (t && w && p)
    → IsTrue b ↔ (machine_view m ≡ machine_view n)
unfolding model
same_told m n t w p b triple words pairs is = (
  λ yes. (
      let both = and_parts _ _ (sym is ∙ yes) in
      let more = and_parts _ _ both.0 in
      let a = (text_told m.triple n.triple).0 (sym triple ∙ more.0) in
      let b = (mapped string_eq string_bytes text_told m.words.items n.words.items).0 (sym words ∙ more.1) in
      let c = (mapped pair_eq pair_bytes pair_told m.pairs.items n.pairs.items).0 (sym pairs ∙ both.1) in
      let e : model (string_bytes m.triple) (map string_bytes m.words.items) (map pair_bytes m.pairs.items) ≡ model (string_bytes n.triple) (map string_bytes n.words.items) (map pair_bytes n.pairs.items) = rw (a, b, c) refl in e),
  λ e. is ∙ and_from _ _ (and_from _ _ (triple ∙ (text_told m.triple n.triple).1 (ap (λ (x : MachineModel). x.triple) e))
      (words ∙ (mapped string_eq string_bytes text_told m.words.items n.words.items).1 (ap (λ (x : MachineModel). x.words) e)))
      (pairs ∙ (mapped pair_eq pair_bytes pair_told m.pairs.items n.pairs.items).1 (ap (λ (x : MachineModel). x.pairs) e)),
)
