-- What tests of two conditions and of texts say.
use Rattle.std.proofs.Common.{◌≡◌, Bool, true, false, not, ◌&&◌, IsTrue, bytes_eq, refl}
use Rattle.std.specs.Cmp.Lexicographic.{bytes_decides}
use Rattle.krates_cm.specs.Document.{Text}

pub both_parts : (a b : Bool) → IsTrue (a && b) → IsTrue a × IsTrue b
both_parts true b h = (refl, h)
both_parts false b h = absurd cc

pub both_true : (a b : Bool) → IsTrue a → IsTrue b → IsTrue (a && b)
both_true true b h k = k
both_true false b h k = absurd cc

pub not_true : (a : Bool) → IsTrue (not a) → a ≡ false
not_true true h = absurd cc
not_true false h = refl

pub is_not : (a : Bool) → a ≡ false → IsTrue (not a)
is_not true h = absurd cc
is_not false h = refl

pub untrue : (b : Bool) → (b ≡ true → ⊥) → b ≡ false
untrue true other = absurd (other refl)
untrue false other = refl

pub same_text : (a b : Text) → IsTrue (bytes_eq a b) → a ≡ b
same_text a b h = (bytes_decides a b).0 h

pub text_is : (a b : Text) → a ≡ b → IsTrue (bytes_eq a b)
text_is a b h = (bytes_decides a b).1 h
