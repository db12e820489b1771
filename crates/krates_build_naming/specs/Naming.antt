-- What is named by words, and what is wrong with words that name nothing.
use Rattle.std.specs.Prelude.{Bool, true, false, ◌≡◌, ◌⊎◌, Option, Some, None, option_and_then, Result, Ok, Err}
use Rattle.krates_build_naming.specs.declared.names.NameFault.{NameFault}

-- What is named, if something is, and each fault that is true of the words.
pub record Naming (A : Type 0) : Type 1 where
  pub value : Option A
  pub IsFault : NameFault → Type 0

-- What a function returned, seen by `view`, is what is named. A refusal comes where nothing is, and is a true fault.
abbrev pub Gives : {X Y : Type 0} → (X → Y) → Result X NameFault → Naming Y → Type 0
Gives view (Ok x) naming = naming.value ≡ Some (view x)
Gives view (Err e) naming = (naming.value ≡ None) × naming.IsFault e

-- ---- how namings are combined

abbrev pub name_of : {A : Type 0} → A → Naming A
name_of x = record { value = Some x; IsFault = λ fault. ⊥ }

abbrev pub refused : {A : Type 0} → NameFault → Naming A
refused wrong = record { value = None; IsFault = λ fault. fault ≡ wrong }

-- what is found, or else this fault
abbrev pub found_or : {A : Type 0} → NameFault → Option A → Naming A
found_or wrong None = refused wrong
found_or wrong (Some x) = name_of x

abbrev pub applied : {A B : Type 0} → Option (A → B) → Option A → Option B
applied None x = None
applied (Some f) None = None
applied (Some f) (Some x) = Some (f x)

-- a function and its argument: both have to be named, and a fault of either is true
infixl 10 ◌<*>◌
abbrev pub ◌<*>◌ : {A B : Type 0} → Naming (A → B) → Naming A → Naming B
f <*> x = record { value = applied f.value x.value; IsFault = λ fault. f.IsFault fault ⊎ x.IsFault fault }

-- a fault of what is named by something, if that is named
abbrev pub later_fault : {A B : Type 0} → Option A → (A → Naming B) → NameFault → Type 0
later_fault None f fault = ⊥
later_fault (Some a) f fault = (f a).IsFault fault

-- what is named by something that is named
abbrev pub then_by : {A B : Type 0} → Naming A → (A → Naming B) → Naming B
then_by x f = record {
  value = option_and_then (λ a. (f a).value) x.value;
  IsFault = λ fault. x.IsFault fault ⊎ later_fault x.value f fault;
}

-- what a word names, where there is one
abbrev pub by_word : {A B : Type 0} → NameFault → (B → Naming A) → Option B → Naming A
by_word missing naming None = refused missing
by_word missing naming (Some word) = naming word

-- the first where the test passes, and otherwise the second
abbrev pub choose : {A : Type 0} → Bool → Naming A → Naming A → Naming A
choose true x y = x
choose false x y = y

-- ---- what namings keep

-- Some fault is true of the words exactly where they name nothing.
pub record IsExact {A : Type 0} (naming : Naming A) : Type 0 where
  pub unnamed : (fault : NameFault) → naming.IsFault fault → naming.value ≡ None
  pub faulty : naming.value ≡ None → (fault : NameFault) × naming.IsFault fault
