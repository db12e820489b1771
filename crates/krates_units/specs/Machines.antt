-- A machine that builds, or that a build is for, by what `rustc --print cfg` says of it, and where the target text of a
-- dependency holds (Cargo Book, "Platform specific dependencies").
use Rattle.std.specs.Prelude.{◌≡◌, List, Option, MatchOption, Contains, true, ⊤, map, string_bytes}
use Rattle.krates_cm.specs.Document.{Text}
use Rattle.krates_text.specs.CfgGrammar.{Tree, IsExpression, IsNoExpression}
use Rattle.krates_text.specs.CfgHolding.{value_among, pair_bytes}
use Rattle.krates_units.specs.declared.machine.Machine.{Machine}

-- a machine: its triple, and the words and the pairs of a key and its string that hold there
pub record MachineModel : Type 0 where
  pub triple : Text
  pub words : List Text
  pub pairs : List (Text × Text)

-- a machine, as clauses see it
abbrev pub machine_view : Machine → MachineModel
machine_view m = record {
  triple = string_bytes m.triple;
  words = map string_bytes m.words.items;
  pairs = map pair_bytes m.pairs.items;
}

-- the text holds at the machine: as an expression that is true there, or else as its triple
pub record HoldsAt (text : Text) (m : MachineModel) : Type 0 where
  pub expression : (p : Tree) → IsExpression text p → value_among m.words m.pairs p ≡ true
  pub triple : IsNoExpression text → text ≡ m.triple

-- the text holds at one of these machines
abbrev pub HoldsOnSome : List MachineModel → Text → Type 0
HoldsOnSome machines text = (m : MachineModel) × Contains machines m × HoldsAt text m

-- a dependency passes on some of these machines: without a target text on any
abbrev pub PassesOn : List MachineModel → Option Text → Type 0
PassesOn machines cfg = MatchOption cfg ⊤ (HoldsOnSome machines)
