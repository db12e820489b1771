-- What one answer about a workspace has, and another lacks.
use Rattle.std.specs.BTreeMap.{BTreeMap}
use Rattle.std.specs.Borrow.{Bor}
use Rattle.std.specs.Global.{Vec}
use Rattle.std.specs.Prelude.{◌≡◌, List, Contains, map}
use Rattle.krates_cm.specs.Document.{Text}
use Rattle.krates_answers.specs.Grouped.{AreGroups, groups_in}

-- one of these means the same
pub record HasSame {T : Type 0} (MeansSame : Text → T → Text → T → Type 0) (root : Text) (part : T) (other_root : Text) (others : List T) : Type 0 where
  pub other : T
  pub among : Contains others other
  pub same : MeansSame root part other_root other

-- none of these does
abbrev pub IsLackedBy : {T : Type 0} → (Text → T → Text → T → Type 0) → Text → Text → List T → T → Type 0
IsLackedBy MeansSame root other_root others part = HasSame MeansSame root part other_root others → ⊥

-- ---- steps

-- a part under its name
abbrev pub with_name : {T : Type 0} → (T → Text) → T → Text × T
with_name named part = (named part, part)

-- the map has exactly these parts, in their order, under their names
pub record HoldsNamed {T : Type 0} (named : T → Text) (parts : List T) (m : BTreeMap (Bor Text) (Vec (Bor T))) : Type 0 where
  pub borrowed : List (Text × Bor T)
  pub groups : AreGroups borrowed (groups_in m)
  pub seen : map (λ p. (p.0, p.1.now)) borrowed ≡ map (with_name named) parts
