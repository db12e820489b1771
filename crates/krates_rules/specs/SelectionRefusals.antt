-- Why nothing is selected from an admitted document.
use Rattle.std.specs.Prelude.{string_bytes, ⊤}
use Rattle.krates_ids.specs.declared.error.Error.{Error}
use Rattle.krates_ids.specs.declared.error.Error.TheVariants as errors
use Rattle.krates_ids.specs.declared.error.Lost.{Lost}
use Rattle.krates_ids.specs.declared.error.Lost.TheVariants as lost
use Rattle.krates_rules.specs.Derivation.{Derivable}
use Rattle.krates_rules.specs.Facts as facts
use Rattle.krates_rules.specs.Facts.{Id, Cause, LostPackage, LostNode, LostFeature, Undeclared, Crate}
use Rattle.krates_rules.specs.Resolved.{id_of}
use Rattle.krates_rules.specs.Rules.{Questions}

-- what the document lacks
abbrev pub cause_of : Lost → Cause
cause_of (lost.Package kid) = LostPackage (id_of kid)
cause_of (lost.Node kid) = LostNode (id_of kid)
cause_of (lost.Feature kid name) = LostFeature (id_of kid) (string_bytes name)
cause_of (lost.Undeclared krate dep) = Undeclared (id_of krate) (id_of dep)

-- no crate is derivable, and nothing is lost
pub record HasNoRoot (q : Questions) : Type 0 where
  pub no_crate : (i : Id) → Derivable q (Crate i) → ⊥
  pub no_lost : (c : Cause) → Derivable q (facts.Lost c) → ⊥

-- The cause is true; memory may always run out.
abbrev pub SelectionRefusal : Questions → Error → Type 0
SelectionRefusal q (errors.Lost what) = Derivable q (facts.Lost (cause_of what))
SelectionRefusal q errors.NoRootKrates = HasNoRoot q
SelectionRefusal q errors.Memory = ⊤
SelectionRefusal q _ = ⊥
