-- A builder after its setters.
use Rattle.std.specs.Prelude.{◌≡◌, Result}
use Rattle.std.specs.Borrow.{RestsIfErr, RattleType, MutBor, Fml}
use Rattle.std.specs.declared.alloc.AllocError.{AllocError}
use Rattle.krates.specs.BuilderModel.{BuilderModel}
use Rattle.krates.specs.contracts.builder.Builder.{the_row}

-- after a refusal the builder is as it was
abbrev pub RestsUnchanged : (S : RattleType) → MutBor (BuilderModel S.Denot) → Result (MutBor (BuilderModel S.Denot)) AllocError → Fml
RestsUnchanged S b r = RestsIfErr (the_row S) b (λ c. c.ghost_name) r (λ new. new ≡ b.now)
