-- What a call that chooses features says, carried over to another result with the same refusal.
use Rattle.std.proofs.Common.{◌≡◌, sym, ap, subst}
use Rattle.std.specs.Prelude.{◌↔◌, Result, Ok, Err}
use Rattle.krates_cm.specs.declared.error.Error.{Error}
use Rattle.krates_cm.specs.declared.error.Error.TheVariants as errors
use Rattle.krates_cargo.specs.Command.{CommandModel}
use Rattle.krates_cargo.specs.Setters.{IsChosen, IsNotChosen}
use Rattle.krates_cargo.specs.declared.command.Features.{Features}

abbrev IsRefused : {A : Type 0} → Result A Error → Type 0
IsRefused (Ok x) = ⊥
IsRefused (Err e) = Unit {0}

abbrev error_or : {A : Type 0} → Error → Result A Error → Error
error_or other (Ok x) = other
error_or other (Err e) = e

abbrev done : {A : Type 0} → A → Result A Error
done x = Ok x

abbrev refused : (A : Type 0) → Error → Result A Error
refused A e = Err e

not_refused : {A : Type 0} (x : A) (e : Error) → done x ≡ refused A e → ⊥
not_refused x e same = subst IsRefused (sym same) tt

-- a success
pub once_of_ok : {A : Type 0} (c : CommandModel) (features : Features) (t : Unit {0}) → (IsChosen c features → done t ≡ refused (Unit {0}) errors.FeaturesTwice)
    → (x : A) → done x ≡ refused A errors.FeaturesTwice ↔ IsChosen c features
once_of_ok c features t once x = ((λ same. absurd (not_refused x errors.FeaturesTwice same)), (λ is. absurd (not_refused t errors.FeaturesTwice (once is))))

-- a refusal
pub once_of_err : (A : Type 0) (c : CommandModel) (features : Features) (e : Error) → IsNotChosen c features e
    → (IsChosen c features → refused (Unit {0}) e ≡ refused (Unit {0}) errors.FeaturesTwice) → refused A e ≡ refused A errors.FeaturesTwice ↔ IsChosen c features
once_of_err A c features e is_refused once =
    ((λ same. subst (IsNotChosen c features) (ap (error_or errors.FeaturesTwice) same) is_refused), (λ is. ap (refused A) (ap (error_or errors.FeaturesTwice) (once is))))
