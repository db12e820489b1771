-- Why a run gives no document: because its output doesn't.
use Rattle.std.proofs.Common.{Bool, Result, Ok, Err, IfErr}
use Rattle.krates_cm.specs.Document.{Text}
use Rattle.krates_cm.specs.declared.error.Error.{Error}
use Rattle.krates_cm.specs.declared.error.Error.TheVariants as errors
use Rattle.krates_cargo.specs.Output.{IsNoAnswer}
use Rattle.krates_cargo.specs.Running.{IsUnrun}

module _ (success : Bool) (stdout stderr : Text) where
  unread : (e : Error) → IsNoAnswer success stdout stderr e → IsUnrun e
  unread (errors.CargoMetadata said) h = (success, stdout, stderr, h)
  unread (errors.Io cause) h = absurd h
  unread (errors.Utf8 cause) h = (success, stdout, stderr, h)
  unread (errors.ErrUtf8 cause) h = (success, stdout, stderr, h)
  unread (errors.Json cause) h = (success, stdout, stderr, h)
  unread errors.NoJson h = (success, stdout, stderr, h)
  unread (errors.Value cause) h = (success, stdout, stderr, h)
  unread errors.FeaturesTwice h = absurd h
  unread errors.NoManifestParent h = absurd h
  unread errors.Memory h = (success, stdout, stderr, h)

  pub unread_of : {A : Type 0} (r : Result A Error) → IfErr r (IsNoAnswer success stdout stderr) → IfErr r IsUnrun
  unread_of (Ok x) h = h
  unread_of (Err e) h = unread e h
