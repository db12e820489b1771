-- A filter that keeps packages as long as there is memory has those with which it was called.
use Rattle.std.proofs.Common.{◌≡◌, ◌++◌, ◌∙◌, List, [], ◌∷◌, Err, IfOk, IsTrue, Ok, Result, ap, append-nil, append_assoc, subst, sym}
use Rattle.std.specs.Global.{Vec}
use Rattle.std.specs.List.{FoldsTo}
use Rattle.krates_cm.specs.declared.package.Package.{Package}
use Rattle.krates_drawing.specs.declared.edge.Edge.{Edge}
use Rattle.krates_queries.specs.Kept.{KeptCrates}
use Rattle.krates_report.specs.declared.error.ReportError.{ReportError}
use Rattle.krates_report.specs.declared.divided.Divided.{Divided}
use Rattle.krates_report.specs.declared.divided.Others.{Others}

-- one package more, where all could be kept
abbrev pub Keeps : Others → Package → Others → Type 0
Keeps old pkg new = IsTrue new.is_whole → (IsTrue old.is_whole × (new.packages.items ≡ old.packages.items ++ pkg ∷ []))

all_kept : (before : Others) (called : List Package) (after : Others) → FoldsTo Keeps before called after → IsTrue after.is_whole → IsTrue before.is_whole × (after.packages.items ≡ before.packages.items ++ called)
all_kept before [] after same whole =
    (subst (λ (o : Others). IsTrue o.is_whole) (sym same) whole, ap (λ (o : Others). o.packages.items) (sym same) ∙ sym (append-nil before.packages.items))
all_kept before (pkg ∷ called) after (next, step, rest) whole =
    let later = all_kept next called after rest whole in
    let first = step later.0 in
    (first.0, later.1 ∙ ap (λ front. front ++ called) first.1 ∙ append_assoc before.packages.items (pkg ∷ []) called)

pub called_with : (before after : Others) → before.packages.items ≡ [] → IsTrue after.is_whole → (called : List Package) → FoldsTo Keeps before called after → called ≡ after.packages.items
called_with before after empty whole called folds = sym ((all_kept before called after folds whole).1 ∙ ap (λ front. front ++ called) empty)

-- what holds of a graph and of the packages that the filter has holds of a division into them
pub divided_of : (told : Result Divided ReportError) (k : KeptCrates Package Edge) (after : Others) (P : KeptCrates Package Edge → List Package → Type 0) → IfOk told (λ d. d.krates ≡ k)
    → IfOk told (λ d. IsTrue after.is_whole × (d.others ≡ after.packages)) → (IsTrue after.is_whole → P k after.packages.items) → IfOk told (λ d. P d.krates d.others.items)
divided_of (Ok d) k after P same others holds =
    subst (λ (kept : KeptCrates Package Edge). P kept d.others.items) (sym same) (subst (λ (v : Vec Package). P k v.items) (sym others.1) (holds others.0))
divided_of (Err e) k after P same others holds = tt
