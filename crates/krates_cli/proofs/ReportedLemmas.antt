-- What the filter that makes a line of each package collects in a run.
use Rattle.std.proofs.Common.{◌≡◌, List, [], ◌∷◌, ◌++◌, true, codes, sym, ap, ◌∙◌, subst, append-nil, append_assoc}
use Rattle.std.specs.List.{FoldsTo}
use Rattle.krates_cm.specs.declared.package.Package.{Package}
use Rattle.krates_cli.specs.Lines.{line, reported_lines}
use Rattle.krates_cli.specs.Reported.{Reports, lines_in, is_whole}
use Rattle.krates_cli.specs.declared.reported.Reported.{Reported}

-- a run that never ran out of memory added the line of every package
pub all_reported : (old : Reported) (packages : List Package) (new : Reported) → FoldsTo Reports old packages new → is_whole new ≡ true
    → (is_whole old ≡ true) × (lines_in new ≡ lines_in old ++ reported_lines packages)
all_reported old [] new ends whole =
    subst (λ r. is_whole r ≡ true → (is_whole old ≡ true) × (lines_in r ≡ lines_in old ++ [])) ends
    (λ same. (same, sym (append-nil (lines_in old)))) whole
all_reported old (pkg ∷ packages) new (middle, step, rest) whole =
    let after = all_reported middle packages new rest whole in
    let first = step after.0 in
    (first.0, after.1 ∙ ap (λ lines. lines ++ reported_lines packages) first.1 ∙ append_assoc (lines_in old) (line (codes "- ") pkg) (reported_lines packages))
