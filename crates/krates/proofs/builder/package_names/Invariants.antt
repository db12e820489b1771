use Rattle.std.proofs.Common.{◌≡◌, take}
use Rattle.std.specs.List.{list_any}
use Rattle.std.specs.Str.{bytes_eq}
use Rattle.std.specs.BTreeSet.{contains_text}
use Rattle.krates_cm.specs.Document.{Text, text_view}
use Rattle.krates.proofs.builder.package_names.Given as goal

abbrev pub invariant-loop-pkg : goal.invariant-loop-pkg
invariant-loop-pkg l = (t : Text) → contains_text l.names t ≡ list_any (λ p. bytes_eq (text_view p.name) t) (take l.pkg-index l.packages)
