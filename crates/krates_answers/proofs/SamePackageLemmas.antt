-- Places below two roots.
use Rattle.std.proofs.Common.{◌≡◌, ◌∙◌, None, Some, ap, option_map, sym}
use Rattle.std.proofs.lemmas.List.{append_cancel_left}
use Rattle.std.proofs.lemmas.Option.{none-some, same_Some}
use Rattle.krates_cm.specs.Document.{Text, source_view, text_view}
use Rattle.krates_cm.specs.declared.package.Package.{Package}
use Rattle.krates_answers.specs.SamePackage.{HaveSameHome, IsBelow, IsSamePlace, below, elsewhere, of_machine, of_source}

-- there is one rest of a path below a root
same_rest : (root path rest other : Text) → IsBelow root path rest → IsBelow root path other → rest ≡ other
same_rest root path rest other a b = append_cancel_left root rest other (sym a.is ∙ b.is)

pub both_below : (root path other_root other rest other_rest : Text) → IsBelow root path rest → IsBelow other_root other other_rest → IsSamePlace root path other_root other → rest ≡ other_rest
both_below root path other_root other rest other_rest a b (below r x y) = same_rest root path rest r a x ∙ sym (same_rest other_root other other_rest r b y)
both_below root path other_root other rest other_rest a b (elsewhere x y e) = absurd (x rest a)

-- ---- homes

-- the sources of two packages that have one home
pub source_home : {root other_root : Text} {pkg other : Package} {s t : Text} → HaveSameHome root pkg other_root other
    → option_map source_view pkg.source ≡ Some s → option_map source_view other.source ≡ Some t → s ≡ t
source_home {s = s} {t = t} (of_source source one other) a b = same_Some s source (sym a ∙ one) ∙ sym (same_Some t source (sym b ∙ other))
source_home {s = s} (of_machine one other place) a b = absurd (none-some s (sym (ap (option_map source_view) one) ∙ a))

-- the places of two packages that have one home, and no source
pub machine_home : {root other_root : Text} {pkg other : Package} → HaveSameHome root pkg other_root other → pkg.source ≡ None
    → IsSamePlace root (text_view pkg.manifest_path) other_root (text_view other.manifest_path)
machine_home (of_source source one other) none = absurd (none-some source (sym (ap (option_map source_view) none) ∙ one))
machine_home (of_machine one other place) none = place
