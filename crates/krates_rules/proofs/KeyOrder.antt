-- The orders of the parts of keys: two compare as equal exactly where they are the same.
use Rattle.std.proofs.Common.{◌≡◌, ◌↔◌, Option, Some, None, Ordering, Less, Equal, Greater, String, option_map, refl, ap, subst}
use Rattle.std.proofs.lemmas.Cmp.{tied_itself, nat_list_cmp_total}
use Rattle.std.proofs.lemmas.Map.Lookups.{exact_bytes}
use Rattle.std.proofs.lemmas.Option.{same_Some}
use Rattle.std.specs.Cmp.Lexicographic.{slice_cmp}
use Rattle.std.specs.Global.{Global}
use Rattle.std.specs.Option.{option_cmp}
use Rattle.std.specs.Ordering.{nat_cmp, ordering_then}
use Rattle.std.specs.String.{string_cmp}
use Rattle.krates_cm.specs.Document.{Text, text_view}
use Rattle.krates_cm.specs.declared.dependency.DependencyKind.{DependencyKind}
use Rattle.krates_cm.specs.declared.dependency.DependencyKind.TheVariants as written
use Rattle.krates_rules.specs.Kind.{kind_of, written_of}
use Rattle.krates_rules.specs.contracts.kind.DepKindOrd.TheImpl as kind_order
use Rattle.krates_rules.specs.declared.kind.DepKind.{DepKind}
use Rattle.krates_rules.specs.declared.kind.DepKind.TheVariants as kinds

-- both parts decide
pub then_equal : (a b : Ordering) → ordering_then a b ≡ Equal → (a ≡ Equal) × (b ≡ Equal)
then_equal Less b h = absurd cc
then_equal Equal b h = (refl, h)
then_equal Greater b h = absurd cc

pub equal_then : (a b : Ordering) → a ≡ Equal → b ≡ Equal → ordering_then a b ≡ Equal
equal_then Less b x y = absurd cc
equal_then Equal b x y = y
equal_then Greater b x y = absurd cc

pub text_tells : (a b : Text) → (slice_cmp nat_cmp a b ≡ Equal) ↔ (a ≡ b)
text_tells a b = (λ h. exact_bytes a b h, λ e. subst (λ (c : Text). slice_cmp nat_cmp a c ≡ Equal) e (tied_itself nat_list_cmp_total a))

pub option_tells : (a b : Option (String Global)) → (option_cmp string_cmp a b ≡ Equal) ↔ (option_map text_view a ≡ option_map text_view b)
option_tells None None = (λ h. refl, λ h. refl)
option_tells None (Some y) = (λ h. absurd cc, λ h. absurd cc)
option_tells (Some x) None = (λ h. absurd cc, λ h. absurd cc)
option_tells (Some x) (Some y) = (
  λ h. ap (λ (t : Text). Some t) ((text_tells (text_view x) (text_view y)).0 h),
  λ h. (text_tells (text_view x) (text_view y)).1 (same_Some (text_view x) (text_view y) h),
)

pub kind_tells : (a b : DepKind) → ((kind_order.ghosts).cmp a b ≡ Equal) ↔ (written_of a ≡ written_of b)
kind_tells kinds.Normal kinds.Normal = (λ h. refl, λ e. refl)
kind_tells kinds.Normal kinds.Build = (λ h. absurd cc, λ e. absurd cc)
kind_tells kinds.Normal kinds.Dev = (λ h. absurd cc, λ e. absurd cc)
kind_tells kinds.Build kinds.Normal = (λ h. absurd cc, λ e. absurd cc)
kind_tells kinds.Build kinds.Build = (λ h. refl, λ e. refl)
kind_tells kinds.Build kinds.Dev = (λ h. absurd cc, λ e. absurd cc)
kind_tells kinds.Dev kinds.Normal = (λ h. absurd cc, λ e. absurd cc)
kind_tells kinds.Dev kinds.Build = (λ h. absurd cc, λ e. absurd cc)
kind_tells kinds.Dev kinds.Dev = (λ h. refl, λ e. refl)

-- the kind that is read of a document is written as it was
pub written_back : (k : DependencyKind) → written_of (kind_of k) ≡ k
written_back written.Normal = refl
written_back written.Development = refl
written_back written.Build = refl
