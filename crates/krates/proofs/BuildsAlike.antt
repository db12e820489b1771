-- Builds of documents that differ only in order.
use Rattle.std.proofs.Common.{◌≡◌, ◌↔◌, Bool, true, Option, sym, ap, ◌∙◌, subst, inl, inr}
use Rattle.std.proofs.lemmas.Option.{same_Some}
use Rattle.std.specs.Cmp.{IsTotalOrder}
use Rattle.std.specs.List.{list_any}
use Rattle.std.specs.Str.{bytes_eq}
use Rattle.krates_cm.specs.Document.{Text, PackageModel, MetadataModel, metadata_view, text_view}
use Rattle.krates_cm.specs.declared.metadata.Metadata.{Metadata}
use Rattle.krates_cm.specs.declared.package.Package.{Package}
use Rattle.krates_drawing.specs.Alike.{DrawAlike, IsDrawnAlike, IsOutlineThere}
use Rattle.krates_drawing.specs.Outline.{Outline}
use Rattle.krates_ids.specs.Identity.{id_cmp}
use Rattle.krates_ids.specs.declared.error.Error.{Error}
use Rattle.krates_ids.specs.declared.error.Error.TheVariants as errors
use Rattle.krates_ids.specs.declared.index.IndexAnswer.{IndexAnswer}
use Rattle.krates_ids.specs.declared.index.PackageNames.{PackageNames}
use Rattle.krates_rules.specs.Admission.{NoneDoubled}
use Rattle.krates_rules.specs.Facts.{Id, Fact, Crate}
use Rattle.krates_rules.specs.Reordering.{Reorders, ResolveAlike, IsOrderFree}
use Rattle.krates_rules.specs.Setting.{SettingModel}
use Rattle.krates_rules.specs.Resolution.{IsDerived}
use Rattle.krates.specs.Build.{IsResolvable, KeepsCrate, DropsCrate, GraphRefusal, IsRefusedSeeing}
use Rattle.krates.specs.BuildLaws.{BuildAlike, IsBuildOrderFree}
use Rattle.krates_queries.specs.Drawn.{IsOutlineFor}
use Rattle.krates.specs.Indexed.{HasNames, IsSeenBy}
use Rattle.krates.proofs.AdmittedAlike.{turned, resolvable_there}
use Rattle.krates.proofs.CorrectedAlike.{OneCorrection, seen_alike}
use Rattle.krates_drawing.proofs.DivisionLemmas.{ReadsOnce}
use Rattle.krates.proofs.ListedAlike.{same_there, list_alike}
use Rattle.krates_rules.proofs.Members.{member_any, passing_of}
use Rattle.krates.proofs.SeenLemmas.{resolvable_seen}
use Rattle.krates_drawing.proofs.Tests.{bools_same}

-- ---- the names that an index is asked about

name_there : (m n : Metadata) (t : Text) → Reorders (metadata_view m) (metadata_view n) → list_any (λ p. bytes_eq (text_view p.name) t) m.packages.items ≡ true
    → list_any (λ p. bytes_eq (text_view p.name) t) n.packages.items ≡ true
name_there m n t w h =
    let test : Package → Bool = λ p. bytes_eq (text_view p.name) t in
    let x = passing_of test m.packages.items h in
    let y = same_there m n x.from w x.member in
    let name : text_view y.pkg.name ≡ text_view x.from.name = ap (λ (p : PackageModel). p.name) y.same.rest in
    member_any test n.packages.items y.pkg y.member (ap (λ s. bytes_eq s t) name ∙ x.passes)

names_same : (m n : Metadata) → Reorders (metadata_view m) (metadata_view n) → (names : PackageNames) → HasNames m.packages.items names ↔ HasNames n.packages.items names
names_same m n w names =
    let same : (t : Text) → list_any (λ p. bytes_eq (text_view p.name) t) m.packages.items ≡ list_any (λ p. bytes_eq (text_view p.name) t) n.packages.items = λ t.
    bools_same _ _ (name_there m n t w) (name_there n m t (turned (metadata_view m) (metadata_view n) w)) in
    (λ h t. h t ∙ same t, λ h t. h t ∙ sym (same t))

-- ---- refusals

-- an outline for the first document is one for the second, if no id is doubled in that
pub outline_for_there : IsOutlineThere → (p q : MetadataModel) (s : SettingModel) (t : Outline) → Reorders p q → IsResolvable q → IsOutlineFor p s t → IsOutlineFor q s t
outline_for_there law p q s t w r h =
    record { graph = r.graph; has_graph = r.has_graph; holds = law p q w h.graph r.graph h.has_graph r.has_graph r.none_doubled s t h.holds }

-- and both are drawn the same
drawn_same : IsDrawnAlike → (p q : MetadataModel) (s : SettingModel) (t v : Outline) → Reorders p q → IsResolvable q → IsOutlineFor p s t → IsOutlineFor q s v → DrawAlike t v
drawn_same law p q s t v w r h k =
    let none : NoneDoubled q k.graph = subst (NoneDoubled q) (same_Some r.graph k.graph (sym r.has_graph ∙ k.has_graph)) r.none_doubled in
    law p q w h.graph k.graph h.has_graph k.has_graph none s t v h.holds k.holds

too_many_there : IsOutlineThere → (p q : MetadataModel) (s : SettingModel) → Reorders p q → IsResolvable q → GraphRefusal p s errors.TooMany → GraphRefusal q s errors.TooMany
too_many_there law p q s w r h = record { outline = h.outline; is_outline = outline_for_there law p q s h.outline w r h.is_outline; many = h.many }

unbuilt_there : IsOutlineThere → (p q : MetadataModel) (s : SettingModel) → ResolveAlike p q → Reorders p q → IsResolvable q → (e : Error) → GraphRefusal p s e → GraphRefusal q s e
unbuilt_there law p q s w moved r errors.TooMany h = too_many_there law p q s moved r h
unbuilt_there law p q s w moved r errors.Memory h = tt
unbuilt_there law p q s w moved r e h = (w.unselected s e).0 h

pub refused_there : IsOutlineThere → (m n p q : Metadata) (s : SettingModel) → (IsResolvable (metadata_view m) → IsResolvable (metadata_view n) × IsResolvable (metadata_view q)) → ResolveAlike (metadata_view m) (metadata_view n)
    → ResolveAlike (metadata_view p) (metadata_view q) → Reorders (metadata_view p) (metadata_view q) → (e : Error) → IsRefusedSeeing m p s e → IsRefusedSeeing n q s e
refused_there law m n p q s r given w moved e (inl h) = inl ((given.refused e).0 h)
refused_there law m n p q s r given w moved e (inr h) = let both = r h.0 in inr (both.0, unbuilt_there law (metadata_view p) (metadata_view q) s w moved both.1 e h.1)

-- ---- the law

not_kept_alike : (p q : MetadataModel) (s : SettingModel) → ((f : Fact) → IsDerived p s f ↔ IsDerived q s f) → (i : Id) → DropsCrate p s i ↔ DropsCrate q s i
not_kept_alike p q s facts i = (λ none k. none ((facts (Crate i)).1 k), λ none k. none ((facts (Crate i)).0 k))

builds_alike : IsDrawnAlike → IsOutlineThere → IsOrderFree → ReadsOnce → IsTotalOrder id_cmp → (answer : Option IndexAnswer) (m n p q : Metadata) (s : SettingModel) → IsSeenBy answer m p → IsSeenBy answer n q → Reorders (metadata_view m) (metadata_view n) → Reorders (metadata_view p) (metadata_view q) → BuildAlike m n p q s
builds_alike same law free once o answer m n p q s x y given seen =
    let back = turned (metadata_view m) (metadata_view n) given in
    let seen_back = turned (metadata_view p) (metadata_view q) seen in
    let there_given = free (metadata_view m) (metadata_view n) given in
    let back_given = free (metadata_view n) (metadata_view m) back in
    let there_seen = free (metadata_view p) (metadata_view q) seen in
    let back_seen = free (metadata_view q) (metadata_view p) seen_back in
    let facts = there_seen.facts s in
    let there : IsResolvable (metadata_view m) → IsResolvable (metadata_view n) = resolvable_there (metadata_view m) (metadata_view n) given there_given in
    let turned_back : IsResolvable (metadata_view n) → IsResolvable (metadata_view m) = resolvable_there (metadata_view n) (metadata_view m) back back_given in
    record {
      names = names_same m n given;
      facts = facts;
      kept = list_alike once o p q (KeepsCrate (metadata_view p) s) (KeepsCrate (metadata_view q) s) seen (λ i. facts (Crate i));
      reported = list_alike once o p q (DropsCrate (metadata_view p) s) (DropsCrate (metadata_view q) s) seen (not_kept_alike (metadata_view p) (metadata_view q) s facts);
      drawn = λ r t v. drawn_same same (metadata_view p) (metadata_view q) s t v seen (resolvable_seen answer n q y (there r));
      outlines = λ r t. (
        outline_for_there law (metadata_view p) (metadata_view q) s t seen (resolvable_seen answer n q y (there r)),
        outline_for_there law (metadata_view q) (metadata_view p) s t seen_back (resolvable_seen answer m p x r),
      );
      refused = λ e. (
        refused_there law m n p q s (λ r. (there r, resolvable_seen answer n q y (there r))) there_given there_seen seen e,
        refused_there law n m q p s (λ r. (turned_back r, resolvable_seen answer m p x (turned_back r))) back_given back_seen seen_back e,
      );
    }

pub build_order_free : IsDrawnAlike → IsOutlineThere → OneCorrection → ReadsOnce → IsTotalOrder id_cmp → IsOrderFree → IsBuildOrderFree
build_order_free same law one once o free answer m n p q w x y =
    let seen = seen_alike one answer m n p q w x y in
    record {
      reorders = seen;
      resolves = free (metadata_view p) (metadata_view q) seen;
      builds = λ s. builds_alike same law free once o answer m n p q s x y w seen;
    }
