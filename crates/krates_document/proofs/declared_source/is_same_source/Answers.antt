use Rattle.std.proofs.Common.{◌≡◌, sym, ◌∙◌, subst, inl, inr}
use Rattle.std.proofs.lemmas.Slice.Eq.{bytes_eq-Decides}
use Rattle.krates_cm.specs.Document.{Text}
use Rattle.krates_text.proofs.CutsLemmas.{LastCut-once, LastCut-lacks}
use Rattle.krates_rules.specs.DeclaredSource.{IsWithoutCommit, IsSameSource}
use Rattle.krates_document.proofs.declared_source.is_same_source.Goals as goal

one_without_commit : (text x y : Text) → IsWithoutCommit text x → IsWithoutCommit text y → x ≡ y
one_without_commit text x y (inl a) (inl b) = (LastCut-once a.1 b.1).0
one_without_commit text x y (inl a) (inr b) = absurd (LastCut-lacks b.0 a.1)
one_without_commit text x y (inr a) (inl b) = absurd (LastCut-lacks a.0 b.1)
one_without_commit text x y (inr a) (inr b) = a.1 ∙ sym b.1

-- only one text is the source
one_source : (id declared x y : Text) → IsSameSource id declared x → IsSameSource id declared y → x ≡ y
one_source id declared x y (inl a) (inl b) = one_without_commit declared x y a.1 b.1
one_source id declared x y (inl a) (inr b) = absurd (b.0 a.0)
one_source id declared x y (inr a) (inl b) = absurd (a.0 b.0)
one_source id declared x y (inr a) (inr b) = a.1 ∙ sym b.1

pub returns : goal.returns
returns c =
    let same = bytes_eq-Decides c.compared.result.now c.args.source.now in (
      λ t. subst (IsSameSource c.args.id.now c.args.declared.now) (same.0 (sym c.eq.ensures ∙ t)) c.compared.ensures,
      λ h. c.eq.ensures ∙ same.1 (one_source c.args.id.now c.args.declared.now _ _ c.compared.ensures h),
    )
