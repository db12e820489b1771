use Rattle.std.proofs.Common.{◌≡◌, ◌==◌, ◌∙◌, ap, sym, vec_len}
use Rattle.std.proofs.lemmas.Bool.{false≢true}
use Rattle.std.proofs.lemmas.List.{length-map}
use Rattle.krates_cm.proofs.CopyLemmas.{same_list}
use Rattle.krates_ids.specs.PackageSpecification.{spec_view}
use Rattle.krates_words.proofs.SelectionLemmas.{selected}
use Rattle.krates_words.proofs.build_words.BuildWords.selection.Goals as goal

pub returns-in_ok-clone : goal.returns-in_ok-clone
returns-in_ok-clone c =
    let words = c.args.self.now in
    let copied = same_list (λ spec copy. spec_view copy ≡ spec_view spec) spec_view (λ spec copy same. same)
    words.packages.items c.in_ok-clone.field-0.items c.in_ok-clone.ensures.cases.0 in
    selected words _ c.if-self.false
    (λ none. let empty : vec_len words.packages ≡ 0 = words.packages.ok.0 ∙ sym (length-map words.packages.items spec_view) ∙ none in false≢true (sym c.if-is_empty.false ∙ c.is_empty.ensures ∙ ap (λ n. n == 0) empty))
    copied
