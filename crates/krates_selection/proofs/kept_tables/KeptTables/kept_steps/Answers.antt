use Rattle.std.proofs.Common.{◌≡◌, ◌<◌, ℕ, All, List, length, map, sym, ap, ◌∙◌, subst}
use Rattle.std.proofs.lemmas.List.{length-map}
use Rattle.std.proofs.lemmas.Result.{IfOk-weaker}
use Rattle.std.proofs.lemmas.Slice.Zip.{AllZip-long}
use Rattle.std.specs.Global.{Vec}
use Rattle.std.specs.List.{AllZip}
use Rattle.krates_selection.proofs.FirstSteps.{follow_backward, homes_low, kept_facts, shown_uses, steps_are, uses_of}
use Rattle.krates_selection.proofs.ToldParts.{chosen_low}
use Rattle.krates_selection.specs.KeptFacts.{AreChosen, AreFactNumbers, home, key_view}
use Rattle.krates_selection.specs.KeptTables.{AreStepsOf, IsKeyOf, numbered_facts}
use Rattle.krates_selection.specs.declared.kept.KeptStep.{KeptStep}
use Rattle.krates_selection.specs.declared.key.KeptFactKey.{KeptFactKey}
use Rattle.krates_questions.specs.Context.{document_of, rules_of}
use Rattle.krates_selection.specs.declared.trace.NumberedStep.{NumberedStep}
use Rattle.krates_selection.specs.PartOfSteps.{AreBackward, SameFact}
use Rattle.krates_selection.proofs.kept_tables.KeptTables.kept_steps.Goals as goal

pub keys_of-requires : goal.keys_of-requires
keys_of-requires c = record { kept = kept_facts c.args.self.now c.args.self.now.context.setting.now c.args.steps.now c.requires.trace c.requires.crates }

pub fact_numbers-requires : goal.fact_numbers-requires
fact_numbers-requires c =
    let steps = c.args.steps.now in
    let t = c.args.self.now in
    let low = homes_low t (numbered_facts steps) c.in_ok-keys.keys.items c.in_ok-keys.ensures in
    subst (λ (ks : List KeptFactKey). All (λ f. home f < length c.args.self.now.krates.now) (map key_view ks)) (sym c.deref.ensures.value) low

pub first_steps-requires-clause-backward : goal.first_steps-requires-clause-backward
first_steps-requires-clause-backward c =
    let steps = c.args.steps.now in
    let same : c.deref-2.result.now ≡ uses_of steps = c.deref-2.ensures.value ∙ c.in_ok-uses.ensures in
    subst AreBackward (sym same) (follow_backward (rules_of c.args.self.now.context) c.requires.trace.steps (uses_of steps) (shown_uses (document_of c.args.self.now.context) steps c.requires.trace.steps c.requires.trace.shown) c.requires.trace.follows)

pub first_steps-requires-clause-long : goal.first_steps-requires-clause-long
first_steps-requires-clause-long c =
    let steps = c.args.steps.now in
    let t = c.args.self.now in
    let same : c.deref-2.result.now ≡ uses_of steps = c.deref-2.ensures.value ∙ c.in_ok-uses.ensures in
    let keys = AllZip-long (IsKeyOf t) (numbered_facts steps) c.in_ok-keys.keys.items c.in_ok-keys.ensures in
    ap length c.deref-3.ensures.value ∙ c.in_ok-numbers.ensures.long ∙ length-map c.deref.result.now key_view ∙ ap length c.deref.ensures.value ∙ keys ∙ length-map steps (λ (x : NumberedStep). x.fact)
    ∙ sym (ap length same ∙ length-map steps (λ (x : NumberedStep). x.reason.uses))

pub chosen-requires-clause-long : goal.chosen-requires-clause-long
chosen-requires-clause-long c =
    let steps = c.args.steps.now in
    let t = c.args.self.now in
    let keys = AllZip-long (IsKeyOf t) (numbered_facts steps) c.in_ok-keys.keys.items c.in_ok-keys.ensures in
    ap length c.deref-4.ensures.value ∙ keys ∙ length-map steps (λ (x : NumberedStep). x.fact)

pub chosen-requires-clause-within : goal.chosen-requires-clause-within
chosen-requires-clause-within c =
    let steps = c.args.steps.now in
    let same : c.deref-2.result.now ≡ uses_of steps = c.deref-2.ensures.value ∙ c.in_ok-uses.ensures in
    let long : length c.deref-2.result.now ≡ length steps = ap length same ∙ length-map steps (λ (x : NumberedStep). x.reason.uses) in
    subst (λ m. All (λ n. n < m) c.in_ok-part.part.chosen.items) long (chosen_low (SameFact c.deref-3.result.now) c.deref-2.result.now c.in_ok-part.part.uses.items c.in_ok-part.part.chosen.items c.in_ok-part.ensures.part)

pub returns : goal.returns
returns c =
    let b = c.args.self.now.context in
    let steps = c.args.steps.now in
    let t = c.args.self.now in
    let chosen = c.in_ok-part.part.chosen.items in
    let part = c.in_ok-part.part.uses.items in
    let keys = c.deref-4.result.now in
    let keyed = subst (λ (ks : List KeptFactKey). AllZip (IsKeyOf t) (numbered_facts steps) ks) (sym c.deref-4.ensures.value) c.in_ok-keys.ensures in
    let first : c.deref.result.now ≡ keys = c.deref.ensures.value ∙ sym c.deref-4.ensures.value in
    let counted = subst (λ (ns : List ℕ). AreFactNumbers (map key_view keys) ns) (sym c.deref-3.ensures.value) (subst (λ (ks : List KeptFactKey). AreFactNumbers (map key_view ks) c.in_ok-numbers.numbers.items) first c.in_ok-numbers.ensures) in
    let same : c.deref-2.result.now ≡ uses_of steps = c.deref-2.ensures.value ∙ c.in_ok-uses.ensures in
    IfOk-weaker c.chosen.result (λ (kept : Vec KeptStep). AreChosen keys steps chosen part kept.items) (λ (kept : Vec KeptStep). AreStepsOf (document_of b) b.setting.now c.args.self.now.krates.now steps kept.items)
    (λ kept made. steps_are c.comparison.ensures.order t b.setting.now steps keys t.ascending c.requires.trace keyed c.one_reading.ensures.once c.parts_follow.ensures c.deref-3.result.now c.deref-2.result.now part chosen kept.items
    counted same c.in_ok-part.ensures.part c.in_ok-part.ensures.own c.in_ok-part.ensures.each made) c.chosen.ensures
