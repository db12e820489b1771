use Rattle.std.proofs.Common.{◌↔◌, IsTrue, Option, true, map, option_map, sym, ap, subst}
use Rattle.std.proofs.lemmas.Result.{IfOk-weaker}
use Rattle.krates_text.specs.Passing.{TellsPassing}
use Rattle.krates_text.specs.AskedTargets.{asked_of}
use Rattle.krates_cm.specs.Document.{Text, text_view}
use Rattle.krates_rules.specs.Setting.{SettingModel, Passes}
use Rattle.krates_document.proofs.Passing.{told_passing}
use Rattle.krates_document.proofs.setting.Setting.passes.Goals as goal

pub returns-in-Some : goal.returns-in-Some
returns-in-Some c =
    let text = text_view c.in-Some.text in
    let targets = map asked_of c.self.inside.targets.items in
    IfOk-weaker c.passes.result _ _ (λ b h.
    subst (λ (cfg : Option Text). IsTrue b ↔ Passes c.args.self.now cfg) (sym (ap (option_map text_view) c.in-Some.is))
    (subst (λ (s : SettingModel). IsTrue b ↔ TellsPassing text s.targets true) c.self.view_is
    (told_passing text targets b (subst (λ (t : Text). TellsPassing t targets b) c.as_str.ensures.value (subst (λ ts. TellsPassing c.as_str.result.now (map asked_of ts) b) c.deref.ensures.value h))))) c.passes.ensures
