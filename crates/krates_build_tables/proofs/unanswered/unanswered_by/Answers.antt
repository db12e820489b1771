use Rattle.std.proofs.Common.{List, String, map, string_bytes, subst, Contains}
use Rattle.std.specs.declared.alloc.Global.{Global}
use Rattle.krates_cm.specs.Document.{Text}
use Rattle.krates_units.specs.Answered.{NamesFeature}
use Rattle.krates_build_tables.specs.Unanswered.{model_taking, setting_taking}
use Rattle.krates_build_tables.proofs.unanswered.unanswered_by.Goals as goal

pub returns : goal.returns
returns c =
    let names = NamesFeature (model_taking c.args.taking.now) (setting_taking c.args.taking.now) in
    record {
      packages = c.requires.packages;
      some_selected = c.selects_some.ensures.0 c.if-not-selects_some.false;
      features = subst (λ (texts : List (String Global)). (text : Text) → Contains (map string_bytes texts) text → names text) c.deref.ensures.value c.in_default.ensures;
      no_idle_flag = λ idle. absurd (cc (c.has_idle_flag.ensures.1 idle, c.if-has_idle_flag.false));
    }
