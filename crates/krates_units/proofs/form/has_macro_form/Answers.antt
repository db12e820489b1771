use Rattle.krates_units.proofs.TargetKinds.{macro_form_told}
use Rattle.krates_units.proofs.form.has_macro_form.Goals as goal

pub returns : goal.returns
returns c = macro_form_told c.args.forms.now c.contains.result c.contains.ensures.value
