use Rattle.toml.proofs.Views.{table_get}
use Rattle.krates_manifest.proofs.fields.value_at.Goals as goal

pub returns : goal.returns
returns c = table_get c.get.result c.args.key.now c.args.manifest.now.entries c.get.ensures.value
