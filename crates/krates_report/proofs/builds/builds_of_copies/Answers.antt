use Rattle.krates_cm.specs.Document.{metadata_view}
use Rattle.krates_report.proofs.OneSetting.{of_one_document}
use Rattle.krates_report.proofs.builds.builds_of_copies.Goals as goal

pub of-requires : goal.of-requires
of-requires c = of_one_document (metadata_view c.args.metadata.now) c.args.choice.now _ c.in_ok-all.ensures c.in_ok-without_dev.ensures c.in_ok-shipped.ensures

pub returns : goal.returns
returns c = rw c.of.ensures (record {
  all = c.in_ok-all.ensures;
  without_dev = c.in_ok-without_dev.ensures;
  shipped = c.in_ok-shipped.ensures;
})
