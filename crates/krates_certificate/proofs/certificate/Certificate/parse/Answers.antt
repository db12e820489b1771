use Rattle.std.proofs.Common.{◌≡◌, Some, rules}
use Rattle.serde_json.specs.Read as json
use Rattle.serde_json.specs.View.{view as data_of}
use Rattle.krates_certificate.proofs.TextLemmas.{of_data}
use Rattle.krates_certificate.proofs.certificate.Certificate.parse.Goals as goal

pub returns : goal.returns
returns c =
    let whole = data_of c.in_ok-value.value in
    let is : json.read c.args.text.now ≡ Some whole = search rules in
    of_data c.args.text.now whole c.from_value.result is c.from_value.ensures
