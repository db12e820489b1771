use Rattle.std.proofs.Common.{◌≡◌, [], subst, rules}
use Rattle.json.specs.Lex.{tokens}
use Rattle.krates_cm.specs.Document.{metadata_view}
use Rattle.krates_cm_json.specs.ByItem.{ReadsNext}
use Rattle.krates_cm_json.specs.Tables.{metadata}
use Rattle.krates_cm_json.proofs.ByItemLemmas.{read_whole_text}
use Rattle.krates_cm_json.proofs.by_item.document.Goals as goal

pub returns : goal.returns
returns c =
    let m = metadata_view c.in_ok-document.document in
    let all : c.in_ok-reader.reader ≡ tokens c.args.text.now = search rules in
    let over : c.next_document.new.reader ≡ [] = search rules in
    read_whole_text (metadata []) c.args.text.now m
    (subst (λ ts. ReadsNext 127 (metadata []) (tokens c.args.text.now) m ts) over (subst (λ ts. ReadsNext 127 (metadata []) ts m c.next_document.new.reader) all c.in_ok-document.ensures))
