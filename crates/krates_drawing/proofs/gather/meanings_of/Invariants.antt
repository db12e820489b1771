use Rattle.std.proofs.Common.{map, take}
use Rattle.std.specs.List.{AllZip}
use Rattle.krates_cm.specs.Document.{text_view}
use Rattle.krates_questions.specs.Context.{document_of}
use Rattle.krates_rules.specs.Resolved.{id_of}
use Rattle.krates_drawing.specs.Outline.{IsMeaning}
use Rattle.krates_drawing.specs.Views.{meaning_view}
use Rattle.krates_drawing.proofs.gather.meanings_of.Given as goal

abbrev pub invariant-loop-text : goal.invariant-loop-text
invariant-loop-text l = AllZip (IsMeaning (document_of l.context) l.context.setting.now.all_named (id_of l.krate)) (map text_view (take l.text-index l.values)) (map meaning_view l.meanings.items)
