use Rattle.std.proofs.Common.{subst, sym}
use Rattle.std.proofs.lemmas.Option.{get_or_from_slice_get, slice_get_within}
use Rattle.krates_questions.specs.Availability.{TellsExcluded}
use Rattle.krates_questions.specs.Context.{document_of}
use Rattle.krates_rules.proofs.Readings.{right_of}
use Rattle.krates_rules.proofs.Standings.{contains_at}
use Rattle.krates_questions.proofs.context.Context.availability_at.Goals as goal

pub bounds-excluded-place : goal.bounds-excluded-place
bounds-excluded-place c =
    let n = c.requires.number in
    let at = c.in-Some.ensures n.0 n.1 in
    let context = c.args.self.now in
    let told = right_of (TellsExcluded context.setting.now) (document_of context).metadata.packages c.args.excluded.now c.in-Some.place at.pkg c.requires.excluded at.at in
    slice_get_within c.args.excluded.now c.in-Some.place told.0 told.1

pub returns : goal.returns
returns c i h =
    let at = c.in-Some.ensures i h in
    let context = c.args.self.now in
    let packages = (document_of context).metadata.packages in
    let told = right_of (TellsExcluded context.setting.now) packages c.args.excluded.now c.in-Some.place at.pkg c.requires.excluded at.at in
    c.availability_with.ensures context.setting.now i at.pkg h (record { among = contains_at packages c.in-Some.place at.pkg at.at; id = at.id })
    (subst (TellsExcluded context.setting.now at.pkg) (sym (get_or_from_slice_get c.args.excluded.now c.in-Some.place told.0 _ told.1)) told.2)
