use Rattle.std.proofs.Common.{ℕ, arith, refl}
use Rattle.krates_rules.proofs.Seen.{each_seen}
use Rattle.krates_document.specs.declared.named_places.NamedPlace.{NamedPlace}
use Rattle.krates_rules.specs.Resolved.{StandsAt, id_of}
use Rattle.krates_questions.proofs.questions.place_among.Goals as goal

pub returns : goal.returns
returns c =
    let i = id_of c.args.id.now in
    let ids = c.args.ids.now in
    λ k among. each_seen (λ (x : NamedPlace). x.place) (λ (j : ℕ). StandsAt ids i j → ⊥) c.args.places.now c.args.places.now c.loop-there.there-index refl (omega arith) c.loop-there.invariant k among
