use Rattle.std.proofs.Common.{◌≡◌, ℕ, ◌∙◌, ap, arith, rules}
use Rattle.krates_build_tables.specs.Builds.{LinkSaysOf}
use Rattle.krates_build_tables.specs.declared.tables.Link.{Link}
use Rattle.krates_build_tables.specs.declared.tables.LinkPlace.{LinkPlace}
use Rattle.krates_build_tables.proofs.Entries.{placed_push, zip_more, zip_whole, seen_there}
use Rattle.krates_build_tables.proofs.links.links_by.Goals as goal

abbrev place_at : ℕ → ℕ → LinkPlace
place_at number index = record { krate = number; index = index }

pub link_of-requires-clause-pair : goal.link_of-requires-clause-pair
link_of-requires-clause-pair c = c.requires.pairs c.pair-item.result (seen_there c.args.pairs.now c.loop-pair.pair-index c.pair-item.result (omega arith) c.pair-item.is)

pub loop-pair-preserved : goal.loop-pair-preserved
loop-pair-preserved c =
    let l = c.loop-pair in
    let x = c.in_ok-link.link in
    rw c.in_ok-push.ensures record {
      says = zip_more (LinkSaysOf c.args.build.now) c.args.pairs.now l.pair-index c.pair-item.result l.links.items x (omega arith) c.pair-item.is c.in_ok-link.ensures.says l.invariant.says;
      places = placed_push (λ (k : ℕ) (x : Link). x.place ≡ place_at c.args.number k) l.links.items x l.invariant.places (c.in_ok-link.ensures.place ∙ ap (place_at c.args.number) (search rules));
    }

pub returns : goal.returns
returns c = record {
  says = zip_whole (LinkSaysOf c.args.build.now) c.args.pairs.now c.loop-pair.pair-index c.loop-pair.links.items (omega arith) c.loop-pair.invariant.says;
  places = c.loop-pair.invariant.places;
}
