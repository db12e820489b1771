use Rattle.std.proofs.Common.{[], ◌∷◌, ◌++◌, map, ap, ◌∙◌, sym}
use Rattle.std.proofs.lemmas.List.{map-append}
use Rattle.std.proofs.lemmas.List.Elements.{All-push, All-same}
use Rattle.krates_queries.specs.KrateNodes.{match_view}
use Rattle.krates_rules.specs.Resolved.{id_of}
use Rattle.krates_answers.specs.CrateUses.{IsUse}
use Rattle.krates_answers.specs.declared.crate_uses.UsedKrate.{UsedKrate}
use Rattle.krates_answers.proofs.builds.Builds.uses.Goals as goal

pub loop-krate-preserved : goal.loop-krate-preserved
loop-krate-preserved c =
    let l = c.loop-krate in
    let last : UsedKrate = record { krate = c.in-Some.krate; usage = c.use_of-usage.result } in
    let IsUsed : UsedKrate → Type 0 = λ u. IsUse c.args.self.now.shipped c.args.self.now.without_dev (id_of u.krate.kid.now) u.usage in
    let added = c.in_ok-push.ensures in
    let seen = map-append match_view l.yielded (c.in-Some.krate ∷ []) in (
      tt,
      tt,
      ap (map (λ (u : UsedKrate). match_view u.krate)) added ∙ map-append (λ (u : UsedKrate). match_view u.krate) l.used.items (last ∷ []) ∙ ap (λ ms. ms ++ match_view c.in-Some.krate ∷ []) l.invariant.2 ∙ sym seen,
      All-same IsUsed c.push.new.list.items (l.used.items ++ last ∷ []) added (All-push IsUsed l.used.items last l.invariant.3 c.use_of-usage.ensures),
    )
