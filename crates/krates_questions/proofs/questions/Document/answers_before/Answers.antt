use Rattle.std.proofs.Common.{◌<◌, ℕ, get_or, subst}
use Rattle.std.proofs.lemmas.Option.{slice_get-get_or}
use Rattle.krates_cm.specs.Document.{node_dep_view}
use Rattle.krates_questions.specs.Lookup.{resolved_view}
use Rattle.krates_questions.proofs.NodeParts.{deps_long, dep_seen}
use Rattle.krates_questions.proofs.LeastReferents.{answers_here, not_here, past_here}
use Rattle.krates_questions.proofs.questions.Document.answers_before.Goals as goal

pub bounds-parts-index-then-index-parts : goal.bounds-parts-index-then-index-parts
bounds-parts-index-then-index-parts c =
    let parts = c.args.parts.now in
    subst (λ (n : ℕ). c.args.index < n) (deps_long (resolved_view c.args.self.now) parts.place.index parts c.requires.parts) c.if-index-parts.true

pub returns-then-answers_to : goal.returns-then-answers_to
returns-then-answers_to c =
    let r = resolved_view c.args.self.now in
    let parts = c.args.parts.now in
    let i = c.args.index in
    let child = c.index-parts-index.result in
    let dep = c.index-parts-index-then-index-parts.result in
    let lt = c.if-index-parts.true in
    let below = subst (λ (n : ℕ). i < n) (deps_long r parts.place.index parts c.requires.parts) lt in
    answers_here r parts c.args.name.now i (get_or parts.children.now i child) (node_dep_view (get_or parts.deps.now i dep)) c.args.least c.answers_to.result c.is_id_before.result (slice_get-get_or parts.children.now i child lt)
    (dep_seen parts.deps.now i dep below) c.answers_to.ensures c.is_id_before.ensures c.if-answers_to.true

pub returns-else-answers_to : goal.returns-else-answers_to
returns-else-answers_to c =
    let r = resolved_view c.args.self.now in
    let parts = c.args.parts.now in
    let i = c.args.index in
    let child = c.index-parts-index.result in
    let dep = c.index-parts-index-then-index-parts.result in
    let lt = c.if-index-parts.true in
    let below = subst (λ (n : ℕ). i < n) (deps_long r parts.place.index parts c.requires.parts) lt in (
      λ t. absurd (cc (t, c.if-answers_to.false)),
      λ h. absurd (not_here r parts c.args.name.now i (get_or parts.children.now i child) (node_dep_view (get_or parts.deps.now i dep)) c.args.least c.answers_to.result (slice_get-get_or parts.children.now i child lt)
          (dep_seen parts.deps.now i dep below) c.answers_to.ensures c.if-answers_to.false h),
    )

pub returns : goal.returns
returns c = (λ t. absurd cc, λ h. absurd (past_here (resolved_view c.args.self.now) c.args.parts.now c.args.name.now c.args.index c.args.least c.if-index-parts.false h))
