use Rattle.std.proofs.Common.{List, All, length, sym, ap, ◌∙◌, subst}
use Rattle.std.proofs.lemmas.List.{length-map}
use Rattle.std.proofs.lemmas.Result.{on_ok_weaker}
use Rattle.krates_cm.specs.Document.{node_view}
use Rattle.krates_ids.specs.Identity.{Identity}
use Rattle.krates_rules.specs.NamedIds.{IsReadOf}
use Rattle.krates_rules.specs.Resolved.{id_of}
use Rattle.krates_questions.proofs.RootLemmas.{are_read_members}
use Rattle.krates_resolve.proofs.Rooted.{members_rooted, none_rooted}
use Rattle.krates_questions.specs.Context.{document_of, HasMember, HasRoot}
use Rattle.krates_search.specs.SearchState.{HasRooted}
use Rattle.krates_resolve.proofs.roots.put_roots.Goals as goal

pub put_root-requires-clause-each : goal.put_root-requires-clause-each
put_root-requires-clause-each c =
    let nodes = c.args.context.now.document.now.resolve.now.nodes in
    none_rooted c.args.context.now c.args.found.now c.in_ok-places.places (length c.nodes.result.now) c.in_ok-places.ensures (ap length c.nodes.ensures ∙ sym (length-map nodes.items node_view))

pub put_root-requires-clause-root : goal.put_root-requires-clause-root
put_root-requires-clause-root c = (c.in-Root.ensures.0, c.in-Root.ensures.2)

pub put_members-requires-clause-each : goal.put_members-requires-clause-each
put_members-requires-clause-each c =
    let nodes = c.args.context.now.document.now.resolve.now.nodes in
    none_rooted c.args.context.now c.args.found.now c.in_ok-places.places (length c.nodes.result.now) c.in_ok-places.ensures (ap length c.nodes.ensures ∙ sym (length-map nodes.items node_view))

pub put_members-requires-clause-members : goal.put_members-requires-clause-members
put_members-requires-clause-members c =
    let b = c.args.context.now in
    subst (λ (ms : List Identity). All (λ m. HasMember b (id_of m) × IsReadOf (document_of b) m) ms) (sym c.members.ensures) (are_read_members (document_of b) b.document.now.ids.now.members.items c.agrees.ensures.ids.members)

pub returns-in-Root-clause-roots : goal.returns-in-Root-clause-roots
returns-in-Root-clause-roots c =
    on_ok_weaker c.put_root.result (λ h i is. subst (HasRooted c.args.context.now c.put_root.new.found) (sym (c.in-Root.ensures.1 i is)) h) c.put_root.ensures.rooted

pub returns-clause-roots : goal.returns-clause-roots
returns-clause-roots c =
    let b = c.args.context.now in
    let x = c.put_members.new.found in
    on_ok_weaker c.put_members.result (λ h.
    members_rooted c.one_reading.ensures.once b x c.in-Members.all b.document.now.ids.now.members.items c.in-Members.ensures c.agrees.ensures.ids.members
    (subst (λ (ms : List Identity). All (λ m. HasRoot b (id_of m) → HasRooted b x (id_of m)) ms) c.members.ensures h)) c.put_members.ensures.rooted
