use Rattle.std.proofs.Common.{ℕ, ◌<◌, refl, subst}
use Rattle.krates_rules.specs.Resolved.{id_of}
use Rattle.krates_questions.specs.declared.node_entry.NodeParts.{NodeParts}
use Rattle.krates_questions.proofs.CratesOfNodes.{parent_numbered}
use Rattle.krates_questions.proofs.NodeParts.{nodes_long, parts_here, versions_here, versions_long, within_vec}
use Rattle.krates_questions.proofs.node_entry.parts_of.Goals as goal

pub index-parent-requires : goal.index-parent-requires
index-parent-requires c = within_vec c.document.inside.lookup.ids.now.nodes c.args.place.index (subst (λ (n : ℕ). c.args.place.index < n) (nodes_long c.document.inside.lookup c.document.invariant).0 (rw (← c.document.view_is) at c.requires.within))

pub declared_by-requires : goal.declared_by-requires
declared_by-requires c =
    rw (← c.document.view_is) (let parent = c.index-parent.result.now in
    record { number = (id_of parent, parent_numbered c.document.inside.lookup c.args.place.index parent c.node_number-number.result c.document.invariant (rw (← c.document.view_is) at c.requires.within) c.index-parent.ensures (rw (← c.document.view_is) at c.node_number-number.ensures.number)) })

pub index-requires-2 : goal.index-requires-2
index-requires-2 c = within_vec c.document.inside.lookup.ids.now.deps c.args.place.index (subst (λ (n : ℕ). c.args.place.index < n) (nodes_long c.document.inside.lookup c.document.invariant).2 (rw (← c.document.view_is) at c.requires.within))

pub index-requires-3 : goal.index-requires-3
index-requires-3 c = within_vec c.document.inside.lookup.ids.now.versions c.args.place.index (subst (λ (n : ℕ). c.args.place.index < n) (versions_long c.document.inside.lookup c.document.invariant) (rw (← c.document.view_is) at c.requires.within))

pub is_member_at-requires : goal.is_member_at-requires
is_member_at-requires c =
    rw (← c.document.view_is) (let parent = c.index-parent.result.now in
    record { number = (id_of parent, parent_numbered c.document.inside.lookup c.args.place.index parent c.node_number-number.result c.document.invariant (rw (← c.document.view_is) at c.requires.within) c.index-parent.ensures (rw (← c.document.view_is) at c.node_number-number.ensures.number)) })

pub returns : goal.returns
returns c =
    rw (← c.document.view_is) (let parent = c.index-parent.result.now in
    let number = parent_numbered c.document.inside.lookup c.args.place.index parent c.node_number-number.result c.document.invariant (rw (← c.document.view_is) at c.requires.within) c.index-parent.ensures (rw (← c.document.view_is) at c.node_number-number.ensures.number) in
    let parts : NodeParts = record { parent = c.index-parent.result; is_member = c.is_member_at.result; declared = c.declared_by.result; deps = c.deref.result; children = c.deref-2.result; versions = c.deref-3.result; place = c.args.place } in
    let versions = versions_here c.document.inside.lookup c.args.place.index parts c.index-2.result.now c.index-3.result.now c.document.invariant (rw (← c.document.view_is) at c.requires.within) c.index-2.ensures c.index-3.ensures c.deref-2.ensures.value c.deref-3.ensures.value in
    parts_here c.document.inside.lookup c.args.place.index parts c.index.result.now c.index-2.result.now c.document.invariant (rw (← c.document.view_is) at c.requires.within) c.index-parent.ensures c.index.ensures c.index-2.ensures c.deref.ensures.value
    c.deref-2.ensures.value versions ((rw (← c.document.view_is) at c.declared_by.ensures) (id_of parent) number) ((rw (← c.document.view_is) at c.is_member_at.ensures) (id_of parent) number) refl)
