use Rattle.std.proofs.Common.{List, Contains, map, sym, ap, ◌∙◌, subst}
use Rattle.std.proofs.lemmas.List.Elements.{Contains-append_left, Contains-append_right}
use Rattle.std.proofs.lemmas.Result.{IfOk-weaker}
use Rattle.krates_ids.specs.Identity.{Identity}
use Rattle.krates_document.specs.CrateTable.{Among, AreNumbered, lent_to}
use Rattle.krates_rules.specs.Resolved.{id_of}
use Rattle.krates_document.proofs.Searches.{in_order_among, in_order_numbered}
use Rattle.krates_document.proofs.crate_table.numbered_ids.Goals as goal

pub returns-clause-numbered : goal.returns-clause-numbered
returns-clause-numbered c = IfOk-weaker c.id_copies.result _ _
    (λ kids h. subst (λ (ks : List Identity). AreNumbered (map id_of ks)) (sym (h ∙ ap lent_to c.deref-4.ensures.value)) (in_order_numbered c.in_ok-sorted.sorted.items c.in_ok-sorted.ensures.ascending))
    c.id_copies.ensures

pub returns-clause-packages : goal.returns-clause-packages
returns-clause-packages c = IfOk-weaker c.id_copies.result _ _
    (λ kids h.
    let first = λ (k : Identity) (a : Contains c.args.ids.now.packages.items k).
    subst (λ (ks : List Identity). Contains ks k) (sym c.in_ok-lend_all.ensures) (Contains-append_right (lent_to c.new-all.result.items) c.deref.result.now k (subst (λ (ks : List Identity). Contains ks k) (sym c.deref.ensures.value) a)) in
    let all = λ (k : Identity) (a : Contains c.args.ids.now.packages.items k).
    subst (λ (ks : List Identity). Contains ks k) (sym c.in_ok-lend_all-3.ensures) (Contains-append_left (lent_to c.lend_all-2.new.all.items) c.deref-3.result.now k
    (subst (λ (ks : List Identity). Contains ks k) (sym c.in_ok-lend_all-2.ensures) (Contains-append_left (lent_to c.lend_all.new.all.items) c.deref-2.result.now k (first k a)))) in
    subst (λ (ks : List Identity). Among c.args.ids.now.packages.items (map id_of ks)) (sym (h ∙ ap lent_to c.deref-4.ensures.value))
    (in_order_among c.comparison.ensures.equality c.lend_all-3.new.all.items c.in_ok-sorted.sorted.items c.args.ids.now.packages.items c.in_ok-sorted.ensures.kept all))
    c.id_copies.ensures

pub returns-clause-nodes : goal.returns-clause-nodes
returns-clause-nodes c = IfOk-weaker c.id_copies.result _ _
    (λ kids h.
    let first = λ (k : Identity) (a : Contains c.args.ids.now.nodes.items k).
    subst (λ (ks : List Identity). Contains ks k) (sym c.in_ok-lend_all-2.ensures) (Contains-append_right (lent_to c.lend_all.new.all.items) c.deref-2.result.now k (subst (λ (ks : List Identity). Contains ks k) (sym c.deref-2.ensures.value) a)) in
    let all = λ (k : Identity) (a : Contains c.args.ids.now.nodes.items k).
    subst (λ (ks : List Identity). Contains ks k) (sym c.in_ok-lend_all-3.ensures) (Contains-append_left (lent_to c.lend_all-2.new.all.items) c.deref-3.result.now k (first k a)) in
    subst (λ (ks : List Identity). Among c.args.ids.now.nodes.items (map id_of ks)) (sym (h ∙ ap lent_to c.deref-4.ensures.value))
    (in_order_among c.comparison.ensures.equality c.lend_all-3.new.all.items c.in_ok-sorted.sorted.items c.args.ids.now.nodes.items c.in_ok-sorted.ensures.kept all))
    c.id_copies.ensures

pub returns-clause-members : goal.returns-clause-members
returns-clause-members c = IfOk-weaker c.id_copies.result _ _
    (λ kids h.
    let all = λ (k : Identity) (a : Contains c.args.ids.now.members.items k).
    subst (λ (ks : List Identity). Contains ks k) (sym c.in_ok-lend_all-3.ensures) (Contains-append_right (lent_to c.lend_all-2.new.all.items) c.deref-3.result.now k (subst (λ (ks : List Identity). Contains ks k) (sym c.deref-3.ensures.value) a)) in
    subst (λ (ks : List Identity). Among c.args.ids.now.members.items (map id_of ks)) (sym (h ∙ ap lent_to c.deref-4.ensures.value))
    (in_order_among c.comparison.ensures.equality c.lend_all-3.new.all.items c.in_ok-sorted.sorted.items c.args.ids.now.members.items c.in_ok-sorted.ensures.kept all))
    c.id_copies.ensures
