use Rattle.std.proofs.Common.{◌≡◌, ◌<◌, ◌∷◌, ◌++◌, [], length, ap, sym, ◌∙◌, slice_set, slice_index_or, vec_len, vec_capacity}
use Rattle.std.proofs.lemmas.List.{get_or-map, length-map, map-set}
use Rattle.krates_graph.specs.Adjacency.{lists_of}
use Rattle.krates_graph.proofs.graph.adjacency.Adjacency.add_edge.Goals as goal

pub returns : goal.returns
returns c =
    let list = c.index_mut.result.now in
    let lists = c.args.self.now.lists.items in
    let room : vec_len list < vec_capacity list = rw c.index_mut.ensures.value (c.requires.room list) in
    let within : c.args.node < length lists = rw (length-map lists (λ v. v.items)) at c.requires.within in
    let pushed = rw (c.push.ensures.succeeds room) at c.push.ensures.items in
    let same : list.items ≡ slice_index_or (lists_of c.args.self.now) c.args.node [] =
    ap (λ v. v.items) c.index_mut.ensures.value ∙ sym (get_or-map (λ v. v.items) lists c.args.node list [] within) in
    map-set (λ v. v.items) lists c.args.node c.push.new.self
    ∙ ap (slice_set (lists_of c.args.self.now) c.args.node) (pushed ∙ ap (λ ids. ids ++ c.args.edge ∷ []) same)
