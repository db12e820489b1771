use Rattle.std.proofs.Common.{◌≡◌, ◌<◌, ◌≤◌, ◌∙◌, [], Some, length, get_or, map, set, ap, arith, subst, sym}
use Rattle.std.proofs.lemmas.List.{get_or-map, length-map, map-set, set-get_or}
use Rattle.krates_drawing.specs.OutlineOrder.{IsClaimed}
use Rattle.krates_drawing.proofs.CratePlaces.{own_number}
use Rattle.krates_drawing.proofs.Mapped.{claimed_by, none_claimed}
use Rattle.krates_drawing.proofs.numbers.NumberedOutline.claim.Goals as goal

pub returns-then-place-len : goal.returns-then-place-len
returns-then-place-len c =
    let t = c.args.self.now.outline.now in
    let l = c.args.link.now in
    let ms = c.args.mappings.now in
    let p = l.edge.parent in
    let v = get_or ms p c.index-mappings-link.result in
    let lists = map (λ m. m.items) ms in
    let n = c.crate_number.result in
    let within : p < length ms = omega (arith, c.requires.one_each, c.requires.ends.parent) in
    let items : get_or lists p [] ≡ v.items = get_or-map (λ m. m.items) ms p c.index-mappings-link.result [] within in
    let room : l.edge.declared < length (get_or lists p []) = omega (arith, c.if-place-len.true, c.len.ensures, v.ok.0, ap length items, ap (λ m. m.len) c.index-mappings-link.is) in
    subst (IsClaimed l lists) (sym (map-set (λ m. m.items) ms p _ ∙ ap (λ m. set lists p (set m l.edge.declared (Some n))) (sym items)))
    (claimed_by l lists n (c.crate_number.ensures ∙ own_number t.krates.items l.edge.child t.ordered.krates c.requires.ends.child) (omega (arith, within, length-map ms (λ m. m.items))) room)

pub returns-else-place-len : goal.returns-else-place-len
returns-else-place-len c =
    let l = c.args.link.now in
    let ms = c.args.mappings.now in
    let p = l.edge.parent in
    let v = get_or ms p c.index-mappings-link.result in
    let lists = map (λ m. m.items) ms in
    let within : p < length ms = omega (arith, c.requires.one_each, c.requires.ends.parent) in
    let items : get_or lists p [] ≡ v.items = get_or-map (λ m. m.items) ms p c.index-mappings-link.result [] within in
    let past : length (get_or lists p []) ≤ l.edge.declared = omega (arith, c.if-place-len.false, c.len.ensures, v.ok.0, ap length items, ap (λ m. m.len) c.index-mappings-link.is) in
    subst (λ new. IsClaimed l lists (map (λ m. m.items) new)) (sym (set-get_or ms p c.index-mappings-link.result)) (none_claimed l lists past)
