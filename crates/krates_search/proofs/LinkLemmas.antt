-- One link is changed, and what that does to marks and to features that wait.
use Rattle.std.proofs.Common.{◌≡◌, ◌⊎◌, ℕ, ◌<◌, List, [], ◌∷◌, ◌++◌, length, map, get_or, set, true, Option, None, Some, is_some, ◌↔◌, Vec, Global, Contains, refl, sym, ap, ◌∙◌, subst, inl, inr, arith}
use Rattle.std.proofs.lemmas.Bool.{cases_order}
use Rattle.std.proofs.lemmas.List.{length-map, map-set}
use Rattle.std.proofs.lemmas.List.Elements.{Contains-push, Contains-push_cases, Contains-append_left, All-contains}
use Rattle.std.proofs.lemmas.Option.{same_Some, slice_get-map, slice_get-get_or, slice_get_within}
use Rattle.std.specs.List.{slice_get, AllZip}
use Rattle.std.specs.Option.{option_map}
use Rattle.std.specs.Vec.{with_item}
use Rattle.krates_cm.specs.Document.{NodeModel}
use Rattle.krates_search.specs.Links.{HasLink, HasLinks, IsMarked, TellsMark, NotesAsked, AreNewLinks, IsMarkedBy, AreNew, IsNewLink, HasMarked, LinkAt, HasWaiter}
use Rattle.krates_rules.specs.Resolved.{Resolved}
use Rattle.krates_search.specs.declared.links.Link.{Link}
use Rattle.krates_search.specs.declared.links.Links.{Links}
use Rattle.krates_search.specs.declared.links.Waiting.{Waiting}
use Rattle.krates_rules.proofs.PutElements.{none_there}
use Rattle.krates_rules.proofs.Readings.{left_of, right_of}
use Rattle.krates_selection.proofs.Places.{set_here, set_there}
use Rattle.krates_rules.proofs.Standings.{contains_at}

-- ---- lists with one element changed

same_or_not : (j k : ℕ) → (j ≡ k) ⊎ (j ≡ k → ⊥)
same_or_not j k = elim (cases_order j k) [
  | inl e ↦ inl e
  | inr r ↦ elim r [ inl lt ↦ inr (λ e. omega (arith, e, lt)) | inr lt ↦ inr (λ e. omega (arith, e, lt)) ]
]

-- ---- one link is changed

-- this link now is where the other was, and nothing else has changed
pub record IsReplaced (old new : Links) (place index : ℕ) (was is : Link) : Type 0 where
  pub before : LinkAt old place index was
  pub after : LinkAt new place index is
  pub forth : (p i : ℕ) (l : Link) → LinkAt old p i l → LinkAt new p i l ⊎ ((p ≡ place) × (i ≡ index) × (l ≡ was))
  pub back : (p i : ℕ) (l : Link) → LinkAt new p i l → LinkAt old p i l ⊎ ((p ≡ place) × (i ≡ index) × (l ≡ is))

abbrev rows_of : Links → List (List Link)
rows_of x = map (λ v. v.items) x.of_nodes.items

-- a link of the rows
abbrev Row : List (List Link) → ℕ → List Link → Type 0
Row rows p row = slice_get rows p ≡ Some row

-- the other links of the changed row, and the links of the other rows, are the old ones
from_set : (rows : List (List Link)) (place index : ℕ) (row : List Link) (is : Link) (p i : ℕ) (l : Link) (there : List Link) → Row rows place row → Row (set rows place (set row index is)) p there → slice_get there i ≡ Some l
    → ((old : List Link) × Row rows p old × (slice_get old i ≡ Some l)) ⊎ ((p ≡ place) × (i ≡ index))
from_set rows place index row is p i l there at h here = elim (same_or_not p place) [
  | inl e ↦ elim (same_or_not i index) [
    | inl f ↦ inr (e, f)
    | inr ne ↦ (
        let now : there ≡ set row index is = same_Some there (set row index is) (sym h ∙ ap (slice_get (set rows place (set row index is))) e ∙ set_here rows place (set row index is) (slice_get_within rows place row at)) in
        inl (row, ap (slice_get rows) e ∙ at, sym (set_there row index i is ne) ∙ ap (λ ls. slice_get ls i) (sym now) ∙ here))
  ]
  | inr ne ↦ inl (there, sym (set_there rows place p (set row index is) ne) ∙ h, here)
]

to_set : (rows : List (List Link)) (place index : ℕ) (row : List Link) (is : Link) (p i : ℕ) (l : Link) (there : List Link) → Row rows place row → Row rows p there → slice_get there i ≡ Some l
    → ((new : List Link) × Row (set rows place (set row index is)) p new × (slice_get new i ≡ Some l)) ⊎ ((p ≡ place) × (i ≡ index))
to_set rows place index row is p i l there at h here = elim (same_or_not p place) [
  | inl e ↦ elim (same_or_not i index) [
    | inl f ↦ inr (e, f)
    | inr ne ↦ (
        let now : there ≡ row = same_Some there row (sym h ∙ ap (slice_get rows) e ∙ at) in
        inl (set row index is, ap (slice_get (set rows place (set row index is))) e ∙ set_here rows place (set row index is) (slice_get_within rows place row at), set_there row index i is ne ∙ ap (λ ls. slice_get ls i) (sym now) ∙ here))
  ]
  | inr ne ↦ inl (there, set_there rows place p (set row index is) ne ∙ h, here)
]

-- a place has only one link
pub one_link : (x : Links) (p i : ℕ) (a b : Link) → LinkAt x p i a → LinkAt x p i b → a ≡ b
one_link x p i a b s t =
    let row = same_Some s.of_node t.of_node (sym s.at ∙ t.at) in
    same_Some a b (sym s.here ∙ ap (λ ls. slice_get ls i) row ∙ t.here)

-- what two reads by index return
pub link_read : (x : Links) (place index : ℕ) (row : Vec Link Global) (was : Link) → HasLink x place index → row ≡ get_or x.of_nodes.items place row → was ≡ get_or row.items index was → LinkAt x place index was
link_read x place index row was has read there =
    let h = has.1 in
    let long = length-map x.of_nodes.items (λ v. v.items) in
    let lt : place < length x.of_nodes.items = omega (arith, slice_get_within (rows_of x) place h.of_node h.at, long) in
    let at : slice_get (rows_of x) place ≡ Some row.items =
    slice_get-map (λ (v : Vec Link Global). v.items) x.of_nodes.items place ∙ ap (option_map (λ (v : Vec Link Global). v.items)) (slice_get-get_or x.of_nodes.items place row lt ∙ ap (λ v. Some v) (sym read)) in
    let same : h.of_node ≡ row.items = same_Some h.of_node row.items (sym h.at ∙ at) in
    let within : index < length row.items = subst (λ (ls : List Link). index < length ls) same (slice_get_within h.of_node index has.0 h.here) in
    record { of_node = row.items; at = at; here = slice_get-get_or row.items index was within ∙ ap (λ l. Some l) (sym there) }

-- the row of a link that was read
row_read : (x : Links) (place index : ℕ) (row : Vec Link Global) → HasLink x place index → row ≡ get_or x.of_nodes.items place row → Row (rows_of x) place row.items
row_read x place index row has read =
    let h = has.1 in
    let long = length-map x.of_nodes.items (λ v. v.items) in
    let lt : place < length x.of_nodes.items = omega (arith, slice_get_within (rows_of x) place h.of_node h.at, long) in
    slice_get-map (λ (v : Vec Link Global). v.items) x.of_nodes.items place ∙ ap (option_map (λ (v : Vec Link Global). v.items)) (slice_get-get_or x.of_nodes.items place row lt ∙ ap (λ v. Some v) (sym read))

-- what a write by two indices does
pub replaced : (x : Links) (place index : ℕ) (row : Vec Link Global) (was is : Link) → HasLink x place index → row ≡ get_or x.of_nodes.items place row → was ≡ get_or row.items index was
    → IsReplaced x (record { of_nodes = with_item x.of_nodes place (with_item row index is) }) place index was is
replaced x place index row was is has read there =
    let new : Links = record { of_nodes = with_item x.of_nodes place (with_item row index is) } in
    let before = link_read x place index row was has read there in
    let at = row_read x place index row has read in
    let rows : rows_of new ≡ set (rows_of x) place (set row.items index is) = map-set (λ (v : Vec Link Global). v.items) x.of_nodes.items place (with_item row index is) in
    let mine : slice_get row.items index ≡ Some was = subst (λ (ls : List Link). slice_get ls index ≡ Some was) (same_Some before.of_node row.items (sym before.at ∙ at)) before.here in
    let after : LinkAt new place index is = record {
      of_node = set row.items index is;
      at = ap (λ rs. slice_get rs place) rows ∙ set_here (rows_of x) place (set row.items index is) (slice_get_within (rows_of x) place row.items at);
      here = set_here row.items index is (slice_get_within row.items index was mine);
    } in
    record {
      before = before;
      after = after;
      forth = λ p i l h. elim (to_set (rows_of x) place index row.items is p i l h.of_node at h.at h.here) [
        | inl o ↦ inl (record { of_node = o.0; at = ap (λ rs. slice_get rs p) rows ∙ o.1; here = o.2 })
        | inr e ↦ inr (e.0, e.1, one_link x place index l was (moved x p i l e.0 e.1 h) before)
      ];
      back = λ p i l h. elim (from_set (rows_of x) place index row.items is p i l h.of_node at (ap (λ rs. slice_get rs p) (sym rows) ∙ h.at) h.here) [
        | inl o ↦ inl (record { of_node = o.0; at = o.1; here = o.2 })
        | inr e ↦ inr (e.0, e.1, one_link new place index l is (moved new p i l e.0 e.1 h) after)
      ];
    }
  where
    moved : (y : Links) (p i : ℕ) (l : Link) → p ≡ place → i ≡ index → LinkAt y p i l → LinkAt y place index l
    moved y p i l a b h = subst (λ (n : ℕ). LinkAt y n index l) a (subst (λ (n : ℕ). LinkAt y p n l) b h)

moved_at : (y : Links) (p i place index : ℕ) (l : Link) → p ≡ place → i ≡ index → LinkAt y place index l → LinkAt y p i l
moved_at y p i place index l a b h = subst (λ (n : ℕ). LinkAt y n i l) (sym a) (subst (λ (n : ℕ). LinkAt y place n l) (sym b) h)

-- ---- its edges are asked for, it is marked, or one more feature waits

-- a mark that isn't changed stays, and no other is new
marked_forth : (x y : Links) (place index p i n : ℕ) (was is : Link) → IsReplaced x y place index was is → is.kept ≡ was.kept → IsMarkedBy x p i n → IsMarkedBy y p i n
marked_forth x y place index p i n was is h same m = elim (h.forth p i m.link m.at) [
  | inl o ↦ record { link = m.link; at = o; kept = m.kept }
  | inr e ↦ record { link = is; at = moved_at y p i place index is e.0 e.1 h.after; kept = same ∙ ap (λ (l : Link). l.kept) (sym e.2) ∙ m.kept }
]

marked_back : (x y : Links) (place index p i n : ℕ) (was is : Link) → IsReplaced x y place index was is → is.kept ≡ was.kept → IsMarkedBy y p i n → IsMarkedBy x p i n
marked_back x y place index p i n was is h same m = elim (h.back p i m.link m.at) [
  | inl o ↦ record { link = m.link; at = o; kept = m.kept }
  | inr e ↦ record { link = was; at = moved_at x p i place index was e.0 e.1 h.before; kept = sym same ∙ ap (λ (l : Link). l.kept) (sym e.2) ∙ m.kept }
]

pub asked_now : (x y : Links) (place index : ℕ) (was is : Link) → IsReplaced x y place index was is → is.kept ≡ was.kept → is.waiting ≡ was.waiting → is.is_asked ≡ true → NotesAsked x y place index
asked_now x y place index was is h same_kept same noted = record {
  asked = record { link = is; at = h.after; is_asked = noted };
  stays = λ p i m. elim (h.forth p i m.link m.at) [
    | inl o ↦ record { link = m.link; at = o; is_asked = m.is_asked }
    | inr e ↦ record { link = is; at = moved_at y p i place index is e.0 e.1 h.after; is_asked = noted }
  ];
  from = λ p i m. elim (h.back p i m.link m.at) [
    | inl o ↦ inl (record { link = m.link; at = o; is_asked = m.is_asked })
    | inr e ↦ inr (e.0, e.1)
  ];
  marks = λ p i n. (marked_forth x y place index p i n was is h same_kept, marked_back x y place index p i n was is h same_kept);
  waits = λ p i v. (
    λ w. elim (h.forth p i w.link w.at) [
      | inl o ↦ record { link = w.link; at = o; among = w.among }
      | inr e ↦ record { link = is; at = moved_at y p i place index is e.0 e.1 h.after; among = subst (λ (ws : Vec Waiting Global). Contains ws.items v) (ap (λ (l : Link). l.waiting) e.2 ∙ sym same) w.among }
    ],
    λ w. elim (h.back p i w.link w.at) [
      | inl o ↦ record { link = w.link; at = o; among = w.among }
      | inr e ↦ record { link = was; at = moved_at x p i place index was e.0 e.1 h.before; among = subst (λ (ws : Vec Waiting Global). Contains ws.items v) (ap (λ (l : Link). l.waiting) e.2 ∙ same) w.among }
    ],
  );
  links = λ p i l. elim (h.forth p i l.0 l.1) [
    | inl o ↦ (l.0, o)
    | inr e ↦ (is, moved_at y p i place index is e.0 e.1 h.after)
  ];
}

pub marked_now : (x y : Links) (place index step : ℕ) (was is : Link) (waiters : List Waiting) → IsReplaced x y place index was is → is.kept ≡ Some step → is.is_asked ≡ was.is_asked → is.waiting.items ≡ [] → waiters ≡ was.waiting.items
    → HasMarked x y place index step waiters
marked_now x y place index step was is waiters h kept same_asked none taken = record {
  marked = record { link = is; at = h.after; kept = kept };
  stays = λ p i m. elim (h.forth p i m.1.link m.1.at) [
    | inl o ↦ (m.0, record { link = m.1.link; at = o; kept = m.1.kept })
    | inr e ↦ (step, record { link = is; at = moved_at y p i place index is e.0 e.1 h.after; kept = kept })
  ];
  from = λ p i n m. elim (h.back p i m.link m.at) [
    | inl o ↦ inl (record { link = m.link; at = o; kept = m.kept })
    | inr e ↦ inr (e.0, e.1, same_Some n step (sym m.kept ∙ ap (λ (l : Link). l.kept) e.2 ∙ kept))
  ];
  waits = λ p i v w. elim (h.forth p i w.link w.at) [
    | inl o ↦ inl (record { link = w.link; at = o; among = w.among })
    | inr e ↦ inr (e.0, e.1, subst (λ (ws : List Waiting). Contains ws v) (ap (λ (l : Link). l.waiting.items) e.2 ∙ sym taken) w.among)
  ];
  waited = λ p i v w. elim (h.back p i w.link w.at) [
    | inl o ↦ record { link = w.link; at = o; among = w.among }
    | inr e ↦ absurd (none_there v (subst (λ (ws : List Waiting). Contains ws v) (ap (λ (l : Link). l.waiting.items) e.2 ∙ none) w.among))
  ];
  took = λ v c. record { link = was; at = h.before; among = subst (λ (ws : List Waiting). Contains ws v) taken c };
  none_left = λ v w. none_there v (subst (λ (ws : List Waiting). Contains ws v) (ap (λ (l : Link). l.waiting.items) (one_link y place index w.link is w.at h.after) ∙ none) w.among);
  asked = λ p i m. elim (h.back p i m.link m.at) [
    | inl o ↦ record { link = m.link; at = o; is_asked = m.is_asked }
    | inr e ↦ record { link = was; at = moved_at x p i place index was e.0 e.1 h.before; is_asked = sym same_asked ∙ ap (λ (l : Link). l.is_asked) (sym e.2) ∙ m.is_asked }
  ];
  links = λ p i l. elim (h.forth p i l.0 l.1) [
    | inl o ↦ (l.0, o)
    | inr e ↦ (is, moved_at y p i place index is e.0 e.1 h.after)
  ];
}

pub waits_now : (x y : Links) (place index : ℕ) (was is : Link) (waiter : Waiting) → IsReplaced x y place index was is → is.kept ≡ was.kept → is.is_asked ≡ was.is_asked → is.waiting.items ≡ was.waiting.items ++ waiter ∷ [] → HasWaiter x y place index waiter
waits_now x y place index was is waiter h same same_asked more = record {
  waits = record { link = is; at = h.after; among = subst (λ (ws : List Waiting). Contains ws waiter) (sym more) (Contains-push was.waiting.items waiter) };
  stays = λ p i v w. elim (h.forth p i w.link w.at) [
    | inl o ↦ record { link = w.link; at = o; among = w.among }
    | inr e ↦ (
        let among = subst (λ (l : Link). Contains l.waiting.items v) e.2 w.among in
        record { link = is; at = moved_at y p i place index is e.0 e.1 h.after; among = subst (λ (ws : List Waiting). Contains ws v) (sym more) (Contains-append_left was.waiting.items (waiter ∷ []) v among) })
  ];
  from = λ p i v w. elim (h.back p i w.link w.at) [
    | inl o ↦ inl (record { link = w.link; at = o; among = w.among })
    | inr e ↦ (
        let among = subst (λ (ws : List Waiting). Contains ws v) more (subst (λ (l : Link). Contains l.waiting.items v) e.2 w.among) in
        elim (Contains-push_cases was.waiting.items waiter v among) [
          | inl o ↦ inl (record { link = was; at = moved_at x p i place index was e.0 e.1 h.before; among = o })
          | inr is_it ↦ inr (e.0, e.1, sym is_it)
        ])
  ];
  marks = λ p i n. (marked_forth x y place index p i n was is h same, marked_back x y place index p i n was is h same);
  asked = λ p i m. elim (h.back p i m.link m.at) [
    | inl o ↦ record { link = m.link; at = o; is_asked = m.is_asked }
    | inr e ↦ record { link = was; at = moved_at x p i place index was e.0 e.1 h.before; is_asked = sym same_asked ∙ ap (λ (l : Link). l.is_asked) (sym e.2) ∙ m.is_asked }
  ];
  links = λ p i l. elim (h.forth p i l.0 l.1) [
    | inl o ↦ (l.0, o)
    | inr e ↦ (is, moved_at y p i place index is e.0 e.1 h.after)
  ];
}

-- ---- all links are new

pub there_is : {A : Type 0} (xs : List A) (i : ℕ) → i < length xs → (x : A) × (slice_get xs i ≡ Some x)
there_is [] i lt = absurd (omega (arith, lt))
there_is (x ∷ xs) i lt = (get_or (x ∷ xs) i x, slice_get-get_or (x ∷ xs) i x lt)

pub links_for_all : (r : Resolved) (x : Links) → AllZip AreNewLinks r.graph.nodes (map (λ v. v.items) x.of_nodes.items) → HasLinks r x
links_for_all r x z p c place index dep =
    let row = right_of AreNewLinks r.graph.nodes (rows_of x) place dep.node.node z dep.node.at in
    let within = slice_get_within dep.node.node.deps index dep.dep dep.at in
    let long = row.2.each in
    let link = there_is row.0 index (omega (arith, within, long)) in
    (link.0, record { of_node = row.0; at = row.1; here = link.1 })

new_link : (nodes : List NodeModel) (x : Links) (place index : ℕ) (link : Link) → AllZip AreNewLinks nodes (rows_of x) → LinkAt x place index link → IsNewLink link
new_link nodes x place index link z at =
    let n = left_of AreNewLinks nodes (rows_of x) place at.of_node z at.at in
    All-contains IsNewLink at.of_node link n.2.new (contains_at at.of_node index link at.here)

pub all_new : (nodes : List NodeModel) (x : Links) → AllZip AreNewLinks nodes (map (λ v. v.items) x.of_nodes.items) → AreNew x
all_new nodes x z = record {
  unasked = λ place index m. let new = new_link nodes x place index m.link z m.at in absurd (cc (new.unasked, m.is_asked));
  unmarked = λ place index m. let new = new_link nodes x place index m.1.link z m.1.at in absurd (cc (new.unmarked, m.1.kept));
  none_waits = λ place index g w.
      let new = new_link nodes x place index w.waits.link z w.waits.at in
      none_there w.waiter (subst (λ (ws : List Waiting). Contains ws w.waiter) new.none_waits w.waits.among);
}

-- ---- marks

-- what is read of a link says whether it is marked
pub tells_mark : (x : Links) (place index : ℕ) (link : Link) → LinkAt x place index link → TellsMark x place index link.kept
tells_mark x place index link at = kept_by link.kept refl
  where
    kept_by : (o : Option ℕ) → link.kept ≡ o → TellsMark x place index o
    kept_by None is = λ m. absurd (cc (is, ap (λ (l : Link). l.kept) (one_link x place index link m.1.link at m.1.at), m.1.kept))
    kept_by (Some n) is = record { link = link; at = at; kept = is }

-- whether there is a mark
pub is_marked : (x : Links) (place index : ℕ) (o : Option ℕ) → TellsMark x place index o → (is_some o ≡ true) ↔ IsMarked x place index
is_marked x place index None none = (λ e. absurd cc, λ m. absurd (none m))
is_marked x place index (Some n) by = (λ e. (n, by), λ m. refl)
