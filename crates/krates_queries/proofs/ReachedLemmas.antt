-- What is reached along edges: a work list of all that is reached, paths, and the crates among the nodes of some numbers.
use Rattle.std.proofs.Common.{◌≡◌, ◌⊎◌, ◌↔◌, ℕ, zero, suc, ◌+◌, ◌<◌, ◌≤◌, Bool, true, false, List, [], ◌∷◌, ◌++◌, length, take, get_or, Some, None, Contains, slice_get, append_assoc, refl, sym, ap, ◌∙◌, subst, inl, inr, arith, map, IsTrue, ◌==◌, cond, filter, Option, is_some, All}
use Rattle.std.proofs.lemmas.List.Elements.{Contains-append_left, Contains-append_right, Contains-append_cases, Contains-push_cases, All-contains}
use Rattle.std.proofs.lemmas.Bool.{cases_lt}
use Rattle.std.proofs.lemmas.List.{append-nil, take_more}
use Rattle.std.proofs.lemmas.Option.{slice_get-get_or, slice_get_within, none-some, same_Some}
use Rattle.std.specs.Bool.{OnFalse, OnTrue, ⊤}
use Rattle.krates_drawing.specs.Paths.{Reaches, begins, goes_on, LeadsWithout, Passes}
use Rattle.krates_graph.specs.Agenda.{PutNumbers}
use Rattle.krates_graph.specs.Graph.{HasEnds, end_of, numbers_at}
use Rattle.krates_graph.specs.declared.graph.edge.Direction.{Direction}
use Rattle.krates_graph.specs.declared.graph.edge.Direction.TheVariants.{Outgoing, Incoming}
use Rattle.krates_graph.specs.declared.graph.edge.GraphEdge.{GraphEdge}
use Rattle.krates_queries.specs.KrateNodes.{Match, match_at, match_in, numbered_crates}
use Rattle.krates_queries.specs.Reached.{Grows, IsFarEnd, IsFarEndOf, IsNext, far_end, IsReached, line_view, HasPath, AreAllDependents, DependentsReach, DirectAreAmongAll}
use Rattle.krates_queries.proofs.DirectLemmas.{edge_at, at_edge, got, contains_got, cons_there}
use Rattle.krates_rules.proofs.Members.{member_of, contains_of, mapped_of, member_any, member_map, passing_of, Member}
use Rattle.std.proofs.lemmas.Bool.Decides.{Decides-eqb}
use Rattle.std.specs.List.{list_any, cons_option, filter_map}
use Rattle.krates_drawing.specs.Drawing.{PlannedEdge}
use Rattle.krates_drawing.specs.Views.{tie_view}
use Rattle.krates_drawing.specs.declared.edge.Edge.{Edge}
use Rattle.krates_rules.specs.declared.kind.DepKind.{DepKind}
use Rattle.krates_queries.specs.Direct.{HasEdge, AreConnected, Joined, value_in, IsDependent}
use Rattle.krates_drawing.specs.declared.node.Node.{Node}
use Rattle.std.proofs.lemmas.List.Kept.{IsStrictlySortedBy-filter}
use Rattle.std.specs.List.Sorted.{IsStrictlySortedBy}
use Rattle.std.specs.Ordering.{nat_cmp}
use Rattle.krates_drawing.specs.declared.node.Node.TheVariants.{Krate, Feature}

-- ---- putting numbers

pub grows_none : (New : ℕ → Type 0) (a : PutNumbers) → ((n : ℕ) → New n → ⊥) → Grows New a a
grows_none New a none = record { size = refl; taken = refl; more = []; kept = sym (append-nil a.put); right = λ n c. absurd (member_of [] n c); all = λ n h. absurd (none n h) }

-- a number that was put before
pub grows_old : (New : ℕ → Type 0) (a : PutNumbers) (x : ℕ) → Contains a.put x → ((n : ℕ) → New n → x ≡ n) → Grows New a a
grows_old New a x c only = record { size = refl; taken = refl; more = []; kept = sym (append-nil a.put); right = λ n c. absurd (member_of [] n c); all = λ n h. subst (Contains a.put) (only n h) c }

-- a new number
pub grows_new : (New : ℕ → Type 0) (a : PutNumbers) (x : ℕ) → New x → ((n : ℕ) → New n → x ≡ n) → Grows New a (record a { put = a.put ++ x ∷ [] })
grows_new New a x new only = record {
  size = refl;
  taken = refl;
  more = x ∷ [];
  kept = refl;
  right = λ n c. elim (member_of (x ∷ []) n c) [ inl e ↦ subst New e new | inr m ↦ absurd m ];
  all = λ n h. subst (Contains (a.put ++ x ∷ [])) (only n h) (Contains-append_right a.put (x ∷ []) x (contains_of (x ∷ []) x (inl refl)));
}

pub grows_kept : (New : ℕ → Type 0) (a b : PutNumbers) (n : ℕ) → Grows New a b → Contains a.put n → Contains b.put n
grows_kept New a b n g c = subst (λ xs. Contains xs n) (sym g.kept) (Contains-append_left a.put g.more n c)

-- either of these
pub put_grows : (New : ℕ → Type 0) (r : Bool) (a b : PutNumbers) (x : ℕ) → New x → ((n : ℕ) → New n → x ≡ n) → OnFalse r (Contains a.put x) → OnTrue r (b ≡ record a { put = a.put ++ x ∷ [] }) → OnFalse r (b ≡ a) → Grows New a b
put_grows New true a b x new only old added same = subst (Grows New a) (sym added) (grows_new New a x new only)
put_grows New false a b x new only old added same = subst (Grows New a) (sym same) (grows_old New a x old only)

-- one call after another
pub grows_both : (A B C : ℕ → Type 0) (a b c : PutNumbers) → ((n : ℕ) → A n → C n) → ((n : ℕ) → B n → C n) → ((n : ℕ) → C n → A n ⊎ B n) → Grows A a b → Grows B b c → Grows C a c
grows_both A B C a b c from_a from_b of g h = record {
  size = h.size ∙ g.size;
  taken = h.taken ∙ g.taken;
  more = g.more ++ h.more;
  kept = h.kept ∙ ap (λ xs. xs ++ h.more) g.kept ∙ append_assoc a.put g.more h.more;
  right = λ n m. elim (Contains-append_cases g.more h.more n m) [ inl x ↦ from_a n (g.right n x) | inr y ↦ from_b n (h.right n y) ];
  all = λ n x. elim (of n x) [ inl u ↦ grows_kept B b c n h (g.all n u) | inr v ↦ h.all n v ];
}

-- what was put into an empty agenda
pub put_first : (New : ℕ → Type 0) (count : ℕ) (a b : PutNumbers) → a ≡ record { size = count; put = []; taken = 0 } → Grows New a b → (n : ℕ) → Contains b.put n ↔ New n
put_first New count a b empty g n =
    let put : b.put ≡ g.more = g.kept ∙ ap (λ (x : PutNumbers). x.put ++ g.more) empty in
    (λ c. g.right n (subst (λ xs. Contains xs n) put c), g.all n)

-- ---- a list, element by element

pub in_front : (xs : List ℕ) (i x n : ℕ) → i < length xs → x ≡ get_or xs i x → Contains (take (i + 1) xs) n ↔ (Contains (take i xs) n ⊎ (x ≡ n))
in_front xs i x n lt is =
    let same : take (i + 1) xs ≡ take i xs ++ x ∷ [] = take_more xs i x lt ∙ ap (λ y. take i xs ++ y ∷ []) (sym is) in (
      λ c. Contains-push_cases (take i xs) x n (subst (λ ys. Contains ys n) same c),
      λ h. subst (λ ys. Contains ys n) (sym same) (elim h [
        | inl c ↦ Contains-append_left (take i xs) (x ∷ []) n c
        | inr e ↦ Contains-append_right (take i xs) (x ∷ []) n (contains_of (x ∷ []) n (inl e))
      ]),
    )

pub past : {A : Type 0} (xs : List A) (k : ℕ) → slice_get xs k ≡ None → length xs ≤ k
past xs k none = elim (cases_lt k (length xs)) [
  | inl lt ↦ (let w = got xs k lt in absurd (none-some w.0 (sym none ∙ w.1)))
  | inr le ↦ le
]

-- ---- the other ends

-- it is among the nodes
pub far_within : {E : Type 0} (count : ℕ) (e : GraphEdge E) (d : Direction) → HasEnds count e → far_end d e < count
far_within count e Outgoing h = h.1
far_within count e Incoming h = h.0

-- an edge has only one
pub one_end : {E : Type 0} (P : E → Type 0) (edges : List (GraphEdge E)) (d : Direction) (k n : ℕ) (e : GraphEdge E) → slice_get edges k ≡ Some e → (w : IsFarEnd P edges d k n) → w.edge ≡ e
one_end P edges d k n e at w = same_Some w.edge e (sym w.at ∙ at)

pub end_here : {E : Type 0} (P : E → Type 0) (edges : List (GraphEdge E)) (d : Direction) (k n : ℕ) (e : GraphEdge E) → slice_get edges k ≡ Some e → IsFarEnd P edges d k n → far_end d e ≡ n
end_here {E} P edges d k n e at w = ap (λ (x : GraphEdge E). far_end d x) (sym (one_end P edges d k n e at w)) ∙ w.far

pub end_passes : {E : Type 0} (P : E → Type 0) (edges : List (GraphEdge E)) (d : Direction) (k n : ℕ) (e : GraphEdge E) → slice_get edges k ≡ Some e → IsFarEnd P edges d k n → P e.weight
end_passes {E} P edges d k n e at w = subst (λ (x : GraphEdge E). P x.weight) (one_end P edges d k n e at w) w.passes

-- those of one more edge
pub ends_more : {E : Type 0} (P : E → Type 0) (edges : List (GraphEdge E)) (d : Direction) (ks : List ℕ) (i k : ℕ) (a b c : PutNumbers) → i < length ks → k ≡ get_or ks i k → Grows (IsFarEndOf P edges d (take i ks)) a b
    → Grows (IsFarEnd P edges d k) b c → Grows (IsFarEndOf P edges d (take (i + 1) ks)) a c
ends_more P edges d ks i k a b c lt is g h =
    grows_both (IsFarEndOf P edges d (take i ks)) (IsFarEnd P edges d k) (IsFarEndOf P edges d (take (i + 1) ks)) a b c
    (λ n w. record { number = w.number; among = (in_front ks i k w.number lt is).1 (inl w.among); end = w.end })
    (λ n w. record { number = k; among = (in_front ks i k k lt is).1 (inr refl); end = w })
    (λ n w. elim ((in_front ks i k w.number lt is).0 w.among) [
      | inl c ↦ inl (record { number = w.number; among = c; end = w.end })
      | inr e ↦ inr (subst (λ j. IsFarEnd P edges d j n) (sym e) w.end)
    ])
    g h

pub no_ends : {E : Type 0} (P : E → Type 0) (edges : List (GraphEdge E)) (d : Direction) (a : PutNumbers) → Grows (IsFarEndOf P edges d []) a a
no_ends P edges d a = grows_none (IsFarEndOf P edges d []) a (λ n w. member_of [] w.number w.among)

-- ---- following

-- what is reached from these along edges that pass
abbrev pub IsFound : {E : Type 0} → (E → Type 0) → List (GraphEdge E) → Direction → List ℕ → ℕ → Type 0
IsFound P edges d starts = Reaches (IsNext P edges d) (Contains starts)

-- what was put is reached; the starts were put, and so were the other ends of the edges of what was taken
pub record IsFollowed {E : Type 0} (P : E → Type 0) (count : ℕ) (edges : List (GraphEdge E)) (d : Direction) (starts : List ℕ) (a : PutNumbers) : Type 0 where
  pub size : a.size ≡ count
  pub sound : (n : ℕ) → Contains a.put n → IsFound P edges d starts n
  pub begun : (n : ℕ) → Contains starts n → Contains a.put n
  pub followed : (i n m : ℕ) → i < a.taken → slice_get a.put i ≡ Some n → IsFarEndOf P edges d (numbers_at edges n d) m → Contains a.put m

end_reached : {E : Type 0} (P : E → Type 0) (edges : List (GraphEdge E)) (d : Direction) (starts : List ℕ) (n m : ℕ) → IsFound P edges d starts n → IsFarEndOf P edges d (numbers_at edges n d) m → IsFound P edges d starts m
end_reached {E} P edges d starts n m here w =
    let e = w.end.edge in
    let at = edge_at edges n d w.number (member_of (numbers_at edges n d) w.number w.among) in
    let same : at.edge ≡ e = same_Some at.edge e (sym at.at ∙ w.end.at) in
    let near : end_of d e ≡ n = ap (λ (x : GraphEdge E). end_of d x) (sym same) ∙ at.end in
    goes_on {n = n} {m = m} here (record { edge = e; among = contains_got edges w.number e w.end.at; passes = w.end.passes; near = near; far = w.end.far })

-- at the start
pub followed_first : {E : Type 0} (P : E → Type 0) (count : ℕ) (edges : List (GraphEdge E)) (d : Direction) (a : PutNumbers) → a.size ≡ count → a.taken ≡ 0 → IsFollowed P count edges d a.put a
followed_first P count edges d a size none = record {
  size = size;
  sound = λ n c. begins {n = n} c;
  begun = λ n c. c;
  followed = λ i n m lt at w. absurd (omega (arith, none, lt));
}

got_left : (xs ys : List ℕ) (k n : ℕ) → k < length xs → slice_get (xs ++ ys) k ≡ Some n → slice_get xs k ≡ Some n
got_left [] ys k n lt e = absurd (omega arith)
got_left (x ∷ xs) ys zero n lt e = e
got_left (x ∷ xs) ys (suc k) n lt e = got_left xs ys k n (omega arith) e

-- one more number is taken and followed
pub followed_more : {E : Type 0} (P : E → Type 0) (count : ℕ) (edges : List (GraphEdge E)) (d : Direction) (starts : List ℕ) (a b c : PutNumbers) (x : ℕ) → IsFollowed P count edges d starts a → slice_get a.put a.taken ≡ Some x
    → b ≡ record a { taken = a.taken + 1 } → Grows (IsFarEndOf P edges d (numbers_at edges x d)) b c → IsFollowed P count edges d starts c
followed_more P count edges d starts a b c x f at took g =
    let put : b.put ≡ a.put = ap (λ (z : PutNumbers). z.put) took in
    let taken : c.taken ≡ a.taken + 1 = g.taken ∙ ap (λ (z : PutNumbers). z.taken) took in
    let kept : c.put ≡ a.put ++ g.more = g.kept ∙ ap (λ xs. xs ++ g.more) put in
    let within : a.taken < length a.put = slice_get_within a.put a.taken x at in
    let here = f.sound x (contains_got a.put a.taken x at) in
    record {
      size = g.size ∙ ap (λ (z : PutNumbers). z.size) took ∙ f.size;
      sound = λ n h. elim (Contains-append_cases a.put g.more n (subst (λ xs. Contains xs n) kept h)) [
        | inl old ↦ f.sound n old
        | inr new ↦ end_reached P edges d starts x n here (g.right n new)
      ];
      begun = λ n h. subst (λ xs. Contains xs n) (sym kept) (Contains-append_left a.put g.more n (f.begun n h));
      followed = λ i n m lt is w.
          (let below : i < length a.put = omega (arith, taken, lt, within) in
          let old : slice_get a.put i ≡ Some n = got_left a.put g.more i n below (subst (λ xs. slice_get xs i ≡ Some n) kept is) in
          elim (cases_lt i a.taken) [
            | inl before ↦ subst (λ xs. Contains xs m) (sym kept) (Contains-append_left a.put g.more m (f.followed i n m before old w))
            | inr after ↦
                (let same : i ≡ a.taken = omega (arith, taken, lt, after) in
                let is_x : n ≡ x = same_Some n x (sym old ∙ ap (slice_get a.put) same ∙ at) in
                g.all m (subst (λ z. IsFarEndOf P edges d (numbers_at edges z d) m) is_x w))
          ]);
    }

-- ---- all that is reached

-- once all that was put was followed, all that is reached was put
pub all_put : {E : Type 0} (P : E → Type 0) (count : ℕ) (edges : List (GraphEdge E)) (d : Direction) (starts : List ℕ) (a : PutNumbers) → IsFollowed P count edges d starts a → length a.put ≤ a.taken
    → (n : ℕ) → IsFound P edges d starts n → Contains a.put n
all_put P count edges d starts a f done _ (begins {n} s) = f.begun n s
all_put P count edges d starts a f done _ (goes_on {n} {m} before next) =
    let source = all_put P count edges d starts a f done n before in
    let c = next.among in
    let at : slice_get edges c.0 ≡ Some next.edge = slice_get-get_or edges c.0 next.edge c.1 ∙ ap (λ e. Some e) c.2 in
    let number = contains_of (numbers_at edges n d) c.0 (at_edge edges n d c.0 (record { edge = next.edge; at = at; end = next.near })) in
    let place : slice_get a.put source.0 ≡ Some n = slice_get-get_or a.put source.0 n source.1 ∙ ap (λ k. Some k) source.2 in
    f.followed source.0 n m (omega (arith, source.1, done)) place (record { number = c.0; among = number; end = record { edge = next.edge; at = at; passes = next.passes; far = next.far } })

pub exactly_put : {E : Type 0} (P : E → Type 0) (count : ℕ) (edges : List (GraphEdge E)) (d : Direction) (starts : List ℕ) (a : PutNumbers) → IsFollowed P count edges d starts a → length a.put ≤ a.taken
    → (n : ℕ) → Contains a.put n ↔ IsFound P edges d starts n
exactly_put P count edges d starts a f done n = (f.sound n, all_put P count edges d starts a f done n)

-- ==== paths: turned round, with an edge more in front, and beside other paths

-- ---- paths beside paths

-- the same steps, and more starts
pub reaches_more : (Leads Others : ℕ → ℕ → Type 0) (A B : ℕ → Type 0) → ((n m : ℕ) → Leads n m → Others n m) → ((n : ℕ) → A n → B n) → (n : ℕ) → Reaches Leads A n → Reaches Others B n
reaches_more Leads Others A B step start _ (begins {n} s) = begins {n = n} (start n s)
reaches_more Leads Others A B step start _ (goes_on {n} {m} before leads) = goes_on {n = n} {m = m} (reaches_more Leads Others A B step start n before) (step n m leads)

-- one step, and then a path
pub step_before : (Leads : ℕ → ℕ → Type 0) (p q : ℕ) → Leads p q → (n : ℕ) → Reaches Leads (λ k. k ≡ q) n → Reaches Leads (λ k. k ≡ p) n
step_before Leads p q leads _ (begins {n} s) = goes_on {n = p} {m = n} (begins {n = p} refl) (subst (Leads p) (sym s) leads)
step_before Leads p q leads _ (goes_on {n} {m} before next) = goes_on {n = n} {m = m} (step_before Leads p q leads n before) next

-- a path turned round
pub turned : (Leads Back : ℕ → ℕ → Type 0) → ((n m : ℕ) → Leads n m → Back m n) → (p n : ℕ) → Reaches Leads (λ k. k ≡ p) n → Reaches Back (λ k. k ≡ n) p
turned Leads Back back p _ (begins {n} s) = begins {n = p} (sym s)
turned Leads Back back p _ (goes_on {n} {m} before leads) = step_before Back m n (back n m leads) p (turned Leads Back back p n before)

-- ---- without a kind

-- a stored edge that passes is a line without the kind
without : (kind : DepKind) (edges : List (GraphEdge Edge)) (n m : ℕ) → IsNext (λ e. Passes kind (tie_view e)) edges Outgoing n m → LeadsWithout kind (map line_view edges) n m
without kind edges n m w =
    record { line = line_view w.edge; among = contains_of (map line_view edges) (line_view w.edge) (member_map line_view edges w.edge (member_of edges w.edge w.among)); passes = w.passes; from = w.near; to = w.far }

stored : (kind : DepKind) (edges : List (GraphEdge Edge)) (n m : ℕ) → LeadsWithout kind (map line_view edges) n m → IsNext (λ e. Passes kind (tie_view e)) edges Outgoing n m
stored kind edges n m w =
    let s = mapped_of line_view edges w.line (member_of (map line_view edges) w.line w.among) in
    record {
      edge = s.from;
      among = contains_of edges s.from s.member;
      passes = subst (λ (l : PlannedEdge). Passes kind l.tie) (sym s.is) w.passes;
      near = ap (λ (l : PlannedEdge). l.source) s.is ∙ w.from;
      far = ap (λ (l : PlannedEdge). l.target) s.is ∙ w.to;
    }

-- from the same starts the same is reached
pub reached_without : (kind : DepKind) (edges : List (GraphEdge Edge)) (A : ℕ → Type 0) (starts : List ℕ) → ((n : ℕ) → A n ↔ Contains starts n)
    → (n : ℕ) → Reaches (IsNext (λ e. Passes kind (tie_view e)) edges Outgoing) A n ↔ IsReached kind edges starts n
reached_without kind edges A starts same n = (
  reaches_more (IsNext (λ e. Passes kind (tie_view e)) edges Outgoing) (LeadsWithout kind (map line_view edges)) A (Contains starts) (without kind edges) (λ k. (same k).0) n,
  reaches_more (LeadsWithout kind (map line_view edges)) (IsNext (λ e. Passes kind (tie_view e)) edges Outgoing) (Contains starts) A (stored kind edges) (λ k. (same k).1) n,
)

-- ---- against all edges

back : {E : Type 0} (edges : List (GraphEdge E)) (n m : ℕ) → IsNext (λ _. ⊤) edges Incoming n m → HasEdge edges m n
back edges n m w = record { edge = w.edge; among = w.among; from = w.far; to = w.near }

forth : {E : Type 0} (edges : List (GraphEdge E)) (n m : ℕ) → HasEdge edges n m → IsNext (λ _. ⊤) edges Incoming m n
forth edges n m w = record { edge = w.edge; among = w.among; passes = tt; near = w.to; far = w.from }

-- a path has a start
started : (Leads : ℕ → ℕ → Type 0) (Start : ℕ → Type 0) (P : Type 0) → ((n : ℕ) → Start n → P) → (n : ℕ) → Reaches Leads Start n → P
started Leads Start P has _ (begins {n} s) = has n s
started Leads Start P has _ (goes_on {n} {m} before leads) = started Leads Start P has n before

-- what is reached against the edges from a node, where there is one, has a path to it
pub paths_back : {N E : Type 0} (nodes : List (Node N)) (edges : List (GraphEdge E)) (A : ℕ → Type 0) (d : ℕ) → ((n : ℕ) → A n ↔ ((n ≡ d) × (d < length nodes))) → (n : ℕ) → (Reaches (IsNext (λ _. ⊤) edges Incoming) A n → n < length nodes)
    → Reaches (IsNext (λ _. ⊤) edges Incoming) A n ↔ HasPath nodes edges n d
paths_back {N} {E} nodes edges A d start n within = (to, from)
  where
    Next : ℕ → ℕ → Type 0
    Next = IsNext (λ _. ⊤) edges Incoming

    to : Reaches Next A n → HasPath nodes edges n d
    to r = record {
      from = within r;
      to = started Next A (d < length nodes) (λ k s. ((start k).0 s).1) n r;
      path = turned Next (HasEdge edges) (back edges) d n (reaches_more Next Next A (λ k. k ≡ d) (λ _ _ h. h) (λ k s. ((start k).0 s).0) n r);
    }

    from : HasPath nodes edges n d → Reaches Next A n
    from w = reaches_more Next Next (λ k. k ≡ d) A (λ _ _ h. h) (λ k e. (start k).1 (e, w.to)) n (turned (HasEdge edges) Next (forth edges) n d w.path)

-- ---- a number among others

pub is_among : (xs : List ℕ) (x : ℕ) → IsTrue (list_any (λ y. y == x) xs) ↔ Contains xs x
is_among xs x = (
  λ h. (let w = passing_of (λ y. y == x) xs h in subst (Contains xs) ((Decides-eqb w.from x).0 w.passes) (contains_of xs w.from w.member)),
  λ c. member_any (λ y. y == x) xs x (member_of xs x c) ((Decides-eqb x x).1 refl),
)

-- ==== the crates of some numbers: they are in order, and exactly those of these numbers

-- ---- a crate among the nodes

-- the crate's node is at this place, after those that are numbered below k
record Listed {N : Type 0} (k : ℕ) (nodes : List (Node N)) (c : Match N) : Type 0 where
  place : ℕ
  number : c.number ≡ k + place
  is : match_in c.number (slice_get nodes place) ≡ Some c

listed_of : {N : Type 0} (k : ℕ) (nodes : List (Node N)) (c : Match N) → Member (numbered_crates k nodes) c → Listed k nodes c
listed_of k [] c m = absurd m
listed_of {N} k (Krate id krate features mapping ∷ nodes) c (inl e) =
    subst (λ (z : Match N). Listed k (Krate id krate features mapping ∷ nodes) z) e (record { place = zero; number = omega arith; is = refl })
listed_of k (Krate id krate features mapping ∷ nodes) c (inr m) = let w = listed_of (suc k) nodes c m in record { place = suc w.place; number = omega (arith, w.number); is = w.is }
listed_of k (Feature krate_index name ∷ nodes) c m = let w = listed_of (suc k) nodes c m in record { place = suc w.place; number = omega (arith, w.number); is = w.is }

of_listed : {N : Type 0} (k : ℕ) (nodes : List (Node N)) (place n : ℕ) (c : Match N) → n ≡ k + place → match_in n (slice_get nodes place) ≡ Some c → Member (numbered_crates k nodes) c
of_listed k [] place n c at e = absurd (none-some c e)
of_listed {N} k (Krate id krate features mapping ∷ nodes) zero n c at e =
    let same : n ≡ k = omega (arith, at) in
    let made : ℕ → Match N = λ j. record { number = j; id = id; krate = krate } in
    inl (sym (ap made same) ∙ same_Some (made n) c e)
of_listed k (Krate id krate features mapping ∷ nodes) (suc place) n c at e = inr (of_listed (suc k) nodes place n c (omega (arith, at)) e)
of_listed k (Feature krate_index name ∷ nodes) zero n c at e = absurd (none-some c e)
of_listed k (Feature krate_index name ∷ nodes) (suc place) n c at e = of_listed (suc k) nodes place n c (omega (arith, at)) e

-- a crate is among those of the nodes exactly if the node of its number is it
crate_there : {N : Type 0} (nodes : List (Node N)) (c : Match N) → Member (numbered_crates 0 nodes) c → match_at nodes c.number ≡ Some c
crate_there nodes c m =
    let w = listed_of 0 nodes c m in
    let same : w.place ≡ c.number = omega (arith, w.number) in
    subst (λ (j : ℕ). match_in c.number (slice_get nodes j) ≡ Some c) same w.is

pub there_crate : {N : Type 0} (nodes : List (Node N)) (n : ℕ) (c : Match N) → match_at nodes n ≡ Some c → Member (numbered_crates 0 nodes) c
there_crate nodes n c e = of_listed 0 nodes n n c (omega arith) e

number_of : {N : Type 0} (n : ℕ) (o : Option (Node N)) (c : Match N) → match_in n o ≡ Some c → c.number ≡ n
number_of n None c e = absurd (none-some c e)
number_of {N} n (Some (Krate id krate features mapping)) c e = sym (ap (λ (z : Match N). z.number) (same_Some (record { number = n; id = id; krate = krate }) c e))
number_of n (Some (Feature krate_index name)) c e = absurd (none-some c e)

-- ---- the crates of some numbers

numbers_step : {N : Type 0} (n : ℕ) (o : Option (Node N)) (more : List (Match N)) (ns : List ℕ) → map (λ c. c.number) more ≡ ns
    → map (λ c. c.number) (cons_option (match_in n o) more) ≡ cond (is_some (match_in n o)) (n ∷ ns) ns
numbers_step n None more ns h = h
numbers_step n (Some (Krate id krate features mapping)) more ns h = ap (λ zs. n ∷ zs) h
numbers_step n (Some (Feature krate_index name)) more ns h = h

-- their numbers are those of the numbers that are crates
numbers_kept : {N : Type 0} (nodes : List (Node N)) (ns : List ℕ) → map (λ c. c.number) (filter_map (match_at nodes) ns) ≡ filter (λ n. is_some (match_at nodes n)) ns
numbers_kept nodes [] = refl
numbers_kept nodes (n ∷ ns) = numbers_step n (slice_get nodes n) (filter_map (match_at nodes) ns) (filter (λ n. is_some (match_at nodes n)) ns) (numbers_kept nodes ns)

of_step : {N : Type 0} (nodes : List (Node N)) (n : ℕ) (ns : List ℕ) (o : Option (Match N)) (c : Match N) → match_at nodes n ≡ o → (Member (filter_map (match_at nodes) ns) c → Member ns c.number × (match_at nodes c.number ≡ Some c))
    → Member (cons_option o (filter_map (match_at nodes) ns)) c → Member (n ∷ ns) c.number × (match_at nodes c.number ≡ Some c)
of_step nodes n ns None c e more m = let w = more m in (inr w.0, w.1)
of_step nodes n ns (Some x) c e more (inl s) =
    let is : match_at nodes n ≡ Some c = e ∙ ap (λ z. Some z) s in
    let same : c.number ≡ n = number_of n (slice_get nodes n) c is in
    (inl (sym same), subst (λ (j : ℕ). match_at nodes j ≡ Some c) (sym same) is)
of_step nodes n ns (Some x) c e more (inr m) = let w = more m in (inr w.0, w.1)

-- each of them is the crate of one of the numbers
of_numbers : {N : Type 0} (nodes : List (Node N)) (ns : List ℕ) (c : Match N) → Member (filter_map (match_at nodes) ns) c → Member ns c.number × (match_at nodes c.number ≡ Some c)
of_numbers nodes [] c m = absurd m
of_numbers nodes (n ∷ ns) c m = of_step nodes n ns (match_at nodes n) c refl (of_numbers nodes ns c) m

to_numbers : {N : Type 0} (nodes : List (Node N)) (ns : List ℕ) (c : Match N) → Member ns c.number → match_at nodes c.number ≡ Some c → Member (filter_map (match_at nodes) ns) c
to_numbers nodes [] c m e = absurd m
to_numbers nodes (n ∷ ns) c (inl s) e = cons_there (match_at nodes n) (filter_map (match_at nodes) ns) c (inl (ap (match_at nodes) s ∙ e))
to_numbers nodes (n ∷ ns) c (inr m) e = cons_there (match_at nodes n) (filter_map (match_at nodes) ns) c (inr (to_numbers nodes ns c m e))

-- of the numbers from which a path leads to a node, the crates are all that depend on it
pub are_all_dependents : {N E : Type 0} (nodes : List (Node N)) (edges : List (GraphEdge E)) (d : ℕ) (ns : List ℕ) → IsStrictlySortedBy nat_cmp ns → ((n : ℕ) → Contains ns n ↔ HasPath nodes edges n d)
    → AreAllDependents nodes edges d (filter_map (match_at nodes) ns)
are_all_dependents nodes edges d ns ascending same = record {
  by_number = rw (numbers_kept nodes ns) (IsStrictlySortedBy-filter nat_cmp (λ n. is_some (match_at nodes n)) ns ascending);
  exactly = λ c. (
    λ h.
        (let w = of_numbers nodes ns c (member_of (filter_map (match_at nodes) ns) c h) in
        (contains_of (numbered_crates 0 nodes) c (there_crate nodes c.number c w.1), (same c.number).0 (contains_of ns c.number w.0))),
    λ h.
        (let there = member_of ns c.number ((same c.number).1 h.1) in
        contains_of (filter_map (match_at nodes) ns) c (to_numbers nodes ns c there (crate_there nodes c (member_of (numbered_crates 0 nodes) c h.0)))),
  );
}

-- ==== laws: the queries for dependents and for paths agree

pub dependents_reach : {N E : Type 0} (nodes : List (Node N)) (edges : List (GraphEdge E)) → DependentsReach nodes edges
dependents_reach nodes edges d all are c kept answer tells = (
  λ yes. (are.exactly c).1 (kept, tells.0 yes),
  λ among. tells.1 ((are.exactly c).0 among).1,
)

-- an edge with its ends
ends_within : {E : Type 0} (count : ℕ) (edges : List (GraphEdge E)) (p d : ℕ) → All (HasEnds count) edges → HasEdge edges p d → (p < count) × (d < count)
ends_within count edges p d ends w =
    let both = All-contains (HasEnds count) edges w.edge ends w.among in
    (subst (λ n. n < count) w.from both.0, subst (λ n. n < count) w.to both.1)

-- where an edge leads from p to d or to a feature of d, a path leads from p to d
path_along : {N E : Type 0} (nodes : List (Node N)) (edges : List (GraphEdge E)) (p d : ℕ) → AreConnected nodes edges → All (HasEnds (length nodes)) edges → IsDependent nodes edges d p → HasPath nodes edges p d
path_along nodes edges p d connected ends w =
    let e = w.leads in
    let first : HasEdge edges p e.edge.target = record { edge = e.edge; among = e.among; from = e.from; to = refl } in
    let own = ends_within (length nodes) edges p e.edge.target ends first in
    let there : Reaches (HasEdge edges) (λ n. n ≡ p) e.edge.target = goes_on {n = p} {m = e.edge.target} (begins {n = p} refl) first in
    elim e.to [
      | inl same ↦ record { from = own.0; to = subst (λ n. n < length nodes) same own.1; path = subst (λ n. Reaches (HasEdge edges) (λ k. k ≡ p) n) same there }
      | inr feature ↦
          (let home = connected.features e.edge.target d feature.0 feature.1 in
          record { from = own.0; to = (ends_within (length nodes) edges e.edge.target d ends home).1; path = goes_on {n = e.edge.target} {m = d} there home })
    ]

record CrateOf {N : Type 0} (n : ℕ) (o : Option (Node N)) : Type 0 where
  crate : Match N
  is : match_in n o ≡ Some crate
  number : crate.number ≡ n

crate_of : {N : Type 0} (n : ℕ) (o : Option (Node N)) (x : N) → value_in o ≡ Some x → CrateOf n o
crate_of n None x e = absurd (none-some x e)
crate_of n (Some (Krate id krate features mapping)) x e = record { crate = record { number = n; id = id; krate = krate }; is = refl; number = refl }
crate_of n (Some (Feature krate_index name)) x e = absurd (none-some x e)

pub direct_are_among_all : {N E : Type 0} (nodes : List (Node N)) (edges : List (GraphEdge E)) → DirectAreAmongAll nodes edges
direct_are_among_all {N} nodes edges connected ends d direct are all others j among =
    let number = contains_of (map (λ (x : Joined N). x.node) direct) j.node (member_map (λ (x : Joined N). x.node) direct j (member_of direct j among)) in
    let is = (are.exactly j.node).0 number in
    let c = crate_of j.node (slice_get nodes j.node) is.krate is.crate in
    let kept = contains_of (numbered_crates 0 nodes) c.crate (there_crate nodes j.node c.crate c.is) in
    let path = subst (λ n. HasPath nodes edges n d) (sym c.number) (path_along nodes edges j.node d connected ends is) in
    let there = (others.exactly c.crate).1 (kept, path) in
    subst (Contains (map (λ (x : Match N). x.number) all)) c.number
    (contains_of (map (λ (x : Match N). x.number) all) c.crate.number (member_map (λ (x : Match N). x.number) all c.crate (member_of all c.crate there)))
