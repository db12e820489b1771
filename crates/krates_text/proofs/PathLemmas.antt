-- Laws of the components of a path.
use Rattle.std.proofs.Common.{◌≡◌, ◌≢◌, ℕ, true, false, Bool, List, [], ◌∷◌, ◌++◌, length, refl, sym, ap, ap₂, subst, ◌∙◌, arith, ◌⊎◌, inl, inr, eqb, append_assoc, append-nil, length-append, not, ◌||◌}
use Rattle.std.specs.Prelude.{cond, filter, slice_index_or}
use Rattle.std.specs.Str.{bytes_eq}
use Rattle.std.specs.Path.{slash, root_dir, cur_dir, first_piece, later_pieces, is_name, leading_components, path_names, path_components}
use Rattle.std.proofs.lemmas.Bool.{cases_Bool, ne_eqb, eqb-true, both_ways}
use Rattle.std.proofs.lemmas.Slice.Eq.{bytes_eq-Decides}
use Rattle.std.proofs.lemmas.List.Elements.{filter-append}
use Rattle.krates_text.specs.Cuts.{Lacks, LastCut}
use Rattle.krates_text.specs.Text.{BeginsWith}
use Rattle.krates_text.specs.Path.{pieces, names, start, components, HasNoParent, IsParent, SplitsLast, or_root}

by_cases : {X : Type 0} (b : Bool) → (b ≡ true → X) → (b ≡ false → X) → X
by_cases b at_true at_false = elim (cases_Bool b) [ inl e ↦ at_true e | inr e ↦ at_false e ]

nothing_before_slash : (rest : List ℕ) → bytes_eq (first_piece rest) [] ≡ eqb (slice_index_or rest 0 slash) slash
nothing_before_slash [] = refl
nothing_before_slash (b ∷ rest) = by_cases (eqb b slash) (λ e. rw e refl) (λ e. rw e refl)

start_is : (text : List ℕ) → start text ≡ leading_components text
start_is [] = refl
start_is (b ∷ rest) = by_cases (eqb b slash)
    (λ e. rw e refl)
    (λ e. rw (e, nothing_before_slash rest) refl)

-- the library's components are those of the definition
pub components_is : (text : List ℕ) → path_components text ≡ components text
unfolding path_components path_names
components_is text = ap (λ s. s ++ names text) (sym (start_is text))

first_piece-slash : (x y : List ℕ) → first_piece (x ++ slash ∷ y) ≡ first_piece x
first_piece-slash [] y = refl
first_piece-slash (b ∷ x) y = ap (λ p. cond (eqb b slash) [] (b ∷ p)) (first_piece-slash x y)

later_pieces-slash : (x y : List ℕ) → later_pieces (x ++ slash ∷ y) ≡ later_pieces x ++ pieces y
later_pieces-slash [] y = refl
later_pieces-slash (b ∷ x) y = by_cases (eqb b slash)
    (λ e. rw e (ap₂ ◌∷◌ (first_piece-slash x y) (later_pieces-slash x y)))
    (λ e. rw e (later_pieces-slash x y))

names-slash : (x y : List ℕ) → names (x ++ slash ∷ y) ≡ names x ++ names y
names-slash x y =
    ap₂ (λ f l. filter is_name (f ∷ l)) (first_piece-slash x y) (later_pieces-slash x y)
    ∙ filter-append is_name (pieces x) (pieces y)

start-slash : (b : ℕ) (x y : List ℕ) → start ((b ∷ x) ++ slash ∷ y) ≡ start (b ∷ x)
start-slash b x y = ap (λ p. cond (eqb b slash) (root_dir ∷ []) (cond (bytes_eq p cur_dir) (cur_dir ∷ []) [])) (first_piece-slash (b ∷ x) y)

start-or_root : (x y : List ℕ) → start (x ++ slash ∷ y) ≡ start (or_root x)
start-or_root [] y = refl
start-or_root (b ∷ x) y = start-slash b x y

names-or_root : (x : List ℕ) → names (or_root x) ≡ names x
names-or_root [] = refl
names-or_root (b ∷ x) = refl

components-slash : (x y : List ℕ) → components (x ++ slash ∷ y) ≡ components (or_root x) ++ names y
components-slash x y =
    ap₂ ◌++◌ (start-or_root x y) (names-slash x y ∙ ap (λ l. l ++ names y) (sym (names-or_root x)))
    ∙ sym (append_assoc (start (or_root x)) (names (or_root x)) (names y))

first_piece-lacks : (text : List ℕ) → Lacks slash text → first_piece text ≡ text
first_piece-lacks [] h = refl
first_piece-lacks (b ∷ text) h = rw (ne_eqb b slash h.0) (ap (λ p. b ∷ p) (first_piece-lacks text h.1))

later_pieces-lacks : (text : List ℕ) → Lacks slash text → later_pieces text ≡ []
later_pieces-lacks [] h = refl
later_pieces-lacks (b ∷ text) h = rw (ne_eqb b slash h.0) (later_pieces-lacks text h.1)

names-lacks : (text : List ℕ) → Lacks slash text → names text ≡ filter is_name (text ∷ [])
names-lacks text h = ap₂ (λ f l. filter is_name (f ∷ l)) (first_piece-lacks text h) (later_pieces-lacks text h)

one_component : (text : List ℕ) (at_root is_empty is_dot : Bool) → at_root ≡ false → is_empty ≡ false → (is_dot ≡ true → text ≡ cur_dir)
    → cond at_root (root_dir ∷ []) (cond is_dot (cur_dir ∷ []) []) ++ cond (not (is_empty || is_dot)) (text ∷ []) [] ≡ text ∷ []
one_component text at_root is_empty true e z h = rw (e, z) (ap (λ x. x ∷ []) (sym (h refl)))
one_component text at_root is_empty false e z h = rw (e, z) refl

-- a text without a slash is one component
components-lacks : (b : ℕ) (rest : List ℕ) → Lacks slash (b ∷ rest) → components (b ∷ rest) ≡ (b ∷ rest) ∷ []
components-lacks b rest h =
    let text = b ∷ rest in
    ap₂ ◌++◌ (ap (λ p. cond (eqb b slash) (root_dir ∷ []) (cond (bytes_eq p cur_dir) (cur_dir ∷ []) [])) (first_piece-lacks text h)) (names-lacks text h)
    ∙ one_component text (eqb b slash) (eqb (length text) 0) (bytes_eq text cur_dir) (ne_eqb b slash h.0) (ne_eqb (length text) 0 (λ z. omega arith)) (bytes_eq-Decides text cur_dir).0

components-nil : components [] ≡ []
components-nil = refl

components-root : components root_dir ≡ root_dir ∷ []
components-root = refl

-- a text without a slash isn't the root
lacks_not_root : (text : List ℕ) → Lacks slash text → text ≢ root_dir
lacks_not_root text h e = let at_root : Lacks slash root_dir = subst (Lacks slash) e h in at_root.0 refl

-- a name after a slash is the last component
components-name : (x name : List ℕ) → Lacks slash name → is_name name ≡ true → components (x ++ slash ∷ name) ≡ components (or_root x) ++ name ∷ []
components-name x name h e = components-slash x name ∙ ap (λ l. components (or_root x) ++ l) (names-lacks name h ∙ rw e refl)

-- any other piece after a slash adds no component
components-trailing : (x piece : List ℕ) → Lacks slash piece → is_name piece ≡ false → components (x ++ slash ∷ piece) ≡ components (or_root x)
components-trailing x piece h e =
    components-slash x piece ∙ ap (λ l. components (or_root x) ++ l) (names-lacks piece h ∙ rw e refl) ∙ append-nil (components (or_root x))

begins_before : (x y text : List ℕ) → BeginsWith (x ++ slash ∷ y) text → BeginsWith (or_root x) text
begins_before [] y text b = record { rest = y ++ b.rest; is = b.is }
begins_before (c ∷ x) y text b = record { rest = (slash ∷ y) ++ b.rest; is = b.is ∙ append_assoc (c ∷ x) (slash ∷ y) b.rest }

-- what remains of a path while trailing pieces are taken off
pub record IsTrimming (path rest : List ℕ) : Type 0 where
  pub begins : BeginsWith rest path
  pub same : components path ≡ components rest

pub not_trimmed : (path : List ℕ) → IsTrimming path path
not_trimmed path = record { begins = record { rest = []; is = sym (append-nil path) }; same = refl }

trimming_begins : (path rest before piece : List ℕ) → IsTrimming path rest → LastCut slash rest before piece → BeginsWith (or_root before) path
trimming_begins path rest before piece t cut = begins_before before piece path (subst (λ r. BeginsWith r path) cut.is t.begins)

-- a piece that isn't a name is taken off
pub trim_more : (path rest before piece : List ℕ) → IsTrimming path rest → LastCut slash rest before piece → is_name piece ≡ false → IsTrimming path (or_root before)
trim_more path rest before piece t cut other = record {
  begins = trimming_begins path rest before piece t cut;
  same = t.same ∙ ap components cut.is ∙ components-trailing before piece cut.lacks other;
}

-- the last piece is a name
pub splits_at_name : (path rest before piece : List ℕ) → IsTrimming path rest → LastCut slash rest before piece → is_name piece ≡ true → SplitsLast path (or_root before) rest
splits_at_name path rest before piece t cut e =
    let parts : components rest ≡ components (or_root before) ++ piece ∷ [] = ap components cut.is ∙ components-name before piece cut.lacks e in
    let none : components (before ++ slash ∷ []) ≡ components (or_root before) = components-slash before [] ∙ append-nil (components (or_root before)) in
    record {
      begins = t.begins;
      front = trimming_begins path rest before piece t cut;
      same = t.same;
      ends = inr (record {
        before = before ++ slash ∷ [];
        last = piece;
        is = cut.is ∙ sym (append_assoc before (slash ∷ []) piece);
        parts = parts ∙ ap (λ l. l ++ piece ∷ []) (sym none);
      });
      named = λ some other. (piece, parts, lacks_not_root piece cut.lacks);
    }

pub or_root-empty : (before : List ℕ) → eqb (length before) 0 ≡ true → or_root before ≡ root_dir
or_root-empty [] e = refl
or_root-empty (b ∷ rest) e = absurd (omega (arith, eqb-true (length (b ∷ rest)) 0 e))

pub or_root-some : (before : List ℕ) → eqb (length before) 0 ≡ false → or_root before ≡ before
or_root-some [] e = absurd (both_ways _ e refl)
or_root-some (b ∷ rest) e = refl

-- only the root is left
pub splits_at_root : (path : List ℕ) → IsTrimming path root_dir → SplitsLast path [] root_dir
splits_at_root path t = record {
  begins = t.begins;
  front = record { rest = path; is = refl };
  same = t.same;
  ends = inr (record { before = []; last = root_dir; is = refl; parts = refl });
  named = λ some other. absurd (other refl);
}

-- no slash is left
pub splits_at_start : (path rest : List ℕ) → IsTrimming path rest → Lacks slash rest → SplitsLast path [] rest
splits_at_start path [] t h = record {
  begins = t.begins;
  front = record { rest = path; is = refl };
  same = t.same;
  ends = inl refl;
  named = λ some other. absurd (some refl);
}
splits_at_start path (b ∷ rest) t h =
    let text = b ∷ rest in record {
      begins = t.begins;
      front = record { rest = path; is = refl };
      same = t.same;
      ends = inr (record { before = []; last = text; is = refl; parts = components-lacks b rest h });
      named = λ some other. (text, components-lacks b rest h, lacks_not_root text h);
    }

-- what two tests say of a beginning: that it is empty, and that it is the root
pub empty_is : (text : List ℕ) → eqb (length text) 0 ≡ true → text ≡ []
empty_is [] e = refl
empty_is (b ∷ rest) e = absurd (omega (arith, eqb-true (length (b ∷ rest)) 0 e))

pub some_is : (text : List ℕ) → eqb (length text) 0 ≡ false → text ≢ []
some_is text e same = both_ways _ e (rw same refl)

pub root_is : (text : List ℕ) → bytes_eq text root_dir ≡ true → text ≡ root_dir
root_is text e = (bytes_eq-Decides text root_dir).0 e

pub other_is : (text : List ℕ) → bytes_eq text root_dir ≡ false → text ≢ root_dir
other_is text e same = both_ways _ e ((bytes_eq-Decides text root_dir).1 same)

-- the empty path and the root alone have no parent
pub no_parent : (path before whole : List ℕ) → SplitsLast path before whole → (whole ≡ []) ⊎ (whole ≡ root_dir) → HasNoParent path
no_parent path before whole s (inl e) = inl (s.same ∙ ap components e)
no_parent path before whole s (inr e) = inr (s.same ∙ ap components e)

-- any other path has a parent: the part before its last component, without what trails there
pub parent_is : (path before whole front parent : List ℕ) → SplitsLast path before whole → whole ≢ [] → whole ≢ root_dir → SplitsLast before front parent → IsParent path parent
parent_is path before whole front parent s some other p =
    let named = s.named some other in
    let inner = p.begins in
    let outer = s.front in
    record {
      begins = record { rest = inner.rest ++ outer.rest; is = outer.is ∙ ap (λ l. l ++ outer.rest) inner.is ∙ append_assoc parent inner.rest outer.rest };
      last = named.0;
      not_root = named.2;
      others = s.same ∙ named.1 ∙ ap (λ l. l ++ named.0 ∷ []) p.same;
      ends = p.ends;
    }

-- two lists that are ends of each other are the same
pub same_from_ends : {X : Type 0} (xs ys fronts backs : List X) → xs ≡ fronts ++ ys → ys ≡ backs ++ xs → xs ≡ ys
same_from_ends xs ys [] backs e f = e
same_from_ends xs ys (x ∷ fronts) backs e f = absurd (omega (arith, ap length e, ap length f, length-append (x ∷ fronts) ys, length-append backs xs))
