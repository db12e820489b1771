-- What is read belongs to the grammar.
use Rattle.std.proofs.Common.{◌≡◌, ℕ, ◌+◌, ◌<◌, ◌≤◌, true, false, List, [], ◌∷◌, ◌++◌, length, refl, sym, ap, subst, ◌∙◌, arith, inl, inr, append_assoc, append-nil, eqb}
use Rattle.std.specs.Prelude.{Result, Ok, Err, codes, nat_lt}
use Rattle.std.specs.List.{AllByRecursion}
use Rattle.std.specs.Str.{bytes_eq}
use Rattle.std.proofs.lemmas.Bool.{both_ways, cond_both, or_from, or_cases, eqb-true, eqb-false, ltb-true, ltb-false}
use Rattle.std.proofs.lemmas.Slice.Eq.{bytes_eq-Decides}
use Rattle.krates_text.specs.Cuts.{Lacks}
use Rattle.krates_text.specs.CfgGrammar.{Tree, constant, Trees, added, is_blank, AreBlanks, IsPredicate, is_true, is_false, is_word, is_pair, is_not, is_all, is_any, IsRow, no_more, one_more, closed, with_last, max_nesting, Frame, in_not, in_all, in_any, is_word_start, is_word_part, IsWord, IsFreeWord, is_reserved, is_form, nesting, HasOpened, OpensTooMany}
use Rattle.krates_text.specs.CfgReader.{Fault, syntax', too_deep, Place, at_predicate, in_word, after_word, at_string, in_string, after_predicate, at_end, State, at, step, step_word, step_after, run, and_then, leaf, frame_for, opened, divided, closed_after, closed_before, read, result_of, finished}
use Rattle.krates_text.proofs.CfgReading.{nesting-added}

-- a word, and blanks after it
record IsAtWord (fs : List Frame) (w a x : List ℕ) : Type 0 where
  front : List ℕ
  opens : HasOpened fs front
  spells : IsWord w
  blanks : AreBlanks a
  is : x ≡ front ++ (w ++ a)

-- a key, its `=`, and blanks around it
record IsAtString (fs : List Frame) (w x : List ℕ) : Type 0 where
  front : List ℕ
  before : List ℕ
  behind : List ℕ
  opens : HasOpened fs front
  free : IsFreeWord w
  blank_before : AreBlanks before
  blank_behind : AreBlanks behind
  is : x ≡ front ++ (w ++ (before ++ 61 ∷ behind))

-- the same, and a string that isn't ended
record IsInString (fs : List Frame) (w s x : List ℕ) : Type 0 where
  front : List ℕ
  before : List ℕ
  behind : List ℕ
  opens : HasOpened fs front
  free : IsFreeWord w
  blank_before : AreBlanks before
  blank_behind : AreBlanks behind
  lacks : Lacks 34 s
  is : x ≡ front ++ (w ++ (before ++ 61 ∷ (behind ++ 34 ∷ s)))

-- a predicate, and blanks after it
record IsAfter (fs : List Frame) (p : Tree) (x : List ℕ) : Type 0 where
  front : List ℕ
  text : List ℕ
  behind : List ℕ
  opens : HasOpened fs front
  spells : IsPredicate text p
  deep : nesting p + length fs ≤ max_nesting
  blanks : AreBlanks behind
  is : x ≡ front ++ (text ++ behind)

-- a predicate, the last `)`, and blanks
pub record IsWhole (p : Tree) (x : List ℕ) : Type 0 where
  pub before : List ℕ
  pub text : List ℕ
  pub after : List ℕ
  pub end : List ℕ
  pub blank_before : AreBlanks before
  pub spells : IsPredicate text p
  pub deep : nesting p ≤ max_nesting
  pub blank_after : AreBlanks after
  pub blank_end : AreBlanks end
  pub is : x ≡ before ++ (text ++ (after ++ 41 ∷ end))

-- what was read, at each place
abbrev IsAt : List Frame → Place → List ℕ → Type 0
IsAt fs at_predicate x = HasOpened fs x
IsAt fs (in_word w) x = IsAtWord fs w [] x
IsAt fs (after_word w) x = (a : List ℕ) × IsAtWord fs w a x
IsAt fs (at_string w) x = IsAtString fs w x
IsAt fs (in_string w s) x = IsInString fs w s x
IsAt fs (after_predicate p) x = IsAfter fs p x
IsAt fs (at_end p) x = IsWhole p x

record Holds (s : State) (x : List ℕ) : Type 0 where
  read : IsAt s.frames s.place x
  deep : length s.frames ≤ max_nesting

-- the result of a step is right for the text read so far
abbrev IsSound : Result State Fault → List ℕ → Type 0
IsSound (Ok s) x = Holds s x
IsSound (Err syntax') x = Unit {0}
IsSound (Err too_deep) x = OpensTooMany x

all_more : (P : ℕ → Type 0) (a : List ℕ) (c : ℕ) → AllByRecursion P a → P c → AllByRecursion P (a ++ c ∷ [])
all_more P [] c h k = (k, tt)
all_more P (b ∷ a) c h k = (h.0, all_more P a c h.1 k)

row_blank : (y : List ℕ) (ps : Trees) (c : ℕ) → IsRow y ps → is_blank c ≡ true → IsRow (y ++ c ∷ []) ps
row_blank y ps c (no_more a blanks) h = no_more (a ++ c ∷ []) (all_more _ a c blanks h)
row_blank y ps c (one_more x t a b qs p row one before behind) h =
    let regrouped : (x ++ (t ++ (a ++ 44 ∷ b))) ++ c ∷ [] ≡ x ++ (t ++ (a ++ 44 ∷ (b ++ c ∷ []))) = simp append_assoc in
    subst (λ z. IsRow z (added qs p)) (sym regrouped) (one_more x t a (b ++ c ∷ []) qs p row one before (all_more _ b c behind h))

opened_blank : (fs : List Frame) (x : List ℕ) (c : ℕ) → HasOpened fs x → is_blank c ≡ true → HasOpened fs (x ++ c ∷ [])
opened_blank [] x c o h = all_more _ x c o h
opened_blank (in_not ∷ outer) x c o h = (o.0, o.1, o.2 ++ c ∷ [], o.3, o.4, all_more _ o.2 c o.5 h, ap (λ v. v ++ c ∷ []) o.6 ∙ simp append_assoc)
opened_blank (in_all ps ∷ outer) x c o h = (o.0, o.1, o.2 ++ c ∷ [], o.3, o.4, row_blank o.2 ps c o.5 h, o.6, ap (λ v. v ++ c ∷ []) o.7 ∙ simp append_assoc)
opened_blank (in_any ps ∷ outer) x c o h = (o.0, o.1, o.2 ++ c ∷ [], o.3, o.4, row_blank o.2 ps c o.5 h, o.6, ap (λ v. v ++ c ∷ []) o.7 ∙ simp append_assoc)

sound_before : (fs : List Frame) (x : List ℕ) → HasOpened fs x → length fs ≤ max_nesting → IsSound (closed_before fs) (x ++ 41 ∷ [])
sound_before [] x o h = tt
sound_before (in_not ∷ outer) x o h = tt
sound_before (in_all ps ∷ outer) x o h = record {
  read = record {
    front = o.0;
    text = codes "all" ++ (o.1 ++ 40 ∷ (o.2 ++ 41 ∷ []));
    behind = [];
    opens = o.3;
    spells = is_all o.1 o.2 ps o.4 (closed o.2 ps o.5);
    deep = omega (arith, o.6);
    blanks = tt;
    is = ap (λ v. v ++ 41 ∷ []) o.7 ∙ simp (append_assoc, append-nil);
  };
  deep = omega arith;
}
sound_before (in_any ps ∷ outer) x o h = record {
  read = record {
    front = o.0;
    text = codes "any" ++ (o.1 ++ 40 ∷ (o.2 ++ 41 ∷ []));
    behind = [];
    opens = o.3;
    spells = is_any o.1 o.2 ps o.4 (closed o.2 ps o.5);
    deep = omega (arith, o.6);
    blanks = tt;
    is = ap (λ v. v ++ 41 ∷ []) o.7 ∙ simp (append_assoc, append-nil);
  };
  deep = omega arith;
}

sound_divided : (fs : List Frame) (p : Tree) (x : List ℕ) → IsAfter fs p x → length fs ≤ max_nesting → IsSound (divided fs p) (x ++ 44 ∷ [])
sound_divided [] p x i h = tt
sound_divided (in_not ∷ outer) p x i h = tt
sound_divided (in_all ps ∷ outer) p x i h =
    let o = i.opens in
    let n = nesting-added ps p in
    let inner = i.deep in
    record {
      read = (
        o.0,
        o.1,
        o.2 ++ (i.text ++ (i.behind ++ 44 ∷ [])),
        o.3,
        o.4,
        one_more o.2 i.text i.behind [] ps p o.5 i.spells i.blanks tt,
        omega (arith, o.6),
        ap (λ v. v ++ 44 ∷ []) (i.is ∙ ap (λ v. v ++ (i.text ++ i.behind)) o.7) ∙ simp append_assoc,
      );
      deep = h;
    }
sound_divided (in_any ps ∷ outer) p x i h =
    let o = i.opens in
    let n = nesting-added ps p in
    let inner = i.deep in
    record {
      read = (
        o.0,
        o.1,
        o.2 ++ (i.text ++ (i.behind ++ 44 ∷ [])),
        o.3,
        o.4,
        one_more o.2 i.text i.behind [] ps p o.5 i.spells i.blanks tt,
        omega (arith, o.6),
        ap (λ v. v ++ 44 ∷ []) (i.is ∙ ap (λ v. v ++ (i.text ++ i.behind)) o.7) ∙ simp append_assoc,
      );
      deep = h;
    }

sound_closed : (fs : List Frame) (p : Tree) (x : List ℕ) → IsAfter fs p x → length fs ≤ max_nesting → IsSound (closed_after fs p) (x ++ 41 ∷ [])
sound_closed [] p x i h =
    let inner = i.deep in
    record {
      read = record {
        before = i.front;
        text = i.text;
        after = i.behind;
        end = [];
        blank_before = i.opens;
        spells = i.spells;
        deep = omega arith;
        blank_after = i.blanks;
        blank_end = tt;
        is = ap (λ v. v ++ 41 ∷ []) i.is ∙ simp append_assoc;
      };
      deep = h;
    }
sound_closed (in_not ∷ outer) p x i h =
    let o = i.opens in
    let inner = i.deep in
    record {
      read = record {
        front = o.0;
        text = codes "not" ++ (o.1 ++ 40 ∷ (o.2 ++ (i.text ++ (i.behind ++ 41 ∷ []))));
        behind = [];
        opens = o.3;
        spells = is_not o.1 o.2 i.text i.behind p o.4 o.5 i.spells i.blanks;
        deep = omega arith;
        blanks = tt;
        is = ap (λ v. v ++ 41 ∷ []) (i.is ∙ ap (λ v. v ++ (i.text ++ i.behind)) o.6) ∙ simp (append_assoc, append-nil);
      };
      deep = omega arith;
    }
sound_closed (in_all ps ∷ outer) p x i h =
    let o = i.opens in
    let n = nesting-added ps p in
    let inner = i.deep in
    record {
      read = record {
        front = o.0;
        text = codes "all" ++ (o.1 ++ 40 ∷ ((o.2 ++ (i.text ++ i.behind)) ++ 41 ∷ []));
        behind = [];
        opens = o.3;
        spells = is_all o.1 _ (added ps p) o.4 (with_last o.2 i.text i.behind ps p o.5 i.spells i.blanks);
        deep = omega (arith, o.6);
        blanks = tt;
        is = ap (λ v. v ++ 41 ∷ []) (i.is ∙ ap (λ v. v ++ (i.text ++ i.behind)) o.7) ∙ simp (append_assoc, append-nil);
      };
      deep = omega arith;
    }
sound_closed (in_any ps ∷ outer) p x i h =
    let o = i.opens in
    let n = nesting-added ps p in
    let inner = i.deep in
    record {
      read = record {
        front = o.0;
        text = codes "any" ++ (o.1 ++ 40 ∷ ((o.2 ++ (i.text ++ i.behind)) ++ 41 ∷ []));
        behind = [];
        opens = o.3;
        spells = is_any o.1 _ (added ps p) o.4 (with_last o.2 i.text i.behind ps p o.5 i.spells i.blanks);
        deep = omega (arith, o.6);
        blanks = tt;
        is = ap (λ v. v ++ 41 ∷ []) (i.is ∙ ap (λ v. v ++ (i.text ++ i.behind)) o.7) ∙ simp (append_assoc, append-nil);
      };
      deep = omega arith;
    }

-- one more byte after a predicate
sound_after : (fs : List Frame) (p : Tree) (x : List ℕ) (c : ℕ) → IsAfter fs p x → length fs ≤ max_nesting → IsSound (step_after fs p c) (x ++ c ∷ [])
unfolding step_after
sound_after fs p x c i h =
    cond_both (is_blank c) _ _ (λ r. IsSound r (x ++ c ∷ []))
    (λ e. record {
      read = record {
        front = i.front;
        text = i.text;
        behind = i.behind ++ c ∷ [];
        opens = i.opens;
        spells = i.spells;
        deep = i.deep;
        blanks = all_more _ i.behind c i.blanks e;
        is = ap (λ v. v ++ c ∷ []) i.is ∙ simp append_assoc;
      };
      deep = h;
    })
    (λ _. cond_both (eqb c 44) _ _ (λ r. IsSound r (x ++ c ∷ []))
    (λ e. subst (λ k. IsSound (divided fs p) (x ++ k ∷ [])) (sym (eqb-true c 44 e)) (sound_divided fs p x i h))
    (λ _. cond_both (eqb c 41) _ _ (λ r. IsSound r (x ++ c ∷ []))
    (λ e. subst (λ k. IsSound (closed_after fs p) (x ++ k ∷ [])) (sym (eqb-true c 41 e)) (sound_closed fs p x i h))
    (λ _. tt)))

-- a word that isn't a form is a predicate
leaf_is : (w : List ℕ) → IsWord w → is_form w ≡ false → IsPredicate w (leaf w) × (nesting (leaf w) ≡ 0)
leaf_is w is form =
    cond_both (bytes_eq w (codes "true")) _ _ (λ p. IsPredicate w p × (nesting p ≡ 0))
    (λ e. (subst (λ v. IsPredicate v (constant true)) (sym ((bytes_eq-Decides w (codes "true")).0 e)) is_true, refl))
    (λ not_true. cond_both (bytes_eq w (codes "false")) _ _ (λ p. IsPredicate w p × (nesting p ≡ 0))
    (λ e. (subst (λ v. IsPredicate v (constant false)) (sym ((bytes_eq-Decides w (codes "false")).0 e)) is_false, refl))
    (λ not_false. (is_word w (is, or_from _ _ (or_from _ _ form not_true) not_false), refl)))

-- a name opens its frame
frame_opens : (fs : List Frame) (w a x : List ℕ) → IsAtWord fs w a x → is_form w ≡ true → length fs < max_nesting → HasOpened (frame_for w ∷ fs) (x ++ 40 ∷ [])
frame_opens fs w a x i form h =
    let grown : x ++ 40 ∷ [] ≡ i.front ++ (w ++ (a ++ 40 ∷ [])) = ap (λ v. v ++ 40 ∷ []) i.is ∙ simp append_assoc in
    let named : (name : List ℕ) → w ≡ name → x ++ 40 ∷ [] ≡ i.front ++ (name ++ (a ++ 40 ∷ [])) = λ name e. grown ∙ ap (λ v. i.front ++ (v ++ (a ++ 40 ∷ []))) e in
    cond_both (bytes_eq w (codes "all")) _ _ (λ f. HasOpened (f ∷ fs) (x ++ 40 ∷ []))
    (λ e. (i.front, a, [], i.opens, i.blanks, no_more [] tt, omega arith, named (codes "all") ((bytes_eq-Decides w (codes "all")).0 e)))
    (λ not_all. cond_both (bytes_eq w (codes "any")) _ _ (λ f. HasOpened (f ∷ fs) (x ++ 40 ∷ []))
    (λ e. (i.front, a, [], i.opens, i.blanks, no_more [] tt, omega arith, named (codes "any") ((bytes_eq-Decides w (codes "any")).0 e)))
    (λ not_any.
    let is_not_name : bytes_eq w (codes "not") ≡ true = elim (or_cases _ _ form) [ inl both ↦ absurd (both_ways _ (or_from _ _ not_all not_any) both) | inr e ↦ e ] in
    (i.front, a, [], i.opens, i.blanks, tt, named (codes "not") ((bytes_eq-Decides w (codes "not")).0 is_not_name))))

sound_opened : (fs : List Frame) (w a x : List ℕ) → IsAtWord fs w a x → length fs ≤ max_nesting → IsSound (opened fs w) (x ++ 40 ∷ [])
sound_opened fs w a x i h =
    cond_both (is_form w) _ _ (λ r. IsSound r (x ++ 40 ∷ []))
    (λ form. cond_both (nat_lt (length fs) max_nesting) _ _ (λ r. IsSound r (x ++ 40 ∷ []))
    (λ e. let small = ltb-true (length fs) max_nesting e in record { read = frame_opens fs w a x i form small; deep = omega arith })
    (λ e. let big = ltb-false (length fs) max_nesting e in record {
      frames = fs;
      deep = omega arith;
      opened = i.front;
      opens = i.opens;
      name = w;
      form = form;
      blanks = a;
      are = i.blanks;
      rest = [];
      is = ap (λ v. v ++ 40 ∷ []) i.is ∙ simp append_assoc;
    }))
    (λ _. tt)

-- one more byte after a word
sound_word : (fs : List Frame) (w a x : List ℕ) (c : ℕ) → IsAtWord fs w a x → length fs ≤ max_nesting → IsSound (step_word fs w c) (x ++ c ∷ [])
unfolding step_word
sound_word fs w a x c i h =
    cond_both (is_blank c) _ _ (λ r. IsSound r (x ++ c ∷ []))
    (λ e. record {
      read = (
        a ++ c ∷ [],
        record {
          front = i.front;
          opens = i.opens;
          spells = i.spells;
          blanks = all_more _ a c i.blanks e;
          is = ap (λ v. v ++ c ∷ []) i.is ∙ simp append_assoc;
        },
      );
      deep = h;
    })
    (λ _. cond_both (eqb c 40) _ _ (λ r. IsSound r (x ++ c ∷ []))
    (λ e. subst (λ k. IsSound (opened fs w) (x ++ k ∷ [])) (sym (eqb-true c 40 e)) (sound_opened fs w a x i h))
    (λ _. cond_both (eqb c 61) _ _ (λ r. IsSound r (x ++ c ∷ []))
    (λ e. cond_both (is_reserved w) _ _ (λ r. IsSound r (x ++ c ∷ []))
    (λ _. tt)
    (λ free. record {
      read = record {
        front = i.front;
        before = a;
        behind = [];
        opens = i.opens;
        free = (i.spells, free);
        blank_before = i.blanks;
        blank_behind = tt;
        is = ap (λ k. x ++ k ∷ []) (eqb-true c 61 e) ∙ ap (λ v. v ++ 61 ∷ []) i.is ∙ simp append_assoc;
      };
      deep = h;
    }))
    (λ _. cond_both (is_form w) _ _ (λ r. IsSound r (x ++ c ∷ []))
    (λ _. tt)
    (λ form.
    let alone = leaf_is w i.spells form in
    sound_after fs (leaf w) x c (record {
      front = i.front;
      text = w;
      behind = a;
      opens = i.opens;
      spells = alone.0;
      deep = omega (arith, alone.1);
      blanks = i.blanks;
      is = i.is;
    }) h))))

word_more : (w : List ℕ) (c : ℕ) → IsWord w → is_word_part c ≡ true → IsWord (w ++ c ∷ [])
word_more [] c h e = absurd h
word_more (b ∷ w) c h e = (h.0, all_more _ w c h.1 e)

-- one more byte at any place
sound_step : (fs : List Frame) (place : Place) (x : List ℕ) (c : ℕ) → IsAt fs place x → length fs ≤ max_nesting → IsSound (step fs place c) (x ++ c ∷ [])
unfolding step
sound_step fs at_predicate x c i h =
    cond_both (is_blank c) _ _ (λ r. IsSound r (x ++ c ∷ []))
    (λ e. record { read = opened_blank fs x c i e; deep = h })
    (λ _. cond_both (eqb c 41) _ _ (λ r. IsSound r (x ++ c ∷ []))
    (λ e. subst (λ k. IsSound (closed_before fs) (x ++ k ∷ [])) (sym (eqb-true c 41 e)) (sound_before fs x i h))
    (λ _. cond_both (is_word_start c) _ _ (λ r. IsSound r (x ++ c ∷ []))
    (λ e. record { read = record { front = x; opens = i; spells = (e, tt); blanks = tt; is = refl }; deep = h })
    (λ _. tt)))
sound_step fs (in_word w) x c i h =
    cond_both (is_word_part c) _ _ (λ r. IsSound r (x ++ c ∷ []))
    (λ e. record {
      read = record {
        front = i.front;
        opens = i.opens;
        spells = word_more w c i.spells e;
        blanks = tt;
        is = ap (λ v. v ++ c ∷ []) i.is ∙ simp (append_assoc, append-nil);
      };
      deep = h;
    })
    (λ _. sound_word fs w [] x c i h)
sound_step fs (after_word w) x c i h = sound_word fs w i.0 x c i.1 h
sound_step fs (at_string w) x c i h =
    cond_both (is_blank c) _ _ (λ r. IsSound r (x ++ c ∷ []))
    (λ e. record {
      read = record {
        front = i.front;
        before = i.before;
        behind = i.behind ++ c ∷ [];
        opens = i.opens;
        free = i.free;
        blank_before = i.blank_before;
        blank_behind = all_more _ i.behind c i.blank_behind e;
        is = ap (λ v. v ++ c ∷ []) i.is ∙ simp append_assoc;
      };
      deep = h;
    })
    (λ _. cond_both (eqb c 34) _ _ (λ r. IsSound r (x ++ c ∷ []))
    (λ e. record {
      read = record {
        front = i.front;
        before = i.before;
        behind = i.behind;
        opens = i.opens;
        free = i.free;
        blank_before = i.blank_before;
        blank_behind = i.blank_behind;
        lacks = tt;
        is = ap (λ k. x ++ k ∷ []) (eqb-true c 34 e) ∙ ap (λ v. v ++ 34 ∷ []) i.is ∙ simp append_assoc;
      };
      deep = h;
    })
    (λ _. tt))
sound_step fs (in_string w s) x c i h =
    cond_both (eqb c 34) _ _ (λ r. IsSound r (x ++ c ∷ []))
    (λ e. record {
      read = record {
        front = i.front;
        text = w ++ (i.before ++ 61 ∷ (i.behind ++ 34 ∷ (s ++ 34 ∷ [])));
        behind = [];
        opens = i.opens;
        spells = is_pair w i.before i.behind s i.free i.blank_before i.blank_behind i.lacks;
        deep = omega arith;
        blanks = tt;
        is = ap (λ k. x ++ k ∷ []) (eqb-true c 34 e) ∙ ap (λ v. v ++ 34 ∷ []) i.is ∙ simp (append_assoc, append-nil);
      };
      deep = h;
    })
    (λ e. record {
      read = record {
        front = i.front;
        before = i.before;
        behind = i.behind;
        opens = i.opens;
        free = i.free;
        blank_before = i.blank_before;
        blank_behind = i.blank_behind;
        lacks = all_more _ s c i.lacks (eqb-false c 34 e);
        is = ap (λ v. v ++ c ∷ []) i.is ∙ simp append_assoc;
      };
      deep = h;
    })
sound_step fs (after_predicate p) x c i h = sound_after fs p x c i h
sound_step fs (at_end p) x c i h =
    cond_both (is_blank c) _ _ (λ r. IsSound r (x ++ c ∷ []))
    (λ e. record {
      read = record {
        before = i.before;
        text = i.text;
        after = i.after;
        end = i.end ++ c ∷ [];
        blank_before = i.blank_before;
        spells = i.spells;
        deep = i.deep;
        blank_after = i.blank_after;
        blank_end = all_more _ i.end c i.blank_end e;
        is = ap (λ v. v ++ c ∷ []) i.is ∙ simp append_assoc;
      };
      deep = h;
    })
    (λ _. tt)

-- one form too many remains one too many
too_many_more : (x t : List ℕ) → OpensTooMany x → OpensTooMany (x ++ t)
too_many_more x t o = record {
  frames = o.frames;
  deep = o.deep;
  opened = o.opened;
  opens = o.opens;
  name = o.name;
  form = o.form;
  blanks = o.blanks;
  are = o.are;
  rest = o.rest ++ t;
  is = ap (λ v. v ++ t) o.is ∙ simp append_assoc;
}

sound_run : (text x : List ℕ) (s : State) → Holds s x → IsSound (run s text) (x ++ text)
sound_run [] x s h = subst (Holds s) (sym (append-nil x)) h
sound_run (c ∷ text) x s h = on (step s.frames s.place c) (sound_step s.frames s.place x c h.read h.deep) (λ t k. sound_run text (x ++ c ∷ []) t k)
  where
    regrouped : (x ++ c ∷ []) ++ text ≡ x ++ c ∷ text
    regrouped = append_assoc x (c ∷ []) text

    on : (r : Result State Fault) → IsSound r (x ++ c ∷ []) → ((t : State) → Holds t (x ++ c ∷ []) → IsSound (run t text) ((x ++ c ∷ []) ++ text)) → IsSound (and_then r (λ t. run t text)) (x ++ c ∷ text)
    on (Ok t) k more = subst (IsSound (run t text)) regrouped (more t k)
    on (Err syntax') k more = tt
    on (Err too_deep) k more = subst OpensTooMany regrouped (too_many_more (x ++ c ∷ []) text k)

-- the result of reading a whole text is right
abbrev pub IsRight : Result Tree Fault → List ℕ → Type 0
IsRight (Ok p) text = IsWhole p text
IsRight (Err syntax') text = Unit {0}
IsRight (Err too_deep) text = OpensTooMany text

right_at_end : (fs : List Frame) (place : Place) (text : List ℕ) → IsAt fs place text → IsRight (finished place) text
right_at_end fs at_predicate text i = tt
right_at_end fs (in_word w) text i = tt
right_at_end fs (after_word w) text i = tt
right_at_end fs (at_string w) text i = tt
right_at_end fs (in_string w s) text i = tt
right_at_end fs (after_predicate p) text i = tt
right_at_end fs (at_end p) text i = i

right_result : (r : Result State Fault) (text : List ℕ) → IsSound r text → IsRight (result_of r) text
right_result (Ok s) text h = right_at_end s.frames s.place text h.read
right_result (Err syntax') text h = tt
right_result (Err too_deep) text h = h

pub read_is_right : (text : List ℕ) → IsRight (read text) text
read_is_right text = right_result _ text (sound_run text [] (at [] at_predicate) (record { read = tt; deep = omega arith }))
