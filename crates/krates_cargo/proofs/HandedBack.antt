-- A `&mut` that is lent to a helper, comes back, and is then returned to the caller or given up with an error.
use Rattle.std.proofs.Common.{ℕ, Bool, true, false, List, [], ◌∷◌, refl, MutBor}
use Rattle.std.specs.Bool.{MatchBool}
use Rattle.std.specs.Prelude.{Result, Ok, Err}
use Rattle.std.specs.Borrow.{RestsIfErr}
use Rattle.std.specs.declared.alloc.AllocError.{AllocError}
use Rattle.std.specs.contracts.result.Result as RS
use Rattle.std.specs.contracts.alloc.AllocError as AE
use Rattle.krates_cargo.proofs.ResultValues.{ok_of, err_of}
use seplogic.Ra.Ura.{Ura}
use base.Fraction.{full_share}
use base.Logic.{SProp, wand, ent, sep, emp, ex, via, emp∗, comm∗, mono_l, mono_r}
use base.Fml.{Fml, GName, Lft, Share, ftrue, fex, feq, fsep, fres, fauth, flft}
use contract.Monad.{fact, fact_i}
use mir.Syntax.{named}
use mir.Val.{Val, vptr, vint, vstruct, vnil, vcons}
use mir.Syntax.{w8}
use types.Logic.{Logic, sem}
use types.Kit.{Item, Step, step, prop, ‵, ◌⊛◌, later, some, use1, use2, use3, each, assume, move, keep, split, fsplit3, fjoin, fpack, feq_i, await, pick, show, updating, now as at_once, ◌$◌, ◌∵◌, !, qed, done}
use types.Tokens.{lft_new, lft_end}
use denote.Lend.{lends_again, comes_back, LentAgain}
use denote.RattleType.{RattleType, Valss}
use denote.Ref.{MutRef, mut_vals}
use denote.Struct.Struct.{within}
use denote.Struct.Declared as Declared
use denote.Steps.{nothing}
use denote.Follow.{follows, follows_by, follows_so, such_by}
use mathlib.Core.Bool.{not}
use mathlib.Core.Option as maybe
use lib.Dec.{T}

module _ {M : Type 1} {𝓤 : Ura M} (𝓛 : Logic 𝓤) (R : RattleType) where
  open 𝓛 use {A, H}

  module _ (γ : GName) where
    -- a reference that is returned under its own name follows itself
    pub itself : ent 𝓤 (sem 𝓛 ftrue) (sem 𝓛 (follows R R γ γ (λ w. w)))
    itself =
        let From : R.Denot → R.Denot → Fml = λ z w. fsep (feq R.Denot z w) (fauth γ (R.coded.code w)) in
        let said = qed 𝓛 (‵ ftrue ∷ []) ∵ each ! (λ (w : R.Denot). wand 𝓤 (A.res γ (R.coded.code w)) (A.res γ (R.coded.code w))) (λ w. assume ! (‵ (fres γ (R.coded.code w))) $ keep ! (0 ∷ []) $ done !) in
        let back = qed 𝓛 (‵ ftrue ∷ []) ∵ each ! (λ (z : R.Denot). wand 𝓤 (A.auth γ (R.coded.code z)) (sem 𝓛 (fex R.Denot (From z)))) (λ z. assume ! (‵ (fauth γ (R.coded.code z))) $
        keep ! (0 ∷ []) $ feq_i ! R.Denot z z refl $ fjoin ! $ fpack ! R.Denot (From z) z $ done !) in
        record { apply = λ a p. (said.apply a p, back.apply a p) }

    -- returned, where `P` holds of each last value
    pub itself_so : (v : R.Denot) (P : R.Denot → R.Denot → Type 0) (P₀ : R.Denot → Type 0) → ((w : R.Denot) → P w w) → P₀ v → ent 𝓤 (sem 𝓛 ftrue) (sem 𝓛 (follows_so R R γ (maybe.some γ) P P₀))
    unfolding follows_by such_by
    itself_so v P P₀ h h₀ =
        qed 𝓛 (‵ ftrue ∷ []) ∵ use1 𝓛 (‵ (follows R R γ γ (λ w. w))) itself $
        fpack ! ((s : (R.Denot → R.Denot) × R.Denot) × ((w : R.Denot) → P w (s.0 w)) × P₀ s.1) (λ s. follows_by R.Denot R.Denot R.coded.code R.coded.code γ (maybe.some γ) s.0.0 s.0.1) (((λ w. w), v), h, h₀) $ done !

    -- given up at `v`
    pub rests_so : (v : R.Denot) (P : R.Denot → R.Denot → Type 0) (P₀ : R.Denot → Type 0) → ((w : R.Denot) → P w v) → P₀ v → ent 𝓤 (sem 𝓛 (fres γ (R.coded.code v))) (sem 𝓛 (follows_so R R γ maybe.none P P₀))
    unfolding follows_by such_by
    rests_so v P P₀ h h₀ =
        qed 𝓛 (‵ (fres γ (R.coded.code v)) ∷ []) ∵
        fpack ! ((s : (R.Denot → R.Denot) × R.Denot) × ((w : R.Denot) → P w (s.0 w)) × P₀ s.1) (λ s. follows_by R.Denot R.Denot R.coded.code R.coded.code γ maybe.none s.0.0 s.0.1) (((λ _. v), v), h, h₀) $ done !

  -- ---- `r`, for the lifetime `κ`
  module _ (r : MutBor R.Denot) (κ : Lft) where
    -- the reference for a lifetime, at an address
    abbrev pub Ref : Lft → RattleType
    Ref κ' = MutRef (named 0) κ' R

    -- `r` with another value after it
    abbrev pub left : R.Denot → MutBor R.Denot
    left w = record r { now = w }

    abbrev pub Answer : RattleType
    Answer = RS.the_row (Ref κ) AE.the_row

    abbrev pub ok_val : Val
    ok_val = vstruct (vcons (vint w8 0) (vcons (vptr r.ref_ptr.0 r.ref_ptr.1) vnil))

    abbrev pub err_val : Val
    err_val = vstruct (vcons (vint w8 1) (vcons (vstruct vnil) vnil))

    module _ (q : Share) where
      -- what the lender keeps of `r` while it is lent for `α` under the name `δ`
      abbrev pub Kept : ℕ → GName → Fml
      Kept α δ = LentAgain R κ (α ∷ []) q r.ghost_name r.ref_ptr.0 r.ref_ptr.1 δ r.now

      -- lent for a new lifetime, under a new name
      pub lent : ent 𝓤 (sep 𝓤 (sem 𝓛 ((Ref κ).own_val r (mut_vals r))) (sem 𝓛 (flft κ q)))
          (H.⇛ (ex 𝓤 (λ (α : ℕ). ex 𝓤 (λ (δ : GName). sep 𝓤 (sem 𝓛 ((Ref (α ∷ [])).own_val (record r { ghost_name = δ }) (mut_vals r))) (sep 𝓤 (sem 𝓛 (Kept α δ)) (sem 𝓛 (flft (α ∷ []) full_share)))))))
      lent =
          qed 𝓛 (‵ ((Ref κ).own_val r (mut_vals r)) ∷ ‵ (flft κ q) ∷ []) ∵ updating ! $ lft_new ! tt (λ α. move ! (1 ∷ 2 ∷ []) $
          use2 𝓛 (later (some (λ (δ : ℕ). ‵ ((Ref (α ∷ [])).own_val (record r { ghost_name = δ }) (mut_vals r)) ⊛ ‵ (Kept α δ))))
          (lends_again 𝓛 R (named 0) κ (α ∷ []) q r.ghost_name r.ref_ptr.0 r.ref_ptr.1 (named 0) r.now) $ await ! tt $ pick ! (λ δ. split ! $ at_once ! $
          show ! (λ (α' : ℕ). ex 𝓤 (λ (δ' : GName). sep 𝓤 (sem 𝓛 ((Ref (α' ∷ [])).own_val (record r { ghost_name = δ' }) (mut_vals r))) (sep 𝓤 (sem 𝓛 (Kept α' δ')) (sem 𝓛 (flft (α' ∷ []) full_share))))) α $
          show ! (λ (δ' : GName). sep 𝓤 (sem 𝓛 ((Ref (α ∷ [])).own_val (record r { ghost_name = δ' }) (mut_vals r))) (sep 𝓤 (sem 𝓛 (Kept α δ')) (sem 𝓛 (flft (α ∷ []) full_share)))) δ $ done !))

      -- it comes back with the last value of the loan
      pub returned : (α : ℕ) (δ : GName) (w : R.Denot) → ent 𝓤 (sep 𝓤 (sem 𝓛 (flft (α ∷ []) full_share)) (sep 𝓤 (sem 𝓛 (Kept α δ)) (sem 𝓛 (fres δ (R.coded.code w)))))
          (H.⇛ (sep 𝓤 (sem 𝓛 ((Ref κ).own_val (left w) (mut_vals r))) (sem 𝓛 (flft κ q))))
      returned α δ w =
          qed 𝓛 (‵ (flft (α ∷ []) full_share) ∷ ‵ (Kept α δ) ∷ ‵ (fres δ (R.coded.code w)) ∷ []) ∵ updating ! $ lft_end ! tt $
          use3 𝓛 (later (‵ ((Ref κ).own_val (left w) (mut_vals r)) ⊛ ‵ (flft κ q)))
          (comes_back 𝓛 R (named 0) κ (α ∷ []) q r.ghost_name r.ref_ptr.0 r.ref_ptr.1 δ r.now w) $ await ! tt $ at_once ! $ done !

    module _ (P : R.Denot → Type 0) where
      -- what the caller learns about the reference that it lent
      abbrev pub Rests : Result (MutBor R.Denot) AllocError → Fml
      Rests answer = RestsIfErr R r (λ b. b.ghost_name) answer P

      -- returned
      pub handed : (w : R.Denot) → ent 𝓤 (sem 𝓛 ((Ref κ).own_val (left w) (mut_vals r))) (sep 𝓤 (sem 𝓛 (Rests (Ok (left w)))) (sem 𝓛 (Answer.own_val (Ok (left w)) (ok_val ∷ []))))
      handed w =
          qed 𝓛 (‵ ((Ref κ).own_val (left w) (mut_vals r)) ∷ []) ∵ use1 𝓛 (‵ (Answer.own_val (Ok (left w)) (ok_val ∷ []))) (ok_of 𝓛 (Ref κ) AE.the_row (left w) (vptr r.ref_ptr.0 r.ref_ptr.1)) $
          nothing ! $ use1 𝓛 (‵ (Rests (Ok (left w)))) (itself_so r.ghost_name r.now _ _ (λ v. refl) tt) $ done !

      -- given up at a value of which `P` holds
      pub given_up : (w : R.Denot) → P w → ent 𝓤 (sem 𝓛 ((Ref κ).own_val (left w) (mut_vals r))) (sep 𝓤 (sem 𝓛 (Rests (Err (record {})))) (sem 𝓛 (Answer.own_val (Err (record {})) (err_val ∷ []))))
      given_up w holds =
          qed 𝓛 (‵ ((Ref κ).own_val (left w) (mut_vals r)) ∷ []) ∵ fsplit3 ! $ move ! (1 ∷ []) $ use1 𝓛 (‵ (fres r.ghost_name (R.coded.code w))) (𝓛.names.obs-res r.ghost_name (R.coded.code w)) $
          use1 𝓛 (‵ (Rests (Err (record {})))) (rests_so r.ghost_name w _ _ (λ v. tt) holds) $ keep ! (0 ∷ []) $
          nothing ! $ feq_i ! (List Val) (vstruct vnil ∷ []) (vstruct vnil ∷ []) refl $ fjoin ! $ fpack ! (Valss []) (within (Declared.shape AE.the_type) tt (vstruct vnil ∷ [])) tt $
          use1 𝓛 (‵ (Answer.own_val (Err (record {})) (err_val ∷ []))) (err_of 𝓛 (Ref κ) AE.the_row (record {}) (vstruct vnil)) $ move ! (1 ∷ []) $ done !

-- a fact beside what is owned
pub beside : {M : Type 1} (𝓤 : Ura M) {φ : Type 0} (P : SProp 𝓤) → φ → ent 𝓤 P (sep 𝓤 P (fact 𝓤 φ))
beside 𝓤 {φ} P x = via 𝓤 (sep 𝓤 (emp 𝓤) P) (emp∗ 𝓤 P) (via 𝓤 (sep 𝓤 (fact 𝓤 φ) P) (mono_l 𝓤 P (fact_i 𝓤 φ (emp 𝓤) x)) (comm∗ 𝓤 (fact 𝓤 φ) P))

-- two facts are shown, and the rest of the goal is `P`
pub says_both : {M : Type 1} {𝓤 : Ura M} {𝓛 : Logic 𝓤} {K : Type 0} {Γ : List (Item 𝓤)} → K → {φ ψ : Type 0} {P : SProp 𝓤} → φ → ψ
    → Step K 𝓛 Γ (prop P) Γ (prop (sep 𝓤 P (sep 𝓤 (fact 𝓤 φ) (fact 𝓤 ψ))))
says_both {𝓤 = 𝓤} t {φ} {ψ} {P} x y = step (λ s. record { prf = via 𝓤 P s.prf (via 𝓤 (sep 𝓤 P (fact 𝓤 φ)) (beside 𝓤 P x) (mono_r 𝓤 P (beside 𝓤 (fact 𝓤 φ) y))) })

-- ---- by the value of a test
pub when_true : (b : Bool) (P Q : Type 0) → T b → MatchBool b P Q → P
when_true true P Q t h = h
when_true false P Q t h = absurd t

pub when_false : (b : Bool) (P Q : Type 0) → T (not b) → MatchBool b P Q → Q
when_false true P Q t h = absurd t
when_false false P Q t h = h
