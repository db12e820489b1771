-- A `&mut` that is lent to a helper which returns a `Result<(), _>`: what the result holds, and the reference that is
-- returned, or given up with the error of that result.
use Rattle.std.proofs.Common.{List, [], ◌∷◌, ◌++◌, refl, ap, ◌∙◌, MutBor}
use Rattle.std.specs.Prelude.{Result, Ok, Err}
use Rattle.std.specs.Borrow.{RestsIfErr}
use Rattle.std.specs.contracts.result.Result as RS
use Rattle.krates_cm.specs.contracts.error.Error as Cause
use Rattle.krates_cargo.proofs.HandedBack.{Ref, left, beside, itself_so, rests_so}
use Rattle.krates_cargo.proofs.ResultValues.{ok_of, err_of}
use seplogic.Ra.Ura.{Ura}
use base.Logic.{SProp, ent, sep, ex, via, mono_r}
use base.Fml.{Fml, Lft, feq, fres}
use contract.Monad.{fact}
use mir.Val.{Val, vunit, of_list, vptr}
use types.Logic.{Logic, sem}
use types.Kit.{Item, Step, step, prop, ‵, use1, move, keep, fsplit, fsplit3, fjoin, fpick, fpack, feq_i, feq_l, show, ◌$◌, ◌∵◌, !, qed, done}
use types.Match.{live}
use denote.Builtin.{unit}
use denote.Enum.Declared.{shape}
use denote.Enum.Enum.{form_of}
use denote.Enum.Row.{tagged_with}
use denote.RattleType.{RattleType}
use denote.Ref.{mut_vals}
use denote.Steps.{nothing}

-- the error of a call that reads the output of `cargo metadata` or runs it
abbrev pub E : RattleType
E = Cause.the_row

-- the result of the helper
abbrev pub Told : RattleType
Told = RS.the_row unit E

abbrev pub ok_told : Val
ok_told = live 0 (of_list (vunit ∷ []))

abbrev pub err_told : Val → Val
err_told w = live 1 (of_list (w ∷ []))

module _ {M : Type 1} {𝓤 : Ura M} (𝓛 : Logic 𝓤) where
  pub ok_is : (x : unit.Denot) (v : Val) → ent 𝓤 (sem 𝓛 (Told.own_val (Ok x) (v ∷ []))) (sem 𝓛 (feq (List Val) (v ∷ []) (ok_told ∷ [])))
  ok_is x v =
      qed 𝓛 (‵ (Told.own_val (Ok x) (v ∷ [])) ∷ []) ∵ fpick ! (λ us. fsplit ! $ feq_l ! (λ e. fpick ! (λ vss. fsplit ! $ feq_l ! (λ e'. fsplit ! $ feq_l ! (λ e''.
      feq_i ! (List Val) (v ∷ []) (ok_told ∷ []) (e ∙ ap (λ us. live 0 (of_list us) ∷ []) (e' ∙ ap (λ vs. vs ++ []) e'')) $ keep ! (0 ∷ []) $ done !)))))

  -- the error has one machine value
  pub err_is : (x : E.Denot) (v : Val) → ent 𝓤 (sem 𝓛 (Told.own_val (Err x) (v ∷ []))) (ex 𝓤 (λ (w : Val). sep 𝓤 (sem 𝓛 (feq (List Val) (v ∷ []) (err_told w ∷ []))) (sem 𝓛 (E.own_val x (w ∷ [])))))
  err_is x v =
      qed 𝓛 (‵ (Told.own_val (Err x) (v ∷ [])) ∷ []) ∵ fpick ! (λ us. fsplit ! $ feq_l ! (λ e. fpick ! (λ vss. fsplit ! $ feq_l ! (λ e'. fsplit ! $ fpick ! (λ ws. fsplit ! $ feq_l ! (λ e''.
      let cause = form_of (shape Cause.the_type) in let w = live (cause.tag ((Cause.the_type).to x)) (of_list ws) in
      feq_i ! (List Val) (w ∷ []) (w ∷ []) refl $ fjoin ! $ fpack ! (List Val) (tagged_with cause cause.payload ((Cause.the_type).to x) (w ∷ [])) ws $
      feq_i ! (List Val) (v ∷ []) (err_told w ∷ []) (e ∙ ap (λ us. live 1 (of_list us) ∷ []) (e' ∙ ap (λ vs. vs ++ []) e'')) $ keep ! (0 ∷ 1 ∷ []) $
      show ! (λ (w : Val). sep 𝓤 (sem 𝓛 (feq (List Val) (v ∷ []) (err_told w ∷ []))) (sem 𝓛 (E.own_val x (w ∷ [])))) w $ done !))))))

  -- ---- `r`, for the lifetime `κ`
  module _ (R : RattleType) (r : MutBor R.Denot) (κ : Lft) where
    -- the result that passes `r` on
    abbrev pub Answer : RattleType
    Answer = RS.the_row (Ref 𝓛 R r κ κ) E

    abbrev pub ok_val : Val
    ok_val = live 0 (of_list (vptr r.ref_ptr.0 r.ref_ptr.1 ∷ []))

    module _ (P : R.Denot → Type 0) where
      -- what the caller learns about the reference that it lent
      abbrev pub Rests : Result (MutBor R.Denot) E.Denot → Fml
      Rests answer = RestsIfErr R r (λ b. b.ghost_name) answer P

      -- returned
      pub handed : (w : R.Denot) → ent 𝓤 (sem 𝓛 ((Ref 𝓛 R r κ κ).own_val (left 𝓛 R r κ w) (mut_vals r))) (sep 𝓤 (sem 𝓛 (Rests (Ok (left 𝓛 R r κ w)))) (sem 𝓛 (Answer.own_val (Ok (left 𝓛 R r κ w)) (ok_val ∷ []))))
      handed w =
          qed 𝓛 (‵ ((Ref 𝓛 R r κ κ).own_val (left 𝓛 R r κ w) (mut_vals r)) ∷ []) ∵
          use1 𝓛 (‵ (Answer.own_val (Ok (left 𝓛 R r κ w)) (ok_val ∷ []))) (ok_of 𝓛 (Ref 𝓛 R r κ κ) E (left 𝓛 R r κ w) (vptr r.ref_ptr.0 r.ref_ptr.1)) $
          nothing ! $ use1 𝓛 (‵ (Rests (Ok (left 𝓛 R r κ w)))) (itself_so 𝓛 R r.ghost_name r.now _ _ (λ v. refl) tt) $ done !

      -- given up at a value of which `P` holds, with an error
      pub given_up : (w : R.Denot) → P w → (x : E.Denot) (u : Val) → ent 𝓤 (sep 𝓤 (sem 𝓛 ((Ref 𝓛 R r κ κ).own_val (left 𝓛 R r κ w) (mut_vals r))) (sem 𝓛 (E.own_val x (u ∷ []))))
          (sep 𝓤 (sem 𝓛 (Rests (Err x))) (sem 𝓛 (Answer.own_val (Err x) (err_told u ∷ []))))
      given_up w holds x u =
          qed 𝓛 (‵ ((Ref 𝓛 R r κ κ).own_val (left 𝓛 R r κ w) (mut_vals r)) ∷ ‵ (E.own_val x (u ∷ [])) ∷ []) ∵ fsplit3 ! $ move ! (1 ∷ []) $
          use1 𝓛 (‵ (fres r.ghost_name (R.coded.code w))) (𝓛.names.obs-res r.ghost_name (R.coded.code w)) $
          use1 𝓛 (‵ (Rests (Err x))) (rests_so 𝓛 R r.ghost_name w _ _ (λ v. tt) holds) $ keep ! (3 ∷ 0 ∷ []) $
          use1 𝓛 (‵ (Answer.own_val (Err x) (err_told u ∷ []))) (err_of 𝓛 (Ref 𝓛 R r κ κ) E x u) $ move ! (1 ∷ []) $ done !

-- four facts are shown, and the rest of the goal is `P`
pub says_four : {M : Type 1} {𝓤 : Ura M} {𝓛 : Logic 𝓤} {K : Type 0} {Γ : List (Item 𝓤)} → K → {φ₁ φ₂ φ₃ φ₄ : Type 0} {P : SProp 𝓤} → φ₁ → φ₂ → φ₃ → φ₄
    → Step K 𝓛 Γ (prop P) Γ (prop (sep 𝓤 P (sep 𝓤 (fact 𝓤 φ₁) (sep 𝓤 (fact 𝓤 φ₂) (sep 𝓤 (fact 𝓤 φ₃) (fact 𝓤 φ₄))))))
says_four {𝓤 = 𝓤} t {φ₁} {φ₂} {φ₃} {φ₄} {P} w x y z = step (λ s. record {
  prf = via 𝓤 P s.prf (via 𝓤 (sep 𝓤 P (fact 𝓤 φ₁)) (beside 𝓤 P w) (mono_r 𝓤 P (via 𝓤 (sep 𝓤 (fact 𝓤 φ₁) (fact 𝓤 φ₂)) (beside 𝓤 (fact 𝓤 φ₁) x)
      (mono_r 𝓤 (fact 𝓤 φ₁) (via 𝓤 (sep 𝓤 (fact 𝓤 φ₂) (fact 𝓤 φ₃)) (beside 𝓤 (fact 𝓤 φ₂) y) (mono_r 𝓤 (fact 𝓤 φ₂) (beside 𝓤 (fact 𝓤 φ₃) z)))))));
})
