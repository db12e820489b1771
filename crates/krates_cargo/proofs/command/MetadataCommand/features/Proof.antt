use Rattle.krates_cargo.proofs.Walking.{ℕ, [], ◌∷◌, refl, ap, lit<, proved, full_share, id⊢, ftrue, flft, named, fact, tables, ‵, raw, ◌⊛◌, some, later, at_ret, ◌$◌, ◌∵◌, !, qed, done, move, keep, use1, use2, use3, split, join, fsplit, feq_l, pick, await, suffices, frame, group, enter, of_opd, addr, lit, stop, no_more, and_then, first, exec, returns, alloc_all, pass_all, free_all, look_at, get, through, sets, sets_last, agg, lands_as, env, mut_vals, mut_Tells, plain, nothing, heard, only, calls_at, lasts, triple_of, framed, Stays, walk_of, stay_dropped, Goes-spent_ref, mut_ref_to, ends_at, yes, no}
use Rattle.krates_cargo.proofs.HandedBack.{Ref, left, Kept, lent, returned}
use Rattle.krates_cargo.proofs.HandedOrRefused.{E, Told, ok_told, err_told, ok_is, err_is, Answer, ok_val, Rests, handed, given_up, says_four}
use Rattle.krates_cargo.proofs.FeaturesChosen.{once_of_ok, once_of_err}
use Rattle.std.proofs.Common.{List, sym}
use Rattle.std.specs.Prelude.{◌≡◌, Result, Ok, Err, IfOk, IfErr, OnErr}
use Rattle.std.proofs.VecSteps.Shapes.{after}
use Rattle.krates_cm.specs.declared.error.Error.{Error}
use Rattle.krates_cm.specs.declared.error.Error.TheVariants as errors
use Rattle.krates_cm.proofs.error.Error.TheLaws as Cause-laws
use Rattle.krates_cargo.specs.Command.{CommandModel}
use Rattle.krates_cargo.specs.Setters.{choosing, IsChosen, IsNotChosen}
use Rattle.krates_cargo.specs.contracts.command.Features as Features-row
use Rattle.krates_cargo.proofs.command.Features.TheLaws as Features-laws
use Rattle.krates_cargo.specs.contracts.command.MetadataCommand.{the_row}
use Rattle.krates_cargo.specs.contracts.command.MetadataCommand.features as f
use Rattle.krates_cargo.proofs.command.MetadataCommand.features.Statement.{statement}
use Rattle.krates_cargo.proofs.command.MetadataCommand.features.Code as code
use Rattle.krates_cargo.specs.contracts.command.MetadataCommand.choose as g
use Rattle.krates_cargo.proofs.command.MetadataCommand.choose.Met.{met}
use Rattle.krates_cargo.specs.declared.command.Features.TheVariants.{All, NoDefault, Selected}
use base.Fml.{feq}
use denote.Param.Mute.{blank, had}
use base.Logic.{via}
use denote.Exit.{Last, left as left_of, rest}
use denote.RattleType.{RattleType}
use lib.Dec.{T}
use mathlib.Core.Bool.{Bool, true, false, ◌&&◌}
use denote.Laws.{shows}
use denote.Steps.{peeks}
use native.Mathlib.Nat.{suc-ne-zero}
use types.ByLocal.{get_in, get_tag}
use types.Match.{vrt, in_variant}
use types.Part.{whole}
use types.Run.{fld, switches}
use mir.Val.{Val}

abbrev stayed : Stays f.ended.signature.params f.ended.kept
stayed = (stay_dropped (mut_ref_to (0 ∷ []) tt (plain (λ _. the_row))) no, (stay_dropped _ yes, tt))

-- a list of one machine value has its type where that value has its own
and_true : (b : Bool) → T b → T (b && true)
and_true true t = tt
and_true false t = absurd t

-- the argument
abbrev chosen : RattleType
chosen = Features-row.the_row

-- at the return nothing is said about it
unsaid : (x : chosen.Denot) (w : Last (chosen.exit yes) x) → T (blank (left_of (chosen.exit yes) x w))
unsaid All w = tt
unsaid NoDefault w = tt
unsaid (Selected names) w = tt

-- its machine value
abbrev features_vals : chosen.Denot → List Val
features_vals x = Features-laws.lowered x ∷ []

pub features_spec : {M : Type 1} → statement M
features_spec 𝓤 𝓛 𝓜 𝓡 wired =
    let R = the_row in let fn = code.function in
    let c = f.clauses 𝓛 𝓜.mem 𝓡.returns in let W = walk_of 𝓛 f.ended stayed c in let 𝓣 = tables 𝓤 𝓛.H 𝓜 𝓡 𝓡.env in
    proved 𝓛 f.ended stayed c 𝓜 𝓡 (Goes-spent_ref 𝓛 1 (0 ∷ []) tt (plain (λ _. R)), (λ κs x w vs ok. via 𝓤 _ (had 𝓛 (left_of (chosen.exit yes) x w) (unsaid x w)) (𝓛.laws.⇛_intro _), tt))
    f.Key.name fn (code.unfolded 𝓤 𝓛.H 𝓜 𝓡 wired)
    (λ κs. (mut_vals, (features_vals, tt)))
    (λ κs. (mut_Tells (named 0) κs.0 R, (Features-laws.lowers.val_is, tt))) (λ κs qs bounds a _ are.
    let κ = κs.0 in let q = qs.0 in let r = a.0 in let x = a.1.0 in let vs = mut_vals r in
    let y : W.Ghost = ((κs, qs, bounds, a, (vs, (features_vals x, tt))), tt) in
    let typed = ((Features-laws.the_row_laws.lawful 𝓛).typed x _ are.1.0).0 in
    qed 𝓛 (((‵ (flft κ q) ⊛ ‵ ftrue) ⊛ ‵ ((Ref 𝓛 R r κ κ).own_val r vs) ⊛ ‵ (chosen.own_val x (features_vals x)) ⊛ ‵ ftrue) ∷ ‵ ftrue ∷ []) ∵
    split ! $ split ! $ move ! (2 ∷ []) $ split ! $ move ! (1 ∷ []) $ split ! $ keep ! (2 ∷ 3 ∷ 0 ∷ 4 ∷ []) $
    enter ! _ _ _ _ _ $ alloc_all ! (λ l. pass_all ! refl ((tt, tt), (typed, tt)) $
    sets ! (addr ! (through ! refl (stop !))) refl (tt, tt) $
    sets ! (of_opd ! (get ! refl)) refl typed $
    -- [r; the token of κ; the argument; the other token]
    use2 𝓛 (later (some (λ (α : ℕ). some (λ (δ : ℕ). ‵ ((Ref 𝓛 R r κ (α ∷ [])).own_val (record r { ghost_name = δ }) vs) ⊛ ‵ (Kept 𝓛 R r κ q α δ) ⊛ ‵ (flft (α ∷ []) full_share)))))
    (lent 𝓛 R r κ q) $ await ! tt $ pick ! (λ α. pick ! (λ δ. split ! $ move ! (1 ∷ []) $ split ! $ move ! (2 ∷ []) $
    -- [the loan; what is kept; the token of α; the argument; the other token]
    let G = triple_of 𝓛 g.signature (g.spec 𝓛 𝓜.mem 𝓡.returns) in
    let z : G.Ghost = (((α ∷ [], tt), (full_share, tt), tt, (record r { ghost_name = δ }, (x, tt)), (vs, (features_vals x, tt))), tt) in
    nothing ! $ move ! (4 ∷ 0 ∷ []) $ join ! $ move ! (1 ∷ 0 ∷ []) $ join ! $
    nothing ! $ move ! (3 ∷ 0 ∷ []) $ join ! $ join ! $ nothing ! $ move ! (1 ∷ 0 ∷ []) $ use2 𝓛 (raw (G.pre z)) (id⊢ 𝓤 _) $
    calls_at ! (framed 𝓤 𝓛.H 𝓜 (tables 𝓤 𝓛.H 𝓜 𝓡 𝓡.env)) G (met 𝓤 𝓛 𝓜 𝓡 (code.calls-krates_cargo::command::MetadataCommand::choose 𝓡.env wired)) z
    (and_then ! (get ! refl) (and_then ! (get ! refl) (no_more !))) (λ v.
    use1 𝓛 (later (some (λ (u : Result (Unit {0}) Error). ((‵ (flft (α ∷ []) full_share) ⊛ ‵ ftrue) ⊛ ‵ (Told.own_val u (v ∷ []))) ⊛
    some (λ (ws : CommandModel × (Last (chosen.exit yes) x × Unit {0})). ‵ (lasts g.ended z.0.0 z.0.3 ws) ⊛
    raw (fact 𝓤 (IfOk u (λ _. ws.0 ≡ choosing r.now x))) ⊛ raw (fact 𝓤 (IfErr u (IsNotChosen r.now x))) ⊛
    raw (fact 𝓤 (IsChosen r.now x → u ≡ Err errors.FeaturesTwice)) ⊛ raw (fact 𝓤 (OnErr u (ws.0 ≡ r.now))))))) (id⊢ 𝓤 _) $
    await ! tt $ pick ! (elim [
      | Ok t ↦ split ! $ split ! $ split ! $ move ! (2 ∷ []) $ use1 𝓛 (‵ (feq (List Val) (v ∷ []) (ok_told ∷ []))) (ok_is 𝓛 t v) $ feq_l ! (λ is_ok.
          lands_as ! (ap only is_ok) refl (tt, (record { fits = lit< tt }, (tt, tt))) $
          move ! (2 ∷ []) $ pick ! (λ ws. split ! $ move ! (1 ∷ []) $ split ! $ heard ! _ (λ is_chosen. split ! $ heard ! _ (λ _. split ! $ heard ! _ (λ once. heard ! _ (λ _. fsplit ! $ fsplit ! $
          -- [the loan's last value; its borrow; the rest; the token of α; nothing; what is kept]
          move ! (3 ∷ 5 ∷ 0 ∷ []) $ use3 𝓛 (later (‵ ((Ref 𝓛 R r κ κ).own_val (left 𝓛 R r κ ws.0) vs) ⊛ ‵ (flft κ q)))
          (returned 𝓛 R r κ q α δ ws.0) $ await ! tt $ split ! $
          first ! $ switches ! (get_tag ! (vrt ! refl (fld ! refl (stop !))) (whole !)) (
            (λ _. sets ! (addr ! (through ! refl (stop !))) refl (tt, tt) $
                sets_last ! (agg ! (and_then ! (lit ! tt) (and_then ! (get ! refl) (no_more !)))) refl (tt, (record { fits = lit< tt }, (tt, tt))) $
                exec ! 𝓣.C 𝓣.Λ (env fn.locals l) (after 4 fn.body) (at_ret _ (W.post y)) $
                sets ! (of_opd ! (get ! refl)) refl (tt, (record { fits = lit< tt }, (tt, tt))) $
                returns ! (look_at ! 0 refl) $ free_all ! refl $ keep ! (0 ∷ 1 ∷ 5 ∷ []) $
                suffices ! _ (ends_at 𝓛 f.ended stayed c y (ok_val 𝓛 R r κ) (Ok (left 𝓛 R r κ ws.0)) (tt, (rest (chosen.exit yes) x, tt)) (tt, (tt, tt))) $
                use1 𝓛 (‵ (Rests 𝓛 R r κ (λ s. s ≡ r.now) (Ok (left 𝓛 R r κ ws.0))) ⊛ ‵ ((Answer 𝓛 R r κ).own_val (Ok (left 𝓛 R r κ ws.0)) (ok_val 𝓛 R r κ ∷ []))) (handed 𝓛 R r κ (λ s. s ≡ r.now) ws.0) $ split ! $
                -- [what lends; the result; the token; the other token]
                move ! (1 ∷ []) $ nothing ! $ nothing ! $ join ! $ nothing ! $ join ! $
                move ! (3 ∷ 4 ∷ []) $ join ! $ group ! 3 $ frame ! $ says_four ! is_chosen (once_of_ok r.now x t once _) tt refl $ done !),
            ((λ e. absurd (suc-ne-zero 0 (sym e))), (λ n. absurd (n.0.1 refl))),
          )))))))
      | Err e ↦ split ! $ split ! $ split ! $ move ! (2 ∷ []) $ use1 𝓛 (some (λ (w : Val). ‵ (feq (List Val) (v ∷ []) (err_told w ∷ [])) ⊛ ‵ (E.own_val e (w ∷ [])))) (err_is 𝓛 e v) $
          pick ! (λ w. split ! $ feq_l ! (λ is_err. peeks ! E _ (shows 𝓛 E) e (w ∷ []) (λ is.
          let w_typed = ((Cause-laws.the_row_laws.lawful 𝓛).typed e (w ∷ []) is).0 in
          lands_as ! (ap only is_err) refl (and_true _ w_typed.0, (record { fits = lit< tt }, (w_typed.1, tt))) $
          -- [the error; the token of α; nothing; what the helper says; ..]
          move ! (3 ∷ []) $ pick ! (λ ws. split ! $ move ! (1 ∷ []) $ split ! $ heard ! _ (λ _. split ! $ heard ! _ (λ is_refused. split ! $ heard ! _ (λ once. heard ! _ (λ is_left. fsplit ! $ fsplit ! $
          -- [the loan's last value; its borrow; the rest; the error; the token of α; nothing; what is kept]
          move ! (4 ∷ 6 ∷ 0 ∷ []) $ use3 𝓛 (later (‵ ((Ref 𝓛 R r κ κ).own_val (left 𝓛 R r κ ws.0) vs) ⊛ ‵ (flft κ q)))
          (returned 𝓛 R r κ q α δ ws.0) $ await ! tt $ split ! $
          first ! $ switches ! (get_tag ! (vrt ! refl (fld ! refl (stop !))) (whole !)) (
            (λ e. absurd (suc-ne-zero 0 e)),
            (
              (λ _. sets ! (of_opd ! (get_in ! (vrt ! refl (fld ! refl (stop !))) (in_variant ! 1 0 refl refl (whole !)))) refl w_typed $
                  sets ! (of_opd ! (get ! refl)) refl w_typed $
                  sets_last ! (agg ! (and_then ! (lit ! tt) (and_then ! (get ! refl) (no_more !)))) refl (and_true _ w_typed.0, (record { fits = lit< tt }, (w_typed.1, tt))) $
                  exec ! 𝓣.C 𝓣.Λ (env fn.locals l) (after 4 fn.body) (at_ret _ (W.post y)) $
                  sets ! (of_opd ! (get ! refl)) refl (and_true _ w_typed.0, (record { fits = lit< tt }, (w_typed.1, tt))) $
                  returns ! (look_at ! 0 refl) $ free_all ! refl $ keep ! (0 ∷ 4 ∷ 1 ∷ 6 ∷ []) $
                  suffices ! _ (ends_at 𝓛 f.ended stayed c y (err_told w) (Err e) (tt, (rest (chosen.exit yes) x, tt)) (tt, (tt, tt))) $
                  use2 𝓛 (‵ (Rests 𝓛 R r κ (λ s. s ≡ r.now) (Err e)) ⊛ ‵ ((Answer 𝓛 R r κ).own_val (Err e) (err_told w ∷ []))) (given_up 𝓛 R r κ (λ s. s ≡ r.now) ws.0 is_left e w) $ split ! $
                  move ! (1 ∷ []) $ nothing ! $ nothing ! $ join ! $ nothing ! $ join ! $
                  move ! (3 ∷ 4 ∷ []) $ join ! $ group ! 3 $ frame ! $ says_four ! tt (once_of_err _ r.now x e is_refused once) is_refused tt $ done !),
              (λ n. absurd (n.1 refl)),
            ),
          )))))))))
    ]))))))
