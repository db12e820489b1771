use Rattle.krates_cargo.proofs.Walking.{ℕ, [], ◌∷◌, refl, ap, lit<, proved, full_share, id⊢, ftrue, flft, named, fact, tables, ‵, raw, ◌⊛◌, some, later, at_ret, ◌$◌, ◌∵◌, !, qed, done, move, keep, use1, use2, use3, split, join, fsplit, feq_l, pick, await, suffices, frame, group, enter, of_opd, addr, lit, stop, no_more, and_then, first, branches, exec, returns, alloc_all, pass_all, free_all, look_at, get, through, sets, sets_last, agg, lands_as, env, bool, mut_vals, mut_Tells, plain, nothing, heard, only, calls_at, lasts, triple_of, framed, Stays, walk_of, stay_dropped, Goes-dropped, Goes-spent_ref, mut_ref_to, ends_at, yes, no}
use Rattle.krates_cargo.proofs.HandedBack.{Ref, left, Kept, Rests, Answer, ok_val, err_val, lent, returned, handed, given_up, says_both, when_true, when_false}
use Rattle.std.proofs.Common.{Bool}
use Rattle.std.specs.Prelude.{◌≡◌, Ok, Err}
use Rattle.std.specs.Bool.{MatchBool}
use denote.Signature.{Slot, shr_slice_of}
use denote.Slice.{shr_slice_vals, shr_slice_Tells, shr_slice_Lawful}
use denote.Text.{StrRefOf}
use Rattle.krates.specs.BuilderModel.{BuilderModel, AsksForCrates}
use Rattle.std.proofs.VecSteps.Shapes.{after}
use base.Fml.{Incl}
use base.Logic.{emp}
use contract.Monad.{fact_i}
use denote.Param.{bounded}
use mathlib.Core.List.{not-mem-nil}
use mir.MapTy.{inst_fn}
use mir.Syntax.{Dict, Fn, a_type, dcons, dnil}
use types.Kit.{use0}
use denote.RattleType.{RattleType}
use Rattle.krates.specs.contracts.builder.Builder.{the_row}
use Rattle.krates.specs.contracts.builder.Builder.include_workspace_crates as f
use Rattle.krates.proofs.builder.Builder.include_workspace_crates.Statement.{statement}
use Rattle.krates.proofs.builder.Builder.include_workspace_crates.Code as code
use Rattle.krates.specs.contracts.builder.Builder.has_included_crates as g
use Rattle.krates.proofs.builder.Builder.has_included_crates.Met.{met}

-- the argument, `&[&str]`
abbrev paths : Slot 4
paths = shr_slice_of (1 ∷ []) tt (StrRefOf (2 ∷ []) tt)

abbrev stayed : (S : RattleType) (d : Dict) → Stays (f.ended S d).signature.params (f.ended S d).kept
stayed S d = (stay_dropped (mut_ref_to (0 ∷ []) tt (plain (λ _. the_row (f.S-row S)))) no, (stay_dropped _ yes, tt))

pub include_workspace_crates_spec : {M : Type 1} → statement M
include_workspace_crates_spec 𝓤 𝓛 𝓜 𝓡 wired S laws d glue =
    let R = the_row (f.S-row S) in let params = bounded (a_type ∷ []) (S, tt) (dcons d dnil) in let fn : Fn = inst_fn params code.function in
    let c = f.clauses S d 𝓛 𝓜.mem 𝓡.returns in let W = walk_of 𝓛 (f.ended S d) (stayed S d) c in let 𝓣 = tables 𝓤 𝓛.H 𝓜 𝓡 𝓡.env in
    proved 𝓛 (f.ended S d) (stayed S d) c 𝓜 𝓡 (Goes-spent_ref 𝓛 4 (0 ∷ []) tt (plain (λ _. R)), (Goes-dropped 𝓛 4 paths yes (λ κs x w. refl), tt))
    (f.Key.name params) fn (code.unfolded 𝓤 𝓛.H 𝓜 𝓡 wired (S, tt) d)
    (λ κs. (mut_vals, (shr_slice_vals, tt)))
    (λ κs. (mut_Tells (named 0) κs.0 R, (shr_slice_Tells (named 1) κs.1.0 ((StrRefOf {n = 4} (2 ∷ []) tt).row κs), tt))) (λ κs qs bounds a _ are.
    let κ = κs.0 in let q = qs.0 in let r = a.0 in let x = a.1.0 in let vs = mut_vals r in
    let y : W.Ghost = ((κs, qs, bounds, a, (vs, (shr_slice_vals x, tt))), tt) in
    let typed = ((shr_slice_Lawful 𝓛 (named 1) κs.1.0 ((StrRefOf {n = 4} (2 ∷ []) tt).row κs)).typed x _ are.1.0).0 in
    let of_paths = ‵ (flft κs.1.0 qs.1.0) in let of_texts = ‵ (flft κs.1.1.0 qs.1.1.0) in
    let others = of_paths ⊛ of_texts ⊛ ‵ (flft κs.1.1.1.0 qs.1.1.1.0) ⊛ ‵ ftrue in
    qed 𝓛 (((‵ (flft κ q) ⊛ others) ⊛ ‵ ((Ref 𝓛 R r κ κ).own_val r vs) ⊛ ‵ ((paths.row κs).own_val x (shr_slice_vals x)) ⊛ ‵ ftrue) ∷ (raw (fact 𝓤 (Incl κs.1.1.1.0 S.lives)) ⊛ raw (fact 𝓤 (Incl [] S.lives)) ⊛ ‵ ftrue) ∷ []) ∵
    move ! (1 ∷ []) $ split ! $ heard ! _ (λ _. split ! $ heard ! _ (λ is_static. move ! (1 ∷ []) $
    split ! $ split ! $ move ! (2 ∷ []) $ split ! $ move ! (1 ∷ []) $ split ! $ keep ! (2 ∷ 3 ∷ 0 ∷ 4 ∷ []) $
    enter ! _ _ _ _ _ $ alloc_all ! (λ l. pass_all ! refl ((tt, tt), (typed, tt)) $
    sets ! (addr ! (through ! refl (stop !))) refl (tt, tt) $
    -- [r; the token of κ; the argument; the other tokens]
    use2 𝓛 (later (some (λ (α : ℕ). some (λ (δ : ℕ). ‵ ((Ref 𝓛 R r κ (α ∷ [])).own_val (record r { ghost_name = δ }) vs) ⊛ ‵ (Kept 𝓛 R r κ q α δ) ⊛ ‵ (flft (α ∷ []) full_share)))))
    (lent 𝓛 R r κ q) $ await ! tt $ pick ! (λ α. pick ! (λ δ. split ! $ move ! (1 ∷ []) $ split ! $ move ! (2 ∷ []) $
    -- [the loan; what is kept; the token of α; the argument; the other tokens]
    let G = triple_of 𝓛 (g.signature S) (g.spec S d 𝓛 𝓜.mem 𝓡.returns) in
    let z : G.Ghost = (((α ∷ [], (κs.1.0, (κs.1.1.0, ([], tt)))), (full_share, (qs.1.0, (qs.1.1.0, (full_share, tt)))), (bounds.0, ((λ _ m. absurd (not-mem-nil m)), tt)), (record r { ghost_name = δ }, (x, tt)), (vs, (shr_slice_vals x, tt))), tt) in
    nothing ! $ move ! (4 ∷ 0 ∷ []) $ join ! $ move ! (1 ∷ 0 ∷ []) $ join ! $
    move ! (3 ∷ []) $ split ! $ move ! (1 ∷ []) $ split ! $
    -- [the token of the texts; that of S; that of the paths; the arguments; what is kept; the token of α]
    nothing ! $ use0 𝓛 (‵ (flft [] full_share)) (𝓛.lfts.lft-nil full_share) $ join ! $ move ! (1 ∷ 0 ∷ []) $ join ! $ move ! (2 ∷ 0 ∷ []) $ join ! $ move ! (4 ∷ 0 ∷ []) $ join ! $ move ! (0 ∷ 2 ∷ []) $ join ! $
    nothing ! $ use0 𝓛 (raw (fact 𝓤 (Incl [] S.lives))) (fact_i 𝓤 _ (emp 𝓤) is_static) $ join ! $ use0 𝓛 (raw (fact 𝓤 (Incl [] S.lives))) (fact_i 𝓤 _ (emp 𝓤) is_static) $ join ! $ move ! (1 ∷ 0 ∷ []) $ use2 𝓛 (raw (G.pre z)) (id⊢ 𝓤 _) $
    calls_at ! (framed 𝓤 𝓛.H 𝓜 (tables 𝓤 𝓛.H 𝓜 𝓡 𝓡.env)) G (met 𝓤 𝓛 𝓜 𝓡 (code.calls-krates::builder::Builder::has_included_crates 𝓡.env wired) S laws d glue) z
    (and_then ! (get ! refl) (and_then ! (get ! refl) (no_more !))) (λ v.
    use1 𝓛 (later (some (λ (u : Bool). ((‵ (flft (α ∷ []) full_share) ⊛ of_paths ⊛ of_texts ⊛ ‵ (flft [] full_share) ⊛ ‵ ftrue) ⊛ ‵ (bool.own_val u (v ∷ []))) ⊛
    some (λ (ws : BuilderModel S.Denot × (Unit {0} × Unit {0})). ‵ (lasts (g.ended S d) z.0.0 z.0.3 ws) ⊛ raw (fact 𝓤 (MatchBool u (AsksForCrates r.now ws.0 x.now) (ws.0 ≡ r.now))))))) (id⊢ 𝓤 _) $
    await ! tt $ pick ! (λ u. split ! $ split ! $ split ! $ move ! (2 ∷ []) $ feq_l ! (λ is_bool.
    lands_as ! (ap only is_bool) refl (tt, tt) $
    move ! (2 ∷ []) $ pick ! (λ ws. split ! $ move ! (1 ∷ []) $ heard ! _ (λ is_set. fsplit ! $ fsplit ! $
    -- [the loan's last value; its borrow; the rest; the token of α; those of the paths and texts; that of S; what is kept]
    move ! (3 ∷ 6 ∷ 0 ∷ []) $ use3 𝓛 (later (‵ ((Ref 𝓛 R r κ κ).own_val (left 𝓛 R r κ ws.0) vs) ⊛ ‵ (flft κ q)))
    (returned 𝓛 R r κ q α δ ws.0) $ await ! tt $ split ! $
    move ! (4 ∷ []) $ split ! $ move ! (1 ∷ []) $ split ! $ move ! (7 ∷ []) $ move ! (1 ∷ 0 ∷ []) $ join ! $ move ! (2 ∷ 0 ∷ []) $ join ! $ move ! (2 ∷ 3 ∷ 0 ∷ []) $
    -- [`r` at its last value; the token of κ; the other tokens]
    first ! $ branches ! (get ! refl)
    (λ is_yes.
    sets ! (addr ! (through ! refl (stop !))) refl (tt, tt) $
    sets_last ! (agg ! (and_then ! (lit ! tt) (and_then ! (get ! refl) (no_more !)))) refl (tt, (record { fits = lit< tt }, (tt, tt))) $
    exec ! 𝓣.C 𝓣.Λ (env fn.locals l) (after 3 fn.body) (at_ret _ (W.post y)) $
    sets ! (of_opd ! (get ! refl)) refl (tt, (record { fits = lit< tt }, (tt, tt))) $
    returns ! (look_at ! 0 refl) $ free_all ! refl $ keep ! (0 ∷ 1 ∷ 2 ∷ []) $
    suffices ! _ (ends_at 𝓛 (f.ended S d) (stayed S d) c y (ok_val 𝓛 R r κ) (Ok (left 𝓛 R r κ ws.0)) (tt, (tt, tt)) (tt, (tt, tt))) $
    use1 𝓛 (‵ (Rests 𝓛 R r κ (λ s. s ≡ r.now) (Ok (left 𝓛 R r κ ws.0))) ⊛ ‵ ((Answer 𝓛 R r κ).own_val (Ok (left 𝓛 R r κ ws.0)) (ok_val 𝓛 R r κ ∷ []))) (handed 𝓛 R r κ (λ s. s ≡ r.now) ws.0) $ split ! $
    -- [what lends; the result; the token; the other tokens]
    move ! (1 ∷ []) $ nothing ! $ nothing ! $ join ! $ nothing ! $ join ! $
    move ! (3 ∷ 4 ∷ []) $ join ! $ group ! 3 $ frame ! $ says_both ! (when_true u _ _ is_yes is_set) refl $ done !)
    (λ is_no.
    sets ! (agg ! (no_more !)) refl (tt, tt) $
    sets_last ! (agg ! (and_then ! (lit ! tt) (and_then ! (get ! refl) (no_more !)))) refl (tt, (record { fits = lit< tt }, (tt, tt))) $
    exec ! 𝓣.C 𝓣.Λ (env fn.locals l) (after 3 fn.body) (at_ret _ (W.post y)) $
    sets ! (of_opd ! (get ! refl)) refl (tt, (record { fits = lit< tt }, (tt, tt))) $
    returns ! (look_at ! 0 refl) $ free_all ! refl $ keep ! (0 ∷ 1 ∷ 2 ∷ []) $
    suffices ! _ (ends_at 𝓛 (f.ended S d) (stayed S d) c y (err_val 𝓛 R r κ) (Err (record {})) (tt, (tt, tt)) (tt, (tt, tt))) $
    use1 𝓛 (‵ (Rests 𝓛 R r κ (λ s. s ≡ r.now) (Err (record {}))) ⊛ ‵ ((Answer 𝓛 R r κ).own_val (Err (record {})) (err_val 𝓛 R r κ ∷ []))) (given_up 𝓛 R r κ (λ s. s ≡ r.now) ws.0 (when_false u _ _ is_no is_set)) $ split ! $
    move ! (1 ∷ []) $ nothing ! $ nothing ! $ join ! $ nothing ! $ join ! $
    move ! (3 ∷ 4 ∷ []) $ join ! $ group ! 3 $ frame ! $ says_both ! tt tt $ done !))))))))))))
