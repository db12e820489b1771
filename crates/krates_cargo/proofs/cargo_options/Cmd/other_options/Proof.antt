use Rattle.krates_cargo.proofs.Walking.{ℕ, [], ◌∷◌, refl, ap, lit<, proved, full_share, id⊢, ftrue, flft, named, fact, tables, ‵, raw, ◌⊛◌, some, later, at_ret, ◌$◌, ◌∵◌, !, qed, done, move, keep, use1, use2, use3, split, join, fsplit, feq_l, pick, await, suffices, frame, group, enter, of_opd, addr, lit, stop, no_more, and_then, first, branches, exec, returns, alloc_all, pass_all, free_all, look_at, get, through, sets, sets_last, agg, lands_as, env, bool, mut_vals, mut_Tells, plain, nothing, heard, only, calls_at, lasts, triple_of, framed, Stays, walk_of, stay_dropped, Goes-dropped, Goes-spent_ref, mut_ref_to, ends_at, yes, no}
use Rattle.krates_cargo.proofs.HandedBack.{Ref, left, Kept, Rests, Answer, ok_val, err_val, lent, returned, handed, given_up, says_both, when_true, when_false}
use Rattle.krates_cargo.proofs.TextArguments.{texts, texts_vals, texts_laws, texts_tells}
use Rattle.std.proofs.Common.{Bool}
use Rattle.std.specs.Prelude.{◌≡◌, Ok, Err}
use Rattle.std.specs.Bool.{MatchBool}
use Rattle.std.proofs.VecSteps.Shapes.{after}
use Rattle.krates_cm.specs.Document.{texts_view}
use Rattle.krates_cargo.specs.CargoOptions.{CargoOptionsModel}
use Rattle.krates_cargo.specs.Setters.{with_options}
use Rattle.krates_cargo.specs.contracts.cargo_options.Cmd.{the_row}
use Rattle.krates_cargo.specs.contracts.cargo_options.Cmd.other_options as f
use Rattle.krates_cargo.proofs.cargo_options.Cmd.other_options.Statement.{statement}
use Rattle.krates_cargo.proofs.cargo_options.Cmd.other_options.Code as code
use Rattle.krates_cargo.specs.contracts.cargo_options.Cmd.has_added_options as g
use Rattle.krates_cargo.proofs.cargo_options.Cmd.has_added_options.Met.{met}

abbrev stayed : Stays f.ended.signature.params f.ended.kept
stayed = (stay_dropped (mut_ref_to (0 ∷ []) tt (plain (λ _. the_row))) no, (stay_dropped _ yes, tt))

pub other_options_spec : {M : Type 1} → statement M
other_options_spec 𝓤 𝓛 𝓜 𝓡 wired =
    let R = the_row in let fn = code.function in
    let c = f.clauses 𝓛 𝓜.mem 𝓡.returns in let W = walk_of 𝓛 f.ended stayed c in let 𝓣 = tables 𝓤 𝓛.H 𝓜 𝓡 𝓡.env in
    proved 𝓛 f.ended stayed c 𝓜 𝓡 (Goes-spent_ref 𝓛 1 (0 ∷ []) tt (plain (λ _. R)), (Goes-dropped 𝓛 1 (plain (λ _. texts)) yes (λ κs x w. refl), tt))
    f.Key.name fn (code.unfolded 𝓤 𝓛.H 𝓜 𝓡 wired)
    (λ κs. (mut_vals, (texts_vals, tt)))
    (λ κs. (mut_Tells (named 0) κs.0 R, (texts_tells, tt))) (λ κs qs bounds a _ are.
    let κ = κs.0 in let q = qs.0 in let r = a.0 in let x = a.1.0 in let vs = mut_vals r in
    let y : W.Ghost = ((κs, qs, bounds, a, (vs, (texts_vals x, tt))), tt) in
    let typed = ((texts_laws.lawful 𝓛).typed x _ are.1.0).0 in
    qed 𝓛 (((‵ (flft κ q) ⊛ ‵ ftrue) ⊛ ‵ ((Ref 𝓛 R r κ κ).own_val r vs) ⊛ ‵ (texts.own_val x (texts_vals x)) ⊛ ‵ ftrue) ∷ ‵ ftrue ∷ []) ∵
    split ! $ split ! $ move ! (2 ∷ []) $ split ! $ move ! (1 ∷ []) $ split ! $ keep ! (2 ∷ 3 ∷ 0 ∷ 4 ∷ []) $
    enter ! _ _ _ _ _ $ alloc_all ! (λ l. pass_all ! refl ((tt, tt), (typed, tt)) $
    sets ! (addr ! (through ! refl (stop !))) refl (tt, tt) $
    sets ! (of_opd ! (get ! refl)) refl typed $
    -- [r; the token of κ; the argument; the other token]
    use2 𝓛 (later (some (λ (α : ℕ). some (λ (δ : ℕ). ‵ ((Ref 𝓛 R r κ (α ∷ [])).own_val (record r { ghost_name = δ }) vs) ⊛ ‵ (Kept 𝓛 R r κ q α δ) ⊛ ‵ (flft (α ∷ []) full_share)))))
    (lent 𝓛 R r κ q) $ await ! tt $ pick ! (λ α. pick ! (λ δ. split ! $ move ! (1 ∷ []) $ split ! $ move ! (2 ∷ []) $
    -- [the loan; what is kept; the token of α; the argument; the other token]
    let G = triple_of 𝓛 g.signature (g.spec 𝓛 𝓜.mem 𝓡.returns) in
    let z : G.Ghost = (((α ∷ [], tt), (full_share, tt), tt, (record r { ghost_name = δ }, (x, tt)), (vs, (texts_vals x, tt))), tt) in
    nothing ! $ move ! (4 ∷ 0 ∷ []) $ join ! $ move ! (1 ∷ 0 ∷ []) $ join ! $
    nothing ! $ move ! (3 ∷ 0 ∷ []) $ join ! $ join ! $ nothing ! $ move ! (1 ∷ 0 ∷ []) $ use2 𝓛 (raw (G.pre z)) (id⊢ 𝓤 _) $
    calls_at ! (framed 𝓤 𝓛.H 𝓜 (tables 𝓤 𝓛.H 𝓜 𝓡 𝓡.env)) G (met 𝓤 𝓛 𝓜 𝓡 (code.calls-krates_cargo::cargo_options::Cmd::has_added_options 𝓡.env wired)) z
    (and_then ! (get ! refl) (and_then ! (get ! refl) (no_more !))) (λ v.
    use1 𝓛 (later (some (λ (u : Bool). ((‵ (flft (α ∷ []) full_share) ⊛ ‵ ftrue) ⊛ ‵ (bool.own_val u (v ∷ []))) ⊛
    some (λ (ws : CargoOptionsModel × (Unit {0} × Unit {0})). ‵ (lasts g.ended z.0.0 z.0.3 ws) ⊛ raw (fact 𝓤 (MatchBool u (ws.0 ≡ with_options r.now (texts_view x)) (ws.0 ≡ r.now))))))) (id⊢ 𝓤 _) $
    await ! tt $ pick ! (λ u. split ! $ split ! $ split ! $ move ! (2 ∷ []) $ feq_l ! (λ is_bool.
    lands_as ! (ap only is_bool) refl (tt, tt) $
    move ! (2 ∷ []) $ pick ! (λ ws. split ! $ move ! (1 ∷ []) $ heard ! _ (λ is_set. fsplit ! $ fsplit ! $
    -- [the loan's last value; its borrow; the rest; the token of α; nothing; what is kept]
    move ! (3 ∷ 5 ∷ 0 ∷ []) $ use3 𝓛 (later (‵ ((Ref 𝓛 R r κ κ).own_val (left 𝓛 R r κ ws.0) vs) ⊛ ‵ (flft κ q)))
    (returned 𝓛 R r κ q α δ ws.0) $ await ! tt $ split ! $
    first ! $ branches ! (get ! refl)
    (λ is_yes.
    sets ! (addr ! (through ! refl (stop !))) refl (tt, tt) $
    sets_last ! (agg ! (and_then ! (lit ! tt) (and_then ! (get ! refl) (no_more !)))) refl (tt, (record { fits = lit< tt }, (tt, tt))) $
    exec ! 𝓣.C 𝓣.Λ (env fn.locals l) (after 4 fn.body) (at_ret _ (W.post y)) $
    sets ! (of_opd ! (get ! refl)) refl (tt, (record { fits = lit< tt }, (tt, tt))) $
    returns ! (look_at ! 0 refl) $ free_all ! refl $ keep ! (0 ∷ 1 ∷ 5 ∷ []) $
    suffices ! _ (ends_at 𝓛 f.ended stayed c y (ok_val 𝓛 R r κ) (Ok (left 𝓛 R r κ ws.0)) (tt, (tt, tt)) (tt, (tt, tt))) $
    use1 𝓛 (‵ (Rests 𝓛 R r κ (λ s. s ≡ r.now) (Ok (left 𝓛 R r κ ws.0))) ⊛ ‵ ((Answer 𝓛 R r κ).own_val (Ok (left 𝓛 R r κ ws.0)) (ok_val 𝓛 R r κ ∷ []))) (handed 𝓛 R r κ (λ s. s ≡ r.now) ws.0) $ split ! $
    -- [what lends; the result; the token; the other token]
    move ! (1 ∷ []) $ nothing ! $ nothing ! $ join ! $ nothing ! $ join ! $
    move ! (3 ∷ 4 ∷ []) $ join ! $ group ! 3 $ frame ! $ says_both ! (when_true u _ _ is_yes is_set) refl $ done !)
    (λ is_no.
    sets ! (agg ! (no_more !)) refl (tt, tt) $
    sets_last ! (agg ! (and_then ! (lit ! tt) (and_then ! (get ! refl) (no_more !)))) refl (tt, (record { fits = lit< tt }, (tt, tt))) $
    exec ! 𝓣.C 𝓣.Λ (env fn.locals l) (after 4 fn.body) (at_ret _ (W.post y)) $
    sets ! (of_opd ! (get ! refl)) refl (tt, (record { fits = lit< tt }, (tt, tt))) $
    returns ! (look_at ! 0 refl) $ free_all ! refl $ keep ! (0 ∷ 1 ∷ 5 ∷ []) $
    suffices ! _ (ends_at 𝓛 f.ended stayed c y (err_val 𝓛 R r κ) (Err (record {})) (tt, (tt, tt)) (tt, (tt, tt))) $
    use1 𝓛 (‵ (Rests 𝓛 R r κ (λ s. s ≡ r.now) (Err (record {}))) ⊛ ‵ ((Answer 𝓛 R r κ).own_val (Err (record {})) (err_val 𝓛 R r κ ∷ []))) (given_up 𝓛 R r κ (λ s. s ≡ r.now) ws.0 (when_false u _ _ is_no is_set)) $ split ! $
    move ! (1 ∷ []) $ nothing ! $ nothing ! $ join ! $ nothing ! $ join ! $
    move ! (3 ∷ 4 ∷ []) $ join ! $ group ! 3 $ frame ! $ says_both ! tt tt $ done !))))))))))
