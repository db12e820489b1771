use Rattle.std.proofs.Common.{◌≡◌, ◌<◌, ℕ, Bor, List, Contains, length, get_or, sym, ap, subst, ◌∙◌, arith, Result, Ok, Err, IfOk, MatchResult}
use Rattle.std.proofs.lemmas.List.{get_or-map, length-map}
use Rattle.krates_ids.specs.Identity.{Identity}
use Rattle.krates_document.specs.CrateTable.{lent_to}
use Rattle.krates_rules.specs.Resolved.{id_of}
use Rattle.krates_selection.specs.Selection.{id_at, no_id}
use Rattle.krates_selection.proofs.kept.kid_at.Goals as goal

-- what is borrowed at a place
lent_here : (kids : List (Bor Identity)) (n : ℕ) (b : Bor Identity) → n < length (lent_to kids) → b ≡ get_or kids n b → get_or (lent_to kids) n b.now ≡ b.now
lent_here kids n b lt is = get_or-map (λ (x : Bor Identity). x.now) kids n b b.now (omega (arith, lt, length-map kids (λ (x : Bor Identity). x.now))) ∙ ap (λ (x : Bor Identity). x.now) (sym is)

-- what holds of an id holds of its copy
copied : {X : Type 0} (F : X → Type 0) (i : Identity) (r : Result Identity X) (P : Identity → Type 0) → P i → MatchResult r (λ k. k ≡ i) F → IfOk r P
copied F i (Ok k) P h same = subst P (sym same) h
copied F i (Err e) P h other = tt

pub returns-clause-id : goal.returns-clause-id
returns-clause-id c =
    let b = c.index-kids-number.result in
    let ids = lent_to c.args.kids.now in
    let n = c.args.number in
    let here = get_or-map id_of ids n b.now no_id c.requires ∙ ap id_of (lent_here c.args.kids.now n b c.requires c.index-kids-number.is) in
    copied _ b.now c.clone.result (λ (k : Identity). id_of k ≡ id_at ids n) (sym here) c.clone.ensures.cases

pub returns-clause-among : goal.returns-clause-among
returns-clause-among c =
    let b = c.index-kids-number.result in
    let ids = lent_to c.args.kids.now in
    let n = c.args.number in
    let here = lent_here c.args.kids.now n b c.requires c.index-kids-number.is in
    copied _ b.now c.clone.result (λ (k : Identity). Contains ids k) (n, c.requires, here) c.clone.ensures.cases
