-- The crates under a name in a map: whether they are several, and one name more.
use Rattle.std.proofs.Common.{◌≡◌, ◌++◌, ◌≤◌, ℕ, Bor, List, [], ◌∷◌, Bool, false, cond, map, filter, length, nat_lt, ap, ◌∙◌, arith}
use Rattle.std.proofs.lemmas.Bool.Decides.{nat_tests}
use Rattle.std.proofs.lemmas.List.{length-map, map-append}
use Rattle.std.proofs.lemmas.List.Elements.{filter-append}
use Rattle.std.specs.Global.{Vec}
use Rattle.krates_cm.specs.Document.{Text}
use Rattle.krates_cm.specs.declared.package.Package.{Package}
use Rattle.krates_queries.specs.KrateNodes.{Match, match_view}
use Rattle.krates_queries.specs.declared.queries.krate_nodes.KrateMatch.{KrateMatch}
use Rattle.krates_answers.specs.Grouped.{Group, group_view, seen_group}
use Rattle.krates_answers.proofs.DuplicateLemmas.{has_several}

-- the crates under a name, as they are seen
abbrev pub named_entry : Bor Text × Vec (KrateMatch Package) → Group (Match Package)
named_entry e = seen_group match_view (group_view e)

few_of : (n : ℕ) → n ≤ 1 → nat_lt 1 n ≡ false
few_of n few = grind (arith, nat_tests)

pub few_in : (ms : List (KrateMatch Package)) → length ms ≤ 1 → nat_lt 1 (length (map match_view ms)) ≡ false
few_in ms few = few_of (length (map match_view ms)) (rw (length-map ms match_view) few)

pub names_more : (es : List (Bor Text × Vec (KrateMatch Package))) (e : Bor Text × Vec (KrateMatch Package)) (b : Bool) → has_several (named_entry e) ≡ b
    → filter has_several (map named_entry (es ++ e ∷ [])) ≡ filter has_several (map named_entry es) ++ cond b (named_entry e ∷ []) []
names_more es e b is =
    ap (filter has_several) (map-append named_entry es (e ∷ [])) ∙ filter-append has_several (map named_entry es) (named_entry e ∷ [])
    ∙ ap (λ b. filter has_several (map named_entry es) ++ cond b (named_entry e ∷ []) []) is
