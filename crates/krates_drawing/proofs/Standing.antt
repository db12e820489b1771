-- Both ends of each drawn edge are nodes.
use Rattle.std.proofs.Common.{List, [], ◌∷◌, length, inl, inr, refl, subst}
use Rattle.std.proofs.lemmas.List.Elements.{All-from_recursion}
use Rattle.std.specs.List.{AllByRecursion}
use Rattle.krates_drawing.specs.Drawing.{PlannedEdge, planned_edges, planned_nodes}
use Rattle.krates_drawing.specs.Ends.{HasEnds, EndsStand}
use Rattle.krates_drawing.proofs.DrawnEdges.{drawn_of}
use Rattle.krates_drawing.proofs.Closed.{ends_stand}
use Rattle.krates_drawing.proofs.Holding.{holds}
use Rattle.krates_rules.proofs.Members.{Member}
use Rattle.krates_drawing.proofs.NodeNumbers.{number_below}

pub each : {A : Type 0} (P : A → Type 0) (xs : List A) → ((x : A) → Member xs x → P x) → AllByRecursion P xs
each P [] h = tt
each P (x ∷ xs) h = (h x (inl refl), each P xs (λ y m. h y (inr m)))

pub all_stand : EndsStand
all_stand r s t outline = All-from_recursion (HasEnds (length (planned_nodes t))) (planned_edges t) (each (HasEnds (length (planned_nodes t))) (planned_edges t) stands)
  where
    stands : (l : PlannedEdge) → Member (planned_edges t) l → HasEnds (length (planned_nodes t)) l
    stands l m =
        let d = drawn_of t l m in
        let k = ends_stand r s t d.from d.to d.tie (holds r s t outline) d.planned in
        subst (HasEnds (length (planned_nodes t))) d.is (number_below t d.from k.0, number_below t d.to k.1)
