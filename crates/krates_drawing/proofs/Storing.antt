-- What holds of drawn edges holds of stored ones.
use Rattle.std.proofs.Common.{◌↔◌, ℕ, List, sym, ◌∙◌, subst}
use Rattle.std.specs.List.{AllZip}
use Rattle.krates_graph.specs.declared.graph.edge.GraphEdge.{GraphEdge}
use Rattle.krates_drawing.specs.Agreement.{IsOf, LeadsTo}
use Rattle.krates_drawing.specs.Drawing.{PlannedEdge, PlannedNode}
use Rattle.krates_drawing.specs.Stored.{IsStoredAs, LeadsAlong}
use Rattle.krates_drawing.specs.declared.edge.Edge.{Edge}
use Rattle.krates_rules.proofs.Members.{member_of, contains_of, partner_of, swapped}

-- stored edges lead where drawn ones lead
pub stored_leads : {E : Type 0} (made : Edge → E → Type 0) (nodes : List PlannedNode) (ls : List PlannedEdge) (gs : List (GraphEdge E)) (p d : ℕ) → AllZip (IsStoredAs made) ls gs → LeadsTo nodes ls p d ↔ LeadsAlong nodes gs p d
stored_leads {E} made nodes ls gs p d z = (
  λ w.
      (let g = partner_of (IsStoredAs made) ls gs w.line z (member_of ls w.line w.among) in
      record { edge = g.partner; among = contains_of gs g.partner g.member; from = g.related.source ∙ w.from; to = subst (IsOf nodes d) (sym g.related.target) w.to }),
  λ w.
      (let l = partner_of (λ g l. IsStoredAs made l g) gs ls w.edge (swapped (IsStoredAs made) ls gs z) (member_of gs w.edge w.among) in
      record { line = l.partner; among = contains_of ls l.partner l.member; from = sym l.related.source ∙ w.from; to = subst (IsOf nodes d) l.related.target w.to }),
)
