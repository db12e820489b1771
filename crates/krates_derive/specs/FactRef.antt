-- Facts and edges whose parts are borrowed, as the rules see them, their order, and sets of them.
use Rattle.std.specs.Prelude.{option_map, ◌≡◌, ◌↔◌, IsTrue, List, Contains}
use Rattle.std.specs.declared.cmp.Ordering.{Ordering}
use Rattle.krates_cm.specs.Document.{text_view}
use Rattle.krates_derive.specs.contracts.fact_ref.FactRefOrd.TheImpl as fact_order
use Rattle.krates_derive.specs.declared.fact_ref.FactRef.{FactRef}
use Rattle.krates_derive.specs.declared.fact_ref.FactRef.TheVariants as fact_ref
use Rattle.krates_derive.specs.declared.fact_ref.EdgeRef.{EdgeRef}
use Rattle.krates_derive.specs.declared.fact_ref.FeatureRef.{FeatureRef}
use Rattle.krates_derive.specs.declared.fact_ref.ToggleRef.{ToggleRef}
use Rattle.krates_rules.specs.Facts.{Edge, Fact, Crate, Feature, Kept, Toggled, Id}
use Rattle.krates_rules.specs.Kind.{written_of}
use Rattle.krates_rules.specs.Resolved.{id_of}
use Rattle.std.specs.BTreeSet.{BTreeSet, contains}
use Rattle.krates_derive.specs.contracts.fact_set.PairOrd.TheImpl as pair_order
use Rattle.krates_derive.specs.declared.fact_set.Pair.{Pair}

-- the edge with these borrowed parts
abbrev pub edge_of_ref : EdgeRef → Edge
edge_of_ref e = record {
  parent = id_of e.parent.now;
  child = id_of e.child.now;
  kind = written_of e.kind;
  cfg = option_map text_view e.cfg.now;
}

-- the fact that the feature is enabled
abbrev pub feature_of_ref : FeatureRef → Fact
feature_of_ref f = Feature (id_of f.krate.now) f.name.now

-- the fact that the feature is toggled
abbrev pub toggle_of_ref : ToggleRef → Fact
toggle_of_ref t = Toggled (id_of t.by.now) (id_of t.krate.now) t.name.now

-- the fact with these borrowed parts
abbrev pub fact_of_ref : FactRef → Fact
fact_of_ref (fact_ref.Crate krate) = Crate (id_of krate.now)
fact_of_ref (fact_ref.Feature feature) = feature_of_ref feature
fact_of_ref (fact_ref.Kept edge) = Kept (edge_of_ref edge)
fact_of_ref (fact_ref.Toggled toggle) = toggle_of_ref toggle

-- the derived order
abbrev pub fact_cmp : FactRef → FactRef → Ordering
fact_cmp = (fact_order.ghosts).cmp

-- ---- a list of facts, as a set

-- the list has an edge from the one crate to the other
abbrev pub HasBetween : List Fact → Id → Id → Type 0
HasBetween fs p c = (e : Edge) × Contains fs (Kept e) × (e.parent ≡ p) × (e.child ≡ c)

-- the set has exactly the facts of the list
abbrev pub HasKeys : BTreeSet FactRef → List Fact → Type 0
HasKeys set fs = (k : FactRef) → IsTrue (contains fact_cmp set k) ↔ Contains fs (fact_of_ref k)

-- the derived order of pairs
abbrev pub pair_cmp : Pair → Pair → Ordering
pair_cmp = (pair_order.ghosts).cmp

-- the set has exactly the crates of the edges of the list
abbrev pub HasPairs : BTreeSet Pair → List Fact → Type 0
HasPairs set fs = (k : Pair) → IsTrue (contains pair_cmp set k) ↔ HasBetween fs (id_of k.parent.now) (id_of k.child.now)
