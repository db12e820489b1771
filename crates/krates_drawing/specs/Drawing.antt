-- The graph of a selection: its nodes, each crate's mapping, and its edges.
use Rattle.std.specs.Prelude.{ℕ, ◌+◌, suc, Bool, ◌&&◌, if◌then◌else◌, List, [], ◌∷◌, ◌++◌, map, length, filter, flat_map, Option, Some, None, ◌==◌}
use Rattle.std.specs.List.{list_any, range_with_len}
use Rattle.std.specs.Option.{option_map}
use Rattle.std.specs.Str.{bytes_eq}
use Rattle.krates_cm.specs.Document.{Text}
use Rattle.krates_rules.specs.Facts.{Id}
use Rattle.krates_rules.specs.Kind.{kind_of}
use Rattle.krates_rules.specs.declared.kind.DepKind.{DepKind}
use Rattle.krates_drawing.specs.Outline.{CrateRow, EdgeRow, Meaning, OwnFeature, Crates, FeatureOf, FeatureRow, Toggle, Outline}

-- whether the ids are equal
abbrev pub id_eq : Id → Id → Bool
id_eq a b = bytes_eq a.name b.name && (bytes_eq a.version b.version && bytes_eq a.source b.source)

-- the place of the first element that passes; past the end if none does
abbrev pub place_of : {A : Type 0} → (A → Bool) → List A → ℕ
place_of p [] = 0
place_of p (x ∷ xs) = if p x then 0 else suc (place_of p xs)

-- ---- nodes

-- a node: a kept crate, or an enabled feature of one
pub data Endpoint : Type 0 where
  AtCrate : (id : Id) → Endpoint
  AtFeature : (krate : Id) (name : Text) → Endpoint

-- whether the crate has this id
abbrev pub is_crate : Id → CrateRow → Bool
is_crate q k = id_eq k.id q

-- whether this is the feature of that name of the crate
abbrev pub is_feature : Id → Text → FeatureRow → Bool
is_feature q f n = id_eq n.krate q && bytes_eq n.name f

-- the place of a crate among the kept ones
abbrev pub crate_number : Outline → Id → ℕ
crate_number t q = place_of (is_crate q) t.krates

-- after all crates, the place of a feature among the enabled ones
abbrev pub feature_number : Outline → Id → Text → ℕ
feature_number t q f = length t.krates + place_of (is_feature q f) t.features

-- kept crates in the order of their ids, then the enabled features, by crate and then by name
abbrev pub number : Outline → Endpoint → ℕ
number t (AtCrate q) = crate_number t q
number t (AtFeature q f) = feature_number t q f

-- ---- edges

-- what an edge of the graph says
pub data EdgeModel : Type 0 where
  Dep : (kind : DepKind) (cfg : Option Text) → EdgeModel
  Feature : EdgeModel
  DepFeature : (kind : DepKind) (cfg : Option Text) → EdgeModel

-- an edge of the graph, from number to number
pub record PlannedEdge : Type 0 where
  pub source : ℕ
  pub target : ℕ
  pub tie : EdgeModel

-- the edge between two nodes, by their numbers
abbrev pub line : Outline → Endpoint → Endpoint → EdgeModel → PlannedEdge
line t from to tie = record { source = number t from; target = number t to; tie = tie }

-- ---- first part: what each crate uses

-- a `Dep` if the kept edge gives no feature, otherwise a `DepFeature` for each that it gives
unfoldable pub uses : Outline → EdgeRow → List Text → List PlannedEdge
uses t l [] = line t (AtCrate l.edge.parent) (AtCrate l.edge.child) (Dep (kind_of l.edge.kind) l.edge.cfg) ∷ []
uses t l (f ∷ fs) = map (λ g. line t (AtCrate l.edge.parent) (AtFeature l.edge.child g) (DepFeature (kind_of l.edge.kind) l.edge.cfg)) (f ∷ fs)

-- whether the edge leads from p to q
abbrev pub is_link : Id → Id → EdgeRow → Bool
is_link p q l = id_eq l.edge.parent p && id_eq l.edge.child q

-- whether p toggles the feature, which is one of q's
abbrev pub is_between : Id → Id → Toggle → Bool
is_between p q t = id_eq t.by p && id_eq t.krate q

-- a kept edge leads from p to q
abbrev pub leads : Outline → Id → Id → Bool
leads t p q = list_any (is_link p q) t.links

-- the kept edges from p to q, then the features of q that p toggles
unfoldable pub pair_lines : Outline → Id → Id → List PlannedEdge
pair_lines t p q =
    flat_map (λ l. uses t l l.given) (filter (is_link p q) t.links)
    ++ map (λ g. line t (AtCrate p) (AtFeature q g.name) Feature) (filter (is_between p q) t.toggled)

-- to each crate with a kept edge from p, in id order
unfoldable pub crate_lines : Outline → CrateRow → List PlannedEdge
crate_lines t p = flat_map (λ q. pair_lines t p.id q.id) (filter (λ q. leads t p.id q.id) t.krates)

-- ---- second part: what each feature leads to

-- what a reference of a feature of p names
abbrev pub targets : Outline → Id → Meaning → List Endpoint
targets t p (OwnFeature g) = AtFeature p g ∷ []
targets t p (Crates ids) = map AtCrate (filter (leads t p) ids)
targets t p (FeatureOf ids g) = map (λ q. AtFeature q g) (filter (leads t p) ids)

-- to its crate, then to what its references name
unfoldable pub feature_lines : Outline → FeatureRow → List PlannedEdge
feature_lines t n = map (λ e. line t (AtFeature n.krate n.name) e Feature) (AtCrate n.krate ∷ flat_map (targets t n.krate) n.meanings)

-- ---- all edges

-- the edges that the crates have, then those that the features have
unfoldable pub planned_edges : Outline → List PlannedEdge
planned_edges t = flat_map (crate_lines t) t.krates ++ flat_map (feature_lines t) t.features

-- ---- the mapping of a crate

-- the last of a list, or the one before if the list is empty
abbrev pub last_from : {A : Type 0} → Option A → List A → Option A
last_from o [] = o
last_from o (x ∷ xs) = last_from (Some x) xs

-- a kept edge from p to q has the declared dependency at k as its own
abbrev pub claims : Outline → Id → ℕ → CrateRow → Bool
claims t p k q = list_any (λ l. is_link p q.id l && (l.place == k)) t.links

-- the number of the greatest crate that claims p's declared dependency at k: the last one in id order
abbrev pub mapped : Outline → Id → ℕ → Option ℕ
mapped t p k = option_map (λ q. crate_number t q.id) (last_from None (filter (claims t p k) t.krates))

-- one entry for each declared dependency of the package
unfoldable pub mapping : Outline → CrateRow → List (Option ℕ)
mapping t p = map (mapped t p.id) (range_with_len 0 p.declared)

-- ---- nodes with what they hold

-- a node with what it holds: a crate its mapping, a feature the number of its crate
pub data PlannedNode : Type 0 where
  PlannedCrate : (id : Id) (mapping : List (Option ℕ)) → PlannedNode
  PlannedFeature : (krate : ℕ) (name : Text) → PlannedNode

-- the node of a crate
abbrev pub planned_crate : Outline → CrateRow → PlannedNode
planned_crate t p = PlannedCrate p.id (mapping t p)

-- the node of a feature
abbrev pub planned_feature : Outline → FeatureRow → PlannedNode
planned_feature t n = PlannedFeature (crate_number t n.krate) n.name

-- kept crates in the order of their ids, then one node for each enabled feature, by crate and then by name
abbrev pub planned_nodes : Outline → List PlannedNode
planned_nodes t = map (planned_crate t) t.krates ++ map (planned_feature t) t.features
