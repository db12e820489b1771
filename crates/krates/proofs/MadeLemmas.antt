-- Nodes made from what was drawn and from packages, one by one and as lists.
use Rattle.std.proofs.Common.{◌≡◌, ◌≤◌, ◌∙◌, ℕ, suc, arith, List, [], ◌∷◌, ◌++◌, length, map, refl, sym, ap, subst}
use Rattle.std.proofs.lemmas.List.{length-map}
use Rattle.std.specs.List.{AllZip, zip}
use Rattle.std.specs.Prelude.{String}
use Rattle.std.specs.declared.alloc.Global.{Global}
use Rattle.krates_cm.specs.Document.{text_view}
use Rattle.krates_cm.specs.declared.package.Package.{Package}
use Rattle.krates_drawing.specs.Drawing as model
use Rattle.krates_drawing.specs.Drawing.{planned_crate, planned_feature, mapping, planned_nodes}
use Rattle.krates_drawing.specs.Outline as outline
use Rattle.krates_drawing.specs.Outline.{Outline}
use Rattle.krates_drawing.specs.Views.{ArePlannedNodes, planned_feature_view}
use Rattle.krates_ids.specs.Identity.{Identity}
use Rattle.krates_ids.specs.declared.error.Error.{Error}
use Rattle.krates_ids.specs.declared.error.Error.TheVariants as errors
use Rattle.krates_rules.specs.Facts.{Id}
use Rattle.krates_rules.specs.Resolved.{id_of}
use Rattle.krates_queries.specs.Drawn.{planned_node}
use Rattle.krates_drawing.specs.Division.{krate_ids, krate_packages}
use Rattle.krates.specs.MadeNodes.{CountRefusal, IsMade, Mapping, Set, crate_node, feature_node, nodes_in}
use Rattle.krates_drawing.specs.Node.{crate_ids, crate_values, crate_features, CratesFirst, names_in}
use Rattle.krates_drawing.specs.declared.division.Krate.{Krate}
use Rattle.krates_drawing.specs.declared.nodes.PlannedFeature.{PlannedFeature}
use Rattle.krates_drawing.specs.declared.nodes.PlannedNodes.{PlannedNodes}
use Rattle.krates_drawing.specs.declared.node.Node.{Node}
use Rattle.krates_drawing.specs.declared.node.Node.TheVariants as node
use Rattle.krates_selection.proofs.Places.{zip_append}

-- the node of a feature has no package, so it stays as it is
features_made : {N : Type 0} (made : Package → N → Type 0) (fs : List PlannedFeature) → AllZip (IsMade made) (map feature_node fs) (map feature_node fs)
features_made made [] = tt
features_made made (f ∷ fs) = ((refl, refl), features_made made fs)

-- the nodes of the features come after those of the crates
pub nodes_made : {N : Type 0} (made : Package → N → Type 0) (crates : List (Node Package)) (features : List PlannedFeature) (nodes after : List (Node N)) → AllZip (IsMade made) crates nodes
    → after ≡ nodes ++ map feature_node features → AllZip (IsMade made) (nodes_in crates features) after
nodes_made made crates features nodes after h is =
    subst (AllZip (IsMade made) (nodes_in crates features)) (sym is) (zip_append (IsMade made) crates (map feature_node features) nodes (map feature_node features) h (features_made made features))

-- ---- what was planned

abbrev nodes_for : List PlannedFeature → List (Node Package)
nodes_for fs = map feature_node fs

-- the nodes of the features are those that were planned
features_seen : (fs : List PlannedFeature) → map planned_node (nodes_for fs) ≡ map planned_feature_view fs
features_seen [] = refl
features_seen (f ∷ fs) = ap (λ xs. planned_feature_view f ∷ xs) (features_seen fs)

-- ---- nodes that are made of both

-- the features contain no crate
no_crates : (fs : List PlannedFeature) → (crate_ids (nodes_for fs) ≡ []) × (crate_values (nodes_for fs) ≡ []) × (crate_features (nodes_for fs) ≡ []) × CratesFirst (nodes_for fs)
no_crates [] = (refl, refl, refl, tt)
no_crates (f ∷ fs) = let w = no_crates fs in (w.0, w.1, w.2, w.0)

-- all that is said about the nodes
pub record AreMadeOf (t : Outline) (krates : List Krate) (sets : List Set) (nodes : List (Node Package)) : Type 0 where
  pub ids : crate_ids nodes ≡ krate_ids krates
  pub values : crate_values nodes ≡ krate_packages krates
  pub features : crate_features nodes ≡ map names_in sets
  pub first : CratesFirst nodes

joined : (t : Outline) (krates : List Krate) (sets : List Set) (maps : List Mapping) (rest : List PlannedFeature) → length sets ≡ length krates → length maps ≡ length krates
    → AreMadeOf t krates sets (map crate_node (zip krates (zip sets maps)) ++ nodes_for rest)
joined t [] [] [] rest e d = let w = no_crates rest in record { ids = w.0; values = w.1; features = w.2; first = w.3 }
joined t [] [] (m ∷ maps) rest e d = absurd cc
joined t [] (s ∷ sets) maps rest e d = absurd cc
joined t (k ∷ krates) [] maps rest e d = absurd cc
joined t (k ∷ krates) (s ∷ sets) [] rest e d = absurd cc
joined t (k ∷ krates) (s ∷ sets) (m ∷ maps) rest e d =
    let se : length sets ≡ length krates = cc in
    let de : length maps ≡ length krates = cc in
    let w = joined t krates sets maps rest se de in
    record {
      ids = ap (λ is. k.id ∷ is) w.ids;
      values = ap (λ ps. k.pkg ∷ ps) w.values;
      features = ap (λ ls. names_in s ∷ ls) w.features;
      first = w.first;
    }

planned_joined : (t : Outline) (ks : List outline.CrateRow) (krates : List Krate) (sets : List Set) (maps : List Mapping) (rest : List (Node Package)) (fs : List model.PlannedNode)
    → length sets ≡ length krates → map (λ (m : Mapping). m.items) maps ≡ map (mapping t) ks → map id_of (krate_ids krates) ≡ map (λ (k : outline.CrateRow). k.id) ks
    → map planned_node rest ≡ fs → map planned_node (map crate_node (zip krates (zip sets maps)) ++ rest) ≡ map (planned_crate t) ks ++ fs
planned_joined t [] [] [] [] rest fs e m i r = r
planned_joined t [] [] [] (n ∷ maps) rest fs e m i r = absurd cc
planned_joined t [] [] (s ∷ sets) maps rest fs e m i r = absurd cc
planned_joined t [] (k ∷ krates) sets maps rest fs e m i r = absurd cc
planned_joined t (k ∷ ks) [] sets maps rest fs e m i r = absurd cc
planned_joined t (k ∷ ks) (q ∷ krates) [] maps rest fs e m i r = absurd cc
planned_joined t (k ∷ ks) (q ∷ krates) (s ∷ sets) [] rest fs e m i r = absurd cc
planned_joined t (k ∷ ks) (q ∷ krates) (s ∷ sets) (n ∷ maps) rest fs e m i r =
    let se : length sets ≡ length krates = cc in
    let me : map (λ (x : Mapping). x.items) maps ≡ map (mapping t) ks = cc in
    let ie : map id_of (krate_ids krates) ≡ map (λ (x : outline.CrateRow). x.id) ks = cc in
    let head : n.items ≡ mapping t k = cc in
    let id : id_of q.id ≡ k.id = cc in
    let more = planned_joined t ks krates sets maps rest fs se me ie r in
    ap (λ ss. model.PlannedCrate (id_of q.id) n.items ∷ ss) more ∙ ap (λ (a : Id). model.PlannedCrate a n.items ∷ (map (planned_crate t) ks ++ fs)) id ∙ ap (λ b. model.PlannedCrate k.id b ∷ (map (planned_crate t) ks ++ fs)) head

same_length : {A B C : Type 0} (f : A → C) (g : B → C) (xs : List A) (ys : List B) → map f xs ≡ map g ys → length xs ≡ length ys
same_length f g xs ys e = sym (length-map xs f) ∙ ap length e ∙ length-map ys g

pub mapped_length : (krates : List Krate) → length (krate_ids krates) ≡ length krates
mapped_length krates = length-map krates (λ (k : Krate). k.id)

pub record AreDrawnNodes (t : Outline) (krates : List Krate) (sets : List Set) (nodes : List (Node Package)) : Type 0 where
  pub made : AreMadeOf t krates sets nodes
  pub planned_are : map planned_node nodes ≡ planned_nodes t

pub drawn_nodes : (t : Outline) (krates : List Krate) (sets : List Set) (planned : PlannedNodes) (nodes : List (Node Package)) → length sets ≡ length krates → ArePlannedNodes t planned
    → map id_of (krate_ids krates) ≡ map (λ (k : outline.CrateRow). k.id) t.krates → nodes ≡ map crate_node (zip krates (zip sets planned.mappings.items)) ++ map feature_node planned.features.items → AreDrawnNodes t krates sets nodes
drawn_nodes t krates sets planned nodes e d i are =
    let maps : List Mapping = planned.mappings.items in
    let rest = planned.features.items in
    let many : length maps ≡ length t.krates = same_length (λ (m : Mapping). m.items) (mapping t) maps t.krates d.mappings in
    let ids : length (krate_ids krates) ≡ length t.krates = same_length id_of (λ (k : outline.CrateRow). k.id) (krate_ids krates) t.krates i in
    let crates : length (krate_ids krates) ≡ length krates = mapped_length krates in
    let made = joined t krates sets maps rest e (many ∙ sym ids ∙ crates) in
    let there = planned_joined t t.krates krates sets maps (nodes_for rest) (map (planned_feature t) t.features) e d.mappings i (features_seen rest ∙ d.features) in
    record {
      made = subst (AreMadeOf t krates sets) (sym are) made;
      planned_are = ap (λ (ns : List (Node Package)). map planned_node ns) are ∙ there;
    }

pub count_of : {X Y : Type 0} (f : X → Y) (xs : List X) (ys : List Y) → map f xs ≡ ys → length xs ≡ length ys
count_of f xs ys e = sym (length-map xs f) ∙ ap length e

-- ---- other values in place of packages

pub record AreAlike {N : Type 0} (made : Package → N → Type 0) (xs : List (Node Package)) (ys : List (Node N)) : Type 0 where
  pub ids : crate_ids ys ≡ crate_ids xs
  pub values : AllZip made (crate_values xs) (crate_values ys)
  pub features : crate_features ys ≡ crate_features xs
  pub planned_are : map planned_node ys ≡ map planned_node xs
  pub count : length ys ≡ length xs

pub alike : {N : Type 0} (made : Package → N → Type 0) (xs : List (Node Package)) (ys : List (Node N)) → AllZip (IsMade made) xs ys → AreAlike made xs ys
alike made [] [] h = record { ids = refl; values = tt; features = refl; planned_are = refl; count = refl }
alike made [] (y ∷ ys) h = absurd h
alike made (x ∷ xs) [] h = absurd h
alike made (node.Krate id pkg fs m ∷ xs) (node.Krate i krate gs n ∷ ys) h =
    let w = alike made xs ys h.1 in
    record {
      ids = ap (λ is. i ∷ is) w.ids ∙ ap (λ j. j ∷ crate_ids xs) h.0.0;
      values = (h.0.3, w.values);
      features = ap (λ ls. names_in gs ∷ ls) w.features ∙ ap (λ s. names_in s ∷ crate_features xs) h.0.1;
      planned_are = ap (λ ss. model.PlannedCrate (id_of i) n.items ∷ ss) w.planned_are ∙ ap (λ (j : Identity). model.PlannedCrate (id_of j) n.items ∷ map planned_node xs) h.0.0 ∙ ap (λ (k : Mapping). model.PlannedCrate (id_of id) k.items ∷ map planned_node xs) h.0.2;
      count = ap suc w.count;
    }
alike made (node.Krate id pkg fs m ∷ xs) (node.Feature k n ∷ ys) h = absurd (h.0)
alike made (node.Feature krate_index name ∷ xs) (node.Krate i krate gs n ∷ ys) h = absurd (h.0)
alike made (node.Feature krate_index name ∷ xs) (node.Feature k n ∷ ys) h =
    let w = alike made xs ys h.1 in
    record {
      ids = w.ids;
      values = w.values;
      features = w.features;
      planned_are = ap (λ ss. model.PlannedFeature k (text_view n) ∷ ss) w.planned_are ∙ ap (λ j. model.PlannedFeature j (text_view n) ∷ map planned_node xs) h.0.0 ∙ ap (λ (s : String Global). model.PlannedFeature krate_index (text_view s) ∷ map planned_node xs) h.0.1;
      count = ap suc w.count;
    }

-- why a node was refused, if no more are there than are allowed
for_memory : (limit count : ℕ) (e : Error) → count ≤ limit → CountRefusal limit count e → e ≡ errors.Memory
for_memory limit count errors.NoResolveGraph le h = absurd h
for_memory limit count (errors.Metadata inner) le h = absurd h
for_memory limit count (errors.InvalidPkgSpec text) le h = absurd h
for_memory limit count errors.NoRootKrates le h = absurd h
for_memory limit count (errors.InvalidId text) le h = absurd h
for_memory limit count (errors.Doubled kid) le h = absurd h
for_memory limit count (errors.Lost what) le h = absurd h
for_memory limit count errors.TooMany le h = absurd (omega (arith, le, h))
for_memory limit count errors.Memory le h = refl

-- the same of the features, after the nodes of the crates
pub features_refused : {N : Type 0} (made : Package → N → Type 0) (crates : List (Node Package)) (features : List PlannedFeature) (nodes : List (Node N)) (limit most : ℕ) (e : Error)
    → AllZip (IsMade made) crates nodes → limit ≡ most → length (nodes_in crates features) ≤ most → CountRefusal limit (length (nodes ++ map (feature_node {P = N}) features)) e → e ≡ errors.Memory
features_refused made crates features nodes limit most e h same le refused =
    let w = alike made (nodes_in crates features) (nodes ++ map feature_node features) (nodes_made made crates features nodes _ h refl) in
    let count : length (nodes ++ map feature_node features) ≡ length (nodes_in crates features) = w.count in
    for_memory limit _ e (omega (arith, count, same, le)) refused

pub first_alike : {N : Type 0} (made : Package → N → Type 0) (xs : List (Node Package)) (ys : List (Node N)) → AllZip (IsMade made) xs ys → CratesFirst xs → CratesFirst ys
first_alike made [] [] h first = tt
first_alike made [] (y ∷ ys) h first = absurd h
first_alike made (x ∷ xs) [] h first = absurd h
first_alike made (node.Krate id pkg fs m ∷ xs) (node.Krate i krate gs n ∷ ys) h first = first_alike made xs ys h.1 first
first_alike made (node.Krate id pkg fs m ∷ xs) (node.Feature k n ∷ ys) h first = absurd (h.0)
first_alike made (node.Feature krate_index name ∷ xs) (node.Krate i krate gs n ∷ ys) h first = absurd (h.0)
first_alike made (node.Feature krate_index name ∷ xs) (node.Feature k n ∷ ys) h first = (alike made xs ys h.1).ids ∙ first
