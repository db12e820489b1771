use Rattle.std.proofs.Common.{◌≡◌, ℕ, List, Option, length, map, ap, arith, subst}
use Rattle.std.proofs.lemmas.List.{length-map}
use Rattle.std.specs.Global.{Vec}
use Rattle.krates_cm.specs.Document.{node_view, package_view}
use Rattle.krates_cm.specs.declared.package.Package.{Package}
use Rattle.krates_cm.specs.declared.resolve.Node.{Node}
use Rattle.krates_ids.specs.Identity.{Identity}
use Rattle.krates_questions.specs.FeatureTable.{listed_in, features_from}
use Rattle.krates_document.specs.declared.named_places.NamedPlace.{NamedPlace}
use Rattle.krates_document.specs.CrateTable.{AreNumbersOf, numbers_in}
use Rattle.krates_questions.specs.NameIndex.{IsNameIndex, lists_in, AreRenamedIn}
use Rattle.krates_document.specs.declared.crate_table.CrateTable.{CrateTable}
use Rattle.krates_questions.specs.declared.name_index.NameIndex.{NameIndex}
use Rattle.krates_questions.proofs.NodeParts.{long_zip}
use Rattle.krates_rules.specs.Admission.{AreDepIds}
use Rattle.krates_rules.specs.Resolved.{id_of}
use Rattle.krates_questions.proofs.lookup.lookup_of.Goals as goal

abbrev IsIndexOf : List Package → List Node → List (Vec Identity) → NameIndex → Type 0
IsIndexOf packages nodes ids = IsNameIndex (map package_view packages) (map node_view nodes) (map (λ (kids : Vec Identity). kids.items) ids)

abbrev IsRenamedOf : CrateTable → Vec (Vec NamedPlace) → List Package → List Node → List (Vec Identity) → Type 0
IsRenamedOf t renamed packages nodes ids = AreRenamedIn (map package_view packages) t.packages.items (map node_view nodes) (map (λ (kids : Vec Identity). kids.items) ids) (numbers_in t.dep_numbers) (lists_in renamed)

pub renamed_by_name-requires-clause-ids : goal.renamed_by_name-requires-clause-ids
renamed_by_name-requires-clause-ids c =
    let nodes = c.args.resolve.now.nodes.items in
    let lists = c.args.ids.now.deps.items in
    let items : Vec Identity → List Identity = λ v. v.items in
    let long = long_zip AreDepIds (map node_view nodes) (map items lists) c.requires.read.deps in
    omega (arith, long, length-map nodes node_view, length-map lists items, ap length c.deref-6.ensures.value, ap length c.deref-7.ensures.value)

pub renamed_by_name-requires-clause-numbers : goal.renamed_by_name-requires-clause-numbers
renamed_by_name-requires-clause-numbers c =
    let nodes = c.args.resolve.now.nodes.items in
    let lists = c.args.ids.now.deps.items in
    let t = c.args.ids.now.table in
    let items : Vec Identity → List Identity = λ v. v.items in
    let own : Vec (Option ℕ) → List (Option ℕ) = λ v. v.items in
    let long = long_zip AreDepIds (map node_view nodes) (map items lists) c.requires.read.deps in
    let numbers = long_zip (AreNumbersOf (map id_of t.ids.items)) (map items lists) (numbers_in t.dep_numbers) c.args.ids.now.indexed.dep_numbers in
    omega (arith, long, numbers, length-map nodes node_view, length-map t.dep_numbers.items own, ap length c.deref-6.ensures.value)

pub returns-clause-lookup : goal.returns-clause-lookup
returns-clause-lookup c =
    let names = c.in_ok-names.names in
    let of_ids = subst (λ (ks : List (Vec Identity)). IsIndexOf c.deref-2.result.now c.deref-3.result.now ks names) c.deref-4.ensures.value c.in_ok-names.ensures in
    let of_nodes = subst (λ (ns : List Node). IsIndexOf c.deref-2.result.now ns c.args.ids.now.deps.items names) c.deref-3.ensures.value of_ids in
    let t = c.args.ids.now.table in
    let renamed = c.in_ok-renamed.renamed in
    let by_ids = subst (λ (ks : List (Vec Identity)). IsRenamedOf t renamed c.deref-5.result.now c.deref-6.result.now ks) c.deref-7.ensures.value c.in_ok-renamed.ensures in
    let by_nodes = subst (λ (ns : List Node). IsRenamedOf t renamed c.deref-5.result.now ns c.args.ids.now.deps.items) c.deref-6.ensures.value by_ids in
    record {
      ids = c.requires.read;
      distinct = c.requires.distinct;
      features = subst (λ (ns : List Node). listed_in c.in_ok-features.features ≡ features_from 0 (map node_view ns)) c.deref.ensures.value c.in_ok-features.ensures.listed;
      numbered = c.in_ok-features.ensures.numbered;
      names = subst (λ (ps : List Package). IsIndexOf ps c.args.resolve.now.nodes.items c.args.ids.now.deps.items names) c.deref-2.ensures.value of_nodes;
      renamed = subst (λ (ps : List Package). IsRenamedOf t renamed ps c.args.resolve.now.nodes.items c.args.ids.now.deps.items) c.deref-5.ensures.value by_nodes;
    }
