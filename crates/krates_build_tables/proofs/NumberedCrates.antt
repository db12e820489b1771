-- Members, and crates that have a package, have numbers.
use Rattle.std.proofs.Common.{◌≡◌, ℕ, List, map, Some, Contains, option_map, ap, ◌∙◌, slice_get}
use Rattle.std.proofs.lemmas.Option.{slice_get-map}
use Rattle.std.specs.List.{AllZip}
use Rattle.krates_cm.specs.Document.{Text, PackageModel}
use Rattle.krates_ids.specs.Identity.{Identity, Reads}
use Rattle.krates_questions.specs.Lookup.{IsLookup, resolved_view}
use Rattle.krates_questions.specs.declared.lookup.Lookup.{Lookup}
use Rattle.krates_rules.specs.Admission.{package_texts}
use Rattle.krates_rules.specs.Facts.{Id}
use Rattle.krates_rules.specs.Resolved.{HasPackage, IsMember, ReadsAs, id_of}
use Rattle.krates_rules.proofs.Elements.{contains_image}
use Rattle.krates_rules.proofs.OnlyOne.{place_in}
use Rattle.krates_rules.proofs.Readings.{ReadsOnce, right_of}

-- the ids of the crates, by number
abbrev pub numbered_ids : Lookup → List Id
numbered_ids d = map id_of d.ids.now.table.ids.items

-- the id has no number
abbrev pub HasNoNumber : Lookup → Id → Type 0
HasNoNumber d i = (n : ℕ) → slice_get (numbered_ids d) n ≡ Some i → ⊥

-- what a text of a list is read as is at its place among the ids that are read from the list
read_there : ReadsOnce → (texts : List Text) (ids : List Identity) (t : Text) (i : Id) → AllZip Reads texts ids → Contains texts t → ReadsAs t i → (n : ℕ) × (slice_get (map id_of ids) n ≡ Some i)
read_there once texts ids t i z among reads =
    let at = place_in texts t among in
    let y = right_of Reads texts ids at.0 t z at.1 in
    let same : id_of y.0 ≡ i = ap id_of (once t y.0 reads.read y.2 reads.reads) ∙ reads.same in
    (at.0, slice_get-map id_of ids at.0 ∙ ap (option_map id_of) y.1 ∙ ap (λ (j : Id). Some j) same)

pub member_numbered : ReadsOnce → (d : Lookup) → IsLookup d → (i : Id) → IsMember (resolved_view d) i → HasNoNumber d i → ⊥
member_numbered once d h i m none =
    let there = read_there once (resolved_view d).metadata.workspace_members d.ids.now.members.items m.text i h.ids.members m.among m.id in
    d.ids.now.indexed.members.among i none there.0 there.1

pub package_numbered : ReadsOnce → (d : Lookup) → IsLookup d → (i : Id) (p : PackageModel) → HasPackage (resolved_view d) i p → HasNoNumber d i → ⊥
package_numbered once d h i p has none =
    let r = resolved_view d in
    let among = contains_image (λ (q : PackageModel). q.id) r.metadata.packages p has.among in
    let there = read_there once (package_texts r.metadata) d.ids.now.packages.items p.id i h.ids.packages among has.id in
    d.ids.now.indexed.packages.among i none there.0 there.1
