-- What the questions to a document rest on: membership by a test, and the path of a manifest.
use Rattle.std.proofs.Common.{◌≡◌, ◌↔◌, ℕ, ◌+◌, ◌<◌, List, [], ◌∷◌, ◌++◌, length, map, take, get_or, cond, ◌||◌, bytes_eq, Bool, true, false, IsTrue, Contains, refl, sym, ap, ◌∙◌, arith, length-append, append-nil, eqb-true, inl, inr, rules, tests}
use Rattle.std.specs.Prelude.{◌≢◌, codes, filter}
use Rattle.std.proofs.lemmas.Bool.{both_ways, cases_Bool}
use Rattle.std.proofs.lemmas.List.{get_or_default, map-append}
use Rattle.std.proofs.lemmas.List.Elements.{filter_more}
use Rattle.std.proofs.lemmas.List.Folds.{Any-from_list_any, list_any_at}
use Rattle.std.proofs.lemmas.List.Sums.{fails_before_first, passes_at_first, split_at_first}
use Rattle.std.proofs.lemmas.Slice.Eq.{bytes_eq-Decides}
use Rattle.std.specs.List.{after_first, before_first, list_any, position_or_len}
use Rattle.krates_text.specs.Path.{components, IsParent}
use Rattle.krates_cm.specs.Document.{id_view}
use Rattle.krates_cm.specs.Queries.{is_plus, source_kind, IsManifestIn}
use Rattle.krates_cm.specs.contracts.package_id.PackageIdPartialEq.TheImpl.{ghosts as id_equality}
use Rattle.krates_cm.specs.declared.package.Package.{Package}
use Rattle.krates_cm.specs.declared.package.SourceKind.TheVariants.{Other}
use Rattle.krates_cm.specs.declared.package_id.PackageId.{PackageId}
use Rattle.krates_cm.specs.contracts.target.TargetKindPartialEq.TheImpl.{ghosts as kind_equality}
use Rattle.krates_cm.specs.declared.target.TargetKind.{TargetKind}
use Rattle.krates_cm.specs.declared.target.TargetKind.TheVariants as kinds

-- ---- kinds

kind_same : (kind other : TargetKind) → kind_equality.eq other kind ≡ true → other ≡ kind
kind_same kinds.Bench other e = search (rules, tests)
kind_same kinds.Bin other e = search (rules, tests)
kind_same kinds.CustomBuild other e = search (rules, tests)
kind_same kinds.CDyLib other e = search (rules, tests)
kind_same kinds.DyLib other e = search (rules, tests)
kind_same kinds.Example other e = search (rules, tests)
kind_same kinds.Lib other e = search (rules, tests)
kind_same kinds.ProcMacro other e = search (rules, tests)
kind_same kinds.RLib other e = search (rules, tests)
kind_same kinds.StaticLib other e = search (rules, tests)
kind_same kinds.Test other e = search (rules, tests)

kind_itself : (kind : TargetKind) → kind_equality.eq kind kind ≡ true
kind_itself kinds.Bench = refl
kind_itself kinds.Bin = refl
kind_itself kinds.CustomBuild = refl
kind_itself kinds.CDyLib = refl
kind_itself kinds.DyLib = refl
kind_itself kinds.Example = refl
kind_itself kinds.Lib = refl
kind_itself kinds.ProcMacro = refl
kind_itself kinds.RLib = refl
kind_itself kinds.StaticLib = refl
kind_itself kinds.Test = refl

-- the test of `contains` tells whether the kind is there
pub has_told : (all : List TargetKind) (kind : TargetKind) (b : Bool) → b ≡ list_any (λ other. kind_equality.eq other kind) all → IsTrue b ↔ Contains all kind
has_told all kind b is = (
  λ t. (
      let w = Any-from_list_any (λ other. kind_equality.eq other kind) all (sym is ∙ t) in
      (w.0, w.2, get_or_default all w.0 kind w.1 w.2 ∙ w.3 ∙ kind_same kind w.1 w.4)),
  λ (k, lt, here). is ∙ list_any_at (λ other. kind_equality.eq other kind) all k kind lt (ap (λ other. kind_equality.eq other kind) here ∙ kind_itself kind),
)

-- ---- the path of a manifest

same_last : {X : Type 0} (xs ys : List X) (x y : X) → xs ++ x ∷ [] ≡ ys ++ y ∷ [] → (xs ≡ ys) × (x ≡ y)
same_last [] [] x y e = (refl, cc)
same_last [] (b ∷ ys) x y e = absurd (omega (arith, ap length e, length-append ys (y ∷ [])))
same_last (a ∷ xs) [] x y e = absurd (omega (arith, ap length e, length-append xs (x ∷ [])))
same_last (a ∷ xs) (b ∷ ys) x y e =
    let heads : a ≡ b = cc in
    let rest = same_last xs ys x y cc in
    (λ i. heads i ∷ rest.0 i, rest.1)

-- it is the manifest's path where its parent is the directory and its last component is `Cargo.toml`
pub manifest_told : (directory path parent : List ℕ) (b : Bool) → IsParent path parent → components parent ≡ components directory
    → (IsTrue b ↔ ((front : List (List ℕ)) × (components path ≡ front ++ codes "Cargo.toml" ∷ []))) → IsTrue b ↔ IsManifestIn directory path
manifest_told directory path parent b is same told = (
  λ t. (
      let ends = told.0 t in
      let lasts = same_last (components parent) ends.0 is.last (codes "Cargo.toml") (sym is.others ∙ ends.1) in
      is.others ∙ ap (λ last. components parent ++ last ∷ []) lasts.1 ∙ ap (λ front. front ++ codes "Cargo.toml" ∷ []) same),
  λ manifest. told.1 (components directory, manifest),
)

-- ---- packages with certain ids

any_seen : {X Y : Type 0} (seen : X → Y) (test : Y → Bool) (xs : List X) → list_any test (map seen xs) ≡ list_any (λ x. test (seen x)) xs
any_seen seen test [] = refl
any_seen seen test (x ∷ xs) = ap (λ rest. test (seen x) || rest) (any_seen seen test xs)

-- one more package is found
pub found_next : {R : Type 0} (seen : R → Package) (test : Package → Bool) (packages : List Package) (i : ℕ) (found : List R) (here : R) → i < length packages → seen here ≡ get_or packages i (seen here) → test (seen here) ≡ true
    → map seen found ≡ filter test (take i packages) → map seen (found ++ here ∷ []) ≡ filter test (take (i + 1) packages)
found_next seen test packages i found here lt is passes so_far =
    let more = filter_more test packages i (seen here) lt in
    rw (map-append, so_far) (sym (more ∙ ap (λ p. filter test (take i packages) ++ cond (test p) (p ∷ []) []) (sym is) ∙ ap (λ b. filter test (take i packages) ++ cond b (seen here ∷ []) []) passes))

-- the next package isn't among them
pub passed_next : (test : Package → Bool) (packages : List Package) (i : ℕ) (here : Package) → i < length packages → here ≡ get_or packages i here → test here ≡ false → filter test (take (i + 1) packages) ≡ filter test (take i packages)
passed_next test packages i here lt is fails =
    filter_more test packages i here lt ∙ ap (λ p. filter test (take i packages) ++ cond (test p) (p ∷ []) []) (sym is) ∙ ap (λ b. filter test (take i packages) ++ cond b (here ∷ []) []) fails ∙ append-nil (filter test (take i packages))

-- the test of `contains` tells whether the id is among them
pub among_told : (ids : List PackageId) (id : PackageId) (b : Bool) → b ≡ list_any (λ one. id_equality.eq one id) ids → b ≡ list_any (λ one. bytes_eq one (id_view id)) (map id_view ids)
among_told ids id b is = is ∙ sym (any_seen id_view (λ one. bytes_eq one (id_view id)) ids)

-- ---- the kind of a source

-- a text that has a plus is the part before the first plus, that plus, and a rest
cut_at_plus : (text : List ℕ) → list_any is_plus text ≡ true → (rest : List ℕ) × (text ≡ before_first is_plus text ++ 43 ∷ rest)
cut_at_plus text has =
    let any = Any-from_list_any is_plus text has in
    let late : any.0 < position_or_len is_plus text → ⊥ = λ lt. both_ways (is_plus any.1) (ap is_plus (sym any.3) ∙ fails_before_first is_plus text any.0 any.1 lt) any.4 in
    let within : position_or_len is_plus text < length text = omega (arith, late, any.2) in
    let plus = eqb-true (get_or text (position_or_len is_plus text) 0) 43 (passes_at_first is_plus text 0 within) in
    (after_first is_plus text, split_at_first is_plus text 0 within ∙ ap (λ b. before_first is_plus text ++ b ∷ after_first is_plus text) plus)

-- the part before the first plus isn't a name with which, and a plus, the text doesn't begin
other_name : (text name : List ℕ) → list_any is_plus text ≡ true → ((rest : List ℕ) → text ≢ name ++ 43 ∷ rest) → bytes_eq (before_first is_plus text) name ≡ false
other_name text name has lacks = elim (cases_Bool (bytes_eq (before_first is_plus text) name)) [
  | inl same ↦
      let cut = cut_at_plus text has in
      absurd (lacks cut.0 (cut.1 ∙ ap (λ front. front ++ 43 ∷ cut.0) ((bytes_eq-Decides (before_first is_plus text) name).0 same)))
  | inr other ↦ other
]

-- a text without a plus, or with another name before the first, is of another kind
pub other_kind : (text : List ℕ) → ((rest : List ℕ) → text ≢ codes "registry+" ++ rest) → ((rest : List ℕ) → text ≢ codes "sparse+" ++ rest)
    → ((rest : List ℕ) → text ≢ codes "git+" ++ rest) → ((rest : List ℕ) → text ≢ codes "path+" ++ rest) → source_kind text ≡ Other
other_kind text registry sparse git path = elim (cases_Bool (list_any is_plus text)) [
  | inl has ↦
      rw (has, other_name text (codes "registry") has registry, other_name text (codes "sparse") has sparse, other_name text (codes "git") has git, other_name text (codes "path") has path) refl
  | inr lacks ↦ rw lacks refl
]
