-- What is written reads back: for each way to combine data, and so for each table.
use Rattle.std.proofs.Common.{◌≡◌, ℕ, List, [], ◌∷◌, true, false, Option, Some, None, refl, sym, subst, nat_cmp, length, suc, arith}
use Rattle.std.proofs.lemmas.Bool.Decides.{nat_tests}
use Rattle.std.specs.Prelude.{codes, MatchOption, MatchBool, is_some, not, ◌==◌}
use Rattle.std.specs.Cmp.Lexicographic.{slice_cmp}
use Rattle.std.specs.Ordering.{MatchOrdering, match_ordering}
use Rattle.std.specs.declared.cmp.Ordering.{Ordering}
use Rattle.std.specs.declared.cmp.Ordering.TheVariants.{Less, Equal, Greater}
use Rattle.serde_json.specs.Data.{Data, null, boolean, number, string, array, object, Items, no_items, item, Members, no_members, member}
use Rattle.serde_json.specs.Find.{get, get_member}
use Rattle.krates_cm.specs.Document.{Text}
use Rattle.krates_cm.specs.declared.dependency.DependencyKind.TheVariants.{Normal, Development, Build}
use Rattle.krates_cm.specs.declared.target.TargetKind.TheVariants as kinds
use Rattle.krates_cm.specs.declared.target.CrateType.TheVariants as crates
use Rattle.krates_cm.specs.declared.target.Edition.TheVariants.{E2015, E2018, E2021, E2024}
use Rattle.krates_cm_json.specs.Faults.{missing}
use Rattle.krates_cm_json.specs.Reading.{Reading, Reader, text, whole, any, items, list, map_items, map_of, found, required, or_default, nullable, present, optional, refused, read_as}
use Rattle.krates_cm_json.specs.Reading as reading
use Rattle.krates_cm_json.specs.Tables.{dependency_kind, target_kind, crate_type, edition, requirement, dep_kind_info, node_dep, node, resolve, dependency, target}
use Rattle.krates_cm_json.specs.Objects.{Writer, TextWritten, BooleanWritten, WholeWritten, AnyWritten, OptionWritten, EachWritten, ListWritten, EntriesWritten, MapWritten, Table, no_more, row, MembersWritten, ObjectWritten}
use Rattle.krates_cm_json.specs.RoundTrip.{RequirementReads}
use Rattle.krates_cm_json.specs.WrittenTexts.{KindWritten, TargetKindWritten, CrateTypeWritten, EditionWritten}
use Rattle.krates_cm_json.specs.WrittenTables.{dep_kind_info_table, node_dep_table, node_table, resolve_table, dependency_table, target_table, DepKindInfoWritten, NodeDepWritten, NodeWritten, ResolveWritten, DependencyWritten, TargetWritten}

-- whatever may be written for a value reads as it
abbrev pub ReadsBack : {A : Type 0} → Reader A → Writer A → Type 0
ReadsBack {A} read W = (key : Text) (x : A) (d : Data) → W x d → (read key d).value ≡ Some x

-- ---- plain values

pub text_again : ReadsBack text TextWritten
text_again key s d is = rw is refl

pub boolean_again : ReadsBack reading.boolean BooleanWritten
boolean_again key b d is = rw is refl

pub whole_again : ReadsBack whole WholeWritten
whole_again key n d is = rw is refl

pub any_again : ReadsBack any AnyWritten
any_again key m d is = rw is refl

kind_again : ReadsBack dependency_kind KindWritten
kind_again key Normal d is = rw is refl
kind_again key Development d is = rw is refl
kind_again key Build d is = rw is refl

target_kind_again : ReadsBack target_kind TargetKindWritten
target_kind_again key kinds.Bench d is = rw is refl
target_kind_again key kinds.Bin d is = rw is refl
target_kind_again key kinds.CustomBuild d is = rw is refl
target_kind_again key kinds.CDyLib d is = rw is refl
target_kind_again key kinds.DyLib d is = rw is refl
target_kind_again key kinds.Example d is = rw is refl
target_kind_again key kinds.Lib d is = rw is refl
target_kind_again key kinds.ProcMacro d is = rw is refl
target_kind_again key kinds.RLib d is = rw is refl
target_kind_again key kinds.StaticLib d is = rw is refl
target_kind_again key kinds.Test d is = rw is refl

crate_type_again : ReadsBack crate_type CrateTypeWritten
crate_type_again key crates.Bin d is = rw is refl
crate_type_again key crates.CDyLib d is = rw is refl
crate_type_again key crates.DyLib d is = rw is refl
crate_type_again key crates.Lib d is = rw is refl
crate_type_again key crates.ProcMacro d is = rw is refl
crate_type_again key crates.RLib d is = rw is refl
crate_type_again key crates.StaticLib d is = rw is refl

pub edition_again : ReadsBack edition EditionWritten
edition_again key E2015 d is = rw is refl
edition_again key E2018 d is = rw is refl
edition_again key E2021 d is = rw is refl
edition_again key E2024 d is = rw is refl

-- ---- lists, maps and null

each_again : {A : Type 0} (read : Reader A) (W : Writer A) → ReadsBack read W → (key : Text) (xs : List A) (ds : Items) → EachWritten W xs ds → (items (read key) ds).value ≡ Some xs
each_again read W again key [] no_items h = refl
each_again read W again key [] (item d ds) h = absurd h
each_again read W again key (x ∷ xs) no_items h = absurd h
each_again read W again key (x ∷ xs) (item d ds) h = rw (again key x d h.0, each_again read W again key xs ds h.1) refl

pub list_again : {A : Type 0} (read : Reader A) (W : Writer A) → ReadsBack read W → ReadsBack (list read) (ListWritten W)
list_again read W again key xs (array ds) h = each_again read W again key xs ds h
list_again read W again key xs null h = absurd h
list_again read W again key xs (boolean b) h = absurd h
list_again read W again key xs (number n) h = absurd h
list_again read W again key xs (string s) h = absurd h
list_again read W again key xs (object ms) h = absurd h

entries_again : {A : Type 0} (read : Reader A) (W : Writer A) → ReadsBack read W → (key : Text) (es : List (Text × A)) (ms : Members) → EntriesWritten W es ms → (map_items (read key) ms).value ≡ Some es
entries_again read W again key [] no_members h = refl
entries_again read W again key [] (member name d ms) h = absurd h
entries_again read W again key (e ∷ es) no_members h = absurd h
entries_again read W again key (e ∷ es) (member name d ms) h = rw (again key e.1 d h.1, entries_again read W again key es ms h.2, h.0) refl

pub map_again : {A : Type 0} (read : Reader A) (W : Writer A) → ReadsBack read W → ReadsBack (map_of read) (MapWritten W)
map_again read W again key es (object ms) h = entries_again read W again key es ms h
map_again read W again key es null h = absurd h
map_again read W again key es (boolean b) h = absurd h
map_again read W again key es (number n) h = absurd h
map_again read W again key es (string s) h = absurd h
map_again read W again key es (array ds) h = absurd h

-- no data that is written is null
abbrev pub NeverNull : {A : Type 0} → Writer A → Type 0
NeverNull {A} W = (x : A) → W x null → ⊥

pub nullable_again : {A : Type 0} (read : Reader A) (W : Writer A) → NeverNull W → ReadsBack read W → ReadsBack (nullable read) (OptionWritten W)
nullable_again read W never again key None d is = rw is refl
nullable_again read W never again key (Some x) null h = absurd (never x h)
nullable_again read W never again key (Some x) (boolean b) h = rw (again key x (boolean b) h) refl
nullable_again read W never again key (Some x) (number n) h = rw (again key x (number n) h) refl
nullable_again read W never again key (Some x) (string s) h = rw (again key x (string s) h) refl
nullable_again read W never again key (Some x) (array ds) h = rw (again key x (array ds) h) refl
nullable_again read W never again key (Some x) (object ms) h = rw (again key x (object ms) h) refl

pub text_never_null : NeverNull TextWritten
text_never_null s h = absurd cc

pub list_never_null : {A : Type 0} (W : Writer A) → NeverNull (ListWritten W)
list_never_null W xs h = h

-- ---- fields

pub found_again : {A : Type 0} (absent : Reading A) (read : Data → Reading A) (W : Data → Type 0) (x : A) (o : Option Data) → ((d : Data) → W d → (read d).value ≡ Some x) → MatchOption o ⊥ W → (found absent read o).value ≡ Some x
found_again absent read W x None again h = absurd h
found_again absent read W x (Some d) again h = again d h

pub required_again : {A : Type 0} (read : Reader A) (W : Writer A) → ReadsBack read W → (key : Text) (x : A) (d : Data) → MatchOption (get key d) ⊥ (W x) → (required read key d).value ≡ Some x
required_again read W again key x d h = found_again (refused (missing key)) (read key) (W x) x (get key d) (again key x) h

pub default_again : {A : Type 0} (read : Reader A) (W : Writer A) → ReadsBack read W → (default : A) (key : Text) (x : A) (d : Data) → MatchOption (get key d) ⊥ (W x) → (or_default read default key d).value ≡ Some x
default_again read W again default key x d h = found_again (read_as default) (read key) (W x) x (get key d) (again key x) h

pub optional_again : {A : Type 0} (read : Reader A) (W : Writer A) → NeverNull W → ReadsBack read W → (key : Text) (x : Option A) (d : Data) → MatchOption (get key d) ⊥ (OptionWritten W x) → (optional read key d).value ≡ Some x
optional_again read W never again key x d h = default_again (nullable read) (OptionWritten W) (nullable_again read W never again) None key x d h

-- a key that is left out for `None`
pub only_some_again : {A : Type 0} (read : Reader (Option A)) (W : Writer (Option A)) → ReadsBack read W → (key : Text) (x : Option A) (d : Data)
    → MatchBool (is_some x) (MatchOption (get key d) ⊥ (W x)) (get key d ≡ None) → (or_default read None key d).value ≡ Some x
only_some_again read W again key None d h = rw h refl
only_some_again read W again key (Some x) d h = default_again read W again None key (Some x) d h

suc_apart : (n : ℕ) → (suc n == 0) ≡ false
suc_apart n = grind (arith, nat_tests)

-- a list that is left out where it is empty
only_any_again : {A : Type 0} (read : Reader A) (W : Writer A) → ReadsBack read W → (key : Text) (xs : List A) (d : Data)
    → MatchBool (not (length xs == 0)) (MatchOption (get key d) ⊥ (ListWritten W xs)) (get key d ≡ None) → (or_default (list read) [] key d).value ≡ Some xs
only_any_again read W again key [] d h = rw h refl
only_any_again read W again key (x ∷ xs) d h = default_again (list read) (ListWritten W) (list_again read W again) [] key (x ∷ xs) d (rw (suc_apart (length xs)) at h)

-- a list that isn't read from null
pub present_again : {A : Type 0} (read : Reader A) (W : Writer A) → ReadsBack read W → (key : Text) (x : Option A) (d : Data)
    → MatchBool (is_some x) (MatchOption (get key d) ⊥ (OptionWritten W x)) (get key d ≡ None) → (or_default (present read) None key d).value ≡ Some x
present_again read W again key None d h = rw h refl
present_again read W again key (Some x) d h = found_again (read_as None) (present read key) (W x) (Some x) (get key d) (λ e w. rw (again key x e w) refl) h

-- ---- objects

-- what a table says of the data under a key
abbrev pub Says : Table → Text → Option Data → Type 0
Says no_more key o = o ≡ None
Says (row there name W rest) key o = MatchOrdering (slice_cmp nat_cmp key name) (Says rest key o) (MatchBool there (MatchOption o ⊥ W) (Says rest key o)) (Says rest key o)

always_so : (o : Ordering) (P : Type 0) → P → MatchOrdering o P P P
always_so Less P p = p
always_so Equal P p = p
always_so Greater P p = p

here_or_later : (o : Ordering) (P : Option Data → Type 0) (W : Data → Type 0) (d : Data) (later : Option Data) → W d → P later
    → MatchOrdering o (P (match_ordering o later (Some d) later)) (MatchOption (match_ordering o later (Some d) later) ⊥ W) (P (match_ordering o later (Some d) later))
here_or_later Less P W d later here rest = rest
here_or_later Equal P W d later here rest = here
here_or_later Greater P W d later here rest = rest

members_told : (table : Table) (ms : Members) (key : Text) → MembersWritten table ms → Says table key (get_member key ms)
members_told no_more no_members key h = refl
members_told no_more (member name d ms) key h = absurd h
members_told (row true name W rest) no_members key h = absurd h
members_told (row true name W rest) (member n d ms) key h =
    subst (λ (l : Text). Says (row true name W rest) key (match_ordering (slice_cmp nat_cmp key l) (get_member key ms) (Some d) (get_member key ms))) (sym h.0)
    (here_or_later (slice_cmp nat_cmp key name) (Says rest key) W d (get_member key ms) h.1 (members_told rest ms key h.2))
members_told (row false name W rest) ms key h = always_so (slice_cmp nat_cmp key name) (Says rest key (get_member key ms)) (members_told rest ms key h)

-- under each key an object of a table has what the table says
pub told : (table : Table) (d : Data) (key : Text) → ObjectWritten table d → Says table key (get key d)
told table (object ms) key h = members_told table ms key h
told table null key h = absurd h
told table (boolean b) key h = absurd h
told table (number n) key h = absurd h
told table (string s) key h = absurd h
told table (array ds) key h = absurd h

pub object_again : (table : Table) (key : Text) (d : Data) → ObjectWritten table d → (reading.object key d).value ≡ Some tt
object_again table key (object ms) h = refl
object_again table key null h = absurd h
object_again table key (boolean b) h = absurd h
object_again table key (number n) h = absurd h
object_again table key (string s) h = absurd h
object_again table key (array ds) h = absurd h

-- ---- the tables

pub dep_kind_info_again : ReadsBack dep_kind_info DepKindInfoWritten
unfolding dep_kind_info
dep_kind_info_again key m d w =
    let table = dep_kind_info_table m in
    rw (
      object_again table key d w,
      default_again dependency_kind KindWritten kind_again Normal (codes "kind") m.kind d (told table d (codes "kind") w),
      optional_again text TextWritten text_never_null text_again (codes "target") m.target d (told table d (codes "target") w),
    ) refl

pub node_dep_again : ReadsBack node_dep NodeDepWritten
unfolding node_dep
node_dep_again key m d w =
    let table = node_dep_table m in
    rw (
      object_again table key d w,
      required_again text TextWritten text_again (codes "name") m.name d (told table d (codes "name") w),
      required_again text TextWritten text_again (codes "pkg") m.pkg d (told table d (codes "pkg") w),
      default_again (list dep_kind_info) (ListWritten DepKindInfoWritten) (list_again dep_kind_info DepKindInfoWritten dep_kind_info_again) [] (codes "dep_kinds") m.dep_kinds d (told table d (codes "dep_kinds") w),
    ) refl

pub node_again : ReadsBack node NodeWritten
unfolding node
node_again key m d w =
    let table = node_table m in
    rw (
      object_again table key d w,
      required_again text TextWritten text_again (codes "id") m.id d (told table d (codes "id") w),
      default_again (list node_dep) (ListWritten NodeDepWritten) (list_again node_dep NodeDepWritten node_dep_again) [] (codes "deps") m.deps d (told table d (codes "deps") w),
      required_again (list text) (ListWritten TextWritten) (list_again text TextWritten text_again) (codes "dependencies") m.dependencies d (told table d (codes "dependencies") w),
      default_again (list text) (ListWritten TextWritten) (list_again text TextWritten text_again) [] (codes "features") m.features d (told table d (codes "features") w),
    ) refl

pub resolve_again : ReadsBack resolve ResolveWritten
unfolding resolve
resolve_again key m d w =
    let table = resolve_table m in
    rw (
      object_again table key d w,
      required_again (list node) (ListWritten NodeWritten) (list_again node NodeWritten node_again) (codes "nodes") m.nodes d (told table d (codes "nodes") w),
      required_again (nullable text) (OptionWritten TextWritten) (nullable_again text TextWritten text_never_null text_again) (codes "root") m.root d (told table d (codes "root") w),
    ) refl

pub resolve_never_null : NeverNull ResolveWritten
resolve_never_null m h = h

pub target_again : ReadsBack target TargetWritten
unfolding target
target_again key m d w =
    let table = target_table m in
    rw (
      object_again table key d w,
      required_again text TextWritten text_again (codes "name") m.name d (told table d (codes "name") w),
      required_again (list target_kind) (ListWritten TargetKindWritten) (list_again target_kind TargetKindWritten target_kind_again) (codes "kind") m.kind d (told table d (codes "kind") w),
      default_again (list crate_type) (ListWritten CrateTypeWritten) (list_again crate_type CrateTypeWritten crate_type_again) [] (codes "crate_types") m.crate_types d (told table d (codes "crate_types") w),
      only_any_again text TextWritten text_again (codes "required-features") m.required_features d (told table d (codes "required-features") w),
      required_again text TextWritten text_again (codes "src_path") m.src_path d (told table d (codes "src_path") w),
      default_again edition EditionWritten edition_again E2015 (codes "edition") m.edition d (told table d (codes "edition") w),
      default_again reading.boolean BooleanWritten boolean_again true (codes "doctest") m.doctest d (told table d (codes "doctest") w),
      default_again reading.boolean BooleanWritten boolean_again true (codes "test") m.test d (told table d (codes "test") w),
      default_again reading.boolean BooleanWritten boolean_again true (codes "doc") m.doc d (told table d (codes "doc") w),
    ) refl

-- where the text under `req` reads as the requirement
pub dependency_again : ReadsBack dependency (λ m d. DependencyWritten m d × RequirementReads m d)
unfolding dependency
dependency_again key m d (w, reads) =
    let table = dependency_table m in
    rw (
      object_again table key d w,
      required_again text TextWritten text_again (codes "name") m.name d (told table d (codes "name") w),
      optional_again text TextWritten text_never_null text_again (codes "source") m.source d (told table d (codes "source") w),
      found_again (refused (missing (codes "req"))) (requirement (codes "req")) (λ e. (requirement (codes "req") e).value ≡ Some m.req) m.req (get (codes "req") d) (λ e h. h) reads,
      default_again dependency_kind KindWritten kind_again Normal (codes "kind") m.kind d (told table d (codes "kind") w),
      required_again reading.boolean BooleanWritten boolean_again (codes "optional") m.optional d (told table d (codes "optional") w),
      required_again reading.boolean BooleanWritten boolean_again (codes "uses_default_features") m.uses_default_features d (told table d (codes "uses_default_features") w),
      required_again (list text) (ListWritten TextWritten) (list_again text TextWritten text_again) (codes "features") m.features d (told table d (codes "features") w),
      optional_again text TextWritten text_never_null text_again (codes "target") m.target d (told table d (codes "target") w),
      optional_again text TextWritten text_never_null text_again (codes "rename") m.rename d (told table d (codes "rename") w),
      optional_again text TextWritten text_never_null text_again (codes "registry") m.registry d (told table d (codes "registry") w),
      only_some_again (nullable text) (OptionWritten TextWritten) (nullable_again text TextWritten text_never_null text_again) (codes "path") m.path d (told table d (codes "path") w),
    ) refl
