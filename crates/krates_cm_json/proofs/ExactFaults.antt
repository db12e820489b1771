-- There is a fault exactly where nothing is read: for each way to combine readings, and so for each table.
use Rattle.std.proofs.Common.{◌≡◌, ◌⊎◌, List, Option, Some, None, ℕ, refl, inl, inr, ◌∷◌, []}
use Rattle.std.specs.Prelude.{codes, ⊤, option_and_then, true}
use Rattle.serde_json.specs.Data.{Data, null, Items, no_items, item, Members, no_members, member}
use Rattle.serde_json.specs.Find.{get, as_null, as_bool, as_number, as_u64, as_str, as_array, as_object}
use Rattle.krates_cm.specs.Names.{dependency_kind_named, target_kind_named, crate_type_named, edition_named, version_named, requirement_named, rust_version_named}
use Rattle.krates_cm.specs.declared.dependency.DependencyKind.TheVariants.{Normal}
use Rattle.krates_cm.specs.declared.target.Edition.TheVariants.{E2015}
use Rattle.krates_cm_json.specs.Faults.{Fault, missing, wrong_type, bad_dependency_kind, bad_target_kind, bad_crate_type, bad_edition, bad_version, bad_requirement, bad_rust_version}
use Rattle.krates_cm_json.specs.Reading.{Reading, Reader, IsExact, AlwaysExact, read_as, refused, applied, ◌<*>◌, if_read, ◌then◌, found, typed, text, boolean, whole, any, named, null_as, present, nullable, items, list, map_items, map_of, object, required, or_default, optional}
use Rattle.krates_cm_json.specs.Tables.{dependency_kind, target_kind, crate_type, edition, version, requirement, rust_version, dep_kind_info, node_dep, node, resolve, dependency, target, about, settings, package_reader, metadata}

-- ---- the ways to combine readings

as_exact : {A : Type 0} (x : A) → IsExact (read_as x)
as_exact x = record { unread = λ fault h. absurd h; faulty = λ h. absurd cc }

refused_exact : {A : Type 0} (wrong : Fault) → IsExact (refused {A = A} wrong)
refused_exact wrong = record { unread = λ fault h. refl; faulty = λ h. (wrong, refl) }

applied_none : {A B : Type 0} (f : Option (A → B)) → applied f None ≡ None
applied_none None = refl
applied_none (Some f) = refl

none_applied : {A B : Type 0} (f : Option (A → B)) (x : Option A) → applied f x ≡ None → (f ≡ None) ⊎ (x ≡ None)
none_applied None x h = inl refl
none_applied (Some f) None h = inr refl
none_applied (Some f) (Some x) h = absurd cc

infixl 10 ◌and◌
◌and◌ : {A B : Type 0} {f : Reading (A → B)} {x : Reading A} → IsExact f → IsExact x → IsExact (f <*> x)
◌and◌ {f} {x} fs xs = record {
  unread = λ fault h. elim h [ inl here ↦ rw (fs.unread fault here) refl | inr there ↦ rw (xs.unread fault there) (applied_none f.value) ];
  faulty = λ h. elim (none_applied f.value x.value h) [ inl here ↦ (let w = fs.faulty here in (w.0, inl w.1)) | inr there ↦ (let w = xs.faulty there in (w.0, inr w.1)) ];
}

none_if_read : {A : Type 0} (u : Option ⊤) (x : Option A) → if_read u x ≡ None → (u ≡ None) ⊎ ((u ≡ Some tt) × (x ≡ None))
none_if_read None x h = inl refl
none_if_read (Some u) x h = inr (refl, h)

infixr 9 ◌also◌
◌also◌ : {A : Type 0} {u : Reading ⊤} {x : Reading A} → IsExact u → IsExact x → IsExact (u then x)
◌also◌ {u} {x} us xs = record {
  unread = λ fault h. elim h [ inl here ↦ rw (us.unread fault here) refl | inr there ↦ rw there.0 (xs.unread fault there.1) ];
  faulty = λ h. elim (none_if_read u.value x.value h) [ inl here ↦ (let w = us.faulty here in (w.0, inl w.1)) | inr there ↦ (let w = xs.faulty there.1 in (w.0, inr (there.0, w.1))) ];
}

found_exact : {A B : Type 0} {absent : Reading A} {read : B → Reading A} (o : Option B) → IsExact absent → ((x : B) → IsExact (read x)) → IsExact (found absent read o)
found_exact None absent read = absent
found_exact (Some x) absent read = read x

typed_exact : {A B : Type 0} (key : List ℕ) {read : B → Reading A} (o : Option B) → ((x : B) → IsExact (read x)) → IsExact (typed key read o)
typed_exact key o read = found_exact o (refused_exact (wrong_type key)) read

-- ---- plain values

text_exact : AlwaysExact text
text_exact key d = typed_exact key (as_str d) as_exact

boolean_exact : AlwaysExact boolean
boolean_exact key d = typed_exact key (as_bool d) as_exact

whole_exact : AlwaysExact whole
whole_exact key d = typed_exact key (option_and_then as_u64 (as_number d)) as_exact

any_exact : AlwaysExact any
any_exact key d = as_exact d

named_exact : {A : Type 0} (wrong : Fault) (meaning : List ℕ → Option A) → AlwaysExact (named wrong meaning)
named_exact wrong meaning key d = typed_exact key (as_str d) (λ s. record { unread = λ fault h. h.1; faulty = λ h. (wrong, (refl, h)) })

-- ---- null, lists and maps

null_exact : {A : Type 0} (x : A) {read : Reader A} → AlwaysExact read → AlwaysExact (null_as x read)
null_exact x read key d = found_exact (as_null d) (read key d) (λ _. as_exact x)

present_exact : {A : Type 0} {read : Reader A} → AlwaysExact read → AlwaysExact (present read)
present_exact read key d = as_exact (λ x. Some x) and read key d

nullable_exact : {A : Type 0} {read : Reader A} → AlwaysExact read → AlwaysExact (nullable read)
nullable_exact {A} {read} exact = null_exact None {read = present read} (present_exact {read = read} exact)

items_exact : {A : Type 0} {read : Data → Reading A} → ((d : Data) → IsExact (read d)) → (ds : Items) → IsExact (items read ds)
items_exact read no_items = as_exact []
items_exact read (item d ds) = as_exact (λ x xs. x ∷ xs) and read d and items_exact read ds

list_exact : {A : Type 0} {read : Reader A} → AlwaysExact read → AlwaysExact (list read)
list_exact read key d = typed_exact key (as_array d) (items_exact (read key))

map_items_exact : {A : Type 0} {read : Data → Reading A} → ((d : Data) → IsExact (read d)) → (ms : Members) → IsExact (map_items read ms)
map_items_exact read no_members = as_exact []
map_items_exact read (member name d ms) = as_exact (λ x entries. (name, x) ∷ entries) and read d and map_items_exact read ms

map_exact : {A : Type 0} {read : Reader A} → AlwaysExact read → AlwaysExact (map_of read)
map_exact read key d = typed_exact key (as_object d) (map_items_exact (read key))

-- ---- fields

object_exact : AlwaysExact object
object_exact key d = typed_exact key (as_object d) (λ _. as_exact tt)

required_exact : {A : Type 0} {read : Reader A} → AlwaysExact read → AlwaysExact (required read)
required_exact read key d = found_exact (get key d) (refused_exact (missing key)) (read key)

default_exact : {A : Type 0} (x : A) {read : Reader A} → AlwaysExact read → AlwaysExact (or_default read x)
default_exact x read key d = found_exact (get key d) (as_exact x) (read key)

optional_exact : {A : Type 0} {read : Reader A} → AlwaysExact read → AlwaysExact (optional read)
optional_exact {A} {read} exact = default_exact None {read = nullable read} (nullable_exact {read = read} exact)

-- ---- the tables

kind_exact : AlwaysExact dependency_kind
kind_exact = null_exact Normal (named_exact bad_dependency_kind dependency_kind_named)

target_kind_exact : AlwaysExact target_kind
target_kind_exact = named_exact bad_target_kind target_kind_named

crate_type_exact : AlwaysExact crate_type
crate_type_exact = named_exact bad_crate_type crate_type_named

edition_exact : AlwaysExact edition
edition_exact = named_exact bad_edition edition_named

version_exact : AlwaysExact version
version_exact = named_exact bad_version version_named

requirement_exact : AlwaysExact requirement
requirement_exact = named_exact bad_requirement requirement_named

rust_version_exact : AlwaysExact rust_version
rust_version_exact = named_exact bad_rust_version rust_version_named

pub dep_kind_info_exact : AlwaysExact dep_kind_info
unfolding dep_kind_info
dep_kind_info_exact key d = object_exact key d also (as_exact _
    and default_exact Normal kind_exact (codes "kind") d
    and optional_exact text_exact (codes "target") d)

pub node_dep_exact : AlwaysExact node_dep
unfolding node_dep
node_dep_exact key d = object_exact key d also (as_exact _
    and required_exact text_exact (codes "name") d
    and required_exact text_exact (codes "pkg") d
    and default_exact [] (list_exact dep_kind_info_exact) (codes "dep_kinds") d)

pub node_exact : AlwaysExact node
unfolding node
node_exact key d = object_exact key d also (as_exact _
    and required_exact text_exact (codes "id") d
    and default_exact [] (list_exact node_dep_exact) (codes "deps") d
    and required_exact (list_exact text_exact) (codes "dependencies") d
    and default_exact [] (list_exact text_exact) (codes "features") d)

pub resolve_exact : AlwaysExact resolve
unfolding resolve
resolve_exact key d = object_exact key d also (as_exact _
    and required_exact (list_exact node_exact) (codes "nodes") d
    and required_exact (nullable_exact text_exact) (codes "root") d)

pub dependency_exact : AlwaysExact dependency
unfolding dependency
dependency_exact key d = object_exact key d also (as_exact _
    and required_exact text_exact (codes "name") d
    and optional_exact text_exact (codes "source") d
    and required_exact requirement_exact (codes "req") d
    and default_exact Normal kind_exact (codes "kind") d
    and required_exact boolean_exact (codes "optional") d
    and required_exact boolean_exact (codes "uses_default_features") d
    and required_exact (list_exact text_exact) (codes "features") d
    and optional_exact text_exact (codes "target") d
    and optional_exact text_exact (codes "rename") d
    and optional_exact text_exact (codes "registry") d
    and optional_exact text_exact (codes "path") d)

pub target_exact : AlwaysExact target
unfolding target
target_exact key d = object_exact key d also (as_exact _
    and required_exact text_exact (codes "name") d
    and required_exact (list_exact target_kind_exact) (codes "kind") d
    and default_exact [] (list_exact crate_type_exact) (codes "crate_types") d
    and default_exact [] (list_exact text_exact) (codes "required-features") d
    and required_exact text_exact (codes "src_path") d
    and default_exact E2015 edition_exact (codes "edition") d
    and default_exact true boolean_exact (codes "doctest") d
    and default_exact true boolean_exact (codes "test") d
    and default_exact true boolean_exact (codes "doc") d)

about_exact : AlwaysExact about
unfolding about
about_exact key d = as_exact _
    and default_exact [] (list_exact text_exact) (codes "authors") d
    and optional_exact text_exact (codes "description") d
    and optional_exact text_exact (codes "license") d
    and optional_exact text_exact (codes "license_file") d
    and default_exact [] (list_exact text_exact) (codes "categories") d
    and default_exact [] (list_exact text_exact) (codes "keywords") d
    and optional_exact text_exact (codes "readme") d
    and optional_exact text_exact (codes "repository") d
    and optional_exact text_exact (codes "homepage") d
    and optional_exact text_exact (codes "documentation") d

settings_exact : AlwaysExact settings
unfolding settings
settings_exact key d = as_exact _
    and default_exact E2015 edition_exact (codes "edition") d
    and default_exact null any_exact (codes "metadata") d
    and optional_exact text_exact (codes "links") d
    and optional_exact (list_exact text_exact) (codes "publish") d
    and optional_exact text_exact (codes "default_run") d
    and optional_exact rust_version_exact (codes "rust_version") d

pub package_exact : AlwaysExact package_reader
unfolding package_reader
package_exact key d = object_exact key d also (as_exact _
    and required_exact text_exact (codes "name") d
    and required_exact version_exact (codes "version") d
    and required_exact text_exact (codes "id") d
    and optional_exact text_exact (codes "source") d
    and required_exact (list_exact dependency_exact) (codes "dependencies") d
    and required_exact (list_exact target_exact) (codes "targets") d
    and required_exact (map_exact (list_exact text_exact)) (codes "features") d
    and required_exact text_exact (codes "manifest_path") d
    and about_exact key d
    and settings_exact key d)

pub metadata_exact : AlwaysExact metadata
unfolding metadata
metadata_exact key d = object_exact key d also (as_exact _
    and required_exact (list_exact package_exact) (codes "packages") d
    and required_exact (list_exact text_exact) (codes "workspace_members") d
    and default_exact None (present_exact (list_exact text_exact)) (codes "workspace_default_members") d
    and optional_exact resolve_exact (codes "resolve") d
    and required_exact text_exact (codes "workspace_root") d
    and required_exact text_exact (codes "target_directory") d
    and optional_exact text_exact (codes "build_directory") d
    and default_exact null any_exact (codes "metadata") d
    and default_exact 0 whole_exact (codes "version") d)
