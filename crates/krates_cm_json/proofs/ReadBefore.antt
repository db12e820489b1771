-- The versions that were read each have a text: the tables, read backwards.
use Rattle.std.proofs.Common.{◌≡◌, List, [], ◌∷◌, Option, Some, None, refl, ap, subst}
use Rattle.std.specs.Prelude.{codes, ⊤}
use Rattle.std.proofs.lemmas.Option.{same_Some}
use Rattle.serde_json.specs.Data.{Data, null, boolean, number, string, array, object, Items, no_items, item}
use Rattle.serde_json.specs.Find.{get}
use Rattle.krates_cm.specs.Document.{Text, VersionModel, PackageModel, MetadataModel}
use Rattle.krates_cm.specs.Names.{version_named, rust_version_named}
use Rattle.krates_cm.specs.PackageParts.{SettingsModel}
use Rattle.krates_cm_json.specs.Faults.{Fault}
use Rattle.krates_cm_json.specs.Reading.{Reading, applied, if_read, named, found, refused, read_as, nullable, items, list}
use Rattle.krates_cm_json.specs.Tables.{rust_version, settings, package_reader, metadata}

-- ---- readings combined

if_read_told : {A : Type 0} (u : Option ⊤) (o : Option A) (x : A) → if_read u o ≡ Some x → o ≡ Some x
if_read_told None o x h = absurd cc
if_read_told (Some u) o x h = h

two_read : {A1 A2 M : Type 0} (make : A1 → A2 → M) (o1 : Option A1) (o2 : Option A2) (m : M) → applied (applied (Some make) o1) o2 ≡ Some m
    → (a1 : A1) × (a2 : A2) × (o1 ≡ Some a1) × (o2 ≡ Some a2) × (make a1 a2 ≡ m)
two_read make None o2 m h = absurd cc
two_read make (Some a1) None m h = absurd cc
two_read make (Some a1) (Some a2) m h = (a1, a2, refl, refl, same_Some _ _ h)

six_read : {A1 A2 A3 A4 A5 A6 M : Type 0} (make : A1 → A2 → A3 → A4 → A5 → A6 → M) (o1 : Option A1) (o2 : Option A2) (o3 : Option A3) (o4 : Option A4) (o5 : Option A5) (o6 : Option A6) (m : M) → applied (applied (applied (applied (applied (applied (Some make) o1) o2) o3) o4) o5) o6 ≡ Some m
    → (a1 : A1) × (a2 : A2) × (a3 : A3) × (a4 : A4) × (a5 : A5) × (a6 : A6) × (o6 ≡ Some a6) × (make a1 a2 a3 a4 a5 a6 ≡ m)
six_read make None o2 o3 o4 o5 o6 m h = absurd cc
six_read make (Some a1) None o3 o4 o5 o6 m h = absurd cc
six_read make (Some a1) (Some a2) None o4 o5 o6 m h = absurd cc
six_read make (Some a1) (Some a2) (Some a3) None o5 o6 m h = absurd cc
six_read make (Some a1) (Some a2) (Some a3) (Some a4) None o6 m h = absurd cc
six_read make (Some a1) (Some a2) (Some a3) (Some a4) (Some a5) None m h = absurd cc
six_read make (Some a1) (Some a2) (Some a3) (Some a4) (Some a5) (Some a6) m h = (a1, a2, a3, a4, a5, a6, refl, same_Some _ _ h)

nine_read : {A1 A2 A3 A4 A5 A6 A7 A8 A9 M : Type 0} (make : A1 → A2 → A3 → A4 → A5 → A6 → A7 → A8 → A9 → M) (o1 : Option A1) (o2 : Option A2) (o3 : Option A3) (o4 : Option A4) (o5 : Option A5) (o6 : Option A6) (o7 : Option A7) (o8 : Option A8) (o9 : Option A9) (m : M) → applied (applied (applied (applied (applied (applied (applied (applied (applied (Some make) o1) o2) o3) o4) o5) o6) o7) o8) o9 ≡ Some m
    → (a1 : A1) × (a2 : A2) × (a3 : A3) × (a4 : A4) × (a5 : A5) × (a6 : A6) × (a7 : A7) × (a8 : A8) × (a9 : A9) × (o1 ≡ Some a1) × (make a1 a2 a3 a4 a5 a6 a7 a8 a9 ≡ m)
nine_read make None o2 o3 o4 o5 o6 o7 o8 o9 m h = absurd cc
nine_read make (Some a1) None o3 o4 o5 o6 o7 o8 o9 m h = absurd cc
nine_read make (Some a1) (Some a2) None o4 o5 o6 o7 o8 o9 m h = absurd cc
nine_read make (Some a1) (Some a2) (Some a3) None o5 o6 o7 o8 o9 m h = absurd cc
nine_read make (Some a1) (Some a2) (Some a3) (Some a4) None o6 o7 o8 o9 m h = absurd cc
nine_read make (Some a1) (Some a2) (Some a3) (Some a4) (Some a5) None o7 o8 o9 m h = absurd cc
nine_read make (Some a1) (Some a2) (Some a3) (Some a4) (Some a5) (Some a6) None o8 o9 m h = absurd cc
nine_read make (Some a1) (Some a2) (Some a3) (Some a4) (Some a5) (Some a6) (Some a7) None o9 m h = absurd cc
nine_read make (Some a1) (Some a2) (Some a3) (Some a4) (Some a5) (Some a6) (Some a7) (Some a8) None m h = absurd cc
nine_read make (Some a1) (Some a2) (Some a3) (Some a4) (Some a5) (Some a6) (Some a7) (Some a8) (Some a9) m h = (a1, a2, a3, a4, a5, a6, a7, a8, a9, refl, same_Some _ _ h)

ten_read : {A1 A2 A3 A4 A5 A6 A7 A8 A9 A10 M : Type 0} (make : A1 → A2 → A3 → A4 → A5 → A6 → A7 → A8 → A9 → A10 → M) (o1 : Option A1) (o2 : Option A2) (o3 : Option A3) (o4 : Option A4) (o5 : Option A5) (o6 : Option A6) (o7 : Option A7) (o8 : Option A8) (o9 : Option A9) (o10 : Option A10) (m : M) → applied (applied (applied (applied (applied (applied (applied (applied (applied (applied (Some make) o1) o2) o3) o4) o5) o6) o7) o8) o9) o10 ≡ Some m
    → (a1 : A1) × (a2 : A2) × (a3 : A3) × (a4 : A4) × (a5 : A5) × (a6 : A6) × (a7 : A7) × (a8 : A8) × (a9 : A9) × (a10 : A10) × (o2 ≡ Some a2) × (o10 ≡ Some a10) × (make a1 a2 a3 a4 a5 a6 a7 a8 a9 a10 ≡ m)
ten_read make None o2 o3 o4 o5 o6 o7 o8 o9 o10 m h = absurd cc
ten_read make (Some a1) None o3 o4 o5 o6 o7 o8 o9 o10 m h = absurd cc
ten_read make (Some a1) (Some a2) None o4 o5 o6 o7 o8 o9 o10 m h = absurd cc
ten_read make (Some a1) (Some a2) (Some a3) None o5 o6 o7 o8 o9 o10 m h = absurd cc
ten_read make (Some a1) (Some a2) (Some a3) (Some a4) None o6 o7 o8 o9 o10 m h = absurd cc
ten_read make (Some a1) (Some a2) (Some a3) (Some a4) (Some a5) None o7 o8 o9 o10 m h = absurd cc
ten_read make (Some a1) (Some a2) (Some a3) (Some a4) (Some a5) (Some a6) None o8 o9 o10 m h = absurd cc
ten_read make (Some a1) (Some a2) (Some a3) (Some a4) (Some a5) (Some a6) (Some a7) None o9 o10 m h = absurd cc
ten_read make (Some a1) (Some a2) (Some a3) (Some a4) (Some a5) (Some a6) (Some a7) (Some a8) None o10 m h = absurd cc
ten_read make (Some a1) (Some a2) (Some a3) (Some a4) (Some a5) (Some a6) (Some a7) (Some a8) (Some a9) None m h = absurd cc
ten_read make (Some a1) (Some a2) (Some a3) (Some a4) (Some a5) (Some a6) (Some a7) (Some a8) (Some a9) (Some a10) m h = (a1, a2, a3, a4, a5, a6, a7, a8, a9, a10, refl, refl, same_Some _ _ h)

-- ---- fields

named_told : {A : Type 0} (wrong : Fault) (meaning : Text → Option A) (key : Text) (d : Data) (x : A) → (named wrong meaning key d).value ≡ Some x → (s : Text) × (meaning s ≡ Some x)
named_told wrong meaning key (string s) x h = (s, h)
named_told wrong meaning key null x h = absurd cc
named_told wrong meaning key (boolean b) x h = absurd cc
named_told wrong meaning key (number n) x h = absurd cc
named_told wrong meaning key (array ds) x h = absurd cc
named_told wrong meaning key (object ms) x h = absurd cc

found_told : {A : Type 0} (wrong : Fault) (read : Data → Reading A) (o : Option Data) (x : A) → (found (refused wrong) read o).value ≡ Some x → (d : Data) × ((read d).value ≡ Some x)
found_told wrong read None x h = absurd cc
found_told wrong read (Some d) x h = (d, h)

-- the version has a text
abbrev pub VersionNamed : VersionModel → Type 0
VersionNamed v = (s : Text) × (version_named s ≡ Some v)

-- the version of Rust has a text, if there is one
abbrev pub RustNamed : Option VersionModel → Type 0
RustNamed None = ⊤
RustNamed (Some v) = (s : Text) × (rust_version_named s ≡ Some v)

some_rust : (key : Text) (d : Data) (r : Option VersionModel) (o : Option VersionModel) → ((v : VersionModel) → r ≡ Some v → RustNamed (Some v)) → applied (Some (λ x. Some x)) r ≡ Some o → RustNamed o
some_rust key d None o each h = absurd cc
some_rust key d (Some v) o each h = subst RustNamed (same_Some (Some v) o h) (each v refl)

nullable_rust : (key : Text) (d : Data) (o : Option VersionModel) → (nullable rust_version key d).value ≡ Some o → RustNamed o
nullable_rust key null o h = subst RustNamed (same_Some None o h) tt
nullable_rust key (boolean b) o h = absurd cc
nullable_rust key (number n) o h = absurd cc
nullable_rust key (string s) o h = some_rust key (string s) (rust_version key (string s)).value o (λ v e. (s, e)) h
nullable_rust key (array ds) o h = absurd cc
nullable_rust key (object ms) o h = absurd cc

optional_rust : (key : Text) (found_there : Option Data) (o : Option VersionModel) → (found (read_as None) (nullable rust_version key) found_there).value ≡ Some o → RustNamed o
optional_rust key None o h = subst RustNamed (same_Some None o h) tt
optional_rust key (Some d) o h = nullable_rust key d o h

-- ---- packages

settings_told : (key : Text) (d : Data) (s : SettingsModel) → (settings key d).value ≡ Some s → RustNamed s.rust_version
unfolding settings
settings_told key d s h =
    let (_, _, _, _, _, rust, is, made) = six_read _ _ _ _ _ _ _ s h in
    subst RustNamed (ap (λ p. p.rust_version) made) (optional_rust (codes "rust_version") (get (codes "rust_version") d) rust is)

-- each version of a package has a text
pub record PackageNamed (p : PackageModel) : Type 0 where
  pub version : VersionNamed p.version
  pub rust_version : RustNamed p.rust_version

pub package_told : (key : Text) (d : Data) (p : PackageModel) → (package_reader key d).value ≡ Some p → PackageNamed p
unfolding package_reader
package_told key d p h =
    let (_, version, _, _, _, _, _, _, _, s, is, set, made) = ten_read _ _ _ _ _ _ _ _ _ _ _ p (if_read_told _ _ p h) in
    let there = found_told _ _ (get (codes "version") d) version is in
    record {
      version = subst VersionNamed (ap (λ q. q.version) made) (named_told _ version_named (codes "version") there.0 version there.1);
      rust_version = subst RustNamed (ap (λ q. q.rust_version) made) (settings_told key d s set);
    }

-- ---- the whole document

abbrev pub EachNamed : List PackageModel → Type 0
EachNamed [] = ⊤
EachNamed (p ∷ ps) = PackageNamed p × EachNamed ps

items_told : (key : Text) (ds : Items) (ps : List PackageModel) → (items (package_reader key) ds).value ≡ Some ps → EachNamed ps
items_told key no_items ps h = subst EachNamed (same_Some [] ps h) tt
items_told key (item d ds) ps h =
    let (p, rest, first, others, made) = two_read _ _ _ ps h in
    subst EachNamed made (package_told key d p first, items_told key ds rest others)

list_told : (key : Text) (d : Data) (ps : List PackageModel) → (list package_reader key d).value ≡ Some ps → EachNamed ps
list_told key (array ds) ps h = items_told key ds ps h
list_told key null ps h = absurd cc
list_told key (boolean b) ps h = absurd cc
list_told key (number n) ps h = absurd cc
list_told key (string s) ps h = absurd cc
list_told key (object ms) ps h = absurd cc

pub metadata_told : (key : Text) (d : Data) (m : MetadataModel) → (metadata key d).value ≡ Some m → EachNamed m.packages
unfolding metadata
metadata_told key d m h =
    let (packages, _, _, _, _, _, _, _, _, is, made) = nine_read _ _ _ _ _ _ _ _ _ _ m (if_read_told _ _ m h) in
    let there = found_told _ _ (get (codes "packages") d) packages is in
    subst EachNamed (ap (λ n. n.packages) made) (list_told (codes "packages") there.0 packages there.1)
