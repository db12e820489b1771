-- What some words name of a fact is named by the words that are written for it.
use Rattle.std.proofs.Common.{◌≡◌, ◌+◌, ◌==◌, ◌&&◌, ℕ, List, [], ◌∷◌, ◌++◌, Bool, true, false, eqb-true, Option, Some, None, bytes_eq, codes, if◌then◌else◌, position, slice_get, string_bytes, refl, sym, ap, ◌∙◌, subst}
use Rattle.std.proofs.lemmas.Option.{same_Some}
use Rattle.std.specs.Cmp.Lexicographic.{bytes_decides}
use Rattle.std.specs.Prelude.{option_map}
use Rattle.krates_cm.specs.Document.{Text}
use Rattle.krates_text.specs.FeatureReference.{Reference, krate, weak, strong, simple}
use Rattle.krates_ids.specs.Identity.{Identity}
use Rattle.krates_build_facts.proofs.Tests.{both_parts}
use Rattle.krates_build_facts.specs.declared.facts.PlacementNumber.{PlacementNumber}
use Rattle.krates_build_facts.specs.declared.facts.PlatformNumber.{PlatformNumber}
use Rattle.krates_build_facts.specs.declared.facts.PlatformNumber.TheVariants as platforms
use Rattle.krates_build_facts.specs.declared.facts.UnitPlace.{UnitPlace}
use Rattle.krates_build_tables.specs.declared.tables.CrateEntry.{CrateEntry}
use Rattle.krates_build_tables.specs.declared.tables.Lacking.{Lacking}
use Rattle.krates_build_tables.specs.declared.tables.Link.{Link}
use Rattle.krates_build_tables.specs.declared.tables.LinkPlace.{LinkPlace}
use Rattle.krates_build_tables.specs.declared.tables.TargetEntry.{TargetEntry}
use Rattle.krates_build_tables.specs.declared.tables.TargetPlace.{TargetPlace}
use Rattle.krates_units.specs.Machines.{machine_view}
use Rattle.krates_units.specs.declared.kinds.Mode.{Mode}
use Rattle.krates_units.specs.declared.kinds.Mode.TheVariants as modes
use Rattle.krates_units.specs.declared.sides.Meeting.{Meeting}
use Rattle.krates_units.specs.declared.sides.Meeting.TheVariants as meetings
use Rattle.krates_units.specs.declared.sides.Side.{Side}
use Rattle.krates_units.specs.declared.sides.Side.TheVariants as sides
use Rattle.krates_build_naming.proofs.NamingsRead.{and_then_named, first_at, five_named, found_value, four_named, mapped_named, one_named, then_named, then_gives, three_named, two_named, word_named}
use Rattle.krates_build_naming.specs.NamedParts.{word_at, crate_at, mode_at, platform_at, side_at, link_words, link_at, lacking_words, lacking_at, target_words, target_at, placement_at, unit_at}
use Rattle.krates_build_naming.specs.NamedPlaces.{LinkNames, LackingNames, TargetNames, crate_named, entry_in, fits_lacking, fits_link, fits_target, lacking_named, link_named, platform_named, target_named}
use Rattle.krates_build_naming.specs.FactWords.{lacking_listed, link_listed}
use Rattle.krates_build_naming.specs.Naming.{applied, found_or}
use Rattle.krates_build_naming.specs.PartTexts.{kind_text, meeting_named, meeting_text, mode_named, mode_text, reference_named, side_named, side_text, target_kinds_text, target_text}
use Rattle.krates_build_naming.specs.WrittenParts.{DependencyTexts, TargetTexts, crate_text, lacking_in, lacking_texts, link_in, link_texts, platform_text, reference_texts, target_in, target_texts}
use Rattle.krates_build_naming.specs.declared.names.FactNames.{FactNames}
use Rattle.krates_build_naming.specs.declared.names.NameFault.TheVariants as faults

-- ---- one word

pub meeting_again : (m : Meeting) → meeting_named (meeting_text m) ≡ Some m
unfolding meeting_named
meeting_again meetings.Root = refl
meeting_again meetings.Dependency = refl

pub side_again : (n : Side) → side_named (side_text n) ≡ Some n
unfolding side_named
side_again sides.Targets = refl
side_again sides.Host = refl

pub mode_again : (m : Mode) → mode_named (mode_text m) ≡ Some m
unfolding mode_named
mode_again modes.Build = refl
mode_again modes.Test = refl

pub reference_again : (v : Reference) → reference_named (reference_texts v).form (reference_texts v).name (reference_texts v).feature ≡ Some v
unfolding reference_named
reference_again (krate name) = refl
reference_again (weak name feature) = refl
reference_again (strong name feature) = refl
reference_again (simple name) = refl

-- the word that names a crate is the one that is written for it
crate_word : (n : FactNames) (w : Text) (c : ℕ) → crate_named n w ≡ Some c → crate_text n c ≡ w
unfolding crate_named
crate_word n w c h =
    let at = first_at (λ (id : Identity). bytes_eq id.text w) n.ids.now c h in
    rw at.1 ((bytes_decides at.0.text w).0 at.2)

crate_again : (n : FactNames) (w : Text) (c : ℕ) → crate_named n w ≡ Some c → crate_named n (crate_text n c) ≡ Some c
crate_again n w c h = subst (λ t. crate_named n t ≡ Some c) (sym (crate_word n w c h)) h

pub crate_read : (n : FactNames) (k : ℕ) (ws : List Text) (c : ℕ) → (crate_at n k ws).value ≡ Some c → crate_named n (crate_text n c) ≡ Some c
unfolding crate_at
crate_read n k ws c h =
    let w = word_named (faults.Missing k) (faults.Crate k) (crate_named n) (slice_get ws k) c h in
    crate_again n w.0 c w.2

platform_by : (n : FactNames) (w : Text) (p : PlatformNumber) (b : Bool) → bytes_eq w (codes "host") ≡ b
    → (if b then Some platforms.Host else option_map (λ k. platforms.Machine k) (position (λ m. bytes_eq (machine_view m.now).triple w) n.tables.now.machines.items)) ≡ Some p
    → platform_text n p ≡ w
platform_by n w p true is h = subst (λ q. platform_text n q ≡ w) (same_Some platforms.Host p h) (sym ((bytes_decides w (codes "host")).0 is))
platform_by n w p false is h =
    let of = mapped_named (λ k. platforms.Machine k) (position (λ m. bytes_eq (machine_view m.now).triple w) n.tables.now.machines.items) p h in
    let at = first_at (λ m. bytes_eq (machine_view m.now).triple w) n.tables.now.machines.items of.0 of.1 in
    subst (λ q. platform_text n q ≡ w) of.2 (rw at.1 ((bytes_decides (machine_view at.0.now).triple w).0 at.2))

pub platform_read : (n : FactNames) (k : ℕ) (ws : List Text) (p : PlatformNumber) → (platform_at n k ws).value ≡ Some p → platform_named n (platform_text n p) ≡ Some p
unfolding platform_at platform_named
platform_read n k ws p h =
    let w = word_named (faults.Missing k) (faults.Platform k) (platform_named n) (slice_get ws k) p h in
    subst (λ t. platform_named n t ≡ Some p) (sym (platform_by n w.0 p (bytes_eq w.0 (codes "host")) refl w.2)) w.2

-- ---- links

-- the words that are written for the link name it, in the tables
pub record LinkRead (n : FactNames) (place : LinkPlace) : Type 0 where
  pub child : ℕ
  pub parent_is : crate_named n (crate_text n place.krate) ≡ Some place.krate
  pub child_is : crate_named n (link_texts n place).child ≡ Some child
  pub named : link_named n (record { parent = place.krate; child = child; kind = (link_texts n place).kind; target = (link_texts n place).target; name = (link_texts n place).name }) ≡ Some place

link_stands : (n : FactNames) (c : LinkNames) (e : CrateEntry) (k : ℕ) (l : Link) → entry_in n c.parent ≡ Some e → slice_get e.links.items k ≡ Some l → l.child ≡ c.child → kind_text l.kind ≡ c.kind
    → target_text (option_map (λ t. t.now) l.cfg) ≡ c.target → l.name.now ≡ c.name
    → link_texts n (record { krate = c.parent; index = k }) ≡ record { child = crate_text n c.child; kind = c.kind; target = c.target; name = c.name }
link_stands n c e k l entry at child kind target name = rw (entry, at, child, kind, target, name) refl

link_found : (n : FactNames) (c : LinkNames) (place : LinkPlace) → link_named n c ≡ Some place
    → (c.parent ≡ place.krate) × (link_texts n place ≡ record { child = crate_text n c.child; kind = c.kind; target = c.target; name = c.name })
unfolding link_named
link_found n c place h =
    let make : ℕ → LinkPlace = λ k. record { krate = c.parent; index = k } in
    let entry = and_then_named (λ e. option_map make (position (fits_link c) e.links.items)) (entry_in n c.parent) place h in
    let here = mapped_named make (position (fits_link c) entry.0.links.items) place entry.2 in
    let at = first_at (fits_link c) entry.0.links.items here.0 here.1 in
    let l = at.0 in
    let target = target_text (option_map (λ t. t.now) l.cfg) in
    let three = both_parts (l.child == c.child && bytes_eq (kind_text l.kind) c.kind && bytes_eq target c.target) (bytes_eq l.name.now c.name) at.2 in
    let two = both_parts (l.child == c.child && bytes_eq (kind_text l.kind) c.kind) (bytes_eq target c.target) three.0 in
    let one = both_parts (l.child == c.child) (bytes_eq (kind_text l.kind) c.kind) two.0 in
    let child : l.child ≡ c.child = eqb-true l.child c.child one.0 in
    let kind : kind_text l.kind ≡ c.kind = (bytes_decides (kind_text l.kind) c.kind).0 one.1 in
    let target_is : target ≡ c.target = (bytes_decides target c.target).0 two.1 in
    let name : l.name.now ≡ c.name = (bytes_decides l.name.now c.name).0 three.1 in
    subst (λ (p : LinkPlace). (c.parent ≡ p.krate) × (link_texts n p ≡ record { child = crate_text n c.child; kind = c.kind; target = c.target; name = c.name })) here.2
    (refl, link_stands n c entry.0 here.0 l entry.1 at.1 child kind target_is name)

link_of : (n : FactNames) (a b : ℕ) (k t m : Text) (place : LinkPlace) → crate_named n (crate_text n a) ≡ Some a → crate_named n (crate_text n b) ≡ Some b
    → link_named n (record { parent = a; child = b; kind = k; target = t; name = m }) ≡ Some place → LinkRead n place
link_of n a b k t m place parent child named =
    let found = link_found n (record { parent = a; child = b; kind = k; target = t; name = m }) place named in
    record {
      child = b;
      parent_is = subst (λ (c : ℕ). crate_named n (crate_text n c) ≡ Some c) found.0 parent;
      child_is = subst (λ (d : DependencyTexts). crate_named n d.child ≡ Some b) (sym found.1) child;
      named = subst (λ (d : DependencyTexts). link_named n (record { parent = place.krate; child = b; kind = d.kind; target = d.target; name = d.name }) ≡ Some place) (sym found.1)
          (subst (λ (c : ℕ). link_named n (record { parent = c; child = b; kind = k; target = t; name = m }) ≡ Some place) found.0 named);
    }

abbrev make_link : ℕ → ℕ → Text → Text → Text → LinkNames
make_link parent child kind target name = record { parent = parent; child = child; kind = kind; target = target; name = name }

pub link_read : (n : FactNames) (k : ℕ) (ws : List Text) (place : LinkPlace) → (link_at n k ws).value ≡ Some place → LinkRead n place
unfolding link_at link_words
link_read n k ws place h =
    let c = then_named (faults.Link k) (link_named n) (link_words n k ws).value place h in
    let parts = five_named make_link (crate_at n k ws).value (crate_at n (k + 1) ws).value (word_at (k + 2) ws).value (word_at (k + 3) ws).value (word_at (k + 4) ws).value c.0 c.1 in
    subst (λ (d : LinkNames). link_named n d ≡ Some place → LinkRead n place) parts.7
    (λ named. link_of n parts.0 parts.1 parts.2 parts.3 parts.4 place (crate_read n k ws parts.0 parts.5) (crate_read n (k + 1) ws parts.1 parts.6) named) c.2

link_reads : (n : FactNames) (form p d k t m : Text) (rest : List Text) (a b : ℕ) (place : LinkPlace) → crate_named n p ≡ Some a → crate_named n d ≡ Some b
    → link_named n (record { parent = a; child = b; kind = k; target = t; name = m }) ≡ Some place → (link_at n 1 (form ∷ p ∷ d ∷ k ∷ t ∷ m ∷ rest)).value ≡ Some place
unfolding link_at link_words crate_at word_at
link_reads n form p d k t m rest a b place parent child named =
    then_gives (faults.Link 1) (link_named n) (link_words n 1 (form ∷ p ∷ d ∷ k ∷ t ∷ m ∷ rest)).value (make_link a b k t m) place (rw (parent, child) refl) named

pub link_again : (n : FactNames) (place : LinkPlace) (form : Text) (rest : List Text) → LinkRead n place → (link_at n 1 (form ∷ link_listed n place ++ rest)).value ≡ Some place
link_again n place form rest r =
    let d = link_texts n place in
    link_reads n form (crate_text n place.krate) d.child d.kind d.target d.name rest place.krate r.child place r.parent_is r.child_is r.named

-- ---- what is lacking

pub record LackingRead (n : FactNames) (number index : ℕ) : Type 0 where
  pub parent_is : crate_named n (crate_text n number) ≡ Some number
  pub named : lacking_named n (record { krate = number; kind = (lacking_texts n number index).kind; target = (lacking_texts n number index).target; name = (lacking_texts n number index).name }) ≡ Some index

lacking_found : (n : FactNames) (c : LackingNames) (index : ℕ) → lacking_named n c ≡ Some index
    → lacking_texts n c.krate index ≡ record { child = codes ""; kind = c.kind; target = c.target; name = c.name }
unfolding lacking_named
lacking_found n c index h =
    let entry = and_then_named (λ e. position (fits_lacking c) e.lacking.items) (entry_in n c.krate) index h in
    let at = first_at (fits_lacking c) entry.0.lacking.items index entry.2 in
    let x = at.0 in
    let target = target_text (option_map string_bytes x.declared.now.target) in
    let two = both_parts (bytes_eq (kind_text x.kind) c.kind && bytes_eq target c.target) (bytes_eq x.name.now c.name) at.2 in
    let one = both_parts (bytes_eq (kind_text x.kind) c.kind) (bytes_eq target c.target) two.0 in
    let kind : kind_text x.kind ≡ c.kind = (bytes_decides (kind_text x.kind) c.kind).0 one.0 in
    let target_is : target ≡ c.target = (bytes_decides target c.target).0 one.1 in
    let name : x.name.now ≡ c.name = (bytes_decides x.name.now c.name).0 two.1 in
    rw (entry.1, at.1, kind, target_is, name) refl

lacking_of : (n : FactNames) (a : ℕ) (k t m : Text) (index : ℕ) → crate_named n (crate_text n a) ≡ Some a
    → lacking_named n (record { krate = a; kind = k; target = t; name = m }) ≡ Some index → LackingRead n a index
lacking_of n a k t m index parent named =
    let found = lacking_found n (record { krate = a; kind = k; target = t; name = m }) index named in
    record {
      parent_is = parent;
      named = subst (λ (d : DependencyTexts). lacking_named n (record { krate = a; kind = d.kind; target = d.target; name = d.name }) ≡ Some index) (sym found) named;
    }

abbrev make_lacking : ℕ → Text → Text → Text → LackingNames
make_lacking parent kind target name = record { krate = parent; kind = kind; target = target; name = name }

pub lacking_read : (n : FactNames) (k : ℕ) (ws : List Text) (place : ℕ × ℕ) → (lacking_at n k ws).value ≡ Some place → LackingRead n place.0 place.1
unfolding lacking_at lacking_words
lacking_read n k ws place h =
    let make : LackingNames → ℕ → ℕ × ℕ = λ c index. (c.krate, index) in
    let c = and_then_named (λ c. applied (Some (make c)) (found_or (faults.Lacking k) (lacking_named n c)).value) (lacking_words n k ws).value place h in
    let at = one_named (make c.0) (found_or (faults.Lacking k) (lacking_named n c.0)).value place c.2 in
    let parts = four_named make_lacking (crate_at n k ws).value (word_at (k + 1) ws).value (word_at (k + 2) ws).value (word_at (k + 3) ws).value c.0 c.1 in
    let read = subst (λ (d : LackingNames). lacking_named n d ≡ Some at.0 → LackingRead n d.krate at.0) parts.5
    (λ named. lacking_of n parts.0 parts.1 parts.2 parts.3 at.0 (crate_read n k ws parts.0 parts.4) named) (sym (found_value (faults.Lacking k) (lacking_named n c.0)) ∙ at.1) in
    subst (λ (p : ℕ × ℕ). LackingRead n p.0 p.1) at.2 read

lacking_reads : (n : FactNames) (form p k t m : Text) (a index : ℕ) → crate_named n p ≡ Some a → lacking_named n (record { krate = a; kind = k; target = t; name = m }) ≡ Some index
    → (lacking_at n 1 (form ∷ p ∷ k ∷ t ∷ m ∷ [])).value ≡ Some (a, index)
unfolding lacking_at lacking_words crate_at word_at
lacking_reads n form p k t m a index parent named = rw (parent, named) refl

pub lacking_again : (n : FactNames) (number index : ℕ) (form : Text) → LackingRead n number index → (lacking_at n 1 (form ∷ lacking_listed n number index)).value ≡ Some (number, index)
lacking_again n number index form r =
    let d = lacking_texts n number index in
    lacking_reads n form (crate_text n number) d.kind d.target d.name number index r.parent_is r.named

-- ---- targets

pub record TargetRead (n : FactNames) (place : TargetPlace) : Type 0 where
  pub parent_is : crate_named n (crate_text n place.krate) ≡ Some place.krate
  pub named : target_named n (record { krate = place.krate; kind = (target_texts n place).kind; name = (target_texts n place).name }) ≡ Some place

target_stands : (n : FactNames) (c : TargetNames) (e : CrateEntry) (k : ℕ) (x : TargetEntry) → entry_in n c.krate ≡ Some e → slice_get e.targets.items k ≡ Some x
    → target_kinds_text x.target.now.kind.items ≡ c.kind → string_bytes x.target.now.name ≡ c.name → target_texts n (record { krate = c.krate; index = k }) ≡ record { kind = c.kind; name = c.name }
target_stands n c e k x entry at kind name = rw (entry, at, kind, name) refl

target_found : (n : FactNames) (c : TargetNames) (place : TargetPlace) → target_named n c ≡ Some place
    → (c.krate ≡ place.krate) × (target_texts n place ≡ record { kind = c.kind; name = c.name })
unfolding target_named
target_found n c place h =
    let make : ℕ → TargetPlace = λ k. record { krate = c.krate; index = k } in
    let entry = and_then_named (λ e. option_map make (position (fits_target c) e.targets.items)) (entry_in n c.krate) place h in
    let here = mapped_named make (position (fits_target c) entry.0.targets.items) place entry.2 in
    let at = first_at (fits_target c) entry.0.targets.items here.0 here.1 in
    let x = at.0 in
    let one = both_parts (bytes_eq (target_kinds_text x.target.now.kind.items) c.kind) (bytes_eq (string_bytes x.target.now.name) c.name) at.2 in
    let kind : target_kinds_text x.target.now.kind.items ≡ c.kind = (bytes_decides (target_kinds_text x.target.now.kind.items) c.kind).0 one.0 in
    let name : string_bytes x.target.now.name ≡ c.name = (bytes_decides (string_bytes x.target.now.name) c.name).0 one.1 in
    subst (λ (p : TargetPlace). (c.krate ≡ p.krate) × (target_texts n p ≡ record { kind = c.kind; name = c.name })) here.2 (refl, target_stands n c entry.0 here.0 x entry.1 at.1 kind name)

target_of : (n : FactNames) (a : ℕ) (k m : Text) (place : TargetPlace) → crate_named n (crate_text n a) ≡ Some a
    → target_named n (record { krate = a; kind = k; name = m }) ≡ Some place → TargetRead n place
target_of n a k m place parent named =
    let found = target_found n (record { krate = a; kind = k; name = m }) place named in
    record {
      parent_is = subst (λ (c : ℕ). crate_named n (crate_text n c) ≡ Some c) found.0 parent;
      named = subst (λ (x : TargetTexts). target_named n (record { krate = place.krate; kind = x.kind; name = x.name }) ≡ Some place) (sym found.1)
          (subst (λ (c : ℕ). target_named n (record { krate = c; kind = k; name = m }) ≡ Some place) found.0 named);
    }

abbrev make_target : ℕ → Text → Text → TargetNames
make_target parent kind name = record { krate = parent; kind = kind; name = name }

target_read : (n : FactNames) (k : ℕ) (ws : List Text) (place : TargetPlace) → (target_at n k ws).value ≡ Some place → TargetRead n place
unfolding target_at target_words
target_read n k ws place h =
    let c = then_named (faults.Target k) (target_named n) (target_words n k ws).value place h in
    let parts = three_named make_target (crate_at n k ws).value (word_at (k + 1) ws).value (word_at (k + 2) ws).value c.0 c.1 in
    subst (λ (d : TargetNames). target_named n d ≡ Some place → TargetRead n place) parts.6
    (λ named. target_of n parts.0 parts.1 parts.2 place (crate_read n k ws parts.0 parts.3) named) c.2

target_reads : (n : FactNames) (j : ℕ) (ws : List Text) (p k m : Text) (a : ℕ) (place : TargetPlace) → slice_get ws j ≡ Some p → slice_get ws (j + 1) ≡ Some k → slice_get ws (j + 2) ≡ Some m
    → crate_named n p ≡ Some a → target_named n (record { krate = a; kind = k; name = m }) ≡ Some place → (target_at n j ws).value ≡ Some place
unfolding target_at target_words crate_at word_at
target_reads n j ws p k m a place first second third parent named =
    then_gives (faults.Target j) (target_named n) (target_words n j ws).value (make_target a k m) place (rw (first, second, third, parent) refl) named

-- ---- placements and units

-- the word that is written for the platform names it
abbrev pub PlatformRead : FactNames → PlatformNumber → Type 0
PlatformRead n platform = platform_named n (platform_text n platform) ≡ Some platform

pub placement_read : (n : FactNames) (k : ℕ) (ws : List Text) (at : PlacementNumber) → (placement_at n k ws).value ≡ Some at → PlatformRead n at.platform
unfolding placement_at
placement_read n k ws at h =
    let make : PlatformNumber → Side → PlacementNumber = λ platform side. record { platform = platform; side = side } in
    let parts = two_named make (platform_at n k ws).value (side_at (k + 1) ws).value at h in
    subst (λ (p : PlacementNumber). PlatformRead n p.platform) parts.4 (platform_read n k ws parts.0 parts.2)

pub placement_again : (n : FactNames) (j : ℕ) (ws : List Text) (at : PlacementNumber) → slice_get ws j ≡ Some (platform_text n at.platform) → slice_get ws (j + 1) ≡ Some (side_text at.side)
    → PlatformRead n at.platform → (placement_at n j ws).value ≡ Some at
unfolding placement_at platform_at side_at
placement_again n j ws at first second read = rw (first, read, second, side_again at.side) refl

pub record UnitRead (n : FactNames) (u : UnitPlace) : Type 0 where
  pub target : TargetRead n u.target
  pub platform : PlatformRead n u.placement.platform

pub unit_read : (n : FactNames) (k : ℕ) (ws : List Text) (u : UnitPlace) → (unit_at n k ws).value ≡ Some u → UnitRead n u
unfolding unit_at
unit_read n k ws u h =
    let make : TargetPlace → Mode → PlacementNumber → UnitPlace = λ target mode placement. record { target = target; mode = mode; placement = placement } in
    let parts = three_named make (target_at n k ws).value (mode_at (k + 3) ws).value (placement_at n (k + 4) ws).value u h in
    subst (UnitRead n) parts.6 (record { target = target_read n k ws parts.0 parts.3; platform = placement_read n (k + 4) ws parts.2 parts.5 })

-- the words of the unit stand in a list from a place on
pub record UnitStands (n : FactNames) (ws : List Text) (j : ℕ) (u : UnitPlace) : Type 0 where
  pub krate : slice_get ws j ≡ Some (crate_text n u.target.krate)
  pub kind : slice_get ws (j + 1) ≡ Some (target_texts n u.target).kind
  pub name : slice_get ws (j + 2) ≡ Some (target_texts n u.target).name
  pub mode : slice_get ws (j + 3) ≡ Some (mode_text u.mode)
  pub platform : slice_get ws (j + 4) ≡ Some (platform_text n u.placement.platform)
  pub side : slice_get ws (j + 4 + 1) ≡ Some (side_text u.placement.side)

unit_reads : (n : FactNames) (j : ℕ) (ws : List Text) (u : UnitPlace) → (target_at n j ws).value ≡ Some u.target → slice_get ws (j + 3) ≡ Some (mode_text u.mode)
    → (placement_at n (j + 4) ws).value ≡ Some u.placement → (unit_at n j ws).value ≡ Some u
unfolding unit_at mode_at
unit_reads n j ws u target mode placement = rw (target, mode, mode_again u.mode, placement) refl

pub unit_again : (n : FactNames) (j : ℕ) (ws : List Text) (u : UnitPlace) → UnitStands n ws j u → UnitRead n u → (unit_at n j ws).value ≡ Some u
unit_again n j ws u stands read =
    let x = target_texts n u.target in
    unit_reads n j ws u
    (target_reads n j ws (crate_text n u.target.krate) x.kind x.name u.target.krate u.target stands.krate stands.kind stands.name read.target.parent_is read.target.named)
    stands.mode
    (placement_again n (j + 4) ws u.placement stands.platform stands.side read.platform)
