-- What a word means, by its id or by its specification.
use Rattle.std.proofs.Common.{◌↔◌, ◌++◌, List, [], ap, map, refl, subst, sym, ◌∙◌}
use Rattle.krates_cm.specs.Document.{Text, package_view}
use Rattle.krates_cm.specs.declared.package.Package.{Package}
use Rattle.krates_ids.proofs.IdentityLemmas.{Reads-once}
use Rattle.krates_ids.specs.Identity.{Identity, Reads}
use Rattle.krates_queries.specs.KrateNodes.{Match}
use Rattle.krates_rules.proofs.Members.{Member, contains_of, member_left, member_map, member_of, member_right}
use Rattle.krates_rules.specs.Facts.{Id}
use Rattle.krates_rules.specs.Resolved.{id_of}
use Rattle.krates_answers.specs.Meaning.{AreParted, DocumentPackage, HasId, IsIdOf, IsNoId, Means, by_id, by_specification, kept, kept_in, other, others_in, package_in, packages_in}
use Rattle.krates_answers.specs.Those.{AreThose}
use Rattle.krates_answers.specs.WordSpecification.{AskedPackages, AsksFor, IsAskedFor}
use Rattle.krates_answers.specs.declared.meaning.Packages.{Packages}
use Rattle.krates_answers.proofs.ThoseLemmas.{AreThose-alike, AreThose-append, AreThose-has, AreThose-map}
use Rattle.krates_answers.proofs.WordSpecificationLemmas.{asks_once}

-- ---- the packages of a document

pub kept_among : (p : Packages) (m : Match Package) → Member (kept_in p) m → Member (packages_in p) (kept m)
kept_among p m among = member_left (map kept (kept_in p)) (map other (others_in p)) (kept m) (member_map kept (kept_in p) m among)

pub other_among : (p : Packages) (pkg : Package) → Member (others_in p) pkg → Member (packages_in p) (other pkg)
other_among p pkg among = member_right (map kept (kept_in p)) (map other (others_in p)) (other pkg) (member_map other (others_in p) pkg among)

-- a property that is the same of the packages of the document
pub parted_alike : (P Q : DocumentPackage → Type 0) (p : Packages) (crates : List (Match Package)) (others : List Package)
    → ((d : DocumentPackage) → Member (packages_in p) d → P d ↔ Q d) → AreParted P p crates others → AreParted Q p crates others
parted_alike P Q p crates others same parted = record {
  kept_ones = AreThose-alike (λ m among. same (kept m) (kept_among p m among)) parted.kept_ones;
  others = AreThose-alike (λ pkg among. same (other pkg) (other_among p pkg among)) parted.others;
}

-- the parts as one list
pub parted_whole : (P : DocumentPackage → Type 0) (p : Packages) (crates : List (Match Package)) (others : List Package)
    → AreParted P p crates others → AreThose P (packages_in p) (map kept crates ++ map other others)
parted_whole P p crates others parted = AreThose-append (AreThose-map kept parted.kept_ones) (AreThose-map other parted.others)

-- ---- by id

module _ (p : Packages) (word : Text) (id : Identity) (reads : Reads word id) where
  is_id_of : (d : DocumentPackage) → HasId (id_of id) d → IsIdOf word d
  is_id_of d has = record { id = id_of id; reads = record { read = id; reads = reads; same = refl }; has = has }

  pub has_id : (d : DocumentPackage) → IsIdOf word d → HasId (id_of id) d
  has_id d is = subst (λ (i : Id). HasId i d) (sym is.reads.same ∙ ap id_of (Reads-once word is.reads.read id is.reads.reads reads)) is.has

  -- where a package has the id
  pub means_by_id : (found : DocumentPackage) → Member (packages_in p) found → HasId (id_of id) found → (d : DocumentPackage) → HasId (id_of id) d ↔ Means p word d
  means_by_id found among has d = (
    λ same. by_id (is_id_of d same),
    λ means. elim means [
      | by_id is ↦ has_id d is
      | by_specification none asks ↦ absurd (none found (contains_of (packages_in p) found among) (is_id_of found has))
    ],
  )

  -- where none has it
  pub no_id_found : AreParted (HasId (id_of id)) p [] [] → IsNoId p word
  no_id_found none d among is = AreThose-has (parted_whole (HasId (id_of id)) p [] [] none) d (member_of (packages_in p) d among) (has_id d is)

-- a word that isn't an id is none's
pub no_id_read : (p : Packages) (word : Text) → ((id : Identity) → Reads word id → ⊥) → IsNoId p word
no_id_read p word none d among is = none is.reads.read is.reads.reads

-- ---- as a specification

pub means_as_asked : (p : Packages) (word : Text) (asked : AskedPackages) → IsNoId p word → AsksFor word asked → (d : DocumentPackage) → Member (packages_in p) d
    → IsAskedFor asked (package_view (package_in d)) ↔ Means p word d
means_as_asked p word asked no_id asks d among = (
  λ fits. by_specification no_id (record { asked = asked; asks = asks; fits = fits }),
  λ means. elim means [
    | by_id is ↦ absurd (no_id d (contains_of (packages_in p) d among) is)
    | by_specification none also ↦ subst (λ (a : AskedPackages). IsAskedFor a (package_view (package_in d))) (asks_once word also.asked asked also.asks asks) also.fits
  ],
)
