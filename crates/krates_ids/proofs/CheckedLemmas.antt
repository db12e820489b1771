-- Which checks remain after each step of reading a specification.
use Rattle.std.proofs.Common.{◌≡◌, [], ◌∷◌, ◌++◌, Bool, true, false, refl, sym, ◌∙◌}
use Rattle.std.specs.Prelude.{◌⊎◌, ◌==◌, if◌then◌else◌, length, Option, Some, None, Ok, Err, codes}
use Rattle.std.specs.List.{ends_with}
use Rattle.std.specs.Option.{is_none}
use Rattle.krates_cm.specs.Document.{Text, VersionModel}
use Rattle.krates_cm.specs.Names.{version_named}
use Rattle.krates_text.specs.Cuts.{Lacks, Has, FirstCut, LastCut}
use Rattle.krates_ids.specs.PackageSpecification.{specification, Outcome, Checks, checked, GivesChecked, name_check, sides_checks, IsUnsplit, SplitAt, IsFragment, is_split, is_name_alone, is_version_alone, begins_with_letter, HasScheme, IsUrl, with_scheme, without_scheme, IsLocated, url_alone, with_fragment, a_short_url, Gives, ends_with_hash, ends_with_slash, missing_scheme, missing_path, bad_version, default_scheme}
use Rattle.krates_ids.specs.Separators.{hash_sign, slash}
use Rattle.krates_ids.specs.SpecificationAnswers.{version_outcome}
use Rattle.krates_ids.proofs.SpecificationLemmas.{Ok≢Err, version_read}
use Rattle.krates_ids.proofs.SpecificationLawLemmas.{IsFragment-some, IsUrl-some}

-- the first check that refuses stays the first
checked-refused : {A B : Type 0} (cs ds : Checks) (a : A) (b : B) (t : Text) → Err t ≡ checked cs a → Err t ≡ checked (cs ++ ds) b
checked-refused [] ds a b t e = absurd (Ok≢Err (sym e))
checked-refused ((true, u) ∷ cs) ds a b t e =
    let same : t ≡ u = cc in
    rw same refl
checked-refused ((false, u) ∷ cs) ds a b t e = checked-refused cs ds a b t e

-- where none refuses, the later checks remain
checked-passed : {A B : Type 0} (cs ds : Checks) (a v : A) (b : B) → Ok v ≡ checked cs a → (v ≡ a) × (checked (cs ++ ds) b ≡ checked ds b)
checked-passed [] ds a v b e = (cc, refl)
checked-passed ((true, u) ∷ cs) ds a v b e = absurd (Ok≢Err e)
checked-passed ((false, u) ∷ cs) ds a v b e = checked-passed cs ds a v b e

-- ---- fragments

pub Fragment-split : (url piece : Option Text) (f name version : Text) → SplitAt f name version → (outcome : Outcome) → outcome ≡ checked (sides_checks name version) (specification name (version_named version) url) → GivesChecked (IsFragment url piece f) outcome
Fragment-split url piece f name version split outcome is = record { checks = _; value = _; is_read = is_split name version split; is = is }

pub Fragment-name : (url piece : Option Text) (f : Text) → IsUnsplit f → (piece ≡ None) ⊎ (begins_with_letter f ≡ true) → (outcome : Outcome) → outcome ≡ checked (name_check f ∷ []) (specification f None url) → GivesChecked (IsFragment url piece f) outcome
Fragment-name url piece f unsplit named outcome is = record { checks = _; value = _; is_read = is_name_alone unsplit named; is = is }

pub Fragment-version : (url piece f : Text) (v : VersionModel) → IsUnsplit f → begins_with_letter f ≡ false → Ok v ≡ version_outcome (version_named f) → (outcome : Outcome) → outcome ≡ checked (name_check piece ∷ []) (specification piece (Some v) (Some url)) → GivesChecked (IsFragment (Some url) (Some piece) f) outcome
Fragment-version url piece f v unsplit plain read outcome is =
    let named : version_named f ≡ Some v = version_read v (version_named f) read in
    record { checks = _; value = _; is_read = is_version_alone piece unsplit refl plain; is = is ∙ rw named refl }

refused_version : (read : Option VersionModel) (t : Text) (rest : Outcome) → Err t ≡ version_outcome read → Err t ≡ (if is_none read then Err bad_version else rest)
refused_version None t rest e =
    let same : t ≡ bad_version = cc in
    rw same refl
refused_version (Some v) t rest e = absurd (Ok≢Err (sym e))

pub Fragment-bad_version : (url piece f t : Text) → IsUnsplit f → begins_with_letter f ≡ false → Err t ≡ version_outcome (version_named f) → GivesChecked (IsFragment (Some url) (Some piece) f) (Err t)
Fragment-bad_version url piece f t unsplit plain read = record {
  checks = _;
  value = _;
  is_read = is_version_alone piece unsplit refl plain;
  is = refused_version (version_named f) t _ read;
}

-- ---- urls

slash_first : (url : Text) (cs : Checks) (piece : Text) → IsUrl url cs piece → ends_with ◌==◌ url (codes "/") ≡ true → Err ends_with_slash ≡ checked cs piece
slash_first url cs piece (with_scheme before last scheme cut) end = rw end refl
slash_first url cs piece (without_scheme none) end = rw end refl

pub Url-slash : (url : Text) → ends_with ◌==◌ url (codes "/") ≡ true → GivesChecked (IsUrl url) (Err ends_with_slash)
Url-slash url end =
    let u = IsUrl-some url in
    record { checks = u.0; value = u.1; is_read = u.2; is = slash_first url u.0 u.1 u.2 end }

pub Url-no_scheme : (url : Text) → ends_with ◌==◌ url (codes "/") ≡ false → (HasScheme url → ⊥) → GivesChecked (IsUrl url) (Err missing_scheme)
Url-no_scheme url end none = record { checks = _; value = _; is_read = without_scheme none; is = rw end refl }

pub Url-scheme : (url before piece : Text) (no_path : Bool) → ends_with ◌==◌ url (codes "/") ≡ false → HasScheme url → LastCut slash url before piece → ends_with ◌==◌ before (codes ":/") ≡ no_path → GivesChecked (IsUrl url) (if no_path then Err missing_path else Ok piece)
Url-scheme url before piece no_path end scheme cut bad =
    record { checks = _; value = _; is_read = with_scheme before piece scheme cut; is = rw (end, bad) refl }

-- ---- texts with a url

pub Located-refused : (t refusal : Text) → Lacks hash_sign t → GivesChecked (IsUrl t) (Err refusal) → GivesChecked (IsLocated t) (Err refusal)
Located-refused t refusal none h = record {
  checks = _;
  value = _;
  is_read = url_alone h.checks h.value none h.is_read;
  is = checked-refused h.checks _ h.value _ refusal h.is;
}

pub Located-alone : (t piece : Text) → Lacks hash_sign t → GivesChecked (IsUrl t) (Ok piece) → (outcome : Outcome) → outcome ≡ checked (name_check piece ∷ []) (specification piece None (Some t)) → GivesChecked (IsLocated t) outcome
Located-alone t piece none h outcome is =
    let passed = checked-passed h.checks (name_check h.value ∷ []) h.value piece (specification h.value None (Some t)) h.is in
    record { checks = _; value = _; is_read = url_alone h.checks h.value none h.is_read; is = is ∙ (rw passed.0 refl ∙ sym passed.1) }

pub Located-empty : (t url fragment : Text) → FirstCut hash_sign t url fragment → (length fragment == 0) ≡ true → GivesChecked (IsLocated t) (Err ends_with_hash)
Located-empty t url fragment cut empty =
    let u = IsUrl-some url in
    let f = IsFragment-some (Some url) (Some u.1) fragment in
    record { checks = _; value = _; is_read = with_fragment url fragment u.1 u.0 f.0 f.1 cut u.2 f.2; is = rw empty refl }

pub Located-bad_url : (t url fragment refusal : Text) → FirstCut hash_sign t url fragment → (length fragment == 0) ≡ false → GivesChecked (IsUrl url) (Err refusal) → GivesChecked (IsLocated t) (Err refusal)
Located-bad_url t url fragment refusal cut full h =
    let f = IsFragment-some (Some url) (Some h.value) fragment in
    record {
      checks = _;
      value = _;
      is_read = with_fragment url fragment h.value h.checks f.0 f.1 cut h.is_read f.2;
      is = rw full (checked-refused h.checks f.0 h.value f.1 refusal h.is);
    }

pub Located-fragment : (t url fragment piece : Text) → FirstCut hash_sign t url fragment → (length fragment == 0) ≡ false → GivesChecked (IsUrl url) (Ok piece) → (outcome : Outcome) → GivesChecked (IsFragment (Some url) (Some piece) fragment) outcome → GivesChecked (IsLocated t) outcome
Located-fragment t url fragment piece cut full h outcome k =
    let passed = checked-passed h.checks k.checks h.value piece k.value h.is in
    let inside : IsFragment (Some url) (Some h.value) fragment k.checks k.value = rw (← passed.0) k.is_read in
    record {
      checks = _;
      value = _;
      is_read = with_fragment url fragment h.value h.checks k.checks k.value cut h.is_read inside;
      is = rw full (k.is ∙ sym passed.1);
    }

-- ---- whole texts

pub Gives-cargo : (t whole : Text) → whole ≡ default_scheme ++ t → Has slash t → (HasScheme t → ⊥) → (outcome : Outcome) → GivesChecked (IsLocated whole) outcome → Gives t outcome
Gives-cargo t whole is has none outcome h =
    let located : IsLocated (default_scheme ++ t) h.checks h.value = rw is at h.is_read in
    record { checks = h.checks; value = h.value; is_read = a_short_url has none located; is = h.is }
