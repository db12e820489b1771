-- What the choice of options means: their setting and no other, and its words.
use Rattle.std.proofs.Common.{◌≡◌, ◌↔◌, ◌++◌, ◌∙◌, Bool, true, false, List, [], ◌∷◌, Contains, String, Global, Vec, ap, codes, map, refl, string_bytes, subst, sym}
use Rattle.std.proofs.lemmas.Bool.{false≢true}
use Rattle.std.proofs.lemmas.List.{append-nil}
use Rattle.std.proofs.lemmas.List.Folds.{list_any_at}
use Rattle.std.proofs.lemmas.Map.Views.{Contains-from_any}
use Rattle.std.specs.List.{AllZip, list_any}
use Rattle.krates_cm.specs.Document.{Text}
use Rattle.krates_cli.specs.Options.{OptionsModel, asked_at, is_same, set_of, setting_of}
use Rattle.krates_ids.specs.PackageSpecification.{spec_view}
use Rattle.krates_ids.specs.declared.pkgspec.PkgSpec.{PkgSpec}
use Rattle.krates_rules.specs.Kind.{has_kind}
use Rattle.krates_rules.specs.Setting.{IsManifestOf, SettingModel}
use Rattle.krates_rules.specs.declared.kind.DepKind.{DepKind}
use Rattle.krates_rules.specs.declared.kind.DepKind.TheVariants as kinds
use Rattle.krates_rules.specs.declared.kind.IgnoredKinds.{IgnoredKinds}
use Rattle.krates_rules.specs.declared.kind.KindSet.{KindSet}
use Rattle.krates_text.specs.AskedTargets.{asked_of}
use Rattle.krates_text.specs.Passing.{Asked}
use Rattle.krates_text.specs.TargetTable.{printed}
use Rattle.krates_text.specs.declared.target.Target.{Target}
use Rattle.krates_words.specs.Choice.{IgnoresJust, IsSettingOf}
use Rattle.krates_words.specs.SettingWords as choice
use Rattle.krates_words.specs.SettingWords.{flag_words, kind_word, package_word, words_of}
use Rattle.krates_words.specs.declared.choice.Choice.{Choice}
use Rattle.krates_foreign.specs.Asked.{IsChoiceOf, exclusion_word, setting_words, target_word}

-- ---- kinds

same_kind : (a b : DepKind) → is_same a b ≡ true → a ≡ b
same_kind kinds.Normal kinds.Normal h = refl
same_kind kinds.Build kinds.Build h = refl
same_kind kinds.Dev kinds.Dev h = refl
same_kind kinds.Normal kinds.Build h = absurd (false≢true h)
same_kind kinds.Normal kinds.Dev h = absurd (false≢true h)
same_kind kinds.Build kinds.Normal h = absurd (false≢true h)
same_kind kinds.Build kinds.Dev h = absurd (false≢true h)
same_kind kinds.Dev kinds.Normal h = absurd (false≢true h)
same_kind kinds.Dev kinds.Build h = absurd (false≢true h)

is_itself : (kind : DepKind) → is_same kind kind ≡ true
is_itself kinds.Normal = refl
is_itself kinds.Build = refl
is_itself kinds.Dev = refl

-- two tests that say yes to the same are the same
same_answer : (a b : Bool) → (a ≡ true → b ≡ true) → (b ≡ true → a ≡ true) → a ≡ b
same_answer true b to from = sym (to refl)
same_answer false true to from = from refl
same_answer false false to from = refl

-- whether a kind is one of these
tells : (asked : List DepKind) (kind : DepKind) (has : Bool) → (has ≡ true) ↔ Contains asked kind → has ≡ list_any (is_same kind) asked
tells asked kind has h = same_answer has (list_any (is_same kind) asked)
    (λ is. let among = h.0 is in list_any_at (is_same kind) asked among.0 kind among.1 (ap (is_same kind) among.2 ∙ is_itself kind))
    (λ is. h.1 (Contains-from_any same_kind kind asked is))

-- the set that has exactly these
same_set : (asked : List DepKind) (set : KindSet) → ((kind : DepKind) → (has_kind set kind ≡ true) ↔ Contains asked kind) → set ≡ set_of asked
same_set asked set h =
    let normal = tells asked kinds.Normal set.normal (h kinds.Normal) in
    let build = tells asked kinds.Build set.build (h kinds.Build) in
    let dev = tells asked kinds.Dev set.dev (h kinds.Dev) in
    λ i. record { normal = normal i; build = build i; dev = dev i }

same_ignored : (asked : List DepKind) (ignored : IgnoredKinds) → IgnoresJust asked ignored → ignored ≡ record { of_members = set_of asked; of_others = set_of asked }
same_ignored asked ignored h =
    let members = same_set asked ignored.of_members (λ kind. h kind true) in
    let others = same_set asked ignored.of_others (λ kind. h kind false) in
    λ i. record { of_members = members i; of_others = others i }

-- ---- the setting

-- where no path is given, no manifest is
no_manifest : (manifests : List Text) → AllZip IsManifestOf [] manifests → manifests ≡ []
no_manifest [] h = refl
no_manifest (manifest ∷ manifests) h = absurd h

same_setting : (o : OptionsModel) (c : Choice) (s : SettingModel) → c.workspace ≡ o.workspace → c.all_named ≡ o.all_named → c.packages.items ≡ [] → c.ignored.items ≡ o.ignored → map spec_view c.exclusions.items ≡ o.exclusions
    → map asked_of c.targets.items ≡ map asked_at o.targets → IsSettingOf c [] s → s ≡ setting_of o
same_setting o c s workspace all_named none same_kinds specs targets is =
    let manifests = no_manifest s.manifests (subst (λ (paths : List (String Global)). AllZip IsManifestOf (map string_bytes paths) s.manifests) none is.manifests) in
    let ignored = same_ignored o.ignored s.ignored (subst (λ (asked : List DepKind). IgnoresJust asked s.ignored) (append-nil c.ignored.items ∙ same_kinds) is.ignored) in
    let at = is.targets ∙ targets in
    let excluded = is.exclusions ∙ specs in
    let members = is.workspace ∙ workspace in
    let named = is.all_named ∙ all_named in
    λ i. record { targets = at i; manifests = manifests i; exclusions = excluded i; ignored = ignored i; workspace = members i; all_named = named i }

-- ---- its words

exclusions : (specs : List PkgSpec) → map choice.exclusion_word specs ≡ map exclusion_word (map spec_view specs)
exclusions [] = refl
exclusions (spec ∷ specs) = ap (λ words. choice.exclusion_word spec ∷ words) (exclusions specs)

-- the word of a target that is set
abbrev pub asked_word : Asked → Text
asked_word asked = codes "--target=" ++ printed asked.target

described : (targets : List (Target × Vec (String Global) Global)) → map choice.target_word targets ≡ map asked_word (map asked_of targets)
described [] = refl
described (target ∷ targets) = ap (λ words. choice.target_word target ∷ words) (described targets)

named : (triples : List Text) → map asked_word (map asked_at triples) ≡ map target_word triples
named [] = refl
named (triple ∷ triples) = ap (λ words. target_word triple ∷ words) (named triples)

same_words : (o : OptionsModel) (c : Choice) → c.workspace ≡ o.workspace → c.all_named ≡ o.all_named → c.packages.items ≡ [] → c.ignored.items ≡ o.ignored → map spec_view c.exclusions.items ≡ o.exclusions
    → map asked_of c.targets.items ≡ map asked_at o.targets → words_of c ≡ setting_words o
same_words o c workspace all_named none same_kinds specs targets =
    let excluded : map choice.exclusion_word c.exclusions.items ≡ map exclusion_word o.exclusions = exclusions c.exclusions.items ∙ ap (map exclusion_word) specs in
    let at : map choice.target_word c.targets.items ≡ map target_word o.targets = described c.targets.items ∙ ap (map asked_word) targets ∙ named o.targets in
    λ i. flag_words (codes "--workspace") (workspace i) ++ (flag_words (codes "--all-named") (all_named i) ++ (map package_word (none i) ++ (map kind_word (same_kinds i) ++ (excluded i ++ at i))))

pub chosen : (o : OptionsModel) (c : Choice) → c.workspace ≡ o.workspace → c.all_named ≡ o.all_named → c.packages.items ≡ [] → c.ignored.items ≡ o.ignored → map spec_view c.exclusions.items ≡ o.exclusions
    → map asked_of c.targets.items ≡ map asked_at o.targets → IsChoiceOf o c
chosen o c workspace all_named none same_kinds specs targets = record {
  setting = λ s is. same_setting o c s workspace all_named none same_kinds specs targets is;
  words = same_words o c workspace all_named none same_kinds specs targets;
}
