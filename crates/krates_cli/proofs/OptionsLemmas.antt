-- How options are read from the front of words.
use Rattle.std.proofs.Common.{◌≡◌, ◌⊎◌, ◌++◌, ◌||◌, Bool, true, false, List, [], ◌∷◌, Option, None, Some, bytes_eq, codes, drop, refl, sym, ap, inl, inr, ⊎_elim, subst, ◌∙◌, append_assoc, append-nil}
use Rattle.std.proofs.Math.Bool.{or-true, or-false}
use Rattle.std.proofs.lemmas.Bool.{false≢true}
use Rattle.krates_cm.specs.Document.{Text, id_view}
use Rattle.krates_cm.specs.declared.package_id.PackageId.{PackageId}
use Rattle.krates_ids.specs.Identity.{Identity, Reads, Fault, IsFault}
use Rattle.krates_ids.specs.PackageSpecification.{Specification, IsSpec}
use Rattle.krates_rules.specs.declared.kind.DepKind.{DepKind}
use Rattle.krates_cli.specs.Options.{OptionsModel, plain_options, Wish, every_member, every_namesake, without_kind, at_target, without_package, by_program, explaining, later, with_wish, kind_named, AsksWith, ignore_kind, target, exclude, cargo, why, AsksFirst, all_named, workspace, valued, IsCommandLine, no_words, one_more, IsUnknown}
use Rattle.krates_cli.specs.OptionsReading.{and_wish, AddsValue, AddsFirst, BeginsUnknown, IsNoValue, IsUnread}
use Rattle.krates_cli.specs.declared.options.OptionsError.{OptionsError}
use Rattle.krates_cli.specs.declared.options.OptionsError.TheVariants as errors

-- ---- one option

-- what an option with a value is
abbrev pub IsAsked : Text → Text → Wish → Type 0
IsAsked option value every_member = ⊥
IsAsked option value every_namesake = ⊥
IsAsked option value (without_kind kind) = (option ≡ codes "--ignore-kind") × (kind_named value ≡ Some kind)
IsAsked option value (at_target triple) = (option ≡ codes "--target") × (value ≡ triple)
IsAsked option value (without_package spec) = (option ≡ codes "--exclude") × IsSpec value spec.name spec.version spec.url
IsAsked option value (by_program program) = (option ≡ codes "--cargo") × (value ≡ program)
IsAsked option value (explaining krate) = (option ≡ codes "--why") × Reads value krate

pub asked : (option value : Text) (wish : Wish) → AsksWith option value wish → IsAsked option value wish
asked option value wish (ignore_kind h) = (refl, h)
asked option value wish target = (refl, refl)
asked option value wish (exclude h) = (refl, h)
asked option value wish cargo = (refl, refl)
asked option value wish (why h) = (refl, h)

-- two names of options differ
differ : {A : Type 0} (option a b : Text) → option ≡ a → option ≡ b → bytes_eq a b ≡ false → bytes_eq b b ≡ true → A
differ option a b is_a is_b apart same = absurd (false≢true (sym apart ∙ ap (λ t. bytes_eq t b) (sym is_a ∙ is_b) ∙ same))

-- an option with a value has no other name
no_word : (option value flag : Text) (wish : Wish) → bytes_eq (codes "--ignore-kind") flag ≡ false → bytes_eq (codes "--target") flag ≡ false → bytes_eq (codes "--exclude") flag ≡ false → bytes_eq (codes "--cargo") flag ≡ false → bytes_eq (codes "--why") flag ≡ false → bytes_eq flag flag ≡ true
    → AsksWith option value wish → option ≡ flag → ⊥
no_word option value flag wish k t s c w same (ignore_kind h) e = differ option (codes "--ignore-kind") flag refl e k same
no_word option value flag wish k t s c w same target e = differ option (codes "--target") flag refl e t same
no_word option value flag wish k t s c w same (exclude h) e = differ option (codes "--exclude") flag refl e s same
no_word option value flag wish k t s c w same cargo e = differ option (codes "--cargo") flag refl e c same
no_word option value flag wish k t s c w same (why h) e = differ option (codes "--why") flag refl e w same

-- an option without a value, and what it means
abbrev pub IsFlag : Text → Wish → Type 0
IsFlag option every_member = option ≡ codes "--workspace"
IsFlag option every_namesake = option ≡ codes "--all-named"
IsFlag option _ = ⊥

-- an option with a value is none of them
no_flag : (option value : Text) (wish flag : Wish) → AsksWith option value wish → IsFlag option flag → ⊥
no_flag option value wish every_member asks e = no_word option value (codes "--workspace") wish refl refl refl refl refl refl asks e
no_flag option value wish every_namesake asks e = no_word option value (codes "--all-named") wish refl refl refl refl refl refl asks e
no_flag option value wish (without_kind k) asks e = e
no_flag option value wish (at_target t) asks e = e
no_flag option value wish (without_package s) asks e = e
no_flag option value wish (by_program c) asks e = e
no_flag option value wish (explaining i) asks e = e

-- and each means one thing
same_flag : (option : Text) (a b : Wish) → IsFlag option a → IsFlag option b → a ≡ b
same_flag option every_member every_member p q = refl
same_flag option every_member every_namesake p q = differ option (codes "--workspace") (codes "--all-named") p q refl refl
same_flag option every_member (without_kind k) p q = absurd q
same_flag option every_member (at_target t) p q = absurd q
same_flag option every_member (without_package s) p q = absurd q
same_flag option every_member (by_program c) p q = absurd q
same_flag option every_member (explaining i) p q = absurd q
same_flag option every_namesake every_member p q = differ option (codes "--all-named") (codes "--workspace") p q refl refl
same_flag option every_namesake every_namesake p q = refl
same_flag option every_namesake (without_kind k) p q = absurd q
same_flag option every_namesake (at_target t) p q = absurd q
same_flag option every_namesake (without_package s) p q = absurd q
same_flag option every_namesake (by_program c) p q = absurd q
same_flag option every_namesake (explaining i) p q = absurd q
same_flag option (without_kind k) b p q = absurd p
same_flag option (at_target t) b p q = absurd p
same_flag option (without_package s) b p q = absurd p
same_flag option (by_program c) b p q = absurd p
same_flag option (explaining i) b p q = absurd p

-- an option of another name means nothing
pub no_value : (option value : Text) → (option ≡ codes "--ignore-kind" → ⊥) → (option ≡ codes "--target" → ⊥) → (option ≡ codes "--exclude" → ⊥) → (option ≡ codes "--cargo" → ⊥) → (option ≡ codes "--why" → ⊥) → IsNoValue option value
no_value option value no_kind no_target no_spec no_cargo no_why wish (ignore_kind h) = no_kind refl
no_value option value no_kind no_target no_spec no_cargo no_why wish target = no_target refl
no_value option value no_kind no_target no_spec no_cargo no_why wish (exclude h) = no_spec refl
no_value option value no_kind no_target no_spec no_cargo no_why wish cargo = no_cargo refl
no_value option value no_kind no_target no_spec no_cargo no_why wish (why h) = no_why refl

pub no_spec_value : (option value : Text) → option ≡ codes "--exclude" → ((spec : Specification) → IsSpec value spec.name spec.version spec.url → ⊥) → IsNoValue option value
no_spec_value option value is none wish (ignore_kind h) = differ option (codes "--ignore-kind") (codes "--exclude") refl is refl refl
no_spec_value option value is none wish target = differ option (codes "--target") (codes "--exclude") refl is refl refl
no_spec_value option value is none wish (exclude {spec = spec} h) = none spec h
no_spec_value option value is none wish cargo = differ option (codes "--cargo") (codes "--exclude") refl is refl refl
no_spec_value option value is none wish (why h) = differ option (codes "--why") (codes "--exclude") refl is refl refl

pub no_id_value : (option value : Text) → option ≡ codes "--why" → ((krate : Identity) → Reads value krate → ⊥) → IsNoValue option value
no_id_value option value is none wish (ignore_kind h) = differ option (codes "--ignore-kind") (codes "--why") refl is refl refl
no_id_value option value is none wish target = differ option (codes "--target") (codes "--why") refl is refl refl
no_id_value option value is none wish (exclude h) = differ option (codes "--exclude") (codes "--why") refl is refl refl
no_id_value option value is none wish cargo = differ option (codes "--cargo") (codes "--why") refl is refl refl
no_id_value option value is none wish (why {krate = krate} h) = none krate h

-- a value that isn't a specification is refused, and running out of memory stays that
pub spec_refused : (option value : Text) (cause same : OptionsError) → option ≡ codes "--exclude" → IsUnread ((spec : Specification) → IsSpec value spec.name spec.version spec.url → ⊥) cause
    → same ≡ cause → IsUnread (IsNoValue option value) same
spec_refused option value errors.Unknown same is none e = subst (IsUnread (IsNoValue option value)) (sym e) (no_spec_value option value is none)
spec_refused option value errors.Memory same is none e = subst (IsUnread (IsNoValue option value)) (sym e) tt

-- a text with a fault isn't an id
pub no_id : (word : Text) (id : PackageId) (fault : Fault) → ((t : Text) (i : Identity) (f : Fault) → Reads t i → IsFault t f → ⊥) → id_view id ≡ word → IsFault (id_view id) fault
    → (krate : Identity) → Reads word krate → ⊥
no_id word id fault law same is krate reads = law (id_view id) krate fault (subst (λ (t : Text). Reads t krate) (sym same) reads) is

-- a value that isn't an id is refused
pub id_refused : (option value : Text) (cause same : OptionsError) → option ≡ codes "--why" → IsUnread ((krate : Identity) → Reads value krate → ⊥) cause
    → same ≡ cause → IsUnread (IsNoValue option value) same
id_refused option value errors.Unknown same is none e = subst (IsUnread (IsNoValue option value)) (sym e) (no_id_value option value is none)
id_refused option value errors.Memory same is none e = subst (IsUnread (IsNoValue option value)) (sym e) tt

pub kind_read : (option value : Text) (old : OptionsModel) (kind : DepKind) (kinds : List DepKind) → option ≡ codes "--ignore-kind" → kind_named value ≡ Some kind
    → kinds ≡ old.ignored ++ kind ∷ [] → AddsValue option value old (record old { ignored = kinds })
kind_read option value old kind kinds is named pushed = record {
  wish = without_kind kind;
  asks = subst (λ o. AsksWith o value (without_kind kind)) (sym is) (ignore_kind named);
  added = ap (λ l. record old { ignored = l }) pushed;
}

pub target_read : (option value : Text) (old : OptionsModel) (triples : List Text) → option ≡ codes "--target"
    → triples ≡ old.targets ++ value ∷ [] → AddsValue option value old (record old { targets = triples })
target_read option value old triples is pushed = record {
  wish = at_target value;
  asks = subst (λ o. AsksWith o value (at_target value)) (sym is) target;
  added = ap (λ l. record old { targets = l }) pushed;
}

pub spec_read : (option value : Text) (old : OptionsModel) (spec : Specification) (specs : List Specification) → option ≡ codes "--exclude" → IsSpec value spec.name spec.version spec.url
    → specs ≡ old.exclusions ++ spec ∷ [] → AddsValue option value old (record old { exclusions = specs })
spec_read option value old spec specs is named pushed = record {
  wish = without_package spec;
  asks = subst (λ o. AsksWith o value (without_package spec)) (sym is) (exclude named);
  added = ap (λ l. record old { exclusions = l }) pushed;
}

pub program_read : (option value : Text) (old : OptionsModel) (program : Option Text) → option ≡ codes "--cargo"
    → program ≡ Some value → AddsValue option value old (record old { cargo = program })
program_read option value old program is set = record {
  wish = by_program value;
  asks = subst (λ o. AsksWith o value (by_program value)) (sym is) cargo;
  added = ap (λ p. record old { cargo = p }) set;
}

pub id_read : (option value : Text) (old : OptionsModel) (krate : Identity) (krates : Option Identity) → option ≡ codes "--why" → Reads value krate
    → krates ≡ Some krate → AddsValue option value old (record old { explaining = krates })
id_read option value old krate krates is read set = record {
  wish = explaining krate;
  asks = subst (λ o. AsksWith o value (explaining krate)) (sym is) (why read);
  added = ap (λ k. record old { explaining = k }) set;
}

-- ---- the first words

pub flag_read : (option : Text) (values : List Text) (old : OptionsModel) → option ≡ codes "--workspace" → AddsFirst (option ∷ values) old (record old { workspace = true }) values
flag_read option values old is = record {
  wish = every_member;
  asks = subst (λ o. AsksFirst (o ∷ values) every_member values) (sym is) workspace;
  added = refl;
}

pub naming_read : (option : Text) (values : List Text) (old : OptionsModel) → option ≡ codes "--all-named" → AddsFirst (option ∷ values) old (record old { all_named = true }) values
naming_read option values old is = record {
  wish = every_namesake;
  asks = subst (λ o. AsksFirst (o ∷ values) every_namesake values) (sym is) all_named;
  added = refl;
}

pub value_read : (option value : Text) (values rest : List Text) (old new : OptionsModel) → values ≡ value ∷ rest → AddsValue option value old new → AddsFirst (option ∷ values) old new rest
value_read option value values rest old new split adds = record {
  wish = adds.wish;
  asks = subst (λ l. AsksFirst (option ∷ l) adds.wish rest) (sym split) (valued adds.asks);
  added = adds.added;
}

-- how words begin with an option
abbrev pub Begins : List Text → Wish → List Text → Type 0
Begins words wish rest = ((option : Text) × IsFlag option wish × (words ≡ option ∷ rest))
    ⊎ ((option value : Text) × AsksWith option value wish × (words ≡ option ∷ value ∷ rest))

begins : (words : List Text) (wish : Wish) (rest : List Text) → AsksFirst words wish rest → Begins words wish rest
begins words wish rest workspace = inl (codes "--workspace", refl, refl)
begins words wish rest all_named = inl (codes "--all-named", refl, refl)
begins words wish rest (valued {option = option} {value = value} h) = inr (option, value, h, refl)

-- ---- whole words

-- what is asked by both, the first before the second
abbrev pub joined : OptionsModel → OptionsModel → OptionsModel
joined a b = record {
  workspace = a.workspace || b.workspace;
  ignored = a.ignored ++ b.ignored;
  targets = a.targets ++ b.targets;
  exclusions = a.exclusions ++ b.exclusions;
  cargo = later a.cargo b.cargo;
  explaining = later a.explaining b.explaining;
  all_named = a.all_named || b.all_named;
}

later_still : {A : Type 0} (first : Option A) (next : A) (last : Option A) → later (Some next) last ≡ later first (later (Some next) last)
later_still first next None = refl
later_still first next (Some other) = refl

-- a wish at the end of the first comes before the second
moves_over : (a b : OptionsModel) (wish : Wish) → joined (and_wish a wish) b ≡ joined a (with_wish wish b)
moves_over a b every_member = ap (λ x. record (joined a b) { workspace = x }) (sym (or-true a.workspace))
moves_over a b every_namesake = ap (λ x. record (joined a b) { all_named = x }) (sym (or-true a.all_named))
moves_over a b (without_kind kind) = ap (λ x. record (joined a b) { ignored = x }) (append_assoc a.ignored (kind ∷ []) b.ignored)
moves_over a b (at_target triple) = ap (λ x. record (joined a b) { targets = x }) (append_assoc a.targets (triple ∷ []) b.targets)
moves_over a b (without_package spec) = ap (λ x. record (joined a b) { exclusions = x }) (append_assoc a.exclusions (spec ∷ []) b.exclusions)
moves_over a b (by_program program) = ap (λ x. record (joined a b) { cargo = x }) (later_still a.cargo program b.cargo)
moves_over a b (explaining krate) = ap (λ x. record (joined a b) { explaining = x }) (later_still a.explaining krate b.explaining)

later_alone : {A : Type 0} (last : Option A) → later None last ≡ last
later_alone None = refl
later_alone (Some last) = refl

plain_joined : (o : OptionsModel) → o ≡ joined plain_options o
plain_joined o = λ i. record {
  workspace = o.workspace;
  ignored = o.ignored;
  targets = o.targets;
  exclusions = o.exclusions;
  cargo = sym (later_alone o.cargo) i;
  explaining = sym (later_alone o.explaining) i;
  all_named = o.all_named;
}

joined_plain : (a : OptionsModel) → joined a plain_options ≡ a
joined_plain a = λ i. record {
  workspace = or-false a.workspace i;
  ignored = append-nil a.ignored i;
  targets = append-nil a.targets i;
  exclusions = append-nil a.exclusions i;
  cargo = a.cargo;
  explaining = a.explaining;
  all_named = or-false a.all_named i;
}

-- So far this is asked, and these words are left: they are a command line exactly where all words are.
pub record AreReadTo (all : List Text) (asked : OptionsModel) (left : List Text) : Type 0 where
  pub whole : (o : OptionsModel) → IsCommandLine left o → IsCommandLine all (joined asked o)
  pub back : (o : OptionsModel) → IsCommandLine all o → (p : OptionsModel) × IsCommandLine left p

pub none_read : (all : List Text) (asked : OptionsModel) → asked ≡ plain_options → AreReadTo all asked all
none_read all asked plain = record {
  whole = λ o line. subst (λ a. IsCommandLine all (joined a o)) (sym plain) (subst (IsCommandLine all) (plain_joined o) line);
  back = λ o line. (o, line);
}

-- whether there is no word
abbrev is_none : List Text → Bool
is_none [] = true
is_none (word ∷ words) = false

-- there are words
some_words : (option : Text) (values : List Text) → option ∷ values ≡ [] → ⊥
some_words option values e = false≢true (ap is_none e)

nothing_first : (words rest : List Text) (wish : Wish) → AsksFirst words wish rest → words ≡ [] → ⊥
nothing_first words rest wish workspace e = some_words (codes "--workspace") rest e
nothing_first words rest wish all_named e = some_words (codes "--all-named") rest e
nothing_first words rest wish (valued {option = option} {value = value} asks) e = some_words option (value ∷ rest) e

-- how a command line begins
abbrev pub LineBegins : List Text → OptionsModel → Type 0
LineBegins words o = ((words ≡ []) × (o ≡ plain_options))
    ⊎ ((rest : List Text) × (wish : Wish) × (p : OptionsModel) × AsksFirst words wish rest × IsCommandLine rest p × (o ≡ with_wish wish p))

pub line_begins : (words : List Text) (o : OptionsModel) → IsCommandLine words o → LineBegins words o
line_begins words o no_words = inl (refl, refl)
line_begins words o (one_more {rest = rest} {wish = wish} {o = p} asks line) = inr (rest, wish, p, asks, line, refl)

-- the first word
abbrev first : List Text → Text
first [] = []
first (word ∷ words) = word

rests : (words : List Text) (wish other : Wish) (rest left : List Text) → Begins words wish rest → Begins words other left → rest ≡ left
rests words wish other rest left (inl a) (inl b) = ap (λ l. drop 1 l) (sym a.2 ∙ b.2)
rests words wish other rest left (inl (flag, named, has)) (inr (option, value, asks, is)) = absurd (no_flag option value other wish asks (subst (λ o. IsFlag o wish) (ap first (sym has ∙ is)) named))
rests words wish other rest left (inr (option, value, asks, is)) (inl (flag, named, has)) = absurd (no_flag option value wish other asks (subst (λ o. IsFlag o other) (ap first (sym has ∙ is)) named))
rests words wish other rest left (inr a) (inr b) = ap (λ l. drop 2 l) (sym a.3 ∙ b.3)

-- the words that follow an option are these alone
pub same_rest : (words : List Text) (wish other : Wish) (rest left : List Text) → AsksFirst words wish rest → AsksFirst words other left → rest ≡ left
same_rest words wish other rest left asks also = rests words wish other rest left (begins words wish rest asks) (begins words other left also)

-- what follows the first option of a command line is one
follows : (words : List Text) (o : OptionsModel) (rest : List Text) (wish : Wish) → AsksFirst words wish rest → LineBegins words o → (p : OptionsModel) × IsCommandLine rest p
follows words o rest wish asks (inl none) = absurd (nothing_first words rest wish asks none.0)
follows words o rest wish asks (inr (left, other, p, also, line, is)) = (p, subst (λ l. IsCommandLine l p) (same_rest words other wish left rest also asks) line)

never : (option : Text) (values : List Text) (o : OptionsModel) → BeginsUnknown (option ∷ values) → LineBegins (option ∷ values) o → ⊥
never option values o unknown (inl none) = some_words option values none.0
never option values o unknown (inr (left, wish, p, asks, line, is)) = unknown wish left asks

-- one option is read
pub one_read : (all : List Text) (old new : OptionsModel) (left words rest : List Text) → left ≡ words → AddsFirst words old new rest → AreReadTo all old left → AreReadTo all new rest
one_read all old new left words rest split adds before = record {
  whole = λ o line. subst (λ a. IsCommandLine all a) (sym (ap (λ a. joined a o) adds.added ∙ moves_over old o adds.wish))
      (before.whole (with_wish adds.wish o) (subst (λ l. IsCommandLine l (with_wish adds.wish o)) (sym split) (one_more adds.asks line)));
  back = λ o line. let (p, line_left) = before.back o line in follows words p rest adds.wish adds.asks (line_begins words p (subst (λ l. IsCommandLine l p) split line_left));
}

-- all words are read
pub all_read : (all : List Text) (o : OptionsModel) (left : List Text) → left ≡ [] → AreReadTo all o left → IsCommandLine all o
all_read all o left none are = subst (λ a. IsCommandLine all a) (joined_plain o) (are.whole plain_options (subst (λ l. IsCommandLine l plain_options) (sym none) no_words))

-- words of which some are left that begin with no option aren't a command line
unknown_left : (all : List Text) (o : OptionsModel) (option : Text) (left values : List Text) → left ≡ option ∷ values → BeginsUnknown (option ∷ values) → AreReadTo all o left → IsUnknown all
unknown_left all o option left values split unknown are p line = let (q, line_left) = are.back p line in never option values q unknown (line_begins (option ∷ values) q (subst (λ l. IsCommandLine l q) split line_left))

-- words aren't read where what is left of them isn't, and running out of memory stays that
pub unread_left : (all : List Text) (o : OptionsModel) (option : Text) (left values : List Text) (cause same : OptionsError) → left ≡ option ∷ values
    → IsUnread (BeginsUnknown (option ∷ values)) cause → same ≡ cause → AreReadTo all o left → IsUnread (IsUnknown all) same
unread_left all o option left values errors.Unknown same split unknown e are = subst (IsUnread (IsUnknown all)) (sym e) (unknown_left all o option left values split unknown are)
unread_left all o option left values errors.Memory same split unknown e are = subst (IsUnread (IsUnknown all)) (sym e) tt

-- ---- one reading

-- specifications are read in one way
abbrev pub OneReading : Type 0
OneReading = (t : Text) (a b : Specification) → IsSpec t a.name a.version a.url → IsSpec t b.name b.version b.url → a ≡ b

-- ids are read in one way
abbrev pub OneId : Type 0
OneId = (t : Text) (a b : Identity) → Reads t a → Reads t b → a ≡ b

abbrev kind_or : DepKind → Option DepKind → DepKind
kind_or kind None = kind
kind_or kind (Some other) = other

same_asked : OneReading → OneId → (option value : Text) (a b : Wish) → IsAsked option value a → IsAsked option value b → a ≡ b
same_asked one once option value every_member b p q = absurd p
same_asked one once option value every_namesake b p q = absurd p
same_asked one once option value (without_kind k) every_member p q = absurd q
same_asked one once option value (without_kind k) every_namesake p q = absurd q
same_asked one once option value (without_kind k) (without_kind j) p q = ap (λ x. without_kind (kind_or k x)) (sym p.1 ∙ q.1)
same_asked one once option value (without_kind k) (at_target u) p q = differ option (codes "--ignore-kind") (codes "--target") p.0 q.0 refl refl
same_asked one once option value (without_kind k) (by_program c) p q = differ option (codes "--ignore-kind") (codes "--cargo") p.0 q.0 refl refl
same_asked one once option value (without_kind k) (without_package s) p q = differ option (codes "--ignore-kind") (codes "--exclude") p.0 q.0 refl refl
same_asked one once option value (without_kind k) (explaining i) p q = differ option (codes "--ignore-kind") (codes "--why") p.0 q.0 refl refl
same_asked one once option value (at_target t) every_member p q = absurd q
same_asked one once option value (at_target t) every_namesake p q = absurd q
same_asked one once option value (at_target t) (without_kind k) p q = differ option (codes "--target") (codes "--ignore-kind") p.0 q.0 refl refl
same_asked one once option value (at_target t) (at_target u) p q = ap at_target (sym p.1 ∙ q.1)
same_asked one once option value (at_target t) (without_package s) p q = differ option (codes "--target") (codes "--exclude") p.0 q.0 refl refl
same_asked one once option value (at_target t) (by_program c) p q = differ option (codes "--target") (codes "--cargo") p.0 q.0 refl refl
same_asked one once option value (at_target t) (explaining i) p q = differ option (codes "--target") (codes "--why") p.0 q.0 refl refl
same_asked one once option value (without_package r) every_member p q = absurd q
same_asked one once option value (without_package r) every_namesake p q = absurd q
same_asked one once option value (without_package r) (without_kind k) p q = differ option (codes "--exclude") (codes "--ignore-kind") p.0 q.0 refl refl
same_asked one once option value (without_package r) (at_target u) p q = differ option (codes "--exclude") (codes "--target") p.0 q.0 refl refl
same_asked one once option value (without_package r) (without_package s) p q = ap without_package (one value r s p.1 q.1)
same_asked one once option value (without_package r) (by_program c) p q = differ option (codes "--exclude") (codes "--cargo") p.0 q.0 refl refl
same_asked one once option value (without_package r) (explaining i) p q = differ option (codes "--exclude") (codes "--why") p.0 q.0 refl refl
same_asked one once option value (by_program c) every_member p q = absurd q
same_asked one once option value (by_program c) every_namesake p q = absurd q
same_asked one once option value (by_program c) (without_kind k) p q = differ option (codes "--cargo") (codes "--ignore-kind") p.0 q.0 refl refl
same_asked one once option value (by_program c) (at_target t) p q = differ option (codes "--cargo") (codes "--target") p.0 q.0 refl refl
same_asked one once option value (by_program c) (without_package s) p q = differ option (codes "--cargo") (codes "--exclude") p.0 q.0 refl refl
same_asked one once option value (by_program c) (by_program d) p q = ap by_program (sym p.1 ∙ q.1)
same_asked one once option value (by_program c) (explaining i) p q = differ option (codes "--cargo") (codes "--why") p.0 q.0 refl refl
same_asked one once option value (explaining i) every_member p q = absurd q
same_asked one once option value (explaining i) every_namesake p q = absurd q
same_asked one once option value (explaining i) (without_kind j) p q = differ option (codes "--why") (codes "--ignore-kind") p.0 q.0 refl refl
same_asked one once option value (explaining i) (at_target u) p q = differ option (codes "--why") (codes "--target") p.0 q.0 refl refl
same_asked one once option value (explaining i) (without_package s) p q = differ option (codes "--why") (codes "--exclude") p.0 q.0 refl refl
same_asked one once option value (explaining i) (by_program d) p q = differ option (codes "--why") (codes "--cargo") p.0 q.0 refl refl
same_asked one once option value (explaining i) (explaining j) p q = ap explaining (once value i j p.1 q.1)

wishes : OneReading → OneId → (words : List Text) (a b : Wish) (rest left : List Text) → Begins words a rest → Begins words b left → a ≡ b
wishes one once words a b rest left (inl (flag, named, has)) (inl (other, also, is)) = same_flag flag a b named (subst (λ o. IsFlag o b) (ap first (sym is ∙ has)) also)
wishes one once words a b rest left (inl (flag, named, has)) (inr (option, value, asks, is)) = absurd (no_flag option value b a asks (subst (λ o. IsFlag o a) (ap first (sym has ∙ is)) named))
wishes one once words a b rest left (inr (option, value, asks, is)) (inl (flag, named, has)) = absurd (no_flag option value a b asks (subst (λ o. IsFlag o b) (ap first (sym has ∙ is)) named))
wishes one once words a b rest left (inr (option, value, asks, is)) (inr (other, also, wants, equal)) =
    let same_option : other ≡ option = ap first (sym equal ∙ is) in
    let same_value : also ≡ value = ap (λ l. first (drop 1 l)) (sym equal ∙ is) in
    same_asked one once option value a b (asked option value a asks) (subst (λ v. IsAsked option v b) same_value (subst (λ o. IsAsked o also b) same_option (asked other also b wants)))

same_wish : OneReading → OneId → (words : List Text) (a b : Wish) (rest left : List Text) → AsksFirst words a rest → AsksFirst words b left → a ≡ b
same_wish one once words a b rest left asks also = wishes one once words a b rest left (begins words a rest asks) (begins words b left also)

-- words are read in one way, where specifications are
pub same_line : OneReading → OneId → (words : List Text) (a b : OptionsModel) → IsCommandLine words a → IsCommandLine words b → a ≡ b
same_line one once words a b no_words second = ⊎_elim (λ none. sym none.1) (λ some. absurd (nothing_first [] some.0 some.1 some.3 refl)) (line_begins [] b second)
same_line one once words a b (one_more {rest = rest} {wish = wish} {o = o} asks line) second =
    ⊎_elim (λ none. absurd (nothing_first words rest wish asks none.0))
    (λ some.
    let rest_line = subst (λ l. IsCommandLine l some.2) (same_rest words some.1 wish some.0 rest some.3 asks) some.4 in
    ap (λ w. with_wish w o) (same_wish one once words wish some.1 rest some.0 asks some.3) ∙ ap (λ p. with_wish some.1 p) (same_line one once rest o some.2 line rest_line) ∙ sym some.5)
    (line_begins words b second)
