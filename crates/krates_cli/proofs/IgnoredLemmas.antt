-- The set of ignored kinds after one more kind is ignored.
use Rattle.std.proofs.Common.{◌≡◌, ℕ, ◌↔◌, ◌⊎◌, ◌+◌, ◌<◌, ◌||◌, Bool, true, false, List, [], ◌∷◌, drop, length, get_or, refl, sym, ap, inl, inr, ⊎_elim, ◌∙◌}
use Rattle.std.proofs.Math.Bool.{or-true, or-false}
use Rattle.std.proofs.lemmas.Bool.{false≢true}
use Rattle.std.proofs.lemmas.List.{drop_more}
use Rattle.krates_rules.specs.Kind.{has_kind, HasOneMore, IgnoresMore}
use Rattle.krates_rules.specs.Setting.{SettingModel}
use Rattle.krates_rules.specs.declared.kind.DepKind.{DepKind}
use Rattle.krates_rules.specs.declared.kind.DepKind.TheVariants as kinds
use Rattle.krates_rules.specs.declared.kind.IgnoredKinds.{IgnoredKinds}
use Rattle.krates_rules.specs.declared.kind.KindSet.{KindSet}
use Rattle.krates_rules.specs.declared.kind.Scope.TheVariants.{All}
use Rattle.krates_rules.specs.PlainSetting.{no_kinds, nothing_ignored}
use Rattle.krates_cli.specs.Options.{is_same, set_of}
use Rattle.krates_cli.specs.OptionsReading.{with_kind, with_kinds, with_ignored}

-- two tests that say yes together are the same
same_answer : (a b : Bool) → ((a ≡ true) ↔ (b ≡ true)) → a ≡ b
same_answer true b h = sym (h.0 refl)
same_answer false true h = h.1 refl
same_answer false false h = refl

-- sets with the same kinds are the same
same_set : (a b : KindSet) → ((k : DepKind) → (has_kind a k ≡ true) ↔ (has_kind b k ≡ true)) → a ≡ b
same_set a b h =
    let n = same_answer a.normal b.normal (h kinds.Normal) in
    let u = same_answer a.build b.build (h kinds.Build) in
    let d = same_answer a.dev b.dev (h kinds.Dev) in
    ap (λ x. record a { normal = x }) n ∙ ap (λ x. record b { build = x; dev = a.dev }) u ∙ ap (λ x. record b { dev = x }) d

-- two kinds differ
differ : {A : Type 0} (a b : DepKind) → is_same a b ≡ false → is_same b b ≡ true → a ≡ b → A
differ a b apart same e = absurd (false≢true (sym apart ∙ ap (λ k. is_same k b) e ∙ same))

-- a set with one more kind has that kind and those before
one_more : (set : KindSet) (kind : DepKind) → HasOneMore set (with_kind kind set) kind
one_more set kinds.Normal kinds.Normal = (λ _. inr refl, λ _. refl)
one_more set kinds.Normal kinds.Build = (λ h. inl h, λ h. ⊎_elim (λ had. had) (differ kinds.Build kinds.Normal refl refl) h)
one_more set kinds.Normal kinds.Dev = (λ h. inl h, λ h. ⊎_elim (λ had. had) (differ kinds.Dev kinds.Normal refl refl) h)
one_more set kinds.Build kinds.Normal = (λ h. inl h, λ h. ⊎_elim (λ had. had) (differ kinds.Normal kinds.Build refl refl) h)
one_more set kinds.Build kinds.Build = (λ _. inr refl, λ _. refl)
one_more set kinds.Build kinds.Dev = (λ h. inl h, λ h. ⊎_elim (λ had. had) (differ kinds.Dev kinds.Build refl refl) h)
one_more set kinds.Dev kinds.Normal = (λ h. inl h, λ h. ⊎_elim (λ had. had) (differ kinds.Normal kinds.Dev refl refl) h)
one_more set kinds.Dev kinds.Build = (λ h. inl h, λ h. ⊎_elim (λ had. had) (differ kinds.Build kinds.Dev refl refl) h)
one_more set kinds.Dev kinds.Dev = (λ _. inr refl, λ _. refl)

-- a set with that kind and those before is the set with one more kind
one_more_alone : (old new : KindSet) (kind : DepKind) → ((k : DepKind) → (has_kind new k ≡ true) ↔ ((has_kind old k ≡ true) ⊎ (k ≡ kind))) → new ≡ with_kind kind old
one_more_alone old new kind more =
    same_set new (with_kind kind old) (λ k. (λ has. (one_more old kind k).1 ((more k).0 has), λ has. (more k).1 ((one_more old kind k).0 has)))

-- a kind that is ignored of every crate is in both sets
pub ignores_alone : (old new : IgnoredKinds) (kind : DepKind) → IgnoresMore old new kind All → new ≡ with_ignored (kind ∷ []) old
ignores_alone old new kind more =
    let members = one_more_alone old.of_members new.of_members kind (λ k. (λ has. ⊎_elim (λ had. inl had) (λ is. inr is.0) ((more k true).0 has), λ has. (more k true).1 (⊎_elim (λ had. inl had) (λ is. inr (is, tt)) has))) in
    let others = one_more_alone old.of_others new.of_others kind (λ k. (λ has. ⊎_elim (λ had. inl had) (λ is. inr is.0) ((more k false).0 has), λ has. (more k false).1 (⊎_elim (λ had. inl had) (λ is. inr (is, tt)) has))) in
    λ i. record { of_members = members i; of_others = others i }

-- one step of a loop that ignores kinds: ignoring the rest ends where ignoring all of them does
pub next_ignored : (now new old start : SettingModel) (purposes : List DepKind) (i : ℕ) (kind d : DepKind) → now ≡ new
    → IgnoresMore old.ignored new.ignored kind All → new ≡ record old { ignored = new.ignored } → i < length purposes → kind ≡ get_or purposes i d
    → record old { ignored = with_ignored (drop i purposes) old.ignored } ≡ record start { ignored = with_ignored purposes start.ignored }
    → record now { ignored = with_ignored (drop (i + 1) purposes) now.ignored } ≡ record start { ignored = with_ignored purposes start.ignored }
next_ignored now new old start purposes i kind d same more rest lt is left =
    let after : record now { ignored = with_ignored (drop (i + 1) purposes) now.ignored } ≡ record old { ignored = with_ignored (drop (i + 1) purposes) new.ignored }
    = ap {A = SettingModel} {B = SettingModel} (λ s. record s { ignored = with_ignored (drop (i + 1) purposes) s.ignored }) same ∙ ap {A = SettingModel} {B = SettingModel} (λ s. record s { ignored = with_ignored (drop (i + 1) purposes) new.ignored }) rest in
    let here = ap {A = IgnoredKinds} {B = SettingModel} (λ g. record old { ignored = with_ignored (drop (i + 1) purposes) g }) (ignores_alone old.ignored new.ignored kind more) in
    let split : drop i purposes ≡ kind ∷ drop (i + 1) purposes = drop_more purposes i d lt ∙ ap (λ k. k ∷ drop (i + 1) purposes) (sym is) in
    after ∙ here ∙ ap {A = List DepKind} {B = SettingModel} (λ l. record old { ignored = with_ignored l old.ignored }) (sym split) ∙ left

-- the union of two sets
abbrev both : KindSet → KindSet → KindSet
both a b = record { normal = a.normal || b.normal; build = a.build || b.build; dev = a.dev || b.dev }

-- one more kind may be in either set
one_in_both : (kind : DepKind) (asked : List DepKind) (set : KindSet) → both (set_of asked) (with_kind kind set) ≡ both (set_of (kind ∷ asked)) set
one_in_both kinds.Normal asked set = ap (λ b. record (both (set_of asked) set) { normal = b }) (or-true (set_of asked).normal)
one_in_both kinds.Build asked set = ap (λ b. record (both (set_of asked) set) { build = b }) (or-true (set_of asked).build)
one_in_both kinds.Dev asked set = ap (λ b. record (both (set_of asked) set) { dev = b }) (or-true (set_of asked).dev)

none_in_both : (set : KindSet) → both set no_kinds ≡ set
none_in_both set =
    ap (λ b. record (both set no_kinds) { normal = b }) (or-false set.normal) ∙ ap (λ b. record set { build = b; dev = set.dev || false }) (or-false set.build)
    ∙ ap (λ b. record set { dev = b }) (or-false set.dev)

-- kinds that are set one by one are the set of these kinds and those before
set_one_by_one : (asked : List DepKind) (set : KindSet) → with_kinds asked set ≡ both (set_of asked) set
set_one_by_one [] set = refl
set_one_by_one (kind ∷ asked) set = set_one_by_one asked (with_kind kind set) ∙ one_in_both kind asked set

-- where nothing was ignored before, they are all
pub ignored_alone : (asked : List DepKind) → with_ignored asked nothing_ignored ≡ record { of_members = set_of asked; of_others = set_of asked }
ignored_alone asked =
    let alone : with_kinds asked no_kinds ≡ set_of asked = set_one_by_one asked no_kinds ∙ none_in_both (set_of asked) in ap {A = KindSet} {B = IgnoredKinds} (λ set. record { of_members = set; of_others = set }) alone
