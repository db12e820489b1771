-- What is requested of a crate, by why it is a root.
use Rattle.std.proofs.Common.{◌≡◌, ◌↔◌, IsTrue, [], Option, Some, None, Contains, is_some, inl, inr, refl, sym, subst}
use Rattle.std.proofs.lemmas.Option.{none-some, same_Some}
use Rattle.krates_rules.specs.Facts.{Id}
use Rattle.krates_rules.specs.Resolved.{Resolved}
use Rattle.krates_rules.proofs.PutElements.{none_there}
use Rattle.krates_text.specs.FeatureReference.{Reference}
use Rattle.krates_units.specs.BuildSetting.{BuildSettingModel}
use Rattle.krates_units.specs.Requests.{RootKind, IsBuildRoot, IsBuildRootAs, IsRequested, default, each, taken}
use Rattle.krates_build_tables.specs.RequestsFlags.{TellsRoot, root_kind}
use Rattle.krates_build_tables.specs.Requests.{IsRequestedAs}
use Rattle.krates_build_tables.specs.declared.roots.RootAs.{RootAs}

-- ---- what is requested for a reason of one kind

requested_there : (r : Resolved) (s : BuildSettingModel) (i : Id) (kind : RootKind) (v : Reference) → IsBuildRootAs r s i kind → IsRequestedAs r s i kind v → IsRequested r s i v
requested_there r s i kind v root (inl d) = subst (IsRequested r s i) (sym d.is) (default kind root d.asks d.has)
requested_there r s i kind v root (inr (inl e)) = subst (IsRequested r s i) (sym e.is) (each kind root e.asks.0 e.asks.1 e.has)
requested_there r s i kind v root (inr (inr t)) = taken kind root t.given t.takes

-- ---- and what is requested is for a reason of the one kind

-- as a root of some kind
record RequestedSome (r : Resolved) (s : BuildSettingModel) (i : Id) (v : Reference) : Type 0 where
  kind : RootKind
  root : IsBuildRootAs r s i kind
  requested : IsRequestedAs r s i kind v

requested_some : (r : Resolved) (s : BuildSettingModel) (i : Id) (v : Reference) → IsRequested r s i v → RequestedSome r s i v
requested_some r s i v (default kind root asks has) = record { kind = kind; root = root; requested = inl (record { asks = asks; has = has; is = refl }) }
requested_some r s i v (each {f = f} kind root apart all has) = record { kind = kind; root = root; requested = inr (inl (record { asks = (apart, all); feature = f; has = has; is = refl })) }
requested_some r s i v (taken {v = g} kind root given takes) = record { kind = kind; root = root; requested = inr (inr (record { reference = g; given = given; takes = takes })) }

-- ---- by the answer

pub requested_told : (r : Resolved) (s : BuildSettingModel) (i : Id) (kind : RootAs) → TellsRoot r s i (Some kind) → (v : Reference) → IsRequested r s i v ↔ IsRequestedAs r s i (root_kind kind) v
requested_told r s i kind tells v = (
  λ h.
      let x = requested_some r s i v h in
      let same : x.kind ≡ root_kind kind = sym (same_Some (root_kind kind) x.kind ((tells x.kind).0 x.root)) in
      subst (λ (k : RootKind). IsRequestedAs r s i k v) same x.requested,
  λ h. requested_there r s i (root_kind kind) v ((tells (root_kind kind)).1 refl) h,
)

pub requested_none : (r : Resolved) (s : BuildSettingModel) (i : Id) → TellsRoot r s i None → (v : Reference) → IsRequested r s i v ↔ Contains [] v
requested_none r s i tells v = (
  λ h. let x = requested_some r s i v h in absurd (none-some x.kind ((tells x.kind).0 x.root)),
  λ c. absurd (none_there v c),
)

pub is_root_told : (r : Resolved) (s : BuildSettingModel) (i : Id) (answer : Option RootAs) → TellsRoot r s i answer → IsTrue (is_some answer) ↔ IsBuildRoot r s i
is_root_told r s i None tells = (λ t. absurd cc, λ h. absurd (none-some h.0 ((tells h.0).0 h.1)))
is_root_told r s i (Some kind) tells = (λ t. (root_kind kind, (tells (root_kind kind)).1 refl), λ h. refl)
