-- What was found stays found, and what holds of it continues to hold.
use Rattle.std.proofs.Common.{ℕ, refl, ◌∙◌, inl, inr}
use Rattle.krates_cm.specs.Document.{Text, DependencyModel}
use Rattle.krates_text.specs.FeatureReference.{Reference, krate, weak, strong, simple}
use Rattle.krates_search.specs.Links.{Waits}
use Rattle.krates_rules.specs.Facts.{Fact, Id, Edge, Crate, Feature, Kept, Toggled}
use Rattle.krates_search.specs.SearchState.{HasFollowed, IsAny, HasEnabled, IsSound, Advances, HasEnabledFor, HasToggled, HasTried, HasRooted, HasFound, WaitsOrIsToggled}
use Rattle.krates_rules.specs.Rules.{default_name}
use Rattle.krates_search.specs.declared.search_state.SearchState.{SearchState}
use Rattle.krates_questions.specs.declared.context.Context.{Context}
use Rattle.krates_questions.specs.Context.{IsDepAt}

-- what was found stays found, and what waits still waits or has been toggled
abbrev pub StaysFound : Context → SearchState → SearchState → Type 0
StaysFound b x y = (f : Fact) → HasFound b x f → HasFound b y f

abbrev pub StillWaits : Context → SearchState → SearchState → Type 0
StillWaits b x y = (p child : Id) (place index : ℕ) (g : Text) → IsDepAt b p child place index → Waits x.links place index g → WaitsOrIsToggled b y p child place index g

pub named_grows : (b : Context) (x y : SearchState) (i : Id) (f : Text) → StaysFound b x y → HasEnabled b x i f → HasEnabled b y i f
named_grows b x y i f found h = record { enabled = λ lists. found (Feature i f) (h.enabled lists); listed = h.listed }

pub toggled_grows : (b : Context) (x y : SearchState) (p c : Id) (f : Text) → StaysFound b x y → HasToggled b x p c f → HasToggled b y p c f
toggled_grows b x y p c f found h = record { toggled = λ lists. found (Toggled p c f) (h.toggled lists); listed = h.listed }

pub used_grows : (b : Context) (x y : SearchState) (d : DependencyModel) (c : Id) → StaysFound b x y → HasEnabledFor b x d c → HasEnabledFor b y d c
used_grows b x y d c found h = record { declared = λ f among. named_grows b x y c f found (h.declared f among); by_default = λ uses lists. found (Feature c default_name) (h.by_default uses lists) }

pub tried_grows : (b : Context) (x y : SearchState) (e : Edge) (taken : DependencyModel → Type 0) → StaysFound b x y → HasTried b x e taken → HasTried b y e taken
tried_grows b x y e taken found t = record { kept = λ d w o st. found (Kept e) (t.kept d w o st); has_package = t.has_package; has_node = t.has_node; declared = t.declared }

pub rooted_grows : (b : Context) (x y : SearchState) (i : Id) → StaysFound b x y → HasRooted b x i → HasRooted b y i
rooted_grows b x y i found t = record { kept = λ st. found (Crate i) (t.kept st); enabled = λ st f lists. found (Feature i f) (t.enabled st f lists); has_package = t.has_package; has_node = t.has_node }

pub waiting_grows : (b : Context) (x y : SearchState) (p child : Id) (place index : ℕ) (f : Text) → StaysFound b x y → StillWaits b x y → IsDepAt b p child place index → WaitsOrIsToggled b x p child place index f → WaitsOrIsToggled b y p child place index f
waiting_grows b x y p child place index f found waits dep (inl still) = waits p child place index f dep still
waiting_grows b x y p child place index f found waits dep (inr is) = inr (toggled_grows b x y p child f found is)

pub followed_grows : (b : Context) (x y : SearchState) (p : Id) (reference : Reference) → StaysFound b x y → StillWaits b x y → HasFollowed b x p reference → HasFollowed b y p reference
followed_grows b x y p (simple f) found waits h = named_grows b x y p f found h
followed_grows b x y p (krate name) found waits h = λ e same referent. tried_grows b x y e IsAny found (h e same referent)
followed_grows b x y p (strong name f) found waits h = (
  λ e same referent. tried_grows b x y e IsAny found (h.0 e same referent),
  λ e d same referent w st. toggled_grows b x y p e.child f found (h.1 e d same referent w st),
)
followed_grows b x y p (weak name f) found waits h = λ child place index referent dep. waiting_grows b x y p child place index f found waits dep (h child place index referent dep)

-- ---- from one state to the next

pub advances_refl : (b : Context) (x : SearchState) → IsSound b x → Advances b x x
advances_refl b x sound = record {
  sound = sound;
  grows = record { found = λ f h. h; steps = λ n f h. h; waits = λ p c k i g at h. inl h; krates = λ k n h. h; features = λ k n h. h; krates_taken = refl; features_taken = refl };
}

pub advances_trans : (b : Context) (x y z : SearchState) → Advances b x y → Advances b y z → Advances b x z
advances_trans b x y z first next =
    let g = first.grows in
    let h = next.grows in
    record {
      sound = next.sound;
      grows = record {
        found = λ f a. h.found f (g.found f a);
        steps = λ n f a. h.steps n f (g.steps n f a);
        waits = λ p c k i t at a. waiting_grows b y z p c k i t h.found h.waits at (g.waits p c k i t at a);
        krates = λ k n a. h.krates k n (g.krates k n a);
        features = λ k n a. h.features k n (g.features k n a);
        krates_taken = h.krates_taken ∙ g.krates_taken;
        features_taken = h.features_taken ∙ g.features_taken;
      };
    }
