-- Texts that targets require, which get numbers one behind the other.
use Rattle.std.proofs.Common.{◌≡◌, ℕ, ◌+◌, ◌<◌, ◌≤◌, List, [], ◌∷◌, ◌++◌, All, Bor, Contains, Some, get_or, length, map, take, append_assoc, refl, sym, ap, ◌∙◌, subst}
use Rattle.std.proofs.lemmas.List.{append-nil, take_all, take_more}
use Rattle.std.proofs.lemmas.List.Concat.{flat_map-append}
use Rattle.std.proofs.lemmas.List.Elements.{All-append, All-cons, All-nil, All-weaker, Contains-append_left}
use Rattle.std.specs.List.{flat_map, slice_get}
use Rattle.krates_cm.specs.Document.{Text}
use Rattle.krates_rules.proofs.Elements.{contains_image, contains_source}
use Rattle.krates_rules.proofs.Members.{contains_of, member_of, member_spread}
use Rattle.krates_rules.proofs.Standings.{contains_at}
use Rattle.krates_build_tables.specs.declared.tables.Tables.{Tables}
use Rattle.krates_build_facts.specs.FactModels.{FactModel, Available}
use Rattle.krates_build_facts.specs.Mattering.{IsRequired}
use Rattle.krates_build_facts.specs.Rows.{requires}
use Rattle.krates_grounding.specs.Grounding.{GroundModel, HaveNumbered, HaveNumbers, required_in, required_texts}

-- ---- numbers

-- what stands at numbers is there
have_each : (all : List FactModel) (ns : List ℕ) (fs : List FactModel) → map (slice_get all) ns ≡ map (λ f. Some f) fs → All (Contains all) fs
have_each all [] [] h = All-nil (Contains all)
have_each all [] (f ∷ fs) h = absurd cc
have_each all (n ∷ ns) [] h = absurd cc
have_each all (n ∷ ns) (f ∷ fs) h =
    let first : slice_get all n ≡ Some f = cc in
    let rest : map (slice_get all) ns ≡ map (λ f. Some f) fs = cc in
    All-cons (Contains all) f fs (contains_at all n f first) (have_each all ns fs rest)

pub numbers_had : (a b : GroundModel) (fs : List FactModel) (ns : List ℕ) → HaveNumbered a b fs ns → HaveNumbers a b fs
numbers_had a b fs ns h = record { rules_are = h.rules_are; more = h.more; facts_are = h.facts_are; each = have_each b.facts ns fs h.at }

pub nothing_numbered : (g : GroundModel) → HaveNumbers g g []
nothing_numbered g = record { rules_are = refl; more = []; facts_are = sym (append-nil g.facts); each = All-nil (Contains g.facts) }

-- facts with numbers keep them
pub still_numbered : (all more now fs : List FactModel) → now ≡ all ++ more → All (Contains all) fs → All (Contains now) fs
still_numbered all more now fs is h =
    subst (λ (xs : List FactModel). All (Contains xs) fs) (sym is) (All-weaker (Contains all) (Contains (all ++ more)) (λ f c. Contains-append_left all more f c) fs h)

numbered_behind : (a b c : GroundModel) (xs ys : List FactModel) → HaveNumbers a b xs → HaveNumbers b c ys → HaveNumbers a c (xs ++ ys)
numbered_behind a b c xs ys one other = record {
  rules_are = other.rules_are ∙ one.rules_are;
  more = one.more ++ other.more;
  facts_are = other.facts_are ∙ ap (λ (fs : List FactModel). fs ++ other.more) one.facts_are ∙ append_assoc a.facts one.more other.more;
  each = All-append (Contains c.facts) xs ys (still_numbered b.facts other.more c.facts xs other.facts_are one.each) other.each;
}

-- ---- loops

-- those of one more element have numbers
pub numbered_each : {X : Type 0} (f : X → List FactModel) (xs : List X) (i : ℕ) (x : X) (a b c : GroundModel) → i < length xs → x ≡ get_or xs i x → HaveNumbers a b (flat_map f (take i xs)) → HaveNumbers b c (f x)
    → HaveNumbers a c (flat_map f (take (i + 1) xs))
numbered_each {X} f xs i x a b c lt is h one =
    let more : take (i + 1) xs ≡ take i xs ++ x ∷ [] = take_more xs i x lt ∙ ap (λ (y : X). take i xs ++ y ∷ []) (sym is) in
    let grown : flat_map f (take (i + 1) xs) ≡ flat_map f (take i xs) ++ f x = ap (flat_map f) more ∙ flat_map-append f (take i xs) (x ∷ []) ∙ ap (λ (fs : List FactModel). flat_map f (take i xs) ++ fs) (append-nil (f x)) in
    subst (HaveNumbers a c) (sym grown) (numbered_behind a b c (flat_map f (take i xs)) (f x) h one)

pub numbered_all : {X : Type 0} (f : X → List FactModel) (xs : List X) (i : ℕ) (a b : GroundModel) → length xs ≤ i → HaveNumbers a b (flat_map f (take i xs)) → HaveNumbers a b (flat_map f xs)
numbered_all f xs i a b le h = subst (λ ys. HaveNumbers a b (flat_map f ys)) (take_all i xs le) h

-- ---- what is required

-- a fact of an element is among those of all
in_each : {X : Type 0} (f : X → List FactModel) (xs : List X) (x : X) (fact : FactModel) → Contains xs x → Contains (f x) fact → Contains (flat_map f xs) fact
in_each f xs x fact at c = contains_of (flat_map f xs) fact (member_spread f xs x fact (member_of xs x at) (member_of (f x) fact c))

-- what says that a text is available which a target requires is among them
pub required_among : (t : Tables) (c : ℕ) (text : Text) → IsRequired t c text → Contains (required_texts t) (Available c text)
required_among t c text w =
    let x = w.target in
    let at = contains_source (λ (name : Bor Text). name.now) x.required.items text w.requires in
    let is : Available x.place.krate at.0.now ≡ Available c text = cc in
    let there : Contains (requires x) (Available x.place.krate at.0.now) = contains_image (λ name. Available x.place.krate name.now) x.required.items at.0 at.1 in
    in_each required_in t.crates.items w.entry (Available c text) w.has_entry
    (in_each requires w.entry.targets.items x (Available c text) w.has_target (subst (Contains (requires x)) is there))
