-- What a root gives, and that it was found.
use Rattle.std.proofs.Common.{◌≡◌, ℕ, List, [], ◌∷◌, ◌++◌, Bool, All, Contains, length, inl, inr, sym, ap, ◌∙◌, subst}
use Rattle.std.proofs.lemmas.List.Elements.{Contains-push_cases}
use Rattle.std.proofs.lemmas.Option.{get_or_from_slice_get, slice_get_within}
use Rattle.std.specs.List.{AllZip}
use Rattle.krates_cm.specs.Document.{Text}
use Rattle.krates_graph.specs.Agenda.{PutNumbers}
use Rattle.krates_ids.specs.Identity.{Identity, Reads}
use Rattle.krates_rules.specs.Derivation.{Derivable, follows, Among}
use Rattle.krates_rules.specs.Facts.{Id, Fact, LostPackage, LostNode, Crate, Feature, Lost}
use Rattle.krates_search.specs.SearchState.{HasFound, HasRoots, Grows, HasRooted}
use Rattle.krates_rules.specs.Resolved.{id_of, NoPackage}
use Rattle.krates_rules.specs.Questions.{Stands, LacksNode, questions}
use Rattle.krates_questions.specs.Context.{document_of, rules_of, Derives, Lists, HasRoot, AsksForRoots, IsNodeAt}
use Rattle.krates_questions.specs.declared.context.Context.{Context}
use Rattle.krates_rules.specs.Rules.{Questions, root_feature, lost_root_package, lost_root_node}
use Rattle.krates_search.specs.declared.search_state.SearchState.{SearchState}
use Rattle.krates_rules.proofs.PutElements.{none_there}
use Rattle.krates_rules.proofs.Readings.{ReadsOnce, right_of}
use Rattle.krates_rules.proofs.OnlyOne.{place_in}
use Rattle.krates_questions.specs.Availability.{IsExcludedOnly}
use Rattle.krates_questions.proofs.Lookups.{one_id}
use Rattle.krates_questions.proofs.RootLemmas.{root_member}
use Rattle.krates_search.proofs.Growing.{rooted_grows}
use Rattle.krates_resolve.specs.Saturation.{HasRootedEach}

pub members_rooted : ReadsOnce → (b : Context) (x : SearchState) (all : Bool) (members : List Identity) → AsksForRoots b all → AllZip Reads (document_of b).metadata.workspace_members members
    → All (λ m. HasRoot b (id_of m) → HasRooted b x (id_of m)) members → HasRoots b x
members_rooted once b x all members asks z rooted i is =
    let m = root_member (document_of b) b.setting.now all i asks is in
    let at = place_in (document_of b).metadata.workspace_members m.text m.among in
    let y = right_of Reads (document_of b).metadata.workspace_members members at.0 m.text z at.1 in
    let same = ap id_of (get_or_from_slice_get members at.0 y.0 y.0 y.1) ∙ ap id_of (once m.text y.0 m.id.read y.2 m.id.reads) ∙ m.id.same in
    subst (λ (j : Id). HasRoot b j → HasRooted b x j) same (rooted at.0 y.0 (slice_get_within members at.0 y.0 y.1)) is

nothing : (q : Questions) (f : Fact) → Among f [] → Derivable q f
nothing q f m = absurd m

pub root_package_lost : (b : Context) (i : Id) → HasRoot b i → NoPackage (document_of b) i → Derives b (Lost (LostPackage i))
unfolding questions
root_package_lost b i root none = follows (lost_root_package {p = i} root none) (nothing (rules_of b))

pub root_node_lost : (b : Context) (i : Id) → HasRoot b i → LacksNode (document_of b) b.setting.now i → Derives b (Lost (LostNode i))
unfolding questions
root_node_lost b i root none = follows (lost_root_node {p = i} root none) (nothing (rules_of b))

pub root_enables : (b : Context) (i : Id) → HasRoot b i → Stands (document_of b) b.setting.now i → (f : Text) → Lists b i f → Derives b (Feature i f)
unfolding questions
root_enables b i root stands f lists = follows (root_feature {p = i} {f = f} root stands lists) (nothing (rules_of b))

-- all that a root gives whose crate stands
pub rooted_here : (b : Context) (x : SearchState) (i : Id) → Stands (document_of b) b.setting.now i → HasFound b x (Crate i) → ((f : Text) → Lists b i f → HasFound b x (Feature i f)) → HasRooted b x i
rooted_here b x i stands found enabled = record {
  kept = λ there. found;
  enabled = λ there f lists. enabled f lists;
  has_package = λ none. none stands.included.pkg stands.included.has_package;
  has_node = λ none. none.no_node stands.node stands.has_node;
}

-- an excluded root gives nothing
pub left_out_rooted : (b : Context) (x : SearchState) (i : Id) → IsExcludedOnly (document_of b) b.setting.now i → HasRooted b x i
left_out_rooted b x i h = record {
  kept = λ there. absurd (h.excluded there.included);
  enabled = λ there f lists. absurd (h.excluded there.included);
  has_package = λ lost. lost h.left_out.pkg h.left_out.has_package;
  has_node = λ lost. h.excluded lost.included;
}

-- ---- roots that were put

-- none was put yet
pub none_rooted : (b : Context) (x : SearchState) (places : PutNumbers) (size : ℕ) → places ≡ record { size = size; put = []; taken = 0 } → size ≡ length (document_of b).graph.nodes → HasRootedEach b x places
none_rooted b x places size is long = record {
  size = ap (λ (a : PutNumbers). a.size) is ∙ long;
  each = λ place krate among node. absurd (none_there place (subst (λ (a : PutNumbers). Contains a.put place) is among));
}

-- what was put stays
pub each_grows : (b : Context) (x y : SearchState) (places : PutNumbers) → Grows b x y → HasRootedEach b x places → HasRootedEach b y places
each_grows b x y places g h = record { size = h.size; each = λ place krate among node. rooted_grows b x y krate g.found (h.each place krate among node) }

-- no more was put
pub each_stays : (b : Context) (x : SearchState) (old new : PutNumbers) → new ≡ old → HasRootedEach b x old → HasRootedEach b x new
each_stays b x old new same h = subst (HasRootedEach b x) (sym same) h

-- a root was put, and all that it gives
pub each_put : ReadsOnce → (b : Context) (x : SearchState) (old new : PutNumbers) (place : ℕ) (krate : Id) → new ≡ record old { put = old.put ++ place ∷ [] } → IsNodeAt b krate place → HasRooted b x krate → HasRootedEach b x old → HasRootedEach b x new
each_put once b x old new place krate is node rooted h = record {
  size = ap (λ (a : PutNumbers). a.size) is ∙ h.size;
  each = λ p other among there. elim (Contains-push_cases old.put place p (subst (λ (a : PutNumbers). Contains a.put p) is among)) [
    | inl before ↦ h.each p other before there
    | inr same ↦ (
        let here = subst (IsNodeAt b other) (sym same) there in
        subst (HasRooted b x) (one_id once (document_of b) krate other place node here) rooted)
  ];
}
