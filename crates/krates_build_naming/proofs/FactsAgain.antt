-- A fact that some words name is named by the words that are written for it.
use Rattle.std.proofs.Common.{◌≡◌, ◌↔◌, ◌+◌, ℕ, List, [], ◌∷◌, ◌++◌, Bool, true, false, Option, Some, None, IsTrue, bytes_eq, codes, length, nat_lt, option_and_then, slice_get, refl, sym, ap, ◌∙◌, subst}
use Rattle.std.proofs.lemmas.Option.{same_Some}
use Rattle.krates_cm.specs.Document.{Text}
use Rattle.krates_text.specs.FeatureReference.{Reference}
use Rattle.krates_build_facts.specs.FactModels.{FactModel, Met, LinkedReference, LinkedFeature, LinkedName, Linked, Lost, Activated, ActivatedReference, ActivatedFeature, ActivatedName, Used, Available, Compiled, Needed, ScriptRun, ScriptCompiled, RunNeeded}
use Rattle.krates_build_facts.specs.declared.facts.PlacementNumber.{PlacementNumber}
use Rattle.krates_build_facts.specs.declared.facts.PlatformNumber.{PlatformNumber}
use Rattle.krates_build_facts.specs.declared.facts.UnitPlace.{UnitPlace}
use Rattle.krates_build_tables.specs.declared.tables.LinkPlace.{LinkPlace}
use Rattle.krates_units.specs.declared.sides.Meeting.{Meeting}
use Rattle.krates_units.specs.declared.sides.Side.{Side}
use Rattle.krates_build_naming.proofs.NamingsRead.{and_then_named, one_named, three_named, two_named}
use Rattle.krates_build_naming.proofs.PartsAgain.{LackingRead, LinkRead, PlatformRead, UnitRead, crate_read, lacking_again, lacking_read, link_again, link_read, meeting_again, placement_again, placement_read, platform_read, reference_again, side_again, unit_again, unit_read}
use Rattle.krates_build_naming.specs.FactWords.{IsNameless, Name, fact_words, lacking_listed, link_listed, placement_listed, reference_listed, unit_listed}
use Rattle.krates_build_naming.specs.NamedFacts.{met, linked_reference, linked_feature, linked_name, linked, lost, activated, activated_reference, activated_feature, activated_name, used, available, compiled, needed, script_run, script_compiled, run_needed, building_of, activating_of, linking_of, ended, fact_of, fact_read, word_count}
use Rattle.krates_build_naming.specs.NamedParts.{word_at, crate_at, meeting_at, side_at, platform_at, reference_words, reference_at, link_at, lacking_at, placement_at, unit_at}
use Rattle.krates_build_naming.specs.NamedPlaces.{crate_named}
use Rattle.krates_build_naming.specs.Naming.{Naming, by_word, choose, name_of, refused}
use Rattle.krates_build_naming.specs.PartTexts.{meeting_text, side_text}
use Rattle.krates_build_naming.specs.WrittenParts.{crate_text, platform_text, reference_texts}
use Rattle.krates_build_naming.specs.declared.names.FactNames.{FactNames}
use Rattle.krates_build_naming.specs.declared.names.NameFault.{NameFault}
use Rattle.krates_build_naming.specs.declared.names.NameFault.TheVariants as faults

-- ---- the words that are written name the fact, where those for its parts do

abbrev CrateRead : FactNames → ℕ → Type 0
CrateRead n c = crate_named n (crate_text n c) ≡ Some c

abbrev Again : FactNames → FactModel → Type 0
Again n f = (fact_read n (fact_words n f)).value ≡ Some f

met_is : (n : FactNames) (c : ℕ) (m : Meeting) → CrateRead n c → Again n (Met c m)
unfolding fact_read linking_of met crate_at meeting_at
met_is n c m krate = rw (krate, meeting_again m) refl

linked_feature_is : (n : FactNames) (c : ℕ) (m : Meeting) (f : Text) → CrateRead n c → Again n (LinkedFeature c m f)
unfolding fact_read linking_of linked_feature crate_at meeting_at word_at
linked_feature_is n c m f krate = rw (krate, meeting_again m) refl

linked_name_is : (n : FactNames) (c : ℕ) (m : Meeting) (d : Text) → CrateRead n c → Again n (LinkedName c m d)
unfolding fact_read linking_of linked_name crate_at meeting_at word_at
linked_name_is n c m d krate = rw (krate, meeting_again m) refl

linked_reference_is : (n : FactNames) (c : ℕ) (m : Meeting) (v : Reference) → CrateRead n c → Again n (LinkedReference c m v)
unfolding fact_read linking_of linked_reference crate_at meeting_at reference_at word_at
linked_reference_is n c m v krate = rw (krate, meeting_again m, reference_again v) refl

linked_is : (n : FactNames) (place : LinkPlace) → LinkRead n place → Again n (Linked place)
unfolding fact_read linking_of linked
linked_is n place read = rw (link_again n place (codes "linked") [] read) refl

lost_is : (n : FactNames) (c index : ℕ) → LackingRead n c index → Again n (Lost c index)
unfolding fact_read linking_of lost
lost_is n c index read = rw (lacking_again n c index (codes "lost") read) refl

activated_is : (n : FactNames) (c : ℕ) (side : Side) → CrateRead n c → Again n (Activated c side)
unfolding fact_read linking_of activating_of activated crate_at side_at
activated_is n c side krate = rw (krate, side_again side) refl

activated_feature_is : (n : FactNames) (c : ℕ) (side : Side) (f : Text) → CrateRead n c → Again n (ActivatedFeature c side f)
unfolding fact_read linking_of activating_of activated_feature crate_at side_at word_at
activated_feature_is n c side f krate = rw (krate, side_again side) refl

activated_name_is : (n : FactNames) (c : ℕ) (side : Side) (d : Text) → CrateRead n c → Again n (ActivatedName c side d)
unfolding fact_read linking_of activating_of activated_name crate_at side_at word_at
activated_name_is n c side d krate = rw (krate, side_again side) refl

activated_reference_is : (n : FactNames) (c : ℕ) (side : Side) (v : Reference) → CrateRead n c → Again n (ActivatedReference c side v)
unfolding fact_read linking_of activating_of activated_reference crate_at side_at reference_at word_at
activated_reference_is n c side v krate = rw (krate, side_again side, reference_again v) refl

used_is : (n : FactNames) (place : LinkPlace) (side : Side) → LinkRead n place → Again n (Used place side)
unfolding fact_read linking_of activating_of used side_at
used_is n place side read = rw (link_again n place (codes "used") (side_text side ∷ []) read, side_again side) refl

available_is : (n : FactNames) (c : ℕ) (text : Text) → CrateRead n c → Again n (Available c text)
unfolding fact_read linking_of activating_of available crate_at word_at
available_is n c text krate = rw krate refl

compiled_is : (n : FactNames) (u : UnitPlace) → UnitRead n u → Again n (Compiled u)
unfolding fact_read linking_of activating_of building_of compiled
compiled_is n u read = rw (unit_again n 1 (codes "compiled" ∷ unit_listed n u) u record { krate = refl; kind = refl; name = refl; mode = refl; platform = refl; side = refl } read) refl

needed_is : (n : FactNames) (place : LinkPlace) (from : PlatformNumber) (u : UnitPlace) → LinkRead n place → PlatformRead n from → UnitRead n u → Again n (Needed place from u)
unfolding fact_read linking_of activating_of building_of needed platform_at
needed_is n place from u link platform read =
    let ws = codes "needed" ∷ link_listed n place ++ platform_text n from ∷ unit_listed n u in
    rw (
      link_again n place (codes "needed") (platform_text n from ∷ unit_listed n u) link,
      platform,
      unit_again n 7 ws u record { krate = refl; kind = refl; name = refl; mode = refl; platform = refl; side = refl } read,
    ) refl

script_run_is : (n : FactNames) (c : ℕ) (at : PlacementNumber) → CrateRead n c → PlatformRead n at.platform → Again n (ScriptRun c at)
unfolding fact_read linking_of activating_of building_of script_run crate_at
script_run_is n c at krate platform = rw (krate, placement_again n 2 (codes "script run" ∷ crate_text n c ∷ placement_listed n at) at refl refl platform) refl

script_compiled_is : (n : FactNames) (c : ℕ) (side : Side) → CrateRead n c → Again n (ScriptCompiled c side)
unfolding fact_read linking_of activating_of building_of script_compiled crate_at side_at
script_compiled_is n c side krate = rw (krate, side_again side) refl

run_needed_is : (n : FactNames) (place : LinkPlace) (from run : PlacementNumber) → LinkRead n place → PlatformRead n from.platform → PlatformRead n run.platform → Again n (RunNeeded place from run)
unfolding fact_read linking_of activating_of building_of run_needed
run_needed_is n place from run link first second =
    let ws = codes "run needed" ∷ link_listed n place ++ placement_listed n from ++ placement_listed n run in
    rw (link_again n place (codes "run needed") (placement_listed n from ++ placement_listed n run) link, placement_again n 6 ws from refl refl first, placement_again n 8 ws run refl refl second) refl

-- ---- what some words name

-- each fact that is named so is named by the words that are written for it
abbrev IsKept : FactNames → Naming FactModel → Type 0
IsKept n naming = (f : FactModel) → naming.value ≡ Some f → Again n f

met_kept : (n : FactNames) (ws : List Text) → IsKept n (met n ws)
unfolding met
met_kept n ws f h =
    let w = two_named Met (crate_at n 1 ws).value (meeting_at 2 ws).value f h in
    subst (Again n) w.4 (met_is n w.0 w.1 (crate_read n 1 ws w.0 w.2))

linked_reference_kept : (n : FactNames) (ws : List Text) → IsKept n (linked_reference n ws)
unfolding linked_reference
linked_reference_kept n ws f h =
    let w = three_named LinkedReference (crate_at n 1 ws).value (meeting_at 2 ws).value (reference_at 3 ws).value f h in
    subst (Again n) w.6 (linked_reference_is n w.0 w.1 w.2 (crate_read n 1 ws w.0 w.3))

linked_feature_kept : (n : FactNames) (ws : List Text) → IsKept n (linked_feature n ws)
unfolding linked_feature
linked_feature_kept n ws f h =
    let w = three_named LinkedFeature (crate_at n 1 ws).value (meeting_at 2 ws).value (word_at 3 ws).value f h in
    subst (Again n) w.6 (linked_feature_is n w.0 w.1 w.2 (crate_read n 1 ws w.0 w.3))

linked_name_kept : (n : FactNames) (ws : List Text) → IsKept n (linked_name n ws)
unfolding linked_name
linked_name_kept n ws f h =
    let w = three_named LinkedName (crate_at n 1 ws).value (meeting_at 2 ws).value (word_at 3 ws).value f h in
    subst (Again n) w.6 (linked_name_is n w.0 w.1 w.2 (crate_read n 1 ws w.0 w.3))

linked_kept : (n : FactNames) (ws : List Text) → IsKept n (linked n ws)
unfolding linked
linked_kept n ws f h =
    let w = one_named Linked (link_at n 1 ws).value f h in
    subst (Again n) w.2 (linked_is n w.0 (link_read n 1 ws w.0 w.1))

lost_kept : (n : FactNames) (ws : List Text) → IsKept n (lost n ws)
unfolding lost
lost_kept n ws f h =
    let w = one_named (λ (place : ℕ × ℕ). Lost place.0 place.1) (lacking_at n 1 ws).value f h in
    subst (Again n) w.2 (lost_is n w.0.0 w.0.1 (lacking_read n 1 ws w.0 w.1))

activated_kept : (n : FactNames) (ws : List Text) → IsKept n (activated n ws)
unfolding activated
activated_kept n ws f h =
    let w = two_named Activated (crate_at n 1 ws).value (side_at 2 ws).value f h in
    subst (Again n) w.4 (activated_is n w.0 w.1 (crate_read n 1 ws w.0 w.2))

activated_reference_kept : (n : FactNames) (ws : List Text) → IsKept n (activated_reference n ws)
unfolding activated_reference
activated_reference_kept n ws f h =
    let w = three_named ActivatedReference (crate_at n 1 ws).value (side_at 2 ws).value (reference_at 3 ws).value f h in
    subst (Again n) w.6 (activated_reference_is n w.0 w.1 w.2 (crate_read n 1 ws w.0 w.3))

activated_feature_kept : (n : FactNames) (ws : List Text) → IsKept n (activated_feature n ws)
unfolding activated_feature
activated_feature_kept n ws f h =
    let w = three_named ActivatedFeature (crate_at n 1 ws).value (side_at 2 ws).value (word_at 3 ws).value f h in
    subst (Again n) w.6 (activated_feature_is n w.0 w.1 w.2 (crate_read n 1 ws w.0 w.3))

activated_name_kept : (n : FactNames) (ws : List Text) → IsKept n (activated_name n ws)
unfolding activated_name
activated_name_kept n ws f h =
    let w = three_named ActivatedName (crate_at n 1 ws).value (side_at 2 ws).value (word_at 3 ws).value f h in
    subst (Again n) w.6 (activated_name_is n w.0 w.1 w.2 (crate_read n 1 ws w.0 w.3))

used_kept : (n : FactNames) (ws : List Text) → IsKept n (used n ws)
unfolding used
used_kept n ws f h =
    let w = two_named Used (link_at n 1 ws).value (side_at 6 ws).value f h in
    subst (Again n) w.4 (used_is n w.0 w.1 (link_read n 1 ws w.0 w.2))

available_kept : (n : FactNames) (ws : List Text) → IsKept n (available n ws)
unfolding available
available_kept n ws f h =
    let w = two_named Available (crate_at n 1 ws).value (word_at 2 ws).value f h in
    subst (Again n) w.4 (available_is n w.0 w.1 (crate_read n 1 ws w.0 w.2))

compiled_kept : (n : FactNames) (ws : List Text) → IsKept n (compiled n ws)
unfolding compiled
compiled_kept n ws f h =
    let w = one_named Compiled (unit_at n 1 ws).value f h in
    subst (Again n) w.2 (compiled_is n w.0 (unit_read n 1 ws w.0 w.1))

needed_kept : (n : FactNames) (ws : List Text) → IsKept n (needed n ws)
unfolding needed
needed_kept n ws f h =
    let w = three_named Needed (link_at n 1 ws).value (platform_at n 6 ws).value (unit_at n 7 ws).value f h in
    subst (Again n) w.6 (needed_is n w.0 w.1 w.2 (link_read n 1 ws w.0 w.3) (platform_read n 6 ws w.1 w.4) (unit_read n 7 ws w.2 w.5))

script_run_kept : (n : FactNames) (ws : List Text) → IsKept n (script_run n ws)
unfolding script_run
script_run_kept n ws f h =
    let w = two_named ScriptRun (crate_at n 1 ws).value (placement_at n 2 ws).value f h in
    subst (Again n) w.4 (script_run_is n w.0 w.1 (crate_read n 1 ws w.0 w.2) (placement_read n 2 ws w.1 w.3))

script_compiled_kept : (n : FactNames) (ws : List Text) → IsKept n (script_compiled n ws)
unfolding script_compiled
script_compiled_kept n ws f h =
    let w = two_named ScriptCompiled (crate_at n 1 ws).value (side_at 2 ws).value f h in
    subst (Again n) w.4 (script_compiled_is n w.0 w.1 (crate_read n 1 ws w.0 w.2))

run_needed_kept : (n : FactNames) (ws : List Text) → IsKept n (run_needed n ws)
unfolding run_needed
run_needed_kept n ws f h =
    let w = three_named RunNeeded (link_at n 1 ws).value (placement_at n 6 ws).value (placement_at n 8 ws).value f h in
    subst (Again n) w.6 (run_needed_is n w.0 w.1 w.2 (link_read n 1 ws w.0 w.3) (placement_read n 6 ws w.1 w.4) (placement_read n 8 ws w.2 w.5))

-- ---- by the form

refused_kept : (n : FactNames) (wrong : NameFault) → IsKept n (refused wrong)
refused_kept n wrong f h = absurd cc

choose_kept : (n : FactNames) (b : Bool) (x y : Naming FactModel) → IsKept n x → IsKept n y → IsKept n (choose b x y)
choose_kept n true x y xs ys = xs
choose_kept n false x y xs ys = ys

building_kept : (form : Text) (n : FactNames) (ws : List Text) → IsKept n (building_of form n ws)
unfolding building_of
building_kept form n ws =
    choose_kept n (bytes_eq form (codes "compiled")) (compiled n ws) _ (compiled_kept n ws)
    (choose_kept n (bytes_eq form (codes "needed")) (needed n ws) _ (needed_kept n ws)
    (choose_kept n (bytes_eq form (codes "script run")) (script_run n ws) _ (script_run_kept n ws)
    (choose_kept n (bytes_eq form (codes "script compiled")) (script_compiled n ws) _ (script_compiled_kept n ws)
    (choose_kept n (bytes_eq form (codes "run needed")) (run_needed n ws) _ (run_needed_kept n ws)
    (refused_kept n (faults.Form 0))))))

activating_kept : (form : Text) (n : FactNames) (ws : List Text) → IsKept n (activating_of form n ws)
unfolding activating_of
activating_kept form n ws =
    choose_kept n (bytes_eq form (codes "activated")) (activated n ws) _ (activated_kept n ws)
    (choose_kept n (bytes_eq form (codes "activated reference")) (activated_reference n ws) _ (activated_reference_kept n ws)
    (choose_kept n (bytes_eq form (codes "activated feature")) (activated_feature n ws) _ (activated_feature_kept n ws)
    (choose_kept n (bytes_eq form (codes "activated name")) (activated_name n ws) _ (activated_name_kept n ws)
    (choose_kept n (bytes_eq form (codes "used")) (used n ws) _ (used_kept n ws)
    (choose_kept n (bytes_eq form (codes "available")) (available n ws) _ (available_kept n ws)
    (building_kept form n ws))))))

linking_kept : (form : Text) (n : FactNames) (ws : List Text) → IsKept n (linking_of form n ws)
unfolding linking_of
linking_kept form n ws =
    choose_kept n (bytes_eq form (codes "met")) (met n ws) _ (met_kept n ws)
    (choose_kept n (bytes_eq form (codes "linked reference")) (linked_reference n ws) _ (linked_reference_kept n ws)
    (choose_kept n (bytes_eq form (codes "linked feature")) (linked_feature n ws) _ (linked_feature_kept n ws)
    (choose_kept n (bytes_eq form (codes "linked name")) (linked_name n ws) _ (linked_name_kept n ws)
    (choose_kept n (bytes_eq form (codes "linked")) (linked n ws) _ (linked_kept n ws)
    (choose_kept n (bytes_eq form (codes "lost")) (lost n ws) _ (lost_kept n ws)
    (activating_kept form n ws))))))

word_kept : (n : FactNames) (missing : NameFault) (g : Text → Naming FactModel) (o : Option Text) → ((form : Text) → IsKept n (g form)) → IsKept n (by_word missing g o)
word_kept n missing g None kept = refused_kept n missing
word_kept n missing g (Some form) kept = kept form

read_again : (n : FactNames) (ws : List Text) → IsKept n (fact_read n ws)
unfolding fact_read
read_again n ws = word_kept n (faults.Missing 0) (λ form. linking_of form n ws) (slice_get ws 0) (λ form. linking_kept form n ws)

-- ---- no word follows

-- those that are written are as many as name the fact
as_many : (n : FactNames) (f : FactModel) → nat_lt (word_count f) (length (fact_words n f)) ≡ false
as_many n (Met c m) = refl
as_many n (LinkedReference c m v) = refl
as_many n (LinkedFeature c m f) = refl
as_many n (LinkedName c m d) = refl
as_many n (Linked place) = refl
as_many n (Lost c index) = refl
as_many n (Activated c side) = refl
as_many n (ActivatedReference c side v) = refl
as_many n (ActivatedFeature c side f) = refl
as_many n (ActivatedName c side d) = refl
as_many n (Used place side) = refl
as_many n (Available c text) = refl
as_many n (Compiled u) = refl
as_many n (Needed place from u) = refl
as_many n (ScriptRun c at) = refl
as_many n (ScriptCompiled c side) = refl
as_many n (RunNeeded place from run) = refl

chosen : (b : Bool) (wrong : NameFault) (g f : FactModel) → (choose b (refused wrong) (name_of g)).value ≡ Some f → g ≡ f
chosen true wrong g f h = absurd cc
chosen false wrong g f h = same_Some g f h

ended_is : (ws : List Text) (g f : FactModel) → (ended ws g).value ≡ Some f → g ≡ f
unfolding ended
ended_is ws g f h = chosen (nat_lt (word_count g) (length ws)) (faults.Further (word_count g)) g f h

ends : (ws : List Text) (f : FactModel) → nat_lt (word_count f) (length ws) ≡ false → (ended ws f).value ≡ Some f
unfolding ended
ends ws f h = rw h refl

and_then_gives : {A B : Type 0} (g : B → Option A) (o : Option B) (b : B) (a : A) → o ≡ Some b → g b ≡ Some a → option_and_then g o ≡ Some a
and_then_gives g None b a there named = absurd cc
and_then_gives g (Some c) b a there named = ap g (same_Some c b there) ∙ named

named_again : (n : FactNames) (ws : List Text) (f : FactModel) → Name n ws f → Name n (fact_words n f) f
unfolding fact_of
named_again n ws f h =
    let w = and_then_named (λ g. (ended ws g).value) (fact_read n ws).value f h in
    let read : (fact_read n (fact_words n f)).value ≡ Some f = subst (Again n) (ended_is ws w.0 f w.2) (read_again n ws w.0 w.1) in
    and_then_gives (λ g. (ended (fact_words n f) g).value) (fact_read n (fact_words n f)).value f f read (ends (fact_words n f) f (as_many n f))

-- where those that are written don't name it, no words do
pub nameless_told : (n : FactNames) (f : FactModel) (words : List Text) (b : Bool) → words ≡ fact_words n f → (IsTrue b ↔ Name n words f) → b ≡ false → IsNameless n f
nameless_told n f words b is told failed ws named =
    let yes : b ≡ true = told.1 (subst (λ list. Name n list f) (sym is) (named_again n ws f named)) in
    absurd cc
