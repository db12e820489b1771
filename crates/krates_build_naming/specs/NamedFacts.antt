-- Which fact words name: the first word is a form, and the words behind it name its parts. One row for each form. No word may follow.
use Rattle.std.specs.Prelude.{ℕ, List, bytes_eq, codes, length, nat_lt, slice_get}
use Rattle.krates_cm.specs.Document.{Text}
use Rattle.krates_build_facts.specs.FactModels.{FactModel, Met, LinkedReference, LinkedFeature, LinkedName, Linked, Lost, Activated, ActivatedReference, ActivatedFeature, ActivatedName, Used, Available, Compiled, Needed, ScriptRun, ScriptCompiled, RunNeeded}
use Rattle.krates_build_naming.specs.NamedParts.{crate_at, lacking_at, link_at, meeting_at, placement_at, platform_at, reference_at, side_at, unit_at, word_at}
use Rattle.krates_build_naming.specs.Naming.{IsExact, Naming, ◌<*>◌, by_word, choose, name_of, refused, then_by}
use Rattle.krates_build_naming.specs.declared.names.FactNames.{FactNames}
use Rattle.krates_build_naming.specs.declared.names.NameFault.TheVariants as faults

-- ---- which dependencies exist

unfoldable pub met : FactNames → List Text → Naming FactModel
met n ws = name_of (λ c m. Met c m) <*> crate_at n 1 ws <*> meeting_at 2 ws

unfoldable pub linked_reference : FactNames → List Text → Naming FactModel
linked_reference n ws = name_of (λ c m v. LinkedReference c m v) <*> crate_at n 1 ws <*> meeting_at 2 ws <*> reference_at 3 ws

unfoldable pub linked_feature : FactNames → List Text → Naming FactModel
linked_feature n ws = name_of (λ c m f. LinkedFeature c m f) <*> crate_at n 1 ws <*> meeting_at 2 ws <*> word_at 3 ws

unfoldable pub linked_name : FactNames → List Text → Naming FactModel
linked_name n ws = name_of (λ c m d. LinkedName c m d) <*> crate_at n 1 ws <*> meeting_at 2 ws <*> word_at 3 ws

unfoldable pub linked : FactNames → List Text → Naming FactModel
linked n ws = name_of (λ place. Linked place) <*> link_at n 1 ws

unfoldable pub lost : FactNames → List Text → Naming FactModel
lost n ws = name_of (λ place. Lost place.0 place.1) <*> lacking_at n 1 ws

-- ---- features of each side

unfoldable pub activated : FactNames → List Text → Naming FactModel
activated n ws = name_of (λ c n. Activated c n) <*> crate_at n 1 ws <*> side_at 2 ws

unfoldable pub activated_reference : FactNames → List Text → Naming FactModel
activated_reference n ws = name_of (λ c n v. ActivatedReference c n v) <*> crate_at n 1 ws <*> side_at 2 ws <*> reference_at 3 ws

unfoldable pub activated_feature : FactNames → List Text → Naming FactModel
activated_feature n ws = name_of (λ c n f. ActivatedFeature c n f) <*> crate_at n 1 ws <*> side_at 2 ws <*> word_at 3 ws

unfoldable pub activated_name : FactNames → List Text → Naming FactModel
activated_name n ws = name_of (λ c n d. ActivatedName c n d) <*> crate_at n 1 ws <*> side_at 2 ws <*> word_at 3 ws

unfoldable pub used : FactNames → List Text → Naming FactModel
used n ws = name_of (λ place n. Used place n) <*> link_at n 1 ws <*> side_at 6 ws

unfoldable pub available : FactNames → List Text → Naming FactModel
available n ws = name_of (λ c text. Available c text) <*> crate_at n 1 ws <*> word_at 2 ws

-- ---- units

unfoldable pub compiled : FactNames → List Text → Naming FactModel
compiled n ws = name_of (λ u. Compiled u) <*> unit_at n 1 ws

unfoldable pub needed : FactNames → List Text → Naming FactModel
needed n ws = name_of (λ place from u. Needed place from u) <*> link_at n 1 ws <*> platform_at n 6 ws <*> unit_at n 7 ws

unfoldable pub script_run : FactNames → List Text → Naming FactModel
script_run n ws = name_of (λ c at. ScriptRun c at) <*> crate_at n 1 ws <*> placement_at n 2 ws

unfoldable pub script_compiled : FactNames → List Text → Naming FactModel
script_compiled n ws = name_of (λ c n. ScriptCompiled c n) <*> crate_at n 1 ws <*> side_at 2 ws

unfoldable pub run_needed : FactNames → List Text → Naming FactModel
run_needed n ws = name_of (λ place from run. RunNeeded place from run) <*> link_at n 1 ws <*> placement_at n 6 ws <*> placement_at n 8 ws

-- ---- by the form

unfoldable pub building_of : Text → FactNames → List Text → Naming FactModel
building_of form n ws =
    choose (bytes_eq form (codes "compiled")) (compiled n ws)
    (choose (bytes_eq form (codes "needed")) (needed n ws)
    (choose (bytes_eq form (codes "script run")) (script_run n ws)
    (choose (bytes_eq form (codes "script compiled")) (script_compiled n ws)
    (choose (bytes_eq form (codes "run needed")) (run_needed n ws)
    (refused (faults.Form 0))))))

unfoldable pub activating_of : Text → FactNames → List Text → Naming FactModel
activating_of form n ws =
    choose (bytes_eq form (codes "activated")) (activated n ws)
    (choose (bytes_eq form (codes "activated reference")) (activated_reference n ws)
    (choose (bytes_eq form (codes "activated feature")) (activated_feature n ws)
    (choose (bytes_eq form (codes "activated name")) (activated_name n ws)
    (choose (bytes_eq form (codes "used")) (used n ws)
    (choose (bytes_eq form (codes "available")) (available n ws)
    (building_of form n ws))))))

unfoldable pub linking_of : Text → FactNames → List Text → Naming FactModel
linking_of form n ws =
    choose (bytes_eq form (codes "met")) (met n ws)
    (choose (bytes_eq form (codes "linked reference")) (linked_reference n ws)
    (choose (bytes_eq form (codes "linked feature")) (linked_feature n ws)
    (choose (bytes_eq form (codes "linked name")) (linked_name n ws)
    (choose (bytes_eq form (codes "linked")) (linked n ws)
    (choose (bytes_eq form (codes "lost")) (lost n ws)
    (activating_of form n ws))))))

-- the fact that the words begin with
unfoldable pub fact_read : FactNames → List Text → Naming FactModel
fact_read n ws = by_word (faults.Missing 0) (λ form. linking_of form n ws) (slice_get ws 0)

-- ---- no word may follow

-- how many words name the fact, its form among them
abbrev pub word_count : FactModel → ℕ
word_count (Met c m) = 3
word_count (LinkedReference c m v) = 6
word_count (LinkedFeature c m f) = 4
word_count (LinkedName c m d) = 4
word_count (Linked place) = 6
word_count (Lost c index) = 5
word_count (Activated c side) = 3
word_count (ActivatedReference c side v) = 6
word_count (ActivatedFeature c side f) = 4
word_count (ActivatedName c side d) = 4
word_count (Used place side) = 7
word_count (Available c text) = 3
word_count (Compiled u) = 7
word_count (Needed place from u) = 13
word_count (ScriptRun c at) = 4
word_count (ScriptCompiled c side) = 3
word_count (RunNeeded place from run) = 10

-- the fact, where no other word follows those that name it
unfoldable pub ended : List Text → FactModel → Naming FactModel
ended ws f = choose (nat_lt (word_count f) (length ws)) (refused (faults.Further (word_count f))) (name_of f)

-- the fact that the words name
unfoldable pub fact_of : FactNames → List Text → Naming FactModel
fact_of n ws = then_by (fact_read n ws) (ended ws)

-- for all words, in each document and build
abbrev pub FactsAreExact : Type 0
FactsAreExact = (n : FactNames) (ws : List Text) → IsExact (fact_of n ws)
