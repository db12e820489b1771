-- Texts that are added part by part, as a loop goes over the parts of a text or over texts.
use Rattle.std.proofs.Common.{◌≡◌, ◌++◌, ◌+◌, ◌<◌, ◌∙◌, ℕ, List, [], ◌∷◌, Bor, String, Global, ap, get_or, length, map, string_bytes, sym, take}
use Rattle.std.specs.List.{flat_map}
use Rattle.std.proofs.lemmas.List.{flat_map_more, map-append, map_more}
use Rattle.krates_cm.specs.Document.{Text}

-- what was added for one part more
pub next_part : (f : Text → List Text) (start before after : List Text) (seen : List (Bor Text)) (part : Bor Text)
    → before ≡ start ++ flat_map f (map (λ (p : Bor Text). p.now) seen) → after ≡ before ++ f part.now
    → after ≡ start ++ flat_map f (map (λ (p : Bor Text). p.now) (seen ++ part ∷ []))
next_part f start before after seen part had more =
    more ∙ ap (λ those. those ++ f part.now) had ∙ flat_map_more f start (map (λ (p : Bor Text). p.now) seen) part.now
    ∙ ap (λ parts. start ++ flat_map f parts) (sym (map-append (λ (p : Bor Text). p.now) seen (part ∷ [])))

-- what was added for one text more
pub next_text : (f : Text → List Text) (before after : List Text) (texts : List (String Global)) (i : ℕ) (x : String Global) (text : Text) → i < length texts
    → x ≡ get_or texts i x → before ≡ flat_map f (map string_bytes (take i texts)) → text ≡ string_bytes x → after ≡ before ++ f text
    → after ≡ flat_map f (map string_bytes (take (i + 1) texts))
next_text f before after texts i x text lt here had is more =
    more ∙ ap (λ those. those ++ f text) had ∙ ap (λ t. flat_map f (map string_bytes (take i texts)) ++ f t) (is ∙ ap string_bytes here)
    ∙ flat_map_more f [] (map string_bytes (take i texts)) (string_bytes (get_or texts i x))
    ∙ ap (flat_map f) (sym (map_more string_bytes texts i x lt))
