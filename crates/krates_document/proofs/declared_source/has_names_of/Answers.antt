use Rattle.std.proofs.Common.{◌≡◌, ◌<◌, ◌↔◌, ℕ, Bool, ◌∷◌, ◌++◌, IsTrue, sym, ap, ◌∙◌, subst, arith, rules, tests}
use Rattle.std.specs.Char.{encode_utf8}
use Rattle.std.proofs.lemmas.Str.{encode_ascii, char_from_byte}
use Rattle.krates_cm.specs.Document.{Text}
use Rattle.krates_text.specs.Path.{components}
use Rattle.krates_rules.specs.DeclaredSource.{between_backslashes, HasNamesOf}
use Rattle.krates_document.proofs.declared_source.has_names_of.Goals as goal

-- an ASCII character is its first byte
begins_ascii : (path directory rest : Text) (c : ℕ) (r : Bool) → directory ≡ encode_utf8 c ++ rest → c < 128 → IsTrue r ↔ (between_backslashes path ≡ components rest) → IsTrue r ↔ HasNamesOf path directory
begins_ascii path directory rest c r e small tells =
    let is : directory ≡ c ∷ rest = e ∙ ap (λ t. t ++ rest) (encode_ascii c small) in (
      λ t. record { first = c; is_ascii = small; rest = rest; is = is; same = tells.0 t },
      λ h.
          let same : h.rest ≡ rest = let e = h.is in cc in
          tells.1 (h.same ∙ ap components same),
    )

begins_other : (path directory rest : Text) (c : ℕ) → directory ≡ encode_utf8 c ++ rest → (c < 128 → ⊥) → HasNamesOf path directory → ⊥
begins_other path directory rest c e large h =
    let e' : h.first ∷ h.rest ≡ encode_utf8 c ++ rest = sym h.is ∙ e in
    large (subst (λ n. n < 128) (sym (char_from_byte (h.first ∷ h.rest) rest c e' h.is_ascii (omega arith))) h.is_ascii)

pub returns-in-Some : goal.returns-in-Some
returns-in-Some c =
    let small : c.in-Some.first < 128 = search (rules, tests) in
    begins_ascii c.args.path.now c.args.directory.now c.as_str.result.now c.in-Some.first c.are_names.result (sym c.chars-rest.ensures.rest ∙ c.in-Some.ensures.steps.0 ∙ ap (λ t. encode_utf8 c.in-Some.first ++ t) (sym c.as_str.ensures)) small c.are_names.ensures

pub returns-in_default : goal.returns-in_default
returns-in_default c = (λ t. absurd cc, λ h. absurd (begins_other c.args.path.now c.args.directory.now _ c.in-Some.first (sym c.chars-rest.ensures.rest ∙ c.in-Some.ensures.steps.0) (λ small. absurd (search (rules, tests))) h))
