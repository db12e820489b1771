-- In the text of a refusal nothing ends a line, moves the cursor or turns the direction.
use Rattle.std.proofs.Common.{◌≡◌, ◌++◌, ◌∷◌, ◌∙◌, ◌&&◌, ℕ, Bool, true, List, [], arith, codes, refl, subst, sym}
use Rattle.std.proofs.lemmas.Bool.{and_parts}
use Rattle.std.proofs.lemmas.Bool.Decides.{nat_tests}
use Rattle.std.proofs.lemmas.Str.{NoCharPasses-append, NoCharPasses-nil, encode_ascii}
use Rattle.std.specs.Int.{is_in_range}
use Rattle.std.specs.Str.{NoCharPasses, NonePass, encode_utf8_all}
use Rattle.krates_cm.specs.Document.{Text, texts_view}
use Rattle.krates_shown.proofs.ShownLaws.{nothing_hidden}
use Rattle.krates_shown.specs.Shown.{is_hidden, shown_text}
use Rattle.krates_verdict.specs.RefusalText.{behind_blanks, words_text}
use Rattle.krates_verdict.specs.declared.refusal.Refusal.TheVariants as verdicts
use Rattle.krates_foreign.specs.Handing.{TellsRefusal}
use Rattle.krates_foreign.specs.declared.refusal.CallRefusal.{CallRefusal}
use Rattle.krates_foreign.specs.declared.refusal.CallRefusal.TheVariants as refusals

-- ---- the words of another setting

-- these are printable characters of ASCII
abbrev is_plain : Text → Bool
is_plain [] = true
is_plain (c ∷ cs) = is_in_range 32 126 c && is_plain cs

plain_encoded : (cs : Text) → is_plain cs ≡ true → encode_utf8_all cs ≡ cs
plain_encoded [] plain = refl
plain_encoded (c ∷ cs) plain =
    let parts = and_parts (is_in_range 32 126 c) (is_plain cs) plain in
    λ i. encode_ascii c (grind (arith, nat_tests, parts.0)) i ++ plain_encoded cs parts.1 i

plain_seen : (cs : Text) → is_plain cs ≡ true → NonePass is_hidden cs
plain_seen [] plain = tt
plain_seen (c ∷ cs) plain =
    let parts = and_parts (is_in_range 32 126 c) (is_plain cs) plain in (grind (arith, nat_tests, parts.0), plain_seen cs parts.1)

plain : (cs : Text) → is_plain cs ≡ true → NoCharPasses is_hidden cs
plain cs is = (cs, plain_encoded cs is, plain_seen cs is)

blanks_seen : (words : List Text) → NoCharPasses is_hidden (behind_blanks words)
blanks_seen [] = NoCharPasses-nil is_hidden
blanks_seen (word ∷ words) =
    NoCharPasses-append is_hidden (codes " ") (shown_text word ++ behind_blanks words) (plain (codes " ") refl)
    (NoCharPasses-append is_hidden (shown_text word) (behind_blanks words) (nothing_hidden word) (blanks_seen words))

words_seen : (words : List Text) → NoCharPasses is_hidden (words_text words)
words_seen [] = plain (codes " no options") refl
words_seen (word ∷ words) = blanks_seen (word ∷ words)

setting_seen : (words : List Text) → NoCharPasses is_hidden (codes "the certificate is of another setting:" ++ words_text words)
setting_seen words =
    let front = codes "the certificate is of another setting:" in
    NoCharPasses-append is_hidden front (words_text words) (plain front refl) (words_seen words)

-- ---- any refusal

seen : (printed text : Text) → text ≡ shown_text printed → NoCharPasses is_hidden text
seen printed text is = subst (NoCharPasses is_hidden) (sym is) (nothing_hidden printed)

pub one_line : (refusal : CallRefusal) (text : Text) → TellsRefusal refusal text → NoCharPasses is_hidden text
one_line refusals.Words text told = seen told.printed text told.text_is
one_line refusals.Id text told = seen told.printed text told.text_is
one_line refusals.Utf8 text told = seen told.printed text told.text_is
one_line (refusals.Parse _) text told = seen told.printed text told.text_is
one_line (refusals.Build _) text told = seen told.printed text told.text_is
one_line (refusals.NotKept _) text told = seen told.printed text told.text_is
one_line refusals.Memory text told = seen told.printed text told.text_is
one_line (refusals.Certificate (verdicts.Read _)) text told = seen told.printed text told.text_is
one_line (refusals.Certificate verdicts.Utf8) text told = seen told.printed text told.text_is
one_line (refusals.Certificate (verdicts.Certificate _)) text told = seen told.printed text told.text_is
one_line (refusals.Certificate (verdicts.Check _)) text told = seen told.printed text told.text_is
one_line (refusals.Certificate (verdicts.Write _)) text told = seen told.printed text told.text_is
one_line (refusals.Certificate verdicts.Memory) text told = seen told.printed text told.text_is
one_line (refusals.Certificate (verdicts.Setting claimed)) text told = subst (NoCharPasses is_hidden) (sym (told.text_is ∙ told.printed_is)) (setting_seen (texts_view claimed))
