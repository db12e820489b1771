-- Which options words mean.
use Rattle.std.proofs.Common.{◌≡◌, IsUtf8, List, subst, sym}
use Rattle.std.specs.Str.Lines.{lines}
use Rattle.krates_cm.specs.Document.{Text}
use Rattle.krates_cli.specs.Options.{IsCommandLine, IsUnknown, OptionsModel}
use Rattle.krates_foreign.specs.Asked.{AskAlone, AskForNone, AsksFor}

-- words mean one thing
abbrev pub AskOnce : Type 0
AskOnce = (words : List Text) (a b : OptionsModel) → IsCommandLine words a → IsCommandLine words b → a ≡ b

-- bytes that aren't a text set nothing
pub no_text : (bytes : Text) → (IsUtf8 bytes → ⊥) → AskForNone bytes
no_text bytes not o asks = not asks.is_text

-- words that aren't options set nothing
pub unknown : (bytes : Text) (words : List Text) → words ≡ lines bytes → IsUnknown words → AskForNone bytes
unknown bytes words same none o asks = none o (subst (λ ws. IsCommandLine ws o) (sym same) asks.options)

-- options that say more than a setting don't give a setting alone
pub more : AskOnce → (bytes : Text) (words : List Text) (o : OptionsModel) → words ≡ lines bytes → IsCommandLine words o → (AskAlone o → ⊥) → AskForNone bytes
more once bytes words o same line not p asks =
    not (subst AskAlone (once words p o (subst (λ ws. IsCommandLine ws p) (sym same) asks.options) line) asks.alone)

-- others give one
pub alone : (bytes : Text) (words : List Text) (o : OptionsModel) → IsUtf8 bytes → words ≡ lines bytes → IsCommandLine words o → AskAlone o → AsksFor bytes o
alone bytes words o utf8 same line only = record { is_text = utf8; options = subst (λ ws. IsCommandLine ws o) same line; alone = only }
