-- What is read from the tokens of a text, one value after another.
use Rattle.std.specs.Prelude.{◌≡◌, ◌≤◌, ℕ, List, [], ◌∷◌, ◌++◌, Bool, true, false, Some, None, ⊤}
use Rattle.std.specs.Borrow.{Bor}
use Rattle.std.specs.declared.alloc.Global.{Global}
use Rattle.json.specs.Find.{get_member}
use Rattle.json.specs.Json.{Json, Members, member}
use Rattle.json.specs.Token.{Token}
use Rattle.json.specs.Tree.{depth, json_tokens}
use Rattle.json.specs.Value.{value_view, members_view}
use Rattle.json.specs.declared.value.Value.{Value}
use Rattle.serde_json.specs.Data.{Data}
use Rattle.krates_cm_json.specs.Readable.{IsReadable, data_in}
use Rattle.krates_cm_json.specs.Reading.{Reading}

-- a readable value that nests at most this deep
abbrev pub IsShallow : ℕ → Json → Type 0
IsShallow deepest j = IsReadable j × (depth j ≤ deepest)

-- The tokens `before` are those of a value that nests at most this deep, and then `after`; what is read from the value is x.
abbrev pub ReadsNext : {A : Type 0} → ℕ → (Data → Reading A) → List Token → A → List Token → Type 0
ReadsNext deepest read before x after =
    (j : Json) × IsShallow deepest j × (before ≡ json_tokens j ++ after) × ((read (data_in j)).value ≡ Some x)

-- a member of an object: its name and its value
abbrev pub Member : Type 0
Member = Bor (List ℕ) × Value Global

-- each of their values is readable and nests at most this deep
abbrev pub AreShallow : ℕ → List Member → Type 0
AreShallow deepest [] = ⊤
AreShallow deepest (m ∷ ms) = IsShallow deepest (value_view m.1) × AreShallow deepest ms

-- no member has this name
abbrev pub Lacks : List ℕ → List Member → Type 0
Lacks key ms = get_member key (members_view ms) ≡ None

-- the tokens of members, without the brace that closes their object
abbrev pub member_tokens : List Member → List Token
member_tokens [] = []
member_tokens (m ∷ ms) = Token.key m.0.now ∷ (json_tokens (value_view m.1) ++ member_tokens ms)

-- what ends a walk over members: the key that it looks for, or the end of the object
abbrev pub last_token : Bool → List ℕ → Token
last_token true key = Token.key key
last_token false key = Token.end_object

-- these members, and then the others
abbrev pub joined : List Member → Members → Members
joined [] others = others
joined (m ∷ ms) others = member m.0.now (value_view m.1) (joined ms others)
