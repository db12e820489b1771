use Rattle.std.proofs.Common.{◌≡◌, ◌++◌, map, string_bytes, take}
use Rattle.krates_build_naming.proofs.written_facts.extended.Given as goal

-- copies of those so far are behind the words
abbrev pub invariant-loop-word : goal.invariant-loop-word
invariant-loop-word l = map string_bytes l.all.items ≡ map string_bytes l.fn.words.items ++ map (λ word. word.now) (take l.word-index l.more)
