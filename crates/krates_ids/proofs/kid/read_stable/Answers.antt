use Rattle.std.proofs.Common.{refl, ◌∙◌}
use Rattle.std.proofs.lemmas.Str.{IsUtf8-string_bytes}
use Rattle.krates_cm.specs.Document.{id_view}
use Rattle.krates_ids.specs.Identity.{IsFault, no_stable_form}
use Rattle.krates_ids.proofs.RefusalsLemmas.{Converts-fault}
use Rattle.krates_ids.proofs.KidLemmas.{ReadsAs-written, ReadsAs-decoded, Converts-bad_escape}
use Rattle.krates_ids.proofs.StableLemmas.{IsWithSource-written, IsWithSource-decoded}
use Rattle.krates_ids.proofs.kid.read_stable.Goals as goal

pub returns-in_default : goal.returns-in_default
returns-in_default c =
    let fault : IsFault (id_view c.args.id) no_stable_form = (c.requires, rw c.as_str.ensures.value at c.in_default.ensures.none) in
    Converts-fault _ _ no_stable_form fault (refl, fault)

pub parts_in-parts-requires : goal.parts_in-parts-requires
parts_in-parts-requires c =
    let form = rw c.as_str.ensures.value at c.in-Some.ensures.found in
    rw c.as_str-in_default-escaped_query.ensures.value (_, IsWithSource-written _ _ _ _ _ _ (IsUtf8-string_bytes c.args.id.repr) form c.in-Some.ensures.named)

pub kid_of-requires : goal.kid_of-requires
kid_of-requires c =
    let form = rw c.as_str.ensures.value at c.in-Some.ensures.found in
    let gives = rw c.as_str-in_default-escaped_query.ensures.value at c.parts_in-parts.ensures in
    (ReadsAs-written c.args.id _ _ _ _ _ _ form c.in-Some.ensures.named c.in_default-escaped_query.ensures gives).0

pub returns-in_default-escaped_query : goal.returns-in_default-escaped_query
returns-in_default-escaped_query c =
    let form = rw c.as_str.ensures.value at c.in-Some.ensures.found in
    let gives = rw c.as_str-in_default-escaped_query.ensures.value at c.parts_in-parts.ensures in
    rw c.kid_of.ensures ((ReadsAs-written c.args.id _ _ _ _ _ _ form c.in-Some.ensures.named c.in_default-escaped_query.ensures gives).1)

pub returns-then-not-are_escapes : goal.returns-then-not-are_escapes
returns-then-not-are_escapes c =
    let form = rw c.as_str.ensures.value at c.in-Some.ensures.found in
    let bad = rw c.if-not-are_escapes.true at c.are_escapes.ensures in
    Converts-bad_escape c.args.id _ _ _ _ _ _ form c.in-Some-escaped_query.ensures.0 bad

pub parts_in-parts-requires-2 : goal.parts_in-parts-requires-2
parts_in-parts-requires-2 c =
    let form = rw c.as_str.ensures.value at c.in-Some.ensures.found in
    let good = rw c.if-not-are_escapes.false at c.are_escapes.ensures in
    (_, IsWithSource-decoded _ _ _ _ _ _ _ _ _ (IsUtf8-string_bytes c.args.id.repr) form c.in-Some.ensures.named c.in-Some-escaped_query.ensures.0 good (c.as_str-2.ensures.value ∙ c.in-Ok.ensures))

pub kid_of-requires-2 : goal.kid_of-requires-2
kid_of-requires-2 c =
    let form = rw c.as_str.ensures.value at c.in-Some.ensures.found in
    let good = rw c.if-not-are_escapes.false at c.are_escapes.ensures in
    let gives = rw c.as_str-2.ensures.value at c.parts_in-parts-2.ensures in
    (ReadsAs-decoded c.args.id _ _ _ _ _ _ _ _ _ form c.in-Some.ensures.named c.in-Some-escaped_query.ensures.0 good c.in-Ok.ensures gives).0

pub returns : goal.returns
returns c =
    let form = rw c.as_str.ensures.value at c.in-Some.ensures.found in
    let good = rw c.if-not-are_escapes.false at c.are_escapes.ensures in
    let gives = rw c.as_str-2.ensures.value at c.parts_in-parts-2.ensures in
    rw c.kid_of-2.ensures ((ReadsAs-decoded c.args.id _ _ _ _ _ _ _ _ _ form c.in-Some.ensures.named c.in-Some-escaped_query.ensures.0 good c.in-Ok.ensures gives).1)
