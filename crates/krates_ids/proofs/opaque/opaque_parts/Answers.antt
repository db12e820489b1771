use Rattle.std.proofs.Common.{arith}
use Rattle.krates_ids.proofs.OpaqueLemmas.{IsOpaqueForm-no_blank, IsOpaqueForm-one_blank, IsOpaqueForm-not_opened, IsOpaqueForm-no_source, IsOpaqueForm-found, EndsWith-body, StandsAt-version, StandsAt-source, MarksOpaque-marks}
use Rattle.krates_ids.proofs.SpansLemmas.{StandsAt-before}
use Rattle.krates_ids.proofs.opaque.opaque_parts.Goals as goal

pub returns-in_default : goal.returns-in_default
returns-in_default c = IsOpaqueForm-no_blank _ c.in_default.ensures

pub returns-in_default-cut_first : goal.returns-in_default-cut_first
returns-in_default-cut_first c = IsOpaqueForm-one_blank _ _ _ c.in-Some.ensures c.in_default-cut_first.ensures

pub returns-in_default-after_front : goal.returns-in_default-after_front
returns-in_default-after_front c =
    IsOpaqueForm-not_opened _ _ _ _ _ c.in-Some.ensures c.in-Some-cut_first.ensures c.in_default-after_front.ensures

pub source_in-requires : goal.source_in-requires
source_in-requires c =
    EndsWith-body _ _ _ _ _ _ c.in-Some.ensures c.in-Some-cut_first.ensures c.in-Some-after_front.ensures

pub returns-in_default-source_in : goal.returns-in_default-source_in
returns-in_default-source_in c =
    IsOpaqueForm-no_source _ _ _ _ _ _ c.in-Some.ensures c.in-Some-cut_first.ensures c.in-Some-after_front.ensures c.in_default-source_in.ensures

pub span_of-requires : goal.span_of-requires
span_of-requires c = StandsAt-before _ _ _ _ (omega arith) c.utf8.text c.in-Some.ensures.is

pub span_of-requires-2 : goal.span_of-requires-2
span_of-requires-2 c = StandsAt-version _ _ _ _ _ _ c.utf8.text c.in-Some.ensures c.in-Some-cut_first.ensures (omega arith)

pub span_of-requires-3 : goal.span_of-requires-3
span_of-requires-3 c =
    StandsAt-source _ _ _ _ _ _ _ _ c.utf8.text c.in-Some.ensures c.in-Some-cut_first.ensures c.in-Some-after_front.ensures c.in-Some-source_in.ensures (omega arith)

pub returns : goal.returns
returns c =
    MarksOpaque-marks _ _ _ _ _
    (IsOpaqueForm-found _ _ _ _ _ _ _ c.in-Some.ensures c.in-Some-cut_first.ensures c.in-Some-after_front.ensures c.in-Some-source_in.ensures)
    c.span_of.ensures c.span_of-2.ensures c.span_of-3.ensures
