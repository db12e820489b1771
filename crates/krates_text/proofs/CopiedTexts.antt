-- Copies of texts.
use Rattle.std.proofs.Common.{◌≡◌, List, [], ◌∷◌, refl, map, string_bytes}
use Rattle.std.specs.Prelude.{String}
use Rattle.std.specs.List.{AllZip}
use Rattle.std.specs.declared.alloc.Global.{Global}
use Rattle.krates_text.specs.TargetTable.{Description}

-- texts that were copied one by one have the same bytes
pub texts_copied : (texts copies : List (String Global)) → AllZip (λ s t. string_bytes t ≡ string_bytes s) texts copies → map string_bytes copies ≡ map string_bytes texts
texts_copied [] [] h = refl
texts_copied [] (t ∷ copies) h = elim h [ ]
texts_copied (s ∷ texts) [] h = elim h [ ]
texts_copied (s ∷ texts) (t ∷ copies) h = rw (h.0, texts_copied texts copies h.1) refl

-- descriptions with equal fields are equal
pub described_alike : (d e : Description) → d.triple ≡ e.triple → d.arch ≡ e.arch → d.os ≡ e.os → d.env ≡ e.env → d.abi ≡ e.abi → d.vendor ≡ e.vendor
    → d.pointer_width ≡ e.pointer_width → d.endian ≡ e.endian → d.panic ≡ e.panic → d.families ≡ e.families → d.atomics ≡ e.atomics → d ≡ e
described_alike d e triple arch os env abi vendor pointer_width endian panic families atomics =
    let all : record { triple = d.triple; arch = d.arch; os = d.os; env = d.env; abi = d.abi; vendor = d.vendor; pointer_width = d.pointer_width; endian = d.endian; panic = d.panic; families = d.families; atomics = d.atomics } ≡ e = rw (triple, arch, os, env, abi, vendor, pointer_width, endian, panic, families, atomics) refl in all
