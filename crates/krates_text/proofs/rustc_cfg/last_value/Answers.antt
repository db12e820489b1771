use Rattle.std.proofs.Common.{◌∙◌, ◌∷◌, [], map, string_bytes, sym, ap}
use mathlib.Core.List.{map-append}
use Rattle.krates_text.specs.RustcCfg.{last_or_empty}
use Rattle.krates_text.proofs.RustcCfg.{last_taken}
use Rattle.krates_text.proofs.rustc_cfg.last_value.Goals as goal

pub returns-in-Some : goal.returns-in-Some
returns-in-Some c =
    let rest = c.pop.new.self.items in
    let value = c.in-Some.value in
    let split = ap (map string_bytes) c.in-Some.ensures.items ∙ map-append string_bytes rest (value ∷ []) in
    record {
      values = map string_bytes c.in_ok-values.values.items;
      are = c.in_ok-values.ensures;
      last = sym (ap last_or_empty split ∙ last_taken (map string_bytes rest) (string_bytes value));
    }
