use Rattle.std.proofs.Common.{String, List, map, sym, subst}
use Rattle.std.specs.Global.{Global}
use Rattle.krates_cm.specs.Document.{text_view}
use Rattle.krates_derive.specs.Giving.{document_in, facts_in, NamesIn}
use Rattle.krates_rules.specs.Resolved.{id_of}
use Rattle.krates_derive.proofs.closing.ClosureCheck.is_used_in.Goals as goal

pub returns-then-not-are_names_in : goal.returns-then-not-are_names_in
returns-then-not-are_names_in c = (
  λ t. absurd cc,
  λ used. absurd (
      let names = subst (λ (xs : List (String Global)). NamesIn (document_in c.args.self.now) (facts_in c.args.self.now) (id_of c.args.krate.now) (map text_view xs)) (sym c.deref.ensures.value) used.declared in
      cc (c.are_names_in.ensures.1 names, c.if-not-are_names_in.true)),
)

pub returns : goal.returns
returns c =
    let names = subst (λ (xs : List (String Global)). NamesIn (document_in c.args.self.now) (facts_in c.args.self.now) (id_of c.args.krate.now) (map text_view xs)) c.deref.ensures.value (c.are_names_in.ensures.0 c.if-not-are_names_in.false) in
    (λ t. record { declared = names; by_default = c.is_default_in.ensures.0 t }, λ used. c.is_default_in.ensures.1 used.by_default)
