use Rattle.std.proofs.Common.{String, refl, sym, subst}
use Rattle.std.specs.Global.{Global}
use Rattle.krates_cm.specs.Document.{Text, text_view}
use Rattle.krates_derive.specs.Giving.{NamedIn, document_in, facts_in}
use Rattle.krates_rules.specs.Resolved.{id_of}
use Rattle.krates_rules.proofs.Elements.{contains_read}
use Rattle.krates_rules.proofs.Seen.{seen_more, each_seen}
use Rattle.krates_derive.proofs.closing.ClosureCheck.are_names_in.Goals as goal

pub loop-name-preserved : goal.loop-name-preserved
loop-name-preserved c = seen_more (λ (x : String Global). NamedIn (document_in c.args.self.now) (facts_in c.args.self.now) (id_of c.args.krate.now) (text_view x)) c.args.names.now c.loop-name.name-index c.name-item.result c.loop-name-test.true c.name-item.is c.loop-name.invariant (subst (λ (y : Text). NamedIn (document_in c.args.self.now) (facts_in c.args.self.now) (id_of c.args.krate.now) (y)) c.as_str.ensures.value (c.is_named_in.ensures.0 c.if-not-is_named_in.false))

pub returns-then-not-is_named_in : goal.returns-then-not-is_named_in
returns-then-not-is_named_in c = (λ t. absurd cc, λ all. absurd (let told = subst (λ (y : Text). NamedIn (document_in c.args.self.now) (facts_in c.args.self.now) (id_of c.args.krate.now) (y)) (sym c.as_str.ensures.value) (all (text_view c.name-item.result) (contains_read text_view c.args.names.now c.loop-name.name-index c.name-item.result c.loop-name-test.true c.name-item.is)) in cc (c.is_named_in.ensures.1 told, c.if-not-is_named_in.true)))

pub returns : goal.returns
returns c = (
  λ t y h. each_seen text_view (λ (y : Text). NamedIn (document_in c.args.self.now) (facts_in c.args.self.now) (id_of c.args.krate.now) (y)) c.args.names.now c.args.names.now c.loop-name.name-index refl c.loop-name-test.false c.loop-name.invariant y (h),
  λ all. refl,
)
