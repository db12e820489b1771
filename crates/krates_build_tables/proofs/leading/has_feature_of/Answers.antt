use Rattle.std.specs.Prelude.{codes}
use Rattle.std.proofs.lemmas.Str.Pattern.{contains_text}
use Rattle.krates_build_tables.proofs.leading.has_feature_of.Goals as goal

pub returns-then-contains : goal.returns-then-contains
returns-then-contains c =
    let there = (contains_text c.contains.result (codes "/") c.args.feature.now c.contains.ensures.cases).0 c.if-contains.true in
    (λ t. absurd cc, λ h. absurd (h.one_slash there.0 there.1 there.2))

pub returns-then-knows_name : goal.returns-then-knows_name
returns-then-knows_name c =
    let told = contains_text c.contains.result (codes "/") c.args.feature.now c.contains.ensures.cases in (
      λ t. record {
        knows = c.knows_name.ensures.0 c.if-knows_name.true;
        one_slash = λ before after e. absurd (cc (told.1 (before, after, e), c.if-contains.false));
        each = λ e d resolves parent named. c.each_named_has.ensures.0 t (e, d) (resolves, parent, named);
      },
      λ h. c.each_named_has.ensures.1 (λ b x. h.each b.0 b.1 x.0 x.1 x.2),
    )

pub returns-else-knows_name : goal.returns-else-knows_name
returns-else-knows_name c = (λ t. absurd (cc (t, c.if-knows_name.false)), λ h. c.knows_name.ensures.1 h.knows)
