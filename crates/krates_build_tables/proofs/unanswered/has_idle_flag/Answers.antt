use Rattle.krates_build_tables.proofs.unanswered.has_idle_flag.Goals as goal

pub returns-then-taking : goal.returns-then-taking
returns-then-taking c = (
  λ none. record { flag = c.has_feature_flag.ensures.0 c.if-not-has_feature_flag.false; alike = c.requires.alike.0 c.if-taking.true; none_selected = c.requires.none_selected.0 none },
  λ idle. c.requires.none_selected.1 idle.none_selected,
)
