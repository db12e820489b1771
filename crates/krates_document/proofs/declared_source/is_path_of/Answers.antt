use Rattle.krates_document.proofs.declared_source.is_path_of.Goals as goal

pub returns-in-None : goal.returns-in-None
returns-in-None c = (λ t. absurd cc, λ h. absurd (c.in-None.ensures.cases h.directory h.is))
