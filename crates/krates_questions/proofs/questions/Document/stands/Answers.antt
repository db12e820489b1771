use Rattle.krates_questions.proofs.questions.Document.stands.Goals as goal

pub returns-in-NoPackage : goal.returns-in-NoPackage
returns-in-NoPackage c = (λ t. absurd cc, λ s. absurd (c.in-NoPackage.ensures s.included.pkg s.included.has_package))

pub returns-in-NoNode : goal.returns-in-NoNode
returns-in-NoNode c = (λ t. absurd cc, λ s. absurd (c.in-NoNode.ensures.no_node s.node s.has_node))
