use Rattle.krates_resolve.proofs.roots.put_member.Goals as goal

pub put_root-requires-clause-root : goal.put_root-requires-clause-root
put_root-requires-clause-root c = (c.is_root_member.ensures.0 c.if-is_root_member.true, c.requires.member.1)

pub returns-clause-rooted : goal.returns-clause-rooted
returns-clause-rooted c is = absurd (cc (c.is_root_member.ensures.1 is, c.if-is_root_member.false))
