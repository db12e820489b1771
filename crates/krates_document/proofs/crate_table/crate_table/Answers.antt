use Rattle.std.proofs.Common.{subst}
use Rattle.krates_rules.specs.DistinctIds.{AreDistinct}
use Rattle.krates_document.proofs.crate_table.crate_table.Goals as goal

pub returns-clause-packages : goal.returns-clause-packages
returns-clause-packages c = subst AreDistinct c.deref-2.ensures.value c.in_ok-packages.ensures.distinct

pub returns-clause-nodes : goal.returns-clause-nodes
returns-clause-nodes c = subst AreDistinct c.deref-4.ensures.value c.in_ok-nodes.ensures.distinct

pub returns-clause-table : goal.returns-clause-table
returns-clause-table c = record {
  numbered = c.in_ok-numbered.ensures.numbered;
  packages = rw (← c.deref.ensures.value, ← c.deref-2.ensures.value) c.in_ok-packages.ensures.places;
  nodes = rw (← c.deref-3.ensures.value, ← c.deref-4.ensures.value) c.in_ok-nodes.ensures.places;
  members = rw (← c.deref-5.ensures.value, ← c.deref-6.ensures.value) c.in_ok-members.ensures.places;
  node_numbers = rw (← c.deref-3.ensures.value, ← c.deref-4.ensures.value) c.in_ok-nodes.ensures.numbers;
  dep_numbers = rw (← c.deref-7.ensures.value, ← c.deref-8.ensures.value) c.in_ok-dep_numbers.ensures;
}
