use Rattle.krates_cm_json.proofs.ExactFaults.{dep_kind_info_exact, node_dep_exact, node_exact, resolve_exact, dependency_exact, target_exact, package_exact, metadata_exact}
use Rattle.krates_cm_json.proofs.laws.faults_are_exact.Goals as goal

pub returns-clause-dep_kind_info : goal.returns-clause-dep_kind_info
returns-clause-dep_kind_info c = dep_kind_info_exact

pub returns-clause-node_dep : goal.returns-clause-node_dep
returns-clause-node_dep c = node_dep_exact

pub returns-clause-node : goal.returns-clause-node
returns-clause-node c = node_exact

pub returns-clause-resolve : goal.returns-clause-resolve
returns-clause-resolve c = resolve_exact

pub returns-clause-dependency : goal.returns-clause-dependency
returns-clause-dependency c = dependency_exact

pub returns-clause-target : goal.returns-clause-target
returns-clause-target c = target_exact

pub returns-clause-a_package : goal.returns-clause-a_package
returns-clause-a_package c = package_exact

pub returns-clause-metadata : goal.returns-clause-metadata
returns-clause-metadata c = metadata_exact
