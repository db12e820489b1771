use Rattle.krates_cm_json.proofs.DocumentAgain.{package_again, metadata_again}
use Rattle.krates_cm_json.proofs.ReadAgain.{dep_kind_info_again, node_dep_again, node_again, resolve_again, dependency_again, target_again}
use Rattle.krates_cm_json.proofs.ReadBefore.{package_told, metadata_told}
use Rattle.krates_cm_json.proofs.laws.written_is_read.Goals as goal

pub returns-clause-dep_kind_info : goal.returns-clause-dep_kind_info
returns-clause-dep_kind_info c = λ x d was w has key. dep_kind_info_again key x d w

pub returns-clause-node_dep : goal.returns-clause-node_dep
returns-clause-node_dep c = λ x d was w has key. node_dep_again key x d w

pub returns-clause-node : goal.returns-clause-node
returns-clause-node c = λ x d was w has key. node_again key x d w

pub returns-clause-resolve : goal.returns-clause-resolve
returns-clause-resolve c = λ x d was w has key. resolve_again key x d w

pub returns-clause-dependency : goal.returns-clause-dependency
returns-clause-dependency c = λ x d was w reads key. dependency_again key x d (w, reads)

pub returns-clause-target : goal.returns-clause-target
returns-clause-target c = λ x d was w has key. target_again key x d w

pub returns-clause-a_package : goal.returns-clause-a_package
returns-clause-a_package c = λ x d (k, e, was) w reads key. package_again key x d ((w, reads), package_told k e x was)

pub returns-clause-metadata : goal.returns-clause-metadata
returns-clause-metadata c = λ x d (k, e, was) w reads key. metadata_again key x d w reads (metadata_told k e x was)
