use Rattle.placement_laws.proofs.Chosen.{all_of_few, among, few, least}
use Rattle.placement_laws.proofs.laws.targets_are_the_least_loaded.Goals as goal

pub returns-clause-among : goal.returns-clause-among
returns-clause-among c = among

pub returns-clause-least : goal.returns-clause-least
returns-clause-least c = least

pub returns-clause-few : goal.returns-clause-few
returns-clause-few c = few

pub returns-clause-all : goal.returns-clause-all
returns-clause-all c = all_of_few
