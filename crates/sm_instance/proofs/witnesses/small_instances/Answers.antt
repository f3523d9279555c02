use Rattle.sm_instance.proofs.WitnessLemmas.{nobody_blocks_is, free_place_blocks_is, worse_resident_blocks_is, no_matchings_are, inert_entry_is, seconds_count, orders_have_each, own_name_is}
use Rattle.sm_instance.proofs.witnesses.small_instances.Goals as goal

pub returns-clause-nobody : goal.returns-clause-nobody
returns-clause-nobody c = nobody_blocks_is

pub returns-clause-free_place : goal.returns-clause-free_place
returns-clause-free_place c = free_place_blocks_is

pub returns-clause-worse_resident : goal.returns-clause-worse_resident
returns-clause-worse_resident c = worse_resident_blocks_is

pub returns-clause-no_matching : goal.returns-clause-no_matching
returns-clause-no_matching c = no_matchings_are

pub returns-clause-inert_entry : goal.returns-clause-inert_entry
returns-clause-inert_entry c = inert_entry_is

pub returns-clause-second_weights : goal.returns-clause-second_weights
returns-clause-second_weights c = seconds_count

pub returns-clause-orders : goal.returns-clause-orders
returns-clause-orders c = orders_have_each

pub returns-clause-own_name : goal.returns-clause-own_name
returns-clause-own_name c = own_name_is
