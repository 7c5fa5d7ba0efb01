use Rattle.dgt_link.proofs.ActKinds.{all_calm, all_clock_calm, all_faultless, begins_is, break_is, fault_is, loses_step_is, stops_clock_is, stops_is}
use Rattle.dgt_link.proofs.healing.kinds_of_acts.Goals as goal

pub returns-clause-fault : goal.returns-clause-fault
returns-clause-fault c = fault_is

pub returns-clause-loses_step : goal.returns-clause-loses_step
returns-clause-loses_step c = loses_step_is

pub returns-clause-stops : goal.returns-clause-stops
returns-clause-stops c = stops_is

pub returns-clause-stops_clock : goal.returns-clause-stops_clock
returns-clause-stops_clock c = stops_clock_is

pub returns-clause-begins_anew : goal.returns-clause-begins_anew
returns-clause-begins_anew c = begins_is

pub returns-clause-breaks : goal.returns-clause-breaks
returns-clause-breaks c = break_is

pub returns-clause-calm : goal.returns-clause-calm
returns-clause-calm c = all_calm

pub returns-clause-clock_calm : goal.returns-clause-clock_calm
returns-clause-clock_calm c = all_clock_calm

pub returns-clause-faultless : goal.returns-clause-faultless
returns-clause-faultless c = all_faultless
