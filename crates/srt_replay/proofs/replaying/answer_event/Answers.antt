use Rattle.srt_replay.proofs.replaying.answer_event.Goals as goal

pub returns-in-Arrival-clause-answered : goal.returns-in-Arrival-clause-answered
returns-in-Arrival-clause-answered g c secret entries past h = rw c.in-Arrival.is (c.answer_arrival.ensures.answered secret entries past h)

pub returns-in-Tick-clause-answered : goal.returns-in-Tick-clause-answered
returns-in-Tick-clause-answered g c secret entries past h = rw c.in-Tick.is (c.answer_tick.ensures.answered secret entries past h)

pub returns-in-Turn-clause-answered : goal.returns-in-Turn-clause-answered
returns-in-Turn-clause-answered g c secret entries past h = rw c.in-Turn.is (c.answer_turn.ensures.answered secret entries past h)

pub returns-in-Send-clause-answered : goal.returns-in-Send-clause-answered
returns-in-Send-clause-answered g c secret entries past h = rw c.in-Send.is (c.answer_send.ensures.answered secret entries past h)

pub returns-in-Opens-clause-answered : goal.returns-in-Opens-clause-answered
returns-in-Opens-clause-answered g c secret entries past h = rw c.in-Opens.is (c.answer_opening.ensures.answered secret entries past h)

pub returns-in-Closes-clause-answered : goal.returns-in-Closes-clause-answered
returns-in-Closes-clause-answered g c secret entries past h = rw c.in-Closes.is (c.answer_closing.ensures.answered secret entries past h)
