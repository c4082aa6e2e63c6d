use Rattle.srt_hub.proofs.Isolation.{sent_is_front, sent_is_whole, isolated, gateways_isolated}
use Rattle.srt_hub.proofs.OwnSteps.{own_steps_decide, sorting_decides}
use Rattle.srt_hub.proofs.Own.{own_name_decides}
use Rattle.srt_hub.proofs.OtherRoutes.{others_stay}
use Rattle.srt_hub.proofs.laws.isolation.Goals as goal

pub returns-clause-front : goal.returns-clause-front
returns-clause-front c = sent_is_front

pub returns-clause-whole : goal.returns-clause-whole
returns-clause-whole c = sent_is_whole

pub returns-clause-routes : goal.returns-clause-routes
returns-clause-routes c = isolated

pub returns-clause-gateways : goal.returns-clause-gateways
returns-clause-gateways c = gateways_isolated

pub returns-clause-own_steps : goal.returns-clause-own_steps
returns-clause-own_steps c = own_steps_decide

pub returns-clause-sorting : goal.returns-clause-sorting
returns-clause-sorting c = sorting_decides

pub returns-clause-own_name : goal.returns-clause-own_name
returns-clause-own_name c = own_name_decides

pub returns-clause-others : goal.returns-clause-others
returns-clause-others c = others_stay
