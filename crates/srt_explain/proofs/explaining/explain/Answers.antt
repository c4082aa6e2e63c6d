use Rattle.srt_explain.proofs.Told.{gives_first, place_first, all_told}
use Rattle.srt_explain.proofs.explaining.explain.Goals as goal

pub returns-in-Err-clause-all : goal.returns-in-Err-clause-all
returns-in-Err-clause-all c =
    λ u. all_told _ c.faults_in.result (gives_first _ _ c.faults_in.ensures.first (c.in-Err.ensures.gives u))
    (place_first _ _ c.faults_in.ensures.first (c.in-Err.ensures.place u)) (c.faults_in.ensures.others u)

pub returns-in-Err-clause-private : goal.returns-in-Err-clause-private
returns-in-Err-clause-private c = c.faults_in.ensures.private c.in-Err.ensures.private
