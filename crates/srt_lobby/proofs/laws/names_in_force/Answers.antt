use Rattle.srt_lobby.proofs.InForce.{last_given_are_in_force, last_given_decide, classes_are_by_names_in_force}
use Rattle.srt_lobby.proofs.laws.names_in_force.Goals as goal

pub returns : goal.returns
returns c =
    record {
      given = last_given_are_in_force;
      decide = last_given_decide;
      classes = classes_are_by_names_in_force;
    }
