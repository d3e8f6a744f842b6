use Rattle.rules.proofs.Conflicts.{least_finish_is, greatest_start_is, most_specific_sound, most_specific_complete, resolved_at_decides, resolved_in_decides}
use Rattle.rules.proofs.Boundaries.{boundary_least}
use Rattle.rules.proofs.Places.{ordered_decides}
use Rattle.rules.proofs.laws.searches.Goals as goal

pub returns : goal.returns
returns c =
    record {
      ordered = ordered_decides;
      least_finish = least_finish_is;
      greatest_start = greatest_start_is;
      most_specific = λ R k d r. (most_specific_sound R d r, most_specific_complete R k d r);
      resolved = λ R u v. (resolved_at_decides R u, resolved_in_decides R u v);
      next_boundary = boundary_least;
    }
