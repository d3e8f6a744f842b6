use Rattle.rules.specs.Rules.{insert, delete}
use Rattle.rules.proofs.Conflicts.{agree_one, one_agree, filled_from_free, free_from_filled, insert_decides, delete_decides, conflicting, free_replaced, whole_decides}
use Rattle.rules.proofs.Boundaries.{walk_decides}
use Rattle.rules.proofs.laws.conflict_free_sets.Goals as goal

pub returns : goal.returns
returns c =
    record {
      agree = λ R k d r. (agree_one R k d r, λ e. one_agree R d r e.0 e.1);
      filled = λ R. (filled_from_free R, free_from_filled R);
      insertion = λ R r f a. (insert_decides R r f a, conflicting (insert r R) r.start r.finish);
      removal = λ R u v f. (delete_decides R u v f, conflicting (delete u v R) u v);
      replacement = λ R r s. free_replaced R r s;
      whole = λ last R b. (whole_decides last R b, conflicting R 0 last);
      boundaries = walk_decides;
    }
