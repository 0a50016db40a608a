use Rattle.int_tableau.proofs.Reaching.{start_kept}
use Rattle.int_tableau.proofs.laws.pivots_keep_the_start.Goals as goal

pub returns : goal.returns
returns c = λ start old new row col rules in_rows in_columns not_zero pivoted. start_kept start old new row col rules.three_more in_rows in_columns not_zero pivoted
