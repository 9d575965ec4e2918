use Rattle.rx_engine_covered.proofs.Copied.{copied_covered, copied_end_covered}
use Rattle.rx_engine_covered.proofs.laws.copied_runs_are_covered.Goals as goal

pub returns-clause-statements : goal.returns-clause-statements
returns-clause-statements c = λ r u view behind D E k A V m loops f n ss ss' h v. copied_covered r u view behind D E A V loops f k m n ss ss' h v

pub returns-clause-with_tail : goal.returns-clause-with_tail
returns-clause-with_tail c = λ r u view behind D E k A V m loops f j n n' ss ss' o o' h g v w. copied_end_covered r u view behind D E A V loops f k m j n n' ss ss' o o' h g v w
