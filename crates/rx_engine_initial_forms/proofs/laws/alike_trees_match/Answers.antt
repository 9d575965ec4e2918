use Rattle.rx_engine_initial_forms.proofs.Forms.{exp_matches, body_matches, function_matches}
use Rattle.rx_engine_initial_forms.proofs.laws.alike_trees_match.Goals as goal

pub returns : goal.returns
returns c = record {
  expressions = λ S R e f h. exp_matches S h;
  bodies = λ S R b c h. body_matches S h;
  functions = function_matches;
}
