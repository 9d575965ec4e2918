-- A function that is related to the answer's but for the run's block: with marks in that block it is related to it; or the block was not met, and it
-- is the answer's by other numbers.
use Rattle.std.proofs.Common.{◌⊎◌, ◌≤◌, ℕ, Bool, List, [], arith}
use Rattle.rx_typed.specs.Tree.{Exp, Body, Function}
use Rattle.rx_exits_plan.specs.Spots.{spots_of_function}
use Rattle.rx_exits_plan.specs.Asked.{Asked}
use Rattle.rx_exits_plan.specs.Plan.{Plan}
use Rattle.rx_engine_simulation.specs.Turns.{Allowance}
use Rattle.rx_engine_simulation.specs.Sights.{Renaming}
use Rattle.rx_engine_simulation.specs.Jumps.{Jumping}
use Rattle.rx_engine_simulation.specs.Openings.{Openings, no_openings}
use Rattle.rx_engine_related.specs.AboutRun.{special_of}
use Rattle.rx_engine_related.specs.OneSite.{blocks_at}
use Rattle.rx_engine_related.specs.Running.{running_body, running_of}
use Rattle.rx_engine_related.specs.Tailed.{tailed_body, tailed_of}
use Rattle.rx_engine_related.specs.ByForm.{by_form, RelatedFunction}
use Rattle.rx_engine_related.specs.InBlock.{RunBlock, run_block, in_its_block}
use Rattle.rx_engine_related.specs.ExtractsTail.{TailBlock, tail_block, in_its_tail_block}
use Rattle.rx_engine_related.proofs.Weaker.{Opens, weaker_exp}
use Rattle.rx_engine_related.proofs.MetBlock.{AnInside, an_inside, inside_openings, inside_or_plain}

module _ (A : Asked) (muts : List Bool) (k : Plan) (items : ℕ → ℕ) (O : Openings) (gain : Allowance) (same : Opens O O (by_form (special_of A muts k)) (by_form (special_of A muts k)) (λ J. Unit {0})) where
  abbrev most : List ℕ
  most = special_of A muts k

  module _ (text : Body → Body) (Within : Openings) (opens : Opens Within (inside_openings A.run.block text most items O gain) (by_form most) (by_form most) (λ J. Unit {0})) where
    as_inside : {g g' : Function} → RelatedFunction items Within gain most g g' → RelatedFunction items (inside_openings A.run.block text most items O gain) gain most g g'
    as_inside r = record {
      inside = r.inside;
      params = r.params;
      body = weaker_exp items Within (inside_openings A.run.block text most items O gain) gain gain (omega arith) (by_form most) (by_form most) (λ J. Unit {0}) opens (omega arith) tt r.body;
    }

  abbrev running_text : Body → Body
  running_text b = running_body A.run A.home.around.loops k.params b

  abbrev tailed_text : Body → Body
  tailed_text b = tailed_body A.run A.home.around.loops k.params b

  -- a whole function
  pub marked_or_plain : (g' : Function) → blocks_at A.run.block (spots_of_function A.function) ≤ 1 → RelatedFunction items (in_its_block A muts k items O gain) gain most A.function g'
      → RelatedFunction items O gain most (running_of A k.params) g' ⊎ RelatedFunction items no_openings gain [] A.function g'
  marked_or_plain g' one r = inside_or_plain A.run.block running_text most items O gain same A.function g' one (as_inside running_text (in_its_block A muts k items O gain)
      (record { special = λ x i. i; into = λ J l n ok. ok; expression = λ a J R e f f' ok o. inside_run o; statements = λ a J R S b f f' ok o. absurd o }) r)
    where
      inside_run : {a : ℕ} {J : Jumping} {R : Renaming} {f f' : Exp → Exp} → RunBlock A muts k items O gain a J R f f' → AnInside A.run.block running_text most items O gain a J R f f'
      inside_run (run_block is l) = an_inside is l

  pub tailed_or_plain : (g' : Function) → blocks_at A.run.block (spots_of_function A.function) ≤ 1 → RelatedFunction items (in_its_tail_block A muts k items O gain) gain most A.function g'
      → RelatedFunction items O gain most (tailed_of A k.params) g' ⊎ RelatedFunction items no_openings gain [] A.function g'
  tailed_or_plain g' one r = inside_or_plain A.run.block tailed_text most items O gain same A.function g' one (as_inside tailed_text (in_its_tail_block A muts k items O gain)
      (record { special = λ x i. i; into = λ J l n ok. ok; expression = λ a J R e f f' ok o. inside_tail o; statements = λ a J R S b f f' ok o. absurd o }) r)
    where
      inside_tail : {a : ℕ} {J : Jumping} {R : Renaming} {f f' : Exp → Exp} → TailBlock A muts k items O gain a J R f f' → AnInside A.run.block tailed_text most items O gain a J R f f'
      inside_tail (tail_block is l) = an_inside is l
