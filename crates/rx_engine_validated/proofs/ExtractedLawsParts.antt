-- What is asked of the parts of a call: of each that is found, what the extraction has it; with the answer's trees in which some references are
-- read that it asks for again.
use Rattle.std.specs.Prelude.{◌≡◌, ℕ, Bool, true, List}
use Rattle.rx_typed.specs.Tree as tree
use Rattle.rx_typed.specs.Tree.{Mark, Exp, Operands, Body}
use Rattle.rx_exits_plan.specs.Points.{next}
use Rattle.rx_exits_plan.specs.Asked.{Asked}
use Rattle.rx_engine_simulation.specs.Sights.{Renaming}
use Rattle.rx_engine_simulation.specs.Jumps.{Jumping}
use Rattle.rx_engine_simulation.specs.Arrivals.{Within}
use Rattle.rx_engine_simulation.specs.Blocks.{with_locals}
use Rattle.rx_engine_simulation.specs.Rereads.{Rereads, RereadsAll, RereadsBody}
use Rattle.rx_engine_related.specs.Premises.{NotHanded}
use Rattle.rx_engine_related.specs.Given.{EntersWith}
use Rattle.rx_engine_related.specs.Handed.{HandsBack, Redeclared}
use Rattle.rx_engine_related.specs.Standing.{CallOf}
use Rattle.rx_engine_related.specs.Tails.{TailCallOf}
use Rattle.rx_engine_alike_laws.proofs.Promised.{Promised, Says}
use Rattle.rx_engine_extracted.specs.Told.{Told, specials_among, without}
use Rattle.rx_engine_extracted.specs.Entering.{Begun, entered}
use Rattle.rx_engine_extracted.specs.Handing.{Put, Stood, hands_back, redeclared, is_within}
use Rattle.rx_engine_extracted.specs.Calls.{Called, called_by}

-- the new function's body behind its locals, and what it is given
pub data EnteredSo (T : Told) (R : Renaming) (es : Operands) (b : Body) (B : Begun) : Type 0 where
  entered_so : {fs : Operands} {ls : List (ℕ × ℕ)} → RereadsAll es fs → EntersWith true T.plan T.modes R fs T.new.function.params ls B.inside → b ≡ with_locals ls B.rest → EnteredSo T R es b B

-- around any expression that is read for the one that is called
pub data HandedSo (A : Asked) (T : Told) (R Rs : Renaming) (outs : List ℕ) (b : Body) (S : Stood) (called : Exp) : Type 0 where
  handed_so : {g : Body → Body} → HandsBack A T.muts T.plan R called Rs outs S.inside g → ((rest : Body) → RereadsBody S.rest rest → RereadsBody b (g rest)) → HandedSo A T R Rs outs b S called

abbrev pub HandsSo : Asked → Told → Renaming → Renaming → List ℕ → Body → Stood → Type 0
HandsSo A T R Rs outs b S = (called : Exp) → Rereads S.called called → HandedSo A T R Rs outs b S called

pub data RedeclaredSo (Rb Rc : Renaming) (xs : List ℕ) (b : Body) (D : Put) : Type 0 where
  redeclared_so : {f : Body → Body} → Redeclared Rb Rc xs f D.inside → ((rest : Body) → RereadsBody D.rest rest → RereadsBody b (f rest)) → RedeclaredSo Rb Rc xs b D

-- with any operands that are read for those of the call
pub data CalledSo (A : Asked) (T : Told) (J : Jumping) (R : Renaming) (e : Exp) (K : Called) (fs : Operands) : Type 0 where
  called_so : {called : Exp} {mc : Mark} → Rereads e called → CallOf A T.muts T.plan J R (tree.call mc T.new.number fs) K.jumping K.way called → CalledSo A T J R e K fs

abbrev pub CallsSo : Asked → Told → Jumping → Renaming → Exp → Called → Type 0
CallsSo A T J R e K = (fs : Operands) → RereadsAll K.operands fs → CalledSo A T J R e K fs

-- where the run has a value, or hasn't
pub data TailCalledSo (A : Asked) (T : Told) (has : Bool) (J : Jumping) (R : Renaming) (e : Exp) (K : Called) (fs : Operands) : Type 0 where
  tail_called_so : {called : Exp} {mc : Mark} → Rereads e called → TailCallOf A T.muts T.plan J R (tree.call mc T.new.number fs) has K.jumping K.way called → TailCalledSo A T has J R e K fs

abbrev pub TailCallsSo : Asked → Told → Bool → Jumping → Renaming → Exp → Called → Type 0
TailCallsSo A T has J R e K = (fs : Operands) → RereadsAll K.operands fs → TailCalledSo A T has J R e K fs

pub record Parts (A : Asked) (T : Told) : Type 0 where
  pub enters : (R : Renaming) (es : Operands) (b : Body) → Promised (λ B. EnteredSo T R es b B) (entered T R es b)
  pub hands : (R Rs : Renaming) (outs : List ℕ) (b : Body) → Promised (λ S. HandsSo A T R Rs outs b S) (hands_back T R Rs outs b)
  pub declares : (Rb Rc : Renaming) (xs : List ℕ) (b : Body) → Promised (λ D. RedeclaredSo Rb Rc xs b D) (redeclared Rb Rc xs b)
  pub calls : (J : Jumping) (R : Renaming) (e : Exp) → Promised (λ K. CallsSo A T J R e K) (called_by T J R e)
  pub within : (R S : Renaming) → Says (Within R S) (is_within R S)
  -- what is handed out is left out of the variables outside
  pub less : (xs : List ℕ) (R : Renaming) → Within (without xs R) R
  pub not_handed : (R : Renaming) → Says (NotHanded A T.muts T.plan next (without (T.plan.outs next) R)) (specials_among R T.elsewhere)
