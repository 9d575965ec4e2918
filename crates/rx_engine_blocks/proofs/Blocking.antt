-- Blocks one after another are a block.
use Rattle.std.proofs.Common.{List, [], ◌∷◌, ◌++◌, ⊎_elim}
use Rattle.rx_typeck_solver.specs.declared.facts.Subject.{Subject}
use Rattle.rx_typeck_solver.specs.declared.facts.Demand.{Demand}
use Rattle.rx_typeck_solver.specs.Facts.{Assignment, KnownItems, MeetsEach}
use Rattle.rx_engine_blocks.specs.Renumbering.{Renumbering}
use Rattle.rx_engine_blocks.specs.Along.{PartialInverse, Viewed, composed}
use Rattle.rx_engine_blocks.specs.Untested.{untested}
use Rattle.rx_engine_blocks.specs.Blocks.{Behind, Block}
use Rattle.rx_engine_blocks.proofs.Meets.{first}
use Rattle.rx_engine_blocks.proofs.Split.{both_met, literal_split, literal_left, literal_right}

untested_both : (D : KnownItems) (A : Assignment) (xs ys : List Demand) → MeetsEach D A (untested xs) → MeetsEach D A (untested ys) → MeetsEach D A (untested (xs ++ ys))
untested_both D A [] ys h k = k
untested_both D A (x ∷ xs) ys h k = (h.0, untested_both D A xs ys h.1 k)

module _ (r : Renumbering) (u : PartialInverse r) (view : Viewed) (behind : Behind) (IsFixed : Subject → Type 0) (D D' : KnownItems) (A V : Assignment) where
  abbrev B2 : List Demand → List Demand → Type 0
  B2 = Block r u view behind IsFixed D D' A V

  pub no_block : B2 [] []
  no_block = record { there = λ h k. tt; back = λ B C t h k. tt; literal = λ n i. absurd i }

  pub block_then : (es es' gs gs' : List Demand) → B2 es es' → B2 gs gs' → B2 (es ++ gs) (es' ++ gs')
  block_then es es' gs gs' p q = record {
    there = λ h w. let k = first D A es gs h in let l = first D' V es' gs' w in untested_both D' (composed r u view A V) es' gs' (p.there k.0 l.0) (q.there k.1 l.1);
    back = λ B C t h k. let i = first D A es gs h in let j = first D' C es' gs' k in both_met D B es gs (p.back B C t i.0 j.0) (q.back B C t i.1 j.1);
    literal = λ n i. ⊎_elim
        (λ w. let l = p.literal n w in (l.0, literal_left es gs l.0 l.1, l.2))
        (λ w. let l = q.literal n w in (l.0, literal_right es gs l.0 l.1, l.2))
        (literal_split es' gs' n i);
  }
