-- What holds of the tests in a function holds of those in each of its blocks, and in the statements of a run there.
use Rattle.std.proofs.Common.{ℕ, zero, suc, Bool, List, [], ◌∷◌, ◌++◌}
use Rattle.std.specs.Prelude.{take, drop}
use Rattle.rx_typed.specs.Tree as tree
use Rattle.rx_typed.specs.Tree.{Exp, Operands, Scrutinee, Arms, Body}
use Rattle.rx_lower_walks.specs.Walks.{Among, here, there}
use Rattle.rx_exits_plan.specs.Blocks.{Statement, statements, bound}
use Rattle.rx_exits_plan.specs.Spots.{Around, with_variables, with_loop, Spot, a_block, a_jump, a_return, spots, spots_in, spots_matched, spots_armed, spots_of}
use Rattle.rx_engine_validated.proofs.Forms.{TestsStay, OperandsStay, MatchedStays, ArmsStay, BodyStays, StatementsStay}

abbrev EachStays : List Spot → Type 0
EachStays l = (c : Around) (n : ℕ) (b : Body) → Among (a_block c n b) l → BodyStays b

both_stay : (l m : List Spot) → EachStays l → EachStays m → EachStays (l ++ m)
both_stay [] m p q c n b i = q c n b i
both_stay (_ ∷ l) m p q c n b here = p c n b here
both_stay (s ∷ l) m p q c n b (there k) = both_stay l m (λ c n b i. p c n b (there i)) q c n b k

no_spot : EachStays []
no_spot c n b i = elim i [ ]

a_jump_stays : (a : Around) (n l : ℕ) (again : Bool) → EachStays (a_jump a n l again ∷ [])
a_jump_stays a n l again c k b (there i) = elim i [ ]

a_return_stays : (a : Around) (n : ℕ) → EachStays (a_return a n ∷ [])
a_return_stays a n c k b (there i) = elim i [ ]

block_first : (a : Around) (n : ℕ) (b : Body) → BodyStays b → EachStays (spots_of a b) → EachStays (a_block a n b ∷ spots_of a b)
block_first a n b h f _ _ _ here = h
block_first a n b h f c k d (there i) = f c k d i

mutual
  pub blocks_stay : (a : Around) (e : Exp) → TestsStay e → EachStays (spots a e)
  blocks_stay a (tree.read m v p) h = no_spot
  blocks_stay a (tree.borrow m k p) h = no_spot
  blocks_stay a (tree.share m e) h = blocks_stay a e h
  blocks_stay a (tree.build m w es) h = in_operands a es h
  blocks_stay a (tree.unit m) h = no_spot
  blocks_stay a (tree.lazily m b e f) h = both_stay (spots a e) (spots a f) (blocks_stay a e h.0) (blocks_stay a f h.1)
  blocks_stay a (tree.assign m p e) h = blocks_stay a e h
  blocks_stay a (tree.update m o p e) h = blocks_stay a e h
  blocks_stay a (tree.call m f es) h = in_operands a es h
  blocks_stay a (tree.input m) h = no_spot
  blocks_stay a (tree.print m e) h = blocks_stay a e h
  blocks_stay a (tree.block m b) h = block_first a m.node b h (in_body a b h)
  blocks_stay a (tree.choose m s r) h = both_stay (spots_matched a s) (spots_armed a r) (in_matched a s h.0) (in_arms a r h.1)
  blocks_stay a (tree.loop m l e) h = blocks_stay (with_loop l a) e h.1
  blocks_stay a (tree.jump m l again) h = a_jump_stays a m.node l again
  blocks_stay a (tree.give m e) h = both_stay (spots a e) (a_return a m.node ∷ []) (blocks_stay a e h) (a_return_stays a m.node)

  in_operands : (a : Around) (es : Operands) → OperandsStay es → EachStays (spots_in a es)
  in_operands a tree.no_operand h = no_spot
  in_operands a (tree.operand_and i e es) h = both_stay (spots a e) (spots_in a es) (blocks_stay a e h.0) (in_operands a es h.1)

  in_matched : (a : Around) (s : Scrutinee) → MatchedStays s → EachStays (spots_matched a s)
  in_matched a (tree.at_place m p) h = no_spot
  in_matched a (tree.of_value e) h = blocks_stay a e h

  in_arms : (a : Around) (r : Arms) → ArmsStay r → EachStays (spots_armed a r)
  in_arms a tree.no_arm h = no_spot
  in_arms a (tree.arm_and p e r) h = both_stay (spots (with_variables (bound p) a) e) (spots_armed a r) (blocks_stay (with_variables (bound p) a) e h.0) (in_arms a r h.1)

  in_body : (a : Around) (b : Body) → BodyStays b → EachStays (spots_of a b)
  in_body a (tree.ends e) h = blocks_stay a e h
  in_body a (tree.runs e b) h = both_stay (spots a e) (spots_of a b) (blocks_stay a e h.0) (in_body a b h.1)
  in_body a (tree.declares s xs b) h = in_body (with_variables xs a) b h
  in_body a (tree.lets s p c b) h = both_stay (spots_matched a c) (spots_of (with_variables (bound p) a) b) (in_matched a c h.0) (in_body (with_variables (bound p) a) b h.1)

-- ---- statements of a block

pub statements_of_block : (b : Body) → BodyStays b → StatementsStay (statements b)
statements_of_block (tree.ends e) h = tt
statements_of_block (tree.runs e b) h = (h.0, statements_of_block b h.1)
statements_of_block (tree.declares s xs b) h = (tt, statements_of_block b h)
statements_of_block (tree.lets s p c b) h = (h.0, statements_of_block b h.1)

pub behind_first : (n : ℕ) (ss : List Statement) → StatementsStay ss → StatementsStay (drop n ss)
behind_first zero ss h = h
behind_first (suc n) [] h = h
behind_first (suc n) (s ∷ ss) h = behind_first n ss h.1

pub first_ones : (n : ℕ) (ss : List Statement) → StatementsStay ss → StatementsStay (take n ss)
first_ones zero ss h = tt
first_ones (suc n) [] h = h
first_ones (suc n) (s ∷ ss) h = (h.0, first_ones n ss h.1)
