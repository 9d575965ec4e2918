-- A run that holds its block's tail: how the new function ends, what the call gives, and what the caller does with it (REM, "Extract method":
-- outputs; Rust Reference, "Block expressions", "return expressions"). The value is the function's, alone, or in a variant or a tuple with what
-- is handed out behind it; a unit is dropped, and stands again at the end of what is in place of the run.
use Rattle.std.specs.Prelude.{◌≡◌, ℕ, Bool, true, false, List, [], ◌∷◌, length, Some}
use Rattle.rx_typed.specs.Tree as tree
use Rattle.rx_typed.specs.Tree.{Mark, Place, Exp, Operands, Arms, Body, Subpatterns}
use Rattle.rx_lower_walks.specs.Walks.{Among}
use Rattle.rx_exits_plan.specs.Points.{next, enters, leaves}
use Rattle.rx_exits_plan.specs.Asked.{Asked}
use Rattle.rx_exits_plan.specs.Plan.{Plan}
use Rattle.rx_modes_policy.specs.declared.uses.Mode.{Mode}
use Rattle.rx_engine_simulation.specs.Turns.{Allowance}
use Rattle.rx_engine_simulation.specs.Sights.{In, Renaming, IsNew}
use Rattle.rx_engine_simulation.specs.Places.{looking, LikePlace}
use Rattle.rx_engine_simulation.specs.Jumps.{Jumping}
use Rattle.rx_engine_simulation.specs.Like.{LikeExp}
use Rattle.rx_engine_simulation.specs.Openings.{Openings}
use Rattle.rx_engine_simulation.specs.Passed.{let_pass}
use Rattle.rx_engine_simulation.specs.Passing.{New, inner_jumps}
use Rattle.rx_engine_simulation.specs.Arrivals.{Within}
use Rattle.rx_engine_simulation.specs.Blocks.{Stretch, before}
use Rattle.rx_engine_simulation.specs.Marks.{with_mark}
use Rattle.rx_engine_simulation.specs.Endings.{Last, a_marked, a_tail, an_end, with_last}
use Rattle.rx_engine_simulation.specs.Handing.{Receiving}
use Rattle.rx_engine_simulation.specs.Packing.{Way, bare, as_variant, no_way, Takes, TakesAll, Gives, Receives, Picks, AreNew}
use Rattle.rx_engine_simulation.specs.Statements.{GivenBack, count, body_of}
use Rattle.rx_engine_simulation.specs.Units.{GivesUnit}
use Rattle.rx_engine_related.specs.AboutRun.{special_of}
use Rattle.rx_engine_related.specs.Premises.{NotHanded}
use Rattle.rx_engine_related.specs.ByForm.{by_form}
use Rattle.rx_engine_related.specs.Given.{EntersWith}
use Rattle.rx_engine_related.specs.Moved.{Moved}
use Rattle.rx_engine_related.specs.Handed.{PutBack, HandsBack, Redeclared}
use Rattle.rx_engine_related.specs.Leaving.{HaveThere, left, variant_for, jumps_of, ArmsOf}
use Rattle.rx_engine_related.specs.Never.{NeverEnds}

-- The new function's end, for the tail's expression: whether the run has a value, how values are given, and which variables of the text are
-- handed out.
pub data TailEnded (items : ℕ → ℕ) (gain : Allowance) (U : List ℕ) (special : List ℕ) (J : Jumping) (R : Renaming) : Exp → Bool → Way → List ℕ → Body → Type 0 where
  -- the value alone
  tail_value : {e e' : Exp} {m : Mark} → LikeExp items (left U) gain (by_form special) 0 J R e e' → TailEnded items gain U special J R e true bare [] (tree.ends (tree.give m e'))
  -- in a variant, with values of variables behind it
  tail_in_variant : {e e' : Exp} {i v : ℕ} {xs zs : List ℕ} {m w : Mark} {es : Operands} → LikeExp items (left U) gain (by_form special) 0 J R e e' → HaveThere R xs zs → TakesAll 1 zs es
      → TailEnded items gain U special J R e true (as_variant v) xs (tree.ends (tree.give m (tree.build w (tree.variant_of i v) (tree.operand_and 0 e' es))))
  -- in a tuple with them, bound first; a place is looked into
  tail_in_tuple : {e e' g : Exp} {n k o : ℕ} {xs zs : List ℕ} {mutable : Bool} {m : Mark} → LikeExp items (left U) gain (by_form special) 0 J R e e' → IsNew R o → (In o zs → ⊥) → HaveThere R xs zs → Gives bare (o ∷ zs) g
      → TailEnded items gain U special J R e true bare xs (tree.lets n (tree.bind k o (tree.by_value mutable)) (tree.of_value e') (tree.ends (tree.give m g)))
  place_in_tuple : {p p' : Place} {moves mutable : Bool} {m0 m m' : Mark} {g : Exp} {n k o : ℕ} {xs zs : List ℕ} → LikePlace R looking p p' → IsNew R o → (In o zs → ⊥) → HaveThere R xs zs → Gives bare (o ∷ zs) g
      → TailEnded items gain U special J R (tree.read m0 moves p) true bare xs (tree.lets n (tree.bind k o (tree.by_value mutable)) (tree.at_place m' p') (tree.ends (tree.give m g)))
  -- a unit that is dropped: the tail is the function's, or it stands in front
  tail_dropped : {e e' : Exp} {m : Mark} → GivesUnit U e → LikeExp items (left U) gain (by_form special) 0 J R e e' → TailEnded items gain U special J R e false bare [] (tree.ends (tree.give m e'))
  tail_in_front : {e e' g : Exp} {w : Way} {xs zs : List ℕ} {m : Mark} → GivesUnit U e → LikeExp items (left U) gain (by_form special) 0 J R e e' → HaveThere R xs zs → Gives w zs g
      → TailEnded items gain U special J R e false w xs (tree.runs e' (tree.ends (tree.give m g)))
  -- the end is not come to
  tail_left : {e e' : Exp} {m : Mark} → LikeExp items (left U) gain (by_form special) 0 J R e e' → TailEnded items gain U special J R e false no_way [] (tree.ends (tree.give m e'))

-- what the call gives, with the jumps of its function and how this ends
pub data TailCallOf (A : Asked) (muts : List Bool) (k : Plan) (J : Jumping) (R : Renaming) (called : Exp) (has : Bool) : Jumping → Way → Exp → Type 0 where
  tail_call_alone : k.exits ≡ next ∷ [] → TailCallOf A muts k J R called has inner_jumps bare called
  tail_call_matched : {v : ℕ} {m : Mark} {l : Arms} {qs : List ℕ} {ps : Subpatterns} {e : Exp} (unit : Bool) → variant_for k next ≡ Some v → ArmsOf A muts k unit J R l → Picks l v ps e → Receives 0 qs ps → AreNew R qs → Gives bare qs e → length qs ≡ count has (k.outs next)
      → TailCallOf A muts k J R called has (jumps_of A muts k unit) (as_variant v) (tree.choose m (tree.of_value called) l)
  tail_call_left : {m : Mark} {l : Arms} (unit : Bool) → (Among next k.exits → ⊥) → ArmsOf A muts k unit J R l → TailCallOf A muts k J R called has (jumps_of A muts k unit) no_way (tree.choose m (tree.of_value called) l)

-- what stands in place of the run and the tail, with the variables of what follows, which is nothing
pub data TailHanded (A : Asked) (muts : List Bool) (k : Plan) (J : Jumping) (R Rb : Renaming) (l : Last) (called : Exp) : Bool → Way → List ℕ → Renaming → (Body → Body) → Type 0 where
  -- the value
  value_back : {w : Way} {Rn : Renaming} {f : Exp → Exp} → NotHanded A muts k next R → GivenBack J l f → TailHanded A muts k J R Rb l called true w [] Rn (λ b. tree.ends (f called))
  -- behind what is done with the others
  value_behind : {w : Way} {n x o : ℕ} {xs os : List ℕ} {ps : Subpatterns} {e : Exp} {Rn : Renaming} {g : Body → Body} {f : Exp → Exp} (Rs Rr Rd : Renaming) → Within Rs R → NotHanded A muts k next Rs → IsNew R o → (In o os → ⊥)
      → Receiving R Rs (x ∷ xs) os Rr → Receives 0 (o ∷ os) ps → PutBack A muts k R Rr (x ∷ xs) os g Rd → Within R Rd → Takes o e → GivenBack J l f
      → TailHanded A muts k J R Rb l called true w (x ∷ xs) Rn (λ b. tree.lets n (tree.parts ps) (tree.of_value called) (g (tree.ends (f e))))
  -- the unit again
  unit_behind : {w : Way} {xs : List ℕ} {Rn : Renaming} {g h : Body → Body} {f : Exp → Exp} {m : Mark} (Rs Rr Rd : Renaming) → Within Rs R → NotHanded A muts k next Rs → HandsBack A muts k R called Rs xs Rr g
      → Redeclared Rb Rr k.redeclared h Rd → GivenBack J l f → Within Rn Rd → Within R Rn → TailHanded A muts k J R Rb l called false w xs Rn (λ b. g (h (tree.ends (f (tree.unit m)))))
  -- what follows is not come to
  nothing_behind : {Rn : Renaming} {g : Body → Body} → TailHanded A muts k J R Rb l called false no_way [] Rn (λ b. tree.runs called (g b))

-- What is left of the run behind its statements, in the text, which lets the tail pass: the tail of a block, or the end of a function's body, which
-- gives it. There nothing is handed out besides, since nothing is needed behind it.
pub data IsTail (k : Plan) : Last → Exp → Type 0 where
  of_block : {e : Exp} → IsTail k (a_tail (let_pass e)) e
  of_body : {m : Mark} {e : Exp} → k.outs next ≡ [] → IsTail k (an_end m (let_pass e)) e

-- the run with its tail, in which place the call stands
pub data TailBecomesCall (A : Asked) (muts : List Bool) (k : Plan) (modes : List Mode) (items : ℕ → ℕ) (gain : Allowance) (U : List ℕ) (N : New) : ℕ → Jumping → Renaming → Renaming → Body → (Body → Body) → (Body → Body) → Type 0 where
  tail_becomes_call : {J Ji : Jumping} {R Rn : Renaming} {r r' : Stretch} {l : Last} {e : Exp} {has : Bool} {w : Way} {rest end : Body} {es : Operands} {mc : Mark} {called : Exp} {f' : Body → Body} (Ra Rb : Renaming) (mb : Mark) (ls : List (ℕ × ℕ))
      → IsTail k l e → N.function.body ≡ body_of mb ls r' end → EntersWith gain.strays k modes R es N.function.params ls Ra
      → Moved items gain U (special_of A muts k) Ji Ra r r' Rb → TailEnded items gain U (special_of A muts k) Ji Rb e has w (k.outs next) end
      → (w ≡ no_way → NeverEnds (a_marked e (leaves next)) r) → TailCallOf A muts k J R (tree.call mc N.number es) has Ji w called → TailHanded A muts k J R Rb l called has w (k.outs next) Rn f'
      → TailBecomesCall A muts k modes items gain U N 1 J R Rn rest (λ b. before (with_mark enters k.params r) (with_last l b)) f'

abbrev pub the_tail_call : Asked → List Bool → Plan → List Mode → (ℕ → ℕ) → Allowance → List ℕ → New → Openings
the_tail_call A muts k modes items gain U N = record {
  expression = λ V a J R e f g. ⊥;
  statements = λ V a J R S b f g. TailBecomesCall A muts k modes items gain U N a J R S b f g;
}
