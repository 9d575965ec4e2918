-- A run with its block's tail: how the new function ends, what the call gives, and what stands in the caller (REM, "Extract method"; Rust Reference,
-- "Block expressions"), as trees with numbers and types.
use Rattle.std.specs.Prelude.{◌≡◌, ℕ, Bool, true, false, List, [], ◌∷◌, Option}
use Rattle.rx_core.specs.declared.types.Kind.{Kind}
use Rattle.rx_typed.specs.declared.nodes.Node.{Node}
use Rattle.rx_typed.specs.Types.{Shapes, tuple_of}
use Rattle.rx_typed.specs.Named as named
use Rattle.rx_typed.specs.Named.{Else, Exp, Exps, is_place, Patterns, Statements, Written}
use Rattle.rx_typed.specs.Tree as tree
use Rattle.rx_typed.specs.Tree.{Body, Mark, Place}
use Rattle.rx_typed.specs.Elaborated.{Assigned, function_body, matched, nested, no_mark, operands, tail, value}
use Rattle.rx_exits_plan.specs.Points.{enters, leaves, next}
use Rattle.rx_exits_plan.specs.Asked.{Asked}
use Rattle.rx_exits_plan.specs.Plan.{Plan}
use Rattle.rx_modes_policy.specs.declared.uses.Mode.{Mode}
use Rattle.rx_engine_simulation.specs.Turns.{Allowance}
use Rattle.rx_engine_simulation.specs.Sights.{How, In, IsNew, Renaming}
use Rattle.rx_engine_simulation.specs.Places.{LikePlace, looking}
use Rattle.rx_engine_simulation.specs.Jumps.{Jumping}
use Rattle.rx_engine_simulation.specs.Endings.{a_marked, Last, with_last}
use Rattle.rx_engine_simulation.specs.Blocks.{before, Stretch}
use Rattle.rx_engine_simulation.specs.Marks.{with_mark}
use Rattle.rx_engine_simulation.specs.Statements.{GivenBack}
use Rattle.rx_engine_simulation.specs.Packing.{as_variant, bare, no_way, Way}
use Rattle.rx_engine_simulation.specs.Like.{LikeExp}
use Rattle.rx_engine_simulation.specs.Units.{GivesUnit}
use Rattle.rx_engine_simulation.specs.Rereads.{Rereads, RereadsBody, RereadsMatched}
use Rattle.rx_engine_related.specs.ByForm.{by_form}
use Rattle.rx_engine_related.specs.Leaving.{HaveThere, left}
use Rattle.rx_engine_related.specs.Tails.{IsTail, TailBecomesCall, TailCallOf, TailEnded, TailHanded}
use Rattle.rx_engine_related.specs.AboutRun.{special_of}
use Rattle.rx_engine_related.specs.Never.{NeverEnds}
use Rattle.rx_engine_made_trees.specs.Statements.{around, BeginsWith, Behind}
use Rattle.rx_engine_made_trees.specs.Entering.{Entered, EnteringNames}
use Rattle.rx_engine_made_trees.specs.Standing.{Answered, MovedTo}
use Rattle.rx_engine_made_trees.specs.Giving.{GivesThem, NamesAll, NamesVariable, TailGives}
use Rattle.rx_engine_made_trees.specs.Handing.{BindsAll, DeclaresAll, HandedNames, HandsOver, PutsBack}

-- the typed expression for the call, alone or matched, where references are read
pub data TailCalled (T : Assigned) (A : Asked) (muts : List Bool) (k : Plan) (J : Jumping) (R : Renaming) (g : ℕ) (es : Exps) (e : Exp) (has : Bool) (Ji : Jumping) (w : Way) : Type 0 where
  tail_called_so : (mc : Mark) (z : tree.Exp) → TailCallOf A muts k J R (tree.call mc g (operands T 0 es)) has Ji w z → Rereads (value T e) z → TailCalled T A muts k J R g es e has Ji w

module _ (T : Assigned) (items : ℕ → ℕ) (gain : Allowance) (U : List ℕ) (special : List ℕ) (J : Jumping) (R : Renaming) where
  abbrev pub IsLike : tree.Exp → tree.Exp → Type 0
  IsLike e e' = LikeExp items (left U) gain (by_form special) 0 J R e e'

  -- the last statements and the tail of the new function, whose body has the node `n`, for the text's tail
  pub data TailEndsTo (n : Node) : tree.Exp → Bool → Way → List ℕ → Statements → Else → Type 0 where
    value_alone : {e e' : tree.Exp} {o : Else} → IsLike e e' → Rereads (tail T n o) e' → TailEndsTo n e true bare [] named.no_statement o
    value_in_variant : {e e' : tree.Exp} {m : Node} {i v : ℕ} {f : Exp} {es : Exps} {xs zs : List ℕ} → IsLike e e' → Rereads (value T f) e' → HaveThere R xs zs → NamesAll T zs es
        → TailEndsTo n e true (as_variant v) xs named.no_statement (named.present (named.variant m i v (named.exp_and f es)))
    value_in_tuple : {e e' : tree.Exp} {j p : Node} {x : ℕ} {m : Bool} {t : Option Written} {f g : Exp} {xs zs : List ℕ} → IsLike e e' → RereadsMatched (matched T f (value T f)) (tree.of_value e') → IsNew R x → (In x zs → ⊥) → HaveThere R xs zs
        → GivesThem T bare (x ∷ zs) g → TailEndsTo n e true bare xs (named.statement_and (named.lets j (named.bind p x m) t f) named.no_statement) (named.present g)
    place_in_tuple : {p p' : Place} {moves : Bool} {m0 m' : Mark} {j b : Node} {x : ℕ} {m : Bool} {t : Option Written} {f g : Exp} {xs zs : List ℕ} → LikePlace R looking p p' → matched T f (value T f) ≡ tree.at_place m' p' → IsNew R x → (In x zs → ⊥)
        → HaveThere R xs zs → GivesThem T bare (x ∷ zs) g → TailEndsTo n (tree.read m0 moves p) true bare xs (named.statement_and (named.lets j (named.bind b x m) t f) named.no_statement) (named.present g)
    unit_dropped : {e e' : tree.Exp} {o : Else} → GivesUnit U e → IsLike e e' → Rereads (tail T n o) e' → TailEndsTo n e false bare [] named.no_statement o
    unit_in_front : {e e' : tree.Exp} {w : Way} {j : Node} {f : Exp} {c : Bool} {o : Else} {xs zs : List ℕ} → GivesUnit U e → IsLike e e' → Rereads (value T f) e' → HaveThere R xs zs → TailGives T w zs o
        → TailEndsTo n e false w xs (named.statement_and (named.evaluates j f c) named.no_statement) o
    never_comes : {e e' : tree.Exp} {o : Else} → IsLike e e' → Rereads (tail T n o) e' → TailEndsTo n e false no_way [] named.no_statement o

  pub data TailEndedSo (n : Node) (e : tree.Exp) (has : Bool) (w : Way) (xs : List ℕ) (ss : Statements) (o : Else) : Type 0 where
    tail_ended_so : (end : Body) → TailEnded items gain U special J R e has w xs end → RereadsBody (nested T ss (tree.give (no_mark n) (tail T n o))) end → TailEndedSo n e has w xs ss o

module _ (T : Assigned) (A : Asked) (muts : List Bool) (k : Plan) (R : Renaming) where
  -- what stands in the caller, at the end of a block: the call as its tail; the value bound in front of what is put back; or the unit
  pub data HandsTail (e : Exp) : Bool → List ℕ → List ℕ → List ℕ → Statements → Statements → Else → Type 0 where
    gives_value : HandsTail e true [] [] [] named.no_statement named.no_statement (named.present e)
    value_first : {x o : ℕ} {xs os : List ℕ} {n p : Node} {ps : Patterns} {t : Option Written} {ts : Shapes Kind} {ss : Statements} {v : Exp} → T.typ p.number ≡ tuple_of ts → is_place e ≡ false → BindsAll (o ∷ os) ps → IsNew R o → (In o os → ⊥)
        → PutsBack T A muts k R (x ∷ xs) os ss → NamesVariable T o v → HandsTail e true (x ∷ xs) os [] (named.statement_and (named.lets n (named.tuple_pattern p ps) t e) ss) named.no_statement (named.present v)
    gives_unit : {xs os ys : List ℕ} {ss ds : Statements} → HandsOver T A muts k R e xs os ss → DeclaresAll ys ds → HandsTail e false xs os ys ss ds named.absent

  -- `F` is what the block's end makes of it: nothing, or a function's body gives it
  pub data TailStands (J : Jumping) (Rb : Renaming) (l : Last) (n : Node) (z : tree.Exp) (has : Bool) (w : Way) (xs : List ℕ) (ss ds : Statements) (o : Else) (F : tree.Exp → tree.Exp) : Type 0 where
    tail_stands : (Rn : Renaming) (f : Body → Body) → TailHanded A muts k J R Rb l z has w xs Rn f → ((b : Body) → RereadsBody (around T ss (around T ds (tree.ends (F (tail T n o))))) (f b)) → TailStands J Rb l n z has w xs ss ds o F

-- What is asked of a run with its block's tail, `e`, where the text's block ends with `l`: `lasts` are the last statements of the new function, `o` is the
-- tail of what stands in the caller.
pub record AsksTail (A : Asked) (muts : List Bool) (k : Plan) (modes : List Mode) (items : ℕ → ℕ) (gain : Allowance) (U : List ℕ) (J : Jumping) (R : Renaming) (r : Stretch) (l : Last) (e : tree.Exp) (Q : Answered) : Type 0 where
  pub cold : List ℕ
  pub hows : List How
  pub jumps : Jumping
  pub way : Way
  pub has : Bool
  -- where the run ends in the new function, from where that begins
  pub after : Renaming → Renaming
  pub received : List ℕ
  pub redeclared : List ℕ
  pub lasts : Statements
  pub rest : Statements
  pub place : Node
  pub o : Else
  pub F : tree.Exp → tree.Exp
  -- the block ends with the tail, or a function's body gives it: so does what stands for it
  pub is_tail : IsTail k l e
  pub back : GivenBack J l F
  -- as of a run without its tail
  pub entering : EnteringNames Q.T gain.strays R cold k modes Q.es hows Q.params Q.locals
  pub begins : BeginsWith Q.locals rest Q.all
  pub behind : Behind Q.rs lasts rest
  pub moved : (inside : Renaming) → Entered gain.strays R k modes (operands Q.T 0 Q.es) hows Q.params Q.locals inside → MovedTo Q.S items gain U (special_of A muts k) jumps inside r Q.rs (after inside)
  pub ends : (inside : Renaming) → Entered gain.strays R k modes (operands Q.T 0 Q.es) hows Q.params Q.locals inside → TailEndsTo Q.S items gain U (special_of A muts k) jumps (after inside) Q.node e has way (k.outs next) lasts Q.end
  pub never : way ≡ no_way → NeverEnds (a_marked e (leaves next)) r
  pub called : TailCalled Q.T A muts k J R Q.g Q.es Q.e has jumps way
  pub names : (inside : Renaming) → Entered gain.strays R k modes (operands Q.T 0 Q.es) hows Q.params Q.locals inside → HandedNames A muts k R (after inside) received redeclared
  pub hands : HandsTail Q.T A muts k R Q.e has (k.outs next) received redeclared Q.ss Q.ds o

pub data StandsForTail (A : Asked) (muts : List Bool) (k : Plan) (modes : List Mode) (items : ℕ → ℕ) (gain : Allowance) (U : List ℕ) (J : Jumping) (R : Renaming) (r : Stretch) (l : Last) (Q : Answered) (n : Node) (o : Else) (F : tree.Exp → tree.Exp) : Type 0 where
  stands_for_tail : (f : tree.Exp) (Rn : Renaming) (h : Body → Body) → Rereads (function_body Q.S (named.body Q.node Q.all Q.end)) f
      → ((rest : Body) → TailBecomesCall A muts k modes items gain U (record { number = Q.g; function = record { params = Q.params; body = f } }) 1 J R Rn rest (λ b. before (with_mark enters k.params r) (with_last l b)) h)
      → ((b : Body) → RereadsBody (around Q.T Q.ss (around Q.T Q.ds (tree.ends (F (tail Q.T n o))))) (h b)) → StandsForTail A muts k modes items gain U J R r l Q n o F
