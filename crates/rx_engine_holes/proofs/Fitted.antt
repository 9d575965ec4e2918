-- Statements that fit are made anew: nothing else stands in them.
use Rattle.std.proofs.Common.{ℕ, Bool, List}
use Rattle.rx_core.specs.declared.types.Kind.{Kind}
use Rattle.rx_typed.specs.Types.{Shapes, Typ}
use Rattle.rx_typed.specs.Named as named
use Rattle.rx_typed.specs.Named.{Arms, Else, Exp, Exps, Patterns, Statement, Statements, Written, WrittenTypes}
use Rattle.rx_typed.specs.declared.nodes.Node.{Node}
use Rattle.rx_typed.specs.declared.nodes.Site.{Site}
use Rattle.rx_typeck_solver.specs.Facts.{KnownItems}
use Rattle.rx_engine_blocks.specs.Made.{MadeArms, MadeElse, MadeExp, MadeExps, MadePatterns, MadeStatement, MadeStatements, MadeType, MadeTypes}
use Rattle.rx_engine_holes.specs.Entries.{Context, Entries}
use Rattle.rx_engine_holes.specs.Others.{Anywhere}
use Rattle.rx_engine_holes.specs.CallFits.{ArgumentsFit, ArmsFit, EndFits, GivenFits, JumpFits, MembersFit, PartsBind, StatementFits, StatementsFit, ValueFits}
use Rattle.rx_engine_holes.specs.CallFits.GivenFits.{by_itself, borrowed}
use Rattle.rx_engine_holes.specs.CallFits.ArgumentsFit.{no_arguments, more_arguments}
use Rattle.rx_engine_holes.specs.CallFits.MembersFit.{no_members, more_members}
use Rattle.rx_engine_holes.specs.CallFits.ValueFits.{a_call, a_variable, a_tuple, the_unit, a_match}
use Rattle.rx_engine_holes.specs.CallFits.ArmsFit.{no_arms, gives_value, leaves}
use Rattle.rx_engine_holes.specs.CallFits.JumpFits.{a_break, a_continue, a_return, a_return_with, a_jump_behind}
use Rattle.rx_engine_holes.specs.CallFits.PartsBind.{no_parts, more_parts}
use Rattle.rx_engine_holes.specs.CallFits.StatementFits.{done, jumps, bound, several_bound, assigned, given, given_within, declared}
use Rattle.rx_engine_holes.specs.CallFits.StatementsFit.{no_more, a_statement}
use Rattle.rx_engine_holes.specs.CallFits.EndFits.{no_tail, a_tail}

mutual
  type_made : (t : Written) → MadeType Anywhere t
  type_made (named.a_kind n k) = (tt, tt)
  type_made (named.a_bool n) = (tt, tt)
  type_made (named.a_tuple n ts) = ((tt, tt), types_made ts)
  type_made (named.a_reference n m t) = ((tt, tt), type_made t)
  type_made (named.an_item n i ls) = (tt, tt)

  types_made : (ts : WrittenTypes) → MadeTypes Anywhere ts
  types_made named.no_written = tt
  types_made (named.written_and t ts) = (type_made t, types_made ts)

module _ (E : KnownItems) where
  given_made : {B : Context} {e : Exp} {u : Typ} {a : Entries} → GivenFits E B e u a → MadeExp Anywhere e
  given_made (by_itself i y s c) = ((tt, tt), tt)
  given_made (borrowed i y s p w l c) = ((tt, tt), (tt, tt), tt)

  arguments_made : {B : Context} {g k : ℕ} {es : Exps} {a : Entries} → ArgumentsFit E B g k es a → MadeExps Anywhere es
  arguments_made no_arguments = tt
  arguments_made (more_arguments i x xs) = (given_made x, arguments_made xs)

  parts_made : {ts : List Typ} {k : ℕ} {ps : Patterns} {a : Entries} → PartsBind E ts k ps a → MadePatterns Anywhere ps
  parts_made no_parts = tt
  parts_made (more_parts g l xs) = (((tt, tt), tt), parts_made xs)

  members_made : {B : Context} {es : Exps} {ts : Shapes Kind} {a : Entries} → MembersFit E B es ts a → MadeExps Anywhere es
  members_made no_members = tt
  members_made (more_members i y s xs) = (((tt, tt), tt), members_made xs)

  module _ (f : ℕ) where
    mutual
      value_made : {B : Context} {e : Exp} {u t : Typ} {a : Entries} → ValueFits E f B e u t a → MadeExp Anywhere e
      value_made (a_call l x r) = ((tt, tt), arguments_made x)
      value_made (a_variable i y) = ((tt, tt), tt)
      value_made (a_tuple x l) = ((tt, tt), members_made x)
      value_made (the_unit s) = ((tt, tt), ((tt, tt), tt, tt))
      value_made (a_match x s p v y m) = ((tt, tt), value_made x, arms_made y)

      arms_made : {B : Context} {s : Site} {i : ℕ} {u t : Typ} {l : Arms} {a : Entries} → ArmsFit E f B s i u t l a → MadeArms Anywhere l
      arms_made no_arms = tt
      arms_made (gives_value l x r o s q xs) = (((tt, tt), parts_made x), value_made r, arms_made xs)
      arms_made (leaves l x r o s xs) = (((tt, tt), parts_made x), jump_made r, arms_made xs)

      jump_made : {B : Context} {e : Exp} {u : Typ} {a : Entries} → JumpFits E f B e u a → MadeExp Anywhere e
      jump_made a_break = (tt, tt)
      jump_made a_continue = (tt, tt)
      jump_made (a_return r) = ((tt, tt), tt)
      jump_made (a_return_with i x s c) = ((tt, tt), value_made x)
      jump_made (a_jump_behind s x v) = ((tt, tt), ((tt, tt), statements_made x, tt))

      statement_made : {B : Context} {s : Statement} {a : Entries} → StatementFits E f B s a → MadeStatement Anywhere s
      statement_made (done x s) = ((tt, tt), value_made x)
      statement_made (jumps x s) = ((tt, tt), jump_made x)
      statement_made (bound x s i v l) = ((tt, tt), ((tt, tt), tt), tt, value_made x)
      statement_made (several_bound x s i v l bs) = ((tt, tt), ((tt, tt), parts_made bs), tt, value_made x)
      statement_made (assigned i y s z v w c) = ((tt, tt), ((tt, tt), (tt, tt), tt, value_made v))
      statement_made (given i y s v w l) = ((tt, tt), ((tt, tt), (tt, tt), tt, tt, value_made v))
      statement_made (given_within i y s v w) = ((tt, tt), ((tt, tt), (tt, tt), tt, tt, value_made v))
      statement_made (declared {w = w} l k) = ((tt, tt), ((tt, tt), tt), type_made w)

      pub statements_made : {B : Context} {ss : Statements} {a : Entries} → StatementsFit E f B ss a → MadeStatements Anywhere ss
      statements_made no_more = tt
      statements_made (a_statement x xs) = (statement_made x, statements_made xs)

    pub end_made : {B : Context} {n : Node} {d : Bool} {ss : Statements} {o : Else} {a : Entries} → EndFits E f B n d ss o a → MadeStatements Anywhere ss × MadeElse Anywhere o
    end_made (no_tail x k) = (statements_made x, tt)
    end_made (a_tail x y v s z) = (statements_made x, value_made y)
