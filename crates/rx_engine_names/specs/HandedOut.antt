-- What is done with what a call hands out (REM, "Extract function", outputs and control flow; Rust Reference, "Match expressions", "let
-- statements", "Assignment expressions", "break expressions"): the trees of what stands in place of a run. A variable that is made there is
-- told by its number: the first of a row has number d.
use Rattle.std.specs.Prelude.{◌≡◌, ℕ, zero, suc, Bool, true, false, List, [], ◌∷◌, length, Option, Some, None}
use Rattle.rx_core.specs.declared.types.Span.{Span}
use Rattle.rx_tree.specs.Lists.{nth}
use Rattle.rx_resolve_names.specs.Scopes.{variable_named}
use Rattle.rx_resolve_names.specs.Meant.{number, Around}
use Rattle.rx_typed.specs.declared.nodes.Node.{Node}
use Rattle.rx_typed.specs.declared.nodes.Use.{Use}
use Rattle.rx_typed.specs.Named as named
use Rattle.rx_typed.specs.Named.{Exp, Exps, Else, Patterns, Statement, Statements, Written}
use Rattle.rx_hoist_extraction.specs.Names.{Names}
use Rattle.rx_hoist_extraction.specs.Plan.{Exit, to_next, to_break, to_continue, to_return, Variable, Leaving, names_of}
use Rattle.rx_hoist_extraction.specs.Values.{Value, result_of, held_by, values_of}
use Rattle.rx_hoist_extraction.specs.Call.{is_own}
use Rattle.rx_typed.specs.Types.{Typ}
use Rattle.rx_engine_names.specs.Renaming.{Renaming}
use Rattle.rx_engine_names.specs.Moves.{numbers_of}
use Rattle.rx_engine_names.specs.Calls.{Calls, Passed, IsCall}
use Rattle.rx_engine_names.specs.WrittenOut.{Says}

pub record Handing : Type 0 where
  pub call : Calls
  -- what stands round the run in the text, the innermost first
  pub loops : List Around
  -- names that direct statements of the run declare
  pub own : Names
  -- the item of the enum of exits, and the number of the variant for each exit
  pub enum : ℕ
  pub variant : Exit → ℕ

-- ---- variables that are made

-- each is a pattern of its own; whether it is `mut`
pub data AreBound (s : Span) : ℕ → List Bool → Patterns → Type 0 where
  none_bound : {d : ℕ} → AreBound s d [] named.no_pattern
  more_bound : {d : ℕ} {m : Bool} {ms : List Bool} {n : Node} {ps : Patterns} → n.span ≡ s → AreBound s (suc d) ms ps → AreBound s d (m ∷ ms) (named.pattern_and (named.bind n d m) ps)

pub data IsMade (s : Span) (d : ℕ) : Exp → Type 0 where
  is_made : {n : Node} {u : Use} → n.span ≡ s → u.number ≡ number d → IsMade s d (named.var n u)

-- so many of them
pub data AreMade (s : Span) : ℕ → ℕ → Exps → Type 0 where
  none_made : {d : ℕ} → AreMade s d zero named.no_exp
  more_made : {d k : ℕ} {e : Exp} {es : Exps} → IsMade s d e → AreMade s (suc d) k es → AreMade s d (suc k) (named.exp_and e es)

-- nothing, the one, or the tuple of more
pub data AreJoined (s : Span) (d : ℕ) : ℕ → Else → Type 0 where
  nothing_joined : AreJoined s d zero named.absent
  one_joined : {e : Exp} → IsMade s d e → AreJoined s d (suc zero) (named.present e)
  more_joined : {k : ℕ} {n : Node} {es : Exps} → n.span ≡ s → AreMade s d (suc (suc k)) es → AreJoined s d (suc (suc k)) (named.present (named.tuple n es))

-- ---- statements

-- `e;`
pub data IsDone (s : Span) (P : Exp → Type 0) : Statement → Type 0 where
  is_done : {n : Node} {e : Exp} → n.span ≡ s → P e → IsDone s P (named.evaluates n e true)

-- `x = e`, where x means what it does in the text; it may wait for its type
pub data IsAssigned (C : Calls) (R : Renaming) (x : List ℕ) (P : Exp → Type 0) : Exp → Type 0 where
  is_assigned : {n : Node} {p e : Exp} → n.span ≡ C.place → Passed C R x p → P e → IsAssigned C R x P (named.assign n p e)
  is_given : {n p : Node} {u : Use} {d : Option ℕ} {e : Exp} {j : ℕ} → n.span ≡ C.place → p.span ≡ C.place → variable_named C.scope x ≡ Some j → R.variable j u.number ≡ true → P e
      → IsAssigned C R x P (named.gives n p u d e)

-- `x = v;` for each name and variable, and then statements
pub data AreAssigned (C : Calls) (R : Renaming) (Q : Statements → Type 0) : ℕ → Names → Statements → Type 0 where
  all_assigned : {d : ℕ} {ss : Statements} → Q ss → AreAssigned C R Q d [] ss
  more_assigned : {d : ℕ} {x : List ℕ} {xs : Names} {a : Statement} {ss : Statements} → IsDone C.place (IsAssigned C R x (IsMade C.place d)) a → AreAssigned C R Q (suc d) xs ss → AreAssigned C R Q d (x ∷ xs) (named.statement_and a ss)

pub data OneDone (s : Span) (P : Exp → Type 0) : Statements → Type 0 where
  one_done : {a : Statement} → IsDone s P a → OneDone s P (named.statement_and a named.no_statement)

-- ---- the arms of the match on an enum of exits

-- loop l is number k round the run
abbrev pub RoundIs : Handing → ℕ → ℕ → Type 0
RoundIs G l k = nth (numbers_of G.loops) k ≡ Some l

-- the jump of an exit leads to the loop that corresponds
pub data IsJump (G : Handing) (R : Renaming) : Exit → Exp → Type 0 where
  jumps_out : {n : Node} {k l l' : ℕ} → n.span ≡ G.call.place → RoundIs G l k → R.loop l l' ≡ true → IsJump G R (to_break k) (named.break n l')
  jumps_on : {n : Node} {k l l' : ℕ} → n.span ≡ G.call.place → RoundIs G l k → R.loop l l' ≡ true → IsJump G R (to_continue k) (named.continue n l')

-- what an arm does with so many values, of an exit with these outs: it is their tuple; it assigns them and jumps; it returns
pub data IsArm (G : Handing) (R : Renaming) (d : ℕ) : ℕ → Exit → Names → Exp → Type 0 where
  next_alone : {xs : Names} {n m : Node} → n.span ≡ G.call.place → m.span ≡ G.call.place → IsArm G R d zero to_next xs (named.block n (named.body m named.no_statement named.absent))
  next_with : {xs : Names} {k : ℕ} {e : Exp} → AreJoined G.call.place d (suc k) (named.present e) → IsArm G R d (suc k) to_next xs e
  jump_alone : {k : ℕ} {x : Exit} {e : Exp} → IsJump G R x e → IsArm G R d k x [] e
  jump_with : {k : ℕ} {x : Exit} {y : List ℕ} {ys : Names} {n m : Node} {ss : Statements} → n.span ≡ G.call.place → m.span ≡ G.call.place → AreAssigned G.call R (OneDone G.call.place (IsJump G R x)) d (y ∷ ys) ss
      → IsArm G R d k x (y ∷ ys) (named.block n (named.body m ss named.absent))
  returns : {k : ℕ} {xs : Names} {n : Node} {o : Else} → n.span ≡ G.call.place → AreJoined G.call.place d k o → IsArm G R d k to_return xs (named.return n o)

abbrev pub not_mutable : ℕ → List Bool
not_mutable zero = []
not_mutable (suc k) = false ∷ not_mutable k

-- an arm an exit, in order
pub data AreArms (G : Handing) (R : Renaming) : List Leaving → named.Arms → Type 0 where
  no_arms : AreArms G R [] named.no_arm
  more_arms : {x : Leaving} {xs : List Leaving} {n : Node} {ps : Patterns} {d : ℕ} {e : Exp} {l : named.Arms} → n.span ≡ G.call.place → AreBound G.call.place d (not_mutable (length (values_of G.call.plan x))) ps
      → IsArm G R d (length (values_of G.call.plan x)) x.exit (names_of x.outs) e → AreArms G R xs l → AreArms G R (x ∷ xs) (named.arm_and (named.variant_pattern n G.enum (G.variant x.exit) ps) e l)

-- the call; with an enum the match on it
pub data IsWhole (G : Handing) (R : Renaming) : Bool → Exp → Type 0 where
  call_alone : {e : Exp} → IsCall G.call R e → IsWhole G R false e
  call_matched : {n : Node} {e : Exp} {l : named.Arms} → n.span ≡ G.call.place → IsCall G.call R e → AreArms G R G.call.plan.exits l → IsWhole G R true (named.match n e l)

-- ---- what stands in place of the run

abbrev pub mutable_if : Bool → Variable → Bool
mutable_if true v = v.mutable
mutable_if false v = false

abbrev pub received_mutable : Names → List Value → List Bool
received_mutable own [] = []
received_mutable own (result_of t ∷ hs) = false ∷ received_mutable own hs
received_mutable own (held_by v ∷ hs) = mutable_if (is_own own v) v ∷ received_mutable own hs

-- those of several values that are assigned, in order, and then statements
pub data ArePutBack (G : Handing) (R : Renaming) (Q : Statements → Type 0) : ℕ → List Value → Statements → Type 0 where
  none_put_back : {d : ℕ} {ss : Statements} → Q ss → ArePutBack G R Q d [] ss
  result_stays : {d : ℕ} {t : Typ} {hs : List Value} {ss : Statements} → ArePutBack G R Q (suc d) hs ss → ArePutBack G R Q d (result_of t ∷ hs) ss
  own_stays : {d : ℕ} {v : Variable} {hs : List Value} {ss : Statements} → is_own G.own v ≡ true → ArePutBack G R Q (suc d) hs ss → ArePutBack G R Q d (held_by v ∷ hs) ss
  is_put_back : {d : ℕ} {v : Variable} {hs : List Value} {a : Statement} {ss : Statements} → is_own G.own v ≡ false → IsDone G.call.place (IsAssigned G.call R v.name (IsMade G.call.place d)) a
      → ArePutBack G R Q (suc d) hs ss → ArePutBack G R Q d (held_by v ∷ hs) (named.statement_and a ss)

-- what is done with the values, and then statements: nothing, where there is none or where the one is the tail
pub data AreHanded (G : Handing) (R : Renaming) (W : Exp → Type 0) (Q : Statements → Type 0) (d : ℕ) : List Value → Statements → Type 0 where
  done_alone : {a : Statement} {ss : Statements} → IsDone G.call.place W a → Q ss → AreHanded G R W Q d [] (named.statement_and a ss)
  is_tail : {t : Typ} {ss : Statements} → Q ss → AreHanded G R W Q d (result_of t ∷ []) ss
  one_bound : {v : Variable} {n p : Node} {e : Exp} {ss : Statements} → is_own G.own v ≡ true → n.span ≡ G.call.place → p.span ≡ G.call.place → W e → Q ss
      → AreHanded G R W Q d (held_by v ∷ []) (named.statement_and (named.lets n (named.bind p d v.mutable) None e) ss)
  one_assigned : {v : Variable} {a : Statement} {ss : Statements} → is_own G.own v ≡ false → IsDone G.call.place (IsAssigned G.call R v.name W) a → Q ss → AreHanded G R W Q d (held_by v ∷ []) (named.statement_and a ss)
  several_bound : {h i : Value} {hs : List Value} {n p : Node} {ps : Patterns} {e : Exp} {ss : Statements} → n.span ≡ G.call.place → p.span ≡ G.call.place → AreBound G.call.place d (received_mutable G.own (h ∷ i ∷ hs)) ps → W e
      → ArePutBack G R Q d (h ∷ i ∷ hs) ss → AreHanded G R W Q d (h ∷ i ∷ hs) (named.statement_and (named.lets n (named.tuple_pattern p ps) None e) ss)

-- `let x: T;` for each variable that is redeclared
pub data AreRedeclared (s : Span) (R : Renaming) : ℕ → List Variable → Statements → Type 0 where
  none_redeclared : {d : ℕ} → AreRedeclared s R d [] named.no_statement
  more_redeclared : {d : ℕ} {v : Variable} {vs : List Variable} {n p : Node} {w : Written} {ss : Statements} → n.span ≡ s → p.span ≡ s → Says R v.typ w → AreRedeclared s R (suc d) vs ss
      → AreRedeclared s R d (v ∷ vs) (named.statement_and (named.declares n (named.bind p d v.mutable) (Some w)) ss)

-- the run's value is the tail: alone, or as the first of several; else there is none
pub data IsTail (s : Span) (W : Exp → Type 0) (d : ℕ) : List Value → Else → Type 0 where
  no_value : IsTail s W d [] named.absent
  no_result : {v : Variable} {hs : List Value} → IsTail s W d (held_by v ∷ hs) named.absent
  call_is_tail : {t : Typ} {e : Exp} → W e → IsTail s W d (result_of t ∷ []) (named.present e)
  first_is_tail : {t : Typ} {h : Value} {hs : List Value} {e : Exp} → IsMade s d e → IsTail s W d (result_of t ∷ h ∷ hs) (named.present e)
