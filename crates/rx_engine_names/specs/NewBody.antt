-- The body of the new function with numbers, beside the statements and the tail of the run in the text (Rust Reference, "Block
-- expressions", "let statements"): the locals, the statements, and the end in each shape.
use Rattle.std.specs.Prelude.{◌≡◌, ℕ, suc, Bool, true, false, List, [], ◌∷◌, length, Option, Some}
use Rattle.rx_resolve_names.specs.Scopes.{variable_named}
use Rattle.rx_resolve_names.specs.Meant.{number}
use Rattle.rx_typed.specs.declared.nodes.Node.{Node}
use Rattle.rx_typed.specs.declared.nodes.Use.{Use}
use Rattle.rx_typed.specs.Types.{Typ}
use Rattle.rx_typed.specs.Named as named
use Rattle.rx_typed.specs.Named.{Written, Exp, Exps, Else, Body, Statements}
use Rattle.rx_hoist_extraction.specs.Plan.{to_next, Variable, has_enum, outs_of, names_of}
use Rattle.rx_hoist_extraction.specs.NewBody.{next_outs, is_followed, stays_last}
use Rattle.rx_engine_names.specs.Renaming.{Renaming}
use Rattle.rx_engine_names.specs.LikeNamed.{SameSpan, LikeExp, LikeElse, LikeStatements}
use Rattle.rx_engine_names.specs.WrittenOut.{Says}
use Rattle.rx_engine_names.specs.Moves.{Moves, AreOuts, IsVariant, moved}
use Rattle.rx_engine_names.specs.Replaced.{joined}

-- ---- `let y: T;` for each local, in front of these statements; the next variable has number n

pub data LocalsFirst (V : Moves) (R : Renaming) (ys : Statements) : ℕ → List Variable → Statements → Type 0 where
  no_local : {n : ℕ} → LocalsFirst V R ys n [] ys
  a_local : {n j : ℕ} {l p : Node} {x : Variable} {xs : List Variable} {w : Written} {zs : Statements} → l.span ≡ V.place → p.span ≡ V.place → variable_named V.scope x.name ≡ Some j → R.variable j n ≡ true → Says R x.typ w → LocalsFirst V R ys (suc n) xs zs
      → LocalsFirst V R ys n (x ∷ xs) (named.statement_and (named.declares l (named.bind p n x.mutable) (Some w)) zs)

-- ---- what the end hands out: W is the run with the scope behind it, where names of the outs of Next mean variables

abbrev pub NextOuts : Moves → Moves → Renaming → Exps → Type 0
NextOuts V W R = AreOuts W R (names_of (outs_of to_next V.plan.exits))

-- the copy of the run's value is first, the outs follow
pub data ValueFirst (O : Exps → Type 0) (e : Exp) : Exps → Type 0 where
  value_first : {es : Exps} → O es → ValueFirst O e (named.exp_and e es)

-- the outs alone: in Next; without an enum the one value, or the tuple of more
pub data HandedOn (V : Moves) (O : Exps → Type 0) : Else → Type 0 where
  handed_in_next : {e : Exp} → has_enum V.plan.exits ≡ true → IsVariant V to_next O e → HandedOn V O (named.present e)
  handed_alone : {e : Exp} → has_enum V.plan.exits ≡ false → O (named.exp_and e named.no_exp) → HandedOn V O (named.present e)
  handed_in_tuple : {n : Node} {e f : Exp} {es : Exps} → has_enum V.plan.exits ≡ false → n.span ≡ V.place → O (named.exp_and e (named.exp_and f es)) → HandedOn V O (named.present (named.tuple n (named.exp_and e (named.exp_and f es))))

-- the tail as a statement
pub data IsDone (V : Moves) (R : Renaming) : Else → Statements → Type 0 where
  nothing_done : IsDone V R named.absent named.no_statement
  tail_done : {n : Node} {e e' : Exp} → n.span ≡ V.place → LikeExp (moved V) R e e' → IsDone V R (named.present e) (named.statement_and (named.evaluates n e' true) named.no_statement)

-- ---- the end

-- the run has a value where it has a tail and the plan a type for it
abbrev pub has_value : Option Typ → Else → Bool
has_value (Some t) (named.present e) = true
has_value _ _ = false

abbrev pub goes_on : Moves → Bool
goes_on V = is_followed V.plan (next_outs V.plan V.place)

-- a last statement without `;`
abbrev pub last_one : Node → Exp → Bool → Statements
last_one n e b = named.statement_and (named.evaluates n e b) named.no_statement

pub data IsEnd (V W : Moves) (R : Renaming) : Statements → Else → Statements → Else → Type 0 where
  -- a value: in Next; alone; bound in front of the tuple in which it is the first of several
  value_in_next : {t : Typ} {xs ys : Statements} {e e' f : Exp} → V.plan.value ≡ Some t → has_enum V.plan.exits ≡ true → LikeStatements (moved V) R xs ys → LikeExp (moved V) R e e' → IsVariant V to_next (ValueFirst (NextOuts V W R) e') f
      → IsEnd V W R xs (named.present e) ys (named.present f)
  value_alone : {t : Typ} {xs ys : Statements} {e e' : Exp} → V.plan.value ≡ Some t → has_enum V.plan.exits ≡ false → outs_of to_next V.plan.exits ≡ [] → LikeStatements (moved V) R xs ys → LikeExp (moved V) R e e'
      → IsEnd V W R xs (named.present e) ys (named.present e')
  value_bound : {t : Typ} {xs ys : Statements} {e e' o : Exp} {os : Exps} {n m : Node} {u : Use} {w : Written} (l p : Node) (x : ℕ) → V.plan.value ≡ Some t → has_enum V.plan.exits ≡ false → LikeStatements (moved V) R xs ys → LikeExp (moved V) R e e'
      → l.span ≡ V.place → p.span ≡ V.place → n.span ≡ V.place → m.span ≡ V.place → Says R t w → u.number ≡ number x → NextOuts V W R (named.exp_and o os)
      → IsEnd V W R xs (named.present e) (joined ys (named.statement_and (named.lets l (named.bind p x false) (Some w) e') named.no_statement)) (named.present (named.tuple n (named.exp_and (named.var m u) (named.exp_and o os))))
  -- no value, and something is handed out: a tail becomes a statement
  outs_behind : {xs ys zs : Statements} {o o' : Else} → has_value V.plan.value o ≡ false → goes_on V ≡ true → LikeStatements (moved V) R xs ys → IsDone V R o zs → HandedOn V (NextOuts V W R) o' → IsEnd V W R xs o (joined ys zs) o'
  -- nothing is: a tail stays the tail; a last statement without `;` becomes it, or gets a `;` where the end is not reached
  nothing_behind : {xs ys : Statements} {o o' : Else} → has_value V.plan.value o ≡ false → goes_on V ≡ false → LikeStatements (moved V) R xs ys → LikeElse (moved V) R o o' → IsEnd V W R xs o ys o'
  last_is_tail : {xs ys : Statements} {e e' : Exp} (n : Node) → goes_on V ≡ false → stays_last V.plan ≡ false → LikeStatements (moved V) R xs ys → LikeExp (moved V) R e e' → IsEnd V W R (joined xs (last_one n e false)) named.absent ys (named.present e')
  last_is_done : {xs ys : Statements} {e e' : Exp} (n n' : Node) → goes_on V ≡ false → stays_last V.plan ≡ true → LikeStatements (moved V) R xs ys → SameSpan n n' → LikeExp (moved V) R e e'
      → IsEnd V W R (joined xs (last_one n e false)) named.absent (joined ys (last_one n' e' true)) named.absent

-- ---- the whole

pub data IsNewBody (V W : Moves) (R : Renaming) (xs : Statements) (o : Else) : Body → Type 0 where
  new_body_is : {n : Node} {ys zs : Statements} {o' : Else} → n.span ≡ V.place → IsEnd V W R xs o ys o' → LocalsFirst V R ys (length V.plan.params) V.plan.locals zs → IsNewBody V W R xs o (named.body n zs o')
