-- What gives values of variables does so in the typed tree, where references are read.
use Rattle.std.proofs.Common.{ℕ, suc, [], ◌∷◌, List, Some}
use Rattle.rx_typed.specs.declared.nodes.Node.{Node}
use Rattle.rx_typed.specs.Named as named
use Rattle.rx_typed.specs.Named.{Else, Exp, Exps}
use Rattle.rx_typed.specs.Types.{unit_shape}
use Rattle.rx_typed.specs.Tree as tree
use Rattle.rx_typed.specs.Elaborated.{Assigned, mark, marked, operands, returned, tail, value}
use Rattle.rx_engine_simulation.specs.Packing.{as_variant, bare, Gives, gives_empty, gives_one, gives_tuple, gives_unit, gives_variant, Takes, TakesAll, takes_and, takes_none, Way}
use Rattle.rx_engine_simulation.specs.Rereads.{in_block, in_build, in_end, in_none, in_operand, RereadsAll, same_unit}
use Rattle.rx_engine_made_trees.specs.Giving.{a_tail, a_tuple, a_variable, a_variant, an_empty_block, GivesThem, names_and, names_none, NamesAll, NamesVariable, no_tail, one, TailGives}
use Rattle.rx_engine_made_trees.proofs.Taking.{reread, Reread, variable_taken}

-- operands, so
pub data AllTaken (i : ℕ) (zs : List ℕ) (es : tree.Operands) : Type 0 where
  all_taken : (fs : tree.Operands) → RereadsAll es fs → TakesAll i zs fs → AllTaken i zs es

pub taken : (T : Assigned) (z : ℕ) (e : Exp) → NamesVariable T z e → Reread (λ f. Takes z f) (value T e)
taken T z e (a_variable {n = n} {u = u} i k) = variable_taken T n u z i k

taken_and : (i z : ℕ) (zs : List ℕ) (e : tree.Exp) (es : tree.Operands) → Reread (λ f. Takes z f) e → AllTaken (suc i) zs es → AllTaken i (z ∷ zs) (tree.operand_and i e es)
taken_and i z zs e es (reread f r t) (all_taken fs rs ts) = all_taken (tree.operand_and i f fs) (in_operand r rs) (takes_and t ts)

pub all_are_taken : (T : Assigned) (i : ℕ) (zs : List ℕ) (es : Exps) → NamesAll T zs es → AllTaken i zs (operands T i es)
all_are_taken T i zs es names_none = all_taken tree.no_operand in_none takes_none
all_are_taken T i zs es (names_and {z = z} {zs = ys} {e = e} {es = fs} a more) = taken_and i z ys (value T e) (operands T (suc i) fs) (taken T z e a) (all_are_taken T (suc i) ys fs more)

one_given : (z : ℕ) (e : tree.Exp) → Reread (λ f. Takes z f) e → Reread (λ f. Gives bare (z ∷ []) f) e
one_given z e (reread f r t) = reread f r (gives_one t)

tuple_given : (T : Assigned) (n : Node) (y z : ℕ) (zs : List ℕ) (es : Exps) → NamesAll T (y ∷ z ∷ zs) es → AllTaken 0 (y ∷ z ∷ zs) (operands T 0 es) → Reread (λ f. Gives bare (y ∷ z ∷ zs) f) (value T (named.tuple n es))
tuple_given T n y z zs es (names_and a (names_and b c)) (all_taken fs rs ts) = reread (tree.build (mark T n) tree.tuple fs) (in_build rs) (gives_tuple ts)

pub given_them : (T : Assigned) (w : Way) (zs : List ℕ) (e : Exp) → GivesThem T w zs e → Reread (λ f. Gives w zs f) (value T e)
given_them T w zs e (an_empty_block {n = n} {m = m}) = reread (value T e) (in_block (in_end same_unit)) gives_empty
given_them T w zs e (one {z = z} a) = one_given z (value T e) (taken T z e a)
given_them T w zs e (a_tuple {y = y} {z = z} {zs = ys} {n = n} {es = es} a) = tuple_given T n y z ys es a (all_are_taken T 0 (y ∷ z ∷ ys) es a)
given_them T w zs e (a_variant {n = n} {i = i} {v = v} {es = es} a) = variant_given (all_are_taken T 0 zs es a)
  where
    variant_given : AllTaken 0 zs (operands T 0 es) → Reread (λ f. Gives (as_variant v) zs f) (value T (named.variant n i v es))
    variant_given (all_taken fs rs ts) = reread (tree.build (mark T n) (tree.variant_of i v) fs) (in_build rs) (gives_variant ts)

pub tail_given : (T : Assigned) (n : Node) (w : Way) (zs : List ℕ) (o : Else) → TailGives T w zs o → Reread (λ f. Gives w zs f) (tail T n o)
tail_given T n w zs o no_tail = reread (tree.unit (marked n.number (Some unit_shape))) same_unit gives_unit
tail_given T n w zs o (a_tail {e = e} g) = given_them T w zs e g

pub return_given : (T : Assigned) (n : Node) (w : Way) (zs : List ℕ) (o : Else) → TailGives T w zs o → Reread (λ f. Gives w zs f) (returned T n o)
return_given T n w zs o no_tail = reread (tree.unit (marked n.number (Some unit_shape))) same_unit gives_unit
return_given T n w zs o (a_tail {e = e} g) = given_them T w zs e g
