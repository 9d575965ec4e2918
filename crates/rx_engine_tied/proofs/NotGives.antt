-- What a text's expression is elaborated to gives to the caller only at its own node; and nodes of a row are counted on.
use Rattle.std.proofs.Common.{◌≡◌, ℕ, ◌+◌, ◌≤◌, ◌<◌, ◌==◌, Bool, true, false, List, [], ◌∷◌, ◌++◌, None, refl, arith}
use Rattle.std.proofs.lemmas.Bool.Decides.{Decides-eqb}
use Rattle.rx_tree.specs.declared.tree.BinaryOp.{BinaryOp}
use Rattle.rx_tree.specs.Plain as plain
use Rattle.rx_resolve_names.specs.Meant.{Around}
use Rattle.rx_resolve_names.specs.Steps.{Inside}
use Rattle.rx_typed.specs.declared.nodes.Node.{Node}
use Rattle.rx_typed.specs.Named as named
use Rattle.rx_typed.specs.Named.{Exp}
use Rattle.rx_typed.specs.Elaborated as elaborated
use Rattle.rx_typed.specs.Elaborated.{Assigned, Coercion}
use Rattle.rx_typed.specs.Tree as tree
use Rattle.rx_hoist_extraction.specs.Names.{Names}
use Rattle.rx_hoist_meant.specs.Stands as stands
use Rattle.rx_hoist_meant.specs.Stands.{loop_numbers, StandsElse, StandsExp, StandsRow}
use Rattle.rx_hoist_meant.specs.Placed.{PlacedRow}
use Rattle.rx_hoist_meant.specs.Scoped.{NoneTwice}
use Rattle.rx_hoist_meant.proofs.Blocks as blocks

-- it gives nothing at this node
abbrev pub NotGiven : ℕ → tree.Exp → Type 0
NotGiven m (tree.give k e) = (k.node == m) ≡ false
NotGiven m _ = Unit {0}

read_not : (T : Assigned) (n : Node) (c : Coercion) (p : tree.Place) (m : ℕ) → NotGiven m (elaborated.read_as T n c p)
read_not T n elaborated.plain p m = tt
read_not T n elaborated.reborrow p m = tt
read_not T n elaborated.share p m = tt

passed_not : (T : Assigned) (n : Node) (c : Coercion) (e : tree.Exp) (m : ℕ) → NotGiven m e → NotGiven m (elaborated.passed_as T n c e)
passed_not T n elaborated.plain e m h = h
passed_not T n elaborated.reborrow e m h = h
passed_not T n elaborated.share e m h = tt

operated_not : (T : Assigned) (n : Node) (o : BinaryOp) (x y : tree.Exp) (m : ℕ) → NotGiven m (elaborated.operated T n o x y)
operated_not T n BinaryOp.And x y m = tt
operated_not T n BinaryOp.Or x y m = tt
operated_not T n _ x y m = tt

tuple_not : (T : Assigned) (n : Node) (es : tree.Operands) (m : ℕ) → NotGiven m (elaborated.tuple_of T n es)
tuple_not T n tree.no_operand m = tt
tuple_not T n (tree.operand_and i e es) m = tt

module _ (I : Inside) (ns : Names) (T : Assigned) where
  exp_not : {vs : List ℕ} {ls : List Around} {i j : ℕ} {e : plain.Expression} {a : Exp} → StandsExp I ns vs ls i j e a → (m : ℕ) → m < i → NotGiven m (elaborated.value T a)
  exp_not (stands.s_int q) m l = tt
  exp_not (stands.s_bool q) m l = tt
  exp_not (stands.s_tuple {n = n} {xs = xs} q h) m l = tuple_not T n (elaborated.operands T 0 xs) m
  exp_not (stands.s_var {n = n} {u = u} q w h) m l = read_not T n (elaborated.coercion_at T n) (elaborated.place T (named.var n u)) m
  exp_not (stands.s_field {n = n} {a = a} {x = x} q h) m l = read_not T n (elaborated.coercion_at T n) (elaborated.place T (named.field n a x.name)) m
  exp_not (stands.s_part {n = n} {a = a} {k = k} q h) m l = read_not T n (elaborated.coercion_at T n) (elaborated.place T (named.part n a k)) m
  exp_not (stands.s_deref {n = n} {a = a} q h) m l = read_not T n (elaborated.coercion_at T n) (elaborated.place T (named.deref n a)) m
  exp_not (stands.s_negate q h) m l = tt
  exp_not (stands.s_invert q h) m l = tt
  exp_not (stands.s_borrow {n = n} {m = v} {a = a} q h) m l = passed_not T n (elaborated.coercion_at T n) (tree.borrow (elaborated.mark T n) v (elaborated.place T a)) m tt
  exp_not (stands.s_binary {n = n} {o = o} {a = a} {b = b} q g h) m l = operated_not T n o (elaborated.value T a) (elaborated.value T b) m
  exp_not (stands.s_assign q g h) m l = tt
  exp_not (stands.s_gives q w u h) m l = tt
  exp_not (stands.s_update q g h) m l = tt
  exp_not (stands.s_call {n = n} {k = f} {xs = xs} q d h) m l = passed_not T n (elaborated.coercion_at T n) (tree.call (elaborated.mark T n) f (elaborated.operands T 0 xs)) m tt
  exp_not (stands.s_hidden q h) m l = tt
  exp_not (stands.s_input q) m l = tt
  exp_not (stands.s_variant q h) m l = tt
  exp_not (stands.s_make q h) m l = tt
  exp_not (stands.s_print q h) m l = tt
  exp_not (stands.s_block q (stands.s_body r c g h)) m l = tt
  exp_not (stands.s_if q f g h) m l = tt
  exp_not (stands.s_if_let q d f g h) m l = tt
  exp_not (stands.s_match q g h) m l = tt
  exp_not (stands.s_loop q n h) m l = tt
  exp_not (stands.s_while q n g h) m l = tt
  exp_not (stands.s_while_let q n d g h) m l = tt
  exp_not (stands.s_break q h) m l = tt
  exp_not (stands.s_continue q h) m l = tt
  exp_not (stands.s_return {i = i} {n = n} q h) m l = by (n.number == m) refl
    where
      by : (b : Bool) → (n.number == m) ≡ b → (n.number == m) ≡ false
      by true e = let s : n.number ≡ m = (Decides-eqb n.number m).0 e in absurd (omega (arith, s, q, l))
      by false e = e

  pub tail_not : {vs : List ℕ} {ls : List Around} {i j : ℕ} {o : plain.OptionalExpression} {O : named.Else} (n : Node) → StandsElse I ns vs ls i j o O → (m : ℕ) → m < i → NotGiven m (elaborated.tail T n O)
  tail_not n stands.s_absent m l = tt
  tail_not n (stands.s_present h) m l = exp_not h m l

  pub row_on : {vs after : List ℕ} {ls : List Around} {i j : ℕ} {ss : plain.Statements} {xs : named.Statements} → StandsRow I ns vs ls i j ss xs after → PlacedRow xs → NoneTwice (loop_numbers ls) → i ≤ j
  row_on {vs} {ls = ls} {i} {j} {ss} {xs} h p once =
      let w = blocks.row_walked I ns T h p (tree.unit (elaborated.marked 0 None)) (record { scope = vs; loops = loop_numbers ls }) (record { scope = refl; loops = refl; apart = once }) [] j (λ a m. blocks.no_child I ns T j _) in
      let s = w.size in
      omega (arith, s)
