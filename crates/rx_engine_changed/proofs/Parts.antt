-- Parts of trees with numbers that are alike, where something else stands for variables, jumps and blocks alone.
use Rattle.std.proofs.Common.{◌≡◌, ℕ, Bool, true, List, Option, refl}
use Rattle.rx_tree.specs.declared.tree.BinaryOp.{BinaryOp}
use Rattle.rx_tree.specs.declared.tree.UpdateOp.{UpdateOp}
use Rattle.rx_typed.specs.declared.nodes.Node.{Node}
use Rattle.rx_typed.specs.declared.nodes.Use.{Use}
use Rattle.rx_typed.specs.Named as named
use Rattle.rx_typed.specs.Named.{Written, Pattern, Patterns, FieldPatterns, Exp, Exps, Else, Fields, Arms, Body, Statement, Statements}
use Rattle.rx_engine_names.specs.Renaming.{Renaming}
use Rattle.rx_engine_names.specs.LikeNamed as alike
use Rattle.rx_engine_names.specs.LikeNamed.{Holes, LikeWritten, LikePattern, LikePatterns, LikeFieldPatterns, LikeExp, LikeExps, LikeElse, LikeFields, LikeArms, LikeBody, LikeStatement, LikeStatements, IsLeftSide}

-- where an expression may stand that isn't copied
abbrev pub IsSpecial : Exp → Type 0
IsSpecial (named.var n x) = Unit {0}
IsSpecial (named.break n l) = Unit {0}
IsSpecial (named.continue n l) = Unit {0}
IsSpecial _ = ⊥

abbrev pub OnlySpecial : Holes → Type 0
OnlySpecial H = (R : Renaming) (e e' : Exp) → H.expression R e e' → IsSpecial e

-- the left sides of an assignment that gives a type, and the right sides
pub record Given (H : Holes) (R : Renaming) (p p' : Node) (x x' : Use) (b b' : Exp) : Type 0 where
  pub left : Exp
  pub left' : Exp
  pub like : LikeExp H R left left'
  pub is : IsLeftSide left p x
  pub is' : IsLeftSide left' p' x'
  pub value : LikeExp H R b b'

-- where one side gives the type alone
pub record GivenFirst (H : Holes) (R : Renaming) (p : Node) (x : Use) (right b b' : Exp) : Type 0 where
  pub left : Exp
  pub like : LikeExp H R left right
  pub is : IsLeftSide left p x
  pub value : LikeExp H R b b'

pub record GivenThen (H : Holes) (R : Renaming) (left : Exp) (p' : Node) (x' : Use) (b b' : Exp) : Type 0 where
  pub right : Exp
  pub like : LikeExp H R left right
  pub is' : IsLeftSide right p' x'
  pub value : LikeExp H R b b'

module _ {R : Renaming} where
  pub reference_part : {n n' : Node} {m m' : Bool} {t t' : Written} → LikeWritten R (named.a_reference n m t) (named.a_reference n' m' t') → LikeWritten R t t'
  reference_part (alike.like_reference e h) = h

  pub item_part : {n n' : Node} {i i' : ℕ} {ls ls' : Option ℕ} → LikeWritten R (named.an_item n i ls) (named.an_item n' i' ls') → R.item i ≡ i'
  item_part (alike.like_item e h) = h

  pub bind_part : {n n' : Node} {x x' : ℕ} {m m' : Bool} → LikePattern R (named.bind n x m) (named.bind n' x' m') → R.variable x x' ≡ true
  bind_part (alike.like_bind e h) = h

  pub variant_pattern_parts : {n n' : Node} {i i' v v' : ℕ} {ps ps' : Patterns} → LikePattern R (named.variant_pattern n i v ps) (named.variant_pattern n' i' v' ps') → (R.item i ≡ i') × (v' ≡ v) × LikePatterns R ps ps'
  variant_pattern_parts (alike.like_variant_pattern e i h) = (i, refl, h)

  pub field_pattern_parts : {x x' : List ℕ} {p p' : Pattern} {fs fs' : FieldPatterns} → LikeFieldPatterns R (named.field_pattern_and x p fs) (named.field_pattern_and x' p' fs') → LikePattern R p p' × LikeFieldPatterns R fs fs'
  field_pattern_parts (alike.like_more_field_patterns h hs) = (h, hs)

module _ {H : Holes} (only : OnlySpecial H) {R : Renaming} where
  pub field_part : {n n' : Node} {e e' : Exp} {x x' : List ℕ} → LikeExp H R (named.field n e x) (named.field n' e' x') → LikeExp H R e e'
  field_part (alike.like_hole h) = absurd (only _ _ _ h)
  field_part (alike.like_field s h) = h

  pub part_part : {n n' : Node} {e e' : Exp} {i i' : ℕ} → LikeExp H R (named.part n e i) (named.part n' e' i') → LikeExp H R e e'
  part_part (alike.like_hole h) = absurd (only _ _ _ h)
  part_part (alike.like_part s h) = h

  pub borrow_part : {n n' : Node} {m m' : Bool} {e e' : Exp} → LikeExp H R (named.borrow n m e) (named.borrow n' m' e') → LikeExp H R e e'
  borrow_part (alike.like_hole h) = absurd (only _ _ _ h)
  borrow_part (alike.like_borrow s h) = h

  pub binary_parts : {n n' : Node} {o o' : BinaryOp} {a a' b b' : Exp} → LikeExp H R (named.binary n o a b) (named.binary n' o' a' b') → LikeExp H R a a' × LikeExp H R b b'
  binary_parts (alike.like_hole h) = absurd (only _ _ _ h)
  binary_parts (alike.like_binary s h g) = (h, g)

  pub update_parts : {n n' : Node} {o o' : UpdateOp} {a a' b b' : Exp} → LikeExp H R (named.update n o a b) (named.update n' o' a' b') → LikeExp H R a a' × LikeExp H R b b'
  update_parts (alike.like_hole h) = absurd (only _ _ _ h)
  update_parts (alike.like_update s h g) = (h, g)

  pub variant_parts : {n n' : Node} {i i' v v' : ℕ} {es es' : Exps} → LikeExp H R (named.variant n i v es) (named.variant n' i' v' es') → (R.item i ≡ i') × (v' ≡ v) × LikeExps H R es es'
  variant_parts (alike.like_hole h) = absurd (only _ _ _ h)
  variant_parts (alike.like_variant s i h) = (i, refl, h)

  pub field_parts : {x x' : List ℕ} {e e' : Exp} {fs fs' : Fields} → LikeFields H R (named.field_and x e fs) (named.field_and x' e' fs') → LikeExp H R e e' × LikeFields H R fs fs'
  field_parts (alike.like_more_fields h hs) = (h, hs)

  pub evaluated_part : {n n' : Node} {e e' : Exp} {b b' : Bool} → LikeStatement H R (named.evaluates n e b) (named.evaluates n' e' b') → LikeExp H R e e'
  evaluated_part (alike.like_evaluates s h) = h

  pub tuple_part : {n n' : Node} {es es' : Exps} → LikeExp H R (named.tuple n es) (named.tuple n' es') → LikeExps H R es es'
  tuple_part (alike.like_hole h) = absurd (only _ _ _ h)
  tuple_part (alike.like_tuple s h) = h

  pub deref_part : {n n' : Node} {e e' : Exp} → LikeExp H R (named.deref n e) (named.deref n' e') → LikeExp H R e e'
  deref_part (alike.like_hole h) = absurd (only _ _ _ h)
  deref_part (alike.like_deref s h) = h

  pub negate_part : {n n' : Node} {e e' : Exp} → LikeExp H R (named.negate n e) (named.negate n' e') → LikeExp H R e e'
  negate_part (alike.like_hole h) = absurd (only _ _ _ h)
  negate_part (alike.like_negate s h) = h

  pub invert_part : {n n' : Node} {e e' : Exp} → LikeExp H R (named.invert n e) (named.invert n' e') → LikeExp H R e e'
  invert_part (alike.like_hole h) = absurd (only _ _ _ h)
  invert_part (alike.like_invert s h) = h

  pub print_part : {n n' : Node} {e e' : Exp} → LikeExp H R (named.print n e) (named.print n' e') → LikeExp H R e e'
  print_part (alike.like_hole h) = absurd (only _ _ _ h)
  print_part (alike.like_print s h) = h

  pub assign_parts : {n n' : Node} {a a' b b' : Exp} → LikeExp H R (named.assign n a b) (named.assign n' a' b') → LikeExp H R a a' × LikeExp H R b b'
  assign_parts (alike.like_hole h) = absurd (only _ _ _ h)
  assign_parts (alike.like_assign s h g) = (h, g)

  pub gives_parts : {n n' p p' : Node} {x x' : Use} {d d' : Option ℕ} {b b' : Exp} → LikeExp H R (named.gives n p x d b) (named.gives n' p' x' d' b') → Given H R p p' x x' b b'
  gives_parts (alike.like_hole h) = absurd (only _ _ _ h)
  gives_parts (alike.like_gives {a = a} {a' = a'} s h i i' g) = record { left = a; left' = a'; like = h; is = i; is' = i'; value = g }

  pub given_parts : {n n' p : Node} {x : Use} {d : Option ℕ} {a' b b' : Exp} → LikeExp H R (named.gives n p x d b) (named.assign n' a' b') → GivenFirst H R p x a' b b'
  given_parts (alike.like_hole h) = absurd (only _ _ _ h)
  given_parts (alike.like_given {a = a} s h i g) = record { left = a; like = h; is = i; value = g }

  pub giving_parts : {n n' p' : Node} {x' : Use} {d' : Option ℕ} {a b b' : Exp} → LikeExp H R (named.assign n a b) (named.gives n' p' x' d' b') → GivenThen H R a p' x' b b'
  giving_parts (alike.like_hole h) = absurd (only _ _ _ h)
  giving_parts (alike.like_giving {a' = a'} s h i g) = record { right = a'; like = h; is' = i; value = g }

  pub call_parts : {n n' : Node} {f f' : ℕ} {es es' : Exps} → LikeExp H R (named.call n f es) (named.call n' f' es') → (R.item f ≡ f') × LikeExps H R es es'
  call_parts (alike.like_hole h) = absurd (only _ _ _ h)
  call_parts (alike.like_call s i h) = (i, h)

  pub hidden_part : {n n' : Node} {es es' : Exps} → LikeExp H R (named.hidden_call n es) (named.hidden_call n' es') → LikeExps H R es es'
  hidden_part (alike.like_hole h) = absurd (only _ _ _ h)
  hidden_part (alike.like_hidden s h) = h

  pub not_hidden : {n n' : Node} {f : ℕ} {es es' : Exps} → LikeExp H R (named.call n f es) (named.hidden_call n' es') → ⊥
  not_hidden (alike.like_hole h) = absurd (only _ _ _ h)

  pub not_called : {n n' : Node} {f : ℕ} {es es' : Exps} → LikeExp H R (named.hidden_call n es) (named.call n' f es') → ⊥
  not_called (alike.like_hole h) = absurd (only _ _ _ h)

  pub make_parts : {n n' : Node} {i i' : ℕ} {fs fs' : Fields} → LikeExp H R (named.make n i fs) (named.make n' i' fs') → (R.item i ≡ i') × LikeFields H R fs fs'
  make_parts (alike.like_hole h) = absurd (only _ _ _ h)
  make_parts (alike.like_make s i h) = (i, h)

  pub block_part : {n n' : Node} {b b' : Body} → LikeExp H R (named.block n b) (named.block n' b') → LikeBody H R b b'
  block_part (alike.like_hole h) = absurd (only _ _ _ h)
  block_part (alike.like_block s h) = h

  pub if_parts : {n n' : Node} {c c' : Exp} {b b' : Body} {o o' : Else} → LikeExp H R (named.if n c b o) (named.if n' c' b' o') → LikeExp H R c c' × LikeBody H R b b' × LikeElse H R o o'
  if_parts (alike.like_hole h) = absurd (only _ _ _ h)
  if_parts (alike.like_if s h g l) = (h, g, l)

  pub if_let_parts : {n n' : Node} {p p' : Pattern} {e e' : Exp} {b b' : Body} {o o' : Else} → LikeExp H R (named.if_let n p e b o) (named.if_let n' p' e' b' o')
      → LikePattern R p p' × LikeExp H R e e' × LikeBody H R b b' × LikeElse H R o o'
  if_let_parts (alike.like_hole h) = absurd (only _ _ _ h)
  if_let_parts (alike.like_if_let s q h g l) = (q, h, g, l)

  pub match_parts : {n n' : Node} {e e' : Exp} {l l' : Arms} → LikeExp H R (named.match n e l) (named.match n' e' l') → LikeExp H R e e' × LikeArms H R l l'
  match_parts (alike.like_hole h) = absurd (only _ _ _ h)
  match_parts (alike.like_match s h l) = (h, l)

  pub loop_parts : {n n' : Node} {l l' : ℕ} {k k' : Bool} {b b' : Body} → LikeExp H R (named.loop n l k b) (named.loop n' l' k' b') → (R.loop l l' ≡ true) × LikeBody H R b b'
  loop_parts (alike.like_hole h) = absurd (only _ _ _ h)
  loop_parts (alike.like_loop s i h) = (i, h)

-- with the loops, which correspond
module _ {H : Holes} (only : OnlySpecial H) {R : Renaming} where
  pub while_parts : {n n' : Node} {l l' : ℕ} {c c' : Exp} {b b' : Body} → LikeExp H R (named.while n l c b) (named.while n' l' c' b') → (R.loop l l' ≡ true) × LikeExp H R c c' × LikeBody H R b b'
  while_parts (alike.like_hole h) = absurd (only _ _ _ h)
  while_parts (alike.like_while s i h g) = (i, h, g)

  pub while_let_parts : {n n' : Node} {l l' : ℕ} {p p' : Pattern} {e e' : Exp} {b b' : Body} → LikeExp H R (named.while_let n l p e b) (named.while_let n' l' p' e' b') → (R.loop l l' ≡ true) × LikePattern R p p' × LikeExp H R e e' × LikeBody H R b b'
  while_let_parts (alike.like_hole h) = absurd (only _ _ _ h)
  while_let_parts (alike.like_while_let s i q h g) = (i, q, h, g)

-- where no variable stands for a variable but one that is alike, and no jump for such a jump
pub record KeptHoles (H : Holes) : Type 0 where
  pub no_variable : (R : Renaming) (n n' : Node) (u u' : Use) → H.expression R (named.var n u) (named.var n' u') → ⊥
  pub no_break : (R : Renaming) (n n' : Node) (l l' : ℕ) → H.expression R (named.break n l) (named.break n' l') → ⊥
  pub no_continue : (R : Renaming) (n n' : Node) (l l' : ℕ) → H.expression R (named.continue n l) (named.continue n' l') → ⊥

module _ {H : Holes} (kept : KeptHoles H) {R : Renaming} where
  pub var_part : {n n' : Node} {u u' : Use} → LikeExp H R (named.var n u) (named.var n' u') → R.variable u.number u'.number ≡ true
  var_part (alike.like_hole h) = absurd (kept.no_variable _ _ _ _ _ h)
  var_part (alike.like_var {u = u} {u' = u'} s h) = h

  pub break_part : {n n' : Node} {l l' : ℕ} → LikeExp H R (named.break n l) (named.break n' l') → R.loop l l' ≡ true
  break_part (alike.like_hole h) = absurd (kept.no_break _ _ _ _ _ h)
  break_part (alike.like_break s h) = h

  pub continue_part : {n n' : Node} {l l' : ℕ} → LikeExp H R (named.continue n l) (named.continue n' l') → R.loop l l' ≡ true
  continue_part (alike.like_hole h) = absurd (kept.no_continue _ _ _ _ _ h)
  continue_part (alike.like_continue s h) = h

-- where no return becomes another
module _ {H : Holes} (only : OnlySpecial H) (none_returned : (R : Renaming) (n : Node) (o : Else) (e' : Exp) → H.returned R n o e' → ⊥) {R : Renaming} where
  pub return_part : {n n' : Node} {o o' : Else} → LikeExp H R (named.return n o) (named.return n' o') → LikeElse H R o o'
  return_part (alike.like_hole h) = absurd (only _ _ _ h)
  return_part (alike.like_other_return h z) = absurd (none_returned _ _ _ _ z)
  return_part (alike.like_return s h) = h
