-- Parts of trees with numbers that are alike, where nothing else stands for anything.
use Rattle.std.proofs.Common.{◌≡◌, ℕ, Bool, true, List, Option, refl, sym, eqb-true}
use Rattle.rx_tree.specs.declared.tree.BinaryOp.{BinaryOp}
use Rattle.rx_tree.specs.declared.tree.UpdateOp.{UpdateOp}
use Rattle.rx_typed.specs.declared.nodes.Node.{Node}
use Rattle.rx_typed.specs.declared.nodes.Use.{Use}
use Rattle.rx_typed.specs.Named as named
use Rattle.rx_typed.specs.Named.{Written, Pattern, Patterns, FieldPatterns, Exp, Exps, Else, Fields, Arms, Body, Statement, Statements}
use Rattle.rx_engine_names.specs.Renaming.{Renaming}
use Rattle.rx_engine_names.specs.LikeNamed as alike
use Rattle.rx_engine_names.specs.LikeNamed.{LikeWritten, LikePattern, LikePatterns, LikeFieldPatterns, LikeExp, LikeExps, LikeElse, LikeFields, LikeArms, LikeBody, LikeStatement, LikeStatements, IsLeftSide}
use Rattle.rx_engine_names.specs.Alike.{same_numbers}

abbrev Like1 : Renaming → Exp → Exp → Type 0
Like1 R e e' = LikeExp alike.no_holes R e e'

-- the left sides of an assignment that gives a type, and the right sides
pub record Given (R : Renaming) (p p' : Node) (x x' : Use) (b b' : Exp) : Type 0 where
  pub left : Exp
  pub left' : Exp
  pub like : Like1 R left left'
  pub is : IsLeftSide left p x
  pub is' : IsLeftSide left' p' x'
  pub value : Like1 R b b'

-- where one side gives the type alone
pub record GivenFirst (R : Renaming) (p : Node) (x : Use) (right b b' : Exp) : Type 0 where
  pub left : Exp
  pub like : Like1 R left right
  pub is : IsLeftSide left p x
  pub value : Like1 R b b'

pub record GivenThen (R : Renaming) (left : Exp) (p' : Node) (x' : Use) (b b' : Exp) : Type 0 where
  pub right : Exp
  pub like : Like1 R left right
  pub is' : IsLeftSide right p' x'
  pub value : Like1 R b b'

module _ {R : Renaming} where
  pub reference_part : {n n' : Node} {m m' : Bool} {t t' : Written} → LikeWritten R (named.a_reference n m t) (named.a_reference n' m' t') → LikeWritten R t t'
  reference_part (alike.like_reference e h) = h

  pub item_part : {n n' : Node} {i i' : ℕ} {ls ls' : Option ℕ} → LikeWritten R (named.an_item n i ls) (named.an_item n' i' ls') → R.item i ≡ i'
  item_part (alike.like_item e h) = h

  pub bind_part : {n n' : Node} {x x' : ℕ} {m m' : Bool} → LikePattern R (named.bind n x m) (named.bind n' x' m') → R.variable x x' ≡ true
  bind_part (alike.like_bind e h) = h

  pub variant_pattern_parts : {n n' : Node} {i i' v v' : ℕ} {ps ps' : Patterns} → LikePattern R (named.variant_pattern n i v ps) (named.variant_pattern n' i' v' ps') → (R.item i ≡ i') × (v' ≡ v) × LikePatterns R ps ps'
  variant_pattern_parts (alike.like_variant_pattern e i h) = (i, refl, h)

  pub field_pattern_parts : {x x' : List ℕ} {p p' : Pattern} {fs fs' : FieldPatterns} → LikeFieldPatterns R (named.field_pattern_and x p fs) (named.field_pattern_and x' p' fs') → LikePattern R p p' × LikeFieldPatterns R fs fs'
  field_pattern_parts (alike.like_more_field_patterns h hs) = (h, hs)

  pub field_part : {n n' : Node} {e e' : Exp} {x x' : List ℕ} → Like1 R (named.field n e x) (named.field n' e' x') → Like1 R e e'
  field_part (alike.like_hole h) = absurd h
  field_part (alike.like_field s h) = h

  pub part_part : {n n' : Node} {e e' : Exp} {i i' : ℕ} → Like1 R (named.part n e i) (named.part n' e' i') → Like1 R e e'
  part_part (alike.like_hole h) = absurd h
  part_part (alike.like_part s h) = h

  pub borrow_part : {n n' : Node} {m m' : Bool} {e e' : Exp} → Like1 R (named.borrow n m e) (named.borrow n' m' e') → Like1 R e e'
  borrow_part (alike.like_hole h) = absurd h
  borrow_part (alike.like_borrow s h) = h

  pub binary_parts : {n n' : Node} {o o' : BinaryOp} {a a' b b' : Exp} → Like1 R (named.binary n o a b) (named.binary n' o' a' b') → Like1 R a a' × Like1 R b b'
  binary_parts (alike.like_hole h) = absurd h
  binary_parts (alike.like_binary s h g) = (h, g)

  pub update_parts : {n n' : Node} {o o' : UpdateOp} {a a' b b' : Exp} → Like1 R (named.update n o a b) (named.update n' o' a' b') → Like1 R a a' × Like1 R b b'
  update_parts (alike.like_hole h) = absurd h
  update_parts (alike.like_update s h g) = (h, g)

  pub variant_parts : {n n' : Node} {i i' v v' : ℕ} {es es' : Exps} → Like1 R (named.variant n i v es) (named.variant n' i' v' es') → (R.item i ≡ i') × (v' ≡ v) × LikeExps alike.no_holes R es es'
  variant_parts (alike.like_hole h) = absurd h
  variant_parts (alike.like_variant s i h) = (i, refl, h)

  pub field_parts : {x x' : List ℕ} {e e' : Exp} {fs fs' : Fields} → LikeFields alike.no_holes R (named.field_and x e fs) (named.field_and x' e' fs') → Like1 R e e' × LikeFields alike.no_holes R fs fs'
  field_parts (alike.like_more_fields h hs) = (h, hs)

  pub evaluated_part : {n n' : Node} {e e' : Exp} {b b' : Bool} → LikeStatement alike.no_holes R (named.evaluates n e b) (named.evaluates n' e' b') → Like1 R e e'
  evaluated_part (alike.like_evaluates s h) = h

  pub return_part : {n n' : Node} {o o' : Else} → Like1 R (named.return n o) (named.return n' o') → LikeElse alike.no_holes R o o'
  return_part (alike.like_hole h) = absurd h
  return_part (alike.like_other_return h z) = absurd z
  return_part (alike.like_return s h) = h

  pub tuple_part : {n n' : Node} {es es' : Exps} → Like1 R (named.tuple n es) (named.tuple n' es') → LikeExps alike.no_holes R es es'
  tuple_part (alike.like_hole h) = absurd h
  tuple_part (alike.like_tuple s h) = h

  pub var_part : {n n' : Node} {u u' : Use} → Like1 R (named.var n u) (named.var n' u') → R.variable u.number u'.number ≡ true
  var_part (alike.like_hole h) = absurd h
  var_part (alike.like_var s h) = h

  pub deref_part : {n n' : Node} {e e' : Exp} → Like1 R (named.deref n e) (named.deref n' e') → Like1 R e e'
  deref_part (alike.like_hole h) = absurd h
  deref_part (alike.like_deref s h) = h

  pub negate_part : {n n' : Node} {e e' : Exp} → Like1 R (named.negate n e) (named.negate n' e') → Like1 R e e'
  negate_part (alike.like_hole h) = absurd h
  negate_part (alike.like_negate s h) = h

  pub invert_part : {n n' : Node} {e e' : Exp} → Like1 R (named.invert n e) (named.invert n' e') → Like1 R e e'
  invert_part (alike.like_hole h) = absurd h
  invert_part (alike.like_invert s h) = h

  pub print_part : {n n' : Node} {e e' : Exp} → Like1 R (named.print n e) (named.print n' e') → Like1 R e e'
  print_part (alike.like_hole h) = absurd h
  print_part (alike.like_print s h) = h

  pub assign_parts : {n n' : Node} {a a' b b' : Exp} → Like1 R (named.assign n a b) (named.assign n' a' b') → Like1 R a a' × Like1 R b b'
  assign_parts (alike.like_hole h) = absurd h
  assign_parts (alike.like_assign s h g) = (h, g)

  pub gives_parts : {n n' p p' : Node} {x x' : Use} {d d' : Option ℕ} {b b' : Exp} → Like1 R (named.gives n p x d b) (named.gives n' p' x' d' b') → Given R p p' x x' b b'
  gives_parts (alike.like_hole h) = absurd h
  gives_parts (alike.like_gives {a = a} {a' = a'} s h i i' g) = record { left = a; left' = a'; like = h; is = i; is' = i'; value = g }

  pub given_parts : {n n' p : Node} {x : Use} {d : Option ℕ} {a' b b' : Exp} → Like1 R (named.gives n p x d b) (named.assign n' a' b') → GivenFirst R p x a' b b'
  given_parts (alike.like_hole h) = absurd h
  given_parts (alike.like_given {a = a} s h i g) = record { left = a; like = h; is = i; value = g }

  pub giving_parts : {n n' p' : Node} {x' : Use} {d' : Option ℕ} {a b b' : Exp} → Like1 R (named.assign n a b) (named.gives n' p' x' d' b') → GivenThen R a p' x' b b'
  giving_parts (alike.like_hole h) = absurd h
  giving_parts (alike.like_giving {a' = a'} s h i g) = record { right = a'; like = h; is' = i; value = g }

  pub call_parts : {n n' : Node} {f f' : ℕ} {es es' : Exps} → Like1 R (named.call n f es) (named.call n' f' es') → (R.item f ≡ f') × LikeExps alike.no_holes R es es'
  call_parts (alike.like_hole h) = absurd h
  call_parts (alike.like_call s i h) = (i, h)

  pub hidden_part : {n n' : Node} {es es' : Exps} → Like1 R (named.hidden_call n es) (named.hidden_call n' es') → LikeExps alike.no_holes R es es'
  hidden_part (alike.like_hole h) = absurd h
  hidden_part (alike.like_hidden s h) = h

  pub not_hidden : {n n' : Node} {f : ℕ} {es es' : Exps} → Like1 R (named.call n f es) (named.hidden_call n' es') → ⊥
  not_hidden (alike.like_hole h) = absurd h

  pub not_called : {n n' : Node} {f : ℕ} {es es' : Exps} → Like1 R (named.hidden_call n es) (named.call n' f es') → ⊥
  not_called (alike.like_hole h) = absurd h

  pub make_parts : {n n' : Node} {i i' : ℕ} {fs fs' : Fields} → Like1 R (named.make n i fs) (named.make n' i' fs') → (R.item i ≡ i') × LikeFields alike.no_holes R fs fs'
  make_parts (alike.like_hole h) = absurd h
  make_parts (alike.like_make s i h) = (i, h)

  pub block_part : {n n' : Node} {b b' : Body} → Like1 R (named.block n b) (named.block n' b') → LikeBody alike.no_holes R b b'
  block_part (alike.like_hole h) = absurd h
  block_part (alike.like_block s h) = h

  pub if_parts : {n n' : Node} {c c' : Exp} {b b' : Body} {o o' : Else} → Like1 R (named.if n c b o) (named.if n' c' b' o') → Like1 R c c' × LikeBody alike.no_holes R b b' × LikeElse alike.no_holes R o o'
  if_parts (alike.like_hole h) = absurd h
  if_parts (alike.like_if s h g l) = (h, g, l)

  pub if_let_parts : {n n' : Node} {p p' : Pattern} {e e' : Exp} {b b' : Body} {o o' : Else} → Like1 R (named.if_let n p e b o) (named.if_let n' p' e' b' o')
      → LikePattern R p p' × Like1 R e e' × LikeBody alike.no_holes R b b' × LikeElse alike.no_holes R o o'
  if_let_parts (alike.like_hole h) = absurd h
  if_let_parts (alike.like_if_let s q h g l) = (q, h, g, l)

  pub match_parts : {n n' : Node} {e e' : Exp} {l l' : Arms} → Like1 R (named.match n e l) (named.match n' e' l') → Like1 R e e' × LikeArms alike.no_holes R l l'
  match_parts (alike.like_hole h) = absurd h
  match_parts (alike.like_match s h l) = (h, l)

  pub loop_parts : {n n' : Node} {l l' : ℕ} {k k' : Bool} {b b' : Body} → Like1 R (named.loop n l k b) (named.loop n' l' k' b') → (R.loop l l' ≡ true) × LikeBody alike.no_holes R b b'
  loop_parts (alike.like_hole h) = absurd h
  loop_parts (alike.like_loop s i h) = (i, h)

  pub while_parts : {n n' : Node} {l l' : ℕ} {c c' : Exp} {b b' : Body} → Like1 R (named.while n l c b) (named.while n' l' c' b') → Like1 R c c' × LikeBody alike.no_holes R b b'
  while_parts (alike.like_hole h) = absurd h
  while_parts (alike.like_while s i h g) = (h, g)

  pub while_let_parts : {n n' : Node} {l l' : ℕ} {p p' : Pattern} {e e' : Exp} {b b' : Body} → Like1 R (named.while_let n l p e b) (named.while_let n' l' p' e' b') → LikePattern R p p' × Like1 R e e' × LikeBody alike.no_holes R b b'
  while_let_parts (alike.like_hole h) = absurd h
  while_let_parts (alike.like_while_let s i q h g) = (q, h, g)

  pub break_part : {n n' : Node} {l l' : ℕ} → Like1 R (named.break n l) (named.break n' l') → R.loop l l' ≡ true
  break_part (alike.like_hole h) = absurd h
  break_part (alike.like_break s h) = h

  pub continue_part : {n n' : Node} {l l' : ℕ} → Like1 R (named.continue n l) (named.continue n' l') → R.loop l l' ≡ true
  continue_part (alike.like_hole h) = absurd h
  continue_part (alike.like_continue s h) = h

  pub body_parts : {n n' : Node} {ss ss' : Statements} {o o' : Else} → LikeBody alike.no_holes R (named.body n ss o) (named.body n' ss' o') → LikeStatements alike.no_holes R ss ss' × LikeElse alike.no_holes R o o'
  body_parts (alike.like_other_block h) = absurd h
  body_parts (alike.like_body f s h g) = (h, g)

-- places that are alike stand in variables that correspond
module _ (items : ℕ → ℕ) where
  pub root_same : {e e' : Exp} → LikeExp alike.no_holes (same_numbers items) e e' → (named.root e').number ≡ (named.root e).number
  root_same (alike.like_hole h) = absurd h
  root_same (alike.like_other_return h z) = absurd z
  root_same (alike.like_var {u = u} {u' = u'} s h) = sym (eqb-true u.number u'.number h)
  root_same (alike.like_field s h) = root_same h
  root_same (alike.like_part s h) = root_same h
  root_same (alike.like_deref s h) = root_same h
  root_same (alike.like_int s) = refl
  root_same (alike.like_bool s) = refl
  root_same (alike.like_tuple s h) = refl
  root_same (alike.like_negate s h) = refl
  root_same (alike.like_invert s h) = refl
  root_same (alike.like_borrow s h) = refl
  root_same (alike.like_binary s h g) = refl
  root_same (alike.like_assign s h g) = refl
  root_same (alike.like_gives s h i i' g) = refl
  root_same (alike.like_given s h i g) = refl
  root_same (alike.like_giving s h i g) = refl
  root_same (alike.like_update s h g) = refl
  root_same (alike.like_call s i h) = refl
  root_same (alike.like_hidden s h) = refl
  root_same (alike.like_input s) = refl
  root_same (alike.like_variant s i h) = refl
  root_same (alike.like_make s i h) = refl
  root_same (alike.like_print s h) = refl
  root_same (alike.like_block s h) = refl
  root_same (alike.like_if s h g l) = refl
  root_same (alike.like_if_let s q h g l) = refl
  root_same (alike.like_match s h l) = refl
  root_same (alike.like_loop s i h) = refl
  root_same (alike.like_while s i h g) = refl
  root_same (alike.like_while_let s i q h g) = refl
  root_same (alike.like_break s h) = refl
  root_same (alike.like_continue s h) = refl
  root_same (alike.like_return s h) = refl
