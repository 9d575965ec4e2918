-- What can be seen of like trees is alike: nodes, whether they are places, Never or diverge, the dereferences of places.
use Rattle.std.proofs.Common.{ℕ, suc, Bool, true, false, not, ◌&&◌, ◌||◌, List, [], ◌∷◌, ◌++◌, map, sym, subst}
use Rattle.rx_core.specs.declared.types.Span.{Span}
use Rattle.rx_typed.specs.declared.nodes.Node.{Node}
use Rattle.rx_typed.specs.declared.nodes.Site.{Site}
use Rattle.rx_typed.specs.declared.nodes.Use.{Use}
use Rattle.rx_tree.specs.declared.tree.BinaryOp.{BinaryOp}
use Rattle.rx_typed.specs.Named.{Written, WrittenTypes, Pattern, Patterns, FieldPatterns, Exp, Exps, Else, Fields, Arms, Body, Statement, Statements, written_node, pattern_node, node_of, body_node, is_place, is_variable, root, is_strict, never, else_never, all_never, body_never, tail_never, diverges, any_diverges, else_diverges, any_field_diverges, all_diverge, body_diverges, statement_diverges, some_diverges}
use Rattle.rx_typeck_solver.specs.declared.facts.Subject.{Subject}
use Rattle.rx_typeck_solver.specs.declared.facts.Passing.{Passing}
use Rattle.rx_typeck_solver.specs.declared.facts.Broken.{Broken}
use Rattle.rx_typeck_solver.specs.declared.facts.Test.{Test}
use Rattle.rx_typeck_solver.specs.declared.facts.Test.TheVariants as test
use Rattle.rx_typeck_solver.specs.declared.facts.Fact.TheVariants as fact
use Rattle.rx_typeck_solver.specs.declared.facts.Demand.{Demand}
use Rattle.rx_typeck_typed.specs.Asking.{type_of}
use Rattle.rx_typeck_typed.specs.Demands as rules
use Rattle.rx_typeck_typed.specs.Demands.{Matched}
use Rattle.rx_engine_blocks.specs.Renumbering.{Renumbering, node_at, passing_at, subject_at}
use Rattle.rx_engine_blocks.specs.DemandsLike.{DemandsLike, Is}
use Rattle.rx_engine_blocks.specs.DemandsLike.Is.{itself}
use Rattle.rx_engine_typing.specs.Renumbered.NodeAt.{renumbered}
use Rattle.rx_engine_typing.proofs.Expecting.{diverges_same}
use Rattle.rx_engine_typing.specs.Renumbered as like
use Rattle.rx_engine_typing.specs.Renumbered.{Holes, NodeAt, use_so, RenumberedType, RenumberedTypes, RenumberedPattern, RenumberedPatterns, RenumberedFieldPatterns, RenumberedExp, RenumberedExps, RenumberedElse, RenumberedFields, RenumberedArms, RenumberedBody, RenumberedStatement, RenumberedStatements}

-- ---- two of one thing

pub is_or : {a a' b b' : Bool} → Is a a' → Is b b' → Is (a || b) (a' || b')
is_or itself itself = itself

pub is_and : {a a' b b' : Bool} → Is a a' → Is b b' → Is (a && b) (a' && b')
is_and itself itself = itself

pub is_not : {a a' : Bool} → Is a a' → Is (not a) (not a')
is_not itself = itself

pub is_suc : {m n : ℕ} → Is m n → Is (suc m) (suc n)
is_suc itself = itself

pub is_more : {A : Type 0} {a : A} {l l' : List A} → Is l l' → Is (a ∷ l) (a ∷ l')
is_more itself = itself

pub data PassingsAt (r : Renumbering) : List Passing → List Passing → Type 0 where
  passings : {ps : List Passing} → PassingsAt r ps (map (passing_at r) ps)

passings_so : (r : Renumbering) (ps : List Passing) {ps' : List Passing} → Is (map (passing_at r) ps) ps' → PassingsAt r ps ps'
passings_so r ps itself = passings

-- demands of the answer that stand for those of a place whose variable is seen through a reference: longer tests, and one more where the
-- whole variable is assigned
pub record Longer (r : Renumbering) (Special : List Demand → List Demand → Type 0) : Type 0 where
  pub lengthen : (n : Node) (s : Span) (b b' : Broken) (t t' : Test) (xs : List Subject) (anc ps : List Passing) (k : ℕ)
      → Special (record { node = n.number; span = n.span; broken = b; unsuffixed = false; facts = fact.Passes t xs anc ps ∷ [] } ∷ [])
      (record { node = r.nodes n.number; span = s; broken = b'; unsuffixed = false; facts = fact.Passes t' (map (subject_at r) xs) (map (passing_at r) anc) (map (passing_at r) ps ++ record { node = k; all = false } ∷ []) ∷ [] } ∷ [])
  pub assigned : (n : Node) (s : Span) (b' : Broken) (own : Bool) (qs : List Passing)
      → Special [] (record { node = r.nodes n.number; span = s; broken = b'; unsuffixed = false; facts = fact.Passes (test.Writable own) [] [] qs ∷ [] } ∷ [])

-- the dereferences of a place
pub data ThroughLike (r : Renumbering) (Special : List Demand → List Demand → Type 0) : List Passing → List Passing → Type 0 where
  same : {ps : List Passing} → ThroughLike r Special ps (map (passing_at r) ps)
  longer : {ps : List Passing} → Longer r Special → (k : ℕ) → ThroughLike r Special ps (map (passing_at r) ps ++ record { node = k; all = false } ∷ [])

-- the test that what is written may be, of a variable that is `mut` in one alone: one of the text's that isn't asked, and one that is asked
pub record Remade (r : Renumbering) (Special : List Demand → List Demand → Type 0) : Type 0 where
  pub lost : (n : Node) (b : Broken) (own : Bool) (ps : List Passing) → Special (record { node = n.number; span = n.span; broken = b; unsuffixed = false; facts = fact.Passes (test.Writable own) [] [] ps ∷ [] } ∷ []) []
  pub new : (n : Node) (s : Span) (b : Broken) (own : Bool) (ps : List Passing) → Special [] (record { node = r.nodes n.number; span = s; broken = b; unsuffixed = false; facts = fact.Passes (test.Writable own) [] [] ps ∷ [] } ∷ [])

-- what both ask of a use that is `mut` so and known so in the second
pub record OtherUse (r : Renumbering) (Special : List Demand → List Demand → Type 0) (x : Use) (m k : Bool) : Type 0 where
  pub remade : Remade r Special
  pub named : (n : Node) (s : Span) (ds ds' : List Demand) → DemandsLike r Special ds ds' → DemandsLike r Special (rules.named_at n x x.known ds) (rules.named_at (node_at r n s) (use_so r m k x) k ds')

-- of a place: whether it is a whole variable, whether that is declared `mut`, the dereferences
pub data RootLike (r : Renumbering) (Special : List Demand → List Demand → Type 0) : Bool → Bool → List Passing → Bool → Bool → List Passing → Type 0 where
  plain : {w m : Bool} {ps : List Passing} → RootLike r Special w m ps w m (map (passing_at r) ps)
  seen : {w m m' : Bool} {ps : List Passing} → Longer r Special → (k : ℕ) → RootLike r Special w m ps false m' (map (passing_at r) ps ++ record { node = k; all = false } ∷ [])
  remade : {w m m' : Bool} {ps : List Passing} → Remade r Special → RootLike r Special w m ps w m' (map (passing_at r) ps)

pub root_through : {r : Renumbering} {Special : List Demand → List Demand → Type 0} {w m w' m' : Bool} {ps ps' : List Passing} → RootLike r Special w m ps w' m' ps' → ThroughLike r Special ps ps'
root_through plain = same
root_through (seen l k) = longer l k
root_through (remade l) = same

root_more : {r : Renumbering} {Special : List Demand → List Demand → Type 0} {w m w' m' : Bool} {ps ps' : List Passing} {n n' : Node} (all : Bool) → NodeAt r n n' → RootLike r Special w m ps w' m' ps'
    → RootLike r Special false m (record { node = n.number; all = all } ∷ ps) false m' (record { node = n'.number; all = all } ∷ ps')
root_more all renumbered plain = plain
root_more all renumbered (seen l k) = seen l k
root_more all renumbered (remade l) = remade l

abbrev pub RootOf : (r : Renumbering) (Special : List Demand → List Demand → Type 0) → Exp → Exp → Type 0
RootOf r Special e e' = RootLike r Special (is_variable e) (root e).mutable (rules.through e) (is_variable e') (root e').mutable (rules.through e')

-- what stands for a part looks like it
pub record Fits (r : Renumbering) (loops : ℕ → ℕ) (H : Holes) (Special : List Demand → List Demand → Type 0) : Type 0 where
  pub node : (e e' : Exp) → H.expression e e' → NodeAt r (node_of e) (node_of e')
  pub place : (e e' : Exp) → H.expression e e' → Is (is_place e) (is_place e')
  pub root : (e e' : Exp) → H.expression e e' → RootOf r Special e e'
  pub diverges : (e e' : Exp) → H.expression e e' → Is (diverges e) (diverges e')
  pub never : (e e' : Exp) → H.expression e e' → Is (never e) (never e')
  pub uses : (x : Use) (m k : Bool) → H.uses x m k → OtherUse r Special x m k
  pub block_node : (b b' : Body) → H.block b b' → NodeAt r (body_node b) (body_node b')
  pub block_diverges : (b b' : Body) → H.block b b' → Is (body_diverges b) (body_diverges b')
  pub block_never : (b b' : Body) → H.block b b' → Is (body_never b) (body_never b')

module _ (r : Renumbering) (loops : ℕ → ℕ) (H : Holes) (Special : List Demand → List Demand → Type 0) (fits : Fits r loops H Special) where
  -- ---- nodes

  pub like_written_node : {t t' : Written} → RenumberedType r t t' → NodeAt r (written_node t) (written_node t')
  like_written_node like.RenumberedType.a_kind = renumbered
  like_written_node like.RenumberedType.a_bool = renumbered
  like_written_node (like.RenumberedType.a_tuple h) = renumbered
  like_written_node (like.RenumberedType.a_reference h) = renumbered
  like_written_node like.RenumberedType.an_item = renumbered

  pub like_pattern_node : {p p' : Pattern} → RenumberedPattern r p p' → NodeAt r (pattern_node p) (pattern_node p')
  like_pattern_node like.RenumberedPattern.wild = renumbered
  like_pattern_node like.RenumberedPattern.bind = renumbered
  like_pattern_node like.RenumberedPattern.whole_number = renumbered
  like_pattern_node like.RenumberedPattern.truth = renumbered
  like_pattern_node (like.RenumberedPattern.tuple_pattern h) = renumbered
  like_pattern_node (like.RenumberedPattern.variant_pattern h) = renumbered
  like_pattern_node (like.RenumberedPattern.struct_pattern h) = renumbered

  pub like_node : {e e' : Exp} → RenumberedExp r loops H e e' → NodeAt r (node_of e) (node_of e')
  like_node (like.RenumberedExp.hole {e = e} {e' = e'} h) = fits.node e e' h
  like_node like.RenumberedExp.int = renumbered
  like_node like.RenumberedExp.bool = renumbered
  like_node (like.RenumberedExp.tuple h) = renumbered
  like_node like.RenumberedExp.var = renumbered
  like_node (like.RenumberedExp.other_var k) = renumbered
  like_node (like.RenumberedExp.field h) = renumbered
  like_node (like.RenumberedExp.part h) = renumbered
  like_node (like.RenumberedExp.deref h) = renumbered
  like_node (like.RenumberedExp.negate h) = renumbered
  like_node (like.RenumberedExp.invert h) = renumbered
  like_node (like.RenumberedExp.borrow h) = renumbered
  like_node (like.RenumberedExp.binary h k) = renumbered
  like_node (like.RenumberedExp.assign h k) = renumbered
  like_node (like.RenumberedExp.gives h) = renumbered
  like_node (like.RenumberedExp.assigns k h) = renumbered
  like_node (like.RenumberedExp.update h k) = renumbered
  like_node (like.RenumberedExp.call h) = renumbered
  like_node (like.RenumberedExp.hidden_call h) = renumbered
  like_node like.RenumberedExp.next_input = renumbered
  like_node (like.RenumberedExp.variant h) = renumbered
  like_node (like.RenumberedExp.make h) = renumbered
  like_node (like.RenumberedExp.print h) = renumbered
  like_node (like.RenumberedExp.block h) = renumbered
  like_node (like.RenumberedExp.if h k l) = renumbered
  like_node (like.RenumberedExp.if_let h k l m) = renumbered
  like_node (like.RenumberedExp.match h k) = renumbered
  like_node (like.RenumberedExp.loop h) = renumbered
  like_node (like.RenumberedExp.while h k) = renumbered
  like_node (like.RenumberedExp.while_let h k l) = renumbered
  like_node like.RenumberedExp.break = renumbered
  like_node like.RenumberedExp.continue = renumbered
  like_node (like.RenumberedExp.return k h) = renumbered

  pub like_body_node : {b b' : Body} → RenumberedBody r loops H b b' → NodeAt r (body_node b) (body_node b')
  like_body_node (like.RenumberedBody.other_block {b = b} {b' = b'} h) = fits.block_node b b' h
  like_body_node (like.RenumberedBody.body h k) = renumbered

  -- ---- places

  pub like_place : {e e' : Exp} → RenumberedExp r loops H e e' → Is (is_place e) (is_place e')
  like_place (like.RenumberedExp.hole {e = e} {e' = e'} h) = fits.place e e' h
  like_place like.RenumberedExp.var = itself
  like_place (like.RenumberedExp.other_var k) = itself
  like_place (like.RenumberedExp.field h) = itself
  like_place (like.RenumberedExp.part h) = itself
  like_place (like.RenumberedExp.deref h) = itself
  like_place like.RenumberedExp.int = itself
  like_place like.RenumberedExp.bool = itself
  like_place (like.RenumberedExp.tuple h) = itself
  like_place (like.RenumberedExp.negate h) = itself
  like_place (like.RenumberedExp.invert h) = itself
  like_place (like.RenumberedExp.borrow h) = itself
  like_place (like.RenumberedExp.binary h k) = itself
  like_place (like.RenumberedExp.assign h k) = itself
  like_place (like.RenumberedExp.gives h) = itself
  like_place (like.RenumberedExp.assigns k h) = itself
  like_place (like.RenumberedExp.update h k) = itself
  like_place (like.RenumberedExp.call h) = itself
  like_place (like.RenumberedExp.hidden_call h) = itself
  like_place like.RenumberedExp.next_input = itself
  like_place (like.RenumberedExp.variant h) = itself
  like_place (like.RenumberedExp.make h) = itself
  like_place (like.RenumberedExp.print h) = itself
  like_place (like.RenumberedExp.block h) = itself
  like_place (like.RenumberedExp.if h k l) = itself
  like_place (like.RenumberedExp.if_let h k l m) = itself
  like_place (like.RenumberedExp.match h k) = itself
  like_place (like.RenumberedExp.loop h) = itself
  like_place (like.RenumberedExp.while h k) = itself
  like_place (like.RenumberedExp.while_let h k l) = itself
  like_place like.RenumberedExp.break = itself
  like_place like.RenumberedExp.continue = itself
  like_place (like.RenumberedExp.return k h) = itself

  pub like_root : {e e' : Exp} → RenumberedExp r loops H e e' → RootOf r Special e e'
  like_root (like.RenumberedExp.hole {e = e} {e' = e'} h) = fits.root e e' h
  like_root like.RenumberedExp.var = plain
  like_root (like.RenumberedExp.other_var {x = x} {m = m} {k = k} u) = remade (fits.uses x m k u).remade
  like_root (like.RenumberedExp.field h) = root_more true (like_node h) (like_root h)
  like_root (like.RenumberedExp.part h) = root_more true (like_node h) (like_root h)
  like_root (like.RenumberedExp.deref h) = root_more false (like_node h) (like_root h)
  like_root like.RenumberedExp.int = plain
  like_root like.RenumberedExp.bool = plain
  like_root (like.RenumberedExp.tuple h) = plain
  like_root (like.RenumberedExp.negate h) = plain
  like_root (like.RenumberedExp.invert h) = plain
  like_root (like.RenumberedExp.borrow h) = plain
  like_root (like.RenumberedExp.binary h k) = plain
  like_root (like.RenumberedExp.assign h k) = plain
  like_root (like.RenumberedExp.gives h) = plain
  like_root (like.RenumberedExp.assigns k h) = plain
  like_root (like.RenumberedExp.update h k) = plain
  like_root (like.RenumberedExp.call h) = plain
  like_root (like.RenumberedExp.hidden_call h) = plain
  like_root like.RenumberedExp.next_input = plain
  like_root (like.RenumberedExp.variant h) = plain
  like_root (like.RenumberedExp.make h) = plain
  like_root (like.RenumberedExp.print h) = plain
  like_root (like.RenumberedExp.block h) = plain
  like_root (like.RenumberedExp.if h k l) = plain
  like_root (like.RenumberedExp.if_let h k l m) = plain
  like_root (like.RenumberedExp.match h k) = plain
  like_root (like.RenumberedExp.loop h) = plain
  like_root (like.RenumberedExp.while h k) = plain
  like_root (like.RenumberedExp.while_let h k l) = plain
  like_root like.RenumberedExp.break = plain
  like_root like.RenumberedExp.continue = plain
  like_root (like.RenumberedExp.return k h) = plain

  -- ---- what diverges

  pub tail_like : {d d' : Bool} {o o' : Else} → Is d d' → RenumberedElse r loops H o o' → Is (else_never o) (else_never o') → Is (tail_never d o) (tail_never d' o')
  tail_like h like.RenumberedElse.absent k = h
  tail_like h (like.RenumberedElse.present i) k = k

  strict_like : (o : BinaryOp) {a a' b b' : Bool} → Is a a' → Is b b' → Is (a || (is_strict o && b)) (a' || (is_strict o && b'))
  strict_like o itself itself = itself

  mutual
    pub like_diverges : {e e' : Exp} → RenumberedExp r loops H e e' → Is (diverges e) (diverges e')
    like_diverges (like.RenumberedExp.hole {e = e} {e' = e'} h) = fits.diverges e e' h
    like_diverges like.RenumberedExp.int = itself
    like_diverges like.RenumberedExp.bool = itself
    like_diverges (like.RenumberedExp.tuple h) = any_like h
    like_diverges like.RenumberedExp.var = itself
    like_diverges (like.RenumberedExp.other_var k) = itself
    like_diverges (like.RenumberedExp.field h) = like_diverges h
    like_diverges (like.RenumberedExp.part h) = like_diverges h
    like_diverges (like.RenumberedExp.deref h) = like_diverges h
    like_diverges (like.RenumberedExp.negate h) = like_diverges h
    like_diverges (like.RenumberedExp.invert h) = like_diverges h
    like_diverges (like.RenumberedExp.borrow h) = like_diverges h
    like_diverges (like.RenumberedExp.binary {o = o} h k) = strict_like o (like_diverges h) (like_diverges k)
    like_diverges (like.RenumberedExp.assign h k) = is_or (like_diverges h) (like_diverges k)
    like_diverges (like.RenumberedExp.gives h) = like_diverges h
    like_diverges (like.RenumberedExp.assigns {e = e} {e' = e'} k h) = subst (λ (b : Bool). Is (diverges e) b) (sym (diverges_same e')) (like_diverges h)
    like_diverges (like.RenumberedExp.update h k) = is_or (like_diverges h) (like_diverges k)
    like_diverges (like.RenumberedExp.call h) = any_like h
    like_diverges (like.RenumberedExp.hidden_call h) = any_like h
    like_diverges like.RenumberedExp.next_input = itself
    like_diverges (like.RenumberedExp.variant h) = any_like h
    like_diverges (like.RenumberedExp.make h) = any_field_like h
    like_diverges (like.RenumberedExp.print h) = like_diverges h
    like_diverges (like.RenumberedExp.block h) = body_diverges_like h
    like_diverges (like.RenumberedExp.if h k l) = is_or (like_diverges h) (is_and (body_diverges_like k) (else_diverges_like l))
    like_diverges (like.RenumberedExp.if_let p h k l) = is_or (like_diverges h) (is_and (body_diverges_like k) (else_diverges_like l))
    like_diverges (like.RenumberedExp.match h k) = is_or (like_diverges h) (all_diverge_like k)
    like_diverges (like.RenumberedExp.loop h) = itself
    like_diverges (like.RenumberedExp.while h k) = like_diverges h
    like_diverges (like.RenumberedExp.while_let p h k) = like_diverges h
    like_diverges like.RenumberedExp.break = itself
    like_diverges like.RenumberedExp.continue = itself
    like_diverges (like.RenumberedExp.return k h) = itself

    any_like : {es es' : Exps} → RenumberedExps r loops H es es' → Is (any_diverges es) (any_diverges es')
    any_like like.RenumberedExps.no_exp = itself
    any_like (like.RenumberedExps.exp_and h k) = is_or (like_diverges h) (any_like k)

    pub else_diverges_like : {o o' : Else} → RenumberedElse r loops H o o' → Is (else_diverges o) (else_diverges o')
    else_diverges_like like.RenumberedElse.absent = itself
    else_diverges_like (like.RenumberedElse.present h) = like_diverges h

    any_field_like : {fs fs' : Fields} → RenumberedFields r loops H fs fs' → Is (any_field_diverges fs) (any_field_diverges fs')
    any_field_like like.RenumberedFields.no_field = itself
    any_field_like (like.RenumberedFields.field_and h k) = is_or (like_diverges h) (any_field_like k)

    all_diverge_like : {l l' : Arms} → RenumberedArms r loops H l l' → Is (all_diverge l) (all_diverge l')
    all_diverge_like like.RenumberedArms.no_arm = itself
    all_diverge_like (like.RenumberedArms.arm_and p h k) = is_and (like_diverges h) (all_diverge_like k)

    body_diverges_like : {b b' : Body} → RenumberedBody r loops H b b' → Is (body_diverges b) (body_diverges b')
    body_diverges_like (like.RenumberedBody.other_block {b = b} {b' = b'} h) = fits.block_diverges b b' h
    body_diverges_like (like.RenumberedBody.body h k) = is_or (some_like h) (else_diverges_like k)

    pub statement_diverges_like : {a a' : Statement} → RenumberedStatement r loops H a a' → Is (statement_diverges a) (statement_diverges a')
    statement_diverges_like (like.RenumberedStatement.declares p t) = itself
    statement_diverges_like (like.RenumberedStatement.lets p t h) = like_diverges h
    statement_diverges_like (like.RenumberedStatement.evaluates h) = like_diverges h

    pub some_like : {ss ss' : Statements} → RenumberedStatements r loops H ss ss' → Is (some_diverges ss) (some_diverges ss')
    some_like like.RenumberedStatements.no_statement = itself
    some_like (like.RenumberedStatements.statement_and h k) = is_or (statement_diverges_like h) (some_like k)

  mutual
    pub like_never : {e e' : Exp} → RenumberedExp r loops H e e' → Is (never e) (never e')
    like_never (like.RenumberedExp.hole {e = e} {e' = e'} h) = fits.never e e' h
    like_never (like.RenumberedExp.block h) = like_body_never h
    like_never (like.RenumberedExp.if h k l) = is_and (like_body_never k) (like_else_never l)
    like_never (like.RenumberedExp.if_let p h k l) = is_and (like_body_never k) (like_else_never l)
    like_never (like.RenumberedExp.match h k) = like_all_never k
    like_never like.RenumberedExp.int = itself
    like_never like.RenumberedExp.bool = itself
    like_never (like.RenumberedExp.tuple h) = itself
    like_never like.RenumberedExp.var = itself
    like_never (like.RenumberedExp.other_var k) = itself
    like_never (like.RenumberedExp.field h) = itself
    like_never (like.RenumberedExp.part h) = itself
    like_never (like.RenumberedExp.deref h) = itself
    like_never (like.RenumberedExp.negate h) = itself
    like_never (like.RenumberedExp.invert h) = itself
    like_never (like.RenumberedExp.borrow h) = itself
    like_never (like.RenumberedExp.binary h k) = itself
    like_never (like.RenumberedExp.assign h k) = itself
    like_never (like.RenumberedExp.gives h) = itself
    like_never (like.RenumberedExp.assigns k h) = itself
    like_never (like.RenumberedExp.update h k) = itself
    like_never (like.RenumberedExp.call h) = itself
    like_never (like.RenumberedExp.hidden_call h) = itself
    like_never like.RenumberedExp.next_input = itself
    like_never (like.RenumberedExp.variant h) = itself
    like_never (like.RenumberedExp.make h) = itself
    like_never (like.RenumberedExp.print h) = itself
    like_never (like.RenumberedExp.loop h) = itself
    like_never (like.RenumberedExp.while h k) = itself
    like_never (like.RenumberedExp.while_let p h k) = itself
    like_never like.RenumberedExp.break = itself
    like_never like.RenumberedExp.continue = itself
    like_never (like.RenumberedExp.return k h) = itself

    pub like_else_never : {o o' : Else} → RenumberedElse r loops H o o' → Is (else_never o) (else_never o')
    like_else_never like.RenumberedElse.absent = itself
    like_else_never (like.RenumberedElse.present h) = like_never h

    pub like_all_never : {l l' : Arms} → RenumberedArms r loops H l l' → Is (all_never l) (all_never l')
    like_all_never like.RenumberedArms.no_arm = itself
    like_all_never (like.RenumberedArms.arm_and p h k) = is_and (like_never h) (like_all_never k)

    pub like_body_never : {b b' : Body} → RenumberedBody r loops H b b' → Is (body_never b) (body_never b')
    like_body_never (like.RenumberedBody.other_block {b = b} {b' = b'} h) = fits.block_never b b' h
    like_body_never (like.RenumberedBody.body h k) = tail_like (some_like h) k (like_else_never k)

  -- ---- lists

  subject_more : {n n' : Node} (xs : List Subject) {xs' : List Subject} → NodeAt r n n' → Is (map (subject_at r) xs) xs' → Is (map (subject_at r) (type_of n ∷ xs)) (type_of n' ∷ xs')
  subject_more xs renumbered itself = itself

  pub like_written_nodes : {ts ts' : WrittenTypes} → RenumberedTypes r ts ts' → Is (map (subject_at r) (rules.written_nodes ts)) (rules.written_nodes ts')
  like_written_nodes like.RenumberedTypes.no_written = itself
  like_written_nodes (like.RenumberedTypes.written_and h k) = subject_more _ (like_written_node h) (like_written_nodes k)

  pub like_exp_nodes : {es es' : Exps} → RenumberedExps r loops H es es' → Is (map (subject_at r) (rules.exp_nodes es)) (rules.exp_nodes es')
  like_exp_nodes like.RenumberedExps.no_exp = itself
  like_exp_nodes (like.RenumberedExps.exp_and h k) = subject_more _ (like_node h) (like_exp_nodes k)

  pub like_arguments : {es es' : Exps} → RenumberedExps r loops H es es' → Is (rules.argument_count es) (rules.argument_count es')
  like_arguments like.RenumberedExps.no_exp = itself
  like_arguments (like.RenumberedExps.exp_and h k) = is_suc (like_arguments k)

  pub like_names : {fs fs' : Fields} → RenumberedFields r loops H fs fs' → Is (rules.names_given fs) (rules.names_given fs')
  like_names like.RenumberedFields.no_field = itself
  like_names (like.RenumberedFields.field_and h k) = is_more (like_names k)

  pub like_count : {ps ps' : Patterns} → RenumberedPatterns r ps ps' → Is (rules.count ps) (rules.count ps')
  like_count like.RenumberedPatterns.no_pattern = itself
  like_count (like.RenumberedPatterns.pattern_and h k) = is_suc (like_count k)

  pub like_field_names : {fs fs' : FieldPatterns} → RenumberedFieldPatterns r fs fs' → Is (rules.field_names fs) (rules.field_names fs')
  like_field_names like.RenumberedFieldPatterns.no_field_pattern = itself
  like_field_names (like.RenumberedFieldPatterns.field_pattern_and h k) = is_more (like_field_names k)

  pub under_like : (n : Node) (s : Span) {ps ps' : List Passing} → PassingsAt r ps ps' → PassingsAt r (rules.under n ps) (rules.under (node_at r n s) ps')
  under_like n s (passings {ps = ps}) = passings_so r (rules.under n ps) (go ps)
    where
      go : (ps : List Passing) → Is (map (passing_at r) (rules.under n ps)) (rules.under (node_at r n s) (map (passing_at r) ps))
      go [] = itself
      go (p ∷ ps) = is_more (go ps)

  -- ---- what is matched

  pub data MatchedLike : Matched → Matched → Type 0 where
    a_value : MatchedLike rules.a_value rules.a_value
    a_place : {x x' : ℕ} {ps ps' : List Passing} → ThroughLike r Special ps ps' → MatchedLike (rules.a_place x ps) (rules.a_place x' ps')
    an_initialiser : {n : Node} {s : Span} {x x' : ℕ} {ps ps' : List Passing} → ThroughLike r Special ps ps' → MatchedLike (rules.an_initialiser n x ps) (rules.an_initialiser (node_at r n s) x' ps')

  matched_at : (t : Site) (n : Node) (s : Span) (x x' : ℕ) {ps ps' : List Passing} → ThroughLike r Special ps ps' → MatchedLike (rules.matched_in t n x ps) (rules.matched_in t (node_at r n s) x' ps')
  matched_at Site.Initialises n s x x' h = an_initialiser h
  matched_at Site.Value n s x x' h = a_place h
  matched_at Site.Place n s x x' h = a_place h
  matched_at Site.Scrutinee n s x x' h = a_place h
  matched_at Site.Expects n s x x' h = a_place h
  matched_at Site.Reborrows n s x x' h = a_place h

  matched_as : {b b' : Bool} {n n' : Node} (x x' : ℕ) {ps ps' : List Passing} → Is b b' → NodeAt r n n' → ThroughLike r Special ps ps' → MatchedLike (rules.matched_if b n x ps) (rules.matched_if b' n' x' ps')
  matched_as {b = true} x x' itself (renumbered {n = n} {s = s}) h = matched_at n.site n s x x' h
  matched_as {b = false} x x' itself h k = a_value

  pub like_matched : {e e' : Exp} → RenumberedExp r loops H e e' → MatchedLike (rules.matched e) (rules.matched e')
  like_matched {e} {e'} h = matched_as (root e).number (root e').number (like_place h) (like_node h) (root_through (like_root h))
