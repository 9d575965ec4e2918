-- The matches of statements that are made in place of a run and fit: those of calls' values are on the enum of exits, or bind variables.
use Rattle.std.proofs.Common.{◌≡◌, inl, ℕ, suc, Bool, true, false, List, [], ◌∷◌, ◌++◌, Option, Some, None, refl, sym, ap, ◌∙◌, subst, arith}
use Rattle.rx_core.specs.declared.types.Kind.{Kind}
use Rattle.rx_typed.specs.declared.nodes.Node.{Node}
use Rattle.rx_typed.specs.declared.nodes.Site.{Site}
use Rattle.rx_typed.specs.Types.{named as item, tuple_of, Shapes, Typ}
use Rattle.rx_typed.specs.Named as named
use Rattle.rx_typed.specs.Named.{all_never, is_place, node_of, Arms, Else, Exp, Exps, Patterns, Statement, Statements}
use Rattle.rx_typed.specs.Tree as tree
use Rattle.rx_typed.specs.Tree.{mark_of}
use Rattle.rx_typed.specs.Elaborated as elaborated
use Rattle.rx_typed.specs.Elaborated.{arms, behind_all, coercion_at, coercion_in, mark, matched, matched_as, met, nested, operands, passed_as, pattern, plain, subpatterns, tail, type_unless, value, Assigned, Coercion}
use Rattle.rx_typeck_solver.specs.Facts.{Assignment, KnownItems}
use Rattle.rx_cover.specs.Causes.{AllCovered, Covered, CoversTyp}
use Rattle.rx_cover.specs.Choices.{choice_of, choices, choices_among, choices_before, choices_behind, choices_within, patterns_of, scrutinee_typ, Choice}
use Rattle.rx_cover.specs.Matching.{Covers}
use Rattle.rx_engine_typing.specs.Corresponding.{given_types}
use Rattle.rx_engine_holes.specs.CallFits.{ArgumentsFit, ArmsFit, EndFits, GivenFits, JumpFits, MembersFit, PartsBind, StatementFits, StatementsFit, ValueFits}
use Rattle.rx_engine_holes.specs.CallFits.GivenFits.{borrowed, by_itself}
use Rattle.rx_engine_holes.specs.CallFits.ArgumentsFit.{more_arguments, no_arguments}
use Rattle.rx_engine_holes.specs.CallFits.MembersFit.{more_members, no_members}
use Rattle.rx_engine_holes.specs.CallFits.PartsBind.{more_parts, no_parts}
use Rattle.rx_engine_holes.specs.CallFits.ValueFits.{a_call, a_match, a_tuple, a_variable, the_unit}
use Rattle.rx_engine_holes.specs.CallFits.ArmsFit.{gives_value, leaves, no_arms}
use Rattle.rx_engine_holes.specs.CallFits.JumpFits.{a_break, a_continue, a_jump_behind, a_return, a_return_with}
use Rattle.rx_engine_holes.specs.CallFits.StatementFits.{assigned, bound, declared, done, given, given_within, jumps, several_bound}
use Rattle.rx_engine_holes.specs.CallFits.StatementsFit.{a_statement, no_more}
use Rattle.rx_engine_holes.specs.CallFits.EndFits.{a_tail, no_tail}
use Rattle.rx_engine_holes.specs.Entries.{Context, Entries, Has}
use Rattle.rx_engine_holes.proofs.Entering.{has_first}
use Rattle.rx_engine_covered.specs.TakesAll.{ArmsTakeAll, EachTakesAll, ElseTakesAll, ExpTakesAll, StatementsTakeAll, StatementTakesAll, TakesAll}
use Rattle.rx_engine_covered.specs.Within.{choices_at_end, choices_in_statements}
use Rattle.rx_engine_covered.proofs.Made.{arms_cover, arms_narrow, tuple_covers, tuple_narrow, AllBind, VariantArms}
use Rattle.rx_engine_covered.proofs.Marks.{borrow_none, call_choices, covered_both, read_none, tuple_choices, value_before}

two : (a a' b b' : List Choice) → a ≡ a' → b ≡ b' → a ++ b ≡ a' ++ b'
two a a' b b' e g = ap (λ (l : List Choice). l ++ b) e ∙ ap (λ (l : List Choice). a' ++ l) g

module _ (E : KnownItems) (f : ℕ) (C : Assignment) where
  abbrev T : Assigned
  T = given_types E C

  abbrev All : List Choice → Type 0
  All cs = AllCovered E.items cs

  none_covered : (l : List Choice) → l ≡ [] → All l
  none_covered l e = subst (λ (l : List Choice). All l) (sym e) tt

  -- ---- operands that are variables

  given_none : {B : Context} {e : Exp} {u : Typ} {a : Entries} → GivenFits E B e u a → (k : ℕ) → choices k (value T e) ≡ []
  given_none (by_itself {n = n} {x = x} i y s c) k = read_none T n (coercion_at T n) (elaborated.place T (named.var n x)) k
  given_none (borrowed {n = n} {k = j} {m = m} {x = x} i y s p w l c) k = borrow_none T n (coercion_at T n) (mark T n) m (elaborated.place T (named.var j x)) k

  arguments_none : {B : Context} {g i : ℕ} {es : Exps} {a : Entries} → ArgumentsFit E B g i es a → (k : ℕ) → choices_among (operands T k es) ≡ []
  arguments_none no_arguments k = refl
  arguments_none (more_arguments {e = e} {es = es} p h hs) k = two (choices (mark_of (value T e)).node (value T e)) [] (choices_among (operands T (suc k) es)) [] (given_none h (mark_of (value T e)).node) (arguments_none hs (suc k))

  members_none : {B : Context} {es : Exps} {ts : Shapes Kind} {a : Entries} → MembersFit E B es ts a → (k : ℕ) → choices_among (operands T k es) ≡ []
  members_none no_members k = refl
  members_none (more_members {n = n} {x = x} {es = es} i y s hs) k = two (choices (mark_of (value T (named.var n x))).node (value T (named.var n x))) [] (choices_among (operands T (suc k) es)) []
      (read_none T n (coercion_at T n) (elaborated.place T (named.var n x)) (mark_of (value T (named.var n x))).node) (members_none hs (suc k))

  parts_bind : {ts : List Typ} {k : ℕ} {ps : Patterns} {a : Entries} → PartsBind E ts k ps a → AllBind ps
  parts_bind no_parts = tt
  parts_bind (more_parts t l hs) = parts_bind hs

  -- ---- the type of what is matched

  -- Never, or this type
  abbrev OneOf : Typ → Option Typ → Type 0
  OneOf t None = Unit {0}
  OneOf t (Some u) = u ≡ t

  unless_of : (b : Bool) (t u : Typ) → u ≡ t → OneOf t (type_unless b u)
  unless_of true t u e = tt
  unless_of false t u e = e

  call_typ : (n : Node) (s : Site) → n.site ≡ s → s ≡ Site.Scrutinee → (e : tree.Exp) → (mark_of (passed_as T n (coercion_at T n) e)) ≡ mark_of e
  call_typ n s i j e = ap (λ (s : Site). mark_of (passed_as T n (coercion_in T n.number s) e)) (i ∙ j)

  tuple_typ : (n : Node) (es : tree.Operands) (t : Typ) → T.typ n.number ≡ t → OneOf t (mark_of (elaborated.tuple_of T n es)).typ
  tuple_typ n tree.no_operand t e = e
  tuple_typ n (tree.operand_and i x es) t e = e

  no_place : true ≡ false → ⊥
  no_place e = cc

  value_typ : {B : Context} {e : Exp} {u t : Typ} {a : Entries} → ValueFits E f B e u t a → Has C a → (node_of e).site ≡ Site.Scrutinee → is_place e ≡ false → OneOf t (mark_of (value T e)).typ
  value_typ (a_call {n = n} {g = g} {es = es} {t = t} l x r) h s p =
      subst (λ (m : tree.Mark). OneOf t m.typ) (sym (call_typ n n.site refl s (tree.call (mark T n) g (operands T 0 es)))) h.0
  value_typ (a_variable i y) h s p = absurd (no_place p)
  value_typ (a_tuple {n = n} {es = es} {ts = ts} x l) h s p = tuple_typ n (operands T 0 es) (tuple_of ts) h.0
  value_typ (the_unit {n = n} {m = m} i) h s p = h.1.0
  value_typ (a_match {n = n} {l = l} {t = t} x i q z y k) h s p = unless_of (all_never l) t (T.typ n.number) h.0

  matched_typ : (e : Exp) (t : Typ) → is_place e ≡ false → OneOf t (mark_of (value T e)).typ → OneOf t (scrutinee_typ (matched T e (value T e)))
  matched_typ e t p o = subst (λ (b : Bool). OneOf t (scrutinee_typ (matched_as T b (coercion_at T (node_of e)) e (value T e)))) (sym p) o

  covers_one : (t : Typ) (o : Option Typ) (ps : List tree.Pattern) → OneOf t o → Covers E.items t ps → CoversTyp E.items o ps
  covers_one t None ps e c = tt
  covers_one t (Some u) ps e c = subst (λ (t : Typ). Covers E.items t ps) (sym e) c

  -- the arms of a match
  arms_so : {B : Context} {s : Site} {i : ℕ} {u t : Typ} {l : Arms} {a : Entries} → ArmsFit E f B s i u t l a → Has C a → VariantArms T i l
  arms_so no_arms h = tt
  arms_so (gives_value {a = a} {b = b} {c = c} l p x n y z hs) h = (refl, h.0, parts_bind p, arms_so hs (has_first C b c (has_first C a _ h.1).1.1).1)
  arms_so (leaves {a = a} {b = b} {c = c} l p x n y hs) h = (refl, h.0, parts_bind p, arms_so hs (has_first C b c (has_first C a _ h.1).1.1).1)

  takes_all : {B : Context} {s : Site} {i : ℕ} {u t : Typ} {l : Arms} {a : Entries} → ArmsFit E f B s i u t l a → ArmsTakeAll E.items l → TakesAll E.items i l
  takes_all no_arms k = absurd k
  takes_all (gives_value l p x n y z hs) k = k
  takes_all (leaves l p x n y hs) k = k

  match_covered : (k i : ℕ) (e : Exp) (l : Arms) → OneOf (item i) (scrutinee_typ (matched T e (value T e))) → VariantArms T i l → TakesAll E.items i l → Covered E.items (choice_of k (matched T e (value T e)) (patterns_of (arms T l)))
  match_covered k i e l o a t = record {
    narrow = arms_narrow T i l a t.few;
    covers = covers_one (item i) (scrutinee_typ (matched T e (value T e))) (patterns_of (arms T l)) o (arms_cover T E.items i l a t);
  }

  -- a variable takes each value
  bind_covered : (k : ℕ) (c : tree.Scrutinee) (p : Node) (d : ℕ) (m : Bool) → Covered E.items (choice_of k c (pattern T None (named.bind p d m) ∷ []))
  bind_covered k c p d m = record { narrow = omega arith; covers = by (scrutinee_typ c) }
    where
      by : (o : Option Typ) → CoversTyp E.items o (pattern T None (named.bind p d m) ∷ [])
      by None = tt
      by (Some t) = λ v h. inl tt

  -- so does a tuple of variables
  tuple_covered : (k : ℕ) (c : tree.Scrutinee) (p : Node) (ps : Patterns) (ts : Shapes Kind) → T.typ p.number ≡ tuple_of ts → AllBind ps → OneOf (tuple_of ts) (scrutinee_typ c) → Covered E.items (choice_of k c (pattern T None (named.tuple_pattern p ps) ∷ []))
  tuple_covered k c p ps ts e b o = subst (λ (t : Typ). Covered E.items (choice_of k c (behind_all t (tree.parts (subpatterns T (met t None) 0 ps)) ∷ []))) (sym e)
      (record { narrow = tuple_narrow T None ps b; covers = covers_one (tuple_of ts) (scrutinee_typ c) (tree.parts (subpatterns T None 0 ps) ∷ []) o (tuple_covers T E.items ts None ps b) })

  mutual
    value_covered : {B : Context} {e : Exp} {u t : Typ} {a : Entries} → ValueFits E f B e u t a → Has C a → ExpTakesAll E.items e → (k : ℕ) → All (choices k (value T e))
    value_covered (a_call {n = n} {g = g} {es = es} l x r) h w k = none_covered _ (call_choices T n (coercion_at T n) (mark T n) g (operands T 0 es) k ∙ arguments_none x 0)
    value_covered (a_variable {n = n} {x = x} i y) h w k = none_covered _ (read_none T n (coercion_at T n) (elaborated.place T (named.var n x)) k)
    value_covered (a_tuple {n = n} {es = es} x l) h w k = none_covered _ (tuple_choices T n (operands T 0 es) k ∙ members_none x 0)
    value_covered (the_unit i) h w k = tt
    value_covered (a_match {n = n} {e = e} {l = l} {i = i} {a = a} {b = b} x s p z y m) h w k =
        let q = has_first C a b h.1 in (
          match_covered k i e l (matched_typ e (item i) p (value_typ x q.0 s p)) (arms_so y q.1) (takes_all y w.0),
          covered_both E.items (choices_before (matched T e (value T e))) (choices_behind (arms T l)) (value_before T E.items e (value T e) (value_covered x q.0 w.1 (mark_of (value T e)).node)) (arms_covered y q.1 w.2),
        )

    arms_covered : {B : Context} {s : Site} {i : ℕ} {u t : Typ} {l : Arms} {a : Entries} → ArmsFit E f B s i u t l a → Has C a → EachTakesAll E.items l → All (choices_behind (arms T l))
    arms_covered no_arms h w = tt
    arms_covered (gives_value {e = e} {l = l} {a = a} {b = b} {c = c} g p x n y z hs) h w =
        let q = has_first C b c (has_first C a _ h.1).1.1 in
        covered_both E.items (choices (mark_of (value T e)).node (value T e)) (choices_behind (arms T l)) (value_covered x q.0 w.0 (mark_of (value T e)).node) (arms_covered hs q.1 w.1)
    arms_covered (leaves {e = e} {l = l} {a = a} {b = b} {c = c} g p x n y hs) h w =
        let q = has_first C b c (has_first C a _ h.1).1.1 in
        covered_both E.items (choices (mark_of (value T e)).node (value T e)) (choices_behind (arms T l)) (jump_covered x q.0 w.0 (mark_of (value T e)).node) (arms_covered hs q.1 w.1)

    jump_covered : {B : Context} {e : Exp} {u : Typ} {a : Entries} → JumpFits E f B e u a → Has C a → ExpTakesAll E.items e → (k : ℕ) → All (choices k (value T e))
    jump_covered a_break h w k = tt
    jump_covered a_continue h w k = tt
    jump_covered (a_return r) h w k = tt
    jump_covered (a_return_with {e = e} r x s c) h w k = value_covered x h.1 w (mark_of (value T e)).node
    jump_covered (a_jump_behind {m = m} s x d) h w k = statements_covered x h.1 w.0 (tail T m named.absent) tt

    statement_covered : {B : Context} {s : Statement} {a : Entries} → StatementFits E f B s a → Has C a → StatementTakesAll E.items s → (b : tree.Body) → All (choices_within b) → All (choices_within (elaborated.statement T s b))
    statement_covered (done {e = e} x s) h w b k = covered_both E.items (choices (mark_of (value T e)).node (value T e)) (choices_within b) (value_covered x h w (mark_of (value T e)).node) k
    statement_covered (jumps {e = e} x s) h w b k = covered_both E.items (choices (mark_of (value T e)).node (value T e)) (choices_within b) (jump_covered x h w (mark_of (value T e)).node) k
    statement_covered (bound {n = n} {p = p} {d = d} {m = m} {e = e} x s i v l) h w b k = (
      bind_covered n.number (matched T e (value T e)) p d m,
      covered_both E.items (choices_before (matched T e (value T e))) (choices_within b) (value_before T E.items e (value T e) (value_covered x h.1.1 w (mark_of (value T e)).node)) k,
    )
    statement_covered (several_bound {n = n} {p = p} {ps = ps} {e = e} {ts = ts} {a = a} {b = c} x s i v g y) h w b k =
        let q = has_first C c a h.1 in (
          tuple_covered n.number (matched T e (value T e)) p ps ts h.0 (parts_bind y) (matched_typ e (tuple_of ts) i (value_typ x q.1 s i)),
          covered_both E.items (choices_before (matched T e (value T e))) (choices_within b) (value_before T E.items e (value T e) (value_covered x q.1 w (mark_of (value T e)).node)) k,
        )
    statement_covered (assigned {e = e} i y s t x r c) h w b k = covered_both E.items (choices (mark_of (value T e)).node (value T e)) (choices_within b) (value_covered x h.1.1.1 w (mark_of (value T e)).node) k
    statement_covered (given {e = e} i y s x r v) h w b k = covered_both E.items (choices (mark_of (value T e)).node (value T e)) (choices_within b) (value_covered x h.1.1.1 w (mark_of (value T e)).node) k
    statement_covered (given_within {e = e} i y s x r) h w b k = covered_both E.items (choices (mark_of (value T e)).node (value T e)) (choices_within b) (value_covered x h.1.1.1 w (mark_of (value T e)).node) k
    statement_covered (declared l g) h w b k = k

    statements_covered : {B : Context} {ss : Statements} {a : Entries} → StatementsFit E f B ss a → Has C a → StatementsTakeAll E.items ss → (x : tree.Exp) → All (choices (mark_of x).node x) → All (choices_within (nested T ss x))
    statements_covered no_more h w x k = k
    statements_covered (a_statement {ss = ss} {a = a} {b = b} s hs) h w x k =
        let q = has_first C a b h in statement_covered s q.0 w.0 (nested T ss x) (statements_covered hs q.1 w.1 x k)

  pub fitting_covered : {B : Context} {ss : Statements} {a : Entries} → StatementsFit E f B ss a → Has C a → StatementsTakeAll E.items ss → All (choices_in_statements T ss)
  fitting_covered x h w = statements_covered x h w (tree.unit (record { node = 0; typ = None })) tt

  pub end_covered : {B : Context} {n : Node} {d : Bool} {ss : Statements} {o : Else} {a : Entries} (m : Node) → EndFits E f B n d ss o a → Has C a → StatementsTakeAll E.items ss → ElseTakesAll E.items o → All (choices_at_end T m ss o)
  end_covered m (no_tail x u) h w v = statements_covered x h w (tail T m named.absent) tt
  end_covered m (a_tail {e = e} {a = a} {b = b} x y z s t) h w v =
      let q = has_first C a _ h in statements_covered x q.0 w (value T e) (value_covered y q.1.1 v (mark_of (value T e)).node)
