-- No temporary of an elaborated tree is filled while its value is pending: nodes have numbers in the order of the text, each part fills
-- temporaries of its own range of numbers, and those of what was evaluated before it lie outside.
use Rattle.std.proofs.Common.{◌≡◌, ℕ, suc, ◌≤◌, ◌<◌, Bool, true, false, ◌&&◌, List, [], ◌∷◌, ◌++◌, None, ◌⊎◌, inl, inr, refl, sym, ap, ◌∙◌, arith, le_refl}
use Rattle.rx_tree.specs.declared.tree.BinaryOp.{BinaryOp}
use Rattle.rx_typed.specs.declared.nodes.Node.{Node}
use Rattle.rx_typed.specs.Named as numbered
use Rattle.rx_typed.specs.Named.{is_place, node_of, body_node, body_never, else_never, all_never}
use Rattle.rx_typed.specs.TypedNumbers.{AreFrom, optional_nodes, pattern_nodes, exp_nodes, exps_nodes, else_nodes, fields_nodes, arms_nodes, body_nodes, statement_nodes, statements_nodes, parameters_nodes, nodes}
use Rattle.rx_typed.specs.Tree as tree
use Rattle.rx_typed.specs.Tree.{Temporary, Place, Exp, Operands, Mark, mark_of, temporary_at, temporary_of}
use Rattle.rx_typed.specs.Elaborated as elaborated
use Rattle.rx_typed.specs.Elaborated.{Assigned, Coercion, place, mark, mark_if, no_mark, shared_mark, pattern, matched, matched_as, coercion_at, value, body, tail, nested, arms, operands, fields, function_body}
use Rattle.rx_lower_walks.specs.Matching.{bindings}
use Rattle.rx_lower_walks.specs.Actions.{subject}
use Rattle.rx_meaning_keeping.specs.Pending.{Unheld}
use Rattle.rx_meaning_keeping.specs.Formed.{Any, with_subject, Formed, FormedAll, FormedScrutinee, FormedArms, FormedBody}
use Rattle.rx_meaning_keeping.proofs.Binding.{are_up, are_split, first_in, Outside, narrower, unheld, apart_of, bound_in}

-- ---- the node of a value

read_root : (T : Assigned) (n : Node) (c : Coercion) (p : Place) → (mark_of (elaborated.read_as T n c p)).node ≡ n.number
read_root T n elaborated.plain p = refl
read_root T n elaborated.reborrow p = refl
read_root T n elaborated.share p = refl

passed_root : (T : Assigned) (n : Node) (c : Coercion) (e : Exp) → (mark_of e).node ≡ n.number → (mark_of (elaborated.passed_as T n c e)).node ≡ n.number
passed_root T n elaborated.plain e h = h
passed_root T n elaborated.reborrow e h = h
passed_root T n elaborated.share e h = refl

operated_root : (T : Assigned) (n : Node) (o : BinaryOp) (a b : Exp) → (mark_of (elaborated.operated T n o a b)).node ≡ n.number
operated_root T n BinaryOp.And a b = refl
operated_root T n BinaryOp.Or a b = refl
operated_root T n _ a b = refl

tuple_root : (T : Assigned) (n : Node) (es : Operands) → (mark_of (elaborated.tuple_of T n es)).node ≡ n.number
tuple_root T n tree.no_operand = refl
tuple_root T n (tree.operand_and i e es) = refl

abbrev RootIn : ℕ → ℕ → Exp → Type 0
RootIn i j e = (i ≤ (mark_of e).node) × ((mark_of e).node < j)

root_at : (i j : ℕ) (e : Exp) (n : ℕ) (ns : List ℕ) → (mark_of e).node ≡ n → AreFrom i (n ∷ ns) j → RootIn i j e
root_at i j e n ns h a = let r = first_in i j n ns a in (omega (arith, h, r.0), omega (arith, h, r.1))

body_root : (T : Assigned) (b : numbered.Body) (i j : ℕ) → AreFrom i (body_nodes b) j → RootIn i j (body T b)
body_root T (numbered.body n ss o) i j a = root_at i j (body T (numbered.body n ss o)) n.number _ refl a

exp_root : (T : Assigned) (e : numbered.Exp) (i j : ℕ) → AreFrom i (exp_nodes e) j → RootIn i j (value T e)
exp_root T (numbered.int n m v k) i j a = root_at i j (value T (numbered.int n m v k)) n.number [] refl a
exp_root T (numbered.bool n b) i j a = root_at i j (value T (numbered.bool n b)) n.number [] refl a
exp_root T (numbered.tuple n es) i j a = root_at i j (value T (numbered.tuple n es)) n.number _ (tuple_root T n (operands T 0 es)) a
exp_root T (numbered.var n x) i j a = root_at i j (value T (numbered.var n x)) n.number [] (read_root T n (coercion_at T n) (place T (numbered.var n x))) a
exp_root T (numbered.field n e x) i j a = root_at i j (value T (numbered.field n e x)) n.number _ (read_root T n (coercion_at T n) (place T (numbered.field n e x))) a
exp_root T (numbered.part n e k) i j a = root_at i j (value T (numbered.part n e k)) n.number _ (read_root T n (coercion_at T n) (place T (numbered.part n e k))) a
exp_root T (numbered.deref n e) i j a = root_at i j (value T (numbered.deref n e)) n.number _ (read_root T n (coercion_at T n) (place T (numbered.deref n e))) a
exp_root T (numbered.negate n e) i j a = root_at i j (value T (numbered.negate n e)) n.number _ refl a
exp_root T (numbered.invert n e) i j a = root_at i j (value T (numbered.invert n e)) n.number _ refl a
exp_root T (numbered.borrow n m e) i j a = root_at i j (value T (numbered.borrow n m e)) n.number _ (passed_root T n (coercion_at T n) (tree.borrow (mark T n) m (place T e)) refl) a
exp_root T (numbered.binary n o x y) i j a = root_at i j (value T (numbered.binary n o x y)) n.number _ (operated_root T n o (value T x) (value T y)) a
exp_root T (numbered.assign n p e) i j a = root_at i j (value T (numbered.assign n p e)) n.number _ refl a
exp_root T (numbered.gives n p x d e) i j a = root_at i j (value T (numbered.gives n p x d e)) n.number (p.number ∷ exp_nodes e) refl a
exp_root T (numbered.update n o p e) i j a = root_at i j (value T (numbered.update n o p e)) n.number _ refl a
exp_root T (numbered.call n f es) i j a = root_at i j (value T (numbered.call n f es)) n.number _ (passed_root T n (coercion_at T n) (tree.call (mark T n) f (operands T 0 es)) refl) a
exp_root T (numbered.hidden_call n es) i j a = root_at i j (value T (numbered.hidden_call n es)) n.number _ refl a
exp_root T (numbered.next_input n) i j a = root_at i j (value T (numbered.next_input n)) n.number [] refl a
exp_root T (numbered.variant n k v es) i j a = root_at i j (value T (numbered.variant n k v es)) n.number _ refl a
exp_root T (numbered.make n k fs) i j a = root_at i j (value T (numbered.make n k fs)) n.number _ refl a
exp_root T (numbered.print n e) i j a = root_at i j (value T (numbered.print n e)) n.number _ refl a
exp_root T (numbered.block n b) i j a = let r = body_root T b (suc i) j a.1 in (omega (arith, r.0), r.1)
exp_root T (numbered.if n c b o) i j a = root_at i j (value T (numbered.if n c b o)) n.number _ refl a
exp_root T (numbered.if_let n p e b o) i j a = root_at i j (value T (numbered.if_let n p e b o)) n.number _ refl a
exp_root T (numbered.match n e l) i j a = root_at i j (value T (numbered.match n e l)) n.number _ refl a
exp_root T (numbered.loop n l k b) i j a = root_at i j (value T (numbered.loop n l k b)) n.number _ refl a
exp_root T (numbered.while n l c b) i j a = root_at i j (value T (numbered.while n l c b)) n.number _ refl a
exp_root T (numbered.while_let n l p e b) i j a = root_at i j (value T (numbered.while_let n l p e b)) n.number _ refl a
exp_root T (numbered.break n l) i j a = root_at i j (value T (numbered.break n l)) n.number [] refl a
exp_root T (numbered.continue n l) i j a = root_at i j (value T (numbered.continue n l)) n.number [] refl a
exp_root T (numbered.return n o) i j a = root_at i j (value T (numbered.return n o)) n.number _ refl a

-- ---- forms

abbrev F : List Temporary → Exp → Temporary → Type 0
F J e d = Formed Any J e d

read_formed : (T : Assigned) (n : Node) (c : Coercion) (p : Place) (J : List Temporary) (d : Temporary) → Unheld d J → F J (elaborated.read_as T n c p) d
read_formed T n elaborated.plain p J d u = u
read_formed T n elaborated.reborrow p J d u = u
read_formed T n elaborated.share p J d u = u

other_which : (d : Temporary) (n k : ℕ) → d.which ≡ 0 → d ≡ temporary_at n (suc k) → ⊥
other_which d n k h e = let g : 0 ≡ suc k = sym h ∙ ap (λ z. z.which) e in absurd (omega (arith, g))

passed_formed : (T : Assigned) (n : Node) (c : Coercion) (e : Exp) (J : List Temporary) (d : Temporary) → d.which ≡ 0 → Unheld d J → F J e d → F J e (temporary_at n.number 1) → F J (elaborated.passed_as T n c e) d
passed_formed T n elaborated.plain e J d w u h g = h
passed_formed T n elaborated.reborrow e J d w u h g = h
passed_formed T n elaborated.share e J d w u h g = (g, (other_which d n.number 0 w, u))

operated_formed : (T : Assigned) (n : Node) (o : BinaryOp) (a b : Exp) (J : List Temporary) (d : Temporary) → Unheld d J → F J a (temporary_of a) → F J b (temporary_of b) → F (temporary_of a ∷ J) b (temporary_of b) → F J (elaborated.operated T n o a b) d
operated_formed T n BinaryOp.And a b J d u h g k = (h, g, u)
operated_formed T n BinaryOp.Or a b J d u h g k = (h, g, u)
operated_formed T n _ a b J d u h g k = ((h, (k, tt)), u)

tuple_formed : (T : Assigned) (n : Node) (es : Operands) (J : List Temporary) (d : Temporary) → Unheld d J → FormedAll Any J es → F J (elaborated.tuple_of T n es) d
tuple_formed T n tree.no_operand J d u h = u
tuple_formed T n (tree.operand_and i e es) J d u h = (h, u)

scrutinee_formed : (T : Assigned) (b : Bool) (c : Coercion) (e : numbered.Exp) (v : Exp) (J : List Temporary) → F J v (temporary_of v) → FormedScrutinee Any J (matched_as T b c e v)
scrutinee_formed T true elaborated.plain e v J h = tt
scrutinee_formed T true elaborated.reborrow e v J h = h
scrutinee_formed T true elaborated.share e v J h = h
scrutinee_formed T false c e v J h = h

subject_outside : (T : Assigned) (b : Bool) (c : Coercion) (e : numbered.Exp) (v : Exp) (i j : ℕ) (J : List Temporary) → ((mark_of v).node < i) ⊎ (j ≤ (mark_of v).node) → Outside i j J → Outside i j (with_subject (subject (matched_as T b c e v)) J)
subject_outside T true elaborated.plain e v i j J h o = o
subject_outside T true elaborated.reborrow e v i j J h o = (h, o)
subject_outside T true elaborated.share e v i j J h o = (h, o)
subject_outside T false c e v i j J h o = (h, o)

looks_formed : (T : Assigned) (m : Mark) (e : numbered.Exp) (v : Exp) (p : numbered.Pattern) (a b : Exp) (i j k l : ℕ) (J : List Temporary) (d : Temporary) → AreFrom i (pattern_nodes p) j → RootIn k l v → j ≤ k → Outside i j J
    → F J v (temporary_of v) → F J a d → F J b d → F J (elaborated.looks m (matched T e v) (pattern T None p) a b) d
looks_formed T m e v p a b i j k l J d ap r h o fv fa fb = (
  scrutinee_formed T (is_place e) (coercion_at T (node_of e)) e v J fv,
  tt,
  (apart_of i j (bindings [] (pattern T None p)) (with_subject (subject (matched T e v)) J) (bound_in T None p i j ap []) (subject_outside T (is_place e) (coercion_at T (node_of e)) e v i j J (inr (omega (arith, h, r.0))) o), fa, (tt, fb, tt)),
)

inner : (i j : ℕ) (J : List Temporary) → Outside i j J → Outside (suc i) j J
inner i j J o = narrower i j (suc i) j J (omega arith) (le_refl j) o

-- the mark of what a `while` tests is at the node of its body
while_root : (T : Assigned) (b : numbered.Body) → (mark_if T (body_node b) (body_never b)).node ≡ (mark_of (body T b)).node
while_root T (numbered.body n ss o) = refl

-- in its own temporary
own : (T : Assigned) (e : numbered.Exp) (i j : ℕ) → AreFrom i (exp_nodes e) j → (J : List Temporary) → Outside i j J → ((d : Temporary) → d.which ≡ 0 → Unheld d J → F J (value T e) d) → F J (value T e) (temporary_of (value T e))
own T e i j a J o rec = let r = exp_root T e i j a in rec (temporary_of (value T e)) refl (unheld i j (temporary_of (value T e)) J r.0 r.1 o)

mutual
  exp_formed : (T : Assigned) (e : numbered.Exp) (i j : ℕ) → AreFrom i (exp_nodes e) j → (J : List Temporary) (d : Temporary) → d.which ≡ 0 → Outside i j J → Unheld d J → F J (value T e) d
  exp_formed T (numbered.int n m v k) i j a J d w o u = (tt, u)
  exp_formed T (numbered.bool n b) i j a J d w o u = (tt, u)
  exp_formed T (numbered.tuple n es) i j a J d w o u = tuple_formed T n (operands T 0 es) J d u (exps_formed T es 0 (suc i) j a.1 J (inner i j J o))
  exp_formed T (numbered.var n x) i j a J d w o u = read_formed T n (coercion_at T n) (place T (numbered.var n x)) J d u
  exp_formed T (numbered.field n e x) i j a J d w o u = read_formed T n (coercion_at T n) (place T (numbered.field n e x)) J d u
  exp_formed T (numbered.part n e k) i j a J d w o u = read_formed T n (coercion_at T n) (place T (numbered.part n e k)) J d u
  exp_formed T (numbered.deref n e) i j a J d w o u = read_formed T n (coercion_at T n) (place T (numbered.deref n e)) J d u
  exp_formed T (numbered.negate n e) i j a J d w o u = ((own T e (suc i) j a.1 J (inner i j J o) (λ d1 w1 u1. exp_formed T e (suc i) j a.1 J d1 w1 (inner i j J o) u1), tt), u)
  exp_formed T (numbered.invert n e) i j a J d w o u = ((own T e (suc i) j a.1 J (inner i j J o) (λ d1 w1 u1. exp_formed T e (suc i) j a.1 J d1 w1 (inner i j J o) u1), tt), u)
  exp_formed T (numbered.borrow n m e) i j a J d w o u = let r = first_in i j n.number (exp_nodes e) a in passed_formed T n (coercion_at T n) (tree.borrow (mark T n) m (place T e)) J d w u u (unheld i j (temporary_at n.number 1) J r.0 r.1 o)
  exp_formed T (numbered.binary n x y z) i j a J d w o u =
      let s = are_split (suc i) j (exp_nodes y) (exp_nodes z) a.1 in
      let oy = narrower i j (suc i) s.0 J (omega arith) (are_up s.0 j _ s.2) o in let oz = narrower i j s.0 j J (omega (arith, are_up (suc i) s.0 _ s.1)) (le_refl j) o in
      let r = exp_root T y (suc i) s.0 s.1 in
      operated_formed T n x (value T y) (value T z) J d u (own T y (suc i) s.0 s.1 J oy (λ d1 w1 u1. exp_formed T y (suc i) s.0 s.1 J d1 w1 oy u1)) (own T z s.0 j s.2 J oz (λ d1 w1 u1. exp_formed T z s.0 j s.2 J d1 w1 oz u1)) (own T z s.0 j s.2 (temporary_of (value T y) ∷ J) (inl r.1, oz) (λ d1 w1 u1. exp_formed T z s.0 j s.2 (temporary_of (value T y) ∷ J) d1 w1 (inl r.1, oz) u1))
  exp_formed T (numbered.assign n p e) i j a J d w o u =
      let s = are_split (suc i) j (exp_nodes p) (exp_nodes e) a.1 in (own T e s.0 j s.2 J (narrower i j s.0 j J (omega (arith, are_up (suc i) s.0 _ s.1)) (le_refl j) o) (λ d1 w1 u1. exp_formed T e s.0 j s.2 J d1 w1 (narrower i j s.0 j J (omega (arith, are_up (suc i) s.0 _ s.1)) (le_refl j) o) u1), u)
  exp_formed T (numbered.gives n p x k e) i j a J d w o u = (own T e (suc (suc i)) j a.1.1 J (narrower i j (suc (suc i)) j J (omega arith) (le_refl j) o) (λ d1 w1 u1. exp_formed T e (suc (suc i)) j a.1.1 J d1 w1 (narrower i j (suc (suc i)) j J (omega arith) (le_refl j) o) u1), u)
  exp_formed T (numbered.update n x p e) i j a J d w o u =
      let s = are_split (suc i) j (exp_nodes p) (exp_nodes e) a.1 in let r = first_in i j n.number (exp_nodes p ++ exp_nodes e) a in (
        own T e s.0 j s.2 J (narrower i j s.0 j J (omega (arith, are_up (suc i) s.0 _ s.1)) (le_refl j) o) (λ d1 w1 u1. exp_formed T e s.0 j s.2 J d1 w1 (narrower i j s.0 j J (omega (arith, are_up (suc i) s.0 _ s.1)) (le_refl j) o) u1),
        ((λ q. other_which (temporary_of (value T e)) n.number 0 refl (sym q)), unheld i j (temporary_at n.number 1) J r.0 r.1 o),
        unheld i j (temporary_at n.number 2) J r.0 r.1 o,
        u,
      )
  exp_formed T (numbered.call n f es) i j a J d w o u =
      let r = first_in i j n.number (exps_nodes es) a in let h = exps_formed T es 0 (suc i) j a.1 J (inner i j J o) in
      passed_formed T n (coercion_at T n) (tree.call (mark T n) f (operands T 0 es)) J d w u (h, u) (h, unheld i j (temporary_at n.number 1) J r.0 r.1 o)
  exp_formed T (numbered.hidden_call n es) i j a J d w o u = u
  exp_formed T (numbered.next_input n) i j a J d w o u = u
  exp_formed T (numbered.variant n k v es) i j a J d w o u = (exps_formed T es 0 (suc i) j a.1 J (inner i j J o), u)
  exp_formed T (numbered.make n k fs) i j a J d w o u = (fields_formed T fs k (suc i) j a.1 J (inner i j J o), u)
  exp_formed T (numbered.print n e) i j a J d w o u = (own T e (suc i) j a.1 J (inner i j J o) (λ d1 w1 u1. exp_formed T e (suc i) j a.1 J d1 w1 (inner i j J o) u1), u)
  exp_formed T (numbered.block n b) i j a J d w o u = body_formed T b (suc i) j a.1 J d w (inner i j J o) u
  exp_formed T (numbered.if n c b x) i j a J d w o u =
      let s = are_split (suc i) j (exp_nodes c) (body_nodes b ++ else_nodes x) a.1 in let t = are_split s.0 j (body_nodes b) (else_nodes x) s.2 in
      let u1 = are_up (suc i) s.0 _ s.1 in let u2 = are_up s.0 t.0 _ t.1 in let u3 = are_up t.0 j _ t.2 in (
        own T c (suc i) s.0 s.1 J (narrower i j (suc i) s.0 J (omega arith) (omega (arith, u2, u3)) o) (λ d1 w1 u1. exp_formed T c (suc i) s.0 s.1 J d1 w1 (narrower i j (suc i) s.0 J (omega arith) (omega (arith, u2, u3)) o) u1),
        tt,
        (tt, body_formed T b s.0 t.0 t.1 J d w (narrower i j s.0 t.0 J (omega (arith, u1)) u3 o) u, (tt, otherwise_formed T n x t.0 j t.2 J d w (narrower i j t.0 j J (omega (arith, u1, u2)) (le_refl j) o) u, tt)),
      )
  exp_formed T (numbered.if_let n p e b x) i j a J d w o u =
      let q = are_split (suc i) j (pattern_nodes p) (exp_nodes e ++ (body_nodes b ++ else_nodes x)) a.1 in
      let s = are_split q.0 j (exp_nodes e) (body_nodes b ++ else_nodes x) q.2 in let t = are_split s.0 j (body_nodes b) (else_nodes x) s.2 in
      let u0 = are_up (suc i) q.0 _ q.1 in let u1 = are_up q.0 s.0 _ s.1 in let u2 = are_up s.0 t.0 _ t.1 in let u3 = are_up t.0 j _ t.2 in
      looks_formed T (mark_if T n (body_never b && else_never x)) e (value T e) p (body T b) (elaborated.otherwise T n x) (suc i) q.0 q.0 s.0 J d q.1 (exp_root T e q.0 s.0 s.1) (le_refl q.0) (narrower i j (suc i) q.0 J (omega arith) (omega (arith, u1, u2, u3)) o)
      (own T e q.0 s.0 s.1 J (narrower i j q.0 s.0 J (omega (arith, u0)) (omega (arith, u2, u3)) o) (λ d1 w1 u1. exp_formed T e q.0 s.0 s.1 J d1 w1 (narrower i j q.0 s.0 J (omega (arith, u0)) (omega (arith, u2, u3)) o) u1))
      (body_formed T b s.0 t.0 t.1 J d w (narrower i j s.0 t.0 J (omega (arith, u0, u1)) u3 o) u) (otherwise_formed T n x t.0 j t.2 J d w (narrower i j t.0 j J (omega (arith, u0, u1, u2)) (le_refl j) o) u)
  exp_formed T (numbered.match n e l) i j a J d w o u =
      let s = are_split (suc i) j (exp_nodes e) (arms_nodes l) a.1 in let u1 = are_up (suc i) s.0 _ s.1 in let u2 = are_up s.0 j _ s.2 in (
        scrutinee_formed T (is_place e) (coercion_at T (node_of e)) e (value T e) J (own T e (suc i) s.0 s.1 J (narrower i j (suc i) s.0 J (omega arith) u2 o) (λ d1 w1 u1. exp_formed T e (suc i) s.0 s.1 J d1 w1 (narrower i j (suc i) s.0 J (omega arith) u2 o) u1)),
        tt,
        arms_formed T l s.0 j s.2 (is_place e) (coercion_at T (node_of e)) e (value T e) (exp_root T e (suc i) s.0 s.1).1 J d w (narrower i j s.0 j J (omega (arith, u1)) (le_refl j) o) u,
      )
  exp_formed T (numbered.loop n l k b) i j a J d w o u = let r = body_root T b (suc i) j a.1 in (body_formed T b (suc i) j a.1 J (temporary_of (body T b)) refl (inner i j J o) (unheld (suc i) j (temporary_of (body T b)) J r.0 r.1 (inner i j J o)), u)
  exp_formed T (numbered.while n l c b) i j a J d w o u =
      let s = are_split (suc i) j (exp_nodes c) (body_nodes b) a.1 in let u1 = are_up (suc i) s.0 _ s.1 in let u2 = are_up s.0 j _ s.2 in
      let r = body_root T b s.0 j s.2 in let ob = narrower i j s.0 j J (omega (arith, u1)) (le_refl j) o in
      let m = (mark_if T (body_node b) (body_never b)) in let h = while_root T b in (
        (
          own T c (suc i) s.0 s.1 J (narrower i j (suc i) s.0 J (omega arith) u2 o) (λ d1 w1 u1. exp_formed T c (suc i) s.0 s.1 J d1 w1 (narrower i j (suc i) s.0 J (omega arith) u2 o) u1),
          tt,
          (tt, body_formed T b s.0 j s.2 J (temporary_at m.node 0) refl ob (unheld s.0 j (temporary_at m.node 0) J (omega (arith, r.0, h)) (omega (arith, r.1, h)) ob), (tt, tt, tt)),
        ),
        u,
      )
  exp_formed T (numbered.while_let n l p e b) i j a J d w o u =
      let q = are_split (suc i) j (pattern_nodes p) (exp_nodes e ++ body_nodes b) a.1 in let s = are_split q.0 j (exp_nodes e) (body_nodes b) q.2 in
      let u0 = are_up (suc i) q.0 _ q.1 in let u1 = are_up q.0 s.0 _ s.1 in let u2 = are_up s.0 j _ s.2 in
      let r = body_root T b s.0 j s.2 in let ob = narrower i j s.0 j J (omega (arith, u0, u1)) (le_refl j) o in
      let m = (mark_if T (body_node b) (body_never b)) in let h = while_root T b in (
        looks_formed T m e (value T e) p (body T b) (elaborated.leaves n l) (suc i) q.0 q.0 s.0 J (temporary_at m.node 0) q.1 (exp_root T e q.0 s.0 s.1) (le_refl q.0) (narrower i j (suc i) q.0 J (omega arith) (omega (arith, u1, u2)) o)
            (own T e q.0 s.0 s.1 J (narrower i j q.0 s.0 J (omega (arith, u0)) u2 o) (λ d1 w1 u1. exp_formed T e q.0 s.0 s.1 J d1 w1 (narrower i j q.0 s.0 J (omega (arith, u0)) u2 o) u1))
            (body_formed T b s.0 j s.2 J (temporary_at m.node 0) refl ob (unheld s.0 j (temporary_at m.node 0) J (omega (arith, r.0, h)) (omega (arith, r.1, h)) ob)) tt,
        u,
      )
  exp_formed T (numbered.break n l) i j a J d w o u = tt
  exp_formed T (numbered.continue n l) i j a J d w o u = tt
  exp_formed T (numbered.return n numbered.absent) i j a J d w o u = let r = first_in i j n.number [] a in unheld i j (temporary_at n.number 0) J r.0 r.1 o
  exp_formed T (numbered.return n (numbered.present e)) i j a J d w o u = own T e (suc i) j a.1 J (inner i j J o) (λ d1 w1 u1. exp_formed T e (suc i) j a.1 J d1 w1 (inner i j J o) u1)

  exps_formed : (T : Assigned) (es : numbered.Exps) (k i j : ℕ) → AreFrom i (exps_nodes es) j → (J : List Temporary) → Outside i j J → FormedAll Any J (operands T k es)
  exps_formed T numbered.no_exp k i j a J o = tt
  exps_formed T (numbered.exp_and e es) k i j a J o =
      let s = are_split i j (exp_nodes e) (exps_nodes es) a in let u1 = are_up i s.0 _ s.1 in let u2 = are_up s.0 j _ s.2 in
      (own T e i s.0 s.1 J (narrower i j i s.0 J (le_refl i) u2 o) (λ d1 w1 u1. exp_formed T e i s.0 s.1 J d1 w1 (narrower i j i s.0 J (le_refl i) u2 o) u1), exps_formed T es (suc k) s.0 j s.2 (temporary_of (value T e) ∷ J) (inl (exp_root T e i s.0 s.1).1, narrower i j s.0 j J u1 (le_refl j) o))

  fields_formed : (T : Assigned) (fs : numbered.Fields) (k i j : ℕ) → AreFrom i (fields_nodes fs) j → (J : List Temporary) → Outside i j J → FormedAll Any J (fields T k fs)
  fields_formed T numbered.no_field k i j a J o = tt
  fields_formed T (numbered.field_and x e fs) k i j a J o =
      let s = are_split i j (exp_nodes e) (fields_nodes fs) a in let u1 = are_up i s.0 _ s.1 in let u2 = are_up s.0 j _ s.2 in
      (own T e i s.0 s.1 J (narrower i j i s.0 J (le_refl i) u2 o) (λ d1 w1 u1. exp_formed T e i s.0 s.1 J d1 w1 (narrower i j i s.0 J (le_refl i) u2 o) u1), fields_formed T fs k s.0 j s.2 (temporary_of (value T e) ∷ J) (inl (exp_root T e i s.0 s.1).1, narrower i j s.0 j J u1 (le_refl j) o))

  otherwise_formed : (T : Assigned) (n : Node) (x : numbered.Else) (i j : ℕ) → AreFrom i (else_nodes x) j → (J : List Temporary) (d : Temporary) → d.which ≡ 0 → Outside i j J → Unheld d J → F J (elaborated.otherwise T n x) d
  otherwise_formed T n numbered.absent i j a J d w o u = u
  otherwise_formed T n (numbered.present e) i j a J d w o u = exp_formed T e i j a J d w o u

  tail_formed : (T : Assigned) (n : Node) (x : numbered.Else) (i j : ℕ) → AreFrom i (else_nodes x) j → (J : List Temporary) (d : Temporary) → d.which ≡ 0 → Outside i j J → Unheld d J → F J (tail T n x) d
  tail_formed T n numbered.absent i j a J d w o u = u
  tail_formed T n (numbered.present e) i j a J d w o u = exp_formed T e i j a J d w o u

  arms_formed : (T : Assigned) (l : numbered.Arms) (i j : ℕ) → AreFrom i (arms_nodes l) j → (b : Bool) (c : Coercion) (e : numbered.Exp) (v : Exp) → (mark_of v).node < i → (J : List Temporary) (d : Temporary) → d.which ≡ 0 → Outside i j J → Unheld d J
      → FormedArms Any J (subject (matched_as T b c e v)) (arms T l) d
  arms_formed T numbered.no_arm i j a b c e v h J d w o u = tt
  arms_formed T (numbered.arm_and p x l) i j a b c e v h J d w o u =
      let q = are_split i j (pattern_nodes p) (exp_nodes x ++ arms_nodes l) a in let s = are_split q.0 j (exp_nodes x) (arms_nodes l) q.2 in
      let u0 = are_up i q.0 _ q.1 in let u1 = are_up q.0 s.0 _ s.1 in let u2 = are_up s.0 j _ s.2 in (
        apart_of i q.0 (bindings [] (pattern T None p)) (with_subject (subject (matched_as T b c e v)) J) (bound_in T None p i q.0 q.1 []) (subject_outside T b c e v i q.0 J (inl h) (narrower i j i q.0 J (le_refl i) (omega (arith, u1, u2)) o)),
        exp_formed T x q.0 s.0 s.1 J d w (narrower i j q.0 s.0 J u0 u2 o) u,
        arms_formed T l s.0 j s.2 b c e v (omega (arith, h, u0, u1)) J d w (narrower i j s.0 j J (omega (arith, u0, u1)) (le_refl j) o) u,
      )

  body_formed : (T : Assigned) (b : numbered.Body) (i j : ℕ) → AreFrom i (body_nodes b) j → (J : List Temporary) (d : Temporary) → d.which ≡ 0 → Outside i j J → Unheld d J → F J (body T b) d
  body_formed T (numbered.body n ss x) i j a J d w o u =
      let s = are_split (suc i) j (statements_nodes ss) (else_nodes x) a.1 in let u1 = are_up (suc i) s.0 _ s.1 in let u2 = are_up s.0 j _ s.2 in
      nested_formed T ss (suc i) s.0 s.1 (tail T n x) J d (narrower i j (suc i) s.0 J (omega arith) u2 o) (tail_formed T n x s.0 j s.2 J d w (narrower i j s.0 j J (omega (arith, u1)) (le_refl j) o) u)

  nested_formed : (T : Assigned) (ss : numbered.Statements) (i j : ℕ) → AreFrom i (statements_nodes ss) j → (last : Exp) (J : List Temporary) (d : Temporary) → Outside i j J → F J last d → FormedBody Any J (nested T ss last) d
  nested_formed T numbered.no_statement i j a last J d o h = h
  nested_formed T (numbered.statement_and (numbered.declares n p t) ss) i j a last J d o h =
      let s = are_split i j (statement_nodes (numbered.declares n p t)) (statements_nodes ss) a in nested_formed T ss s.0 j s.2 last J d (narrower i j s.0 j J (are_up i s.0 (statement_nodes (numbered.declares n p t)) s.1) (le_refl j) o) h
  nested_formed T (numbered.statement_and (numbered.lets n p t e) ss) i j a last J d o h =
      let s = are_split i j (statement_nodes (numbered.lets n p t e)) (statements_nodes ss) a in let u2 = are_up s.0 j _ s.2 in
      let q = are_split (suc i) s.0 (pattern_nodes p) (optional_nodes t ++ exp_nodes e) s.1.1 in let z = are_split q.0 s.0 (optional_nodes t) (exp_nodes e) q.2 in
      let v0 = are_up (suc i) q.0 _ q.1 in let v1 = are_up q.0 z.0 _ z.1 in let v2 = are_up z.0 s.0 _ z.2 in let r = exp_root T e z.0 s.0 z.2 in (
        scrutinee_formed T (is_place e) (coercion_at T (node_of e)) e (value T e) J (own T e z.0 s.0 z.2 J (narrower i j z.0 s.0 J (omega (arith, v0, v1)) u2 o) (λ d1 w1 u1. exp_formed T e z.0 s.0 z.2 J d1 w1 (narrower i j z.0 s.0 J (omega (arith, v0, v1)) u2 o) u1)),
        apart_of (suc i) q.0 (bindings [] (pattern T None p)) (with_subject (subject (matched T e (value T e))) J) (bound_in T None p (suc i) q.0 q.1 []) (subject_outside T (is_place e) (coercion_at T (node_of e)) e (value T e) (suc i) q.0 J (inr (omega (arith, v1, r.0))) (narrower i j (suc i) q.0 J (omega arith) (omega (arith, v1, v2, u2)) o)),
        nested_formed T ss s.0 j s.2 last J d (narrower i j s.0 j J (omega (arith, v0, v1, v2)) (le_refl j) o) h,
      )
  nested_formed T (numbered.statement_and (numbered.evaluates n e k) ss) i j a last J d o h =
      let s = are_split i j (n.number ∷ exp_nodes e) (statements_nodes ss) a in let u1 = are_up (suc i) s.0 _ s.1.1 in let u2 = are_up s.0 j _ s.2 in
      (own T e (suc i) s.0 s.1.1 J (narrower i j (suc i) s.0 J (omega arith) u2 o) (λ d1 w1 u1. exp_formed T e (suc i) s.0 s.1.1 J d1 w1 (narrower i j (suc i) s.0 J (omega arith) u2 o) u1), nested_formed T ss s.0 j s.2 last J d (narrower i j s.0 j J (omega (arith, u1)) (le_refl j) o) h)

-- ---- functions

-- a part in its own temporary
own_formed : (T : Assigned) (e : numbered.Exp) (i j : ℕ) → AreFrom i (exp_nodes e) j → (J : List Temporary) → Outside i j J → F J (value T e) (temporary_of (value T e))
own_formed T e i j a J o = own T e i j a J o (λ d w u. exp_formed T e i j a J d w o u)

body_part : (T : Assigned) (b : numbered.Body) (i j : ℕ) → AreFrom i (body_nodes b) j → F [] (function_body T b) (temporary_of (function_body T b))
body_part T (numbered.body n ss x) i j a =
    let s = are_split (suc i) j (statements_nodes ss) (else_nodes x) a.1 in
    nested_formed T ss (suc i) s.0 s.1 (tree.give (no_mark n) (tail T n x)) [] (temporary_of (function_body T (numbered.body n ss x))) tt (given x s.0 s.2)
  where
    given : (x : numbered.Else) (k : ℕ) → AreFrom k (else_nodes x) j → F [] (tail T n x) (temporary_of (tail T n x))
    given numbered.absent k b = tt
    given (numbered.present e) k b = own_formed T e k j b [] tt

pub function_formed : (T : Assigned) (f : numbered.Function) (j : ℕ) → AreFrom 0 (nodes f) j → F [] (elaborated.elaborated T f).body (temporary_of (elaborated.elaborated T f).body)
function_formed T f j a =
    let s = are_split 1 j (parameters_nodes f.params) (optional_nodes f.result ++ body_nodes f.body) a.1 in
    let t = are_split s.0 j (optional_nodes f.result) (body_nodes f.body) s.2 in body_part T f.body t.0 j t.2
