-- Which nodes of a function are literals directly under a minus: a flag for each node, in the order of the text; so each is found by the
-- number of its node.
use Rattle.std.proofs.Common.{◌≡◌, ℕ, suc, ◌≤◌, ◌<◌, Bool, true, false, ◌==◌, if◌then◌else◌, List, [], ◌∷◌, ◌++◌, map, drop, refl, sym, ap, ◌∙◌, subst, arith}
use Rattle.std.proofs.lemmas.Bool.{eqb-true, eq-eqb, true≢false}
use Rattle.rx_tree.specs.Lists.{Every}
use Rattle.rx_typed.specs.Named as named
use Rattle.rx_typed.specs.Named.{Pattern, Exp, Exps, Else, Fields, Arms, Body, Statement, Statements, Function}
use Rattle.rx_typed.specs.TypedNumbers.{AreFrom, optional_nodes, pattern_nodes, exp_nodes, exps_nodes, else_nodes, fields_nodes, arms_nodes, body_nodes, statement_nodes, statements_nodes, parameters_nodes, nodes}
use Rattle.rx_typed.specs.Tree.{Temporary, temporary_at}

pub record Flag : Type 0 where
  pub node : ℕ
  pub is : Bool

abbrev pub flag : ℕ → Bool → Flag
flag n b = record { node = n; is = b }

abbrev pub clear : ℕ → Flag
clear n = flag n false

abbrev mutual
  pub exp_flags : Exp → List Flag
  exp_flags (named.int n m v k) = flag n.number m ∷ []
  exp_flags (named.bool n b) = clear n.number ∷ []
  exp_flags (named.tuple n es) = clear n.number ∷ exps_flags es
  exp_flags (named.var n x) = clear n.number ∷ []
  exp_flags (named.field n e x) = clear n.number ∷ exp_flags e
  exp_flags (named.part n e i) = clear n.number ∷ exp_flags e
  exp_flags (named.deref n e) = clear n.number ∷ exp_flags e
  exp_flags (named.negate n e) = clear n.number ∷ exp_flags e
  exp_flags (named.invert n e) = clear n.number ∷ exp_flags e
  exp_flags (named.borrow n m e) = clear n.number ∷ exp_flags e
  exp_flags (named.binary n o a b) = clear n.number ∷ (exp_flags a ++ exp_flags b)
  exp_flags (named.assign n p e) = clear n.number ∷ (exp_flags p ++ exp_flags e)
  exp_flags (named.gives n p x d e) = clear n.number ∷ (clear p.number ∷ exp_flags e)
  exp_flags (named.update n o p e) = clear n.number ∷ (exp_flags p ++ exp_flags e)
  exp_flags (named.call n f es) = clear n.number ∷ exps_flags es
  exp_flags (named.hidden_call n es) = clear n.number ∷ exps_flags es
  exp_flags (named.next_input n) = clear n.number ∷ []
  exp_flags (named.variant n i v es) = clear n.number ∷ exps_flags es
  exp_flags (named.make n i fs) = clear n.number ∷ fields_flags fs
  exp_flags (named.print n e) = clear n.number ∷ exp_flags e
  exp_flags (named.block n b) = clear n.number ∷ body_flags b
  exp_flags (named.if n c b o) = clear n.number ∷ (exp_flags c ++ (body_flags b ++ else_flags o))
  exp_flags (named.if_let n p e b o) = clear n.number ∷ (map clear (pattern_nodes p) ++ (exp_flags e ++ (body_flags b ++ else_flags o)))
  exp_flags (named.match n e l) = clear n.number ∷ (exp_flags e ++ arms_flags l)
  exp_flags (named.loop n l k b) = clear n.number ∷ body_flags b
  exp_flags (named.while n l c b) = clear n.number ∷ (exp_flags c ++ body_flags b)
  exp_flags (named.while_let n l p e b) = clear n.number ∷ (map clear (pattern_nodes p) ++ (exp_flags e ++ body_flags b))
  exp_flags (named.break n l) = clear n.number ∷ []
  exp_flags (named.continue n l) = clear n.number ∷ []
  exp_flags (named.return n o) = clear n.number ∷ else_flags o

  pub exps_flags : Exps → List Flag
  exps_flags named.no_exp = []
  exps_flags (named.exp_and e es) = exp_flags e ++ exps_flags es

  pub else_flags : Else → List Flag
  else_flags named.absent = []
  else_flags (named.present e) = exp_flags e

  pub fields_flags : Fields → List Flag
  fields_flags named.no_field = []
  fields_flags (named.field_and x e fs) = exp_flags e ++ fields_flags fs

  pub arms_flags : Arms → List Flag
  arms_flags named.no_arm = []
  arms_flags (named.arm_and p e l) = map clear (pattern_nodes p) ++ (exp_flags e ++ arms_flags l)

  pub body_flags : Body → List Flag
  body_flags (named.body n ss o) = clear n.number ∷ (statements_flags ss ++ else_flags o)

  pub statement_flags : Statement → List Flag
  statement_flags (named.declares n p t) = clear n.number ∷ (map clear (pattern_nodes p) ++ map clear (optional_nodes t))
  statement_flags (named.lets n p t e) = clear n.number ∷ (map clear (pattern_nodes p) ++ (map clear (optional_nodes t) ++ exp_flags e))
  statement_flags (named.evaluates n e s) = clear n.number ∷ exp_flags e

  pub statements_flags : Statements → List Flag
  statements_flags named.no_statement = []
  statements_flags (named.statement_and a ss) = statement_flags a ++ statements_flags ss

abbrev pub function_flags : Function → List Flag
function_flags f = clear 0 ∷ (map clear (parameters_nodes f.params) ++ (map clear (optional_nodes f.result) ++ body_flags f.body))

-- ---- in the order of the nodes

abbrev nodes_of : List Flag → List ℕ
nodes_of [] = []
nodes_of (e ∷ es) = e.node ∷ nodes_of es

both_nodes : (a b : List Flag) (ns ms : List ℕ) → nodes_of a ≡ ns → nodes_of b ≡ ms → nodes_of (a ++ b) ≡ ns ++ ms
both_nodes [] b ns ms h g = ap (λ (l : List ℕ). l ++ nodes_of b) h ∙ ap (λ (l : List ℕ). ns ++ l) g
both_nodes (e ∷ a) b ns ms h g = ap (λ (l : List ℕ). e.node ∷ l) (both_nodes a b (nodes_of a) ms refl g) ∙ ap (λ (l : List ℕ). l ++ ms) h

clear_nodes : (ns : List ℕ) → nodes_of (map clear ns) ≡ ns
clear_nodes [] = refl
clear_nodes (n ∷ ns) = ap (λ (l : List ℕ). n ∷ l) (clear_nodes ns)

after : (n : ℕ) (l m : List ℕ) → l ≡ m → n ∷ l ≡ n ∷ m
after n l m e = ap (λ (k : List ℕ). n ∷ k) e

mutual
  exp_same : (e : Exp) → nodes_of (exp_flags e) ≡ exp_nodes e
  exp_same (named.int n m v k) = refl
  exp_same (named.bool n b) = refl
  exp_same (named.tuple n es) = after n.number _ _ (exps_same es)
  exp_same (named.var n x) = refl
  exp_same (named.field n e x) = after n.number _ _ (exp_same e)
  exp_same (named.part n e i) = after n.number _ _ (exp_same e)
  exp_same (named.deref n e) = after n.number _ _ (exp_same e)
  exp_same (named.negate n e) = after n.number _ _ (exp_same e)
  exp_same (named.invert n e) = after n.number _ _ (exp_same e)
  exp_same (named.borrow n m e) = after n.number _ _ (exp_same e)
  exp_same (named.binary n o a b) = after n.number _ _ (both_nodes _ _ _ _ (exp_same a) (exp_same b))
  exp_same (named.assign n p e) = after n.number _ _ (both_nodes _ _ _ _ (exp_same p) (exp_same e))
  exp_same (named.gives n p x d e) = after n.number _ _ (after p.number _ _ (exp_same e))
  exp_same (named.update n o p e) = after n.number _ _ (both_nodes _ _ _ _ (exp_same p) (exp_same e))
  exp_same (named.call n f es) = after n.number _ _ (exps_same es)
  exp_same (named.hidden_call n es) = after n.number _ _ (exps_same es)
  exp_same (named.next_input n) = refl
  exp_same (named.variant n i v es) = after n.number _ _ (exps_same es)
  exp_same (named.make n i fs) = after n.number _ _ (fields_same fs)
  exp_same (named.print n e) = after n.number _ _ (exp_same e)
  exp_same (named.block n b) = after n.number _ _ (body_same b)
  exp_same (named.if n c b o) = after n.number _ _ (both_nodes _ _ _ _ (exp_same c) (both_nodes _ _ _ _ (body_same b) (else_same o)))
  exp_same (named.if_let n p e b o) = after n.number _ _ (both_nodes _ _ _ _ (clear_nodes (pattern_nodes p)) (both_nodes _ _ _ _ (exp_same e) (both_nodes _ _ _ _ (body_same b) (else_same o))))
  exp_same (named.match n e l) = after n.number _ _ (both_nodes _ _ _ _ (exp_same e) (arms_same l))
  exp_same (named.loop n l k b) = after n.number _ _ (body_same b)
  exp_same (named.while n l c b) = after n.number _ _ (both_nodes _ _ _ _ (exp_same c) (body_same b))
  exp_same (named.while_let n l p e b) = after n.number _ _ (both_nodes _ _ _ _ (clear_nodes (pattern_nodes p)) (both_nodes _ _ _ _ (exp_same e) (body_same b)))
  exp_same (named.break n l) = refl
  exp_same (named.continue n l) = refl
  exp_same (named.return n o) = after n.number _ _ (else_same o)

  exps_same : (es : Exps) → nodes_of (exps_flags es) ≡ exps_nodes es
  exps_same named.no_exp = refl
  exps_same (named.exp_and e es) = both_nodes _ _ _ _ (exp_same e) (exps_same es)

  else_same : (o : Else) → nodes_of (else_flags o) ≡ else_nodes o
  else_same named.absent = refl
  else_same (named.present e) = exp_same e

  fields_same : (fs : Fields) → nodes_of (fields_flags fs) ≡ fields_nodes fs
  fields_same named.no_field = refl
  fields_same (named.field_and x e fs) = both_nodes _ _ _ _ (exp_same e) (fields_same fs)

  arms_same : (l : Arms) → nodes_of (arms_flags l) ≡ arms_nodes l
  arms_same named.no_arm = refl
  arms_same (named.arm_and p e l) = both_nodes _ _ _ _ (clear_nodes (pattern_nodes p)) (both_nodes _ _ _ _ (exp_same e) (arms_same l))

  body_same : (b : Body) → nodes_of (body_flags b) ≡ body_nodes b
  body_same (named.body n ss o) = after n.number _ _ (both_nodes _ _ _ _ (statements_same ss) (else_same o))

  statement_same : (a : Statement) → nodes_of (statement_flags a) ≡ statement_nodes a
  statement_same (named.declares n p t) = after n.number _ _ (both_nodes _ _ _ _ (clear_nodes (pattern_nodes p)) (clear_nodes (optional_nodes t)))
  statement_same (named.lets n p t e) = after n.number _ _ (both_nodes _ _ _ _ (clear_nodes (pattern_nodes p)) (both_nodes _ _ _ _ (clear_nodes (optional_nodes t)) (exp_same e)))
  statement_same (named.evaluates n e s) = after n.number _ _ (exp_same e)

  statements_same : (ss : Statements) → nodes_of (statements_flags ss) ≡ statements_nodes ss
  statements_same named.no_statement = refl
  statements_same (named.statement_and a ss) = both_nodes _ _ _ _ (statement_same a) (statements_same ss)

flags_same : (f : Function) → nodes_of (function_flags f) ≡ nodes f
flags_same f = after 0 _ _ (both_nodes _ _ _ _ (clear_nodes (parameters_nodes f.params)) (both_nodes _ _ _ _ (clear_nodes (optional_nodes f.result)) (body_same f.body)))

-- ---- each is found

abbrev pub flag_in : List Flag → Temporary → Bool
flag_in [] t = false
flag_in (e ∷ es) t = if e.node == t.node then e.is else flag_in es t

-- the temporaries of literals under a minus
abbrev pub is_literal : Function → Temporary → Bool
is_literal f t = flag_in (function_flags f) t

abbrev pub Found : (Temporary → Bool) → Flag → Type 0
Found N e = (k : ℕ) → N (temporary_at e.node k) ≡ e.is

abbrev AtLeast : ℕ → Flag → Type 0
AtLeast i e = i ≤ e.node

at_least : (i j k : ℕ) (es : List Flag) → i ≤ j → AreFrom j (nodes_of es) k → Every (AtLeast i) es
at_least i j k [] l h = tt
at_least i j k (e ∷ es) l h = let q = h.0 in (omega (arith, l, q), at_least i (suc j) k es (omega (arith, l)) h.1)

other_node : (m n : ℕ) (t u v : Bool) → m < n → (u ≡ v) → (if m == n then t else u) ≡ v
other_node m n t u v l e = by (m == n) refl
  where
    by : (b : Bool) → (m == n) ≡ b → (if b then t else u) ≡ v
    by true q = let s : m ≡ n = eqb-true m n q in absurd (omega (arith, l, s))
    by false q = e

same_node : (n : ℕ) (t u : Bool) → (if n == n then t else u) ≡ t
same_node n t u = by (n == n) refl
  where
    by : (b : Bool) → (n == n) ≡ b → (if b then t else u) ≡ t
    by true q = refl
    by false q = absurd (true≢false (sym (eq-eqb n n refl) ∙ q))

found_behind : (e : Flag) (es fs : List Flag) → Every (AtLeast (suc e.node)) fs → Every (Found (flag_in es)) fs → Every (Found (flag_in (e ∷ es))) fs
found_behind e es [] h g = tt
found_behind e es (f ∷ fs) h g = (λ k. let l = h.0 in other_node e.node f.node e.is (flag_in es (temporary_at f.node k)) f.is (omega (arith, l)) (g.0 k), found_behind e es fs h.1 g.1)

found : (i j : ℕ) (es : List Flag) → AreFrom i (nodes_of es) j → Every (Found (flag_in es)) es
found i j [] h = tt
found i j (e ∷ es) h = (
  λ k. same_node e.node e.is (flag_in es (temporary_at e.node k)),
  found_behind e es es (at_least (suc e.node) (suc i) j es (let q = h.0 in omega (arith, q)) h.1) (found (suc i) j es h.1),
)

pub flags_found : (f : Function) (j : ℕ) → AreFrom 0 (nodes f) j → Every (Found (is_literal f)) (function_flags f)
flags_found f j h = found 0 j (function_flags f) (subst (λ (l : List ℕ). AreFrom 0 l j) (sym (flags_same f)) h)
