-- The entries of a tree stand in the order of its nodes: so no two are of one node, and each is found by its own.
use Rattle.std.proofs.Common.{◌≡◌, ℕ, suc, ◌≤◌, ◌<◌, Bool, true, false, ◌==◌, if◌then◌else◌, List, [], ◌∷◌, ◌++◌, map, drop, refl, sym, ap, ◌∙◌, subst, arith}
use Rattle.std.proofs.lemmas.Bool.{eqb-true, eq-eqb, true≢false}
use Rattle.rx_tree.specs.Lists.{Every}
use Rattle.rx_typed.specs.Types.{Typ, unit_shape}
use Rattle.rx_typed.specs.Named as named
use Rattle.rx_typed.specs.Named.{Written, Pattern, Patterns, FieldPatterns, Exp, Exps, Else, Fields, Arms, Body, Statement, Statements, Parameter, Function, written_node, body_never, else_never, all_never, whole_binding}
use Rattle.rx_typed.specs.TypedNumbers.{AreFrom, type_nodes, optional_nodes, pattern_nodes, patterns_nodes, field_patterns_nodes, exp_nodes, exps_nodes, else_nodes, fields_nodes, arms_nodes, body_nodes, statement_nodes, statements_nodes, parameters_nodes, nodes}
use Rattle.rx_typed.specs.Elaborated.{Assigned}
use Rattle.rx_typed.specs.Tree.{Temporary, temporary_at}
use Rattle.rx_repair.specs.TemporaryTypes as types
use Rattle.rx_repair.specs.TemporaryTypes.{Entry, silent, typ_in}

abbrev nodes_of : List Entry → List ℕ
nodes_of [] = []
nodes_of (e ∷ es) = e.node ∷ nodes_of es

both_nodes : (a b : List Entry) (ns ms : List ℕ) → nodes_of a ≡ ns → nodes_of b ≡ ms → nodes_of (a ++ b) ≡ ns ++ ms
both_nodes [] b ns ms h g = ap (λ (l : List ℕ). l ++ nodes_of b) h ∙ ap (λ (l : List ℕ). ns ++ l) g
both_nodes (e ∷ a) b ns ms h g = ap (λ (l : List ℕ). e.node ∷ l) (both_nodes a b (nodes_of a) ms refl g) ∙ ap (λ (l : List ℕ). l ++ ms) h

silent_nodes : (ns : List ℕ) → nodes_of (map silent ns) ≡ ns
silent_nodes [] = refl
silent_nodes (n ∷ ns) = ap (λ (l : List ℕ). n ∷ l) (silent_nodes ns)

after : (n : ℕ) (l m : List ℕ) → l ≡ m → n ∷ l ≡ n ∷ m
after n l m e = ap (λ (k : List ℕ). n ∷ k) e

module _ (T : Assigned) (X : ℕ → Typ) where
  mutual
    pattern_same : (p : Pattern) → nodes_of (types.pattern_entries T X p) ≡ pattern_nodes p
    pattern_same (named.wild n) = refl
    pattern_same (named.bind n x m) = refl
    pattern_same (named.whole_number n g v k) = refl
    pattern_same (named.truth n b) = refl
    pattern_same (named.tuple_pattern n ps) = after n.number _ _ (patterns_same ps)
    pattern_same (named.variant_pattern n i v ps) = after n.number _ _ (patterns_same ps)
    pattern_same (named.struct_pattern n i fs) = after n.number _ _ (field_patterns_same fs)

    patterns_same : (ps : Patterns) → nodes_of (types.patterns_entries T X ps) ≡ patterns_nodes ps
    patterns_same named.no_pattern = refl
    patterns_same (named.pattern_and p ps) = both_nodes _ _ _ _ (pattern_same p) (patterns_same ps)

    field_patterns_same : (fs : FieldPatterns) → nodes_of (types.field_patterns_entries T X fs) ≡ field_patterns_nodes fs
    field_patterns_same named.no_field_pattern = refl
    field_patterns_same (named.field_pattern_and x p fs) = both_nodes _ _ _ _ (pattern_same p) (field_patterns_same fs)

  mutual
    exp_same : (w : Typ) (e : Exp) → nodes_of (types.exp_entries T X w e) ≡ exp_nodes e
    exp_same w (named.int n m v k) = refl
    exp_same w (named.bool n b) = refl
    exp_same w (named.tuple n es) = after n.number _ _ (exps_same es)
    exp_same w (named.var n x) = refl
    exp_same w (named.field n e x) = after n.number _ _ (exp_same _ e)
    exp_same w (named.part n e i) = after n.number _ _ (exp_same _ e)
    exp_same w (named.deref n e) = after n.number _ _ (exp_same _ e)
    exp_same w (named.negate n e) = after n.number _ _ (exp_same _ e)
    exp_same w (named.invert n e) = after n.number _ _ (exp_same _ e)
    exp_same w (named.borrow n m e) = after n.number _ _ (exp_same _ e)
    exp_same w (named.binary n o a b) = after n.number _ _ (both_nodes _ _ _ _ (exp_same _ a) (exp_same _ b))
    exp_same w (named.assign n p e) = after n.number _ _ (both_nodes _ _ _ _ (exp_same _ p) (exp_same _ e))
    exp_same w (named.gives n p x d e) = after n.number _ _ (after p.number _ _ (exp_same _ e))
    exp_same w (named.update n o p e) = after n.number _ _ (both_nodes _ _ _ _ (exp_same _ p) (exp_same _ e))
    exp_same w (named.call n f es) = after n.number _ _ (exps_same es)
    exp_same w (named.hidden_call n es) = after n.number _ _ (exps_same es)
    exp_same w (named.next_input n) = refl
    exp_same w (named.variant n i v es) = after n.number _ _ (exps_same es)
    exp_same w (named.make n i fs) = after n.number _ _ (fields_same fs)
    exp_same w (named.print n e) = after n.number _ _ (exp_same _ e)
    exp_same w (named.block n b) = after n.number _ _ (body_same _ b)
    exp_same w (named.if n c b o) = after n.number _ _ (both_nodes _ _ _ _ (exp_same _ c) (both_nodes _ _ _ _ (body_same _ b) (else_same _ o)))
    exp_same w (named.if_let n p e b o) = after n.number _ _ (both_nodes _ _ _ _ (pattern_same p) (both_nodes _ _ _ _ (exp_same _ e) (both_nodes _ _ _ _ (body_same _ b) (else_same _ o))))
    exp_same w (named.match n e l) = after n.number _ _ (both_nodes _ _ _ _ (exp_same _ e) (arms_same _ l))
    exp_same w (named.loop n l k b) = after n.number _ _ (body_same _ b)
    exp_same w (named.while n l c b) = after n.number _ _ (both_nodes _ _ _ _ (exp_same _ c) (body_same _ b))
    exp_same w (named.while_let n l p e b) = after n.number _ _ (both_nodes _ _ _ _ (pattern_same p) (both_nodes _ _ _ _ (exp_same _ e) (body_same _ b)))
    exp_same w (named.break n l) = refl
    exp_same w (named.continue n l) = refl
    exp_same w (named.return n o) = after n.number _ _ (else_same _ o)

    exps_same : (es : Exps) → nodes_of (types.exps_entries T X es) ≡ exps_nodes es
    exps_same named.no_exp = refl
    exps_same (named.exp_and e es) = both_nodes _ _ _ _ (exp_same _ e) (exps_same es)

    else_same : (w : Typ) (o : Else) → nodes_of (types.else_entries T X w o) ≡ else_nodes o
    else_same w named.absent = refl
    else_same w (named.present e) = exp_same w e

    fields_same : (fs : Fields) → nodes_of (types.fields_entries T X fs) ≡ fields_nodes fs
    fields_same named.no_field = refl
    fields_same (named.field_and x e fs) = both_nodes _ _ _ _ (exp_same _ e) (fields_same fs)

    arms_same : (w : Typ) (l : Arms) → nodes_of (types.arms_entries T X w l) ≡ arms_nodes l
    arms_same w named.no_arm = refl
    arms_same w (named.arm_and p e l) = both_nodes _ _ _ _ (pattern_same p) (both_nodes _ _ _ _ (exp_same w e) (arms_same w l))

    body_same : (w : Typ) (b : Body) → nodes_of (types.body_entries T X w b) ≡ body_nodes b
    body_same w (named.body n ss o) = after n.number _ _ (both_nodes _ _ _ _ (statements_same ss) (else_same _ o))

    statement_same : (a : Statement) → nodes_of (types.statement_entries T X a) ≡ statement_nodes a
    statement_same (named.declares n p t) = after n.number _ _ (both_nodes _ _ _ _ (pattern_same p) (silent_nodes (optional_nodes t)))
    statement_same (named.lets n p t e) = after n.number _ _ (both_nodes _ _ _ _ (pattern_same p) (both_nodes _ _ _ _ (silent_nodes (optional_nodes t)) (exp_same _ e)))
    statement_same (named.evaluates n e s) = after n.number _ _ (exp_same _ e)

    statements_same : (ss : Statements) → nodes_of (types.statements_entries T X ss) ≡ statements_nodes ss
    statements_same named.no_statement = refl
    statements_same (named.statement_and a ss) = both_nodes _ _ _ _ (statement_same a) (statements_same ss)

  written_first : (y : Written) → (written_node y).number ∷ drop 1 (type_nodes y) ≡ type_nodes y
  written_first (named.a_kind n k) = refl
  written_first (named.a_bool n) = refl
  written_first (named.a_tuple n ts) = refl
  written_first (named.a_reference n m t) = refl
  written_first (named.an_item n i ls) = refl

  parameters_same : (xs : List Parameter) → nodes_of (types.parameters_entries T X xs) ≡ parameters_nodes xs
  parameters_same [] = refl
  parameters_same (x ∷ xs) =
      both_nodes (types.entry (written_node x.typ).number (X x.variable) unit_shape ∷ map silent (drop 1 (type_nodes x.typ))) (types.parameters_entries T X xs) (type_nodes x.typ) (parameters_nodes xs)
      (after (written_node x.typ).number (nodes_of (map silent (drop 1 (type_nodes x.typ)))) (drop 1 (type_nodes x.typ)) (silent_nodes (drop 1 (type_nodes x.typ))) ∙ written_first x.typ) (parameters_same xs)

  entries_same : (f : Function) → nodes_of (types.entries T X f) ≡ nodes f
  entries_same f = after 0 _ _ (both_nodes _ _ _ _ (parameters_same f.params) (both_nodes _ _ _ _ (silent_nodes (optional_nodes f.result)) (body_same _ f.body)))

-- ---- each is found

-- what is found at a node is what its entry says
abbrev pub Found : (Temporary → Typ) → Entry → Type 0
Found U e = (k : ℕ) → U (temporary_at e.node k) ≡ e.typ k

abbrev AtLeast : ℕ → Entry → Type 0
AtLeast i e = i ≤ e.node

at_least : (i j k : ℕ) (es : List Entry) → i ≤ j → AreFrom j (nodes_of es) k → Every (AtLeast i) es
at_least i j k [] l h = tt
at_least i j k (e ∷ es) l h = let q = h.0 in (omega (arith, l, q), at_least i (suc j) k es (omega (arith, l)) h.1)

other_node : (m n : ℕ) (t u v : Typ) → m < n → (u ≡ v) → (if m == n then t else u) ≡ v
other_node m n t u v l e = by (m == n) refl
  where
    by : (b : Bool) → (m == n) ≡ b → (if b then t else u) ≡ v
    by true q = let s : m ≡ n = eqb-true m n q in absurd (omega (arith, l, s))
    by false q = e

same_node : (n : ℕ) (t u : Typ) → (if n == n then t else u) ≡ t
same_node n t u = by (n == n) refl
  where
    by : (b : Bool) → (n == n) ≡ b → (if b then t else u) ≡ t
    by true q = refl
    by false q = absurd (true≢false (sym (eq-eqb n n refl) ∙ q))

found_behind : (e : Entry) (es fs : List Entry) → Every (AtLeast (suc e.node)) fs → Every (Found (typ_in es)) fs → Every (Found (typ_in (e ∷ es))) fs
found_behind e es [] h g = tt
found_behind e es (f ∷ fs) h g = (λ k. let l = h.0 in other_node e.node f.node (e.typ k) (typ_in es (temporary_at f.node k)) (f.typ k) (omega (arith, l)) (g.0 k), found_behind e es fs h.1 g.1)

found : (i j : ℕ) (es : List Entry) → AreFrom i (nodes_of es) j → Every (Found (typ_in es)) es
found i j [] h = tt
found i j (e ∷ es) h = (
  λ k. same_node e.node (e.typ k) (typ_in es (temporary_at e.node k)),
  found_behind e es es (at_least (suc e.node) (suc i) j es (let q = h.0 in omega (arith, q)) h.1) (found (suc i) j es h.1),
)

pub all_found : (T : Assigned) (X : ℕ → Typ) (f : Function) (j : ℕ) → AreFrom 0 (nodes f) j → Every (Found (types.temporary_types T X f)) (types.entries T X f)
all_found T X f j h = found 0 j (types.entries T X f) (subst (λ (l : List ℕ). AreFrom 0 l j) (sym (entries_same T X f)) h)
