-- What the typed tree of a function is says nothing of the spans of its nodes.
use Rattle.std.proofs.Common.{◌≡◌, ℕ, Bool, true, false, None, refl, ap, ◌∙◌}
use Rattle.rx_typed.specs.Named as named
use Rattle.rx_typed.specs.Named.{Pattern, Patterns, FieldPatterns, Exp, Exps, Else, Fields, Arms, Body, Statement, Statements, node_of, is_place, diverges, any_diverges, else_diverges, any_field_diverges, all_diverge, body_diverges, statement_diverges, some_diverges, never, else_never, all_never, body_never, tail_never}
use Rattle.rx_typed.specs.Tree as tree
use Rattle.rx_typed.specs.Elaborated.{Assigned, Met, place, pattern, subpatterns, field_patterns, variables, variables_in, variables_in_fields, Coercion, plain, reborrow, share, coercion_in, coercion_at, matched_as, matched, value, operands, fields, otherwise, returned, arms, body, tail, nested, statement, function_body, no_mark}
use Rattle.rx_meaning.proofs.spans.Bare.{bare_node, bare_pattern, bare_patterns, bare_field_patterns, bare, bare_all, bare_else, bare_fields, bare_arms, bare_body, bare_statement, bare_statements}

mutual
  diverges_bare : (e : Exp) → diverges (bare e) ≡ diverges e
  diverges_bare (named.int n m v k) = refl
  diverges_bare (named.bool n b) = refl
  diverges_bare (named.tuple n es) = rw (any_bare es) refl
  diverges_bare (named.var n x) = refl
  diverges_bare (named.field n e x) = rw (diverges_bare e) refl
  diverges_bare (named.part n e i) = rw (diverges_bare e) refl
  diverges_bare (named.deref n e) = rw (diverges_bare e) refl
  diverges_bare (named.negate n e) = rw (diverges_bare e) refl
  diverges_bare (named.invert n e) = rw (diverges_bare e) refl
  diverges_bare (named.borrow n m e) = rw (diverges_bare e) refl
  diverges_bare (named.binary n o a b) = rw (diverges_bare a, diverges_bare b) refl
  diverges_bare (named.assign n p e) = rw (diverges_bare p, diverges_bare e) refl
  diverges_bare (named.gives n p x d e) = rw (diverges_bare e) refl
  diverges_bare (named.update n o p e) = rw (diverges_bare p, diverges_bare e) refl
  diverges_bare (named.call n f es) = rw (any_bare es) refl
  diverges_bare (named.hidden_call n es) = rw (any_bare es) refl
  diverges_bare (named.next_input n) = refl
  diverges_bare (named.variant n i v es) = rw (any_bare es) refl
  diverges_bare (named.make n i fs) = rw (any_field_bare fs) refl
  diverges_bare (named.print n e) = rw (diverges_bare e) refl
  diverges_bare (named.block n b) = rw (body_diverges_bare b) refl
  diverges_bare (named.if n c b o) = rw (diverges_bare c, body_diverges_bare b, else_diverges_bare o) refl
  diverges_bare (named.if_let n p e b o) = rw (diverges_bare e, body_diverges_bare b, else_diverges_bare o) refl
  diverges_bare (named.match n e l) = rw (diverges_bare e, all_diverge_bare l) refl
  diverges_bare (named.loop n l k b) = refl
  diverges_bare (named.while n l c b) = rw (diverges_bare c) refl
  diverges_bare (named.while_let n l p e b) = rw (diverges_bare e) refl
  diverges_bare (named.break n l) = refl
  diverges_bare (named.continue n l) = refl
  diverges_bare (named.return n o) = refl

  any_bare : (es : Exps) → any_diverges (bare_all es) ≡ any_diverges es
  any_bare named.no_exp = refl
  any_bare (named.exp_and e es) = rw (diverges_bare e, any_bare es) refl

  else_diverges_bare : (o : Else) → else_diverges (bare_else o) ≡ else_diverges o
  else_diverges_bare named.absent = refl
  else_diverges_bare (named.present e) = diverges_bare e

  any_field_bare : (fs : Fields) → any_field_diverges (bare_fields fs) ≡ any_field_diverges fs
  any_field_bare named.no_field = refl
  any_field_bare (named.field_and x e fs) = rw (diverges_bare e, any_field_bare fs) refl

  all_diverge_bare : (l : Arms) → all_diverge (bare_arms l) ≡ all_diverge l
  all_diverge_bare named.no_arm = refl
  all_diverge_bare (named.arm_and p e l) = rw (diverges_bare e, all_diverge_bare l) refl

  body_diverges_bare : (b : Body) → body_diverges (bare_body b) ≡ body_diverges b
  body_diverges_bare (named.body n ss o) = rw (some_bare ss, else_diverges_bare o) refl

  statement_bare : (a : Statement) → statement_diverges (bare_statement a) ≡ statement_diverges a
  statement_bare (named.declares n p t) = refl
  statement_bare (named.lets n p t e) = diverges_bare e
  statement_bare (named.evaluates n e s) = diverges_bare e

  some_bare : (ss : Statements) → some_diverges (bare_statements ss) ≡ some_diverges ss
  some_bare named.no_statement = refl
  some_bare (named.statement_and a ss) = rw (statement_bare a, some_bare ss) refl

mutual
  pub never_bare : (e : Exp) → never (bare e) ≡ never e
  never_bare (named.int n m v k) = refl
  never_bare (named.bool n b) = refl
  never_bare (named.tuple n es) = refl
  never_bare (named.var n x) = refl
  never_bare (named.field n e x) = refl
  never_bare (named.part n e i) = refl
  never_bare (named.deref n e) = refl
  never_bare (named.negate n e) = refl
  never_bare (named.invert n e) = refl
  never_bare (named.borrow n m e) = refl
  never_bare (named.binary n o a b) = refl
  never_bare (named.assign n p e) = refl
  never_bare (named.gives n p x d e) = refl
  never_bare (named.update n o p e) = refl
  never_bare (named.call n f es) = refl
  never_bare (named.hidden_call n es) = refl
  never_bare (named.next_input n) = refl
  never_bare (named.variant n i v es) = refl
  never_bare (named.make n i fs) = refl
  never_bare (named.print n e) = refl
  never_bare (named.block n b) = rw (body_never_bare b) refl
  never_bare (named.if n c b o) = rw (body_never_bare b, else_never_bare o) refl
  never_bare (named.if_let n p e b o) = rw (body_never_bare b, else_never_bare o) refl
  never_bare (named.match n e l) = rw (all_never_bare l) refl
  never_bare (named.loop n l k b) = refl
  never_bare (named.while n l c b) = refl
  never_bare (named.while_let n l p e b) = refl
  never_bare (named.break n l) = refl
  never_bare (named.continue n l) = refl
  never_bare (named.return n o) = refl

  else_never_bare : (o : Else) → else_never (bare_else o) ≡ else_never o
  else_never_bare named.absent = refl
  else_never_bare (named.present e) = never_bare e

  all_never_bare : (l : Arms) → all_never (bare_arms l) ≡ all_never l
  all_never_bare named.no_arm = refl
  all_never_bare (named.arm_and p e l) = rw (never_bare e, all_never_bare l) refl

  body_never_bare : (b : Body) → body_never (bare_body b) ≡ body_never b
  body_never_bare (named.body n ss named.absent) = some_bare ss
  body_never_bare (named.body n ss (named.present e)) = never_bare e

place_node : (e : Exp) → (node_of (bare e)).number ≡ (node_of e).number
place_node (named.int n m v k) = refl
place_node (named.bool n b) = refl
place_node (named.tuple n es) = refl
place_node (named.var n x) = refl
place_node (named.field n e x) = refl
place_node (named.part n e i) = refl
place_node (named.deref n e) = refl
place_node (named.negate n e) = refl
place_node (named.invert n e) = refl
place_node (named.borrow n m e) = refl
place_node (named.binary n o a b) = refl
place_node (named.assign n p e) = refl
place_node (named.gives n p x d e) = refl
place_node (named.update n o p e) = refl
place_node (named.call n f es) = refl
place_node (named.hidden_call n es) = refl
place_node (named.next_input n) = refl
place_node (named.variant n i v es) = refl
place_node (named.make n i fs) = refl
place_node (named.print n e) = refl
place_node (named.block n b) = refl
place_node (named.if n c b o) = refl
place_node (named.if_let n p e b o) = refl
place_node (named.match n e l) = refl
place_node (named.loop n l k b) = refl
place_node (named.while n l c b) = refl
place_node (named.while_let n l p e b) = refl
place_node (named.break n l) = refl
place_node (named.continue n l) = refl
place_node (named.return n o) = refl

place_site : (e : Exp) → (node_of (bare e)).site ≡ (node_of e).site
place_site (named.int n m v k) = refl
place_site (named.bool n b) = refl
place_site (named.tuple n es) = refl
place_site (named.var n x) = refl
place_site (named.field n e x) = refl
place_site (named.part n e i) = refl
place_site (named.deref n e) = refl
place_site (named.negate n e) = refl
place_site (named.invert n e) = refl
place_site (named.borrow n m e) = refl
place_site (named.binary n o a b) = refl
place_site (named.assign n p e) = refl
place_site (named.gives n p x d e) = refl
place_site (named.update n o p e) = refl
place_site (named.call n f es) = refl
place_site (named.hidden_call n es) = refl
place_site (named.next_input n) = refl
place_site (named.variant n i v es) = refl
place_site (named.make n i fs) = refl
place_site (named.print n e) = refl
place_site (named.block n b) = refl
place_site (named.if n c b o) = refl
place_site (named.if_let n p e b o) = refl
place_site (named.match n e l) = refl
place_site (named.loop n l k b) = refl
place_site (named.while n l c b) = refl
place_site (named.while_let n l p e b) = refl
place_site (named.break n l) = refl
place_site (named.continue n l) = refl
place_site (named.return n o) = refl

is_place_bare : (e : Exp) → is_place (bare e) ≡ is_place e
is_place_bare (named.int n m v k) = refl
is_place_bare (named.bool n b) = refl
is_place_bare (named.tuple n es) = refl
is_place_bare (named.var n x) = refl
is_place_bare (named.field n e x) = refl
is_place_bare (named.part n e i) = refl
is_place_bare (named.deref n e) = refl
is_place_bare (named.negate n e) = refl
is_place_bare (named.invert n e) = refl
is_place_bare (named.borrow n m e) = refl
is_place_bare (named.binary n o a b) = refl
is_place_bare (named.assign n p e) = refl
is_place_bare (named.gives n p x d e) = refl
is_place_bare (named.update n o p e) = refl
is_place_bare (named.call n f es) = refl
is_place_bare (named.hidden_call n es) = refl
is_place_bare (named.next_input n) = refl
is_place_bare (named.variant n i v es) = refl
is_place_bare (named.make n i fs) = refl
is_place_bare (named.print n e) = refl
is_place_bare (named.block n b) = refl
is_place_bare (named.if n c b o) = refl
is_place_bare (named.if_let n p e b o) = refl
is_place_bare (named.match n e l) = refl
is_place_bare (named.loop n l k b) = refl
is_place_bare (named.while n l c b) = refl
is_place_bare (named.while_let n l p e b) = refl
is_place_bare (named.break n l) = refl
is_place_bare (named.continue n l) = refl
is_place_bare (named.return n o) = refl

place_bare : (T : Assigned) (e : Exp) → place T (bare e) ≡ place T e
place_bare T (named.int n m v k) = refl
place_bare T (named.bool n b) = refl
place_bare T (named.tuple n es) = refl
place_bare T (named.var n x) = refl
place_bare T (named.field n e x) = rw (place_bare T e, place_node e) refl
place_bare T (named.part n e i) = rw (place_bare T e, place_node e) refl
place_bare T (named.deref n e) = rw (place_bare T e, place_node e) refl
place_bare T (named.negate n e) = refl
place_bare T (named.invert n e) = refl
place_bare T (named.borrow n m e) = refl
place_bare T (named.binary n o a b) = refl
place_bare T (named.assign n p e) = refl
place_bare T (named.gives n p x d e) = refl
place_bare T (named.update n o p e) = refl
place_bare T (named.call n f es) = refl
place_bare T (named.hidden_call n es) = refl
place_bare T (named.next_input n) = refl
place_bare T (named.variant n i v es) = refl
place_bare T (named.make n i fs) = refl
place_bare T (named.print n e) = refl
place_bare T (named.block n b) = refl
place_bare T (named.if n c b o) = refl
place_bare T (named.if_let n p e b o) = refl
place_bare T (named.match n e l) = refl
place_bare T (named.loop n l k b) = refl
place_bare T (named.while n l c b) = refl
place_bare T (named.while_let n l p e b) = refl
place_bare T (named.break n l) = refl
place_bare T (named.continue n l) = refl
place_bare T (named.return n o) = refl

mutual
  pattern_bare : (T : Assigned) (r : Met) (p : Pattern) → pattern T r (bare_pattern p) ≡ pattern T r p
  pattern_bare T r (named.wild n) = refl
  pattern_bare T r (named.bind n x m) = refl
  pattern_bare T r (named.whole_number n g v k) = refl
  pattern_bare T r (named.truth n b) = refl
  pattern_bare T r (named.tuple_pattern n ps) = rw (subpatterns_bare T _ 0 ps) refl
  pattern_bare T r (named.variant_pattern n i v ps) = rw (subpatterns_bare T _ 0 ps) refl
  pattern_bare T r (named.struct_pattern n i fs) = rw (field_patterns_bare T _ i fs) refl

  subpatterns_bare : (T : Assigned) (r : Met) (k : ℕ) (ps : Patterns) → subpatterns T r k (bare_patterns ps) ≡ subpatterns T r k ps
  subpatterns_bare T r k named.no_pattern = refl
  subpatterns_bare T r k (named.pattern_and p ps) = rw (pattern_bare T r p, subpatterns_bare T r _ ps) refl

  field_patterns_bare : (T : Assigned) (r : Met) (i : ℕ) (fs : FieldPatterns) → field_patterns T r i (bare_field_patterns fs) ≡ field_patterns T r i fs
  field_patterns_bare T r i named.no_field_pattern = refl
  field_patterns_bare T r i (named.field_pattern_and x p fs) = rw (pattern_bare T r p, field_patterns_bare T r i fs) refl

mutual
  variables_bare : (p : Pattern) → variables (bare_pattern p) ≡ variables p
  variables_bare (named.wild n) = refl
  variables_bare (named.bind n x m) = refl
  variables_bare (named.whole_number n g v k) = refl
  variables_bare (named.truth n b) = refl
  variables_bare (named.tuple_pattern n ps) = variables_in_bare ps
  variables_bare (named.variant_pattern n i v ps) = variables_in_bare ps
  variables_bare (named.struct_pattern n i fs) = variables_in_fields_bare fs

  variables_in_bare : (ps : Patterns) → variables_in (bare_patterns ps) ≡ variables_in ps
  variables_in_bare named.no_pattern = refl
  variables_in_bare (named.pattern_and p ps) = rw (variables_bare p, variables_in_bare ps) refl

  variables_in_fields_bare : (fs : FieldPatterns) → variables_in_fields (bare_field_patterns fs) ≡ variables_in_fields fs
  variables_in_fields_bare named.no_field_pattern = refl
  variables_in_fields_bare (named.field_pattern_and x p fs) = rw (variables_bare p, variables_in_fields_bare fs) refl

coercion_bare : (T : Assigned) (e : Exp) → coercion_at T (node_of (bare e)) ≡ coercion_at T (node_of e)
coercion_bare T e =
    ap (λ n. coercion_in T n (node_of (bare e)).site) (place_node e) ∙ ap (coercion_in T (node_of e).number) (place_site e)

as_bare : (T : Assigned) (b : Bool) (k : Coercion) (e : Exp) (v : tree.Exp) → matched_as T b k (bare e) v ≡ matched_as T b k e v
as_bare T true plain e v = rw (place_node e, place_bare T e) refl
as_bare T true reborrow e v = refl
as_bare T true share e v = refl
as_bare T false k e v = refl

matched_bare : (T : Assigned) (e : Exp) (v : tree.Exp) → matched T (bare e) v ≡ matched T e v
matched_bare T e v =
    ap (λ b. matched_as T b (coercion_at T (node_of (bare e))) (bare e) v) (is_place_bare e)
    ∙ ap (λ k. matched_as T (is_place e) k (bare e) v) (coercion_bare T e) ∙ as_bare T (is_place e) (coercion_at T (node_of e)) e v

body_node_bare : (b : Body) → (named.body_node (bare_body b)).number ≡ (named.body_node b).number
body_node_bare (named.body n ss o) = refl

mutual
  value_bare : (T : Assigned) (e : Exp) → value T (bare e) ≡ value T e
  value_bare T (named.int n m v k) = refl
  value_bare T (named.bool n b) = refl
  value_bare T (named.tuple n es) = rw (operands_bare T 0 es) refl
  value_bare T (named.var n x) = refl
  value_bare T (named.field n e x) = rw (place_bare T e, place_node e) refl
  value_bare T (named.part n e i) = rw (place_bare T e, place_node e) refl
  value_bare T (named.deref n e) = rw (place_bare T e, place_node e) refl
  value_bare T (named.negate n e) = rw (value_bare T e) refl
  value_bare T (named.invert n e) = rw (value_bare T e) refl
  value_bare T (named.borrow n m e) = rw (place_bare T e) refl
  value_bare T (named.binary n o a b) = rw (value_bare T a, value_bare T b) refl
  value_bare T (named.assign n p e) = rw (place_bare T p, value_bare T e) refl
  value_bare T (named.gives n p x d e) = rw (value_bare T e) refl
  value_bare T (named.update n o p e) = rw (place_bare T p, value_bare T e) refl
  value_bare T (named.call n f es) = rw (operands_bare T 0 es) refl
  value_bare T (named.hidden_call n es) = refl
  value_bare T (named.next_input n) = refl
  value_bare T (named.variant n i v es) = rw (operands_bare T 0 es) refl
  value_bare T (named.make n i fs) = rw (fields_bare T i fs) refl
  value_bare T (named.print n e) = rw (value_bare T e) refl
  value_bare T (named.block n b) = rw (body_bare T b) refl
  value_bare T (named.if n c b o) = rw (value_bare T c, body_bare T b, otherwise_bare T n o, body_never_bare b, else_never_bare o) refl
  value_bare T (named.if_let n p e b o) = rw (value_bare T e, matched_bare T e (value T e), pattern_bare T None p, body_bare T b, otherwise_bare T n o, body_never_bare b, else_never_bare o) refl
  value_bare T (named.match n e l) = rw (value_bare T e, matched_bare T e (value T e), arms_bare T l, all_never_bare l) refl
  value_bare T (named.loop n l k b) = rw (body_bare T b) refl
  value_bare T (named.while n l c b) = rw (value_bare T c, body_bare T b, body_never_bare b, body_node_bare b) refl
  value_bare T (named.while_let n l p e b) = rw (value_bare T e, matched_bare T e (value T e), pattern_bare T None p, body_bare T b, body_never_bare b, body_node_bare b) refl
  value_bare T (named.break n l) = refl
  value_bare T (named.continue n l) = refl
  value_bare T (named.return n o) = rw (returned_bare T n o) refl

  operands_bare : (T : Assigned) (k : ℕ) (es : Exps) → operands T k (bare_all es) ≡ operands T k es
  operands_bare T k named.no_exp = refl
  operands_bare T k (named.exp_and e es) = rw (value_bare T e, operands_bare T _ es) refl

  fields_bare : (T : Assigned) (i : ℕ) (fs : Fields) → fields T i (bare_fields fs) ≡ fields T i fs
  fields_bare T i named.no_field = refl
  fields_bare T i (named.field_and x e fs) = rw (value_bare T e, fields_bare T i fs) refl

  otherwise_bare : (T : Assigned) (n : _) (o : Else) → otherwise T (bare_node n) (bare_else o) ≡ otherwise T n o
  otherwise_bare T n named.absent = refl
  otherwise_bare T n (named.present e) = value_bare T e

  returned_bare : (T : Assigned) (n : _) (o : Else) → returned T (bare_node n) (bare_else o) ≡ returned T n o
  returned_bare T n named.absent = refl
  returned_bare T n (named.present e) = value_bare T e

  arms_bare : (T : Assigned) (l : Arms) → arms T (bare_arms l) ≡ arms T l
  arms_bare T named.no_arm = refl
  arms_bare T (named.arm_and p e l) = rw (pattern_bare T None p, value_bare T e, arms_bare T l) refl

  body_bare : (T : Assigned) (b : Body) → body T (bare_body b) ≡ body T b
  body_bare T (named.body n ss o) = rw (body_never_bare (named.body n ss o), tail_bare T n o, nested_bare T ss (tail T n o)) refl

  tail_bare : (T : Assigned) (n : _) (o : Else) → tail T (bare_node n) (bare_else o) ≡ tail T n o
  tail_bare T n named.absent = refl
  tail_bare T n (named.present e) = value_bare T e

  nested_bare : (T : Assigned) (ss : Statements) (last : tree.Exp) → nested T (bare_statements ss) last ≡ nested T ss last
  nested_bare T named.no_statement last = refl
  nested_bare T (named.statement_and a ss) last = rw (nested_bare T ss last) (each_bare T a (nested T ss last))

  each_bare : (T : Assigned) (a : Statement) (rest : tree.Body) → statement T (bare_statement a) rest ≡ statement T a rest
  each_bare T (named.declares n p t) rest = rw (variables_bare p) refl
  each_bare T (named.lets n p t e) rest = rw (value_bare T e, matched_bare T e (value T e), pattern_bare T None p) refl
  each_bare T (named.evaluates n e s) rest = rw (value_bare T e) refl

pub function_body_bare : (T : Assigned) (b : Body) → function_body T (bare_body b) ≡ function_body T b
function_body_bare T (named.body n ss o) = rw (body_never_bare (named.body n ss o), tail_bare T n o, nested_bare T ss (tree.give (no_mark n) (tail T n o))) refl
