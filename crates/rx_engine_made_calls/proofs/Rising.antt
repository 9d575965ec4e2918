-- No part of a text takes a variable back: where it ends, at least as many are declared as where it begins.
use Rattle.std.proofs.Common.{◌≡◌, ◌≤◌, ℕ, suc, Bool, true, false, ◌&&◌, Option, Some, None, ap, arith}
use Rattle.rx_typed.specs.declared.nodes.Node.{Node}
use Rattle.rx_typed.specs.declared.nodes.Site.{Site}
use Rattle.rx_typed.specs.Named as named
use Rattle.rx_typed.specs.Named.{never, pattern_node, whole_binding, Arms, Body, Else, Exp, Exps, FieldPatterns, Fields, Pattern, Patterns, Statement, Statements, Written, WrittenTypes}
use Rattle.rx_typed.specs.Naming.{has_no_type}
use Rattle.rx_engine_changed.specs.Spots.{known_from, waits_for_at, waits_where, GivenThere, NumberedArms, NumberedBody, NumberedElse, NumberedExp, NumberedExps, NumberedFieldPatterns, NumberedFields, NumberedOptionalType, NumberedPattern, NumberedPatterns, NumberedStatement, NumberedStatements, NumberedType, NumberedTypes, OneAt, Spot}

same : {p q : Spot} → q ≡ p → p.declared ≤ q.declared
same e = let i = ap (λ (z : Spot). z.declared) e in omega (arith, i)

one : (n : Node) (t : Site) (p q : Spot) → OneAt n t p q → p.declared ≤ q.declared
one n t p q h = let i = ap (λ (z : Spot). z.declared) h.1 in omega (arith, i)

waits_for : (n : Node) (o : Option ℕ) (p : Spot) → p.declared ≤ (waits_for_at n o p).declared
waits_for n None p = omega arith
waits_for n (Some x) p = omega arith

pub waits : (b : Bool) (x : Pattern) (p : Spot) → p.declared ≤ (waits_where b x p).declared
waits true x p = waits_for (pattern_node x) (whole_binding x) p
waits false x p = omega arith

pub given_rises : (o : Option (ℕ × ℕ)) (x : ℕ) (d : Option ℕ) (p q : Spot) → GivenThere o x d p q → p.declared ≤ q.declared
given_rises None x d p q g = same g.1
given_rises (Some w) x d p q g = let i = ap (λ (z : Spot). z.declared) g.1 in omega (arith, i)

mutual
  type_rises : (t : Written) (p q : Spot) → NumberedType p t q → p.declared ≤ q.declared
  type_rises (named.a_kind n k) p q h = one n _ p q h
  type_rises (named.a_bool n) p q h = one n _ p q h
  type_rises (named.a_tuple n ts) p q h = types_rise ts _ q h.1
  type_rises (named.a_reference n m t) p q h = type_rises t _ q h.1
  type_rises (named.an_item n i ls) p q h = one n _ p q h

  types_rise : (ts : WrittenTypes) (p q : Spot) → NumberedTypes p ts q → p.declared ≤ q.declared
  types_rise named.no_written p q h = same h
  types_rise (named.written_and t ts) p q h = let a = type_rises t p h.0 h.1 in let b = types_rise ts h.0 q h.2 in omega (arith, a, b)

optional_rises : (t : Option Written) (p q : Spot) → NumberedOptionalType p t q → p.declared ≤ q.declared
optional_rises None p q h = same h
optional_rises (Some t) p q h = type_rises t p q h

mutual
  pub pattern_rises : (x : Pattern) (p q : Spot) → NumberedPattern p x q → p.declared ≤ q.declared
  pattern_rises (named.wild n) p q h = one n _ p q h
  pattern_rises (named.bind n x m) p q h = let i = ap (λ (z : Spot). z.declared) h.2 in omega (arith, i)
  pattern_rises (named.whole_number n g v k) p q h = one n _ p q h
  pattern_rises (named.truth n b) p q h = one n _ p q h
  pattern_rises (named.tuple_pattern n ps) p q h = patterns_rise ps _ q h.1
  pattern_rises (named.variant_pattern n i v ps) p q h = patterns_rise ps _ q h.1
  pattern_rises (named.struct_pattern n i fs) p q h = fields_rise fs _ q h.1

  pub patterns_rise : (xs : Patterns) (p q : Spot) → NumberedPatterns p xs q → p.declared ≤ q.declared
  patterns_rise named.no_pattern p q h = same h
  patterns_rise (named.pattern_and x xs) p q h = let a = pattern_rises x p h.0 h.1 in let b = patterns_rise xs h.0 q h.2 in omega (arith, a, b)

  fields_rise : (fs : FieldPatterns) (p q : Spot) → NumberedFieldPatterns p fs q → p.declared ≤ q.declared
  fields_rise named.no_field_pattern p q h = same h
  fields_rise (named.field_pattern_and y x xs) p q h = let a = pattern_rises x p h.0 h.1 in let b = fields_rise xs h.0 q h.2 in omega (arith, a, b)

mutual
  pub exp_rises : (e : Exp) (p : Spot) (t : Site) (q : Spot) → NumberedExp p t e q → p.declared ≤ q.declared
  exp_rises (named.int n m v k) p t q h = one n _ p q h
  exp_rises (named.bool n b) p t q h = one n _ p q h
  exp_rises (named.tuple n es) p t q h = exps_rise es _ _ q h.1
  exp_rises (named.var n x) p t q h = let i = ap (λ (z : Spot). z.declared) h.2 in omega (arith, i)
  exp_rises (named.field n e x) p t q h = exp_rises e _ _ q h.1
  exp_rises (named.part n e i) p t q h = exp_rises e _ _ q h.1
  exp_rises (named.deref n e) p t q h = exp_rises e _ _ q h.1
  exp_rises (named.negate n e) p t q h = exp_rises e _ _ q h.1
  exp_rises (named.invert n e) p t q h = exp_rises e _ _ q h.1
  exp_rises (named.borrow n m e) p t q h = exp_rises e _ _ q h.1
  exp_rises (named.binary n o a b) p t q h = let i = exp_rises a _ _ h.1 h.2 in let j = exp_rises b h.1 _ q h.3 in omega (arith, i, j)
  exp_rises (named.assign n x e) p t q h = let i = exp_rises x _ _ h.1 h.2 in let j = exp_rises e h.1 _ q h.4 in omega (arith, i, j)
  exp_rises (named.gives n k x d e) p t q h = let i = exp_rises e _ _ h.3 h.4 in let j = given_rises _ _ _ h.3 q h.6 in omega (arith, i, j)
  exp_rises (named.update n o x e) p t q h = let i = exp_rises x _ _ h.1 h.2 in let j = exp_rises e h.1 _ q h.3 in omega (arith, i, j)
  exp_rises (named.call n f es) p t q h = exps_rise es _ _ q h.1
  exp_rises (named.hidden_call n es) p t q h = exps_rise es _ _ q h.1
  exp_rises (named.next_input n) p t q h = one n _ p q h
  exp_rises (named.variant n i v es) p t q h = exps_rise es _ _ q h.1
  exp_rises (named.make n i fs) p t q h = made_rise fs _ q h.1
  exp_rises (named.print n e) p t q h = exp_rises e _ _ q h.1
  exp_rises (named.block n b) p t q h = body_rises b _ _ q h.1
  exp_rises (named.if n c b o) p t q h = let i = exp_rises c _ _ h.1 h.2 in let j = body_rises b h.1 _ h.3 h.4 in let k = else_rises o h.3 _ q h.5 in omega (arith, i, j, k)
  exp_rises (named.if_let n x e b o) p t q h =
      let i = pattern_rises x _ h.1 h.2 in let j = exp_rises e h.1 _ h.3 h.4 in let k = body_rises b _ _ h.5 h.6 in let l = else_rises o h.5 _ q h.7 in omega (arith, i, j, k, l)
  exp_rises (named.match n e l) p t q h = let i = exp_rises e _ _ h.1 h.2 in let j = arms_rise l h.1 _ q h.3 in omega (arith, i, j)
  exp_rises (named.loop n l k b) p t q h = body_rises b _ _ q h.1
  exp_rises (named.while n l c b) p t q h = let i = exp_rises c _ _ h.1 h.2 in let j = body_rises b h.1 _ q h.3 in omega (arith, i, j)
  exp_rises (named.while_let n l x e b) p t q h = let i = pattern_rises x _ h.1 h.2 in let j = exp_rises e h.1 _ h.3 h.4 in let k = body_rises b _ _ q h.5 in omega (arith, i, j, k)
  exp_rises (named.break n l) p t q h = one n _ p q h
  exp_rises (named.continue n l) p t q h = one n _ p q h
  exp_rises (named.return n o) p t q h = else_rises o _ _ q h.1

  pub exps_rise : (es : Exps) (p : Spot) (t : Site) (q : Spot) → NumberedExps p t es q → p.declared ≤ q.declared
  exps_rise named.no_exp p t q h = same h
  exps_rise (named.exp_and e es) p t q h = let a = exp_rises e p t h.0 h.1 in let b = exps_rise es h.0 t q h.2 in omega (arith, a, b)

  pub else_rises : (o : Else) (p : Spot) (t : Site) (q : Spot) → NumberedElse p t o q → p.declared ≤ q.declared
  else_rises named.absent p t q h = same h
  else_rises (named.present e) p t q h = exp_rises e p t q h

  made_rise : (fs : Fields) (p q : Spot) → NumberedFields p fs q → p.declared ≤ q.declared
  made_rise named.no_field p q h = same h
  made_rise (named.field_and x e fs) p q h = let a = exp_rises e p _ h.0 h.1 in let b = made_rise fs h.0 q h.2 in omega (arith, a, b)

  pub arms_rise : (l : Arms) (p : Spot) (t : Site) (q : Spot) → NumberedArms p t l q → p.declared ≤ q.declared
  arms_rise named.no_arm p t q h = same h
  arms_rise (named.arm_and x e l) p t q h = let a = pattern_rises x p h.0 h.1 in let b = exp_rises e _ t h.2 h.3 in let c = arms_rise l h.2 t q h.4 in omega (arith, a, b, c)

  body_rises : (b : Body) (p : Spot) (t : Site) (q : Spot) → NumberedBody p t b q → p.declared ≤ q.declared
  body_rises (named.body n ss o) p t q h = let a = statements_rise ss _ h.1 h.2 in let b = else_rises o h.1 t q h.3 in omega (arith, a, b)

  pub statement_rises : (a : Statement) (p q : Spot) → NumberedStatement p a q → p.declared ≤ q.declared
  statement_rises (named.declares n x y) p q h =
      let a = pattern_rises x _ h.1 h.2 in let b = optional_rises y h.1 h.3 h.4 in let c = waits (has_no_type y) x (known_from p.declared h.1.declared h.3) in let i = ap (λ (z : Spot). z.declared) h.5 in omega (arith, a, b, c, i)
  statement_rises (named.lets n x y e) p q h =
      let a = pattern_rises x _ h.1 h.2 in let b = optional_rises y h.1 h.3 h.4 in let c = exp_rises e h.3 _ h.5 h.6 in let d = waits (has_no_type y && never e) x (known_from p.declared h.1.declared h.5) in let i = ap (λ (z : Spot). z.declared) h.7 in omega (arith, a, b, c, d, i)
  statement_rises (named.evaluates n e b) p q h = exp_rises e _ _ q h.1

  pub statements_rise : (ss : Statements) (p q : Spot) → NumberedStatements p ss q → p.declared ≤ q.declared
  statements_rise named.no_statement p q h = same h
  statements_rise (named.statement_and a ss) p q h = let x = statement_rises a p h.0 h.1 in let y = statements_rise ss h.0 q h.2 in omega (arith, x, y)

-- a variable that is declared without a value
pub declares_one : (n b : Node) (d : ℕ) (m : Bool) (t : Option Written) (p q : Spot) → NumberedStatement p (named.declares n (named.bind b d m) t) q → suc p.declared ≤ q.declared
declares_one n b d m t p q h =
    let i = ap (λ (z : Spot). z.declared) h.2.2 in let j = optional_rises t h.1 h.3 h.4 in let k = waits (has_no_type t) (named.bind b d m) (known_from p.declared h.1.declared h.3) in let l = ap (λ (z : Spot). z.declared) h.5 in omega (arith, i, j, k, l)
