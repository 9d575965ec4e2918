-- What is declared in front of a part is still as it was behind it, or its type is known there; what a pattern declares is known behind it.
use Rattle.std.proofs.Common.{◌≡◌, ◌≤◌, ◌<◌, ◌-◌, ℕ, zero, suc, Bool, true, false, List, [], ◌∷◌, length, Option, Some, None, option_map, slice_get, slice_set, get_or, refl, sym, ap, ◌∙◌, subst, arith}
use Rattle.rx_typed.specs.declared.nodes.Site.{Site}
use Rattle.rx_typed.specs.declared.nodes.Stage.{Stage}
use Rattle.rx_typed.specs.declared.nodes.Declaration.{Declaration}
use Rattle.rx_typed.specs.Named as named
use Rattle.rx_typed.specs.Named.{Written, WrittenTypes, Pattern, Patterns, FieldPatterns, Exp, Exps, Else, Fields, Arms, Body, Statement, Statements}
use Rattle.rx_typed.specs.Naming.{as_known, not_declared}
use Rattle.rx_engine_changed.specs.Spots.{after, declared_at, known_from, waits_where, with_stage_at, with_variable, GivenThere, NumberedArms, NumberedBody, NumberedElse, NumberedExp, NumberedExps, NumberedFieldPatterns, NumberedFields, NumberedOptionalType, NumberedPattern, NumberedPatterns, NumberedStatement, NumberedStatements, NumberedType, NumberedTypes, Spot}
use Rattle.rx_engine_changed.specs.Inside.{Reaches}
use Rattle.rx_engine_changed.proofs.Inside.{on, one_on, still}
use Rattle.rx_engine_changed.proofs.Lists.{becomes_known, known_length, older_at, one_longer, read_at, set_elsewhere, set_many, set_there, stays_known}
use Rattle.rx_engine_changed.proofs.Steps.{or_else, read, same_or_not, so, not_so, Decided}

-- ---- one declaration

pub data Still (a b : Declaration) : Type 0 where
  as_it_was : b ≡ a → Still a b
  now_known : b.mutable ≡ a.mutable → b.stage ≡ Stage.Known → Still a b

still_on : {a b c : Declaration} → Still a b → Still b c → Still a c
still_on {a = a} {c = c} (as_it_was e) s = subst (λ (x : Declaration). Still x c) e s
still_on (now_known m k) (as_it_was e) = now_known (ap (λ (x : Declaration). x.mutable) e ∙ m) (ap (λ (x : Declaration). x.stage) e ∙ k)
still_on (now_known m k) (now_known n l) = now_known (n ∙ m) l

-- what is read where the same is there
read_same : (vs ws : List Declaration) (n m : ℕ) (d : Declaration) → slice_get vs n ≡ slice_get ws m → get_or vs n d ≡ get_or ws m d
read_same vs ws n m d e = read vs n d ∙ (ap (or_else d) e ∙ sym (read ws m d))

pub there_is : (vs : List Declaration) (n : ℕ) → n < length vs → (x : Declaration) × (slice_get vs n ≡ Some x)
there_is [] n h = absurd (omega (arith, h))
there_is (v ∷ vs) zero h = (v, refl)
there_is (v ∷ vs) (suc n) h = there_is vs n (omega (arith, h))

-- ---- all of them

abbrev pub Counted : Spot → Type 0
Counted p = length p.variables ≡ p.declared

pub record Keeps (p q : Spot) : Type 0 where
  pub reaches : Reaches p q
  pub counted : Counted p → Counted q
  pub kept : Counted p → (k : ℕ) → k < p.declared → Still (declared_at p k) (declared_at q k)

pub keeps_on : {p q r : Spot} → Keeps p q → Keeps q r → Keeps p r
keeps_on {p = p} {q = q} {r = r} a b = record {
  reaches = on a.reaches b.reaches;
  counted = λ c. b.counted (a.counted c);
  kept = λ c k h. still_on (a.kept c k h) (b.kept (a.counted c) k (let i = a.reaches.variables in omega (arith, h, i)));
}

pub keeps_itself : (p : Spot) → Keeps p p
keeps_itself p = record { reaches = still p; counted = λ c. c; kept = λ c k h. as_it_was refl }

pub keeps_so : {p q r : Spot} → Keeps p q → r ≡ q → Keeps p r
keeps_so {p = p} a e = subst (Keeps p) (sym e) a

pub keeps_node : (p : Spot) → Keeps p (after p)
keeps_node p = record { reaches = one_on p; counted = λ c. c; kept = λ c k h. as_it_was refl }

keeps_variable : (m : Bool) (p : Spot) → Keeps p (with_variable m p)
keeps_variable m p = record {
  reaches = record { nodes = omega arith; variables = omega arith };
  counted = λ c. one_longer p.variables _ ∙ ap suc c;
  kept = λ c k h. as_it_was (read_same _ p.variables k k not_declared (older_at p.variables _ k (λ e. absurd (omega (arith, e, c, h)))));
}

-- those from a number on, behind another spot, are none of these
keeps_known : (i j : ℕ) (p s : Spot) → p.declared ≤ i → i ≤ j → Keeps p s → Keeps p (known_from i j s)
keeps_known i j p s l u a = record {
  reaches = record { nodes = a.reaches.nodes; variables = a.reaches.variables };
  counted = λ c. known_length i (j - i) s.variables ∙ a.counted c;
  kept = λ c k h. still_on (a.kept c k h) (as_it_was (read_same _ s.variables k k not_declared (stays_known i j k s.variables u (λ w. let z = w.0 in absurd (omega (arith, z, h, l))))));
}

keeps_stage : (x : ℕ) (g : Stage) (p s : Spot) → p.declared ≤ x → Keeps p s → Keeps p (with_stage_at x g s)
keeps_stage x g p s l a = record {
  reaches = record { nodes = a.reaches.nodes; variables = a.reaches.variables };
  counted = λ c. set_many s.variables x _ ∙ a.counted c;
  kept = λ c k h. still_on (a.kept c k h) (as_it_was (read_same _ s.variables k k not_declared (set_elsewhere s.variables x k _ (λ e. absurd (omega (arith, e, h, l))))));
}

-- one that is known from here on
keeps_settled : (x : ℕ) (p : Spot) → Keeps p (with_stage_at x Stage.Known p)
keeps_settled x p = record {
  reaches = record { nodes = omega arith; variables = omega arith };
  counted = λ c. set_many p.variables x _ ∙ c;
  kept = λ c k h. by c k h (same_or_not k x);
}
  where
    by : Counted p → (k : ℕ) → k < p.declared → Decided (k ≡ x) → Still (declared_at p k) (declared_at (with_stage_at x Stage.Known p) k)
    by c k h (not_so w) = as_it_was (read_same _ p.variables k k not_declared (set_elsewhere p.variables x k _ w))
    by c k h (so e) =
        let z = there_is p.variables x (omega (arith, h, c, e)) in
        let i : declared_at (with_stage_at x Stage.Known p) k ≡ record (declared_at p x) { stage = Stage.Known } = read_at _ k not_declared _ (ap (slice_get (slice_set p.variables x _)) e ∙ set_there p.variables x _ ∙ ap (option_map (λ (y : Declaration). record (declared_at p x) { stage = Stage.Known })) z.1) in
        now_known (ap (λ (y : Declaration). y.mutable) i ∙ ap (λ (n : ℕ). (declared_at p n).mutable) (sym e)) (ap (λ (y : Declaration). y.stage) i)

pub given_keeps : (o : Option (ℕ × ℕ)) (x : ℕ) (d : Option ℕ) (p q : Spot) → GivenThere o x d p q → Keeps p q
given_keeps None x d p q g = keeps_so (keeps_itself p) g.1
given_keeps (Some w) x d p q g = keeps_so (keeps_settled x p) g.1

-- ---- types and patterns

mutual
  type_keeps : (w : Written) (p q : Spot) → NumberedType p w q → Keeps p q
  type_keeps (named.a_kind n k) p q h = keeps_so (keeps_node p) h.1
  type_keeps (named.a_bool n) p q h = keeps_so (keeps_node p) h.1
  type_keeps (named.a_tuple n ts) p q h = keeps_on (keeps_node p) (types_keep ts (after p) q h.1)
  type_keeps (named.a_reference n m t) p q h = keeps_on (keeps_node p) (type_keeps t (after p) q h.1)
  type_keeps (named.an_item n i ls) p q h = keeps_so (keeps_node p) h.1

  types_keep : (ts : WrittenTypes) (p q : Spot) → NumberedTypes p ts q → Keeps p q
  types_keep named.no_written p q h = keeps_so (keeps_itself p) h
  types_keep (named.written_and t ts) p q h = keeps_on (type_keeps t p h.0 h.1) (types_keep ts h.0 q h.2)

pub optional_type_keeps : (w : Option Written) (p q : Spot) → NumberedOptionalType p w q → Keeps p q
optional_type_keeps None p q h = keeps_so (keeps_itself p) h
optional_type_keeps (Some w) p q h = type_keeps w p q h

mutual
  pub pattern_keeps : (x : Pattern) (p q : Spot) → NumberedPattern p x q → Keeps p q
  pattern_keeps (named.wild n) p q h = keeps_so (keeps_node p) h.1
  pattern_keeps (named.bind n x m) p q h = keeps_so (keeps_on (keeps_node p) (keeps_variable m (after p))) h.2
  pattern_keeps (named.whole_number n g v k) p q h = keeps_so (keeps_node p) h.1
  pattern_keeps (named.truth n b) p q h = keeps_so (keeps_node p) h.1
  pattern_keeps (named.tuple_pattern n ps) p q h = keeps_on (keeps_node p) (patterns_keep ps (after p) q h.1)
  pattern_keeps (named.variant_pattern n i v ps) p q h = keeps_on (keeps_node p) (patterns_keep ps (after p) q h.1)
  pattern_keeps (named.struct_pattern n i fs) p q h = keeps_on (keeps_node p) (field_patterns_keep fs (after p) q h.1)

  pub patterns_keep : (ps : Patterns) (p q : Spot) → NumberedPatterns p ps q → Keeps p q
  patterns_keep named.no_pattern p q h = keeps_so (keeps_itself p) h
  patterns_keep (named.pattern_and x xs) p q h = keeps_on (pattern_keeps x p h.0 h.1) (patterns_keep xs h.0 q h.2)

  field_patterns_keep : (fs : FieldPatterns) (p q : Spot) → NumberedFieldPatterns p fs q → Keeps p q
  field_patterns_keep named.no_field_pattern p q h = keeps_so (keeps_itself p) h
  field_patterns_keep (named.field_pattern_and y x xs) p q h = keeps_on (pattern_keeps x p h.0 h.1) (field_patterns_keep xs h.0 q h.2)

-- a variable that is a whole pattern was declared there
waits_keep : (b : Bool) (x : Pattern) (p p1 r s : Spot) → p.declared ≤ p1.declared → NumberedPattern p1 x r → Keeps p s → Keeps p (waits_where b x s)
waits_keep false x p p1 r s l h a = a
waits_keep true (named.bind n x m) p p1 r s l h a = keeps_stage x _ p s (let e = h.1 in omega (arith, e, l)) a
waits_keep true (named.wild n) p p1 r s l h a = a
waits_keep true (named.whole_number n g v k) p p1 r s l h a = a
waits_keep true (named.truth n b) p p1 r s l h a = a
waits_keep true (named.tuple_pattern n ps) p p1 r s l h a = a
waits_keep true (named.variant_pattern n i v ps) p p1 r s l h a = a
waits_keep true (named.struct_pattern n i fs) p p1 r s l h a = a

-- ---- expressions

-- behind a pattern and what follows it, its variables are known
pub behind_pattern : (x : Pattern) (p p1 r s : Spot) → Keeps p p1 → NumberedPattern p1 x r → Keeps r s → Keeps p (known_from p1.declared r.declared s)
behind_pattern x p p1 r s a h b = let k = pattern_keeps x p1 r h in keeps_known p1.declared r.declared p s a.reaches.variables k.reaches.variables (keeps_on a (keeps_on k b))

mutual
  pub exp_keeps : (e : Exp) (p : Spot) (t : Site) (q : Spot) → NumberedExp p t e q → Keeps p q
  exp_keeps (named.int n m v k) p t q h = keeps_so (keeps_node p) h.1
  exp_keeps (named.bool n b) p t q h = keeps_so (keeps_node p) h.1
  exp_keeps (named.tuple n es) p t q h = keeps_on (keeps_node p) (exps_keep es (after p) _ q h.1)
  exp_keeps (named.var n x) p t q h = keeps_so (keeps_node p) h.2
  exp_keeps (named.field n e x) p t q h = keeps_on (keeps_node p) (exp_keeps e (after p) _ q h.1)
  exp_keeps (named.part n e i) p t q h = keeps_on (keeps_node p) (exp_keeps e (after p) _ q h.1)
  exp_keeps (named.deref n e) p t q h = keeps_on (keeps_node p) (exp_keeps e (after p) _ q h.1)
  exp_keeps (named.negate n e) p t q h = keeps_on (keeps_node p) (exp_keeps e (after p) _ q h.1)
  exp_keeps (named.invert n e) p t q h = keeps_on (keeps_node p) (exp_keeps e (after p) _ q h.1)
  exp_keeps (named.borrow n m e) p t q h = keeps_on (keeps_node p) (exp_keeps e (after p) _ q h.1)
  exp_keeps (named.binary n o a b) p t q h = keeps_on (keeps_node p) (keeps_on (exp_keeps a (after p) _ h.1 h.2) (exp_keeps b h.1 _ q h.3))
  exp_keeps (named.assign n x e) p t q h = keeps_on (keeps_node p) (keeps_on (exp_keeps x (after p) _ h.1 h.2) (exp_keeps e h.1 _ q h.4))
  exp_keeps (named.gives n k x d e) p t q h = keeps_on (keeps_node p) (keeps_on (keeps_node (after p)) (keeps_on (exp_keeps e (after (after p)) _ h.3 h.4) (given_keeps _ _ _ h.3 q h.6)))
  exp_keeps (named.update n o x e) p t q h = keeps_on (keeps_node p) (keeps_on (exp_keeps x (after p) _ h.1 h.2) (exp_keeps e h.1 _ q h.3))
  exp_keeps (named.call n f es) p t q h = keeps_on (keeps_node p) (exps_keep es (after p) _ q h.1)
  exp_keeps (named.hidden_call n es) p t q h = keeps_on (keeps_node p) (exps_keep es (after p) _ q h.1)
  exp_keeps (named.next_input n) p t q h = keeps_so (keeps_node p) h.1
  exp_keeps (named.variant n i v es) p t q h = keeps_on (keeps_node p) (exps_keep es (after p) _ q h.1)
  exp_keeps (named.make n i fs) p t q h = keeps_on (keeps_node p) (fields_keep fs (after p) q h.1)
  exp_keeps (named.print n e) p t q h = keeps_on (keeps_node p) (exp_keeps e (after p) _ q h.1)
  exp_keeps (named.block n b) p t q h = keeps_on (keeps_node p) (body_keeps b (after p) _ q h.1)
  exp_keeps (named.if n c b o) p t q h = keeps_on (keeps_node p) (keeps_on (exp_keeps c (after p) _ h.1 h.2) (keeps_on (body_keeps b h.1 _ h.3 h.4) (else_keeps o h.3 _ q h.5)))
  exp_keeps (named.if_let n x e b o) p t q h =
      keeps_on (behind_pattern x p (after p) h.1 h.3 (keeps_node p) h.2 (exp_keeps e h.1 _ h.3 h.4)) (keeps_on (body_keeps b _ _ h.5 h.6) (else_keeps o h.5 _ q h.7))
  exp_keeps (named.match n e l) p t q h = keeps_on (keeps_node p) (keeps_on (exp_keeps e (after p) _ h.1 h.2) (arms_keep l h.1 _ q h.3))
  exp_keeps (named.loop n l k b) p t q h = keeps_on (keeps_node p) (body_keeps b (after p) _ q h.1)
  exp_keeps (named.while n l c b) p t q h = keeps_on (keeps_node p) (keeps_on (exp_keeps c (after p) _ h.1 h.2) (body_keeps b h.1 _ q h.3))
  exp_keeps (named.while_let n l x e b) p t q h = keeps_on (behind_pattern x p (after p) h.1 h.3 (keeps_node p) h.2 (exp_keeps e h.1 _ h.3 h.4)) (body_keeps b _ _ q h.5)
  exp_keeps (named.break n l) p t q h = keeps_so (keeps_node p) h.1
  exp_keeps (named.continue n l) p t q h = keeps_so (keeps_node p) h.1
  exp_keeps (named.return n o) p t q h = keeps_on (keeps_node p) (else_keeps o (after p) _ q h.1)

  exps_keep : (es : Exps) (p : Spot) (t : Site) (q : Spot) → NumberedExps p t es q → Keeps p q
  exps_keep named.no_exp p t q h = keeps_so (keeps_itself p) h
  exps_keep (named.exp_and e es) p t q h = keeps_on (exp_keeps e p t h.0 h.1) (exps_keep es h.0 t q h.2)

  pub else_keeps : (o : Else) (p : Spot) (t : Site) (q : Spot) → NumberedElse p t o q → Keeps p q
  else_keeps named.absent p t q h = keeps_so (keeps_itself p) h
  else_keeps (named.present e) p t q h = exp_keeps e p t q h

  fields_keep : (fs : Fields) (p q : Spot) → NumberedFields p fs q → Keeps p q
  fields_keep named.no_field p q h = keeps_so (keeps_itself p) h
  fields_keep (named.field_and x e fs) p q h = keeps_on (exp_keeps e p _ h.0 h.1) (fields_keep fs h.0 q h.2)

  pub arms_keep : (l : Arms) (p : Spot) (t : Site) (q : Spot) → NumberedArms p t l q → Keeps p q
  arms_keep named.no_arm p t q h = keeps_so (keeps_itself p) h
  arms_keep (named.arm_and x e l) p t q h = keeps_on (behind_pattern x p p h.0 h.0 (keeps_itself p) h.1 (keeps_itself h.0)) (keeps_on (exp_keeps e _ t h.2 h.3) (arms_keep l h.2 t q h.4))

  body_keeps : (b : Body) (p : Spot) (t : Site) (q : Spot) → NumberedBody p t b q → Keeps p q
  body_keeps (named.body n ss o) p t q h = keeps_on (keeps_node p) (keeps_on (statements_keep ss (after p) h.1 h.2) (else_keeps o h.1 t q h.3))

  pub statement_keeps : (x : Statement) (p q : Spot) → NumberedStatement p x q → Keeps p q
  statement_keeps (named.declares n x y) p q h =
      keeps_so (waits_keep _ x p (after p) h.1 _ (keeps_node p).reaches.variables h.2 (behind_pattern x p (after p) h.1 h.3 (keeps_node p) h.2 (optional_type_keeps y h.1 h.3 h.4))) h.5
  statement_keeps (named.lets n x y e) p q h =
      keeps_so (waits_keep _ x p (after p) h.1 _ (keeps_node p).reaches.variables h.2 (behind_pattern x p (after p) h.1 h.5 (keeps_node p) h.2 (keeps_on (optional_type_keeps y h.1 h.3 h.4) (exp_keeps e h.3 _ h.5 h.6)))) h.7
  statement_keeps (named.evaluates n e b) p q h = keeps_on (keeps_node p) (exp_keeps e (after p) _ q h.1)

  pub statements_keep : (ss : Statements) (p q : Spot) → NumberedStatements p ss q → Keeps p q
  statements_keep named.no_statement p q h = keeps_so (keeps_itself p) h
  statements_keep (named.statement_and x ss) p q h = keeps_on (statement_keeps x p h.0 h.1) (statements_keep ss h.0 q h.2)

-- ---- what is known

pub record KnownAt (p : Spot) (k : ℕ) : Type 0 where
  pub earlier : k < p.declared
  pub known : (declared_at p k).stage ≡ Stage.Known

pub still_known : {p q : Spot} (k : ℕ) → Counted p → Keeps p q → KnownAt p k → KnownAt q k
still_known {p = p} {q = q} k c a h = record { earlier = let i = a.reaches.variables in let j = h.earlier in omega (arith, i, j); known = by (a.kept c k h.earlier) }
  where
    by : Still (declared_at p k) (declared_at q k) → (declared_at q k).stage ≡ Stage.Known
    by (as_it_was e) = ap (λ (x : Declaration). x.stage) e ∙ h.known
    by (now_known m s) = s

-- a pattern's variables, behind it
pub pattern_known : (i j : ℕ) (s : Spot) (k : ℕ) → Counted s → i ≤ k → k < j → j ≤ s.declared → KnownAt (known_from i j s) k
pattern_known i j s k c l u w = record { earlier = omega (arith, u, w); known = by (there_is s.variables k (omega (arith, c, u, w))) }
  where
    by : (x : Declaration) × (slice_get s.variables k ≡ Some x) → (declared_at (known_from i j s) k).stage ≡ Stage.Known
    by z = ap (λ (x : Declaration). x.stage) (read_at _ k not_declared (as_known z.0) (becomes_known i j k s.variables (l, u) ∙ ap (option_map as_known) z.1))
