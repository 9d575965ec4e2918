-- What the rules ask of code that is made is about its nodes and variables, and of no literal: by induction on the code.
use Rattle.std.proofs.Common.{◌≡◌, ℕ, suc, Bool, true, false, List, [], ◌∷◌, Option, Some, None, if◌then◌else◌, ◌++◌}
use Rattle.rx_typed.specs.declared.nodes.Node.{Node}
use Rattle.rx_typed.specs.declared.nodes.Site.{Site}
use Rattle.rx_typed.specs.Named as named
use Rattle.rx_typed.specs.Named.{Written, Pattern, Exp, Exps, Else, Arms, Body, Statement, Statements, Parameter, written_node, pattern_node, node_of, body_node, whole_binding, never, body_never, tail_never, some_diverges}
use Rattle.rx_typeck_solver.specs.declared.facts.Subject.{Subject}
use Rattle.rx_typeck_solver.specs.declared.facts.Demand.{Demand}
use Rattle.rx_typeck_solver.specs.Valid.{IsIn, literals_of}
use Rattle.rx_typeck_typed.specs.Asking.{type_of}
use Rattle.rx_typeck_typed.specs.Demands as rules
use Rattle.rx_typeck_typed.specs.Demands.{Matched, a_value, a_place, an_initialiser, Listed, members, values, parameters, parts_of}
use Rattle.rx_engine_blocks.specs.Parts.{EachOf, AllAbout, EachAbout}
use Rattle.rx_engine_blocks.specs.Made.{AtNode, MadeOptionalType, MadePattern, MadeExp, MadeExps, MadeElse, MadeArms, MadeBody, MadeStatement, MadeStatements, MadeParameters}
use Rattle.rx_engine_blocks.proofs.MadeRules.{Keeps, asks_keep, nothing_keeps, type_node, limits_keep, whole_type_keeps, never_keeps, place_keeps, own_keeps, expects_keep, named_keeps, borrowed_keeps, MadeMatched, whole_keeps, join_keeps, before_keeps, after_keeps, unit_keeps, not_never_keeps, given_keeps, one_variable_keeps}

module _ (P : Subject → Type 0) (Q : List Demand → Type 0) (asked : (d : Demand) → AllAbout P d.facts → d.unsuffixed ≡ false → (ds : List Demand) → Q ds → Q (ds ++ d ∷ [])) where
  -- the node of an expression
  pub exp_at : (e : Exp) → MadeExp P e → AtNode P (node_of e)
  exp_at (named.var n x) h = h.0
  exp_at (named.borrow n m (named.var k x)) h = h.0
  exp_at (named.tuple n es) h = h.0
  exp_at (named.call n g es) h = h.0
  exp_at (named.variant n i v es) h = h.0
  exp_at (named.assign n (named.var k x) e) h = h.0
  exp_at (named.gives n p x d e) h = h.0
  exp_at (named.block n b) h = h.0
  exp_at (named.match n e l) h = h.0
  exp_at (named.return n o) h = h.0
  exp_at (named.break n l) h = h
  exp_at (named.continue n l) h = h
  exp_at _ h = absurd h

  body_at : (b : Body) → MadeBody P b → AtNode P (body_node b)
  body_at (named.body n ss o) h = h.0

  exps_at : (es : Exps) → MadeExps P es → EachOf P (rules.exp_nodes es)
  exps_at named.no_exp h = tt
  exps_at (named.exp_and e es) h = ((exp_at e h.0).0, exps_at es h.1)

  -- what is matched
  place_matched : (t : Site) (n : Node) (x : ℕ) → AtNode P n → MadeMatched P Q asked (rules.matched_in t n x [])
  place_matched Site.Initialises n x h = (h, tt)
  place_matched Site.Value n x h = tt
  place_matched Site.Place n x h = tt
  place_matched Site.Scrutinee n x h = tt
  place_matched Site.Expects n x h = tt
  place_matched Site.Reborrows n x h = tt

  exp_matched : (e : Exp) → MadeExp P e → MadeMatched P Q asked (rules.matched e)
  exp_matched (named.var n x) h = place_matched n.site n x.number h.0
  exp_matched (named.borrow n m (named.var k x)) h = tt
  exp_matched (named.tuple n es) h = tt
  exp_matched (named.call n g es) h = tt
  exp_matched (named.variant n i v es) h = tt
  exp_matched (named.assign n (named.var k x) e) h = tt
  exp_matched (named.gives n p x d e) h = tt
  exp_matched (named.block n b) h = tt
  exp_matched (named.match n e l) h = tt
  exp_matched (named.return n o) h = tt
  exp_matched (named.break n l) h = tt
  exp_matched (named.continue n l) h = tt
  exp_matched _ h = absurd h

  -- ---- rules of lists, tails and statements

  each_before_keeps : (w : Listed) (k : ℕ) (n : Node) → AtNode P n → Keeps P Q asked (rules.each_before w k n)
  each_before_keeps members k n h = nothing_keeps P Q asked
  each_before_keeps values k n h = nothing_keeps P Q asked
  each_before_keeps (parameters g) k n h = expects_keep P Q asked n _ _ h tt
  each_before_keeps (parts_of i v) k n h = expects_keep P Q asked n _ _ h tt

  each_after_keeps : (w : Listed) (e : Exp) → Keeps P Q asked (rules.each_after w e)
  each_after_keeps members e = not_never_keeps P Q asked (node_of e) (never e)
  each_after_keeps values e = nothing_keeps P Q asked
  each_after_keeps (parameters g) e = nothing_keeps P Q asked
  each_after_keeps (parts_of i v) e = nothing_keeps P Q asked

  pub returns_keep : (f : ℕ) (n : Node) (o : Else) → MadeElse P o → Keeps P Q asked (rules.returns_unit f n o)
  returns_keep f n named.absent h = asks_keep P Q asked n _ _ ((tt, tt, tt), tt)
  returns_keep f n (named.present e) h = expects_keep P Q asked (node_of e) _ _ (exp_at e h) tt

  tail_before_keeps : (n : Node) (o : Else) → AtNode P n → MadeElse P o → Keeps P Q asked (rules.tail_before n o)
  tail_before_keeps n named.absent k h = nothing_keeps P Q asked
  tail_before_keeps n (named.present e) k h = before_keeps P Q asked n n.site (node_of e) k (exp_at e h)

  tail_after_keeps : (n : Node) (d : Bool) (o : Else) → AtNode P n → MadeElse P o → Keeps P Q asked (rules.tail_after n d o)
  tail_after_keeps n d named.absent k h = unit_keeps P Q asked n d k
  tail_after_keeps n d (named.present e) k h = after_keeps P Q asked n n.site (never e) (node_of e) k (exp_at e h)

  declared_keeps : (p : Pattern) (t : Option Written) → MadePattern P p → MadeOptionalType P t → Keeps P Q asked (rules.declared p t)
  declared_keeps p None h k ds m = one_variable_keeps P Q asked (pattern_node p) (whole_binding p) ds m
  declared_keeps p (Some t) h k ds m = whole_keeps P Q asked a_value (type_of (written_node t)) p tt (type_node P Q asked t k).0 h _ (whole_type_keeps P Q asked t k ds m)

  typed_before_keeps : (t : Option Written) (e : Exp) → MadeOptionalType P t → MadeExp P e → Keeps P Q asked (rules.typed_before t e)
  typed_before_keeps None e k h ds m = m
  typed_before_keeps (Some t) e k h ds m = expects_keep P Q asked (node_of e) _ _ (exp_at e h) ((type_node P Q asked t k).0, tt) _ (whole_type_keeps P Q asked t k ds m)

  initialised_by_keeps : (v : Bool) (p : Pattern) (s : Matched) (n : Node) → MadePattern P p → MadeMatched P Q asked s → AtNode P n → Keeps P Q asked (rules.initialised_by v p s n)
  initialised_by_keeps true p s n h q k = one_variable_keeps P Q asked (pattern_node p) (whole_binding p)
  initialised_by_keeps false p s n h q k = whole_keeps P Q asked s (type_of n) p q k.0 h

  initialised_keeps : (p : Pattern) (t : Option Written) (e : Exp) → MadePattern P p → MadeOptionalType P t → MadeExp P e → Keeps P Q asked (rules.initialised p t e)
  initialised_keeps p None e h k g = initialised_by_keeps (never e) p (rules.matched e) (node_of e) h (exp_matched e g) (exp_at e g)
  initialised_keeps p (Some t) e h k g = whole_keeps P Q asked (rules.matched e) (type_of (written_node t)) p (exp_matched e g) (type_node P Q asked t k).0 h

  evaluated_keeps : (s : Bool) (n : Node) (v : Bool) → AtNode P n → Keeps P Q asked (rules.evaluated s n v)
  evaluated_keeps true n v h = nothing_keeps P Q asked
  evaluated_keeps false n v h = unit_keeps P Q asked n v h

  -- ---- code

  mutual
    pub exp_keeps : (f : ℕ) (e : Exp) → MadeExp P e → Keeps P Q asked (rules.of_exp f e)
    exp_keeps f (named.var n x) h ds m = place_keeps P Q asked n x.number n.site h.0 _ (named_keeps P Q asked n x x.known h.0 h.1 ds m)
    exp_keeps f (named.borrow n w (named.var k x)) h ds m = borrowed_keeps P Q asked n w k x h.0 h.1 _ (place_keeps P Q asked k x.number k.site h.1 _ (named_keeps P Q asked k x x.known h.1 h.2 ds m))
    exp_keeps f (named.tuple n es) h ds m = limits_keep P Q asked n h.0 _ (own_keeps P Q asked n _ _ h.0 (exps_at es h.1) _ (each_keeps f members 0 es h.1 ds m))
    exp_keeps f (named.call n g es) h ds m = own_keeps P Q asked n _ _ h.0 tt _ (each_keeps f (parameters g) 0 es h.1 _ (asks_keep P Q asked n _ _ ((tt, tt, tt), tt) ds m))
    exp_keeps f (named.variant n i v es) h ds m = own_keeps P Q asked n _ _ h.0 tt _ (each_keeps f (parts_of i v) 0 es h.1 _ (asks_keep P Q asked n _ _ ((tt, tt, tt), tt) ds m))
    exp_keeps f (named.assign n (named.var k x) e) h ds m = own_keeps P Q asked n _ _ h.0 tt _ (exp_keeps f e h.3 _ (expects_keep P Q asked (node_of e) _ _ (exp_at e h.3) (h.1.0, tt) _
        (place_keeps P Q asked k x.number k.site h.1 _ (named_keeps P Q asked k x x.known h.1 h.2 ds m))))
    exp_keeps f (named.gives n p x d e) h ds m = own_keeps P Q asked n _ _ h.0 tt _ (given_keeps P Q asked n p x d (node_of e) (never e) h.1 h.2 h.3 (exp_at e h.4) _ (exp_keeps f e h.4 ds m))
    exp_keeps f (named.block n b) h ds m = join_keeps P Q asked n (body_never b) h.0 _ (after_keeps P Q asked n n.site (body_never b) (body_node b) h.0 (body_at b h.1) _
        (body_keeps f b h.1 _ (before_keeps P Q asked n n.site (body_node b) h.0 (body_at b h.1) ds m)))
    exp_keeps f (named.match n e l) h ds m = join_keeps P Q asked n (named.all_never l) h.0 _ (arms_keep f n (rules.matched e) (node_of e) l h.0 (exp_matched e h.1) (exp_at e h.1) h.2 _
        (not_never_keeps P Q asked (node_of e) (never e) _ (exp_keeps f e h.1 ds m)))
    exp_keeps f (named.return n o) h ds m = never_keeps P Q asked n n.site _ (returned_keeps f o h.1 _ (returns_keep f n o h.1 ds m))
    exp_keeps f (named.break n l) h ds m = never_keeps P Q asked n n.site ds m
    exp_keeps f (named.continue n l) h ds m = never_keeps P Q asked n n.site ds m
    exp_keeps f _ h ds m = absurd h

    each_keeps : (f : ℕ) (w : Listed) (k : ℕ) (es : Exps) → MadeExps P es → Keeps P Q asked (rules.of_each f w k es)
    each_keeps f w k named.no_exp h ds m = m
    each_keeps f w k (named.exp_and e es) h ds m = each_keeps f w (suc k) es h.1 _ (each_after_keeps w e _ (exp_keeps f e h.0 _ (each_before_keeps w k (node_of e) (exp_at e h.0) ds m)))

    returned_keeps : (f : ℕ) (o : Else) → MadeElse P o → Keeps P Q asked (rules.of_returned f o)
    returned_keeps f named.absent h = nothing_keeps P Q asked
    returned_keeps f (named.present e) h = exp_keeps f e h

    arms_keep : (f : ℕ) (n : Node) (s : Matched) (k : Node) (l : Arms) → AtNode P n → MadeMatched P Q asked s → AtNode P k → MadeArms P l → Keeps P Q asked (rules.of_arms f n s k l)
    arms_keep f n s k named.no_arm g q j h ds m = m
    arms_keep f n s k (named.arm_and p e l) g q j h ds m = arms_keep f n s k l g q j h.2 _ (after_keeps P Q asked n n.site (never e) (node_of e) g (exp_at e h.1) _ (exp_keeps f e h.1 _
        (before_keeps P Q asked n n.site (node_of e) g (exp_at e h.1) _ (whole_keeps P Q asked s (type_of k) p q j.0 h.0 ds m))))

    pub body_keeps : (f : ℕ) (b : Body) → MadeBody P b → Keeps P Q asked (rules.of_body f b)
    body_keeps f (named.body n ss o) h ds m = join_keeps P Q asked n (body_never (named.body n ss o)) h.0 _ (tail_after_keeps n (some_diverges ss) o h.0 h.2 _ (returned_keeps f o h.2 _
        (tail_before_keeps n o h.0 h.2 _ (statements_keep f ss h.1 ds m))))

    pub statement_keeps : (f : ℕ) (a : Statement) → MadeStatement P a → Keeps P Q asked (rules.of_statement f a)
    statement_keeps f (named.declares n p t) h ds m = declared_keeps p t h.1 h.2 ds m
    statement_keeps f (named.lets n p t e) h ds m = initialised_keeps p t e h.1 h.2 h.3 _ (exp_keeps f e h.3 _ (typed_before_keeps t e h.2 h.3 ds m))
    statement_keeps f (named.evaluates n e s) h ds m = evaluated_keeps s (node_of e) (never e) (exp_at e h.1) _ (exp_keeps f e h.1 ds m)

    pub statements_keep : (f : ℕ) (ss : Statements) → MadeStatements P ss → Keeps P Q asked (rules.of_statements f ss)
    statements_keep f named.no_statement h ds m = m
    statements_keep f (named.statement_and a ss) h ds m = statements_keep f ss h.1 _ (statement_keeps f a h.0 ds m)

  pub parameters_keep : (xs : List Parameter) → MadeParameters P xs → Keeps P Q asked (rules.of_parameters xs)
  parameters_keep [] h ds m = m
  parameters_keep (x ∷ xs) h ds m = parameters_keep xs h.1 _ (asks_keep P Q asked (written_node x.typ) _ _ ((h.0.0, ((type_node P Q asked x.typ h.0.1).0, tt), tt), tt) _ (whole_type_keeps P Q asked x.typ h.0.1 ds m))

-- ---- about, and no literal

-- demands about what something holds of, none a literal's
abbrev pub EachMade : (Subject → Type 0) → List Demand → Type 0
EachMade P [] = Unit {0}
EachMade P (d ∷ ds) = (AllAbout P d.facts × (d.unsuffixed ≡ false)) × EachMade P ds

module _ (P : Subject → Type 0) where
  pub one_made : (d : Demand) → AllAbout P d.facts → d.unsuffixed ≡ false → (ds : List Demand) → EachMade P ds → EachMade P (ds ++ d ∷ [])
  one_made d a u [] h = ((a, u), tt)
  one_made d a u (e ∷ ds) h = (h.0, one_made d a u ds h.1)

  pub made_about : (ds : List Demand) → EachMade P ds → EachAbout P ds
  made_about [] h = tt
  made_about (d ∷ ds) h = (h.0.0, made_about ds h.1)

  pub no_literals : (ds : List Demand) → EachMade P ds → (n : ℕ) → IsIn n (literals_of ds) → ⊥
  no_literals [] h n i = i
  no_literals (d ∷ ds) h n i = go d.unsuffixed h.0.1 i (no_literals ds h.1 n)
    where
      go : (b : Bool) → b ≡ false → IsIn n (if b then d.node ∷ literals_of ds else literals_of ds) → (IsIn n (literals_of ds) → ⊥) → ⊥
      go true e k r = cc
      go false e k r = r k
