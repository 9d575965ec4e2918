-- What is done with what the call hands out, and with its tail.
use Rattle.std.proofs.Common.{if◌then◌else◌, ◌≡◌, ◌≤◌, ◌<◌, ◌⊎◌, inl, inr, ℕ, suc, Bool, true, false, ◌&&◌, List, [], ◌∷◌, length, map, Some, None, Option, refl, sym, ap, ◌∙◌, subst, arith}
use Rattle.rx_core.specs.declared.types.Kind.{Kind}
use Rattle.rx_core.specs.declared.types.Span.{Span}
use Rattle.rx_resolve_names.specs.Meant.{number}
use Rattle.rx_typed.specs.declared.nodes.Node.{Node}
use Rattle.rx_typed.specs.declared.nodes.Site.{Site}
use Rattle.rx_typed.specs.declared.nodes.Use.{Use}
use Rattle.rx_typed.specs.Types.{shapes_listed, shapes_of, tuple_of, Shapes, Typ}
use Rattle.rx_typed.specs.Elaborated.{Assigned}
use Rattle.rx_typed.specs.Named as named
use Rattle.rx_typed.specs.Named.{never, node_of, Exp, Patterns, Statement, Statements}
use Rattle.rx_hoist_extraction.specs.Plan.{has_enum, has_exit, is_unit, outs_of, to_next, Variable}
use Rattle.rx_hoist_extraction.specs.Names.{Names}
use Rattle.rx_hoist_extraction.specs.Values.{held_by, next_values, result_of, types_of, values_at, variables_held, Value}
use Rattle.rx_typeck_solver.specs.Facts.{Assignment, KnownItems}
use Rattle.rx_typeck_typed.specs.Asking.{expected, type_of}
use Rattle.rx_exits_plan.specs.Asked.{Asked}
use Rattle.rx_exits_plan.specs.Plan.{Plan}
use Rattle.rx_modes_policy.specs.declared.uses.Mode.{Mode}
use Rattle.rx_engine_names.specs.Renaming.{Renaming as Pairing}
use Rattle.rx_engine_names.specs.HandedOut.{received_mutable, AreBound, AreHanded, ArePutBack, AreRedeclared, Handing, IsWhole}
use Rattle.rx_engine_names.specs.HandedOut.IsDone.{is_done}
use Rattle.rx_engine_names.specs.HandedOut.IsWhole.{call_alone, call_matched}
use Rattle.rx_engine_names.specs.Calls.IsCall.{is_call}
use Rattle.rx_engine_names.specs.HandedOut.AreHanded.{done_alone, one_assigned, one_bound, several_bound}
use Rattle.rx_engine_names.specs.HandedOut.AreRedeclared.{more_redeclared, none_redeclared}
use Rattle.rx_engine_blocks.specs.Renumbering.{shape_at, shapes_at, Renumbering}
use Rattle.rx_engine_typing.specs.Corresponding.{given_types}
use Rattle.rx_engine_holes.specs.Run.{append}
use Rattle.rx_engine_holes.specs.Entries.{Context, Entries, Has}
use Rattle.rx_engine_holes.specs.CallFits.{JumpFits, StatementFits, StatementsFit}
use Rattle.rx_engine_holes.specs.CallFits.StatementFits.{assigned as fits_assigned, bound as fits_bound, done as fits_done, given as fits_given, given_within as fits_given_within, jumps as fits_jumps, several_bound as fits_several}
use Rattle.rx_engine_holes.specs.CallFits.StatementsFit.{a_statement}
use Rattle.rx_typed.specs.Naming.{has_no_type}
use Rattle.rx_engine_changed.specs.Spots.{after, known_from, NumberedExp, NumberedPattern, NumberedStatement, NumberedStatements, Spot}
use Rattle.rx_engine_changed.specs.HandedTypes.{handed_type, ItemsDeclare, NextAgrees}
use Rattle.rx_engine_simulation.specs.Sights.{How, In, IsNew, Renaming, sight_of}
use Rattle.rx_engine_simulation.specs.Jumps.{Jumping}
use Rattle.rx_engine_simulation.specs.Packing.{AreNew}
use Rattle.rx_engine_made_trees.specs.Handing.{BindsAll, DeclaresAll, HandsOver}
use Rattle.rx_engine_made_trees.specs.Handing.HandsOver.{gives_nothing, one_declared, several}
use Rattle.rx_engine_made_trees.specs.Handing.HandsOver.{one_assigned as hands_assigned}
use Rattle.rx_engine_made_trees.specs.Handing.DeclaresAll.{declares_and, declares_none}
use Rattle.rx_engine_made_trees.specs.Seen.{SameLength}
use Rattle.rx_engine_made_trees.specs.Seen.SameLength.{both_end, both_more}
use Rattle.rx_engine_made_calls.specs.Plans.{GoesBack, OutIs, PlansAgree, Rows}
use Rattle.rx_engine_made_calls.specs.Plans.OutIs.{goes_back, stays}
use Rattle.rx_engine_made_calls.specs.Plans.Rows.{more_rows, no_rows}
use Rattle.rx_engine_made_calls.specs.Contexts.{Tells}
use Rattle.rx_engine_made_calls.proofs.Telling.{clash, has_first, held_length, tells_more}
use Rattle.rx_engine_made_calls.proofs.Rising.{declares_one, exp_rises, pattern_rises, statement_rises, statements_rise, waits}
use Rattle.rx_engine_made_calls.proofs.Types as types
use Rattle.rx_engine_made_calls.proofs.Types.{binds_all, from}
use Rattle.rx_engine_made_calls.proofs.Assigning.{assigned_there, assigned_type, assigning_so, put_back_all, Assigning}
use Rattle.rx_engine_made_calls.proofs.Arms.{bound_so, Bound}
use Rattle.rx_engine_made_calls.proofs.Whole.{whole_so, whole_type, Stands, WholeSo}

listed_there : (q : Renumbering) (ts : List Typ) → shapes_listed (shapes_at q (shapes_of ts)) ≡ map (shape_at q) ts
listed_there q [] = refl
listed_there q (t ∷ ts) = ap (λ (us : List Typ). shape_at q t ∷ us) (listed_there q ts)

pub received_many : (own : Names) (hs : List Value) → length (received_mutable own hs) ≡ length hs
received_many own [] = refl
received_many own (result_of t ∷ hs) = ap suc (received_many own hs)
received_many own (held_by v ∷ hs) = ap suc (received_many own hs)

tuple_same : (ts us : Shapes Kind) → ◌≡◌ {A = Typ} (tuple_of ts) (tuple_of us) → ts ≡ us
tuple_same ts us e = cc

pub same_length : (xs ys : List ℕ) → length xs ≡ length ys → SameLength xs ys
same_length [] [] e = both_end
same_length [] (y ∷ ys) e = absurd (omega (arith, e))
same_length (x ∷ xs) [] e = absurd (omega (arith, e))
same_length (x ∷ xs) (y ∷ ys) e = both_more (same_length xs ys (omega (arith, e)))

-- ---- variables that are declared again

pub record Redeclaring (R : Renaming) (many : ℕ) (p : Spot) (y : Statements) : Type 0 where
  pub numbers : List ℕ
  pub declares : DeclaresAll numbers y
  pub as_many : length numbers ≡ many
  pub new : AreNew R numbers
  pub later : (n : ℕ) → In n numbers → p.declared ≤ n

in_both : (d : ℕ) (p q : Spot) (xs : List ℕ) → ((n : ℕ) → In n xs → q.declared ≤ n) → p.declared ≤ q.declared → d ≡ p.declared → (n : ℕ) → In n (d ∷ xs) → p.declared ≤ n
in_both d p q xs l up at n (inl e) = omega (arith, e, at)
in_both d p q xs l up at n (inr i) = let k = l n i in omega (arith, k, up)

pub redeclaring_so : {s : Span} {N : Pairing} (R : Renaming) {d : ℕ} {vs : List Variable} {y : Statements} (p r : Spot) → AreRedeclared s N d vs y → NumberedStatements p y r → ((n : ℕ) → p.declared ≤ n → IsNew R n) → Redeclaring R (length vs) p y
redeclaring_so R p r none_redeclared h fresh = record { numbers = []; declares = declares_none; as_many = refl; new = tt; later = λ n i. absurd i }
redeclaring_so R {d = d} p r (more_redeclared {v = v} {n = ln} {p = pn} {w = w} a b says rest) h fresh =
    let at : d ≡ p.declared = h.1.2.1 in
    let up = declares_one ln pn d v.mutable (Some w) p h.0 h.1 in
    let x = redeclaring_so R h.0 r rest h.2 (λ n l. fresh n (omega (arith, l, up))) in record {
      numbers = d ∷ x.numbers;
      declares = declares_and x.declares;
      as_many = ap suc x.as_many;
      new = (fresh d (omega (arith, at)), λ i. (let l = x.later d i in absurd (omega (arith, l, at, up))), x.new);
      later = in_both d p h.0 x.numbers x.later (omega (arith, up)) at;
    }

module _ (E : KnownItems) (f : ℕ) (q : Renumbering) (G : Handing) (N : Pairing) (W : Assignment) (items : ItemsDeclare E q G f) (agrees : NextAgrees G) (A : Asked) (muts : List Bool) (k : Plan) (modes : List Mode) (again : Bool) (J : Jumping) (R : Renaming) (cold : List ℕ) (hows : List How) (has : Bool)
    (plans : PlansAgree E q G N W A muts k modes again J R cold hows has) where
  abbrev T : Assigned
  T = given_types E W

  abbrev unit : Bool
  unit = is_unit G.call.plan.result

  abbrev next : List Value
  next = next_values G.call.plan

  abbrev Given : Typ
  Given = shape_at q (handed_type next)

  abbrev Whole : Exp → Type 0
  Whole = IsWhole G N (has_enum G.call.plan.exits)

  abbrev So : Exp → Type 0
  So e = WholeSo E f q G N W items agrees A muts k modes again J R cold hows has plans e

  abbrev IsOut : Variable → ℕ → Type 0
  IsOut v x = OutIs G N q W A muts k R v x

  abbrev Fresh : Spot → Type 0
  Fresh p = (n : ℕ) → p.declared ≤ n → IsNew R n

  abbrev Few : Spot → Type 0
  Few s = (n : ℕ) → n < s.declared → number n ≡ n

  -- what is handed out at the run's end is so where the end is an exit
  pub next_is : (h : Value) (hs : List Value) → next ≡ h ∷ hs → has_exit to_next G.call.plan.exits ≡ true
  next_is h hs e = by (has_exit to_next G.call.plan.exits) refl
    where
      no_values : ◌≡◌ {A = List Value} [] (h ∷ hs) → ⊥
      no_values i = cc

      by : (b : Bool) → has_exit to_next G.call.plan.exits ≡ b → b ≡ true
      by true i = refl
      by false i = absurd (no_values (sym (ap (λ (b : Bool). if b then values_at G.call.plan to_next (outs_of to_next G.call.plan.exits) else []) i) ∙ e))

  whole_jumps_not : {b : Bool} {e : Exp} {B : Context} {u : Typ} {a : Entries} → IsWhole G N b e → JumpFits E f B e u a → ⊥
  whole_jumps_not (call_alone (is_call i is)) fits = elim fits [ ]
  whole_jumps_not (call_matched i w rows) fits = elim fits [ ]

  whole_assigns_not : {b : Bool} {n : Node} {p e : Exp} → IsWhole G N b (named.assign n p e) → ⊥
  whole_assigns_not (call_alone c) = elim c [ ]

  whole_gives_not : {b : Bool} {n p : Node} {x : Use} {d : Option ℕ} {e : Exp} → IsWhole G N b (named.gives n p x d e) → ⊥
  whole_gives_not (call_alone c) = elim c [ ]

  -- `xs` are handed out; other statements are behind
  pub record HandedSo (Q : Statements → Type 0) (xs : List ℕ) (p s : Spot) (y : Statements) : Type 0 where
    pub e : Exp
    pub whole : So e
    pub received : List ℕ
    pub first : Statements
    pub rest : Statements
    pub is : y ≡ append first rest
    pub hands : HandsOver T A muts k R e xs received first
    pub such : Q rest
    pub middle : Spot
    pub later : p.declared ≤ middle.declared
    pub numbered : NumberedStatements middle rest s
    pub new : AreNew R received
    pub below : (n : ℕ) → In n received → n < middle.declared

  -- one statement, in which nothing is received
  one_handed : {Q : Statements → Type 0} {xs : List ℕ} (p r s : Spot) {e : Exp} {a : Statement} {ss : Statements} → So e → HandsOver T A muts k R e xs [] (named.statement_and a named.no_statement) → NumberedStatement p a r → Q ss → NumberedStatements r ss s
      → HandedSo Q xs p s (named.statement_and a ss)
  one_handed p r s {e} {a} {ss} w hands num such rest = record {
    e = e;
    whole = w;
    received = [];
    first = named.statement_and a named.no_statement;
    rest = ss;
    is = refl;
    hands = hands;
    such = such;
    middle = r;
    later = statement_rises a p r num;
    numbered = rest;
    new = tt;
    below = λ n i. absurd i;
  }

  done_handed : {Q : Statements → Type 0} (p r s : Spot) {n : Node} {e : Exp} {ss : Statements} {B : Context} {c : Entries} → Whole e → StatementFits E f B (named.evaluates n e true) c → Has W c → Tells W B → NumberedStatement p (named.evaluates n e true) r → Fresh p → Few r → Q ss → NumberedStatements r ss s
      → HandedSo Q [] p s (named.statement_and (named.evaluates n e true) ss)
  done_handed p r s w (fits_done fits at) h tells num fresh few such rest =
      one_handed p r s (whole_so E f q G N W items agrees A muts k modes again J R cold hows has plans (has_enum G.call.plan.exits) refl Site.Value w fits h tells at tt (after p) Site.Value r num.1 fresh few) gives_nothing num such rest
  done_handed p r s w (fits_jumps fits at) h tells num fresh few such rest = absurd (whole_jumps_not w fits)
  done_handed p r s w (fits_assigned b known k o fits at coerces) h tells num fresh few such rest = absurd (whole_assigns_not w)
  done_handed p r s w (fits_given b known k fits at live) h tells num fresh few such rest = absurd (whole_gives_not w)
  done_handed p r s w (fits_given_within b known k fits at) h tells num fresh few such rest = absurd (whole_gives_not w)

  stands_so : (s : Site) (n : Node) (u : Typ) → (s ≡ Site.Expects) ⊎ (s ≡ Site.Reborrows) → W (expected n) ≡ u → u ≡ Given → Stands E f q G N W items agrees A muts k modes again J R cold hows has plans s n u
  stands_so s n u (inl i) e g = subst (λ (s : Site). Stands E f q G N W items agrees A muts k modes again J R cold hows has plans s n u) (sym i) (e, g)
  stands_so s n u (inr i) e g = subst (λ (s : Site). Stands E f q G N W items agrees A muts k modes again J R cold hows has plans s n u) (sym i) (e, g)

  -- one value
  assigned_handed : {Q : Statements → Type 0} {v : Variable} {x : ℕ} (p r s : Spot) {a : Statement} {ss : Statements} → GoesBack G N q W A muts k R v x → (z : Assigning E f q G N W Whole v.name p r a) → shape_at q v.typ ≡ Given → NumberedStatement p a r → Fresh p → Few r → Q ss → NumberedStatements r ss s
      → HandedSo Q (x ∷ []) p s (named.statement_and a ss)
  assigned_handed p r s b z same num fresh few such rest =
      one_handed p r s (whole_so E f q G N W items agrees A muts k modes again J R cold hows has plans (has_enum G.call.plan.exits) refl z.site z.such z.fits z.has z.tells z.at
      (stands_so z.site (node_of z.value) z.want z.either z.expects (assigned_type E f q G N W A muts k R b z ∙ same)) z.first z.site z.behind z.numbered (λ n l. fresh n (let a = z.later in omega (arith, a, l))) (λ n l. few n (let a = z.before in omega (arith, a, l))))
      (hands_assigned (assigned_there E f q G N W A muts k R b z) b.assigned z.assigning) num such rest

  -- behind a pattern and its value
  record LetSo (p r : Spot) (x : named.Pattern) (e : Exp) : Type 0 where
    first : Spot
    between : Spot
    last : Spot
    pattern : NumberedPattern (after p) x first
    value : NumberedExp between Site.Scrutinee e last
    up : first.declared ≤ between.declared
    later : between.declared ≤ last.declared
    behind : last.declared ≤ r.declared

  let_so : (n : Node) (x : named.Pattern) (e : Exp) (p r : Spot) → NumberedStatement p (named.lets n x None e) r → LetSo p r x e
  let_so n x e p r num = record {
    first = num.1;
    between = num.3;
    last = num.5;
    pattern = num.2;
    value = num.6;
    up = (let i = ap (λ (z : Spot). z.declared) num.4 in omega (arith, i));
    later = exp_rises e num.3 _ num.5 num.6;
    behind = (let i = ap (λ (z : Spot). z.declared) num.7 in let j = waits (has_no_type None && never e) x (known_from p.declared num.1.declared num.5) in omega (arith, i, j));
  }

  bound_handed : {Q : Statements → Type 0} {x d : ℕ} (p r s : Spot) {n b : Node} {m : Bool} {e : Exp} {ss : Statements} {B : Context} {c : Entries} → sight_of R x ≡ None → Whole e → StatementFits E f B (named.lets n (named.bind b d m) None e) c → Has W c → Tells W B
      → NumberedStatement p (named.lets n (named.bind b d m) None e) r → Fresh p → Few r → Q ss → NumberedStatements r ss s → HandedSo Q (x ∷ []) p s (named.statement_and (named.lets n (named.bind b d m) None e) ss)
  bound_handed {d = d} p r s {n = n} {b = b} {m = m} {e = e} none w (fits_bound fits at place live limits) h tells num fresh few such rest =
      let z = let_so n (named.bind b d m) e p r num in let at_d : d ≡ p.declared = z.pattern.1 in let next = ap (λ (z : Spot). z.declared) z.pattern.2 in let u = z.up in let l = z.later in let t = z.behind in
      let o = whole_so E f q G N W items agrees A muts k modes again J R cold hows has plans (has_enum G.call.plan.exits) refl Site.Scrutinee w fits h.1.1 tells at tt z.between Site.Scrutinee z.last z.value
      (λ n i. fresh n (omega (arith, i, next, u))) (λ n i. few n (omega (arith, i, t))) in record {
        e = e;
        whole = o;
        received = d ∷ [];
        first = named.statement_and (named.lets n (named.bind b d m) None e) named.no_statement;
        rest = _;
        is = refl;
        hands = one_declared none o.no_place;
        such = such;
        middle = r;
        later = (omega (arith, next, u, l, t));
        numbered = rest;
        new = (fresh d (omega (arith, at_d)), λ i. i, tt);
        below = λ n i. one_below n i (omega (arith, at_d, next, u, l, t));
      }
    where
      one_below : {d m : ℕ} (n : ℕ) → In n (d ∷ []) → d < m → n < m
      one_below n (inl i) l = omega (arith, i, l)
      one_below n (inr i) l = absurd i

  one_value : {Q : Statements → Type 0} {v : Variable} {x d : ℕ} (p s : Spot) {y : Statements} {B : Context} {c : Entries} → IsOut v x → AreHanded G N Whole Q d (held_by v ∷ []) y → shape_at q v.typ ≡ Given → StatementsFit E f B y c → Has W c → Tells W B → NumberedStatements p y s → Fresh p → Few s
      → HandedSo Q (x ∷ []) p s y
  one_value p s (stays i none) (one_bound own a b w such) same (a_statement {a = a2} {b = b2} y z) h tells num fresh few =
      let up = statements_rise _ num.0 s num.2 in bound_handed p num.0 s none w y (has_first W a2 b2 h).0 tells num.1 fresh (λ n l. few n (omega (arith, l, up))) such num.2
  one_value p s (goes_back i b) (one_assigned own a such) same (a_statement {a = a2} {b = b2} y z) h tells num fresh few =
      let up = statements_rise _ num.0 s num.2 in assigned_handed p num.0 s b (assigning_so E f q G N W p num.0 a y (has_first W a2 b2 h).0 tells num.1) same num.1 fresh (λ n l. few n (omega (arith, l, up))) such num.2
  one_value p s (goes_back i b) (one_bound own a c w such) same fits h tells num fresh few = absurd (clash i own)
  one_value p s (stays i none) (one_assigned own a such) same fits h tells num fresh few = absurd (clash own i)

  -- several values, in a tuple
  pub record SeveralSo (d : ℕ) (hs : List Value) (n b : Node) (ps : Patterns) (e : Exp) (p r : Spot) : Type 0 where
    pub whole : So e
    pub bound : Bound E f q G N W items A muts k R J has d hs p r
    pub shapes : Shapes Kind
    pub typed : W (type_of b) ≡ tuple_of shapes

  pub several_so : {s0 : Span} {d : ℕ} {ms : List Bool} (hs : List Value) (p r : Spot) {n b : Node} {ps : Patterns} {e : Exp} {B : Context} {c : Entries} → AreBound s0 d ms ps → length ms ≡ length hs → shape_at q (handed_type hs) ≡ Given → handed_type hs ≡ tuple_of (shapes_of (types_of hs)) → has_exit to_next G.call.plan.exits ≡ true → Whole e
      → StatementFits E f B (named.lets n (named.tuple_pattern b ps) None e) c → Has W c → Tells W B → NumberedStatement p (named.lets n (named.tuple_pattern b ps) None e) r → Fresh p → Few r → SeveralSo d hs n b ps e (after (after p)) r
  several_so hs p r {n = n} {b = b} {ps = ps} {e = e} bs many same tuple_is there w (fits_several {ts = ts} {a = a} {b = c} fits at place live limits parts) h tells num fresh few =
      let z = let_so n (named.tuple_pattern b ps) e p r num in let u = z.up in let l = z.later in let t = z.behind in let ph = pattern_rises (named.tuple_pattern b ps) (after p) z.first z.pattern in
      let h1 = has_first W c a h.1 in
      let f1 : Fresh z.between = (λ n i. fresh n (omega (arith, i, u, ph))) in
      let f2 : Few z.last = (λ n i. few n (omega (arith, i, t))) in
      let o = whole_so E f q G N W items agrees A muts k modes again J R cold hows has plans (has_enum G.call.plan.exits) refl Site.Scrutinee w fits h1.1 tells at tt z.between Site.Scrutinee z.last z.value f1 f2 in
      let y = whole_type E f q G N W items agrees A muts k modes again J R cold hows has plans (has_enum G.call.plan.exits) refl Site.Scrutinee w fits h1.1 tells at (λ i. cc) there z.between Site.Scrutinee z.last z.value f1 f2 in
      let listed = ap shapes_listed (tuple_same ts _ (y ∙ (sym same ∙ ap (shape_at q) tuple_is))) ∙ listed_there q (types_of hs) in
      let bound = bound_so E f q G N W items A muts k R J has hs (after (after p)) z.first bs parts h1.0 many listed z.pattern.1 fresh (λ n i. few n (omega (arith, i, u, l, t))) in
      record { whole = o; bound = record { new = bound.new; row = bound.row; few = bound.few; below = λ n i. (let j = bound.below n i in omega (arith, j, u, l, t)) }; shapes = ts; typed = h.0 }

  -- what is put back from them
  several_handed : {Q : Statements → Type 0} {x x2 d : ℕ} {xs : List ℕ} {v v2 : Variable} {vs : List Variable} (p r s : Spot) {n b : Node} {ps : Patterns} {e : Exp} {ss : Statements} {B : Context} {c : Entries} → BindsAll (from d (length (v ∷ v2 ∷ vs))) ps
      → SeveralSo d (variables_held (v ∷ v2 ∷ vs)) n b ps e (after (after p)) r → NumberedStatement p (named.lets n (named.tuple_pattern b ps) None e) r → Rows IsOut (v ∷ v2 ∷ vs) (x ∷ x2 ∷ xs) → ArePutBack G N Q d (variables_held (v ∷ v2 ∷ vs)) ss → StatementsFit E f B ss c → Has W c → Tells W B
      → NumberedStatements r ss s → HandedSo Q (x ∷ x2 ∷ xs) p s (named.statement_and (named.lets n (named.tuple_pattern b ps) None e) ss)
  several_handed {d = d} {v = v} {v2 = v2} {vs = vs} p r s {n = n} {b = b} {ps = ps} {e = e} binds z num rows put fits h tells nums =
      let many = held_length (v ∷ v2 ∷ vs) in
      let o = put_back_all E f q G N W A muts k R r s rows put fits h tells z.bound.row (subst (λ (j : ℕ). types.Few d j) many z.bound.few) nums in
      let up = statement_rises (named.lets n (named.tuple_pattern b ps) None e) p r num in record {
        e = e;
        whole = z.whole;
        received = from d (length (v ∷ v2 ∷ vs));
        first = named.statement_and (named.lets n (named.tuple_pattern b ps) None e) o.front;
        rest = o.rest;
        is = ap (named.statement_and (named.lets n (named.tuple_pattern b ps) None e)) o.is;
        hands = several z.typed z.whole.no_place binds o.back;
        such = o.such;
        middle = o.first;
        later = (let l = o.later in omega (arith, l, up));
        numbered = o.numbered;
        new = subst (λ (j : ℕ). AreNew R (from d j)) many z.bound.new;
        below = λ m i. (let l = o.later in let j = z.bound.below m (subst (λ (j : ℕ). In m (from d j)) (sym many) i) in omega (arith, j, l));
      }

  pub handed_so : {Q : Statements → Type 0} {d : ℕ} (vs : List Variable) (xs : List ℕ) (p s : Spot) {y : Statements} {B : Context} {c : Entries} → variables_held vs ≡ next → Rows IsOut vs xs → AreHanded G N Whole Q d (variables_held vs) y → StatementsFit E f B y c → Has W c → Tells W B → NumberedStatements p y s
      → Fresh p → Few s → HandedSo Q xs p s y
  handed_so [] xs p s same no_rows (done_alone (is_done i w) such) (a_statement {a = a} {b = b} y z) h tells num fresh few =
      let up = statements_rise _ num.0 s num.2 in done_handed p num.0 s w y (has_first W a b h).0 tells num.1 fresh (λ n l. few n (omega (arith, l, up))) such num.2
  handed_so (v ∷ []) xs p s same (more_rows o no_rows) a fits h tells num fresh few = one_value p s o a (ap (λ (hs : List Value). shape_at q (handed_type hs)) same) fits h tells num fresh few
  handed_so {d = d} (v ∷ v2 ∷ vs) xs p s same (more_rows o (more_rows o2 rows)) (several_bound {n = n} {p = b} {ps = ps} {e = e} i j bs w put) (a_statement {a = a2} {b = b2} y z) h tells num fresh few =
      let up = statements_rise _ num.0 s num.2 in let h1 = has_first W a2 b2 h in let hs = variables_held (v ∷ v2 ∷ vs) in let many = received_many G.own hs in
      let g = several_so hs p num.0 bs many (ap (λ (hs : List Value). shape_at q (handed_type hs)) same) refl (next_is (held_by v) (held_by v2 ∷ variables_held vs) (sym same)) w y h1.0 tells num.1 fresh (λ n l. few n (omega (arith, l, up))) in
      several_handed p num.0 s (subst (λ (j : ℕ). BindsAll (from d j) ps) (many ∙ held_length (v ∷ v2 ∷ vs)) (binds_all bs)) g num.1 (more_rows o (more_rows o2 rows)) put z h1.1 (tells_more W _ a2 tells h1.0) num.2
