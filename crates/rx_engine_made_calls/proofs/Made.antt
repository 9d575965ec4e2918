-- What stands in place of a run, all together: with its block's tail or without.
use Rattle.std.proofs.Common.{if◌then◌else◌, ◌≡◌, ◌≤◌, ◌<◌, ℕ, suc, Bool, true, false, List, [], ◌∷◌, ◌++◌, length, Some, None, Option, refl, sym, ap, ◌∙◌, subst, arith}
use Rattle.rx_core.specs.declared.types.Span.{Span}
use Rattle.rx_resolve_names.specs.Meant.{number}
use Rattle.rx_typed.specs.declared.nodes.Node.{Node}
use Rattle.rx_typed.specs.declared.nodes.Site.{Site}
use Rattle.rx_typed.specs.Types.{Typ}
use Rattle.rx_typed.specs.Elaborated.{Assigned}
use Rattle.rx_typed.specs.Named as named
use Rattle.rx_typed.specs.Named.{node_of, Else, Exp, Patterns, Statements}
use Rattle.rx_hoist_extraction.specs.Plan as hoist
use Rattle.rx_hoist_extraction.specs.Plan.{has_enum, has_exit, is_unit, outs_of, to_next, Variable}
use Rattle.rx_hoist_extraction.specs.Values.{held_by, next_values, result_if_any, result_of, variables_held, Value}
use Rattle.rx_typeck_solver.specs.Facts.{Assignment, KnownItems}
use Rattle.rx_typeck_typed.specs.Asking.{expected}
use Rattle.rx_exits_plan.specs.Asked.{Asked}
use Rattle.rx_exits_plan.specs.Plan.{Plan}
use Rattle.rx_exits_plan.specs.Points.{next as to_end}
use Rattle.rx_modes_policy.specs.declared.uses.Mode.{Mode}
use Rattle.rx_engine_names.specs.Renaming.{Renaming as Pairing}
use Rattle.rx_engine_names.specs.HandedOut.{AreHanded, AreRedeclared, Handing, IsMade, IsTail, IsWhole}
use Rattle.rx_engine_names.specs.HandedOut.AreHanded.{is_tail, several_bound}
use Rattle.rx_engine_names.specs.HandedOut.AreRedeclared.{none_redeclared}
use Rattle.rx_engine_names.specs.HandedOut.ArePutBack.{result_stays}
use Rattle.rx_engine_names.specs.HandedOut.IsTail.{call_is_tail, first_is_tail, no_result, no_value}
use Rattle.rx_engine_blocks.specs.Renumbering.{shape_at, Renumbering}
use Rattle.rx_engine_typing.specs.Corresponding.{given_types}
use Rattle.rx_engine_holes.specs.Run.{append}
use Rattle.rx_engine_holes.specs.Entries.{Context, Entries, Has}
use Rattle.rx_engine_holes.specs.CallFits.{EndFits, Ends, StatementsFit}
use Rattle.rx_engine_holes.specs.CallFits.EndFits.{a_tail, no_tail}
use Rattle.rx_engine_holes.specs.CallFits.Ends.{at_coercion, at_reborrow, at_value}
use Rattle.rx_engine_holes.specs.CallFits.StatementsFit.{a_statement}
use Rattle.rx_engine_changed.specs.Spots.{NumberedElse, NumberedStatements, Spot}
use Rattle.rx_engine_changed.specs.HandedTypes.{handed_type, ItemsDeclare, NextAgrees}
use Rattle.rx_engine_simulation.specs.Sights.{How, IsNew, Renaming}
use Rattle.rx_engine_simulation.specs.Jumps.{Jumping}
use Rattle.rx_engine_simulation.specs.Packing.{AreNew}
use Rattle.rx_engine_made_trees.specs.Giving.{NamesVariable}
use Rattle.rx_engine_made_trees.specs.Handing.{BindsAll}
use Rattle.rx_engine_made_trees.specs.Tails.{HandsTail}
use Rattle.rx_engine_made_trees.specs.Tails.HandsTail.{gives_unit, gives_value, value_first}
use Rattle.rx_engine_made_calls.specs.Plans.{is_there, next_outs, OutIs, PlansAgree, Rows}
use Rattle.rx_engine_made_calls.specs.Plans.Rows.{more_rows, no_rows}
use Rattle.rx_engine_made_calls.specs.MadeCalls.{MadeCall, MadeTail, NewThere}
use Rattle.rx_engine_made_calls.specs.Contexts.{Tells}
use Rattle.rx_engine_made_calls.proofs.Telling.{has_first, held_length, tells_more}
use Rattle.rx_engine_made_calls.proofs.Rising.{else_rises, statements_rise}
use Rattle.rx_engine_made_calls.proofs.Types as types
use Rattle.rx_engine_made_calls.proofs.Types.{binds_all, from, made_names, made_type, made_variable, WantedAt}
use Rattle.rx_engine_made_calls.proofs.Assigning.{put_back_all, Put}
use Rattle.rx_engine_made_calls.proofs.Whole.{whole_so, whole_type, Stands}
use Rattle.rx_engine_made_calls.proofs.Handed.{handed_so, received_many, redeclaring_so, same_length, several_so, HandedSo, Redeclaring, SeveralSo}

-- without a value, variables alone are handed out
next_held : (p : hoist.Plan) → is_there p.value ≡ false → next_values p ≡ variables_held (next_outs p)
next_held p e = by p.value (has_exit to_next p.exits) e
  where
    by : (o : Option Typ) (b : Bool) → is_there o ≡ false → (if b then result_if_any o ++ variables_held (outs_of to_next p.exits) else []) ≡ variables_held (if b then outs_of to_next p.exits else [])
    by None true e = refl
    by None false e = refl
    by (Some t) b e = absurd (cc)

next_valued : (p : hoist.Plan) → is_there p.value ≡ true → has_exit to_next p.exits ≡ true → (t : Typ) × (p.value ≡ Some t) × (next_values p ≡ result_of t ∷ variables_held (next_outs p))
next_valued p e r = by p.value (has_exit to_next p.exits) e r
  where
    by : (o : Option Typ) (b : Bool) → is_there o ≡ true → b ≡ true → (t : Typ) × (o ≡ Some t) × ((if b then result_if_any o ++ variables_held (outs_of to_next p.exits) else []) ≡ result_of t ∷ variables_held (if b then outs_of to_next p.exits else []))
    by (Some t) true e r = (t, refl, refl)
    by (Some t) false e r = absurd (cc)
    by None b e r = absurd (cc)

module _ (E : KnownItems) (f : ℕ) (q : Renumbering) (G : Handing) (N : Pairing) (W : Assignment) (items : ItemsDeclare E q G f) (agrees : NextAgrees G) (A : Asked) (muts : List Bool) (k : Plan) (modes : List Mode) (again : Bool) (J : Jumping) (R : Renaming) (cold : List ℕ) (hows : List How) where
  abbrev T : Assigned
  T = given_types E W

  abbrev enum : Bool
  enum = has_enum G.call.plan.exits

  abbrev unit : Bool
  unit = is_unit G.call.plan.result

  abbrev next : List Value
  next = next_values G.call.plan

  abbrev Agree : Bool → Type 0
  Agree has = PlansAgree E q G N W A muts k modes again J R cold hows has

  abbrev Whole : Exp → Type 0
  Whole = IsWhole G N enum

  abbrev Again : ℕ → Statements → Type 0
  Again later = AreRedeclared G.call.place N later G.call.plan.redeclared

  abbrev Fresh : Spot → Type 0
  Fresh p = (n : ℕ) → p.declared ≤ n → IsNew R n

  abbrev Few : Spot → Type 0
  Few s = (n : ℕ) → n < s.declared → number n ≡ n

  abbrev Handed : (has : Bool) → Agree has → (Statements → Type 0) → List ℕ → Spot → Spot → Statements → Type 0
  Handed has plans Q xs p s y = HandedSo E f q G N W items agrees A muts k modes again J R cold hows has plans Q xs p s y

  new_there : {has : Bool} (plans : Agree has) {later : ℕ} {xs : List ℕ} {p s : Spot} {y : Statements} → (h : Handed has plans (Again later) xs p s y) → (d : Redeclaring R (length G.call.plan.redeclared) h.middle h.rest) → NewThere k R h.received d.numbers
  new_there plans h d = record {
    received_new = h.new;
    redeclared_new = d.new;
    made_apart = λ n i j. (let a = d.later n i in let b = h.below n j in absurd (omega (arith, a, b)));
    as_many = same_length k.redeclared d.numbers (sym plans.redeclared ∙ sym d.as_many);
  }

  redeclared_there : {has : Bool} (plans : Agree has) {later : ℕ} {xs : List ℕ} {p s : Spot} {y : Statements} → (h : Handed has plans (Again later) xs p s y) → Fresh p → Redeclaring R (length G.call.plan.redeclared) h.middle h.rest
  redeclared_there plans {s = s} h fresh = redeclaring_so R h.middle s h.such h.numbered (λ n l. fresh n (let a = h.later in omega (arith, a, l)))

  pub call_made : (plans : Agree false) {d later : ℕ} {y : Statements} {B : Context} {c : Entries} (p s : Spot) → AreHanded G N Whole (Again later) d next y → StatementsFit E f B y c → Has W c → Tells W B → NumberedStatements p y s → Fresh p → Few s
      → MadeCall T A muts k modes again J R cold hows G.call.number enum unit y
  call_made plans {d = d} {later = later} {y = y} p s a fits h tells num fresh few =
      let e = next_held G.call.plan plans.value in
      let z = handed_so E f q G N W items agrees A muts k modes again J R cold hows false plans (next_outs G.call.plan) (k.outs to_end) p s (sym e) plans.handed (subst (λ (hs : List Value). AreHanded G N Whole (Again later) d hs y) e a) fits h tells num fresh few in
      let r = redeclared_there plans z fresh in record {
        es = z.whole.es;
        e = z.e;
        ss = z.first;
        ds = z.rest;
        received = z.received;
        redeclared = r.numbers;
        is = z.is;
        arguments = z.whole.arguments;
        called = z.whole.called refl;
        hands = z.hands;
        declares = r.declares;
        made = new_there plans z r;
      }

  -- ---- with the block's tail

  -- where no value is handed out, there is no tail
  no_tail_there : {d : ℕ} {o : Else} (vs : List Variable) → IsTail G.call.place Whole d (variables_held vs) o → o ≡ named.absent
  no_tail_there [] no_value = refl
  no_tail_there (v ∷ vs) no_result = refl

  without_tail : {B : Context} {n : Node} {b : Bool} {y : Statements} {o : Else} {c : Entries} → EndFits E f B n b y o c → o ≡ named.absent → Has W c → (a : Entries) × StatementsFit E f B y a × Has W a
  without_tail (no_tail fits u) e h = (_, fits, h)
  without_tail (a_tail fits v live at ends) e h = absurd (cc)

  unit_made : (plans : Agree false) {d later : ℕ} {y : Statements} {o : Else} {B : Context} {n : Node} {b : Bool} {c : Entries} (p r : Spot) → AreHanded G N Whole (Again later) d next y → IsTail G.call.place Whole d next o → EndFits E f B n b y o c → Has W c → Tells W B → NumberedStatements p y r
      → Fresh p → Few r → MadeTail T A muts k modes again J R cold hows G.call.number enum unit false y o
  unit_made plans {d = d} {later = later} {y = y} {o = o} p r a t fits h tells num fresh few =
      let e = next_held G.call.plan plans.value in
      let none = no_tail_there (next_outs G.call.plan) (subst (λ (hs : List Value). IsTail G.call.place Whole d hs o) e t) in
      let w = without_tail fits none h in
      let z = handed_so E f q G N W items agrees A muts k modes again J R cold hows false plans (next_outs G.call.plan) (k.outs to_end) p r (sym e) plans.handed (subst (λ (hs : List Value). AreHanded G N Whole (Again later) d hs y) e a) w.1 w.2 tells num fresh few in
      let i = redeclared_there plans z fresh in record {
        es = z.whole.es;
        e = z.e;
        ss = z.first;
        ds = z.rest;
        received = z.received;
        redeclared = i.numbers;
        is = z.is;
        arguments = z.whole.arguments;
        called = z.whole.tail_called;
        hands = subst (λ (o : Else). HandsTail T A muts k R z.e false (k.outs to_end) z.received i.numbers z.first z.rest o) (sym none) (gives_unit z.hands i.declares);
        made = new_there plans z i;
      }

  -- what the end of a block makes of the run's value
  module _ (plans : Agree true) (t : Typ) (n : Node) (value : n.site ≡ Site.Expects → W (expected n) ≡ shape_at q t) where
    abbrev Stand : Site → Node → Typ → Type 0
    Stand s m u = Stands E f q G N W items agrees A muts k modes again J R cold hows true plans s m u

    ends_stand : {B : Context} (z : Site) (m : Node) {v u : Typ} → n.site ≡ z → Ends E B n z v u → Tells W B → W (expected m) ≡ u → shape_at q (handed_type next) ≡ shape_at q t → (z ≡ Site.Reborrows → v ≡ shape_at q (handed_type next)) → Stand z m u
    ends_stand Site.Value m i (at_value b) tells w g r = tt
    ends_stand Site.Expects m i (at_coercion b c) tells w g r = (w, sym (tells _ _ b) ∙ (value i ∙ sym g))
    ends_stand Site.Reborrows m i (at_reborrow b) tells w g r = (w, r refl)
    ends_stand Site.Place m i b tells w g r = elim b [ ]
    ends_stand Site.Scrutinee m i b tells w g r = elim b [ ]
    ends_stand Site.Initialises m i b tells w g r = elim b [ ]

    ends_wanted : {B : Context} (z : Site) (m : Node) {v u : Typ} → n.site ≡ z → Ends E B n z v u → Tells W B → W (expected m) ≡ u → v ≡ shape_at q t → WantedAt W z m u v
    ends_wanted Site.Value m i (at_value b) tells w g = tt
    ends_wanted Site.Expects m i (at_coercion b c) tells w g = (w, sym (tells _ _ b) ∙ (value i ∙ sym g))
    ends_wanted Site.Reborrows m i (at_reborrow b) tells w g = (w, refl)
    ends_wanted Site.Place m i b tells w g = elim b [ ]
    ends_wanted Site.Scrutinee m i b tells w g = elim b [ ]
    ends_wanted Site.Initialises m i b tells w g = elim b [ ]

    abbrev End : Spot → Spot → Else → Type 0
    End r s o = NumberedElse r n.site o s

    -- nothing is behind what has a value
    none_again : {later : ℕ} {y : Statements} → Again later y → y ≡ named.no_statement
    none_again {later = later} {y = y} a = by (subst (λ (vs : List Variable). AreRedeclared G.call.place N later vs y) (plans.none_behind refl) a)
      where
        by : {s : Span} {d : ℕ} {y : Statements} → AreRedeclared s N d [] y → y ≡ named.no_statement
        by none_redeclared = refl

    none_new : {xs : List ℕ} → AreNew R xs → NewThere k R xs []
    none_new a = record {
      received_new = a;
      redeclared_new = tt;
      made_apart = λ n i j. i;
      as_many = same_length k.redeclared [] (sym plans.redeclared ∙ ap length (plans.none_behind refl));
    }

    -- the value alone
    alone_made : {later : ℕ} {y : Statements} {e : Exp} {B : Context} {b : Bool} {c : Entries} (p r s : Spot) → next ≡ result_of t ∷ [] → k.outs to_end ≡ [] → Again later y → Whole e → EndFits E f B n b y (named.present e) c → Has W c → Tells W B → NumberedStatements p y r → End r s (named.present e)
        → Fresh p → Few s → MadeTail T A muts k modes again J R cold hows G.call.number enum unit true y (named.present e)
    alone_made {later = later} {y = y} {e = e} p r s g outs a w (a_tail {a = c} fits v live at ends) h tells num end fresh few =
        let h1 = has_first W c _ h in let up = statements_rise y p r num in let same : shape_at q (handed_type next) ≡ shape_at q t = ap (λ (hs : List Value). shape_at q (handed_type hs)) g in
        let tells2 = tells_more W _ c tells h1.0 in let f1 : Fresh r = (λ m l. fresh m (omega (arith, l, up))) in
        let type = λ (z : n.site ≡ Site.Reborrows). whole_type E f q G N W items agrees A muts k modes again J R cold hows true plans enum refl Site.Reborrows w v h1.1.1 tells2 (at ∙ z) (λ i. cc) (plans.reached refl) r n.site s end f1 few in
        let o = whole_so E f q G N W items agrees A muts k modes again J R cold hows true plans enum refl n.site w v h1.1.1 tells2 at (ends_stand n.site (node_of e) refl ends tells h1.1.0 same type) r n.site s end f1 few in
        let none = none_again a in record {
          es = o.es;
          e = e;
          ss = named.no_statement;
          ds = named.no_statement;
          received = [];
          redeclared = [];
          is = none;
          arguments = o.arguments;
          called = o.tail_called;
          hands = subst (λ (xs : List ℕ). HandsTail T A muts k R e true xs [] [] named.no_statement named.no_statement (named.present e)) (sym outs) gives_value;
          made = none_new tt;
        }

    -- behind what is put back
    put_made : (v : Variable) (vs : List Variable) {d later x : ℕ} {xs : List ℕ} {e : Exp} {p p2 r : Spot} {ln pn : Node} {ps : Patterns} {whole : Exp} {ss : Statements} → k.outs to_end ≡ x ∷ xs → BindsAll (from d (suc (length (v ∷ vs)))) ps
        → SeveralSo E f q G N W items agrees A muts k modes again J R cold hows true plans d (result_of t ∷ held_by v ∷ variables_held vs) ln pn ps whole p p2 → AreNew R (from d (suc (length (v ∷ vs)))) → Put E f q G N W A muts k R (Again later) (x ∷ xs) (from (suc d) (length (v ∷ vs))) p2 r ss
        → NamesVariable T d e → MadeTail T A muts k modes again J R cold hows G.call.number enum unit true (named.statement_and (named.lets ln (named.tuple_pattern pn ps) None whole) ss) (named.present e)
    put_made v vs {d = d} {e = e} {ln = ln} {pn = pn} {ps = ps} {whole = whole} outs binds o new put names =
        let first = named.statement_and (named.lets ln (named.tuple_pattern pn ps) None whole) put.front in record {
          es = o.whole.es;
          e = whole;
          ss = first;
          ds = named.no_statement;
          received = from (suc d) (length (v ∷ vs));
          redeclared = [];
          is = ap (named.statement_and (named.lets ln (named.tuple_pattern pn ps) None whole)) (put.is ∙ ap (append put.front) (none_again put.such));
          arguments = o.whole.arguments;
          called = o.whole.tail_called;
          hands = subst (λ (xs : List ℕ). HandsTail T A muts k R whole true xs (from (suc d) (length (v ∷ vs))) [] first named.no_statement (named.present e)) (sym outs)
              (value_first o.typed o.whole.no_place binds new.0 (λ i. new.1 i) put.back names);
          made = none_new new.2;
        }

    -- the first of several
    first_made : {d later x : ℕ} {xs : List ℕ} {y : Statements} {e : Exp} {v : Variable} {vs : List Variable} {B : Context} {b : Bool} {c : Entries} (p r s : Spot) → next ≡ result_of t ∷ held_by v ∷ variables_held vs → k.outs to_end ≡ x ∷ xs → Rows (OutIs G N q W A muts k R) (v ∷ vs) (x ∷ xs)
        → AreHanded G N Whole (Again later) d (result_of t ∷ held_by v ∷ variables_held vs) y → IsMade G.call.place d e → EndFits E f B n b y (named.present e) c → Has W c → Tells W B → NumberedStatements p y r → End r s (named.present e)
        → Fresh p → Few s → MadeTail T A muts k modes again J R cold hows G.call.number enum unit true y (named.present e)
    first_made {d = d} {later = later} {x = x} {xs = xs} {e = e} {v = v} {vs = vs} p r s g outs rows (several_bound {n = ln} {p = pn} {ps = ps} {e = whole} i j bs w (result_stays put)) m (a_tail (a_statement {a = c3} {b = c4} y z) val live at ends) h tells num end fresh few =
        let h1 = has_first W (c3 ++ c4) _ h in let h2 = has_first W c3 c4 h1.0 in let hs = result_of t ∷ held_by v ∷ variables_held vs in
        let up = statements_rise _ num.0 r num.2 in let up2 = exp_rises_to r s end in
        let o = several_so E f q G N W items agrees A muts k modes again J R cold hows true plans hs p num.0 bs (received_many G.own hs) (ap (λ (hs : List Value). shape_at q (handed_type hs)) (sym g)) refl (plans.reached refl) w y h2.0 tells num.1 fresh (λ m l. few m (omega (arith, l, up, up2))) in
        let many : length hs ≡ suc (length (v ∷ vs)) = ap suc (held_length (v ∷ vs)) in
        let fd : types.Few d (suc (length (v ∷ vs))) = subst (λ (j : ℕ). types.Few d j) many o.bound.few in
        let back = put_back_all E f q G N W A muts k R num.0 r rows put z h2.1 (tells_more W _ c3 tells h2.0) o.bound.row.1 (types.few_behind d (length (v ∷ vs)) fd) num.2 in
        let made = made_variable W E m val h1.1.1 (tells_more W _ (c3 ++ c4) tells h1.0) (types.few_first d (length (v ∷ vs)) fd) in
        let new = subst (λ (j : ℕ). AreNew R (from d j)) many o.bound.new in
        let names = made_names W E n.site _ made at (ends_wanted n.site (node_of e) refl ends tells h1.1.0 (sym (made_type W E made) ∙ o.bound.row.0)) in
        put_made v vs outs (subst (λ (j : ℕ). BindsAll (from d j) ps) (received_many G.own hs ∙ many) (binds_all bs)) o new back names
      where
        exp_rises_to : (r s : Spot) → End r s (named.present e) → r.declared ≤ s.declared
        exp_rises_to r s end = else_rises (named.present e) r n.site s end

    valued_made : {d later : ℕ} {y : Statements} {o : Else} {B : Context} {b : Bool} {c : Entries} (vs : List Variable) (xs : List ℕ) (p r s : Spot) → next ≡ result_of t ∷ variables_held vs → k.outs to_end ≡ xs → Rows (OutIs G N q W A muts k R) vs xs → AreHanded G N Whole (Again later) d (result_of t ∷ variables_held vs) y
        → IsTail G.call.place Whole d (result_of t ∷ variables_held vs) o → EndFits E f B n b y o c → Has W c → Tells W B → NumberedStatements p y r → End r s o → Fresh p → Few s → MadeTail T A muts k modes again J R cold hows G.call.number enum unit true y o
    valued_made [] xs p r s g outs no_rows (is_tail a) (call_is_tail w) fits h tells num end fresh few = alone_made p r s g outs a w fits h tells num end fresh few
    valued_made (v ∷ vs) xs p r s g outs (more_rows o rows) a (first_is_tail m) fits h tells num end fresh few = first_made p r s g outs (more_rows o rows) a m fits h tells num end fresh few

  -- by whether there is a value
  pub tail_made : (has : Bool) (plans : Agree has) {d later : ℕ} {y : Statements} {o : Else} {B : Context} {b : Bool} {c : Entries} (n : Node) (p r s : Spot) → ((t : Typ) → G.call.plan.value ≡ Some t → n.site ≡ Site.Expects → W (expected n) ≡ shape_at q t) → AreHanded G N Whole (Again later) d next y
      → IsTail G.call.place Whole d next o → EndFits E f B n b y o c → Has W c → Tells W B → NumberedStatements p y r → NumberedElse r n.site o s → Fresh p → Few s → MadeTail T A muts k modes again J R cold hows G.call.number enum unit has y o
  tail_made false plans {o = o} n p r s value a t fits h tells num end fresh few = let up = else_rises o r n.site s end in unit_made plans p r a t fits h tells num fresh (λ m l. few m (omega (arith, l, up)))
  tail_made true plans {d = d} {later = later} {y = y} {o = o} n p r s value a t fits h tells num end fresh few =
      let v = next_valued G.call.plan plans.value (plans.reached refl) in
      valued_made plans v.0 n (value v.0 v.1) (next_outs G.call.plan) (k.outs to_end) p r s v.2 refl plans.handed (subst (λ (hs : List Value). AreHanded G N Whole (Again later) d hs y) v.2 a) (subst (λ (hs : List Value). IsTail G.call.place Whole d hs o) v.2 t) fits h tells num end fresh few
