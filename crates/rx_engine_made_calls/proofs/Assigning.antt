-- Values that are assigned to variables of the text: one after another, from where they were received.
use Rattle.std.proofs.Common.{◌≡◌, ◌≤◌, ◌⊎◌, inl, inr, ℕ, suc, Bool, true, List, [], ◌∷◌, length, Some, None, refl, sym, ap, ◌∙◌, subst, arith}
use Rattle.rx_resolve_names.specs.Scopes.{variable_named}
use Rattle.rx_resolve_names.specs.Meant.{number}
use Rattle.rx_typed.specs.declared.nodes.Site.{Site}
use Rattle.rx_typed.specs.Types.{Typ}
use Rattle.rx_typed.specs.Elaborated.{Assigned}
use Rattle.rx_typed.specs.Named as named
use Rattle.rx_typed.specs.Named.{node_of, Exp, Statement, Statements}
use Rattle.rx_hoist_extraction.specs.Plan.{names_of, Variable}
use Rattle.rx_hoist_extraction.specs.Values.{variables_held}
use Rattle.rx_typeck_solver.specs.declared.facts.Subject.TheVariants as subject
use Rattle.rx_typeck_solver.specs.Facts.{Assignment, KnownItems}
use Rattle.rx_typeck_typed.specs.Asking.{expected}
use Rattle.rx_exits_plan.specs.Asked.{Asked}
use Rattle.rx_exits_plan.specs.Plan.{Plan}
use Rattle.rx_engine_names.specs.Renaming.{Renaming as Pairing}
use Rattle.rx_engine_names.specs.Calls.Passed.{passed_on as passes}
use Rattle.rx_engine_names.specs.HandedOut.{AreAssigned, ArePutBack, Handing, IsAssigned, IsDone, IsMade}
use Rattle.rx_engine_names.specs.HandedOut.IsDone.{is_done}
use Rattle.rx_engine_names.specs.HandedOut.IsAssigned.{is_assigned, is_given}
use Rattle.rx_engine_names.specs.HandedOut.AreAssigned.{all_assigned, more_assigned}
use Rattle.rx_engine_names.specs.HandedOut.ArePutBack.{none_put_back, own_stays, is_put_back}
use Rattle.rx_engine_blocks.specs.Renumbering.{shape_at, Renumbering}
use Rattle.rx_engine_typing.specs.Corresponding.{given_types}
use Rattle.rx_engine_holes.specs.Run.{append}
use Rattle.rx_engine_holes.specs.Entries.{Context, Entries, Has}
use Rattle.rx_engine_holes.specs.CallFits.{StatementFits, StatementsFit, ValueFits}
use Rattle.rx_engine_holes.specs.CallFits.StatementFits.{assigned, given, given_within}
use Rattle.rx_engine_holes.specs.CallFits as fitting
use Rattle.rx_engine_holes.specs.CallFits.StatementsFit.{a_statement}
use Rattle.rx_engine_changed.specs.Spots.{after, NumberedExp, NumberedStatement, NumberedStatements, Spot}
use Rattle.rx_engine_simulation.specs.Sights.{special, sight, Renaming, sight_of}
use Rattle.rx_engine_made_trees.specs.Handing.{AssignsTo, PutsBack}
use Rattle.rx_engine_made_trees.specs.Handing.AssignsTo.{assigns, gives}
use Rattle.rx_engine_made_trees.specs.Handing.PutsBack.{none_back, stays_there, is_assigned as back_so}
use Rattle.rx_engine_made_calls.specs.Plans.{GoesBack, OutIs, Rows}
use Rattle.rx_engine_made_calls.specs.Plans.OutIs.{goes_back, stays}
use Rattle.rx_engine_made_calls.specs.Plans.Rows.{no_rows, more_rows}
use Rattle.rx_engine_made_calls.specs.Contexts.{Tells}
use Rattle.rx_engine_made_calls.proofs.Telling.{clash, has_first, one_some, tells_more, types_there}
use Rattle.rx_engine_made_calls.proofs.Rising.{given_rises, statement_rises}
use Rattle.rx_engine_made_calls.proofs.Types.{few_behind, few_first, from, keeps_at, made_so, made_variable, Few, MadeVariable, RowHas, WantedAt}

module _ (E : KnownItems) (f : ℕ) (q : Renumbering) (G : Handing) (N : Pairing) (W : Assignment) where
  -- `y = v;`, where `y` is what corresponds to the variable of that name
  pub record Assigning (P : Exp → Type 0) (x : List ℕ) (p s : Spot) (a : Statement) : Type 0 where
    pub text : ℕ
    pub to : ℕ
    pub named : variable_named G.call.scope x ≡ Some text
    pub paired : N.variable text to ≡ true
    pub value : Exp
    pub such : P value
    pub assigning : AssignsTo to value a
    pub want : Typ
    pub typ : Typ
    pub entries : Entries
    pub context : Context
    pub tells : Tells W context
    pub fits : ValueFits E f context value want typ entries
    pub has : Has W entries
    pub is : W (subject.Variable to) ≡ want
    pub site : Site
    pub at : (node_of value).site ≡ site
    pub wanted : want ≡ typ → WantedAt W site (node_of value) want typ
    pub expects : W (expected (node_of value)) ≡ want
    pub either : (site ≡ Site.Expects) ⊎ (site ≡ Site.Reborrows)
    pub first : Spot
    pub behind : Spot
    pub later : p.declared ≤ first.declared
    pub before : behind.declared ≤ s.declared
    pub numbered : NumberedExp first site value behind

  pub assigning_so : {P : Exp → Type 0} {x : List ℕ} {a : Statement} {B : Context} {c : Entries} (p s : Spot) → IsDone G.call.place (IsAssigned G.call N x P) a → StatementFits E f B a c → Has W c → Tells W B → NumberedStatement p a s → Assigning P x p s a
  assigning_so p s (is_done i (is_assigned j (passes {u = u} l v r) z)) (assigned {e = e} {t = t} {u = w} b known k o fits at coerces) h tells n = record {
    text = _;
    to = u.number;
    named = v;
    paired = r;
    value = e;
    such = z;
    assigning = assigns refl;
    want = w;
    typ = t;
    entries = _;
    context = _;
    tells = tells;
    fits = fits;
    has = h.1.1.1;
    is = tells _ w b;
    site = Site.Expects;
    at = at;
    wanted = λ i. (h.1.0, i);
    expects = h.1.0;
    either = inl refl;
    first = n.1.1;
    behind = s;
    later = (let z = ap (λ (r : Spot). r.declared) n.1.2.2 in omega (arith, z));
    before = omega arith;
    numbered = n.1.4;
  }
  assigning_so p s (is_done i (is_given {u = u} {e = e} j l v r z)) (given {t = t} b known k fits at lives) h tells n = record {
    text = _;
    to = u.number;
    named = v;
    paired = r;
    value = e;
    such = z;
    assigning = gives refl;
    want = t;
    typ = t;
    entries = _;
    context = _;
    tells = tells;
    fits = fits;
    has = h.1.1.1;
    is = tells _ t b;
    site = Site.Reborrows;
    at = at;
    wanted = λ i. (h.1.0, i);
    expects = h.1.0;
    either = inr refl;
    first = after (after (after p));
    behind = n.1.3;
    later = omega arith;
    before = given_rises _ _ _ n.1.3 s n.1.6;
    numbered = n.1.4;
  }
  assigning_so p s (is_done i (is_given {u = u} {e = e} j l v r z)) (given_within {t = t} b known k fits at) h tells n = record {
    text = _;
    to = u.number;
    named = v;
    paired = r;
    value = e;
    such = z;
    assigning = gives refl;
    want = t;
    typ = t;
    entries = _;
    context = _;
    tells = tells;
    fits = fits;
    has = h.1.1.1;
    is = tells _ t b;
    site = Site.Reborrows;
    at = at;
    wanted = λ i. (h.1.0, i);
    expects = h.1.0;
    either = inr refl;
    first = after (after (after p));
    behind = n.1.3;
    later = omega arith;
    before = given_rises _ _ _ n.1.3 s n.1.6;
    numbered = n.1.4;
  }
  assigning_so p s (is_done i (is_assigned j (passes l v r) z)) (fitting.StatementFits.done fits at) h tells n = elim fits [ ]
  assigning_so p s (is_done i (is_assigned j (passes l v r) z)) (fitting.StatementFits.jumps fits at) h tells n = elim fits [ ]
  assigning_so p s (is_done i (is_given j l v r z)) (fitting.StatementFits.done fits at) h tells n = elim fits [ ]
  assigning_so p s (is_done i (is_given j l v r z)) (fitting.StatementFits.jumps fits at) h tells n = elim fits [ ]

  module _ (A : Asked) (muts : List Bool) (k : Plan) (R : Renaming) where
    abbrev T : Assigned
    T = given_types E W

    abbrev Back : Variable → ℕ → Type 0
    Back v x = GoesBack G N q W A muts k R v x

    abbrev PutBack : List ℕ → List ℕ → Statements → Type 0
    PutBack xs os ss = PutsBack T A muts k R xs os ss

    -- what is assigned is that variable
    pub assigned_type : {P : Exp → Type 0} {v : Variable} {x : ℕ} {p s : Spot} {a : Statement} → Back v x → (z : Assigning P v.name p s a) → z.want ≡ shape_at q v.typ
    assigned_type {v = v} b z = sym z.is ∙ b.typed z.to (subst (λ (j : ℕ). N.variable j z.to ≡ true) (one_some z.text _ (sym z.named ∙ b.named)) z.paired)

    pub assigned_there : {P : Exp → Type 0} {v : Variable} {x : ℕ} {p s : Spot} {a : Statement} → Back v x → (z : Assigning P v.name p s a) → sight_of R x ≡ Some (sight z.to special)
    assigned_there b z = b.elsewhere z.to (subst (λ (j : ℕ). N.variable j z.to ≡ true) (one_some z.text _ (sym z.named ∙ b.named)) z.paired)

    back_first : {d x : ℕ} {v : Variable} {p s : Spot} {a : Statement} {xs os : List ℕ} {ss : Statements} → Back v x → Assigning (IsMade G.call.place d) v.name p s a → number d ≡ d → W (subject.Variable d) ≡ shape_at q v.typ
        → PutBack xs os ss → PutBack (x ∷ xs) (d ∷ os) (named.statement_and a ss)
    back_first {d = d} {x = x} {v = v} {p = p} {s = s} {a = a} {xs = xs} {os = os} {ss = ss} b z few t rest = by z.value (made_variable W E z.such z.fits z.has z.tells few) z.at (λ (e : z.typ ≡ shape_at q v.typ). z.wanted (assigned_type b z ∙ sym e)) z.assigning
      where
        by : (e : Exp) → MadeVariable W E d z.typ e → (node_of e).site ≡ z.site → (z.typ ≡ shape_at q v.typ → WantedAt W z.site (node_of e) z.want z.typ) → AssignsTo z.to e a → PutBack (x ∷ xs) (d ∷ os) (named.statement_and a ss)
        by e (made_so {n = n} i j w) at want to = back_so (assigned_there b z) b.assigned i (keeps_at W E n z.site z.want z.typ at (want (sym w ∙ t)) j) to rest

    -- what is put back, in front of other statements
    pub record Put (Q : Statements → Type 0) (xs os : List ℕ) (p s : Spot) (y : Statements) : Type 0 where
      pub front : Statements
      pub rest : Statements
      pub is : y ≡ append front rest
      pub back : PutBack xs os front
      pub such : Q rest
      pub first : Spot
      pub later : p.declared ≤ first.declared
      pub numbered : NumberedStatements first rest s

    nothing_put : {Q : Statements → Type 0} (p s : Spot) {y : Statements} → Q y → NumberedStatements p y s → Put Q [] [] p s y
    nothing_put p s {y} r n = record { front = named.no_statement; rest = y; is = refl; back = none_back; such = r; first = p; later = omega arith; numbered = n }

    put_first : {Q : Statements → Type 0} {d x : ℕ} {v : Variable} {xs os : List ℕ} {a : Statement} {ss : Statements} (p r s : Spot) → Back v x → Assigning (IsMade G.call.place d) v.name p r a → number d ≡ d → W (subject.Variable d) ≡ shape_at q v.typ
        → p.declared ≤ r.declared → Put Q xs os r s ss → Put Q (x ∷ xs) (d ∷ os) p s (named.statement_and a ss)
    put_first {a = a} p r s b z few t up o = record {
      front = named.statement_and a o.front;
      rest = o.rest;
      is = ap (named.statement_and a) o.is;
      back = back_first b z few t o.back;
      such = o.such;
      first = o.first;
      later = (let l = o.later in omega (arith, l, up));
      numbered = o.numbered;
    }

    put_stays : {Q : Statements → Type 0} {d x : ℕ} {xs os : List ℕ} {ss : Statements} (p s : Spot) → sight_of R x ≡ None → Put Q xs os p s ss → Put Q (x ∷ xs) (d ∷ os) p s ss
    put_stays p s none o = record { front = o.front; rest = o.rest; is = o.is; back = stays_there none o.back; such = o.such; first = o.first; later = o.later; numbered = o.numbered }

    abbrev pub Held : ℕ → List Variable → Type 0
    Held d vs = RowHas W d (types_there q (variables_held vs))

    pub assigned_all : {Q : Statements → Type 0} {d : ℕ} {vs : List Variable} {xs : List ℕ} {y : Statements} {B : Context} {c : Entries} (p s : Spot) → Rows Back vs xs → AreAssigned G.call N Q d (names_of vs) y → StatementsFit E f B y c → Has W c → Tells W B
        → Held d vs → Few d (length vs) → NumberedStatements p y s → Put Q xs (from d (length vs)) p s y
    assigned_all p s no_rows (all_assigned r) fits h tells row few n = nothing_put p s r n
    assigned_all {d = d} {vs = v ∷ vs} p s (more_rows b bs) (more_assigned i is) (a_statement {a = a} {b = c} y z) h tells row few n =
        let g = has_first W a c h in
        put_first p n.0 s b (assigning_so p n.0 i y g.0 tells n.1) (few_first d (length vs) few) row.0 (statement_rises _ p n.0 n.1)
        (assigned_all {d = suc d} n.0 s bs is z g.1 (tells_more W _ a tells g.0) row.1 (few_behind d (length vs) few) n.2)

    pub put_back_all : {Q : Statements → Type 0} {d : ℕ} {vs : List Variable} {xs : List ℕ} {y : Statements} {B : Context} {c : Entries} (p s : Spot) → Rows (OutIs G N q W A muts k R) vs xs → ArePutBack G N Q d (variables_held vs) y → StatementsFit E f B y c → Has W c → Tells W B
        → Held d vs → Few d (length vs) → NumberedStatements p y s → Put Q xs (from d (length vs)) p s y
    put_back_all p s no_rows (none_put_back r) fits h tells row few n = nothing_put p s r n
    put_back_all {d = d} {vs = v ∷ vs} p s (more_rows (stays o none) bs) (own_stays i is) fits h tells row few n = put_stays p s none (put_back_all {d = suc d} p s bs is fits h tells row.1 (few_behind d (length vs) few) n)
    put_back_all {d = d} {vs = v ∷ vs} p s (more_rows (goes_back o b) bs) (is_put_back j i is) (a_statement {a = a} {b = c} y z) h tells row few n =
        let g = has_first W a c h in
        put_first p n.0 s b (assigning_so p n.0 i y g.0 tells n.1) (few_first d (length vs) few) row.0 (statement_rises _ p n.0 n.1)
        (put_back_all {d = suc d} n.0 s bs is z g.1 (tells_more W _ a tells g.0) row.1 (few_behind d (length vs) few) n.2)
    put_back_all p s (more_rows (goes_back o b) bs) (own_stays i is) fits h tells row few n = absurd (clash o i)
    put_back_all p s (more_rows (stays o none) bs) (is_put_back i j is) fits h tells row few n = absurd (clash i o)
