-- What stands in place of the run resolves, in each shape: the call alone, its value assigned, bound or as the tail, several values bound and
-- put back; and behind it the variables that are redeclared.
use Rattle.std.proofs.Common.{◌≡◌, ℕ, suc, ◌+◌, ◌≤◌, ◌^◌, Bool, true, false, ◌||◌, if◌then◌else◌, List, [], ◌∷◌, ◌++◌, length, Some, None, Ok, refl, sym, ap, ◌∙◌, subst, arith, bytes_eq}
use Rattle.rx_core.specs.declared.types.Span.{Span}
use Rattle.rx_tree.specs.Lists.{Every}
use Rattle.rx_tree.specs.Plain as plain
use Rattle.rx_tree.specs.Plain.{Expression, OptionalExpression, PatternTree, Statement, ProgramTree}
use Rattle.rx_resolve_names.specs.Scopes.{Variables, variable_named, entered}
use Rattle.rx_resolve_names.specs.declared.resolved.ItemNames.{ItemNames}
use Rattle.rx_resolve_names.specs.Meant.{number, Around}
use Rattle.rx_resolve_names.specs.Steps.{Outcome, Inside, child, next}
use Rattle.rx_resolve_names.specs.Names.{in_expression, in_pattern, in_statements, Scoped}
use Rattle.rx_typed.specs.declared.nodes.Node.{Node}
use Rattle.rx_typed.specs.declared.nodes.Site.{Site}
use Rattle.rx_typed.specs.Named as named
use Rattle.rx_typed.specs.Naming.{of_pattern}
use Rattle.rx_hoist_extraction.specs.Names.{Names, is_among, Distinct}
use Rattle.rx_hoist_extraction.specs.Run.{as_statements}
use Rattle.rx_hoist_extraction.specs.Plan.{Variable, Plan, has_enum}
use Rattle.rx_hoist_extraction.specs.Values.{Value, result_of, held_by}
use Rattle.rx_hoist_extraction.specs.Fresh.{fresh_variable}
use Rattle.rx_hoist_extraction.specs.Made.{binding, as_patterns, done, assignment, let_value}
use Rattle.rx_hoist_extraction.specs.Call.{is_own, received, all_received, all_put_back, whole_call, handed}
use Rattle.rx_engine_names.specs.Renaming.{Renaming, Made}
use Rattle.rx_engine_names.specs.Replaced.{joined}
use Rattle.rx_engine_names.specs.Moves.{labels_of}
use Rattle.rx_engine_names.specs.HandedOut.{Handing, AreBound, IsMade, IsDone, IsAssigned, IsWhole, mutable_if, received_mutable, ArePutBack, none_put_back, result_stays, own_stays, is_put_back, AreHanded, done_alone, is_tail, one_bound, one_assigned, several_bound}
use Rattle.rx_engine_names.specs.HandsOver.{NameMeant, ValueMeant, received_names, handed_names, declared_from}
use Rattle.rx_engine_names.proofs.Alone.{Alone, weaker, alone_give, alone_map, alone_node, Makes, makes_nothing, makes_map}
use Rattle.rx_engine_names.proofs.MadeCalls.{ExpAlone}
use Rattle.rx_engine_names.proofs.MadeBindings.{MeantFrom, not_hidden, meant_from, all_new, none_done, bindings_of, bound_names, bound_mutable, IsBind, is_bind, AllNew, made_bind, made_bindings}
use Rattle.rx_engine_names.proofs.MadeUses.{StatementsAlone, goes_to, made_use, made_done, made_more, made_assigned}
use Rattle.rx_engine_names.proofs.MadeArms.{word_unlike}
use Rattle.rx_hoist_extraction.proofs.FreshNames.{unlike}
use Rattle.rx_engine_names.proofs.MadeDeclarations.{made_let}

-- ---- what several values are bound to

-- names, and whether each is `mut`
abbrev received_as : Bool → Variable → List ℕ → List ℕ × Bool
received_as true v y = (v.name, v.mutable)
received_as false v y = (y, false)

abbrev received_pairs : Plan → Names → ℕ → List Value → List (List ℕ × Bool)
received_pairs pl own i [] = []
received_pairs pl own i (result_of t ∷ hs) = (fresh_variable pl.identifiers i, false) ∷ received_pairs pl own (suc i) hs
received_pairs pl own i (held_by v ∷ hs) = received_as (is_own own v) v (fresh_variable pl.identifiers i) ∷ received_pairs pl own (suc i) hs

one_received : (s : Span) (b : Bool) (v : Variable) (y : List ℕ) → (if b then binding s v.name v.mutable else binding s y false) ≡ binding s (received_as b v y).0 (received_as b v y).1
one_received s true v y = refl
one_received s false v y = refl

received_is : (pl : Plan) (s : Span) (own : Names) (i : ℕ) (hs : List Value) → all_received pl s own i hs ≡ bindings_of s (received_pairs pl own i hs)
received_is pl s own i [] = refl
received_is pl s own i (result_of t ∷ hs) = ap (λ (l : List PatternTree). binding s (fresh_variable pl.identifiers i) false ∷ l) (received_is pl s own (suc i) hs)
received_is pl s own i (held_by v ∷ hs) =
    ap (λ (l : List PatternTree). received pl s own i (held_by v) ∷ l) (received_is pl s own (suc i) hs)
    ∙ ap (λ (p : PatternTree). p ∷ bindings_of s (received_pairs pl own (suc i) hs)) (one_received s (is_own own v) v (fresh_variable pl.identifiers i))

one_named : (b : Bool) (v : Variable) (y : List ℕ) → (received_as b v y).0 ≡ (if b then v.name else y)
one_named true v y = refl
one_named false v y = refl

received_named : (pl : Plan) (own : Names) (i : ℕ) (hs : List Value) → bound_names (received_pairs pl own i hs) ≡ received_names pl own i hs
received_named pl own i [] = refl
received_named pl own i (result_of t ∷ hs) = ap (λ (l : Names). fresh_variable pl.identifiers i ∷ l) (received_named pl own (suc i) hs)
received_named pl own i (held_by v ∷ hs) =
    ap (λ (l : Names). (received_as (is_own own v) v (fresh_variable pl.identifiers i)).0 ∷ l) (received_named pl own (suc i) hs)
    ∙ ap (λ (x : List ℕ). x ∷ received_names pl own (suc i) hs) (one_named (is_own own v) v (fresh_variable pl.identifiers i))

one_muted : (b : Bool) (v : Variable) (y : List ℕ) → (received_as b v y).1 ≡ mutable_if b v
one_muted true v y = refl
one_muted false v y = refl

received_muted : (pl : Plan) (own : Names) (i : ℕ) (hs : List Value) → bound_mutable (received_pairs pl own i hs) ≡ received_mutable own hs
received_muted pl own i [] = refl
received_muted pl own i (result_of t ∷ hs) = ap (λ (l : List Bool). false ∷ l) (received_muted pl own (suc i) hs)
received_muted pl own i (held_by v ∷ hs) =
    ap (λ (l : List Bool). (received_as (is_own own v) v (fresh_variable pl.identifiers i)).1 ∷ l) (received_muted pl own (suc i) hs)
    ∙ ap (λ (b : Bool). b ∷ received_mutable own hs) (one_muted (is_own own v) v (fresh_variable pl.identifiers i))

-- ---- statements that are followed by others

put_back_then : (G : Handing) (R : Renaming) (Q : named.Statements → Type 0) (y : named.Statements) → Q y → (d : ℕ) (hs : List Value) (x : named.Statements) → ArePutBack G R (λ ss. ss ≡ named.no_statement) d hs x → ArePutBack G R Q d hs (joined x y)
put_back_then G R Q y q d [] x (none_put_back e) = none_put_back (subst (λ (x : named.Statements). Q (joined x y)) (sym e) q)
put_back_then G R Q y q d (result_of t ∷ hs) x (result_stays r) = result_stays (put_back_then G R Q y q (suc d) hs x r)
put_back_then G R Q y q d (held_by v ∷ hs) x (own_stays o r) = own_stays o (put_back_then G R Q y q (suc d) hs x r)
put_back_then G R Q y q d (held_by v ∷ hs) _ (is_put_back {ss = ss} o p r) = is_put_back o p (put_back_then G R Q y q (suc d) hs ss r)

pub handed_then : (G : Handing) (R : Renaming) (W : named.Exp → Type 0) (Q : named.Statements → Type 0) (y : named.Statements) → Q y → (d : ℕ) (hs : List Value) (x : named.Statements) → AreHanded G R W (λ ss. ss ≡ named.no_statement) d hs x → AreHanded G R W Q d hs (joined x y)
handed_then G R W Q y q d [] _ (done_alone p e) = done_alone p (subst (λ (x : named.Statements). Q (joined x y)) (sym e) q)
handed_then G R W Q y q d (result_of t ∷ []) x (is_tail e) = is_tail (subst (λ (x : named.Statements). Q (joined x y)) (sym e) q)
handed_then G R W Q y q d (held_by v ∷ []) _ (one_bound o g h w e) = one_bound o g h w (subst (λ (x : named.Statements). Q (joined x y)) (sym e) q)
handed_then G R W Q y q d (held_by v ∷ []) _ (one_assigned o p e) = one_assigned o p (subst (λ (x : named.Statements). Q (joined x y)) (sym e) q)
handed_then G R W Q y q d (h ∷ i ∷ hs) _ (several_bound {ss = ss} g k b w r) = several_bound g k b w (put_back_then G R Q y q d (h ∷ i ∷ hs) ss r)

-- ---- the statements of each shape

module _ (items : ℕ → ℕ) (G : Handing) (I' : Inside) (ls : List Around) (M : Made) where
  abbrev pub s : Span
  s = G.call.place

  abbrev pub pl : Plan
  pl = G.call.plan

  abbrev pub own : Names
  own = G.own

  abbrev pub nothing_more : named.Statements → Type 0
  nothing_more ss = ss ≡ named.no_statement

  abbrev pub Empty : Variables → ItemNames → Type 0
  Empty sc u = Makes items M u (λ v. ◌≡◌ {A = Outcome Scoped} (Ok (goes_to sc u)) (Ok (goes_to sc v))) (StatementsAlone (λ R ss. nothing_more ss) u plain.no_statement)

  empty : (sc : Variables) (u : ItemNames) → Empty sc u
  empty sc u = makes_nothing u (λ v. ◌≡◌ {A = Outcome Scoped} (Ok (goes_to sc u)) (Ok (goes_to sc v))) (StatementsAlone (λ R ss. nothing_more ss) u plain.no_statement) refl (λ R. alone_give named.no_statement refl)

  -- what is put back, in the scope behind the bindings
  abbrev pub BackMade : Variables → List ℕ → ℕ → ℕ → ℕ → List Value → ItemNames → Type 0
  BackMade sc at' j i d hs u = Makes items M u (λ v. in_statements I' sc ls at' j (as_statements (all_put_back pl s own i hs)) u ≡ Ok (goes_to sc v)) (StatementsAlone (λ R ss. ArePutBack G R nothing_more d hs ss) u (as_statements (all_put_back pl s own i hs)))

  -- an out that is no own, behind the bindings
  abbrev pub BackMeant : Variables → Value → Type 0
  BackMeant sc (result_of t) = Unit {0}
  BackMeant sc (held_by v) = is_own own v ≡ false → NameMeant G M sc v.name

  name_at : (b : Bool) (x y : List ℕ) (sc : Variables) (d : ℕ) → b ≡ false → variable_named sc (if b then x else y) ≡ Some (number d) → variable_named sc y ≡ Some (number d)
  name_at false x y sc d e h = h
  name_at true x y sc d e h = absurd (cc)

  made_back : (sc : Variables) (at' : List ℕ) (j i d : ℕ) (hs : List Value) → MeantFrom sc d (received_names pl own i hs) → Every (BackMeant sc) hs → (u : ItemNames) → BackMade sc at' j i d hs u
  made_back sc at' j i d [] h m u = makes_map (empty sc u) (λ a. a) (λ R sv N. weaker N (λ ss e. none_put_back e))
  made_back sc at' j i d (result_of t ∷ hs) h m u = makes_map (made_back sc at' j (suc i) (suc d) hs h.1 m.1 u) (λ a. a) (λ R sv N. weaker N (λ ss r. result_stays r))
  made_back sc at' j i d (held_by v ∷ hs) h m u =
      by (is_own own v) refl (λ e. made_back sc at' j (suc i) (suc d) hs h.1 m.1 u) (λ e u1. made_back sc at' (next j) (suc i) (suc d) hs h.1 m.1 u1)
    where
      by : (b : Bool) → is_own own v ≡ b → (b ≡ true → BackMade sc at' j (suc i) (suc d) hs u) → (b ≡ false → (u1 : ItemNames) → BackMade sc at' (next j) (suc i) (suc d) hs u1)
          → Makes items M u (λ w. in_statements I' sc ls at' j (as_statements ((if b then [] else assignment s v.name (plain.var s (fresh_variable pl.identifiers i)) ∷ []) ++ all_put_back pl s own (suc i) hs)) u ≡ Ok (goes_to sc w))
          (StatementsAlone (λ R ss. ArePutBack G R nothing_more d (held_by v ∷ hs) ss) u (as_statements ((if b then [] else assignment s v.name (plain.var s (fresh_variable pl.identifiers i)) ∷ []) ++ all_put_back pl s own (suc i) hs)))
      by true e r q = makes_map (r refl) (λ a. a) (λ R sv N. weaker N (λ ss k. own_stays e k))
      by false e r q =
          let x = plain.assign s (plain.var s v.name) (plain.var s (fresh_variable pl.identifiers i)) in
          let k = name_at (is_own own v) v.name (fresh_variable pl.identifiers i) sc d e h.0 in
          let A = made_done items M I' s sc ls (child at' j) x (λ R b. IsAssigned G.call R v.name (IsMade s d) b) u
          (made_assigned items G.call I' sc ls M (child (child at' j) 0) v.name (plain.var s (fresh_variable pl.identifiers i)) (λ R b. IsMade s d b) (m.0 e) (λ u. made_use items M I' s sc ls (child (child (child at' j) 0) 1) (fresh_variable pl.identifiers i) d k u) u) in
          made_more items M I' s sc ls at' j (done s x) (as_statements (all_put_back pl s own (suc i) hs)) sc sc (λ R a. IsDone s (IsAssigned G.call R v.name (IsMade s d)) a) (λ R ss. ArePutBack G R nothing_more (suc d) hs ss)
          (λ R ss. ArePutBack G R nothing_more d (held_by v ∷ hs) ss) u A (q refl A.table) (λ R a ss p r. is_put_back e p r)

  -- ---- what is bound hides no other out

  not_own : (v : Variable) (b : Bool) (w : Variable) (y : List ℕ) → is_own own w ≡ b → is_own own v ≡ false → bytes_eq v.name y ≡ false → bytes_eq v.name (if b then w.name else y) ≡ false
  not_own v true w y e f h = unlike v.name w.name (λ k. clash (sym e ∙ ap (λ (x : List ℕ). is_among x own) (sym k) ∙ f))
    where
      clash : true ≡ false → ⊥
      clash e = cc
  not_own v false w y e f h = h

  either_false : (a b : Bool) → a ≡ false → b ≡ false → (a || b) ≡ false
  either_false true b e f = absurd (cc)
  either_false false b e f = f

  received_other : (v : Variable) (i : ℕ) (hs : List Value) → is_own own v ≡ false → is_among v.name pl.identifiers ≡ true → length pl.identifiers + (i + length hs) ≤ 2 ^ 64 → is_among v.name (received_names pl own i hs) ≡ false
  received_other v i [] e w b = refl
  received_other v i (result_of t ∷ hs) e w b =
      either_false (bytes_eq v.name (fresh_variable pl.identifiers i)) (is_among v.name (received_names pl own (suc i) hs)) (word_unlike pl v.name i w (omega (arith, b))) (received_other v (suc i) hs e w (omega (arith, b)))
  received_other v i (held_by x ∷ hs) e w b =
      either_false (bytes_eq v.name (if is_own own x then x.name else fresh_variable pl.identifiers i)) (is_among v.name (received_names pl own (suc i) hs))
      (not_own v (is_own own x) x (fresh_variable pl.identifiers i) refl e (word_unlike pl v.name i w (omega (arith, b)))) (received_other v (suc i) hs e w (omega (arith, b)))

  back_meant : (sc : Variables) (d : ℕ) (all hs : List Value) → length pl.identifiers + length all ≤ 2 ^ 64 → Every (ValueMeant G M sc) hs → Every (BackMeant (entered sc (declared_from s d (received_names pl own 0 all)))) hs
  back_meant sc d all [] b h = tt
  back_meant sc d all (result_of t ∷ hs) b h = (tt, back_meant sc d all hs b h.1)
  back_meant sc d all (held_by v ∷ hs) b h = (
    λ e. let m = h.0 e in (m.0.0, m.0.1, m.0.2, not_hidden s d (received_names pl own 0 all) sc v.name (received_other v 0 all e m.1 (omega (arith, b))) ∙ m.0.3, m.0.4),
    back_meant sc d all hs b h.1,
  )

  -- ---- several values

  pub data IsTuplePattern (d : ℕ) (ms : List Bool) : named.Pattern → Type 0 where
    is_tuple_pattern : {n : Node} {ps : named.Patterns} → n.span ≡ s → AreBound s d ms ps → IsTuplePattern d ms (named.tuple_pattern n ps)

  abbrev pub TupleMade : List ℕ → List PatternTree → Names → List Bool → ItemNames → Type 0
  TupleMade at' ps xs ms u = Makes items M u (λ v. in_pattern I' at' (plain.tuple_pattern s (as_patterns ps)) (record { bindings = []; tables = u }) ≡ Ok (record { bindings = declared_from s (length u.vars) xs; tables = v }))
      (λ R u' es. Alone (IsTuplePattern (length u.vars) ms) u u' es (of_pattern (plain.tuple_pattern s (as_patterns ps))))

  tuple_made : (at' : List ℕ) (hs : List Value) → Distinct (received_names pl own 0 hs) → (u : ItemNames) → TupleMade at' (all_received pl s own 0 hs) (received_names pl own 0 hs) (received_mutable own hs) u
  tuple_made at' hs new u =
      let xs = received_pairs pl own 0 hs in
      subst (λ (ps : List PatternTree). TupleMade at' ps (received_names pl own 0 hs) (received_mutable own hs) u) (sym (received_is pl s own 0 hs))
      (subst (λ (ms : List Bool). TupleMade at' (bindings_of s xs) (received_names pl own 0 hs) ms u) (received_muted pl own 0 hs)
      (subst (λ (ys : Names). TupleMade at' (bindings_of s xs) ys (bound_mutable xs) u) (received_named pl own 0 hs)
      (makes_map (made_bindings items M I' s at' 0 xs [] u (subst (λ (ys : Names). AllNew [] ys) (sym (received_named pl own 0 hs)) (all_new [] (received_names pl own 0 hs) new (none_done (received_names pl own 0 hs))))) (λ a. a)
      (λ R sv N. alone_node s Site.Value (λ n g. alone_map (named.tuple_pattern n) N (λ ps h. is_tuple_pattern g h))))))

  -- ---- each shape

  abbrev pub W : Renaming → named.Exp → Type 0
  W R e = IsWhole G R (has_enum pl.exits) e

  abbrev pub C0 : Expression
  C0 = whole_call pl s (labels_of G.loops)

  abbrev pub WholeMade : Variables → Type 0
  WholeMade sc = (at' : List ℕ) (u : ItemNames) → Makes items M u (λ v. in_expression I' sc ls at' C0 u ≡ Ok v) (ExpAlone W u C0)

  abbrev pub HandedMade : Variables → List ℕ → ℕ → List Value → ItemNames → Type 0
  HandedMade sc at' i hs u = Makes items M u (λ v. in_statements I' sc ls at' i (as_statements (handed pl s own C0 hs).statements) u ≡ Ok (goes_to (entered sc (declared_from s (length u.vars) (handed_names pl own hs))) v))
      (StatementsAlone (λ R ss. AreHanded G R (W R) nothing_more (length u.vars) hs ss) u (as_statements (handed pl s own C0 hs).statements))

  bound_one : (v : Variable) (d : ℕ) → is_own own v ≡ true → (R : Renaming) (n : Node) → n.span ≡ s → (q : named.Pattern) → IsBind s d v.mutable q → (e : named.Exp) → W R e
      → (ss : named.Statements) → nothing_more ss → AreHanded G R (W R) nothing_more d (held_by v ∷ []) (named.statement_and (named.lets n q None e) ss)
  bound_one v d o R n g _ (is_bind k) e w ss z = one_bound o g k w z

  bound_several : (h i : Value) (hs : List Value) (d : ℕ) (R : Renaming) (n : Node) → n.span ≡ s → (q : named.Pattern) → IsTuplePattern d (received_mutable own (h ∷ i ∷ hs)) q → (e : named.Exp) → W R e
      → (ss : named.Statements) → ArePutBack G R nothing_more d (h ∷ i ∷ hs) ss → AreHanded G R (W R) nothing_more d (h ∷ i ∷ hs) (named.statement_and (named.lets n q None e) ss)
  bound_several h i hs d R n g _ (is_tuple_pattern k b) e w ss r = several_bound g k b w r

  one_made : (sc : Variables) (at' : List ℕ) (i : ℕ) (v : Variable) → WholeMade sc → ValueMeant G M sc (held_by v) → (u : ItemNames) → HandedMade sc at' i (held_by v ∷ []) u
  one_made sc at' i v E m u = by (is_own own v) refl
    where
      by : (b : Bool) → is_own own v ≡ b
          → Makes items M u (λ w. in_statements I' sc ls at' i (as_statements ((if b then let_value s (binding s v.name v.mutable) C0 else assignment s v.name C0) ∷ [])) u ≡ Ok (goes_to (entered sc (declared_from s (length u.vars) (if b then v.name ∷ [] else []))) w))
          (StatementsAlone (λ R ss. AreHanded G R (W R) nothing_more (length u.vars) (held_by v ∷ []) ss) u (as_statements ((if b then let_value s (binding s v.name v.mutable) C0 else assignment s v.name C0) ∷ [])))
      by true o =
          let d = length u.vars in let ds = declared_from s d (v.name ∷ []) in let sc1 = entered sc ds in
          let T : Renaming → named.Statement → Type 0 = λ R a. (ss : named.Statements) → nothing_more ss → AreHanded G R (W R) nothing_more d (held_by v ∷ []) (named.statement_and a ss) in
          let B = made_bind items M I' s (child (child at' i) 0) v.name v.mutable [] u refl in
          let A = made_let items M I' s sc ls (child at' i) (binding s v.name v.mutable) ds C0 (λ R q. IsBind s d v.mutable q) W T u B (E (child (child at' i) 1) B.table) (bound_one v d o) in
          made_more items M I' s sc ls at' i (let_value s (binding s v.name v.mutable) C0) plain.no_statement sc1 sc1 T (λ R ss. nothing_more ss) (λ R ss. AreHanded G R (W R) nothing_more d (held_by v ∷ []) ss) u A (empty sc1 A.table) (λ R a ss p z. p ss z)
      by false o =
          let d = length u.vars in let x = plain.assign s (plain.var s v.name) C0 in
          let A = made_done items M I' s sc ls (child at' i) x (λ R b. IsAssigned G.call R v.name (W R) b) u
          (made_assigned items G.call I' sc ls M (child (child at' i) 0) v.name C0 W (m o).0 (λ u. E (child (child (child at' i) 0) 1) u) u) in
          made_more items M I' s sc ls at' i (done s x) plain.no_statement sc sc (λ R a. IsDone s (IsAssigned G.call R v.name (W R)) a) (λ R ss. nothing_more ss) (λ R ss. AreHanded G R (W R) nothing_more d (held_by v ∷ []) ss) u A (empty sc A.table) (λ R a ss p z. one_assigned o p z)

  pub made_handed : (sc : Variables) (at' : List ℕ) (i : ℕ) (hs : List Value) → WholeMade sc → Every (ValueMeant G M sc) hs → Distinct (received_names pl own 0 hs) → length pl.identifiers + length hs ≤ 2 ^ 64 → (u : ItemNames) → HandedMade sc at' i hs u
  made_handed sc at' i [] E m new b u =
      let A = made_done items M I' s sc ls (child at' i) C0 W u (E (child (child at' i) 0) u) in
      made_more items M I' s sc ls at' i (done s C0) plain.no_statement sc sc (λ R a. IsDone s (W R) a) (λ R ss. nothing_more ss) (λ R ss. AreHanded G R (W R) nothing_more (length u.vars) [] ss) u A (empty sc A.table) (λ R a ss p z. done_alone p z)
  made_handed sc at' i (result_of t ∷ []) E m new b u = makes_map (empty sc u) (λ a. a) (λ R sv N. weaker N (λ ss e. is_tail e))
  made_handed sc at' i (held_by v ∷ []) E m new b u = one_made sc at' i v E m.0 u
  made_handed sc at' i (h ∷ j ∷ hs) E m new b u =
      let d = length u.vars in let all = h ∷ j ∷ hs in let ds = declared_from s d (received_names pl own 0 all) in let sc1 = entered sc ds in let p = plain.tuple_pattern s (as_patterns (all_received pl s own 0 all)) in
      let T : Renaming → named.Statement → Type 0 = λ R a. (ss : named.Statements) → ArePutBack G R nothing_more d all ss → AreHanded G R (W R) nothing_more d all (named.statement_and a ss) in
      let B = tuple_made (child (child at' i) 0) all new u in
      let A = made_let items M I' s sc ls (child at' i) p ds C0 (λ R q. IsTuplePattern d (received_mutable own all) q) W T u B (E (child (child at' i) 1) B.table) (bound_several h j hs d) in
      made_more items M I' s sc ls at' i (let_value s p C0) (as_statements (all_put_back pl s own 0 all)) sc1 sc1 T (λ R ss. ArePutBack G R nothing_more d all ss) (λ R ss. AreHanded G R (W R) nothing_more d all ss) u A
      (made_back sc1 at' (next i) 0 d all (meant_from s d (received_names pl own 0 all) sc new) (back_meant sc d all all b m) A.table) (λ R a ss q r. q ss r)
