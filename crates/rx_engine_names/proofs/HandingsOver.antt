-- What stands in place of the run resolves where it is asked to, with its tail: the call in its shape, and behind it what is redeclared.
use Rattle.std.proofs.Common.{◌≡◌, ℕ, ◌+◌, ◌≤◌, ◌^◌, Bool, true, false, ◌||◌, List, [], ◌∷◌, ◌++◌, length, Option, Some, None, Ok, refl, sym, ap, ◌∙◌, subst, append_assoc, arith, bytes_eq}
use Rattle.rx_core.specs.declared.types.Span.{Span}
use Rattle.rx_tree.specs.Lists.{Every}
use Rattle.rx_tree.specs.Plain as plain
use Rattle.rx_tree.specs.Plain.{Expression, ProgramTree}
use Rattle.rx_resolve_names.specs.Scopes.{Variables, variable_named, entered}
use Rattle.rx_resolve_names.specs.declared.resolved.ItemNames.{ItemNames}
use Rattle.rx_resolve_names.specs.declared.resolved.NodeNames.{NodeNames}
use Rattle.rx_resolve_names.specs.Meant.{Around}
use Rattle.rx_resolve_names.specs.Steps.{Inside}
use Rattle.rx_resolve_names.specs.Names.{in_optional}
use Rattle.rx_typed.specs.Types.{Typ}
use Rattle.rx_typed.specs.Named as named
use Rattle.rx_typed.specs.Naming.{Cursor}
use Rattle.rx_hoist_extraction.specs.Names.{is_among, Distinct}
use Rattle.rx_hoist_extraction.specs.Plan.{Exit, to_next, to_break, to_continue, to_return, Variable, Param, Leaving, Plan, has_enum, names_of}
use Rattle.rx_hoist_extraction.specs.Values.{Value, result_of, held_by, next_values}
use Rattle.rx_hoist_extraction.specs.Fresh.{fresh_variable}
use Rattle.rx_hoist_extraction.specs.NewBody.{declared}
use Rattle.rx_hoist_extraction.specs.Call.{whole_call, handed}
use Rattle.rx_engine_names.specs.Renaming.{Renaming, Has, Made}
use Rattle.rx_engine_names.specs.Replaced.{joined, LoopsAlike}
use Rattle.rx_engine_names.specs.Placed.{Meet, AllMeet}
use Rattle.rx_engine_names.specs.Moves.{labels_of}
use Rattle.rx_engine_names.specs.HandedOut.{Handing, IsWhole, AreHanded, AreRedeclared, IsTail, no_value, no_result, call_is_tail, first_is_tail}
use Rattle.rx_engine_names.specs.HandsOver.{NameMeant, OutMeant, LoopMeant, ExitMeant, ValueMeant, MeansOne, WordMeansOne, LeadsOut, ExitStands, ValueStands, HandsOut, received_names, handed_names, declared_from, HandsOver, HandedOver}
use Rattle.rx_engine_names.proofs.Fitting.{Fits}
use Rattle.rx_engine_names.proofs.FoundTypes.{Finds}
use Rattle.rx_engine_names.proofs.Alone.{alone_give, alone_then, alone_map, Makes, makes_nothing, makes_map}
use Rattle.rx_engine_names.proofs.MadeBindings.{bytes_swap, not_hidden, meant_from}
use Rattle.rx_engine_names.proofs.MadeUses.{ElseAlone, goes_to, made_use}
use Rattle.rx_engine_names.proofs.MadeArms.{word_unlike}
use Rattle.rx_engine_names.proofs.MadeMatches.{made_whole}
use Rattle.rx_engine_names.proofs.MadeDeclarations.{made_redeclared}
use Rattle.rx_engine_names.proofs.MadeHandings.{WholeMade, made_handed, handed_then}
use Rattle.rx_engine_names.proofs.ReplacedBlocks.{past_all, join, numbered_in_a_row}

-- ---- what the text says is what is asked, where names and loops correspond

module _ (G : Handing) (I' : Inside) (sc' : Variables) (ls' : List Around) (M : Made) (meet : AllMeet (Has M.variables) G.call.scope sc') (loops : LoopsAlike M G.loops ls') where
  met : (o o' : Option ℕ) (n : ℕ) → Meet (Has M.variables) o o' → o ≡ Some n → (m : ℕ) × (o' ≡ Some m) × Has M.variables n m
  met (Some k) (Some m) n h e = (m, refl, subst (λ (k : ℕ). Has M.variables k m) (let d : k ≡ n = cc in d) h)
  met (Some k) None n h e = absurd h
  met None (Some m) n h e = absurd h
  met None None n h e = absurd (cc)

  met_none : (o o' : Option ℕ) → Meet (Has M.variables) o o' → o ≡ None → o' ≡ None
  met_none None None h e = refl
  met_none None (Some m) h e = absurd h
  met_none (Some k) None h e = absurd h
  met_none (Some k) (Some m) h e = absurd (cc)

  name_meant : (x : List ℕ) → MeansOne G.call.scope x → NameMeant G M sc' x
  name_meant x h = let r = met (variable_named G.call.scope x) (variable_named sc' x) h.0 (meet x) h.1 in (h.0, r.0, h.1, r.1, r.2)

  all_params : (xs : List Param) → Every (λ (x : Param). MeansOne G.call.scope x.variable.name) xs → Every (λ (x : Param). NameMeant G M sc' x.variable.name) xs
  all_params [] h = tt
  all_params (x ∷ xs) h = (name_meant x.variable.name h.0, all_params xs h.1)

  all_outs : (vs : List Variable) → Every (WordMeansOne G) vs → Every (OutMeant G M sc') vs
  all_outs [] h = tt
  all_outs (v ∷ vs) h = ((name_meant v.name h.0.0, h.0.1), all_outs vs h.1)

  loop_meant : (k : ℕ) → LeadsOut G k → LoopMeant G M ls' k
  loop_meant k h = let r = loops _ h.0 h.2 in (h.0, r.0, h.1, r.1, r.2)

  exit_meant : (x : Exit) (vs : List Variable) → ExitStands G x vs → ExitMeant G M sc' ls' x vs
  exit_meant to_next vs h = tt
  exit_meant (to_break k) vs h = (loop_meant k h.0, all_outs vs h.1)
  exit_meant (to_continue k) vs h = (loop_meant k h.0, all_outs vs h.1)
  exit_meant to_return vs h = tt

  all_exits : (xs : List Leaving) → Every (λ (x : Leaving). ExitStands G x.exit x.outs) xs → Every (λ (x : Leaving). ExitMeant G M sc' ls' x.exit x.outs) xs
  all_exits [] h = tt
  all_exits (x ∷ xs) h = (exit_meant x.exit x.outs h.0, all_exits xs h.1)

  all_values : (hs : List Value) → Every (ValueStands G) hs → Every (ValueMeant G M sc') hs
  all_values [] h = tt
  all_values (result_of t ∷ hs) h = (tt, all_values hs h.1)
  all_values (held_by v ∷ hs) h = (λ e. let m = h.0 e in (name_meant v.name m.0, m.1), all_values hs h.1)

  pub hands_over : HandsOut G I' → HandsOver G I' sc' ls' M
  hands_over h = record {
    function = (h.function, met_none (variable_named G.call.scope G.call.plan.name) (variable_named sc' G.call.plan.name) (meet G.call.plan.name) h.unnamed);
    params = all_params G.call.plan.params h.params;
    variants = h.variants;
    exits = all_exits G.call.plan.exits h.exits;
    values = all_values (next_values G.call.plan) h.values;
    received = h.received;
    redeclared = h.redeclared;
    fresh_exits = h.fresh_exits;
    fresh_values = h.fresh_values;
  }

-- ---- all of it

-- where the call's value is the tail, nothing is redeclared
abbrev pub NothingBehind : Plan → List Value → Type 0
NothingBehind pl hs = (t : Typ) → hs ≡ result_of t ∷ [] → pl.redeclared ≡ []

module _ (items : ℕ → ℕ) (P : ProgramTree) (I I' : Inside) (F : Fits items I I') (G : Handing) (sc : Variables) (ls : List Around) (M : Made) (h : HandsOver G I' sc ls M) (found : Every (λ (v : Variable). Finds I P v.typ) G.call.plan.redeclared) where
  abbrev s : Span
  s = G.call.place

  abbrev pl : Plan
  pl = G.call.plan

  abbrev C0 : Expression
  C0 = whole_call pl s (labels_of G.loops)

  abbrev W : Renaming → named.Exp → Type 0
  W R e = IsWhole G R (has_enum pl.exits) e

  whole : WholeMade items G I' ls M sc
  whole at' u = made_whole items G I' sc ls M at' h.function h.params h.variants h.exits h.fresh_exits u

  not_redeclared : (vs : List Variable) → Every (λ (v : Variable). is_among v.name pl.identifiers ≡ true) vs → length pl.identifiers + 1 ≤ 2 ^ 64 → is_among (fresh_variable pl.identifiers 0) (names_of vs) ≡ false
  not_redeclared [] w b = refl
  not_redeclared (v ∷ vs) w b =
      ap (λ (z : Bool). z || is_among (fresh_variable pl.identifiers 0) (names_of vs))
      (bytes_swap v.name (fresh_variable pl.identifiers 0) (bytes_eq (fresh_variable pl.identifiers 0) v.name) (word_unlike pl v.name 0 w.0 b) refl) ∙ not_redeclared vs w.1 b

  abbrev scope_at : List Value → ℕ → ℕ → Variables
  scope_at hs d later = entered (entered sc (declared_from s d (handed_names pl G.own hs))) (declared_from s later (names_of pl.redeclared))

  abbrev TailMade : List Value → ℕ → ℕ → List ℕ → ItemNames → Type 0
  TailMade hs d later way u = Makes items M u (λ v. in_optional I' (scope_at hs d later) ls way (handed pl s G.own C0 hs).tail u ≡ Ok v) (ElseAlone (λ R o. IsTail s (W R) d hs o) u (handed pl s G.own C0 hs).tail)

  tail_made : (hs : List Value) → NothingBehind pl hs → Distinct (received_names pl G.own 0 hs) → length pl.identifiers + length hs ≤ 2 ^ 64 → (d later : ℕ) (way : List ℕ) (u : ItemNames) → TailMade hs d later way u
  tail_made [] none new b d later way u = makes_nothing u (λ v. Ok u ≡ Ok v) (ElseAlone (λ R o. IsTail s (W R) d [] o) u plain.absent) refl (λ R k. alone_give named.absent no_value)
  tail_made (held_by v ∷ []) none new b d later way u = makes_nothing u (λ w. Ok u ≡ Ok w) (ElseAlone (λ R o. IsTail s (W R) d (held_by v ∷ []) o) u plain.absent) refl (λ R k. alone_give named.absent no_result)
  tail_made (held_by v ∷ i ∷ hs) none new b d later way u = makes_nothing u (λ w. Ok u ≡ Ok w) (ElseAlone (λ R o. IsTail s (W R) d (held_by v ∷ i ∷ hs) o) u plain.absent) refl (λ R k. alone_give named.absent no_result)
  tail_made (result_of t ∷ []) none new b d later way u =
      subst (λ (vs : List Variable). Makes items M u (λ v. in_optional I' (entered sc (declared_from s later (names_of vs))) ls way (plain.present C0) u ≡ Ok v) (ElseAlone (λ R o. IsTail s (W R) d (result_of t ∷ []) o) u (plain.present C0))) (sym (none t refl))
      (makes_map (whole way u) (λ a. a) (λ R sv N k. alone_map named.present (N false k) (λ e p. call_is_tail p)))
  tail_made (result_of t ∷ i ∷ hs) none new b d later way u =
      let xs = received_names pl G.own 0 (result_of t ∷ i ∷ hs) in
      let e = not_hidden s later (names_of pl.redeclared) (entered sc (declared_from s d xs)) (fresh_variable pl.identifiers 0) (not_redeclared pl.redeclared h.redeclared (omega (arith, b))) ∙ (meant_from s d xs sc new).0 in
      makes_map (made_use items M I' s (scope_at (result_of t ∷ i ∷ hs) d later) ls way (fresh_variable pl.identifiers 0) d e u) (λ a. a) (λ R sv N k. alone_map named.present (N false k) (λ e p. first_is_tail p))

  pub handing_over : NothingBehind pl (next_values pl) → (at' : List ℕ) (i' : ℕ) (u : ItemNames) → HandedOver items P G I' sc ls M at' i' u
  handing_over none at' i' u =
      let hs = next_values pl in let d = length u.vars in
      let xs = (handed pl s G.own C0 hs).statements in let ys = declared P s pl.redeclared in
      let sc1 = entered sc (declared_from s d (handed_names pl G.own hs)) in
      let A = made_handed items G I' ls M sc at' i' hs whole h.values h.received h.fresh_values u in
      let later = length A.table.vars in
      let B = made_redeclared items I I' F P s M ls at' (past_all i' xs) pl.redeclared found sc1 A.table in
      let sc2 = entered sc1 (declared_from s later (names_of pl.redeclared)) in record {
        later = later;
        tables = B.table;
        resolves = join I' sc ls at' i' xs ys u (goes_to sc1 A.table) (goes_to sc2 B.table) A.answer B.answer;
        added = A.added ++ B.added;
        grown = B.grown ∙ ap (λ (l : List NodeNames). l ++ B.added) A.grown ∙ append_assoc u.names A.added B.added;
        like = λ R sv c rest q e.
            subst (λ (z : named.Statements × Cursor). AreHanded G R (W R) (AreRedeclared s R later pl.redeclared) d hs z.0) (sym (numbered_in_a_row xs ys c))
            ((alone_then (A.numbers R sv) (λ a p. alone_map {T = λ z. AreHanded G R (W R) (AreRedeclared s R later pl.redeclared) d hs z} (joined a) (B.numbers R sv) (λ b r. handed_then G R (W R) (AreRedeclared s R later pl.redeclared) b r d hs a p))).holds c rest q e).like;
        ends = λ way. let T = tail_made hs none h.received h.fresh_values d later way B.table in
            record { tables = T.table; resolves = T.answer; added = T.added; grown = T.grown; like = λ R sv k c rest q e. ((T.numbers R sv k).holds c rest q e).like };
      }
