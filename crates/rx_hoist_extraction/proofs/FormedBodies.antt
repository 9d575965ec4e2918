-- The body of the new function is formed: what becomes of the run's places is, and each end leaves no statement open. Statements that
-- stand in a row are formed each; only the last asks what follows it.
use Rattle.std.proofs.Common.{◌≡◌, ℕ, Bool, true, false, List, [], ◌∷◌, ◌++◌, map, Option, Some, None, refl, sym, subst, append-nil}
use Rattle.std.specs.Prelude.{if◌then◌else◌, not, ◌&&◌, ◌||◌}
use Rattle.rx_core.specs.declared.types.Span.{Span}
use Rattle.rx_tree.specs.declared.tree.Ident.{Ident}
use Rattle.rx_tree.specs.Lists.{Every, listed}
use Rattle.rx_tree.specs.Plain as plain
use Rattle.rx_tree.specs.Plain.{Expression, OptionalExpression, Body, Statement, ProgramTree}
use Rattle.rx_resolve_names.specs.Meant.{Around}
use Rattle.rx_typed.specs.Types.{Typ}
use Rattle.rx_print_spelling.specs.Formed.{Spells, MaybeLasting, MoreFollows, has_semicolon, Formed, FormedList, FormedOptionalList, FormedOptional, FormedBody, FormedStatement, FormedStatements}
use Rattle.rx_hoist_extraction.specs.Names.{Names, is_among, bound_by, behind_all}
use Rattle.rx_hoist_extraction.specs.Run.{Parts, as_statements}
use Rattle.rx_hoist_extraction.specs.Plan.{Exit, to_next, to_break, to_continue, to_return, Variable, Plan, has_exit, has_enum, outs_of, names_of, is_unit, enum_name, exit_name}
use Rattle.rx_hoist_extraction.specs.Fresh.{fresh_variable}
use Rattle.rx_hoist_extraction.specs.Made.{as_expressions, joined, given, variant, let_typed}
use Rattle.rx_hoist_extraction.specs.WrittenTypes.{elided}
use Rattle.rx_hoist_extraction.specs.Changed.{Changes, changed_statements, changed_optional}
use Rattle.rx_hoist_extraction.specs.Moved.{referred, leaves, leaving, moved_variable, moved_break, moved_continue, returned, returned_unit, moved_return, moving}
use Rattle.rx_hoist_extraction.specs.NewBody.{declared, handing_on, tail_done, followed, last_part, last_of, stays_last, with_tail, unfollowed, in_tuple, with_value, is_any, is_followed, without_value, ended, next_outs, new_body}
use Rattle.rx_hoist_extraction.specs.FormedPlan.{TypeSpells, MaybeSpells, VariableSpells, FormedPlan}
use Rattle.rx_hoist_extraction.proofs.MadeNames.{exit_is_identifier, exit_name_spells, variable_is_identifier}
use Rattle.rx_hoist_extraction.proofs.FormedChanges.{FormedPlaces, formed_statement, formed_optional}
use Rattle.rx_hoist_extraction.proofs.FormedSignatures.{elided_formed, outs_spell}

-- ---- lists of expressions

pub listed_formed : (es : List Expression) → Every Formed es → FormedList (as_expressions es)
listed_formed [] h = tt
listed_formed (e ∷ es) h = (h.0, listed_formed es h.1)

given_formed : (es : List Expression) → Every Formed es → FormedOptionalList (given es)
given_formed [] h = tt
given_formed (e ∷ es) h = (tt, listed_formed (e ∷ es) h)

pub joined_formed : (s : Span) (es : List Expression) → Every Formed es → FormedOptional (joined s es)
joined_formed s [] h = tt
joined_formed s (e ∷ []) h = h.0
joined_formed s (e ∷ f ∷ es) h = listed_formed (e ∷ f ∷ es) h

outs_formed : (P : ProgramTree) (s : Span) (vs : List Variable) → Every (VariableSpells P) vs → Every Formed (map (plain.var s) (names_of vs))
outs_formed P s [] h = tt
outs_formed P s (v ∷ vs) h = (h.0.0, outs_formed P s vs h.1)

variant_formed : (pl : Plan) → Spells pl.name → (s : Span) (x : Exit) (es : List Expression) → Every Formed es → Formed (variant s (enum_name pl) (exit_name x) es)
variant_formed pl n s x es h = (exit_is_identifier pl n, exit_name_spells x, given_formed es h)

-- ---- the special places of the run

module _ (P : ProgramTree) (pl : Plan) (F : FormedPlan P pl) (r : Span) where
  variable_moved : (own : Names) (s : Span) (x : List ℕ) → Spells x → Formed (moved_variable pl r own s x)
  variable_moved own s x h = by (not (is_among x own) && is_among x (referred pl.params))
    where
      by : (b : Bool) → Formed (if b then plain.deref r (plain.var s x) else plain.var s x)
      by true = h
      by false = h

  handed_out : (x : Exit) → Formed (leaving pl r x)
  handed_out x = variant_formed pl F.name r x (map (plain.var r) (names_of (outs_of x pl.exits))) (outs_formed P r (outs_of x pl.exits) (outs_spell P x pl.exits F.exits))

  break_moved : (s : Span) (l : Option Ident) (k : Option ℕ) → MaybeLasting l → Formed (moved_break pl r s l k)
  break_moved s l None h = h
  break_moved s l (Some k) h = handed_out (to_break k)

  continue_moved : (s : Span) (l : Option Ident) (k : Option ℕ) → MaybeLasting l → Formed (moved_continue pl r s l k)
  continue_moved s l None h = h
  continue_moved s l (Some k) h = handed_out (to_continue k)

  out_0_spells : Spells (fresh_variable pl.identifiers 0)
  out_0_spells = variable_is_identifier pl.identifiers 0 F.fresh_variable

  return_moved : (s : Span) (o : OptionalExpression) → FormedOptional o → Formed (moved_return pl r s o)
  return_moved s plain.absent h = variant_formed pl F.name r to_return [] tt
  return_moved s (plain.present e) h = by (is_unit pl.result)
    where
      by : (b : Bool) → Formed (if b then returned_unit pl r e else returned pl r (e ∷ []))
      by true = ((((tt, out_0_spells, tt, h), tt, tt)), variant_formed pl F.name r to_return [] tt)
      by false = variant_formed pl F.name r to_return (e ∷ []) (h, tt)

  pub run_places : FormedPlaces (moving pl r)
  run_places = record {
    variable = variable_moved;
    breaking = λ ls s l h. break_moved s l (leaves l ls) h;
    continuing = λ ls s l h. continue_moved s l (leaves l ls) h;
    returning = return_moved;
    typing = λ p t h. h;
    blocking = λ b c f g. g;
  }

-- ---- statements in a row

-- something follows
abbrev pub Follows : List Statement → OptionalExpression → Type 0
Follows ss y = MoreFollows false (as_statements ss) y

any_follows : (b : Bool) (xs ys : List Statement) (y : OptionalExpression) → Follows ys y → MoreFollows b (as_statements (xs ++ ys)) y
any_follows true xs ys y h = tt
any_follows false [] ys y h = h
any_follows false (x ∷ xs) ys y h = tt

pub row_formed : (xs ys : List Statement) (y : OptionalExpression) → Every FormedStatement xs → FormedStatements (as_statements ys) y → Follows ys y
    → FormedStatements (as_statements (xs ++ ys)) y
row_formed [] ys y h f w = f
row_formed (x ∷ xs) ys y h f w = (h.0, any_follows (has_semicolon x) xs ys y w, row_formed xs ys y h.1 f w)

-- each with its `;`
abbrev pub Closed : Statement → Type 0
Closed a = FormedStatement a × (has_semicolon a ≡ true)

pub closed_formed : (xs ys : List Statement) (y : OptionalExpression) → Every Closed xs → FormedStatements (as_statements ys) y → FormedStatements (as_statements (xs ++ ys)) y
closed_formed [] ys y h f = f
closed_formed (x ∷ xs) ys y h f = (h.0.0, subst (λ b. MoreFollows b (as_statements (xs ++ ys)) y) (sym h.0.1) tt, closed_formed xs ys y h.1 f)

abbrev pub FormedParts : Parts → Type 0
FormedParts p = FormedStatements (as_statements p.statements) p.tail × FormedOptional p.tail

pub declared_closed : (P : ProgramTree) (s : Span) (vs : List Variable) → Every (VariableSpells P) vs → Every Closed (declared P s vs)
declared_closed P s [] h = tt
declared_closed P s (v ∷ vs) h = (((tt, h.0.0, elided_formed P s v.typ h.0.1, tt), refl), declared_closed P s vs h.1)

-- ---- the run, moved

each_moved : (C : Changes) → FormedPlaces C → (own : Names) (ls : List Around) (ss : List Statement) → Every FormedStatement ss
    → Every FormedStatement (listed (changed_statements C own ls (as_statements ss)))
each_moved C F own ls [] h = tt
each_moved C F own ls (a ∷ ss) h = (formed_statement C F own ls a h.0, each_moved C F (bound_by a ++ own) ls ss h.1)

-- ---- the ends

module _ (P : ProgramTree) (pl : Plan) (F : FormedPlan P pl) (r : Span) where
  handed_on : (es : List Expression) → Every Formed es → FormedOptional (handing_on pl r es)
  handed_on es h = by (has_enum pl.exits)
    where
      by : (b : Bool) → FormedOptional (if b then plain.present (variant r (enum_name pl) (exit_name to_next) es) else joined r es)
      by true = variant_formed pl F.name r to_next es h
      by false = joined_formed r es h

  -- where something is handed on there is a tail
  present_at : (b : Bool) (es : List Expression) → (b || is_any es) ≡ true → Follows [] (if b then plain.present (variant r (enum_name pl) (exit_name to_next) es) else joined r es)
  present_at true es e = tt
  present_at false [] e = absurd cc
  present_at false (e ∷ []) q = tt
  present_at false (e ∷ f ∷ es) q = tt

  tail_closed : (o : OptionalExpression) → FormedOptional o → Every Closed (tail_done r o)
  tail_closed plain.absent h = tt
  tail_closed (plain.present e) h = (((tt, h), refl), tt)

  followed_formed : (ss : List Statement) (o : OptionalExpression) (es : List Expression) → Every FormedStatement ss → FormedOptional o → Every Formed es
      → (has_enum pl.exits || is_any es) ≡ true → FormedParts (followed pl r (record { statements = ss; tail = o }) es)
  followed_formed ss o es h g k e = (row_formed ss (tail_done r o) (handing_on pl r es) h (only o g) (after o), handed_on es k)
    where
      only : (o : OptionalExpression) → FormedOptional o → FormedStatements (as_statements (tail_done r o)) (handing_on pl r es)
      only plain.absent g = tt
      only (plain.present e) g = ((tt, g), tt, tt)

      after : (o : OptionalExpression) → Follows (tail_done r o) (handing_on pl r es)
      after plain.absent = present_at (has_enum pl.exits) es e
      after (plain.present e) = tt

  -- a last statement, and that it is one
  abbrev Ends : Parts → Type 0
  Ends p = FormedParts p × Follows p.statements p.tail

  last_ends : (stays : Bool) (a : Statement) → FormedStatement a → Ends (last_part stays a)
  last_ends stays (plain.let_statement s p t i) h = (((h, tt, tt), tt), tt)
  last_ends stays (plain.expression_statement s e true) h = (((h, tt, tt), tt), tt)
  last_ends true (plain.expression_statement s e false) h = ((((tt, h.1), tt, tt), tt), tt)
  last_ends false (plain.expression_statement s e false) h = ((tt, h.1), tt)

  row_ends : (stays : Bool) (a : Statement) (ss : List Statement) → FormedStatement a → Every FormedStatement ss → Ends (last_of stays (a ∷ ss))
  row_ends stays a [] h k = last_ends stays a h
  row_ends stays a (b ∷ ss) h k = let rest = row_ends stays b ss k.0 k.1 in
      (((h, any_follows (has_semicolon a) [] (last_of stays (b ∷ ss)).statements (last_of stays (b ∷ ss)).tail rest.1, rest.0.0), rest.0.1), tt)

  last_formed : (stays : Bool) (ss : List Statement) → Every FormedStatement ss → FormedParts (last_of stays ss)
  last_formed stays [] h = (tt, tt)
  last_formed stays (a ∷ ss) h = (row_ends stays a ss h.0 h.1).0

  unfollowed_formed : (ss : List Statement) (o : OptionalExpression) → Every FormedStatement ss → FormedOptional o → FormedParts (with_tail (stays_last pl) ss o)
  unfollowed_formed ss plain.absent h g = last_formed (stays_last pl) ss h
  unfollowed_formed ss (plain.present e) h g = (subst (λ xs. FormedStatements (as_statements xs) (plain.present e)) (append-nil ss) (row_formed ss [] (plain.present e) h tt tt), g)

  without_formed : (ss : List Statement) (o : OptionalExpression) (es : List Expression) → Every FormedStatement ss → FormedOptional o → Every Formed es
      → FormedParts (without_value pl r (record { statements = ss; tail = o }) es)
  without_formed ss o es h g k = by (is_followed pl es) refl
    where
      second : (a b : Bool) → (a && b) ≡ true → b ≡ true
      second true b e = e
      second false b e = absurd cc

      by : (b : Bool) → is_followed pl es ≡ b → FormedParts (if b then followed pl r (record { statements = ss; tail = o }) es else unfollowed pl (record { statements = ss; tail = o }))
      by true e = followed_formed ss o es h g k (second (has_exit to_next pl.exits) (has_enum pl.exits || is_any es) e)
      by false e = unfollowed_formed ss o h g

  tuple_formed : (t : Typ) (ss : List Statement) (e : Expression) (es : List Expression) → TypeSpells P t → Every FormedStatement ss → Formed e → Every Formed es
      → FormedParts (in_tuple P pl r t ss e es)
  tuple_formed t ss e [] n h g k = (subst (λ xs. FormedStatements (as_statements xs) (plain.present e)) (append-nil ss) (row_formed ss [] (plain.present e) h tt tt), g)
  tuple_formed t ss e (o ∷ os) n h g k = let out_0 = fresh_variable pl.identifiers 0 in
      let spells = variable_is_identifier pl.identifiers 0 F.fresh_variable in (
        row_formed ss (let_typed r out_0 (elided P r t) e ∷ []) (joined r (plain.var r out_0 ∷ o ∷ os)) h ((tt, spells, elided_formed P r t n, g), tt, tt) tt,
        listed_formed (plain.var r out_0 ∷ o ∷ os) (spells, k),
      )

  valued_formed : (t : Typ) (ss : List Statement) (e : Expression) (es : List Expression) → TypeSpells P t → Every FormedStatement ss → Formed e → Every Formed es
      → FormedParts (with_value P pl r t ss e es)
  valued_formed t ss e es n h g k = by (has_enum pl.exits) refl
    where
      by : (b : Bool) → has_enum pl.exits ≡ b → FormedParts (if b then record { statements = ss; tail = handing_on pl r (e ∷ es) } else in_tuple P pl r t ss e es)
      by true q = (
        subst (λ xs. FormedStatements (as_statements xs) (handing_on pl r (e ∷ es))) (append-nil ss)
            (row_formed ss [] (handing_on pl r (e ∷ es)) h tt (present_at (has_enum pl.exits) (e ∷ es) (rw q refl))),
        handed_on (e ∷ es) (g, k),
      )
      by false q = tuple_formed t ss e es n h g k

  ended_formed : (v : Option Typ) (ss : List Statement) (o : OptionalExpression) (es : List Expression) → MaybeSpells P v → Every FormedStatement ss → FormedOptional o → Every Formed es
      → FormedParts (ended P pl r v ss o es)
  ended_formed (Some t) ss (plain.present e) es n h g k = valued_formed t ss e es n h g k
  ended_formed (Some t) ss plain.absent es n h g k = without_formed ss plain.absent es h g k
  ended_formed None ss o es n h g k = without_formed ss o es h g k

  pub body_formed : (ls : List Around) (p : Parts) → Every FormedStatement p.statements → FormedOptional p.tail → FormedBody (new_body P pl r ls p)
  body_formed ls p h g = let M = moving pl r in
      let places = run_places P pl F r in
      let ss = listed (changed_statements M [] ls (as_statements p.statements)) in
      let o = changed_optional M (behind_all [] (as_statements p.statements)) ls p.tail in
      let parts = ended_formed pl.value ss o (next_outs pl r) F.value (each_moved M places [] ls p.statements h)
      (formed_optional M places (behind_all [] (as_statements p.statements)) ls p.tail g)
      (outs_formed P r (outs_of to_next pl.exits) (outs_spell P to_next pl.exits F.exits)) in (
        closed_formed (declared P r pl.locals) (ended P pl r pl.value ss o (next_outs pl r)).statements (ended P pl r pl.value ss o (next_outs pl r)).tail
            (declared_closed P r pl.locals F.locals) parts.0,
        parts.1,
      )
