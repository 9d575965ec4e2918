-- The extraction of a formed program is formed, where its plan's names are words: the function with the call, the enum and the new
-- function are, and the other items are the old ones.
use Rattle.std.proofs.Common.{◌≡◌, ℕ, zero, suc, ◌+◌, ◌≤◌, Bool, true, false, List, [], ◌∷◌, ◌++◌, length, Option, Some, None, take, drop, refl, sym, subst, ap, arith, leb-true, drop_of_length-le}
use Rattle.std.specs.Prelude.{if◌then◌else◌, option_map}
use Rattle.rx_core.specs.declared.types.Span.{Span}
use Rattle.rx_tree.specs.Lists.{Every, listed, nth, statements}
use Rattle.rx_tree.specs.Spans.{body_span, pattern_span}
use Rattle.rx_tree.specs.Plain as plain
use Rattle.rx_tree.specs.Plain.{TypeTree, PatternTree, OptionalExpression, Body, Statement, Statements, Function, ItemTree, ProgramTree}
use Rattle.rx_tree.proofs.NodesLaws.{every_both}
use Rattle.rx_typed.specs.Types.{Typ}
use Rattle.rx_print_spelling.specs.Formed.{Lasting, WrittenType, FormedOptional, FormedBody, FormedStatement, FormedStatements, FormedItem, FormedProgram}
use Rattle.rx_hoist_extraction.specs.Run.{Run, Parts, as_statements, in_front, behind, goes_past, rest_tail, with_parts, run_block, run_parts, labels_round, loops_round, same_place}
use Rattle.rx_hoist_extraction.specs.Plan.{Pins, Bounds, Plan, has_enum}
use Rattle.rx_hoist_extraction.specs.Fresh.{fresh_lifetime}
use Rattle.rx_hoist_extraction.specs.WrittenTypes.{lifetimes_from, elided}
use Rattle.rx_hoist_extraction.specs.Pinned.{at_place, pinned_type, pinning, pinned, pinned_function}
use Rattle.rx_hoist_extraction.specs.NewFunction.{copied_lifetimes, new_lifetimes, signature_positions}
use Rattle.rx_hoist_extraction.specs.Call.{replacement}
use Rattle.rx_hoist_extraction.specs.Extraction.{replacing, with_call, made_function, made_enum, new_items, in_two, extraction}
use Rattle.rx_hoist_extraction.specs.FormedPlan.{TypeSpells, MaybeSpells, PinsSpell, FormedPlan}
use Rattle.rx_hoist_extraction.proofs.FormedChanges.{FormedPlaces, formed_body}
use Rattle.rx_hoist_extraction.proofs.FormedSignatures.{elided_formed, enum_formed, params_formed, result_formed, bounds_formed, fresh_lasting}
use Rattle.rx_hoist_extraction.proofs.FormedBodies.{Follows, Closed, row_formed, closed_formed, body_formed}
use Rattle.rx_hoist_extraction.proofs.FormedRuns.{every_take, every_drop, each_statement, block_formed, parts_formed, labels_lasting, copied_lasting}
use Rattle.rx_hoist_extraction.proofs.FormedCalls.{replacement_formed, call_is_statement, still_follows}
use Rattle.rx_hoist_extraction.proofs.NewItemsAt.{items_are}

-- ---- pinned

place_spells : (P : ProgramTree) (ps : List (Span × Typ)) (s : Span) → Every (λ (p : Span × Typ). TypeSpells P p.1) ps → MaybeSpells P (at_place ps s)
place_spells P [] s h = tt
place_spells P (p ∷ ps) s h = by (same_place p.0 s) (place_spells P ps s h.1)
  where
    by : (b : Bool) → MaybeSpells P (at_place ps s) → MaybeSpells P (if b then Some p.1 else at_place ps s)
    by true k = h.0
    by false k = k

elided_written : (P : ProgramTree) (s : Span) (t : Option Typ) → MaybeSpells P t → WrittenType (option_map (elided P s) t)
elided_written P s None h = tt
elided_written P s (Some t) h = elided_formed P s t h

type_pinned : (P : ProgramTree) (s : Span) (pins : Pins) → Every (λ (p : Span × Typ). TypeSpells P p.1) pins.types → (p : PatternTree) (t : Option TypeTree) → WrittenType t
    → WrittenType (pinned_type P s pins p t)
type_pinned P s pins h p (Some t) w = w
type_pinned P s pins h p None w = elided_written P s (at_place pins.types (pattern_span p)) (place_spells P pins.types (pattern_span p) h)

pinned_formed : (P : ProgramTree) (s : Span) (pins : Option Pins) → PinsSpell P pins → (b : Body) → FormedBody b → FormedBody (pinned P s pins b)
pinned_formed P s None h b f = f
pinned_formed P s (Some pins) h b f = formed_body (pinning P s pins) (record {
  variable = λ own s x h. h;
  breaking = λ ls s l h. h;
  continuing = λ ls s l h. h;
  returning = λ s o h. h;
  typing = type_pinned P s pins h;
  blocking = λ b c f g. g;
}) [] [] b f

-- ---- other parts in place of the run

again : (ss : Statements) → as_statements (listed ss) ≡ ss
again plain.no_statement = refl
again (plain.statement_and a ss) = ap (plain.statement_and a) (again ss)

suffix_formed : (n : ℕ) (ss : Statements) (o : OptionalExpression) → FormedStatements ss o → FormedStatements (as_statements (drop n (listed ss))) o
suffix_formed zero ss o f = subst (λ xs. FormedStatements xs o) (sym (again ss)) f
suffix_formed (suc n) plain.no_statement o f = tt
suffix_formed (suc n) (plain.statement_and a ss) o f = suffix_formed n ss o f.2

not_empty : (xs ys : List Statement) (y : OptionalExpression) → Follows xs plain.absent → Follows (xs ++ ys) y
not_empty [] ys y h = absurd h
not_empty (a ∷ xs) ys y h = tt

put_formed : (r : Run) (p : Parts) (s : Span) (ss : Statements) (o : OptionalExpression) → FormedBody (plain.body s ss o) → Every Closed p.statements → FormedOptional p.tail
    → Follows p.statements p.tail → (goes_past r (listed ss) ≡ false → Follows p.statements plain.absent) → FormedBody (with_parts r p (plain.body s ss o))
put_formed r p s ss o f c t w v = by (goes_past r (listed ss)) refl
  where
    l : List Statement
    l = listed ss

    front : Every FormedStatement (in_front r (listed ss))
    front = every_take FormedStatement r.first (listed ss) (each_statement ss o f.0)

    by : (g : Bool) → goes_past r (listed ss) ≡ g
        → FormedStatements (as_statements (in_front r (listed ss) ++ (p.statements ++ behind r (listed ss)))) (rest_tail g o p.tail) × FormedOptional (rest_tail g o p.tail)
    by true e = let short : length (listed ss) ≤ r.last = leb-true (length (listed ss)) r.last e in
        let none : behind r (listed ss) ≡ [] = drop_of_length-le (listed ss) (omega (arith, short)) in (
          subst (λ xs. FormedStatements (as_statements (in_front r (listed ss) ++ (p.statements ++ xs))) p.tail) (sym none)
              (row_formed (in_front r (listed ss)) (p.statements ++ []) p.tail front (closed_formed p.statements [] p.tail c tt) (still_follows p.statements [] p.tail w)),
          t,
        )
    by false e = (
      row_formed (in_front r (listed ss)) (p.statements ++ behind r (listed ss)) o front
          (closed_formed p.statements (behind r (listed ss)) o c (suffix_formed (r.last + 1) ss o f.0)) (not_empty p.statements (behind r (listed ss)) o (v e)),
      f.1,
    )

parts_put : (r : Run) (p : Parts) (b : Body) → FormedBody b → Every Closed p.statements → FormedOptional p.tail → Follows p.statements p.tail
    → (goes_past r (statements b) ≡ false → Follows p.statements plain.absent) → FormedBody (with_parts r p b)
parts_put r p (plain.body s ss o) f c t w v = put_formed r p s ss o f c t w v

replaced : (place : Span) (new : Body) → FormedBody new → FormedPlaces (replacing place new)
replaced place new h = record {
  variable = λ own s x h. h;
  breaking = λ ls s l h. h;
  continuing = λ ls s l h. h;
  returning = λ s o h. h;
  typing = λ p t h. h;
  blocking = λ b c f g. by (same_place place (body_span b)) c g;
}
  where
    by : (q : Bool) (c : Body) → FormedBody c → FormedBody (if q then new else c)
    by true c g = h
    by false c g = g

-- ---- the items

module _ (P : ProgramTree) (r : Run) (pl : Plan) (F : FormedPlan P pl) (bs : Bounds) (f : Function) (body : FormedBody f.body)
    (valued : goes_past r (statements (run_block r f)) ≡ false → pl.value ≡ None) where
  called_formed : FormedBody (with_call P r pl f).body
  called_formed = let block = run_block r f in
      let call = replacement P pl r.span (labels_round r f) (run_parts r f) in
      let good = replacement_formed P pl F r.span (labels_round r f) (labels_lasting r f body) (run_parts r f) in
      let new = with_parts r call block in
      formed_body (replacing (body_span block) new)
      (replaced (body_span block) new (parts_put r call block (block_formed r f body) good.0 good.1 good.2
      (λ e. call_is_statement P pl r.span (labels_round r f) (run_parts r f) (valued e))))
      [] [] f.body body

  function_formed : FormedItem (made_function P r pl bs f)
  function_formed = let p = run_parts r f in
      let parts = parts_formed r f body in (
        F.name,
        bounds_formed r.span bs (new_lifetimes P pl r.span p)
            (every_both Lasting (copied_lifetimes p) (lifetimes_from r.span (fresh_lifetime pl.lifetimes) 0 (signature_positions P pl))
            (copied_lasting p parts.0 parts.1) (fresh_lasting P pl F r.span)),
        params_formed P pl F r.span,
        result_formed P pl F r.span,
        body_formed P pl F r.span (loops_round r f) p parts.0 parts.1,
      )

  new_formed : Every FormedItem (new_items P r pl bs f)
  new_formed = by (has_enum pl.exits) refl
    where
      by : (b : Bool) → has_enum pl.exits ≡ b → Every FormedItem (if b then made_enum P r pl ∷ made_function P r pl bs f ∷ [] else made_function P r pl bs f ∷ [])
      by true e = (enum_formed P pl F r.span e, (function_formed, tt))
      by false e = (function_formed, tt)

at_number : (P : ProgramTree) (n : ℕ) (s : Span) (f : Function) → Every FormedItem P → nth P n ≡ Some (plain.function_item s f) → FormedItem (plain.function_item s f)
at_number [] n s f h e = absurd cc
at_number (i ∷ is) zero s f h e = let same : i ≡ plain.function_item s f = cc in subst FormedItem same h.0
at_number (i ∷ is) (suc n) s f h e = at_number is n s f h.1 e

pub extraction_formed : (P : ProgramTree) (r : Run) (pl : Plan) (bs : Bounds) (s : Span) (f : Function) → FormedProgram P → FormedPlan P pl → nth P r.item ≡ Some (plain.function_item s f)
    → (goes_past r (statements (run_block r (pinned_function P r.span pl.pins f))) ≡ false → pl.value ≡ None) → FormedProgram (extraction P r pl bs)
extraction_formed P r pl bs s f h F there valued = let g = pinned_function P r.span pl.pins f in
    let old = at_number P r.item s f h there in
    let body = pinned_formed P r.span pl.pins F.pins f.body old.4 in
    let new : Every FormedItem (in_two P r pl bs s g) = ((old.0, old.1, old.2, old.3, called_formed P r pl F bs g body valued), new_formed P r pl F bs g body valued) in
    subst FormedProgram (sym (items_are P r pl bs s f there))
    (every_both FormedItem (take r.item P) (in_two P r pl bs s g ++ drop (suc r.item) P) (every_take FormedItem r.item P h)
    (every_both FormedItem (in_two P r pl bs s g) (drop (suc r.item) P) new (every_drop FormedItem (suc r.item) P h)))
