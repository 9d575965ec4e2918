-- In a function of a text each block has a place of its own, also where kinds and types are written out.
use Rattle.std.proofs.Common.{◌≡◌, ℕ, zero, suc, List, [], ◌∷◌, ◌++◌, length, map, Bool, true, false, ◌&&◌, Option, Some, None, slice_get, refl, sym, ap, ◌∙◌, subst, arith, eqb-true}
use Rattle.std.specs.Prelude.{◌==◌}
use Rattle.rx_core.specs.declared.types.Span.{Span}
use Rattle.rx_tree.specs.Plain as plain
use Rattle.rx_tree.specs.Plain.{TypeTree, Expression, Expressions, OptionalExpression, OptionalExpressions, FieldExpressions, Arms, Body, Statement, Statements, Function, ItemTree, ProgramTree}
use Rattle.rx_tree.specs.Lists.{nth}
use Rattle.rx_tree.specs.Spans.{body_span, node_span}
use Rattle.rx_tree.specs.Positions.{NodeTree, an_item, a_type, a_block, a_statement, an_expression, a_pattern, descend}
use Rattle.rx_tree.specs.Nodes.{below, below_pattern, below_expression, within_expressions, within_optional, within_arguments, within_fields, within_arms, below_block, below_statement, within_statements, within_type, within_parameters}
use Rattle.rx_tree.proofs.NodesLaws.{joined}
use Rattle.rx_lex.specs.Tok.{Tok}
use Rattle.rx_resolve_names.specs.Meant.{Around, a_loop, a_test}
use Rattle.rx_hoist_extraction.specs.Names.{Names, bound, bound_by, behind_all}
use Rattle.rx_hoist_extraction.specs.Run.{same_place}
use Rattle.rx_hoist_extraction.specs.Plan.{Pins}
use Rattle.rx_hoist_extraction.specs.Changed.{Changes, changed, changed_all, changed_optional, changed_arguments, changed_fields, changed_arms, changed_body, changed_statement, changed_statements}
use Rattle.rx_hoist_extraction.specs.Pinned.{pinning, pinned_type, pinned_function}
use Rattle.rx_select.specs.OneText.{OneText}
use Rattle.rx_select.proofs.Programs.{placed}
use Rattle.rx_engine_names.specs.Placed.{StandsAlone}
use Rattle.rx_engine_names.proofs.RisingBlocks.{starts, starts_both, Rising, Rises, rising_split, child_between, one_way}
use Rattle.rx_engine_names.proofs.TextBlocks.{row_rises}
use Rattle.rx_engine_names.proofs.PinnedNodes.{tags, same_body}

-- ---- where blocks begin

abbrev Starts : List NodeTree → List ℕ
Starts = tags ℕ (λ s. s.start ∷ []) (λ p. [])

starts_are : (ns : List NodeTree) → starts ns ≡ Starts ns
starts_are [] = refl
starts_are (an_item i ∷ ns) = starts_are ns
starts_are (a_type t ∷ ns) = starts_are ns
starts_are (a_block b ∷ ns) = ap (λ l. (body_span b).start ∷ l) (starts_are ns)
starts_are (a_statement a ∷ ns) = starts_are ns
starts_are (an_expression e ∷ ns) = starts_are ns
starts_are (a_pattern p ∷ ns) = starts_are ns

same_starts : (P : ProgramTree) (place : Span) (pins : Pins) (b : Body) → starts (a_block b ∷ below_block b) ≡ starts (a_block (changed_body (pinning P place pins) [] [] b) ∷ below_block (changed_body (pinning P place pins) [] [] b))
same_starts P place pins b =
    let c = changed_body (pinning P place pins) [] [] b in
    starts_are (a_block b ∷ below_block b) ∙ sym (same_body ℕ (λ s. s.start ∷ []) (λ p. []) P place pins [] [] b) ∙ sym (starts_are (a_block c ∷ below_block c))

-- ---- functions

pinned_rises : (P : ProgramTree) (place : Span) (pins : Option Pins) (f : Function) (low high : ℕ) → Rises low high (a_block f.body) → Rises low high (a_block (pinned_function P place pins f).body)
pinned_rises P place None f low high h = h
pinned_rises P place (Some pins) f low high h = subst (Rising low high) (same_starts P place pins f.body) h

record BodyRises (f : Function) : Type 0 where
  low : ℕ
  high : ℕ
  rises : Rises low high (a_block f.body)

body_of : (s : Span) (f : Function) (low high : ℕ) → Rises low high (an_item (plain.function_item s f)) → BodyRises f
body_of s f low high h =
    let rest = within_type f.result ++ (a_block f.body ∷ below_block f.body) in
    let x = rising_split low high (starts (within_parameters f.params)) (starts rest) (subst (Rising low high) (starts_both (within_parameters f.params) rest) h) in
    let y = rising_split x.mid high (starts (within_type f.result)) (starts (a_block f.body ∷ below_block f.body)) (subst (Rising x.mid high) (starts_both (within_type f.result) (a_block f.body ∷ below_block f.body)) x.back) in
    record { low = y.mid; high = high; rises = y.back }

item_at : (p : ProgramTree) (n : ℕ) (i : ItemTree) → nth p n ≡ Some i → slice_get (map an_item p) n ≡ Some (an_item i)
item_at [] n i e = absurd (cc)
item_at (x ∷ p) zero i e = let q : x ≡ i = cc in ap (λ z. Some (an_item z)) q
item_at (x ∷ p) (suc n) i e = item_at p n i e

text_rises : (bytes : ℕ) (ts : List Tok) (p : ProgramTree) → OneText ts bytes p → (item : ℕ) (s : Span) (f : Function) → nth p item ≡ Some (plain.function_item s f) → BodyRises f
text_rises bytes ts p x item s f e =
    let z = placed ts bytes p x in
    let row = row_rises ts (length (joined (map an_item p))) 0 bytes (map an_item p) z.row.ordered z.row.laid (omega arith) in
    let there : slice_get (map an_item p) item ≡ Some (an_item (plain.function_item s f)) = item_at p item (plain.function_item s f) e in
    let b = child_between 0 bytes (map an_item p) item (an_item (plain.function_item s f)) row there in
    body_of s f b.first b.end b.rises

same_start : (s t : Span) → same_place s t ≡ true → s.start ≡ t.start
same_start s t e = by (s.start == t.start) refl e
  where
    by : (b : Bool) → (s.start == t.start) ≡ b → (b && (s.end == t.end)) ≡ true → s.start ≡ t.start
    by true g h = eqb-true s.start t.start g
    by false g h = absurd (cc)

pub blocks_stand_alone : (bytes : ℕ) (ts : List Tok) (p : ProgramTree) → OneText ts bytes p → (item : ℕ) (s : Span) (f : Function) → nth p item ≡ Some (plain.function_item s f) → (place : Span) (pins : Option Pins) (way : List ℕ) (b : Body)
    → descend (Some (a_block (pinned_function p place pins f).body)) way ≡ Some (a_block b) → StandsAlone b way (pinned_function p place pins f).body
blocks_stand_alone bytes ts p x item s f e place pins way b d =
    let r = text_rises bytes ts p x item s f e in
    let h = pinned_rises p place pins f r.low r.high r.rises in
    record { there = d; alone = λ other c k q. sym (one_way way other r.low r.high (a_block (pinned_function p place pins f).body) b c h d k (same_start (body_span b) (body_span c) q)) }
