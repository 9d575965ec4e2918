-- The lifetimes that types in a run name are lifetimes of the text, also where kinds and types are written out.
use Rattle.std.proofs.Common.{◌≡◌, ℕ, zero, suc, Bool, true, false, ◌||◌, if◌then◌else◌, List, [], ◌∷◌, ◌++◌, map, take, drop, Option, Some, None, slice_get, refl, sym, ap, ◌∙◌, subst, inl, inr}
use Rattle.std.specs.Str.{bytes_eq}
use Rattle.std.proofs.lemmas.Bool.{or_left, or_right}
use Rattle.std.proofs.lemmas.Slice.Eq.{bytes_eq-Decides}
use Rattle.rx_core.specs.declared.types.Span.{Span}
use Rattle.rx_tree.specs.declared.tree.Ident.{Ident}
use Rattle.rx_tree.specs.Plain as plain
use Rattle.rx_tree.specs.Plain.{Expression, OptionalExpression, Body, Statement, Statements, Function, ProgramTree}
use Rattle.rx_tree.specs.Lists.{listed, nth, statements, tail, Every}
use Rattle.rx_tree.specs.Positions.{NodeTree, an_item, a_type, a_block, a_statement, an_expression, a_pattern, children, descend}
use Rattle.rx_tree.specs.Nodes.{below, below_block, below_statement, within_optional, within_statements}
use Rattle.rx_tree.proofs.NodesLaws.{joined, below_is, every_both, every_front, every_behind}
use Rattle.rx_lex.specs.Tok.{Tok}
use Rattle.rx_lex.proofs.TokenLaws.{lexes_one}
use Rattle.rx_parse_grammar.specs.grammar.Words.{IsLifetime}
use Rattle.rx_select.specs.OneText.{OneText}
use Rattle.rx_select.specs.Selected.{IsToken}
use Rattle.rx_hoist_extraction.specs.Names.{Names, is_among}
use Rattle.rx_hoist_extraction.specs.Run.{Parts, Run, as_block, as_statements, chosen, chosen_parts, goes_past, run_block, run_parts, tail_if}
use Rattle.rx_hoist_extraction.specs.Plan.{Pins}
use Rattle.rx_hoist_extraction.specs.Changed.{changed_body}
use Rattle.rx_hoist_extraction.specs.Pinned.{pinning, pinned_function}
use Rattle.rx_hoist_extraction.specs.NewFunction.{copied_lifetimes, firsts_of, lifetimes_at, lifetimes_at_all}
use Rattle.rx_hoist_extraction.specs.OwnLifetimes.{idents}
use Rattle.rx_hoist_naming.specs.NamesWords.{is_lifetime_class, lifetimes}
use Rattle.rx_engine_planned.proofs.PinnedLifetimes.{same_body}
use Rattle.rx_engine_planned.proofs.RoundRuns.{row_child}
use Rattle.rx_engine_planned.proofs.TextLifetimes.{Lives, file_lifetimes, function_lifetimes}

-- ---- lifetimes among the words

abbrev Known : List Tok → List ℕ → Type 0
Known ts x = is_among x (lifetimes ts) ≡ true

same_word : (x : List ℕ) → bytes_eq x x ≡ true
same_word x = (bytes_eq-Decides x x).1 refl

among_behind : (x : List ℕ) (xs ys : Names) → is_among x ys ≡ true → is_among x (xs ++ ys) ≡ true
among_behind x [] ys h = h
among_behind x (y ∷ xs) ys h = or_right (bytes_eq x y) (is_among x (xs ++ ys)) (among_behind x xs ys h)

tokens_known : (ts : List Tok) (t : Tok) → IsToken t ts → IsLifetime t → Known ts t.text
tokens_known [] t i k = absurd i
tokens_known (u ∷ us) t (inl e) k =
    let here : is_lifetime_class u.class ≡ true = ap (λ (v : Tok). is_lifetime_class v.class) (sym e) ∙ ap is_lifetime_class k.0 in
    ap (λ (b : Bool). is_among t.text ((if b then u.text ∷ [] else []) ++ lifetimes us)) here ∙ or_left (bytes_eq t.text u.text) (is_among t.text (lifetimes us)) (ap (λ (v : Tok). bytes_eq t.text v.text) (sym e) ∙ same_word t.text)
tokens_known (u ∷ us) t (inr i) k = among_behind t.text (if is_lifetime_class u.class then u.text ∷ [] else []) (lifetimes us) (tokens_known us t i k)

-- ---- of nodes, and of all that they name

module _ (W : List ℕ → Type 0) where
  all_named : (ns : List NodeTree) → Every (Lives W) ns → Every (λ (l : Ident). W l.name) (lifetimes_at_all ns)
  all_named [] h = tt
  all_named (n ∷ ns) h = every_both (λ (l : Ident). W l.name) (lifetimes_at n) (lifetimes_at_all ns) h.0 (all_named ns h.1)

  each_named : (ns : List NodeTree) → Every (λ (l : Ident). W l.name) (lifetimes_at_all ns) → Every (Lives W) ns
  each_named [] h = tt
  each_named (n ∷ ns) h = (every_front (λ (l : Ident). W l.name) (lifetimes_at n) (lifetimes_at_all ns) h, each_named ns (every_behind (λ (l : Ident). W l.name) (lifetimes_at n) (lifetimes_at_all ns) h))

  pinned_lives : (P : ProgramTree) (place : Span) (pins : Option Pins) (f : Function) → Every (Lives W) (below_block f.body) → Every (Lives W) (below_block (pinned_function P place pins f).body)
  pinned_lives P place None f h = h
  pinned_lives P place (Some pins) f h =
      let c = changed_body (pinning P place pins) [] [] f.body in
      each_named (below_block c) (subst (Every (λ (l : Ident). W l.name)) (sym (same_body P place pins [] [] f.body)) (all_named (below_block f.body) h))

  -- ---- a block at the end of a way, or none

  here_lives : (n : NodeTree) → Every (Lives W) (n ∷ below n) → Every (Lives W) (below_block (as_block (Some n)))
  here_lives (an_item i) h = tt
  here_lives (a_type t) h = tt
  here_lives (a_block b) h = h.1
  here_lives (a_statement a) h = tt
  here_lives (an_expression e) h = tt
  here_lives (a_pattern p) h = tt

  lives_there : (ks : List ℕ) (n : NodeTree) → Every (Lives W) (n ∷ below n) → Every (Lives W) (below_block (as_block (descend (Some n) ks)))
  lives_there [] n h = here_lives n h
  lives_there (k ∷ ks) n h = by (slice_get (children n) k) refl (λ c g. lives_there ks c g)
    where
      by : (o : Option NodeTree) → slice_get (children n) k ≡ o → ((c : NodeTree) → Every (Lives W) (c ∷ below c) → Every (Lives W) (below_block (as_block (descend (Some c) ks)))) → Every (Lives W) (below_block (as_block (descend o ks)))
      by None e on = tt
      by (Some c) e on = on c (row_child (Lives W) (children n) k c (subst (Every (Lives W)) (below_is n) h.1) e)

  -- ---- some of its statements

  abbrev Row : List Statement → Type 0
  Row l = Every (Lives W) (within_statements (as_statements l))

  listed_row : (ss : Statements) → Every (Lives W) (within_statements ss) → Row (listed ss)
  listed_row plain.no_statement h = tt
  listed_row (plain.statement_and a ss) h =
      (h.0, every_both (Lives W) (below_statement a) (within_statements (as_statements (listed ss))) (every_front (Lives W) (below_statement a) (within_statements ss) h.1) (listed_row ss (every_behind (Lives W) (below_statement a) (within_statements ss) h.1)))

  row_taken : (k : ℕ) (l : List Statement) → Row l → Row (take k l)
  row_taken zero l h = tt
  row_taken (suc k) [] h = tt
  row_taken (suc k) (a ∷ l) h = (
    h.0,
    every_both (Lives W) (below_statement a) (within_statements (as_statements (take k l))) (every_front (Lives W) (below_statement a) (within_statements (as_statements l)) h.1)
        (row_taken k l (every_behind (Lives W) (below_statement a) (within_statements (as_statements l)) h.1)),
  )

  row_dropped : (k : ℕ) (l : List Statement) → Row l → Row (drop k l)
  row_dropped zero l h = h
  row_dropped (suc k) [] h = tt
  row_dropped (suc k) (a ∷ l) h = row_dropped k l (every_behind (Lives W) (below_statement a) (within_statements (as_statements l)) h.1)

  tail_lives : (past : Bool) (o : OptionalExpression) → Every (Lives W) (within_optional o) → Every (Lives W) (within_optional (tail_if past o))
  tail_lives true o h = h
  tail_lives false o h = tt

  parts_live : (r : Run) (b : Body) → Every (Lives W) (below_block b) → Every (Lives W) (within_statements (as_statements (chosen_parts r b).statements) ++ within_optional (chosen_parts r b).tail)
  parts_live r (plain.body s ss o) h =
      every_both (Lives W) (within_statements (as_statements (chosen r (listed ss)))) (within_optional (tail_if (goes_past r (listed ss)) o))
      (row_taken _ (drop r.first (listed ss)) (row_dropped r.first (listed ss) (listed_row ss (every_front (Lives W) (within_statements ss) (within_optional o) h))))
      (tail_lives (goes_past r (listed ss)) o (every_behind (Lives W) (within_statements ss) (within_optional o) h))

  -- ---- those that are copied

  firsts_named : (found : Names) (ls : List Ident) → Every (λ (l : Ident). W l.name) ls → Every W (idents (firsts_of found ls))
  firsts_named found [] h = tt
  firsts_named found (l ∷ ls) h = by (is_among l.name found) (firsts_named found ls h.1) (firsts_named (l.name ∷ found) ls h.1)
    where
      by : (b : Bool) → Every W (idents (firsts_of found ls)) → Every W (idents (firsts_of (l.name ∷ found) ls)) → Every W (idents (if b then firsts_of found ls else l ∷ firsts_of (l.name ∷ found) ls))
      by true same more = same
      by false same more = (h.0, more)

-- ---- of a run in a text

pub run_lifetimes : (bytes : ℕ) (ts : List Tok) (p : ProgramTree) → OneText ts bytes p → (r : Run) (s : Span) (f : Function) → nth p r.item ≡ Some (plain.function_item s f) → (pins : Option Pins)
    → Every (λ (x : List ℕ). is_among x (lifetimes ts) ≡ true) (idents (copied_lifetimes (run_parts r (pinned_function p r.span pins f))))
run_lifetimes bytes ts p x r s f e pins =
    let same = lexes_one x.text ts x.parsed.tokens x.lexed x.parsed.lexed in
    let all = file_lifetimes (Known ts) x.parsed.derived (λ t i k. tokens_known ts t (subst (IsToken t) (sym same) i) k) in
    let own = function_lifetimes (Known ts) p r.item s f all e in
    let g = pinned_function p r.span pins f in
    let there = lives_there (Known ts) r.way (a_block g.body) (tt, pinned_lives (Known ts) p r.span pins f own) in
    let run = run_parts r g in
    let ns = within_statements (as_statements run.statements) ++ within_optional run.tail in
    firsts_named (Known ts) [] (lifetimes_at_all ns) (all_named (Known ts) ns (parts_live (Known ts) r (run_block r g) there))
