-- A body with its kinds and types written out: the places of pins suit what becomes of them, all else stays.
use Rattle.std.proofs.Common.{◌≡◌, ℕ, ◌+◌, ◌≤◌, List, [], ◌∷◌, length, Option, Some, None, refl, sym, ap, subst, ◌∙◌, arith}
use Rattle.std.specs.Prelude.{◌≢◌}
use Rattle.rx_core.specs.declared.types.Span.{Span}
use Rattle.rx_tree.specs.Plain as plain
use Rattle.rx_tree.specs.Plain.{Expression, Body, ProgramTree}
use Rattle.rx_tree.specs.Erase.{nowhere, erase_body}
use Rattle.rx_lex.specs.Tok.{Tok}
use Rattle.rx_lex.specs.Tokens.{Lexes}
use Rattle.rx_parse_grammar.specs.grammar.Words.{span_of}
use Rattle.rx_parse_grammar.specs.grammar.Expressions as g
use Rattle.rx_parse_grammar.specs.grammar.Expressions.{IsBlock}
use Rattle.rx_parse_laws.proofs.SameWords.{Again}
use Rattle.rx_parse_laws.proofs.ExpressionsAgain.{block_again}
use Rattle.rx_hoist_extraction.specs.Plan.{Pins, Plan}
use Rattle.rx_hoist_extraction.specs.Changed.{Changes, kept, changed_body}
use Rattle.rx_hoist_extraction.specs.Pinned.{pinned}
use Rattle.rx_hoist_extraction.specs.FormedPlan.{FormedPlan}
use Rattle.rx_hoist_extraction.proofs.Unchanged.{same_body}
use Rattle.rx_splice_laws.specs.Edits.{spliced, Ordered}
use Rattle.rx_splice_laws.specs.Moving.{Moving, pin_edits, pinned_suffix, pinned_type}
use Rattle.rx_splice_laws.specs.MovedBy.{moved_by, pins_of, PinsLow}
use Rattle.rx_splice_laws.specs.SplicedRun.{Part}
use Rattle.rx_splice_laws.specs.PinnedBody.{edits_of_pins, PinnedBody, SplicedBody}
use Rattle.rx_splice_laws.proofs.Edited as calculus
use Rattle.rx_splice_laws.proofs.Edited.{one_kept}
use Rattle.rx_splice_laws.proofs.Kept.{Low, widens, Suits, keep, low_more}
use Rattle.rx_splice_laws.proofs.Leaves.{number_fits, kept_short}
use Rattle.rx_splice_laws.proofs.Changing.{block_kept}
use Rattle.rx_splice_laws.proofs.Fitting.{Spelt, Settled, typed_fits}
use Rattle.rx_splice_laws.proofs.Settling.{text_settled}
use Rattle.rx_splice_laws.proofs.Spelled.{spells}
use Rattle.rx_splice_laws.proofs.Stars.{body_stars, pins_unslashed, part_seen}
use Rattle.rx_splice_laws.proofs.Bounded.{tokens_bounded, edits_bounded, in_order}
use Rattle.rx_splice_laws.proofs.Planned.{plan_spelt}
use Rattle.rx_splice_laws.proofs.Twice.{Both, both_body, pinning_by}
use Rattle.rx_splice_laws.proofs.MovedTwice.{kinds, types, kinds_of, types_of, same_pins}
use Rattle.rx_print_spelling.specs.Pieces.{flat}
use Rattle.rx_print_spelling.proofs.Pieces.{places}
use Rattle.rx_splice_laws.specs.RunRead.{body_bytes, ReadBody}
use Rattle.rx_splice_laws.proofs.Cut.{words_placed}
use Rattle.rx_splice_laws.proofs.RunSpliced.{Bytes, bytes_of_part, part_bounded, read_before}

abbrev pin_changes : Moving → Changes
pin_changes M = record kept { at_int = λ s k. pinned_suffix k (M.kind s); at_let = λ p y. pinned_type y (M.typ p) }

low_one : Low 1 1
low_one = omega arith

pins_suit : (M : Moving) (all : List Tok) → Spelt M → Settled all → Suits (pin_edits M all) (pin_changes M) all
pins_suit M all F T = record {
  int = λ f t v k n p. number_fits M all T.rising f t v k n p;
  variable = λ f own t n p. keep _ _ _ (calculus.kept (t ∷ [])) (g.postfix (g.primary (g.variable t n refl))) refl low_one;
  before_dot = λ f own t d n m p. keep _ _ _ (calculus.kept (t ∷ [])) (g.primary (g.variable t n refl)) refl low_one;
  short = λ own t n p. kept_short t n;
  long = T.long;
  break = λ ls ts l n b e d. keep _ _ _ (calculus.kept ts) d refl low_one;
  continue = λ ls ts l n b e d. keep _ _ _ (calculus.kept ts) d refl low_one;
  return = λ t s. keep _ _ _ (calculus.kept (t ∷ [])) (g.return t s refl) refl low_one;
  return_with = λ t us h es x s n p r. keep _ _ _ (one_kept t r.edited) (g.return_with t r.tokens r.tree r.height s r.derived refl)
      (ap (λ (z : Expression). plain.return nowhere (plain.present z)) r.same) (low_more _ _ r.low);
  blocks_stay = λ b c. refl;
  typed = λ ps ys p y m n sp sy z e w q. let r = typed_fits M all F T ps ys p y m n sp sy z e w q in
      record { tokens = r.tokens; edited = r.edited; type = r.type; height = r.height; derived = r.derived; same = r.same; low = r.low };
}

module _ (P : ProgramTree) (pl : Plan) (r : Span) where
  one_walk : Both kept (pin_changes (moved_by P pl r)) (kinds_of pl.pins) (types_of P r pl.pins)
  one_walk = record {
    variable = λ own s x. refl;
    breaking = λ ls s l. refl;
    continuing = λ ls s l. refl;
    returning = λ s o. refl;
    kind = kinds P pl r pl.pins;
    typing = types P pl r pl.pins;
    blocks = λ b c. refl;
    moved_blocks = λ b c. refl;
  }

  pinned_by : (o : Option Pins) (b : Body) → changed_body (pins_of P r o) [] [] b ≡ pinned P r o b
  pinned_by None b = same_body [] [] b
  pinned_by (Some pins) b = refl

  body_pinned : (b : Body) → changed_body (pin_changes (moved_by P pl r)) [] [] b ≡ pinned P r pl.pins b
  body_pinned b =
      both_body kept (pin_changes (moved_by P pl r)) (kinds_of pl.pins) (types_of P r pl.pins) one_walk [] [] b
      ∙ same_body [] [] (changed_body (pinning_by (kinds_of pl.pins) (types_of P r pl.pins)) [] [] b)
      ∙ ap (λ (D : Changes). changed_body D [] [] b) (same_pins P pl r pl.pins)
      ∙ pinned_by pl.pins b

  told : (b x : Body) (h n : ℕ) (us : List Tok) → Again (λ vs y. IsBlock vs y n) erase_body us (erase_body x) → erase_body x ≡ erase_body (changed_body (pin_changes (moved_by P pl r)) [] [] b)
      → n ≤ 130 + (h + h + h) → PinnedBody P pl r b h us
  told b x h n us a e l = record { body = a.tree; levels = n; derived = a.derived; same = a.same ∙ e ∙ ap erase_body (body_pinned b); low = l }

  of_part : FormedPlan P pl → PinsLow pl.pins → (text : List ℕ) (all ts : List Tok) (b : Body) (h : ℕ) → Lexes text all → Part all ts → IsBlock ts b h → Bytes text ts
      → SplicedBody P pl r text all ts b h
  of_part F L text all ts b h d p i w =
      let M = moved_by P pl r in
      let k = block_kept Low widens (pin_edits M all) (pin_changes M) all (pins_suit M all (plan_spelt P pl r F L) (text_settled 0 text all d.tokens)) i [] [] p in
      let at = (span_of ts).start in
      let s = spells all k.edited (body_stars (pin_edits M all) all (pins_unslashed M all) [] [] b) (part_seen all ts p) at w.pieces w.placed in
      let o = subst (λ n. Ordered at (edits_of_pins P pl r all b) n) (sym w.end) s.pieced.ordered in record {
        pieces = s.pieces;
        is_text = s.pieced.text ∙ ap (λ x. spliced at x (edits_of_pins P pl r all b)) w.is;
        can_be_made = record {
          in_order = in_order 0 (length text) (omega arith) w.within o;
          on_boundaries = edits_bounded text k.edited (part_bounded text all ts p (tokens_bounded text all d.text d.tokens));
        };
        read = λ us e. told b k.tree h k.height us (block_again k.derived us (e ∙ s.pieced.words)) k.same k.low;
      }

  pub body_spliced : FormedPlan P pl → PinsLow pl.pins → (text : List ℕ) (all ts : List Tok) (b : Body) (h : ℕ) → Lexes text all → Part all ts → ts ≢ [] → IsBlock ts b h
      → SplicedBody P pl r text all ts b h
  body_spliced F L text all [] b h d p n i = absurd (n refl)
  body_spliced F L text all (t ∷ ts) b h d p n i = of_part F L text all (t ∷ ts) b h d p i (bytes_of_part text all t ts d.tokens p)

  -- ---- read

  read_part : FormedPlan P pl → PinsLow pl.pins → (text : List ℕ) (all ts : List Tok) (b : Body) (h : ℕ) → Lexes text all → Part all ts → ts ≢ [] → IsBlock ts b h → Bytes text ts → (k : ℕ)
      → ReadBody P pl r text all ts b h k
  read_part F L text all ts b h d p n i w j =
      let M = moved_by P pl r in
      let k = block_kept Low widens (pin_edits M all) (pin_changes M) all (pins_suit M all (plan_spelt P pl r F L) (text_settled 0 text all d.tokens)) i [] [] p in
      let s = spells all k.edited (body_stars (pin_edits M all) all (pins_unslashed M all) [] [] b) (part_seen all ts p) (span_of ts).start w.pieces w.placed in
      let e : flat s.pieces ≡ body_bytes P pl r text all ts b = s.pieced.text ∙ ap (λ x. spliced (span_of ts).start x (edits_of_pins P pl r all b)) w.is in record {
        tokens = places j s.pieces;
        read = read_before all (span_of ts).start j ts w.pieces s.pieces w.rest (body_bytes P pl r text all ts b) n w.placed w.ends w.reads s.seamed e;
        becomes = told b k.tree h k.height (places j s.pieces) (block_again k.derived (places j s.pieces) (words_placed j s.pieces ∙ s.pieced.words)) k.same k.low;
      }

  pub body_read : FormedPlan P pl → PinsLow pl.pins → (text : List ℕ) (all ts : List Tok) (b : Body) (h : ℕ) → Lexes text all → Part all ts → ts ≢ [] → IsBlock ts b h → (k : ℕ) → ReadBody P pl r text all ts b h k
  body_read F L text all [] b h d p n i k = absurd (n refl)
  body_read F L text all (t ∷ ts) b h d p n i k = read_part F L text all (t ∷ ts) b h d p n i (bytes_of_part text all t ts d.tokens p) k
