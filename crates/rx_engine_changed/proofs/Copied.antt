-- Statements and a tail that are copied, numbered beside themselves.
use Rattle.std.proofs.Common.{◌≡◌, ℕ, Bool, List, [], Option, ap, subst}
use Rattle.rx_core.specs.declared.types.Span.{Span}
use Rattle.rx_tree.specs.Erase.{nowhere}
use Rattle.rx_tree.specs.Plain as plain
use Rattle.rx_tree.specs.Plain.{OptionalExpression, Body, Statements}
use Rattle.rx_typed.specs.declared.nodes.Node.{Node}
use Rattle.rx_typed.specs.declared.nodes.Site.{Site}
use Rattle.rx_typed.specs.Named as named
use Rattle.rx_typed.specs.Named.{Exp, Else, Written}
use Rattle.rx_hoist_extraction.specs.Changed.{kept, changed_optional, changed_statements}
use Rattle.rx_hoist_extraction.proofs.Unchanged.{same_body}
use Rattle.rx_engine_names.specs.Renaming.{Renaming}
use Rattle.rx_engine_names.specs.LikeNamed as alike
use Rattle.rx_engine_names.specs.LikeNamed.{LikeElse, LikeBody, LikeStatements}
use Rattle.rx_engine_names.proofs.NoClaims.{no_claims, optional_within, statements_within}
use Rattle.rx_engine_typing.specs.Renumbered as ren
use Rattle.rx_engine_changed.specs.Beside.{Instead, Piece, Numbers, IsOneToOne}
use Rattle.rx_engine_changed.specs.Comes.{Placed}
use Rattle.rx_engine_changed.specs.Stages.{Mutability}
use Rattle.rx_engine_changed.proofs.Parts.{OnlySpecial, KeptHoles}
use Rattle.rx_engine_changed.proofs.Counts.{none_such}
use Rattle.rx_engine_changed.proofs.Walk.{OptionalKept, StatementsKept, optional_kept, statements_kept, Places}
use Rattle.rx_engine_changed.proofs.KeptPlaces.{blocks_alone, kept_places, parts_kept}

abbrev statements_in : Body → Statements
statements_in (plain.body s ss o) = ss

abbrev tail_in : Body → OptionalExpression
tail_in (plain.body s ss o) = o

same_statements : (ss : Statements) → changed_statements kept [] [] ss ≡ ss
same_statements ss = ap statements_in (same_body [] [] (plain.body nowhere ss plain.absent))

same_tail : (o : OptionalExpression) → changed_optional kept [] [] o ≡ o
same_tail o = ap tail_in (same_body [] [] (plain.body nowhere plain.no_statement o))

-- the parts of a block that may be copied alone
pub body_cases : {H : alike.Holes} {R : Renaming} {n n' : Node} {ss ss' : named.Statements} {o o' : Else} → (H.block R (named.body n ss o) (named.body n' ss' o') → ⊥) → LikeBody H R (named.body n ss o) (named.body n' ss' o') → LikeStatements H R ss ss' × LikeElse H R o o'
body_cases w (alike.like_other_block h) = absurd (w h)
body_cases w (alike.like_body f s h g) = (h, g)

module _ (R : Renaming) (W : Mutability) (apart : IsOneToOne R) (even : (n m : ℕ) (b : Bool) → W n m b b) (P : List Piece → Instead → Type 0) (same : (n m : ℕ) (a b : Bool) → W n m a b → b ≡ a) (base : Numbers → ren.Holes) (returns : (q : Numbers) → (base q).returns) (A A' : Placed) where
  abbrev pub none_returned : (R : Renaming) (n : Node) (o : Else) (e' : Exp) → alike.no_holes.returned R n o e' → ⊥
  none_returned R n o e' h = h

  abbrev pub untyped : (R : Renaming) (s : Span) (t t' : Option Written) → alike.no_holes.annotation R s t t' → ⊥
  untyped R s t t' h = h

  abbrev pub only_copies : OnlySpecial alike.no_holes
  only_copies R e e' h = absurd h

  abbrev copies : KeptHoles alike.no_holes
  copies = record { no_variable = λ R n n' u u' h. h; no_break = λ R n n' l l' h. h; no_continue = λ R n n' l l' h. h }

  places : Places R W apart even P none_such A A' alike.no_holes only_copies untyped base (blocks_alone (λ b c. c)) no_claims
  places = kept_places R W apart even P none_such A A' same alike.no_holes only_copies copies untyped base none_returned returns no_claims (λ b c. c)
      (λ own ls s t ss ss' o o' n ks ko made c c' come come' st h. let g = body_cases {H = alike.no_holes} (λ x. x) h in parts_kept R W apart even P none_such A A' same alike.no_holes only_copies copies untyped base s t ss ss' o o' ks ko made c c' come come' st g.0 g.1)

  pub copied_statements : (ss : Statements) → StatementsKept R W apart even P none_such A A' alike.no_holes only_copies untyped base ss ss
  copied_statements ss = subst (λ (z : Statements). StatementsKept R W apart even P none_such A A' alike.no_holes only_copies untyped base ss z) (same_statements ss)
      (statements_kept R W apart even P none_such A A' alike.no_holes only_copies untyped base (blocks_alone (λ b c. c)) no_claims places [] [] ss (statements_within [] [] ss))

  pub copied_tail : (t : Site) (o : OptionalExpression) → OptionalKept R W apart even P none_such A A' alike.no_holes only_copies untyped base t o o
  copied_tail t o = subst (λ (z : OptionalExpression). OptionalKept R W apart even P none_such A A' alike.no_holes only_copies untyped base t o z) (same_tail o)
      (optional_kept R W apart even P none_such A A' alike.no_holes only_copies untyped base (blocks_alone (λ b c. c)) no_claims places [] [] t o (optional_within [] [] o))
