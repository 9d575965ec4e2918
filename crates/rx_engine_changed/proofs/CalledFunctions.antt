-- The function with the call of an extraction, numbered beside the text's.
use Rattle.std.proofs.Common.{◌≡◌, ℕ, Bool, true, false, List, [], ◌++◌, length, sym, ap, ◌∙◌, subst, append-nil, arith}
use Rattle.std.proofs.Math.ListN.{drop_of_length-le}
use Rattle.std.proofs.lemmas.Bool.{leb-true}
use Rattle.rx_core.specs.declared.types.Span.{Span}
use Rattle.rx_tree.specs.Lists.{listed, statements, tail}
use Rattle.rx_tree.specs.Plain as plain
use Rattle.rx_tree.specs.Plain.{Body, Function, OptionalExpression, ProgramTree, Statements}
use Rattle.rx_resolve_names.specs.declared.resolved.NodeNames.{NodeNames}
use Rattle.rx_typed.specs.declared.nodes.Node.{Node}
use Rattle.rx_typed.specs.Naming.{function_named, Cursor}
use Rattle.rx_hoist_extraction.specs.Run.{Run, as_statements, run_block, in_front, chosen, behind, goes_past, rest_tail, with_parts, labels_round}
use Rattle.rx_hoist_extraction.specs.Plan.{Plan}
use Rattle.rx_engine_names.specs.Renaming.{Renaming}
use Rattle.rx_engine_names.specs.LikeNamed.{LikeFunction}
use Rattle.rx_engine_names.specs.Placed.{by_an_end, by_others, inside_of, labels_at, put_in, StandsAlone}
use Rattle.rx_engine_names.specs.Within.{BodyWithin}
use Rattle.rx_engine_names.specs.HandedOut.{Handing}
use Rattle.rx_engine_names.specs.HandsOver.{told_handed, told_last}
use Rattle.rx_engine_names.specs.CalledRuns.{call_parts, RunStands}
use Rattle.rx_engine_names.proofs.CallsFit.{run_splits}
use Rattle.rx_engine_names.proofs.PlacedBlocks.{placed, stands_within}
use Rattle.rx_engine_typing.specs.Renumbered.{Holes}
use Rattle.rx_engine_changed.specs.Beside.{Instead, IsOneToOne, Numbers, Piece}
use Rattle.rx_engine_changed.specs.Comes.{body_of, RunComes, RunComesAt, RunEnds}
use Rattle.rx_engine_changed.specs.Once.{IsToldCall, IsToldLast, NumberedOnce}
use Rattle.rx_engine_changed.specs.Round.{as_mutable, block_ending, block_with, round, GoesOn, GoesOnLast}
use Rattle.rx_engine_changed.specs.Called.{with_other_block, EndGoesOn, EndHoleOf, HoleOf, RunGoesOn}
use Rattle.rx_engine_changed.proofs.Counts.{alone_counts_one}
use Rattle.rx_engine_changed.proofs.RoundFunctions.{function_ending, function_round}

module _ (p q : ProgramTree) (n m : ℕ) (s : Span) (f : Function) (r : Run) (pl : Plan) (G : Handing) (stands : RunStands r pl f) (R : Renaming) (apart : IsOneToOne R) (ns ns' : List NodeNames) (e : R.item n ≡ m) (base : Numbers → Holes) (returns : (q : Numbers) → (base q).returns) where
  -- both come to the run in this block, and to what stands for it
  abbrev There : Body → Cursor → Cursor → Type 0
  There b c c' = RunComes (body_of s f ns) b (in_front r (statements b)) c × RunComes (body_of s (with_other_block b (with_parts r (call_parts p r pl f) b) f) ns') (with_parts r (call_parts p r pl f) b) (in_front r (statements b)) c'

  abbrev ThereLast : Body → Node → Bool → Cursor → Cursor → Type 0
  ThereLast b k d c c' = RunEnds (body_of s f ns) b (in_front r (statements b)) k d c × RunComesAt (body_of s (with_other_block b (with_parts r (call_parts p r pl f) b) f) ns') (with_parts r (call_parts p r pl f) b) (in_front r (statements b)) k.site c'

  abbrev Its : Body → List Piece → Instead → Type 0
  Its b = IsToldCall R as_mutable (told_handed G) (inside_of p n s f) (inside_of q m s f) (There b) (in_front r (statements b)) (chosen r (statements b)) (call_parts p r pl f).statements

  abbrev ItsLast : Body → List Piece → Instead → Type 0
  ItsLast b = IsToldLast R as_mutable (told_last G) (inside_of p n s f) (inside_of q m s f) (ThereLast b) (in_front r (statements b)) (chosen r (statements b)) (call_parts p r pl f).statements (tail b) (call_parts p r pl f).tail

  abbrev Claim : Body → Body → Type 0
  Claim b b' = LikeFunction (HoleOf p q n m s f r pl G b b') R (function_named n s f ns) (function_named m s (with_other_block b b' f) ns') → (function_named n s f ns).never_given ≡ []
      → NumberedOnce R (Its b) (λ q. round (base q) q) (function_named n s f ns) (function_named m s (with_other_block b b' f) ns')

  in_block : (b : Body) → StandsAlone b r.way f.body → goes_past r (statements b) ≡ false
      → GoesOn R as_mutable (told_handed G) (inside_of p n s f) (inside_of q m s f) (There b) (in_front r (statements b)) (chosen r (statements b)) (call_parts p r pl f).statements
      → LikeFunction (put_in (inside_of p n s f) (inside_of q m s f) b (with_parts r (call_parts p r pl f) b) (labels_round r f) (by_others (told_handed G) (inside_of p n s f) (inside_of q m s f) (in_front r (statements b)) (chosen r (statements b)) (call_parts p r pl f).statements)) R
      (function_named n s f ns) (function_named m s (with_other_block b (with_parts r (call_parts p r pl f) b) f) ns') → (function_named n s f ns).never_given ≡ []
      → NumberedOnce R (Its b) (λ q. round (base q) q) (function_named n s f ns) (function_named m s (with_other_block b (with_parts r (call_parts p r pl f) b) f) ns')
  in_block (plain.body sp ss o) alone past goes_on =
      let l = listed ss in let front = in_front r l in let run = chosen r l in let rest = behind r l in let call = (call_parts p r pl f).statements in let same = run_splits r ss stands.forward in
      let I = inside_of p n s f in let I' = inside_of q m s f in
      let within : BodyWithin (placed (plain.body sp ss o) (labels_at r.way f.body) pl.name) [] [] f.body = stands_within (plain.body sp ss o) f.body r.way pl.name alone stands.bound in
      subst (λ (b : Bool). Told3 sp ss o front run call rest (rest_tail b o (call_parts p r pl f).tail)) (sym past)
      (subst (λ (z : Statements). Told4 sp z o front run call rest) same
      (λ goes_on. function_round base returns I I' sp front run call rest o (labels_round r f) (told_handed G) R apart n m s f ns ns' goes_on
      (placed (block_with sp front run rest o) (labels_at r.way f.body) pl.name) (λ own ls d h k. (h.1 k).0) (alone_counts_one (plain.body sp ss o) r.way f.body alone) e
      (subst (λ (z : Statements). BodyWithin (placed (plain.body sp z o) (labels_at r.way f.body) pl.name) [] [] f.body) (sym same) within))) goes_on
    where
      Told3 : Span → Statements → OptionalExpression → List plain.Statement → List plain.Statement → List plain.Statement → List plain.Statement → OptionalExpression → Type 0
      Told3 sp ss o front run call rest z =
          let I = inside_of p n s f in let I' = inside_of q m s f in
          let old = plain.body sp ss o in let new = plain.body sp (as_statements (front ++ (call ++ rest))) z in
          GoesOn R as_mutable (told_handed G) I I' (λ c c'. RunComes (body_of s f ns) old front c × RunComes (body_of s (with_other_block old new f) ns') new front c') front run call
          → LikeFunction (put_in I I' old new (labels_round r f) (by_others (told_handed G) I I' front run call)) R (function_named n s f ns) (function_named m s (with_other_block old new f) ns') → (function_named n s f ns).never_given ≡ []
          → NumberedOnce R (IsToldCall R as_mutable (told_handed G) I I' (λ c c'. RunComes (body_of s f ns) old front c × RunComes (body_of s (with_other_block old new f) ns') new front c') front run call) (λ q. round (base q) q) (function_named n s f ns) (function_named m s (with_other_block old new f) ns')

      Told4 : Span → Statements → OptionalExpression → List plain.Statement → List plain.Statement → List plain.Statement → List plain.Statement → Type 0
      Told4 sp ss o front run call rest = Told3 sp ss o front run call rest o

  -- where the run goes to its block's end
  in_ending : (b : Body) → StandsAlone b r.way f.body → goes_past r (statements b) ≡ true
      → GoesOnLast R as_mutable (told_last G) (inside_of p n s f) (inside_of q m s f) (ThereLast b) (in_front r (statements b)) (chosen r (statements b)) (call_parts p r pl f).statements (tail b) (call_parts p r pl f).tail
      → LikeFunction (put_in (inside_of p n s f) (inside_of q m s f) b (with_parts r (call_parts p r pl f) b) (labels_round r f) (by_an_end (told_last G) (inside_of p n s f) (inside_of q m s f) (in_front r (statements b)) (chosen r (statements b)) (call_parts p r pl f).statements (tail b) (call_parts p r pl f).tail)) R
      (function_named n s f ns) (function_named m s (with_other_block b (with_parts r (call_parts p r pl f) b) f) ns') → (function_named n s f ns).never_given ≡ []
      → NumberedOnce R (ItsLast b) (λ q. round (base q) q) (function_named n s f ns) (function_named m s (with_other_block b (with_parts r (call_parts p r pl f) b) f) ns')
  in_ending (plain.body sp ss o) alone past goes_on =
      let l = listed ss in let front = in_front r l in let run = chosen r l in let call = (call_parts p r pl f).statements in let last = (call_parts p r pl f).tail in
      let I = inside_of p n s f in let I' = inside_of q m s f in
      let nothing : behind r l ≡ [] = drop_of_length-le l (omega (arith, leb-true (length l) r.last past)) in
      let same : as_statements (front ++ run) ≡ ss = ap (λ (z : List plain.Statement). as_statements (front ++ z)) (sym (ap (λ (z : List plain.Statement). run ++ z) nothing ∙ append-nil run)) ∙ run_splits r ss stands.forward in
      let shorter : call ++ behind r l ≡ call = ap (λ (z : List plain.Statement). call ++ z) nothing ∙ append-nil call in
      let within : BodyWithin (placed (plain.body sp ss o) (labels_at r.way f.body) pl.name) [] [] f.body = stands_within (plain.body sp ss o) f.body r.way pl.name alone stands.bound in
      subst (λ (b : Bool). Ends sp ss o front run call (call ++ behind r l) last (rest_tail b o last)) (sym past)
      (subst (λ (z : List plain.Statement). Ends sp ss o front run call z last last) (sym shorter)
      (subst (λ (z : Statements). Ends sp z o front run call call last last) same
      (λ goes_on. function_ending base returns I I' sp front run call o last (labels_round r f) (told_last G) R apart n m s f ns ns' goes_on
      (placed (block_ending sp front run o) (labels_at r.way f.body) pl.name) (λ own ls d h k. (h.1 k).0) (alone_counts_one (plain.body sp ss o) r.way f.body alone) e
      (subst (λ (z : Statements). BodyWithin (placed (plain.body sp z o) (labels_at r.way f.body) pl.name) [] [] f.body) (sym same) within)))) goes_on
    where
      Ends : Span → Statements → OptionalExpression → List plain.Statement → List plain.Statement → List plain.Statement → List plain.Statement → OptionalExpression → OptionalExpression → Type 0
      Ends sp ss o front run call row last z =
          let I = inside_of p n s f in let I' = inside_of q m s f in
          let old = plain.body sp ss o in let new = plain.body sp (as_statements (front ++ row)) z in
          GoesOnLast R as_mutable (told_last G) I I' (λ k d c c'. RunEnds (body_of s f ns) old front k d c × RunComesAt (body_of s (with_other_block old new f) ns') new front k.site c') front run call o last
          → LikeFunction (put_in I I' old new (labels_round r f) (by_an_end (told_last G) I I' front run call o last)) R (function_named n s f ns) (function_named m s (with_other_block old new f) ns') → (function_named n s f ns).never_given ≡ []
          → NumberedOnce R (IsToldLast R as_mutable (told_last G) I I' (λ k d c c'. RunEnds (body_of s f ns) old front k d c × RunComesAt (body_of s (with_other_block old new f) ns') new front k.site c') front run call o last) (λ q. round (base q) q) (function_named n s f ns) (function_named m s (with_other_block old new f) ns')

  pub called_last_beside : goes_past r (statements (run_block r f)) ≡ true → EndGoesOn p q n m s f r pl G ns ns' R
      → LikeFunction (EndHoleOf p q n m s f r pl G (run_block r f) (with_parts r (call_parts p r pl f) (run_block r f))) R (function_named n s f ns) (function_named m s (with_other_block (run_block r f) (with_parts r (call_parts p r pl f) (run_block r f)) f) ns')
      → (function_named n s f ns).never_given ≡ []
      → NumberedOnce R (ItsLast (run_block r f)) (λ q. round (base q) q) (function_named n s f ns) (function_named m s (with_other_block (run_block r f) (with_parts r (call_parts p r pl f) (run_block r f)) f) ns')
  called_last_beside past goes_on = in_ending (run_block r f) stands.alone past goes_on

  pub called_beside : goes_past r (statements (run_block r f)) ≡ false → RunGoesOn p q n m s f r pl G ns ns' R → Claim (run_block r f) (with_parts r (call_parts p r pl f) (run_block r f))
  called_beside past goes_on = in_block (run_block r f) stands.alone past goes_on
