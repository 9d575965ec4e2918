-- The function with the call of an extraction beside the text's (REM, "Extract function"; Rust Reference, "Block expressions"): where something
-- follows the run in its block, and where it goes to the block's end; and what is asked where the run is come to.
use Rattle.std.specs.Prelude.{◌≡◌, ◌<◌, ℕ, Bool, true, false, List, [], length, Ok}
use Rattle.rx_core.specs.declared.types.Span.{Span}
use Rattle.rx_tree.specs.Lists.{statements, tail}
use Rattle.rx_tree.specs.Plain as plain
use Rattle.rx_tree.specs.Plain.{Body, Function, ProgramTree}
use Rattle.rx_tree.specs.Spans.{body_span}
use Rattle.rx_resolve_names.specs.declared.resolved.ItemNames.{ItemNames}
use Rattle.rx_resolve_names.specs.Items.{in_item}
use Rattle.rx_resolve_names.specs.declared.resolved.NodeNames.{NodeNames}
use Rattle.rx_resolve_names.specs.Meant.{number}
use Rattle.rx_typed.specs.declared.nodes.Node.{Node}
use Rattle.rx_typed.specs.declared.nodes.Site.{Site}
use Rattle.rx_typed.specs.Naming.{function_named, of_optional, of_statements, Cursor}
use Rattle.rx_hoist_extraction.specs.Run.{Run, as_statements, run_block, in_front, chosen, labels_round, with_parts}
use Rattle.rx_hoist_extraction.specs.Plan.{Plan}
use Rattle.rx_hoist_extraction.specs.Changed.{changed_body}
use Rattle.rx_hoist_extraction.specs.Extraction.{replacing}
use Rattle.rx_engine_names.specs.Renaming.{Made, Renaming}
use Rattle.rx_engine_names.specs.Apart.{Few}
use Rattle.rx_engine_names.specs.Insertion.{number_there, Inserted}
use Rattle.rx_engine_names.specs.LikeNamed.{Holes}
use Rattle.rx_engine_names.specs.Alike.{with_body}
use Rattle.rx_engine_names.specs.Placed.{by_an_end, by_others, inside_of, put_in, Place}
use Rattle.rx_engine_names.specs.Replaced.{NumberedBehind}
use Rattle.rx_engine_names.specs.HandedOut.{Handing}
use Rattle.rx_engine_names.specs.HandsOver.{at_place, told_handed, told_last}
use Rattle.rx_engine_names.specs.CalledRuns.{call_parts}
use Rattle.rx_engine_typing.specs.Renumbered.{no_holes}
use Rattle.rx_engine_changed.specs.Beside.{Instead, Piece}
use Rattle.rx_engine_changed.specs.Chosen.{least}
use Rattle.rx_engine_changed.specs.Comes.{body_of, RunComes, RunComesAt, RunEnds}
use Rattle.rx_engine_changed.specs.Declared.{RunHandsOn}
use Rattle.rx_engine_changed.specs.DoAlike.{EndDoesAlike, HandsOnAlike, RunDoesAlike}
use Rattle.rx_engine_changed.specs.Once.{ByOneNumbering, IsToldCall, IsToldLast}
use Rattle.rx_engine_changed.specs.PlannedDeeds.{EndAsPlanned, RunAsPlanned}
use Rattle.rx_engine_changed.specs.Round.{as_mutable, round, GoesOn, GoesOnLast}

-- a function of which a block becomes another
abbrev pub with_other_block : Body → Body → Function → Function
with_other_block old new f = with_body (changed_body (replacing (body_span old) new) [] [] f.body) f

-- the hole of the run's block, for which another block stands
abbrev pub HoleOf : (p q : ProgramTree) (n m : ℕ) (s : Span) (f : Function) (r : Run) (pl : Plan) (G : Handing) → Body → Body → Holes
HoleOf p q n m s f r pl G old new = put_in (inside_of p n s f) (inside_of q m s f) old new (labels_round r f)
    (by_others (told_handed G) (inside_of p n s f) (inside_of q m s f) (in_front r (statements (run_block r f))) (chosen r (statements (run_block r f))) (call_parts p r pl f).statements)

-- where the function's own numbering comes to the run
abbrev pub ComesToRun : Span → Function → Run → List NodeNames → Cursor → Type 0
ComesToRun s f r ns = RunComes (body_of s f ns) (run_block r f) (in_front r (statements (run_block r f)))

-- and that of the function with the call to what stands for it
abbrev pub ComesToCall : ProgramTree → Span → Function → Run → Plan → List NodeNames → Cursor → Type 0
ComesToCall p s f r pl ms = RunComes (body_of s (with_other_block (run_block r f) (with_parts r (call_parts p r pl f) (run_block r f)) f) ms) (with_parts r (call_parts p r pl f) (run_block r f)) (in_front r (statements (run_block r f)))

abbrev pub BothCome : ProgramTree → Span → Function → Run → Plan → List NodeNames → List NodeNames → Cursor → Cursor → Type 0
BothCome p s f r pl ns ms c c' = ComesToRun s f r ns c × ComesToCall p s f r pl ms c'

-- the same where the run goes to its block's end: the block's node, and whether what stands in front diverges
abbrev pub ComesToEnd : Span → Function → Run → List NodeNames → Node → Bool → Cursor → Type 0
ComesToEnd s f r ns = RunEnds (body_of s f ns) (run_block r f) (in_front r (statements (run_block r f)))

abbrev pub ComesToLastCall : ProgramTree → Span → Function → Run → Plan → List NodeNames → Site → Cursor → Type 0
ComesToLastCall p s f r pl ms = RunComesAt (body_of s (with_other_block (run_block r f) (with_parts r (call_parts p r pl f) (run_block r f)) f) ms) (with_parts r (call_parts p r pl f) (run_block r f)) (in_front r (statements (run_block r f)))

abbrev pub BothEnd : ProgramTree → Span → Function → Run → Plan → List NodeNames → List NodeNames → Node → Bool → Cursor → Cursor → Type 0
BothEnd p s f r pl ns ms n d c c' = ComesToEnd s f r ns n d c × ComesToLastCall p s f r pl ms n.site c'

-- the run and what stands for it go on in step
abbrev pub RunGoesOn : (p q : ProgramTree) (n m : ℕ) (s : Span) (f : Function) (r : Run) (pl : Plan) (G : Handing) → List NodeNames → List NodeNames → Renaming → Type 0
RunGoesOn p q n m s f r pl G ns ms R = GoesOn R as_mutable (told_handed G) (inside_of p n s f) (inside_of q m s f) (BothCome p s f r pl ns ms) (in_front r (statements (run_block r f))) (chosen r (statements (run_block r f))) (call_parts p r pl f).statements

-- the same where the run goes to its block's end
abbrev pub EndHoleOf : (p q : ProgramTree) (n m : ℕ) (s : Span) (f : Function) (r : Run) (pl : Plan) (G : Handing) → Body → Body → Holes
EndHoleOf p q n m s f r pl G old new = put_in (inside_of p n s f) (inside_of q m s f) old new (labels_round r f)
    (by_an_end (told_last G) (inside_of p n s f) (inside_of q m s f) (in_front r (statements (run_block r f))) (chosen r (statements (run_block r f))) (call_parts p r pl f).statements (tail (run_block r f)) (call_parts p r pl f).tail)

abbrev pub EndGoesOn : (p q : ProgramTree) (n m : ℕ) (s : Span) (f : Function) (r : Run) (pl : Plan) (G : Handing) → List NodeNames → List NodeNames → Renaming → Type 0
EndGoesOn p q n m s f r pl G ns ms R = GoesOnLast R as_mutable (told_last G) (inside_of p n s f) (inside_of q m s f) (BothEnd p s f r pl ns ms) (in_front r (statements (run_block r f))) (chosen r (statements (run_block r f))) (call_parts p r pl f).statements (tail (run_block r f)) (call_parts p r pl f).tail

-- the run and what stands for it do the same to what both know: so they go on in step
abbrev pub RunDoes : (p q : ProgramTree) (n m : ℕ) (s : Span) (f : Function) (r : Run) (pl : Plan) (G : Handing) → List NodeNames → List NodeNames → Renaming → Type 0
RunDoes p q n m s f r pl G ns ms R = RunDoesAlike R as_mutable (told_handed G) (inside_of p n s f) (inside_of q m s f) (BothCome p s f r pl ns ms) (in_front r (statements (run_block r f))) (chosen r (statements (run_block r f))) (call_parts p r pl f).statements

abbrev pub EndDoes : (p q : ProgramTree) (n m : ℕ) (s : Span) (f : Function) (r : Run) (pl : Plan) (G : Handing) → List NodeNames → List NodeNames → Renaming → Type 0
EndDoes p q n m s f r pl G ns ms R = EndDoesAlike R as_mutable (told_last G) (inside_of p n s f) (inside_of q m s f) (BothEnd p s f r pl ns ms) (in_front r (statements (run_block r f))) (chosen r (statements (run_block r f))) (call_parts p r pl f).statements (tail (run_block r f)) (call_parts p r pl f).tail

-- the run does as its plan says, where the text comes to it
abbrev pub RunPlanned : (p : ProgramTree) (n : ℕ) (s : Span) (f : Function) (r : Run) (G : Handing) → List NodeNames → Type 0
RunPlanned p n s f r G ns = RunAsPlanned G (inside_of p n s f) (ComesToRun s f r ns) (in_front r (statements (run_block r f))) (chosen r (statements (run_block r f)))

abbrev pub EndPlanned : (p : ProgramTree) (n : ℕ) (s : Span) (f : Function) (r : Run) (G : Handing) → List NodeNames → Type 0
EndPlanned p n s f r G ns = EndAsPlanned G (inside_of p n s f) (ComesToEnd s f r ns) (in_front r (statements (run_block r f))) (chosen r (statements (run_block r f))) (tail (run_block r f))

-- what both hand on is known alike
abbrev pub HandsOn : (p q : ProgramTree) (n m : ℕ) (s : Span) (f : Function) (r : Run) (pl : Plan) (G : Handing) → List NodeNames → List NodeNames → Renaming → Type 0
HandsOn p q n m s f r pl G ns ms R = HandsOnAlike R as_mutable (told_handed G) (inside_of p n s f) (inside_of q m s f) (BothCome p s f r pl ns ms) (in_front r (statements (run_block r f))) (chosen r (statements (run_block r f))) (call_parts p r pl f).statements

-- what the run declares for the text is known as the plan says, where the text comes to it; and numbers of variables are few where the call is come to
abbrev pub RunDeclares : (p : ProgramTree) (n : ℕ) (s : Span) (f : Function) (r : Run) (G : Handing) → List NodeNames → Type 0
RunDeclares p n s f r G ns = (c : Cursor) (x : Place) → ComesToRun s f r ns c
    → (t : NumberedBehind (inside_of p n s f) x.scope x.around x.way (in_front r (statements (run_block r f))) (chosen r (statements (run_block r f))) x.tables (of_statements (as_statements (chosen r (statements (run_block r f)))) c).0)
    → RunHandsOn (at_place G t.middle.scope x.around) (chosen r (statements (run_block r f))) t.middle.scope t.end.scope c (of_statements (as_statements (chosen r (statements (run_block r f)))) c).1

abbrev pub CallIsFew : ProgramTree → Span → Function → Run → Plan → List NodeNames → Type 0
CallIsFew p s f r pl ms = (c : Cursor) → ComesToCall p s f r pl ms c → (k : ℕ) → k < (of_statements (as_statements (call_parts p r pl f).statements) c).1.declared → number k ≡ k

-- so are they behind the tail where the run goes to its block's end
abbrev pub EndIsFew : ProgramTree → Span → Function → Run → Plan → List NodeNames → Type 0
EndIsFew p s f r pl ms = (t : Site) (c : Cursor) → ComesToLastCall p s f r pl ms t c → (k : ℕ) → k < (of_optional t (call_parts p r pl f).tail (of_statements (as_statements (call_parts p r pl f).statements) c).1).1.declared → number k ≡ k

-- the statements of the call, for those of the run
abbrev pub IsItsCall : (p q : ProgramTree) (n m : ℕ) (s : Span) (f : Function) (r : Run) (pl : Plan) (G : Handing) → List NodeNames → List NodeNames → Renaming → List Piece → Instead → Type 0
IsItsCall p q n m s f r pl G ns ms R = IsToldCall R as_mutable (told_handed G) (inside_of p n s f) (inside_of q m s f) (BothCome p s f r pl ns ms) (in_front r (statements (run_block r f))) (chosen r (statements (run_block r f))) (call_parts p r pl f).statements

abbrev pub IsItsLastCall : (p q : ProgramTree) (n m : ℕ) (s : Span) (f : Function) (r : Run) (pl : Plan) (G : Handing) → List NodeNames → List NodeNames → Renaming → List Piece → Instead → Type 0
IsItsLastCall p q n m s f r pl G ns ms R = IsToldLast R as_mutable (told_last G) (inside_of p n s f) (inside_of q m s f) (BothEnd p s f r pl ns ms) (in_front r (statements (run_block r f))) (chosen r (statements (run_block r f)))
    (call_parts p r pl f).statements (tail (run_block r f)) (call_parts p r pl f).tail

-- Such a function, which is this one and resolves: where this is asked of the renaming in which what was made corresponds, and no variable of the
-- text's is left without a type, it is the text's by one numbering, and what stands there for a part is such.
pub record CalledOnce (p q : ProgramTree) (c : Inserted p q) (n m : ℕ) (s : Span) (f g : Function) (t : ItemNames) (Asked : List NodeNames → Renaming → Type 0) (P : List NodeNames → Renaming → List Piece → Instead → Type 0) : Type 0 where
  pub tables : ItemNames
  pub resolves : in_item q m (plain.function_item s g) ≡ Ok tables
  pub made : Made
  pub numbered : Few (length t.vars) → Few (length tables.vars) → Few (length t.loops) → Few (length tables.loops) → Asked tables.names (least (number_there c) made)
      → (function_named n s f t.names).never_given ≡ []
      → ByOneNumbering (least (number_there c) made) (P tables.names (least (number_there c) made)) (λ q. round no_holes q) (function_named n s f t.names) (function_named m s g tables.names)

-- where something follows the run in its block, and where it goes to the block's end
abbrev pub CallIsNumbered : (p q : ProgramTree) (c : Inserted p q) (n m : ℕ) (s : Span) (f : Function) (r : Run) (pl : Plan) (G : Handing) (t : ItemNames) → Type 0
CallIsNumbered p q c n m s f r pl G t = CalledOnce p q c n m s f (with_other_block (run_block r f) (with_parts r (call_parts p r pl f) (run_block r f)) f) t (RunDoes p q n m s f r pl G t.names) (IsItsCall p q n m s f r pl G t.names)

abbrev pub EndIsNumbered : (p q : ProgramTree) (c : Inserted p q) (n m : ℕ) (s : Span) (f : Function) (r : Run) (pl : Plan) (G : Handing) (t : ItemNames) → Type 0
EndIsNumbered p q c n m s f r pl G t = CalledOnce p q c n m s f (with_other_block (run_block r f) (with_parts r (call_parts p r pl f) (run_block r f)) f) t (EndDoes p q n m s f r pl G t.names) (IsItsLastCall p q n m s f r pl G t.names)

-- by whether the run goes to its block's end
abbrev pub IsNumbered : Bool → (p q : ProgramTree) (c : Inserted p q) (n m : ℕ) (s : Span) (f : Function) (r : Run) (pl : Plan) (G : Handing) (t : ItemNames) → Type 0
IsNumbered false p q c n m s f r pl G t = CallIsNumbered p q c n m s f r pl G t
IsNumbered true p q c n m s f r pl G t = EndIsNumbered p q c n m s f r pl G t
