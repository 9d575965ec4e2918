-- The function of a run with the call in its place (REM, "Extract function"; Rust Reference, "Block expressions", "Scopes"): where the run
-- stands in its function, what is asked of the names behind it and of the text where its block may stand, and what is told.
use Rattle.std.specs.Prelude.{◌≡◌, ◌≤◌, ◌+◌, ℕ, [], false}
use Rattle.rx_core.specs.declared.types.Span.{Span}
use Rattle.rx_tree.specs.Lists.{statements, tail}
use Rattle.rx_tree.specs.Plain.{Function, ProgramTree}
use Rattle.rx_resolve_names.specs.declared.resolved.ItemNames.{ItemNames}
use Rattle.rx_hoist_extraction.specs.Names.{is_among, declared_by, behind_all}
use Rattle.rx_hoist_extraction.specs.Run.{Run, Parts, as_statements, run_block, run_parts, in_front, chosen, behind, with_parts, labels_round}
use Rattle.rx_hoist_extraction.specs.Plan.{Exit, Plan}
use Rattle.rx_hoist_extraction.specs.Call.{replacement}
use Rattle.rx_engine_names.specs.ParameterNames.{parameter_names}
use Rattle.rx_engine_names.specs.Insertion.{Inserted}
use Rattle.rx_engine_names.specs.Within.{OptionalWithin, StatementsWithin}
use Rattle.rx_engine_names.specs.Placed.{StandsAlone, BindsNot, agreed, inside_of, by_others, by_an_end, LikeButFor}
use Rattle.rx_engine_names.specs.HandedOut.{Handing}
use Rattle.rx_engine_names.specs.HandsOver.{HandsOutThere, HandsOutLast, told_handed, told_last}

-- its block stands on the way to it, and no other has its place; the name of the new function is no variable's
pub record RunStands (r : Run) (pl : Plan) (f : Function) : Type 0 where
  pub alone : StandsAlone (run_block r f) r.way f.body
  pub forward : r.first ≤ r.last + 1
  pub bound : BindsNot pl.name f.body
  pub passed : is_among pl.name (parameter_names f.params) ≡ false

-- what stands in its place
abbrev pub call_parts : ProgramTree → Run → Plan → Function → Parts
call_parts P r pl f = replacement P pl r.span (labels_round r f) (run_parts r f)

-- the call by a plan, of the new function with a number and with the enum of exits with a number and those of its variants
abbrev pub handing_of : Run → Plan → Function → ℕ → ℕ → (Exit → ℕ) → Handing
handing_of r pl f number enum variant = record {
  call = record { plan = pl; place = r.span; scope = []; number = number };
  loops = [];
  own = declared_by (run_parts r f).statements;
  enum = enum;
  variant = variant;
}

-- behind the run, in its block, names are used that the run and the call both bind, or neither does
abbrev pub BehindAgrees : ProgramTree → Run → Plan → Function → Type 0
BehindAgrees P r pl f = StatementsWithin (agreed (chosen r (statements (run_block r f))) (call_parts P r pl f).statements) [] [] (as_statements (behind r (statements (run_block r f))))
    × OptionalWithin (agreed (chosen r (statements (run_block r f))) (call_parts P r pl f).statements) (behind_all [] (as_statements (behind r (statements (run_block r f))))) [] (tail (run_block r f))

-- what the text says wherever the run's block may stand
abbrev pub TextSays : ProgramTree → ℕ → ProgramTree → ℕ → Span → Function → Run → Handing → Type 0
TextSays P n Q m s f r G = HandsOutThere (inside_of P n s f) (inside_of Q m s f) (labels_round r f) (in_front r (statements (run_block r f))) (chosen r (statements (run_block r f))) G

abbrev pub TextSaysLast : ProgramTree → ℕ → ProgramTree → ℕ → Span → Function → Run → Handing → Type 0
TextSaysLast P n Q m s f r G = HandsOutLast (inside_of P n s f) (inside_of Q m s f) (labels_round r f) (in_front r (statements (run_block r f))) (chosen r (statements (run_block r f))) (tail (run_block r f)) G

-- the function with the call resolves, and is like that of the text but for the run's block; where something follows the run there, and
-- where it goes to the block's end
abbrev pub LikeCalled : (p q : ProgramTree) (c : Inserted p q) (n m : ℕ) (s : Span) (f : Function) (r : Run) (pl : Plan) (G : Handing) (t : ItemNames) → Type 0
LikeCalled p q c n m s f r pl G t = LikeButFor p q c n m s f (run_block r f) (with_parts r (call_parts p r pl f) (run_block r f)) (labels_round r f)
    (by_others (told_handed G) (inside_of p n s f) (inside_of q m s f) (in_front r (statements (run_block r f))) (chosen r (statements (run_block r f))) (call_parts p r pl f).statements) t

abbrev pub LikeCalledLast : (p q : ProgramTree) (c : Inserted p q) (n m : ℕ) (s : Span) (f : Function) (r : Run) (pl : Plan) (G : Handing) (t : ItemNames) → Type 0
LikeCalledLast p q c n m s f r pl G t = LikeButFor p q c n m s f (run_block r f) (with_parts r (call_parts p r pl f) (run_block r f)) (labels_round r f)
    (by_an_end (told_last G) (inside_of p n s f) (inside_of q m s f) (in_front r (statements (run_block r f))) (chosen r (statements (run_block r f))) (call_parts p r pl f).statements (tail (run_block r f)) (call_parts p r pl f).tail) t
