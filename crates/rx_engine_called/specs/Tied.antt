-- How the text of a run and the text behind it stand to the typed tree of its function (Rust Reference, "Scopes"): what is read off the tree by
-- numbers is named there by the names of these variables. `g` is the function as it is written, with kinds and types written out or not.
use Rattle.std.specs.Prelude.{◌≡◌, ◌≢◌, ℕ, true, false, [], map, get_or, Option}
use Rattle.rx_tree.specs.declared.tree.Ident.{Ident}
use Rattle.rx_tree.specs.Lists.{statements, tail}
use Rattle.rx_tree.specs.Plain.{Function}
use Rattle.rx_lower_walks.specs.Walks.{Among}
use Rattle.rx_exits_plan.specs.Blocks.{declared_by_all}
use Rattle.rx_exits_plan.specs.Points.{breaks, continues, Exit, next}
use Rattle.rx_exits_plan.specs.Runs.{inside}
use Rattle.rx_exits_plan.specs.Asked.{Asked}
use Rattle.rx_exits_plan.specs.Exits.{at_start, exits}
use Rattle.rx_exits_plan.specs.Occurrences.{is_direct, is_named_behind}
use Rattle.rx_exits_plan.specs.Plan.{Plan, variables_of}
use Rattle.rx_hoist_extraction.specs.Names.{behind_all, declared_by, is_among, Names}
use Rattle.rx_hoist_extraction.specs.Run.{as_statements, behind, labels_round, Run, run_block, run_parts}
use Rattle.rx_hoist_naming.specs.NamedPlan.{place_of}
use Rattle.rx_engine_names.specs.Within.{Claims, OptionalWithin, StatementsWithin}
use Rattle.rx_engine_called.specs.Outside.{a_break, a_continue, a_name, outside_of}

-- a word of the text; where the run declares it, it names a variable there that a direct statement of the run declares and that is named behind it
abbrev pub tied_behind : Names → Names → Asked → Names → Claims
tied_behind words ns q own = record {
  name = λ x. (is_among x words ≡ true) × (is_among x own ≡ false);
  variable = λ since x. is_among x since ≡ false → (is_among x words ≡ true)
      × (is_among x own ≡ true → (k : ℕ) × (is_direct q.run q.home.body k ≡ true) × (is_named_behind q.run q.home.body k ≡ true) × (get_or ns k [] ≡ x));
  broken = λ since ls l. Unit {0};
  continued = λ since ls l. Unit {0};
  returned = Unit {0};
  annotation = λ y. Unit {0};
  block = λ since ls b. Unit {0};
}

-- `words` are those of the text, `ns` the names of the function's variables
pub record RunTied (ns : Names) (q : Asked) (k : Plan) (r : Run) (g : Function) : Type 0 where
  -- a variable that occurs in the run, and is in scope where it begins, is named in its text
  pub named : (x : ℕ) → Among x (variables_of q) → Among x (at_start q.run q.home).scope → Among (a_name (get_or ns x [])) (outside_of (labels_round r g) (run_parts r g))
  -- direct statements declare these
  pub declared : declared_by (run_parts r g).statements ≡ map (λ (x : ℕ). get_or ns x []) (declared_by_all (inside q.run q.home.body))
  -- its jumps
  pub broken : (l : ℕ) → Among (breaks l) (exits q.run q.home) → (x : Option Ident) × Among (a_break x (place_of l q.home.around.loops)) (outside_of (labels_round r g) (run_parts r g))
  pub continued : (l : ℕ) → Among (continues l) (exits q.run q.home) → (x : Option Ident) × Among (a_continue x (place_of l q.home.around.loops)) (outside_of (labels_round r g) (run_parts r g))
  -- what a jump hands out is in scope where the run begins
  pub left : (e : Exit) (x : ℕ) → e ≢ next → Among x (k.outs e) → Among x (at_start q.run q.home).scope

abbrev pub BehindTied : Names → Names → Asked → Run → Function → Type 0
BehindTied words ns q r g = StatementsWithin (tied_behind words ns q (declared_by (run_parts r g).statements)) [] [] (as_statements (behind r (statements (run_block r g))))
    × OptionalWithin (tied_behind words ns q (declared_by (run_parts r g).statements)) (behind_all [] (as_statements (behind r (statements (run_block r g))))) [] (tail (run_block r g))
