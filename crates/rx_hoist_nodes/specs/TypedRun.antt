-- The run in the typed tree that a run of the text is: its block by the block's number, and how many statements stand in front of
-- it and in it, without the block's tail (Rust Reference, "Block expressions").
use Rattle.std.specs.Prelude.{ℕ, suc, ◌-◌, Bool, true, false}
use Rattle.rx_tree.specs.Plain.{ProgramTree}
use Rattle.rx_typed_runs.specs.declared.runs.RunPos.{RunPos}
use Rattle.rx_exits_plan.specs.Runs.{Run}
use Rattle.rx_hoist_nodes.specs.Nodes.{number_at}

-- the statements from one number to another, which is left out where it is that of the tail
abbrev pub statements_from : ℕ → ℕ → Bool → ℕ
statements_from first last true = last - first
statements_from first last false = suc last - first

abbrev pub typed_run : ProgramTree → RunPos → Run
typed_run p r = record {
  block = number_at p r.block.item r.block.path;
  first = r.first;
  count = statements_from r.first r.last r.tail;
  tail = r.tail;
}
