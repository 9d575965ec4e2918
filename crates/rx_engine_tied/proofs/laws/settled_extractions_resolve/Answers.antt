use Rattle.rx_hoist_extraction.specs.Extraction.{extraction}
use Rattle.rx_hoist_naming.specs.NamedPlan.{named_plan}
use Rattle.rx_engine_planned.specs.Decided.{run_at}
use Rattle.rx_engine_tied.proofs.Faultless.{no_cause}
use Rattle.rx_engine_tied.proofs.laws.settled_extractions_resolve.Goals as goal

pub returns : goal.returns
returns c = record {
  meant = λ A q bytes names t muts choice d z front free s f e bounds.
      let h = c.decided_runs_are_selected.ensures A q bytes names t muts d free s f e in
      let x = c.settled_extractions_are_alike.ensures A q bytes names t muts choice d z front free s f e h.text h.text_resolves bounds in
      (x.4.names, x.4.meant);
  faults = λ A q bytes names t muts choice d z front free s f e bounds fault k.
      let h = c.decided_runs_are_selected.ensures A q bytes names t muts d free s f e in
      let x = c.settled_extractions_are_alike.ensures A q bytes names t muts choice d z front free s f e h.text h.text_resolves bounds in
      no_cause (extraction A.program (run_at A.run) (named_plan A) bounds) x.4.names x.4.meant fault k;
}
