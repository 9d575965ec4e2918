use Rattle.rx_typed.specs.Tree.{mark_of, temporary_of}
use Rattle.rx_engine_related.proofs.Tailed.{tailed_entry, tail_out_written, tail_out_living, tail_others_dead}
use Rattle.rx_engine_related.proofs.TailJumps.{tail_jumps_meet}
use Rattle.rx_engine_related.proofs.Fewer.{tells_once}
use Rattle.rx_engine_related.proofs.histories_laws.tailed_texts_are_left_so.Goals as goal

pub returns-clause-written : goal.returns-clause-written
returns-clause-written c A has k p once muts acc x whole i o e d h q = tail_out_written A has k p once muts acc x whole i o (mark_of e).node (temporary_of e) d h q

pub returns-clause-living : goal.returns-clause-living
returns-clause-living c A has k p once muts acc u x i o e d h q = tail_out_living A has k p once muts acc u x i o (mark_of e).node (temporary_of e) d h q

pub returns-clause-others : goal.returns-clause-others
returns-clause-others c A has k p once muts passed u x i s none e d h l = tail_others_dead A has k p once muts passed u x i s none (mark_of e).node (temporary_of e) d h l

pub returns-clause-marked : goal.returns-clause-marked
returns-clause-marked c A xs l none written = tailed_entry A.function A.run A.home.around.loops xs l none written

pub returns-clause-once : goal.returns-clause-once
returns-clause-once c = tells_once

pub returns-clause-jumps : goal.returns-clause-jumps
returns-clause-jumps c = tail_jumps_meet
