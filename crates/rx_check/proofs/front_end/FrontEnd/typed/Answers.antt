use Rattle.std.proofs.Common.{sym, ap, subst}
use Rattle.rx_facts.specs.Functions.{IsTypedProgram}
use Rattle.rx_check.specs.Front.{Front, IsFronted}
use Rattle.rx_check.proofs.ReaderLemmas.{typed_so}
use Rattle.rx_check.proofs.front_end.FrontEnd.typed.Goals as goal

pub returns-clause-typed : goal.returns-clause-typed
returns-clause-typed c = subst IsTypedProgram (sym (ap (λ (x : Front). x.typed) c.self.view_is)) (typed_so c.args.self.now (subst IsFronted c.self.view_is c.self.invariant))

pub returns-clause-finite : goal.returns-clause-finite
returns-clause-finite c = let h = returns-clause-typed c in c.typed_declarations_are_finite.ensures.finite h.0 h.1 _ h.3

pub returns-clause-numbered : goal.returns-clause-numbered
returns-clause-numbered c = let h = returns-clause-typed c in record { each = c.typed_declarations_are_finite.ensures.few h.0 h.1 _ h.2 h.3 }

pub returns-clause-well_formed : goal.returns-clause-well_formed
returns-clause-well_formed c = let h = returns-clause-typed c in h.3.well_formed
