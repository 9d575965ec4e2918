use Rattle.std.proofs.Common.{⊎_elim}
use Rattle.rx_engine_fitting.proofs.laws.extractions_are_typed_where_two_functions_are.Goals as goal

pub returns : goal.returns
returns c = λ bytes T w d is short allowed stands bounds s f at called made e h.
    ⊎_elim
    (λ u. let x = called u.names u.meant u.declared u.declares u.sizes u.is_sizes in u.untyped.none x.0 x.1)
    (λ u. let x = made u.names u.meant u.declared u.declares u.sizes u.is_sizes in u.untyped.none x.0 x.1)
    (c.faults_of_types_stand_in_two_functions.ensures bytes T w d is short allowed stands bounds s f at e h)
