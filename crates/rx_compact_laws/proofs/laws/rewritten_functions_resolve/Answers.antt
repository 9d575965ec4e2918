use Rattle.rx_compact_laws.specs.Beside.{Nothing}
use Rattle.rx_compact_laws.proofs.ResolvingFunctions.{function}
use Rattle.rx_compact_laws.proofs.laws.rewritten_functions_resolve.Goals as goal

pub returns : goal.returns
returns c p q i old new spans rs bs same all inner f g w k ns ms a b scope around at t u names e =
    let r = function p q i old new spans same rs bs all inner f g ns ms w a b k scope around at Nothing t u names e in
    record { old = r.old; new = r.new; adds = r.names; is = r.is; beside = r.beside }
