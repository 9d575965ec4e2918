-- The laws of texts put together, as the tactics take them.
use Rattle.std.proofs.Common.{append_assoc, append-nil}
use Rattle.rx_print_parts.proofs.Flat.{flat-append}

pub ruleset text_rules = (append_assoc, flat-append, append-nil)

pub ruleset end_rules = (append-nil)
