-- The laws of texts put together, as the tactics take them.
use Rattle.std.proofs.Common.{append_assoc, append-nil}

pub ruleset text_rules = (append_assoc, append-nil)
