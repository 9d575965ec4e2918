use Rattle.std.proofs.Common.{◌≡◌, ◌++◌, map, drop}
use Rattle.rx_typed.specs.PlainTypes.{plain-Ty}
use Rattle.rx_hoist_naming.proofs.types.+bare.Given as goal

-- the types so far, and those that are left
abbrev pub invariant-all_bare-loop-part : goal.invariant-all_bare-loop-part
invariant-all_bare-loop-part l = map plain-Ty l.all ++ map plain-Ty (drop l.part-index l.parts) ≡ map plain-Ty l.fn.parts
