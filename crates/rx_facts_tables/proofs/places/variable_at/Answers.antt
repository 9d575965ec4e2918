use Rattle.std.proofs.Common.{length, refl}
use Rattle.std.proofs.lemmas.Option.{slice_get_read, slice_get_past}
use Rattle.rx_typed_declarations.specs.Sizes.{told}
use Rattle.rx_facts_tables.specs.Layouts.{plain-Spot, plain-Located}
use Rattle.rx_facts_tables.proofs.Walking.{variable_begun, variable_past}
use Rattle.rx_facts_tables.proofs.places.variable_at.Goals as goal

pub returns-in-Some : goal.returns-in-Some
returns-in-Some c = variable_begun (told c.args.frame.now.sizes.now) c.args.frame.now.types.now c.args.layout.now.starts c.args.variable c.start_of.result c.in-Some.ty.now (plain-Spot c.typed_spot.result)
    c.requires.starts
    (slice_get_read c.args.frame.now.types.now (length c.args.frame.now.types.now) c.args.variable c.in-Some.ty.now refl c.in-Some.ensures.lookup.3.0 c.in-Some.ensures.lookup.1)
    c.start_of.ensures c.typed_spot.ensures

pub returns-in-None : goal.returns-in-None
returns-in-None c = variable_past (told c.args.frame.now.sizes.now) c.args.frame.now.types.now c.args.layout.now.total c.args.variable (plain-Located c.nowhere.result)
    c.requires.total (slice_get_past c.args.frame.now.types.now c.args.variable c.in-None.ensures.lookup.3) c.nowhere.ensures
