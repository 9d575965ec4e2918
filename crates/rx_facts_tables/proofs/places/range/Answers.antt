use Rattle.std.proofs.Common.{◌≡◌, sym, ap, ◌∙◌, arith, map, option_map}
use Rattle.rx_typed.specs.PlainTypes.{declarations, plain-Ty}
use Rattle.rx_typed_declarations.specs.Sizes.{told}
use Rattle.rx_lower_walks.specs.declared.actions.Root.{Root}
use Rattle.rx_lower_walks.specs.PlainFlow.{plain-Root, plain-Place}
use Rattle.rx_facts_tables.specs.Places.{Located, at, nowhere, spot_parts, place_at}
use Rattle.rx_facts_tables.specs.Layouts.{plain-Frame, plain-Located}
use Rattle.rx_facts_tables.proofs.Walking.{place_ends, variable_ends, nothing_there}
use Rattle.rx_facts_tables.proofs.places.range.Goals as goal

pub located-at-requires-clause-fits : goal.located-at-requires-clause-fits
located-at-requires-clause-fits c =
    let e = variable_ends (told c.args.frame.now.sizes.now) (map (option_map plain-Ty) c.args.frame.now.types.now) c.in-Variable.variable c.args.layout.now.total (plain-Located c.variable_at.result)
    c.requires.layout.total c.variable_at.ensures in omega (arith, e, c.requires.layout.small)

pub count_of-requires : goal.count_of-requires
count_of-requires c =
    let e = place_ends (declarations c.args.frame.now.decls.now.items) (told c.args.frame.now.sizes.now) c.requires.sized (map (option_map plain-Ty) c.args.frame.now.types.now) c.in-Variable.variable
    c.args.layout.now.total c.as_slice.result.now (plain-Located c.variable_at.result) (plain-Located c.located-at.result) c.requires.layout.total c.variable_at.ensures c.located-at.ensures in
    omega (arith, e, c.requires.layout.small)

pub returns-in-Variable-clause-within : goal.returns-in-Variable-clause-within
returns-in-Variable-clause-within c =
    let e = place_ends (declarations c.args.frame.now.decls.now.items) (told c.args.frame.now.sizes.now) c.requires.sized (map (option_map plain-Ty) c.args.frame.now.types.now) c.in-Variable.variable
    c.args.layout.now.total c.as_slice.result.now (plain-Located c.variable_at.result) (plain-Located c.located-at.result) c.requires.layout.total c.variable_at.ensures c.located-at.ensures in
    omega (arith, e, c.count_of.ensures)

nothing : (c : goal.In-Temporary) → place_at (plain-Frame c.args.frame.now) (plain-Place c.args.place.now) ≡ at 0 nowhere
nothing c = ap (λ (r : Root). place_at (plain-Frame c.args.frame.now) (record { root = plain-Root r; steps = c.args.place.now.steps })) c.in-Temporary.is
    ∙ nothing_there (declarations c.args.frame.now.decls.now.items) (told c.args.frame.now.sizes.now) c.args.place.now.steps 0

pub returns-in-Temporary-clause-first : goal.returns-in-Temporary-clause-first
returns-in-Temporary-clause-first c = sym (ap (λ (l : Located). l.first) (nothing c))

pub returns-in-Temporary-clause-count : goal.returns-in-Temporary-clause-count
returns-in-Temporary-clause-count c = sym (ap (λ (l : Located). spot_parts (told c.args.frame.now.sizes.now) l.spot) (nothing c))
