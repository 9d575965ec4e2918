use Rattle.std.proofs.Common.{sym, subst, map, slice_get}
use Rattle.rx_typed.specs.Types.{named}
use Rattle.rx_typed.specs.PlainTypes.{plain-FieldDecl, plain-VariantDecl, declarations}
use Rattle.rx_cover.specs.Finding.{IsEnum}
use Rattle.rx_cover.proofs.LeastLemmas.{struct_at, enum_at, sole_struct}
use Rattle.rx_cover.proofs.least.item_apart.Goals as goal

pub enum_apart-requires-clause-here : goal.enum_apart-requires-clause-here
enum_apart-requires-clause-here c =
    let a = c.in-Some-Enum in
    subst (λ l. IsEnum (slice_get (declarations c.args.decls.now.items) c.args.item) (map plain-VariantDecl l)) (sym c.as_slice.ensures)
    (enum_at c.args.decls.now.items c.args.item a.field-0.now a.field-0-0 a.field-0-1 a.field-0-2 a.variants (sym a.ensures.value) a.field-0-is)

pub returns-in-Some-Struct : goal.returns-in-Some-Struct
returns-in-Some-Struct c =
    let D = declarations c.args.decls.now.items in
    let a = c.in-Some-Struct in
    c.sole_apart.ensures D (named c.args.item)
    (sole_struct D c.args.item (map plain-FieldDecl a.field-0-3) (struct_at c.args.decls.now.items c.args.item a.field-0.now a.field-0-0 a.field-0-1 a.field-0-2 a.field-0-3 (sym a.ensures.value) a.field-0-is))
