-- A plan whose names are words: what is asked of it so that the extraction of a formed program is formed (Rust Reference,
-- "Identifiers"). What a text's plan names is a word in the text; the counts are far below their bound there.
use Rattle.std.specs.Prelude.{◌+◌, ◌≤◌, ◌^◌, Option, Some, None, length, ⊤}
use Rattle.rx_core.specs.declared.types.Kind.{Kind}
use Rattle.rx_core.specs.declared.types.Span.{Span}
use Rattle.rx_tree.specs.Lists.{Every}
use Rattle.rx_tree.specs.Plain.{ProgramTree}
use Rattle.rx_typed.specs.Types.{Typ, Shape, Shapes, integer, boolean, tuple_of, reference, named, no_shape, shape_and}
use Rattle.rx_print_spelling.specs.Formed.{Spells}
use Rattle.rx_hoist_extraction.specs.Plan.{Variable, Param, Leaving, Pins, Plan}
use Rattle.rx_hoist_extraction.specs.Values.{values_of, next_values}
use Rattle.rx_hoist_extraction.specs.WrittenTypes.{name_of}
use Rattle.rx_hoist_extraction.specs.NewFunction.{signature_positions}

-- the structs and enums that a type names have names in the program
abbrev mutual
  pub TypeSpells : ProgramTree → Shape Kind → Type 0
  TypeSpells P (integer k) = ⊤
  TypeSpells P boolean = ⊤
  TypeSpells P (tuple_of ts) = TypesSpell P ts
  TypeSpells P (reference m t) = TypeSpells P t
  TypeSpells P (named i) = Spells (name_of P i)

  pub TypesSpell : ProgramTree → Shapes Kind → Type 0
  TypesSpell P no_shape = ⊤
  TypesSpell P (shape_and t ts) = TypeSpells P t × TypesSpell P ts

abbrev pub MaybeSpells : ProgramTree → Option Typ → Type 0
MaybeSpells P None = ⊤
MaybeSpells P (Some t) = TypeSpells P t

abbrev pub VariableSpells : ProgramTree → Variable → Type 0
VariableSpells P v = Spells v.name × TypeSpells P v.typ

abbrev pub PinsSpell : ProgramTree → Option Pins → Type 0
PinsSpell P None = ⊤
PinsSpell P (Some pins) = Every (λ (p : Span × Typ). TypeSpells P p.1) pins.types

pub record FormedPlan (P : ProgramTree) (pl : Plan) : Type 0 where
  pub name : Spells pl.name
  pub exits : Every (λ (x : Leaving). Every (VariableSpells P) x.outs) pl.exits
  pub value : MaybeSpells P pl.value
  pub result : TypeSpells P pl.result
  pub params : Every (λ (x : Param). VariableSpells P x.variable) pl.params
  pub locals : Every (VariableSpells P) pl.locals
  pub redeclared : Every (VariableSpells P) pl.redeclared
  pub pins : PinsSpell P pl.pins
  -- fresh names are found
  pub fresh_lifetimes : length pl.lifetimes + signature_positions P pl ≤ 2 ^ 64
  pub fresh_variable : length pl.identifiers + 1 ≤ 2 ^ 64
  pub fresh_variables : Every (λ (x : Leaving). length pl.identifiers + length (values_of pl x) ≤ 2 ^ 64) pl.exits
  pub fresh_handed : length pl.identifiers + length (next_values pl) ≤ 2 ^ 64
