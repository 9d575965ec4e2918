-- The enum of exits and the signature of the new function are formed: written types are, by induction on them, since fresh lifetimes
-- are words.
use Rattle.std.proofs.Common.{◌≡◌, ℕ, zero, suc, ◌+◌, ◌≤◌, ◌^◌, Bool, true, false, List, [], ◌∷◌, ◌++◌, length, map, Option, Some, None, refl, arith}
use Rattle.std.specs.Prelude.{if◌then◌else◌}
use Rattle.rx_core.specs.declared.types.Span.{Span}
use Rattle.rx_core.specs.declared.types.Kind.{Kind}
use Rattle.rx_tree.specs.declared.tree.Ident.{Ident}
use Rattle.rx_tree.specs.Lists.{Every}
use Rattle.rx_tree.specs.Plain as plain
use Rattle.rx_tree.specs.Plain.{ProgramTree}
use Rattle.rx_typed.specs.Types.{Typ, Shape, Shapes, integer, boolean, tuple_of, reference, named, no_shape, shape_and, shapes_of}
use Rattle.rx_print_spelling.specs.Formed.{Lasting, MaybeLasting, IsSome, GivenLifetimes, FormedType, FormedTypes, WrittenType, FormedBound, FormedVariant, FormedParameter, FormedItem}
use Rattle.rx_hoist_extraction.specs.Names.{Names}
use Rattle.rx_hoist_extraction.specs.Plan.{Exit, to_next, to_break, to_continue, to_return, Mode, by_value, by_reborrow, by_view, by_shared, by_mut, Variable, Param, Leaving, Bounds, Plan, has_enum, outs_of, same_exit, has_exit, is_unit}
use Rattle.rx_hoist_extraction.specs.Values.{Value, result_of, variables_held, result_if_any, values_at, next_values, types_of}
use Rattle.rx_hoist_extraction.specs.Fresh.{fresh_lifetime}
use Rattle.rx_hoist_extraction.specs.WrittenTypes.{lifetimes_of, positions, all_positions, positions_of, lifetimes_from, list_if_any, full, all_full, each_full, elided, all_elided}
use Rattle.rx_hoist_extraction.specs.NewEnum.{fields_at, all_fields, enum_positions, variants, new_enum}
use Rattle.rx_hoist_extraction.specs.NewFunction.{passed, passed_types, new_parameters, parameter_positions, joined_type, full_if_any, enum_type, new_result, result_positions, signature_positions, is_bound, shorts_of, with_bounds}
use Rattle.rx_hoist_extraction.specs.FormedPlan.{TypeSpells, TypesSpell, MaybeSpells, VariableSpells, FormedPlan}
use Rattle.rx_hoist_extraction.proofs.Signatures.{positions_both, shapes_positions}
use Rattle.rx_hoist_extraction.proofs.MadeNames.{exit_is_identifier, exit_name_spells, lifetime_is_word}

-- ---- lifetimes of a row

lasting_row : (s : Span) (taken : Names) (n many : ℕ) → length taken + (n + many) ≤ 2 ^ 64 → Every Lasting (lifetimes_from s (fresh_lifetime taken) n many)
lasting_row s taken n zero b = tt
lasting_row s taken n (suc many) b = (lifetime_is_word taken n (omega arith), lasting_row s taken (suc n) many (omega arith))

each_given : (ls : List Ident) → Every Lasting ls → Every MaybeLasting (map (λ l. Some l) ls)
each_given [] h = tt
each_given (l ∷ ls) h = (h.0, each_given ls h.1)

all_given : (ls : List Ident) → Every Lasting ls → GivenLifetimes (list_if_any ls)
all_given [] h = tt
all_given (l ∷ ls) h = (tt, each_given (l ∷ ls) h)

-- ---- written types

mutual
  pub full_formed : (P : ProgramTree) (s : Span) (taken : Names) (n : ℕ) (t : Shape Kind) → length taken + (n + positions P t) ≤ 2 ^ 64 → TypeSpells P t
      → FormedType (full P s (fresh_lifetime taken) n t)
  full_formed P s taken n (integer k) b h = tt
  full_formed P s taken n boolean b h = tt
  full_formed P s taken n (tuple_of ts) b h = all_full_formed P s taken n ts b h
  full_formed P s taken n (reference m t) b h = (lifetime_is_word taken n (omega arith), full_formed P s taken (suc n) t (omega arith) h)
  full_formed P s taken n (named i) b h =
      (h, all_given (lifetimes_from s (fresh_lifetime taken) n (lifetimes_of P i)) (lasting_row s taken n (lifetimes_of P i) b))

  all_full_formed : (P : ProgramTree) (s : Span) (taken : Names) (n : ℕ) (ts : Shapes Kind) → length taken + (n + all_positions P ts) ≤ 2 ^ 64 → TypesSpell P ts
      → FormedTypes (all_full P s (fresh_lifetime taken) n ts)
  all_full_formed P s taken n no_shape b h = tt
  all_full_formed P s taken n (shape_and t ts) b h =
      (full_formed P s taken n t (omega arith) h.0, all_full_formed P s taken (n + positions P t) ts (omega arith) h.1)

each_full_formed : (P : ProgramTree) (s : Span) (taken : Names) (n : ℕ) (ts : List Typ) → length taken + (n + positions_of P ts) ≤ 2 ^ 64 → Every (TypeSpells P) ts
    → FormedTypes (each_full P s (fresh_lifetime taken) n ts)
each_full_formed P s taken n [] b h = tt
each_full_formed P s taken n (t ∷ ts) b h =
    (full_formed P s taken n t (omega arith) h.0, each_full_formed P s taken (n + positions P t) ts (omega arith) h.1)

mutual
  pub elided_formed : (P : ProgramTree) (s : Span) (t : Shape Kind) → TypeSpells P t → FormedType (elided P s t)
  elided_formed P s (integer k) h = tt
  elided_formed P s boolean h = tt
  elided_formed P s (tuple_of ts) h = all_elided_formed P s ts h
  elided_formed P s (reference m t) h = (tt, elided_formed P s t h)
  elided_formed P s (named i) h = (h, tt)

  all_elided_formed : (P : ProgramTree) (s : Span) (ts : Shapes Kind) → TypesSpell P ts → FormedTypes (all_elided P s ts)
  all_elided_formed P s no_shape h = tt
  all_elided_formed P s (shape_and t ts) h = (elided_formed P s t h.0, all_elided_formed P s ts h.1)

-- ---- what exits hand out

held_spell : (P : ProgramTree) (vs : List Variable) → Every (VariableSpells P) vs → Every (TypeSpells P) (types_of (variables_held vs))
held_spell P [] h = tt
held_spell P (v ∷ vs) h = (h.0.1, held_spell P vs h.1)

result_spells : (P : ProgramTree) (t : Option Typ) → MaybeSpells P t → Every (TypeSpells P) (types_of (result_if_any t))
result_spells P None h = tt
result_spells P (Some t) h = (h, tt)

with_result : (P : ProgramTree) (t : Option Typ) (vs : List Value) → MaybeSpells P t → Every (TypeSpells P) (types_of vs) → Every (TypeSpells P) (types_of (result_if_any t ++ vs))
with_result P None vs h k = k
with_result P (Some t) vs h k = (h, k)

unit_or_not : (P : ProgramTree) (t : Typ) (b : Bool) → TypeSpells P t → Every (TypeSpells P) (types_of (if b then [] else result_of t ∷ []))
unit_or_not P t true h = tt
unit_or_not P t false h = (h, tt)

values_spell : (P : ProgramTree) (pl : Plan) → FormedPlan P pl → (x : Exit) (vs : List Variable) → Every (VariableSpells P) vs → Every (TypeSpells P) (types_of (values_at pl x vs))
values_spell P pl F to_next vs h = with_result P pl.value (variables_held vs) F.value (held_spell P vs h)
values_spell P pl F (to_break k) vs h = held_spell P vs h
values_spell P pl F (to_continue k) vs h = held_spell P vs h
values_spell P pl F to_return vs h = unit_or_not P pl.result (is_unit pl.result) F.result

pub outs_spell : (P : ProgramTree) (e : Exit) (xs : List Leaving) → Every (λ (x : Leaving). Every (VariableSpells P) x.outs) xs → Every (VariableSpells P) (outs_of e xs)
outs_spell P e [] h = tt
outs_spell P e (x ∷ xs) h = by (same_exit e x.exit) (outs_spell P e xs h.1)
  where
    by : (b : Bool) → Every (VariableSpells P) (outs_of e xs) → Every (VariableSpells P) (if b then x.outs else outs_of e xs)
    by true k = h.0
    by false k = k

next_spell : (P : ProgramTree) (pl : Plan) → FormedPlan P pl → Every (TypeSpells P) (types_of (next_values pl))
next_spell P pl F = by (has_exit to_next pl.exits)
  where
    by : (b : Bool) → Every (TypeSpells P) (types_of (if b then values_at pl to_next (outs_of to_next pl.exits) else []))
    by true = values_spell P pl F to_next (outs_of to_next pl.exits) (outs_spell P to_next pl.exits F.exits)
    by false = tt

-- ---- the enum

variants_formed : (P : ProgramTree) (pl : Plan) → FormedPlan P pl → (s : Span) (n : ℕ) (xs : List Leaving) → Every (λ (x : Leaving). Every (VariableSpells P) x.outs) xs
    → length pl.lifetimes + (n + positions_of P (all_fields pl xs)) ≤ 2 ^ 64 → Every FormedVariant (variants P pl s n xs)
variants_formed P pl F s n [] h b = tt
variants_formed P pl F s n (x ∷ xs) h b = let ts = fields_at pl x in
    let split = positions_both P ts (all_fields pl xs) in (
      (exit_name_spells x.exit, each_full_formed P s pl.lifetimes n ts (omega (arith, split)) (values_spell P pl F x.exit x.outs h.0)),
      variants_formed P pl F s (n + positions_of P ts) xs h.1 (omega (arith, split)),
    )

some_variant : (P : ProgramTree) (pl : Plan) (s : Span) (xs : List Leaving) → has_enum xs ≡ true → IsSome (variants P pl s 0 xs)
some_variant P pl s [] e = absurd cc
some_variant P pl s (x ∷ xs) e = tt

enum_within : (P : ProgramTree) (pl : Plan) → has_enum pl.exits ≡ true → result_positions P pl ≡ enum_positions P pl
enum_within P pl e = rw e refl

pub enum_formed : (P : ProgramTree) (pl : Plan) → FormedPlan P pl → (s : Span) → has_enum pl.exits ≡ true → FormedItem (plain.enum_item s (new_enum P pl s))
enum_formed P pl F s e = let within = enum_within P pl e in
    let few = F.fresh_lifetimes in (
      exit_is_identifier pl F.name,
      lasting_row s pl.lifetimes 0 (enum_positions P pl) (omega (arith, within, few)),
      some_variant P pl s pl.exits e,
      variants_formed P pl F s 0 pl.exits F.exits (omega (arith, within, few)),
    )

-- ---- the signature

passed_spells : (P : ProgramTree) (m : Mode) (t : Typ) → TypeSpells P t → TypeSpells P (passed m t)
passed_spells P by_value t h = h
passed_spells P by_reborrow t h = h
passed_spells P by_view (integer k) h = h
passed_spells P by_view boolean h = h
passed_spells P by_view (tuple_of ts) h = h
passed_spells P by_view (reference m t) h = h
passed_spells P by_view (named i) h = h
passed_spells P by_shared t h = h
passed_spells P by_mut t h = h

parameters_formed : (P : ProgramTree) (pl : Plan) (s : Span) (n : ℕ) (xs : List Param) → Every (λ (x : Param). VariableSpells P x.variable) xs
    → length pl.lifetimes + (n + positions_of P (passed_types xs)) ≤ 2 ^ 64 → Every FormedParameter (new_parameters P pl s n xs)
parameters_formed P pl s n [] h b = tt
parameters_formed P pl s n (x ∷ xs) h b = let t = passed x.mode x.variable.typ in (
  (h.0.0, full_formed P s pl.lifetimes n t (omega arith) (passed_spells P x.mode x.variable.typ h.0.1)),
  parameters_formed P pl s (n + positions P t) xs h.1 (omega arith),
)

shapes_spell : (P : ProgramTree) (ts : List Typ) → Every (TypeSpells P) ts → TypesSpell P (shapes_of ts)
shapes_spell P [] h = tt
shapes_spell P (t ∷ ts) h = (h.0, shapes_spell P ts h.1)

joined_formed : (P : ProgramTree) (pl : Plan) (s : Span) (n : ℕ) (ts : List Typ) → length pl.lifetimes + (n + positions_of P ts) ≤ 2 ^ 64 → Every (TypeSpells P) ts
    → WrittenType (full_if_any P pl s n (joined_type ts))
joined_formed P pl s n [] b h = tt
joined_formed P pl s n (t ∷ []) b h = full_formed P s pl.lifetimes n t (omega arith) h.0
joined_formed P pl s n (t ∷ u ∷ ts) b h = let all = shapes_positions P (t ∷ u ∷ ts) in
    full_formed P s pl.lifetimes n (tuple_of (shapes_of (t ∷ u ∷ ts))) (omega (arith, all)) (shapes_spell P (t ∷ u ∷ ts) h)

pub result_formed : (P : ProgramTree) (pl : Plan) → FormedPlan P pl → (s : Span) → WrittenType (new_result P pl s (parameter_positions P pl))
result_formed P pl F s = by (has_enum pl.exits) F.fresh_lifetimes
  where
    by : (b : Bool) → length pl.lifetimes + (parameter_positions P pl + (if b then enum_positions P pl else positions_of P (types_of (next_values pl)))) ≤ 2 ^ 64
        → WrittenType (if b then Some (enum_type P pl s (parameter_positions P pl)) else full_if_any P pl s (parameter_positions P pl) (joined_type (types_of (next_values pl))))
    by true few = (
      exit_is_identifier pl F.name,
      all_given (lifetimes_from s (fresh_lifetime pl.lifetimes) (parameter_positions P pl) (enum_positions P pl))
          (lasting_row s pl.lifetimes (parameter_positions P pl) (enum_positions P pl) few),
    )
    by false few = joined_formed P pl s (parameter_positions P pl) (types_of (next_values pl)) few (next_spell P pl F)

pub params_formed : (P : ProgramTree) (pl : Plan) → FormedPlan P pl → (s : Span) → Every FormedParameter (new_parameters P pl s 0 pl.params)
params_formed P pl F s = let few = F.fresh_lifetimes in parameters_formed P pl s 0 pl.params F.params (omega (arith, few))

-- ---- declared lifetimes

shorts_lasting : (s : Span) (bs : Bounds) (long : List ℕ) (ls : List Ident) → Every Lasting ls → Every Lasting (shorts_of s bs ls long)
shorts_lasting s bs long [] h = tt
shorts_lasting s bs long (l ∷ ls) h = by (is_bound long l.name bs) refl (shorts_lasting s bs long ls h.1)
  where
    by : (b : Bool) → is_bound long l.name bs ≡ b → Every Lasting (shorts_of s bs ls long) → Every Lasting (shorts_of s bs (l ∷ ls) long)
    by true e k = rw e (h.0, k)
    by false e k = rw e k

pub bounds_formed : (s : Span) (bs : Bounds) (ls : List Ident) → Every Lasting ls → Every FormedBound (with_bounds s bs ls)
bounds_formed s bs ls h = each ls h
  where
    each : (some : List Ident) → Every Lasting some → Every FormedBound (map (λ (l : Ident). record { name = l; bounds = shorts_of s bs ls l.name }) some)
    each [] k = tt
    each (l ∷ some) k = ((k.0, shorts_lasting s bs l.name ls h), each some k.1)

pub fresh_lasting : (P : ProgramTree) (pl : Plan) → FormedPlan P pl → (s : Span) → Every Lasting (lifetimes_from s (fresh_lifetime pl.lifetimes) 0 (signature_positions P pl))
fresh_lasting P pl F s = let few = F.fresh_lifetimes in lasting_row s pl.lifetimes 0 (signature_positions P pl) (omega (arith, few))
