-- A function with lifetimes written otherwise resolves with the same variables and the same tree with numbers.
use Rattle.std.proofs.Common.{◌≡◌, ℕ, List, [], ◌++◌, length, map, Ok, refl, sym, subst, append-nil}
use Rattle.rx_core.specs.declared.types.Span.{Span}
use Rattle.rx_tree.specs.declared.tree.Ident.{Ident}
use Rattle.rx_tree.specs.Plain as plain
use Rattle.rx_tree.specs.Plain.{Function, ProgramTree}
use Rattle.rx_resolve_names.specs.declared.resolved.ItemNames.{ItemNames}
use Rattle.rx_resolve_names.specs.Meant.{number, lifetimes_declared}
use Rattle.rx_resolve_names.specs.Steps.{and_then, child, numbered}
use Rattle.rx_resolve_names.specs.Scopes.{entered}
use Rattle.rx_resolve_names.specs.Names.{in_optional_type, in_block}
use Rattle.rx_resolve_names.specs.Items.{lifetimes_of, in_parameters, numbers_from, body_at, in_item}
use Rattle.rx_compact_lifetimes.specs.declared.rewriting.Rewriting.{Rewriting}
use Rattle.rx_compact_laws.specs.Beside.{InBoth, Beside, Nothing}
use Rattle.rx_compact_laws.specs.Alongside.{aside}
use Rattle.rx_compact_laws.specs.Resolved.{declared, inside, IsElsewhere, StaysNumbered}
use Rattle.rx_compact_laws.proofs.Resolving.{read_ok}
use Rattle.rx_compact_laws.proofs.ResolvingFunctions.{function}
use Rattle.rx_compact_laws.proofs.Functions.{named_same, spans_same, variables_same, lets_beside}

abbrev places : Span → Function → List Span
places s f = map (λ (l : Ident). l.span) (lifetimes_declared (plain.function_item s f))

abbrev empty : Span → Function → ItemNames
empty s f = record { vars = []; lifetimes = places s f; loops = []; names = [] }

pub stays : (rs bs : List Rewriting) (p q : ProgramTree) (n : ℕ) (s : Span) (f g : Function) → IsElsewhere rs bs p q n s f g → (a : ItemNames) → in_item p n (plain.function_item s f) ≡ Ok a → StaysNumbered bs p q n s f g a
stays rs bs p q n s f g w a e =
    let I = inside p n s f in
    let m = read_ok (lifetimes_of I [] 0 f.lifetimes) (λ ns. and_then (numbered I [] (ns ++ numbers_from 0 f.params) (empty s f)) (λ t. and_then (in_parameters I [] 0 f.params (record { bindings = []; tables = t })) (λ b.
    and_then (in_optional_type I (child [] (number (length f.params))) f.result b.tables) (in_block I (entered [] b.bindings) [] (child [] (body_at (number (length f.params)) f.result)) f.body)))) a e in
    let r = function p q (number n) (declared s f) (declared s g) (places s g) w.items rs bs w.in_signature w.in_body f g m.0 w.bounds w.rewritten m.1 w.meant w.entry [] [] [] Nothing (empty s f) a [] e in
    let K : InBoth = record { by = bs; old = I; new = inside q n s g } in
    let old : r.old ≡ a.names = sym r.names in
    let beside : Beside rs K f g a.names r.new = subst (λ ns. Beside rs K f g ns r.new) old
    (subst (λ ns. Beside rs K f g ns r.new) (append-nil r.old) (subst (λ ms. Beside rs K f g (r.old ++ []) ms) (append-nil r.new) (r.beside [] [] tt))) in
    record {
      tables = aside (places s g) a r.new;
      resolves = r.is;
      vars = refl;
      tree = named_same rs K n s f g a.names r.new w.rewritten beside;
      spans = spans_same rs K s f g a.names r.new w.rewritten beside;
      variables = variables_same rs K s f g a.names r.new w.rewritten beside;
      lets = lets_beside rs K s f g a.names r.new w.rewritten beside;
    }
