use Rattle.std.proofs.Common.{◌≡◌, ◌++◌, List, Option, map, ap, codes, ◌∙◌}
use Rattle.std.specs.Prelude.{option_map}
use Rattle.rx_tree.specs.declared.tree.BoundLifetime.{BoundLifetime}
use Rattle.rx_tree.specs.declared.tree.Ident.{Ident}
use Rattle.rx_tree.specs.declared.tree.Param.{Param}
use Rattle.rx_tree.specs.declared.tree.TypeText.{TypeText}
use Rattle.rx_tree.specs.PlainOf.{plain-Param, plain-Program, plain-TypeText}
use Rattle.rx_hoist_plan.specs.PlainPlan.{plain-Plan}
use Rattle.rx_hoist_extraction.specs.Names.{Names}
use Rattle.rx_hoist_extraction.specs.Made.{ident}
use Rattle.rx_hoist_made.specs.Rows.{fresh_row}
use Rattle.rx_hoist_made.proofs.Dropped.{held_ok}
use Rattle.rx_hoist_items.specs.Signatures.{signature, unbound}
use Rattle.rx_hoist_items.proofs.SignatureLemmas.{first_is, function_is, second_is}
use Rattle.rx_hoist_items.proofs.function.new_function.Goals as goal

pub returns : goal.returns
returns c =
    let P = plain-Program c.args.program.now in
    let pl = plain-Plan c.args.plan.now in
    let s = c.args.span in
    let many = c.args.positions in
    let names = c.in_ok-names.names in
    let fresh : names ≡ fresh_row (codes "'r") pl.lifetimes 0 many =
    held_ok (λ (it : Names). it ≡ fresh_row (codes "'r") c.as_slice.result.now 0 many) c.fresh_names-names.result names
    c.fresh_names-names.ensures c.in_ok-names.ensures.0 ∙ ap (λ (taken : Names). fresh_row (codes "'r") taken 0 many) c.as_slice.ensures in
    let bound : c.in_ok-lifetimes.lifetimes ≡ map unbound (c.args.copied.now ++ map (ident s) names) =
    held_ok (λ (it : List BoundLifetime). it ≡ map unbound (c.args.copied.now ++ map (ident s) c.as_slice-2.result.now)) c.lifetimes-lifetimes.result
    c.in_ok-lifetimes.lifetimes c.lifetimes-lifetimes.ensures c.in_ok-lifetimes.ensures.0
    ∙ ap (λ (l : Names). map unbound (c.args.copied.now ++ map (ident s) l)) c.as_slice-2.ensures in
    let again : c.in_ok-lifetimes.held.0 ≡ names = first_is c.in_ok-lifetimes.held names c.in_ok-names.body c.in_ok-lifetimes.ensures.1 in
    let body : c.in_ok-lifetimes.held.1 ≡ c.args.body = second_is c.in_ok-lifetimes.held names c.in_ok-names.body c.in_ok-lifetimes.ensures.1 ∙ c.in_ok-names.ensures.1 in
    let signed : (map plain-Param c.in_ok-signature.signature.0, option_map plain-TypeText c.in_ok-signature.signature.1) ≡ signature P pl s names =
    held_ok (λ (it : List Param × Option TypeText). (map plain-Param it.0, option_map plain-TypeText it.1) ≡ signature P pl s c.as_slice-3.result.now)
    c.signature-signature.result c.in_ok-signature.signature c.signature-signature.ensures c.in_ok-signature.ensures.0
    ∙ ap (signature P pl s) (c.as_slice-3.ensures ∙ again) in
    let rest : c.in_ok-signature.held.1 ≡ (c.in_ok-lifetimes.lifetimes, c.in_ok-lifetimes.held.1) =
    second_is c.in_ok-signature.held c.in_ok-lifetimes.held.0 (c.in_ok-lifetimes.lifetimes, c.in_ok-lifetimes.held.1) c.in_ok-signature.ensures.1 in
    let made : c.in_ok-name.held.0 ≡ c.in_ok-signature.signature =
    first_is c.in_ok-name.held c.in_ok-signature.signature c.in_ok-signature.held.1 c.in_ok-name.ensures.1 in
    let last : c.in_ok-name.held.1 ≡ (c.in_ok-lifetimes.lifetimes, c.in_ok-lifetimes.held.1) =
    second_is c.in_ok-name.held c.in_ok-signature.signature c.in_ok-signature.held.1 c.in_ok-name.ensures.1 ∙ rest in
    let name : c.in_ok-name.name ≡ ident s pl.name =
    held_ok (λ (it : Ident). it ≡ ident s pl.name) c.written.result c.in_ok-name.name c.written.ensures c.in_ok-name.ensures.0 in
    function_is P pl s many names c.args.copied.now c.args.body
    (record { name = c.in_ok-name.name; lifetimes = c.in_ok-name.held.1.0; params = c.in_ok-name.held.0.0; result = c.in_ok-name.held.0.1; body = c.in_ok-name.held.1.1 })
    c.requires.counted fresh name
    (first_is c.in_ok-name.held.1 c.in_ok-lifetimes.lifetimes c.in_ok-lifetimes.held.1 last ∙ bound)
    (ap (λ (x : List Param × Option TypeText). (map plain-Param x.0, option_map plain-TypeText x.1)) made ∙ signed)
    (second_is c.in_ok-name.held.1 c.in_ok-lifetimes.lifetimes c.in_ok-lifetimes.held.1 last ∙ body)
