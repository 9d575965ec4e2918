use Rattle.std.proofs.Common.{◌≡◌, ◌<◌, ◌∙◌, ℕ, ap, sym, subst, length}
use Rattle.std.proofs.lemmas.List.{length-map}
use Rattle.rx_typed.specs.PlainTypes.{plain-Decl}
use Rattle.rx_typed_declarations.proofs.Polarities.{same_declared}
use Rattle.rx_check.proofs.passes.covers.Goals as goal

pub inhabited-requires-clause-numbered : goal.inhabited-requires-clause-numbered
inhabited-requires-clause-numbered c =
    let items = c.args.typed.now.decls.items in
    let typed = c.requires.3 in
    subst (λ (n : ℕ). n < 4294967296) (ap length (sym (same_declared items typed.declared typed.same)) ∙ length-map items plain-Decl) typed.declares.fits.numbered
