-- What was read is a front of what was left: the bytes of the turns before, and the piece of the last one.
use Rattle.std.proofs.Common.{◌≡◌, ◌+◌, ◌++◌, ◌∙◌, length, length-append, Err, arith, rules, refl, sym, ap}
use Rattle.std.proofs.lemmas.Grind.{common_steps}
use Rattle.rx_core.specs.declared.read.ReadFail.TheVariants as fail
use Rattle.rx_core.proofs.StreamsLemmas.{gone-more}
use Rattle.rx_core.proofs.read.read_all.Goals as goal

pub returns-in_err-read_piece-clause-gone : goal.returns-in_err-read_piece-clause-gone
returns-in_err-read_piece-clause-gone g c =
    let p = c.in_err-read_piece.ensures.lost in
    let old = c.loop-turn.bytes.items in
    let n : length (old ++ p.0) ≡ length old + length p.0 = length-append old p.0 in
    let b : c.from_residual.result ≡ Err c.in_err-read_piece.field-0.0 = first_of (search rules, grind (arith, common_steps)) in (
      old ++ p.0,
      omega (arith, p.1),
      (
        λ e. let z = sym b ∙ e in let q : c.in_err-read_piece.field-0.0 ≡ fail.TooLong = cc in let h = p.2.0 (ap Err q) in omega (arith, h),
        λ l. let z = p.2.1 (omega (arith, p.1)) in let q : c.in_err-read_piece.field-0.0 ≡ fail.TooLong = cc in b ∙ ap Err q,
      ),
      gone-more _ _ _ old p.0 (old ++ p.0) c.loop-turn.invariant.gone p.3 refl,
    )
