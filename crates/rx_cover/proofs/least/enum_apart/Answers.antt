use Rattle.std.proofs.Common.{◌≡◌, ap, subst, true, false, map, length, slice_get, arith}
use Rattle.rx_typed.specs.Types.{parts_declared}
use Rattle.rx_typed.specs.PlainTypes.{plain-Ty, plain-VariantDecl, declarations}
use Rattle.rx_typed.specs.declared.declarations.VariantDecl.{VariantDecl}
use Rattle.rx_cover.specs.PlainCells.{plain-Head}
use Rattle.rx_cover.specs.Finding.{VariantFree}
use Rattle.rx_cover.proofs.LeastLemmas.{NoneBefore, one_none, variant_found, no_variant, variant_at, variant_length}
use Rattle.rx_cover.proofs.least.enum_apart.Goals as goal

pub returns-then-variant_free : goal.returns-then-variant_free
returns-then-variant_free c =
    let D = declarations c.args.decls.now.items in
    let vs = map plain-VariantDecl c.args.variants.now in
    let hs = map plain-Head c.args.heads.now.keys in
    let e : map plain-Ty c.as_slice.result.now ≡ parts_declared (slice_get vs c.loop-k.k) =
    (let v = variant_at c.args.variants.now c.loop-k.k c.index-variants-k.result c.loop-k-test.true c.index-variants-k.is in
    let i = ap (λ (v : VariantDecl). v.parts) c.index-variants-k.is in
    cc) in
    let n = variant_length c.args.variants.now in
    variant_found D c.args.item c.loop-k.k vs hs c.requires.here (omega (arith, n))
    (subst (λ l. VariantFree D c.args.item c.loop-k.k l hs true) e
    (subst (λ b. VariantFree D c.args.item c.loop-k.k (map plain-Ty c.as_slice.result.now) hs b) c.if-variant_free.true (c.variant_free.ensures D c.requires.inhabited)))

pub loop-k-preserved : goal.loop-k-preserved
loop-k-preserved c =
    let D = declarations c.args.decls.now.items in
    let vs = map plain-VariantDecl c.args.variants.now in
    let hs = map plain-Head c.args.heads.now.keys in
    let e : map plain-Ty c.as_slice.result.now ≡ parts_declared (slice_get vs c.loop-k.k) =
    (let v = variant_at c.args.variants.now c.loop-k.k c.index-variants-k.result c.loop-k-test.true c.index-variants-k.is in
    let i = ap (λ (v : VariantDecl). v.parts) c.index-variants-k.is in
    cc) in
    one_none D c.args.item vs hs c.loop-k.k c.loop-k.invariant
    (subst (λ l. VariantFree D c.args.item c.loop-k.k l hs false) e
    (subst (λ b. VariantFree D c.args.item c.loop-k.k (map plain-Ty c.as_slice.result.now) hs b) c.if-variant_free.false (c.variant_free.ensures D c.requires.inhabited)))

pub returns : goal.returns
returns c =
    no_variant (declarations c.args.decls.now.items) c.args.item (map plain-VariantDecl c.args.variants.now) (map plain-Head c.args.heads.now.keys) c.requires.here
    (subst (λ n. NoneBefore (declarations c.args.decls.now.items) c.args.item (map plain-VariantDecl c.args.variants.now) (map plain-Head c.args.heads.now.keys) n)
    (let e = variant_length c.args.variants.now in let q : c.loop-k.k ≡ length (map plain-VariantDecl c.args.variants.now) = omega (arith, e) in q) c.loop-k.invariant)
