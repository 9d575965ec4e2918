use Rattle.std.proofs.Common.{◌∙◌, sym, ap, subst, IfOk, [], map, length, Some, None, arith}
use Rattle.std.proofs.lemmas.List.{length-map}
use Rattle.rx_typed.specs.PlainTypes.{plain-Ty, declarations}
use Rattle.rx_cover.specs.PlainCells.{plain-Head, plain-Row, plain-Cells, plain-Column}
use Rattle.rx_cover.specs.Matrices.{rows_weight, AreHeads, Distinct}
use Rattle.rx_cover.specs.Finding.{Settles, SettlesHeads, SettlesRange, AllHeads, HeadsOf}
use Rattle.rx_cover.proofs.MissingLemmas as lemma
use Rattle.rx_cover.proofs.MatrixLemmas.{covered_by_open}
use Rattle.rx_cover.proofs.WeightLemmas.{beside_less}
use Rattle.rx_cover.proofs.RangeLemmas.{within_weight}
use Rattle.rx_cover.proofs.missing.+missing.Goals as goal

pub at_head-kept_columns-requires : goal.at_head-kept_columns-requires
at_head-kept_columns-requires t c = record {
  long =
      ap length (c.as_slice-marks.ensures ∙ c.in_ok-mask.ensures)
      ∙ lemma.marks_length (plain-Head c.args.head) c.len.result (map plain-Cells c.args.rows.now)
      ∙ c.len.ensures ∙ ap length (sym c.as_slice-types.ensures);
}

pub at_head-missing-requires : goal.at_head-missing-requires
at_head-missing-requires t c =
    let h = plain-Head c.args.head in
    let rows = map plain-Cells c.args.rows.now in
    let ts = map plain-Column c.args.rest.now in
    let less = lemma.less_at h c.len.result c.as_slice-marks.result.now (map plain-Column c.as_slice-types.result.now) ts (map plain-Column c.in_ok-kept.kept) rows (map plain-Row c.in_ok-under.under)
    (c.as_slice-marks.ensures ∙ c.in_ok-mask.ensures) c.in_ok-kept.ensures c.in_ok-under.ensures in
    let a = ap length c.as_slice.ensures in
    let b = ap (λ l. rows_weight (map plain-Row l)) c.as_slice-2.ensures in
    let d = length-map c.in_ok-kept.kept plain-Column in
    let e = length-map c.args.rest.now plain-Column in
    (omega (arith, less, a, b, d, e), (c.requires.finite, (c.requires.numbered, c.requires.inhabited)))

pub at_head-rebuilt-requires-clause-long : goal.at_head-rebuilt-requires-clause-long
at_head-rebuilt-requires-clause-long t c =
    ap length (c.as_slice-marks.ensures ∙ c.in_ok-mask.ensures)
    ∙ lemma.marks_length (plain-Head c.args.head) c.len.result (map plain-Cells c.args.rows.now)
    ∙ c.len.ensures ∙ ap length (sym c.as_slice-types.ensures)

pub at_head-rebuilt-requires-clause-near : goal.at_head-rebuilt-requires-clause-near
at_head-rebuilt-requires-clause-near t c = lemma.head_near (declarations c.args.decls.now.items) (plain-Ty c.args.ty.now) (plain-Head c.args.head) c.requires.fits

pub at_head-returns-in-Some : goal.at_head-returns-in-Some
at_head-returns-in-Some t c =
    let D = declarations c.args.decls.now.items in
    lemma.head_some_if D (plain-Ty c.args.ty.now) (map plain-Column c.args.rest.now) (plain-Head c.args.head) (map plain-Cells c.args.rows.now) c.len.result
    (map plain-Column c.as_slice-types.result.now) c.as_slice-marks.result.now (map plain-Column c.as_slice.result.now) (map plain-Row c.as_slice-2.result.now) c.in-Some.stack c.rebuilt.result
    c.requires.fits (ap (map plain-Column) c.as_slice-types.ensures ∙ c.in_ok-columns.ensures)
    (c.len.ensures ∙ ap length (sym c.as_slice-types.ensures) ∙ sym (length-map c.as_slice-types.result.now plain-Column))
    (c.as_slice-marks.ensures ∙ c.in_ok-mask.ensures) (ap (map plain-Column) c.as_slice.ensures ∙ c.in_ok-kept.ensures) (ap (map plain-Row) c.as_slice-2.ensures ∙ c.in_ok-under.ensures)
    (subst (λ o. Settles D (map plain-Column c.as_slice.result.now) (map plain-Row c.as_slice-2.result.now) o) c.in-Some.is c.in_ok-stack.ensures) c.rebuilt.ensures

pub at_head-returns : goal.at_head-returns
at_head-returns t c =
    let D = declarations c.args.decls.now.items in
    lemma.head_none_from D (plain-Ty c.args.ty.now) (map plain-Column c.args.rest.now) (plain-Head c.args.head) (map plain-Cells c.args.rows.now) c.len.result
    (map plain-Column c.as_slice-types.result.now) c.as_slice-marks.result.now (map plain-Column c.as_slice.result.now) (map plain-Row c.as_slice-2.result.now)
    (ap (map plain-Column) c.as_slice-types.ensures ∙ c.in_ok-columns.ensures)
    (c.len.ensures ∙ ap length (sym c.as_slice-types.ensures) ∙ sym (length-map c.as_slice-types.result.now plain-Column))
    (c.as_slice-marks.ensures ∙ c.in_ok-mask.ensures) (ap (map plain-Column) c.as_slice.ensures ∙ c.in_ok-kept.ensures) (ap (map plain-Row) c.as_slice-2.ensures ∙ c.in_ok-under.ensures)
    (subst (λ o. Settles D (map plain-Column c.as_slice.result.now) (map plain-Row c.as_slice-2.result.now) o) c.in-None.is c.in_ok-stack.ensures)

pub by_others-missing-requires : goal.by_others-missing-requires
by_others-missing-requires t c =
    let e = ap (λ l. rows_weight (map plain-Row l)) c.as_slice.ensures in
    let f = ap rows_weight c.in_ok-others.ensures in
    let g = beside_less (map plain-Column c.args.rest.now) (map plain-Row c.args.rows.now) in
    let n = length-map c.args.rest.now plain-Column in
    (omega (arith, e, f, g, n), (c.requires.finite, (c.requires.numbered, c.requires.inhabited)))

pub by_others-returns-in-Some : goal.by_others-returns-in-Some
by_others-returns-in-Some t c =
    let D = declarations c.args.decls.now.items in
    let ts = map plain-Column c.args.rest.now in
    let rows = map plain-Row c.args.rows.now in
    lemma.others_some_if D (plain-Ty c.args.ty.now) ts (map plain-Head c.args.heads.now.keys) rows c.in-Some.stack c.beside.result c.requires.all c.requires.covered
    (subst (λ l. Settles D ts l (Some c.in-Some.stack)) (ap (map plain-Row) c.as_slice.ensures ∙ c.in_ok-others.ensures)
    (subst (λ o. Settles D ts (map plain-Row c.as_slice.result.now) o) c.in-Some.is c.in_ok-stack.ensures)) c.beside.ensures

pub by_others-returns : goal.by_others-returns
by_others-returns t c =
    let D = declarations c.args.decls.now.items in
    let ts = map plain-Column c.args.rest.now in
    let rows = map plain-Row c.args.rows.now in
    lemma.others_none D (plain-Ty c.args.ty.now) ts (map plain-Head c.args.heads.now.keys) rows c.requires.covered
    (subst (λ l. Settles D ts l None) (ap (map plain-Row) c.as_slice.ensures ∙ c.in_ok-others.ensures)
    (subst (λ o. Settles D ts (map plain-Row c.as_slice.result.now) o) c.in-None.is c.in_ok-stack.ensures))

pub missing-returns-then-some_open : goal.missing-returns-then-some_open
missing-returns-then-some_open t c = covered_by_open (declarations c.args.decls.now.items) (map plain-Column c.args.columns.now) (map plain-Row c.args.rows.now) (sym c.some_open.ensures ∙ c.if-some_open.true)

pub missing-returns-in-None : goal.missing-returns-in-None
missing-returns-in-None t c =
    let h = c.in-None.ensures.lookup in
    let D = declarations c.args.decls.now.items in
    lemma.no_columns D c.args.columns.now (map plain-Row c.args.rows.now) c.at_end.result h.3 (c.at_end.ensures D)

pub by_heads-returns : goal.by_heads-returns
by_heads-returns t c =
    let hs = map plain-Head c.args.heads.now.keys in
    lemma.heads_if (declarations c.args.decls.now.items) (plain-Ty c.args.ty.now) (map plain-Column c.args.rest.now) hs c.len.result (map plain-Cells c.as_slice.result.now) (map plain-Row c.args.rows.now) c.in_range.result
    (c.len.ensures.len ∙ sym (length-map c.args.heads.now.keys plain-Head)) (ap (map plain-Cells) c.as_slice.ensures ∙ c.in_ok-all.ensures) c.in_range.ensures

pub in_range-by_range-requires : goal.in_range-by_range-requires
in_range-by_range-requires t c =
    let a = ap (λ l. rows_weight (map plain-Cells l)) c.as_slice.ensures in
    let b = ap rows_weight c.in_ok-within.ensures in
    let w = within_weight (map plain-Head c.args.heads.now.keys) c.args.low c.args.high (map plain-Cells c.args.rows.now) in
    (omega (arith, a, b, w), (c.requires.finite, (c.requires.numbered, (c.requires.inhabited, (c.requires.fit, c.requires.ends)))))

pub in_range-returns : goal.in_range-returns
in_range-returns t c =
    lemma.within_if (declarations c.args.decls.now.items) (plain-Ty c.args.ty.now) (map plain-Column c.args.rest.now) (map plain-Head c.args.heads.now.keys) c.args.low c.args.high
    (map plain-Cells c.as_slice.result.now) (map plain-Cells c.args.rows.now) c.by_range.result (ap (map plain-Cells) c.as_slice.ensures ∙ c.in_ok-within.ensures) c.by_range.ensures

pub by_range-at_head-requires : goal.by_range-at_head-requires
by_range-at_head-requires t c =
    let D = declarations c.args.decls.now.items in
    let T = plain-Ty c.args.ty.now in
    let e = ap length c.as_slice.ensures.keys in
    let ends = c.requires.ends in
    let f = c.if-high-low.false in (
      omega (arith, f),
      (
        c.requires.finite,
        (
          c.requires.numbered,
          (
            c.requires.inhabited,
            lemma.head_at D T c.as_slice.result.now c.args.low _ (omega (arith, e, ends, f)) (subst (λ ks. AllHeads D T (map plain-Head ks)) (sym c.as_slice.ensures.keys) c.requires.fit.fit),
          ),
        ),
      ),
    )

pub by_range-returns-then-high-low-eq1 : goal.by_range-returns-then-high-low-eq1
by_range-returns-then-high-low-eq1 t c =
    let D = declarations c.args.decls.now.items in
    let T = plain-Ty c.args.ty.now in
    let ts = map plain-Column c.args.rest.now in
    let rows = map plain-Cells c.args.rows.now in
    let ks = c.as_slice.result.now in
    let e = ap length c.as_slice.ensures.keys in
    let ends = c.requires.ends in
    let f = c.if-high-low.false in
    let g = c.if-high-low-eq1.true in
    subst (λ l. IfOk c.at_head.result (λ o. SettlesRange D T ts (map plain-Head l) c.args.low c.args.high rows o)) c.as_slice.ensures.keys
    (lemma.one_if D T ts ks c.args.low c.args.high _ rows c.at_head.result (omega (arith, f, g)) (omega (arith, e, ends, f))
    (subst (λ l. Distinct (map plain-Head l)) (sym c.as_slice.ensures.keys) c.requires.fit.distinct) c.at_head.ensures)

pub split-by_heads-requires : goal.split-by_heads-requires
split-by_heads-requires t c =
    let D = declarations c.args.decls.now.items in
    let T = plain-Ty c.args.ty.now in
    (omega arith, (c.requires.finite, (c.requires.numbered, (c.requires.inhabited, subst (λ l. HeadsOf D T l) (sym c.in_ok-heads.ensures) (lemma.all_gathered D T [] (map plain-Row c.args.rows.now) (record { fit = tt; distinct = tt }))))))

pub split-by_others-requires : goal.split-by_others-requires
split-by_others-requires t c =
    let D = declarations c.args.decls.now.items in
    let T = plain-Ty c.args.ty.now in
    let rows = map plain-Row c.args.rows.now in
    let ts = map plain-Column c.args.rest.now in (
      omega arith,
      (
        c.requires.finite,
        (
          c.requires.numbered,
          (
            c.requires.inhabited,
            (
              subst (λ l. AreHeads D T rows l) (sym c.in_ok-heads.ensures) (lemma.are_gathered D T rows),
              subst (λ o. SettlesHeads D T ts (map plain-Head c.in_ok-heads.heads.keys) rows o) c.in-None.is c.in_ok-stack.ensures,
            ),
          ),
        ),
      ),
    )
