-- Where a tree that was told of names declares variables, any numbering that makes it stands where the names do: its variables have the numbers that follow those in front.
use Rattle.std.proofs.Common.{◌≡◌, ◌<◌, ◌⊎◌, inl, inr, ℕ, List, ◌++◌, length, sym, ap, ◌∙◌, subst, arith}
use Rattle.std.proofs.lemmas.List.{append_assoc, append_cancel_left}
use Rattle.rx_tree.specs.Plain.{OptionalExpression, Statement}
use Rattle.rx_resolve_names.specs.Scopes.{Variables}
use Rattle.rx_resolve_names.specs.Meant.{Around}
use Rattle.rx_resolve_names.specs.Steps.{Inside}
use Rattle.rx_resolve_names.specs.declared.resolved.ItemNames.{ItemNames}
use Rattle.rx_resolve_names.specs.declared.resolved.NodeNames.{NodeNames}
use Rattle.rx_typed.specs.declared.nodes.Site.{Site}
use Rattle.rx_typed.specs.Named.{Else, Statements}
use Rattle.rx_typed.specs.Naming.{of_optional, of_statements, Cursor}
use Rattle.rx_hoist_extraction.specs.Run.{as_statements}
use Rattle.rx_engine_names.specs.Moves.{StandsAt}
use Rattle.rx_engine_names.specs.Replaced.{NumberedBehind, NumberedLast}
use Rattle.rx_engine_names.proofs.CopiedParts.{tail_alone, text_alone}
use Rattle.rx_engine_changed.specs.Deeds.{of_else}
use Rattle.rx_engine_changed.specs.Deeds as deeds
use Rattle.rx_engine_changed.proofs.Deeds.{does_on, from_same, optional_does, statements_does, AreFrom}

-- the same numbers, of which there is one at least
same_row : (xs ys : List ℕ) (a b e f lo hi : ℕ) → xs ≡ ys → AreFrom a xs b → AreFrom e ys f → e ≡ lo → f ≡ hi → a < b → (a ≡ lo) × (b ≡ hi)
same_row xs ys a b e f lo hi same h k p q l = by (from_same ys a b e f (subst (λ (zs : List ℕ). AreFrom a zs b) same h) k)
  where
    by : ((a ≡ e) × (b ≡ f)) ⊎ ((b ≡ a) × (f ≡ e)) → (a ≡ lo) × (b ≡ hi)
    by (inl y) = (y.0 ∙ p, y.1 ∙ q)
    by (inr y) = let i = y.0 in absurd (omega (arith, i, l))

ends_there : (I : Inside) (sc : Variables) (ls : List Around) (at : List ℕ) (front run : List Statement) (t : ItemNames) (x : Statements) (s : NumberedBehind I sc ls at front run t x) → StandsAt s.end.tables (of_statements (as_statements run) s.cursor).1
ends_there I sc ls at front run t x s =
    let A = text_alone I.program I.item I.lifetimes s.middle.scope ls at s.place (as_statements run) s.middle.tables s.end s.goes in
    let e : A.added ≡ s.added = append_cancel_left s.middle.tables.names A.added s.added (sym A.grown ∙ s.grown) in
    (A.numbers.holds s.cursor s.rest s.stands (subst (λ (l : List NodeNames). s.cursor.names ≡ l ++ s.rest) (sym e) s.names)).stands

pub statements_counted : (I : Inside) (sc : Variables) (ls : List Around) (at : List ℕ) (front run : List Statement) (t : ItemNames) (c : Cursor) (s : NumberedBehind I sc ls at front run t (of_statements (as_statements run) c).0) → c.declared < (of_statements (as_statements run) c).1.declared
    → (c.declared ≡ length s.middle.tables.vars) × ((of_statements (as_statements run) c).1.declared ≡ length s.end.tables.vars)
statements_counted I sc ls at front run t c s l =
    let x = of_statements (as_statements run) c in let z = of_statements (as_statements run) s.cursor in
    same_row (deeds.of_statements x.0).variables (deeds.of_statements z.0).variables c.declared x.1.declared s.cursor.declared z.1.declared (length s.middle.tables.vars) (length s.end.tables.vars)
    (ap (λ (p : Statements). (deeds.of_statements p).variables) s.is) (statements_does 0 (as_statements run) c).variables (statements_does 0 (as_statements run) s.cursor).variables s.stands.0 (ends_there I sc ls at front run t x.0 s).0 l

-- with a tail
ends_last : (I : Inside) (sc : Variables) (ls : List Around) (at : List ℕ) (front run : List Statement) (o : OptionalExpression) (t : ItemNames) (x : Statements) (z : Else) (s : NumberedLast I sc ls at front run o t x z)
    → StandsAt s.resolves.tables (of_optional s.site o (of_statements (as_statements run) s.cursor).1).1
ends_last I sc ls at front run o t x z s =
    let A = text_alone I.program I.item I.lifetimes s.middle.scope ls at s.place (as_statements run) s.middle.tables s.resolves.end s.resolves.goes in
    let B = tail_alone I.program I.item I.lifetimes s.resolves.end.scope ls s.way o s.resolves.end.tables s.resolves.tables s.resolves.ends in
    let e : A.added ++ B.added ≡ s.added = append_cancel_left s.middle.tables.names (A.added ++ B.added) s.added (sym (append_assoc s.middle.tables.names A.added B.added) ∙ sym (ap (λ (l : List NodeNames). l ++ B.added) A.grown) ∙ sym B.grown ∙ s.grown) in
    let names : s.cursor.names ≡ A.added ++ (B.added ++ s.rest) = s.names ∙ ap (λ (l : List NodeNames). l ++ s.rest) (sym e) ∙ append_assoc A.added B.added s.rest in
    let y = A.numbers.holds s.cursor (B.added ++ s.rest) s.stands names in ((B.numbers s.site).holds (of_statements (as_statements run) s.cursor).1 s.rest y.stands y.left).stands

pub end_counted : (I : Inside) (sc : Variables) (ls : List Around) (at : List ℕ) (front run : List Statement) (o : OptionalExpression) (k : Site) (t : ItemNames) (c : Cursor)
    (s : NumberedLast I sc ls at front run o t (of_statements (as_statements run) c).0 (of_optional k o (of_statements (as_statements run) c).1).0) → c.declared < (of_optional k o (of_statements (as_statements run) c).1).1.declared
    → (c.declared ≡ length s.middle.tables.vars) × ((of_optional k o (of_statements (as_statements run) c).1).1.declared ≡ length s.resolves.tables.vars)
end_counted I sc ls at front run o k t c s l =
    let x = of_statements (as_statements run) c in let y = of_optional k o x.1 in let z = of_statements (as_statements run) s.cursor in let w = of_optional s.site o z.1 in
    same_row ((deeds.of_statements x.0).variables ++ (of_else y.0).variables) ((deeds.of_statements z.0).variables ++ (of_else w.0).variables) c.declared y.1.declared s.cursor.declared w.1.declared (length s.middle.tables.vars) (length s.resolves.tables.vars)
    (ap (λ (p : Statements). (deeds.of_statements p).variables ++ (of_else y.0).variables) s.is ∙ ap (λ (p : Else). (deeds.of_statements z.0).variables ++ (of_else p).variables) s.is_last)
    (does_on 0 (statements_does 0 (as_statements run) c) (optional_does 0 o k x.1)).variables (does_on 0 (statements_does 0 (as_statements run) s.cursor) (optional_does 0 o s.site z.1)).variables s.stands.0
    (ends_last I sc ls at front run o t x.0 y.0 s).0 l
