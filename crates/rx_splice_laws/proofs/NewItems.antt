-- The new function from its text: its header stands before its body, and both are derived.
use Rattle.std.proofs.Common.{◌≡◌, ℕ, ◌+◌, max, List, [], ◌∷◌, ◌++◌, map, codes, length, length-append, sym, ap, subst, ◌∙◌, arith, append_assoc}
use Rattle.std.specs.Prelude.{option_map}
use Rattle.rx_core.specs.declared.types.Span.{Span}
use Rattle.rx_tree.specs.Plain as plain
use Rattle.rx_tree.specs.Plain.{Body, OptionalExpression, Function, Statement}
use Rattle.rx_tree.specs.Erase.{nowhere, erase_ident, erase_lifetime, erase_parameter, erase_type, erase_body, erase_item}
use Rattle.rx_lex.specs.Tok.{Tok}
use Rattle.rx_lex.specs.Tokens.{Tokens}
use Rattle.rx_print_spelling.specs.Pieces.{Piece, mark, keyword, name, space, separated, flat}
use Rattle.rx_print_spelling.specs.Items.{in_angles, bound_pieces, parameter_pieces, result_pieces}
use Rattle.rx_print_spelling.specs.Levels.{deepest, parameter_levels, written_levels}
use Rattle.rx_print_spelling.proofs.Headers.{header_pieces}
use Rattle.rx_print_spelling.proofs.Pieces.{places, flat-append}
use Rattle.rx_print_spelling.proofs.ItemsRead.{headed_reads}
use Rattle.rx_print_spelling.proofs.ItemsStand.{header_stands}
use Rattle.rx_hoist_extraction.specs.Run.{Parts, block_of}
use Rattle.rx_hoist_extraction.specs.NewBody.{behind_locals}
use Rattle.rx_splice_laws.specs.Indent.{four}
use Rattle.rx_splice_laws.specs.SplicedText.{header, lines, tail_line}
use Rattle.rx_splice_laws.specs.RunRead.{ReadLines}
use Rattle.rx_splice_laws.specs.BodyRead.{body_text}
use Rattle.rx_splice_laws.specs.EndRead.{ReadWholeBody}
use Rattle.rx_splice_laws.specs.ItemRead.{item_text, FormedHeader, ReadNewItem}
use Rattle.rx_splice_laws.proofs.AsRead.{onto, onto_is, Reads, reads_tokens, stand_reads}

-- pieces in front of a text
in_front_read : (at : ℕ) (ps : List Piece) (t u : List ℕ) (us : List Tok) → ((r : List ℕ) → Reads ps r) → ReadLines (at + length (flat ps)) t us → flat ps ++ t ≡ u → ReadLines at u (places at ps ++ us)
in_front_read at ps t u us a d i = record {
  read = λ r more e q.
      let z : Tokens ((at + length (flat ps)) + length t) r more = subst (λ n. Tokens n r more) (omega (arith, ap length i, length-append (flat ps) t)) q in
      let y = d.read r more e z in
      let w = reads_tokens at ps (t ++ r) (us ++ more) (a (t ++ r)) y in
      subst (λ n. Tokens at n ((places at ps ++ us) ++ more)) (onto_is ps (t ++ r) ∙ sym (append_assoc (flat ps) t r) ∙ ap (λ n. n ++ r) i)
      (subst (Tokens at (onto ps (t ++ r))) (sym (append_assoc (places at ps) us more)) w);
}

module _ (f : Function) where
  header_is : header_pieces f ++ mark (codes "{") ∷ [] ≡ header f
  header_is =
      let b = mark (codes "{") in
      let ls = in_angles (map bound_pieces f.lifetimes) in
      let qs = separated (map parameter_pieces f.params) in
      let rs = result_pieces f.result in
      ap (λ (x : List Piece). keyword (codes "fn") ∷ space ∷ name f.name ∷ x)
      (append_assoc ls (mark (codes "(") ∷ (qs ++ (mark (codes ")") ∷ (rs ++ space ∷ [])))) (b ∷ [])
      ∙ ap (λ (x : List Piece). ls ++ (mark (codes "(") ∷ x)) (append_assoc qs (mark (codes ")") ∷ (rs ++ space ∷ [])) (b ∷ [])
      ∙ ap (λ (x : List Piece). qs ++ (mark (codes ")") ∷ x)) (append_assoc rs (space ∷ []) (b ∷ []))))

  text_is : (t : List ℕ) → flat (header_pieces f) ++ (codes "{" ++ t) ≡ flat (header f) ++ t
  text_is t =
      sym (append_assoc (flat (header_pieces f)) (codes "{") t) ∙ ap (λ x. x ++ t) (sym (flat-append (header_pieces f) (mark (codes "{") ∷ []))) ∙ ap (λ (ps : List Piece). flat ps ++ t) header_is

  same_body : (b c : Body) → erase_body b ≡ erase_body c → erase_item (plain.function_item nowhere (record f { body = b })) ≡ erase_item (plain.function_item nowhere (record f { body = c }))
  same_body b c e =
      ap (λ (x : Body). plain.function_item nowhere (record { name = erase_ident f.name; lifetimes = map erase_lifetime f.lifetimes; params = map erase_parameter f.params; result = option_map erase_type f.result; body = x })) e

  pub new_items : (locals : List Statement) (r : Span) (run : List ℕ) (o : OptionalExpression) (want : Parts) (h : ℕ) → FormedHeader f → f.body ≡ block_of r (behind_locals locals want)
      → ((k : ℕ) → ReadWholeBody r locals run o want h k) → (at : ℕ) → ReadNewItem f locals run o h at
  new_items locals r run o want h F e m at =
      let ps = header_pieces f in
      let b = m (at + length (flat ps)) in
      let i = headed_reads nowhere f F.lifetimes F.params F.result b.tokens b.tree b.levels b.derived at in
      record {
        tokens = places at ps ++ b.tokens;
        read = in_front_read at ps (body_text locals run o) (item_text f locals run o) b.tokens
            (λ n. let a = header_stands f F.name F.lifetimes F.params F.result n in stand_reads ps n a.stand) b.read
            (text_is (flat (lines locals) ++ (10 ∷ (four ++ (run ++ (flat (tail_line o) ++ (10 ∷ codes "}")))))));
        tree = i.tree;
        levels = max (deepest (map parameter_levels f.params)) (max (written_levels f.result) b.levels);
        derived = i.derived;
        same = i.same ∙ same_body b.tree (block_of r (behind_locals locals want)) b.same ∙ ap (λ (x : Body). erase_item (plain.function_item nowhere (record f { body = x }))) (sym e);
        low = let l = b.low in let p = F.params_low in let q = F.result_low in omega (arith, l, p, q);
      }
