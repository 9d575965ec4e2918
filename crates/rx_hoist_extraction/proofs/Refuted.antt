-- Programs that are no extraction, though they look like one: each has a text that differs from the extraction's, and programs
-- that are equal apart from spans have one text.
use Rattle.std.proofs.Common.{◌≡◌, ℕ, false, List, [], ◌∷◌, codes, refl, sym, ◌∙◌}
use Rattle.std.proofs.lemmas.Bool.Decides.{not_from_Decides}
use Rattle.std.specs.Fmt.{digits}
use Rattle.std.specs.Str.{bytes_eq}
use Rattle.std.proofs.lemmas.Slice.Eq.{bytes_eq-Decides}
use Rattle.rx_tree.specs.Plain.{ProgramTree}
use Rattle.rx_print_spelling.specs.Items.{print_program}
use Rattle.rx_print_spelling.proofs.SameText.{print_same}
use Rattle.rx_hoist_extraction.specs.Run.{Run}
use Rattle.rx_hoist_extraction.specs.Plan.{Bounds, Plan}
use Rattle.rx_hoist_extraction.specs.Extraction.{extraction, Extracted}
use Rattle.rx_hoist_extraction.proofs.Trees.{lines}
use Rattle.rx_hoist_extraction.proofs.CallShapes.{gather, gather_run, gather_plan}
use Rattle.rx_hoist_extraction.proofs.ExitShapes.{gate, gate_run, gate_plan}
use Rattle.rx_hoist_extraction.proofs.Lifetimes.{best, best_run, best_plan}
use Rattle.rx_hoist_extraction.proofs.Pins.{show, show_run, show_plan}

-- no program with this text is the extraction
abbrev IsNone : List ℕ → ProgramTree → Run → Plan → Bounds → Type 0
IsNone text P r pl bs = (q : ProgramTree) → print_program q ≡ text → Extracted P r pl bs q → ⊥

refused : (text : List ℕ) (P : ProgramTree) (r : Run) (pl : Plan) (bs : Bounds)
    → bytes_eq text (print_program (extraction P r pl bs)) ≡ false → IsNone text P r pl bs
refused text P r pl bs n q e x = let answer = print_program (extraction P r pl bs) in
    not_from_Decides (bytes_eq text answer) (bytes_eq-Decides text answer) n (sym e ∙ print_same q (extraction P r pl bs) x)

-- one lifetime for all references
pub one_lifetime : IsNone (lines (
    codes "fn main() {" ∷
    codes "    let a = 3i64;" ∷
    codes "    let b = 9i64;" ∷
    codes "    let p = &a;" ∷
    codes "    let q = &b;" ∷
    codes "    let mut best = p;" ∷
    codes "    pick(q, &mut best);" ∷
    codes "    println!(\"{}\", *best);" ∷
    codes "}" ∷
    codes "" ∷
    codes "fn pick<'r0>(q: &'r0 i64, best: &'r0 mut &'r0 i64) {" ∷
    codes "    if *q > **best {" ∷
    codes "        *best = q;" ∷
    codes "    }" ∷
    codes "}" ∷
    [])) best best_run best_plan ((codes "'r0", codes "'r2") ∷ [])
unfolding digits
one_lifetime = refused _ best best_run best_plan ((codes "'r0", codes "'r2") ∷ []) refl

-- `continue` as Next
pub continue_as_next : IsNone (lines (
    codes "mod rt;" ∷
    codes "" ∷
    codes "fn main() {" ∷
    codes "    let mut sum = 0i64;" ∷
    codes "    loop {" ∷
    codes "        let n = rt::next();" ∷
    codes "        match gate(n) {" ∷
    codes "            Exit_gate::Next => {}" ∷
    codes "            Exit_gate::Break_0 => break," ∷
    codes "            Exit_gate::Continue_0 => continue," ∷
    codes "        };" ∷
    codes "        sum = sum + n;" ∷
    codes "    }" ∷
    codes "    println!(\"{}\", sum);" ∷
    codes "}" ∷
    codes "" ∷
    codes "enum Exit_gate {" ∷
    codes "    Next," ∷
    codes "    Break_0," ∷
    codes "    Continue_0," ∷
    codes "}" ∷
    codes "" ∷
    codes "fn gate(n: i64) -> Exit_gate {" ∷
    codes "    if n == 0 {" ∷
    codes "        return Exit_gate::Break_0;" ∷
    codes "    }" ∷
    codes "    if n < 0 {" ∷
    codes "        return Exit_gate::Next;" ∷
    codes "    }" ∷
    codes "    Exit_gate::Next" ∷
    codes "}" ∷
    [])) gate gate_run gate_plan []
unfolding digits
continue_as_next = refused _ gate gate_run gate_plan [] refl

-- a param behind a reference without its `*`
pub lost_star : IsNone (lines (
    codes "mod rt;" ∷
    codes "" ∷
    codes "fn main() {" ∷
    codes "    let mut sum = 0i64;" ∷
    codes "    let mut n = rt::next();" ∷
    codes "    while n != 0 {" ∷
    codes "        gather(&mut sum, n);" ∷
    codes "        n = rt::next();" ∷
    codes "    }" ∷
    codes "    println!(\"{}\", sum);" ∷
    codes "}" ∷
    codes "" ∷
    codes "fn gather<'r0>(sum: &'r0 mut i64, n: i64) {" ∷
    codes "    *sum = sum + n * n;" ∷
    codes "}" ∷
    [])) gather gather_run gather_plan []
unfolding digits
lost_star = refused _ gather gather_run gather_plan [] refl

-- a type that is written outside the run alone
pub pinned_outside : IsNone (lines (
    codes "fn main() {" ∷
    codes "    let a = 1i64;" ∷
    codes "    show(a);" ∷
    codes "    let t: i64;" ∷
    codes "    t = a + 1i64;" ∷
    codes "    println!(\"{}\", t);" ∷
    codes "}" ∷
    codes "" ∷
    codes "fn show(a: i64) {" ∷
    codes "    println!(\"{}\", a);" ∷
    codes "    let t;" ∷
    codes "}" ∷
    [])) show show_run show_plan []
unfolding digits
pinned_outside = refused _ show show_run show_plan [] refl
