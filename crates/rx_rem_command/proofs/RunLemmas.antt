-- What is found where a text is run is defined, and two defined answers of a run agree.
use Rattle.std.proofs.Common.{ℕ, ℤ, ◌≡◌, List, [], Option, Some, inl, inr, refl, sym, ap, ◌∙◌, subst}
use Rattle.rx_tree.specs.Plain.{ProgramTree}
use Rattle.rx_lex.specs.declared.lexer.LexFault.TheVariants as lex
use Rattle.rx_parse_grammar.specs.grammar.Items.{Parses}
use Rattle.rx_parse_grammar.proofs.Whole.{one_text}
use Rattle.rx_parse.specs.declared.fault.SyntaxFault.{SyntaxFault}
use Rattle.rx_parse.specs.declared.fault.SyntaxFault.TheVariants as syntax
use Rattle.rx_parse.specs.Answer.{IsCause}
use Rattle.rx_meaning.specs.declared.outcome.Outcome.{Outcome}
use Rattle.rx_meaning.specs.Programs.{run}
use Rattle.rx_machine.specs.Functions.{program_of}
use Rattle.rx_check.specs.declared.fault.CheckFault.{CheckFault}
use Rattle.rx_check.specs.declared.fault.CheckFault.TheVariants as check
use Rattle.rx_check.specs.Passes.{Accepted}
use Rattle.rx_check.specs.Front.{IsCheckedOf}
use Rattle.rx_check.specs.Front as front
use Rattle.rx_rem_command.specs.declared.status.Status.{Status}
use Rattle.rx_rem_command.specs.declared.status.Status.TheVariants.{Done, NotAccepted}
use Rattle.rx_rem_command.specs.Forms.{Command, checks, runs, command_of}
use Rattle.rx_rem_command.specs.Lines.{syntax_status, syntax_line}
use Rattle.rx_rem_command.specs.CheckLines.{line_of_check, status_of_check}
use Rattle.rx_rem_command.specs.RunLines.{end_status, end_line}
use Rattle.rx_engine.specs.Runs.{Does}
use Rattle.rx_rem_command.specs.Defined.{Choices, Defined, AnswersTo, Judged, passed, faulty, Checked, no_program, program, Ran, refused, ran}
use Rattle.rx_rem_command.specs.Alike.{AreCheckLines}
use Rattle.rx_rem_command.specs.Replies.{Stream, Ending, whole, out_cut, both_cut, err_cut, Found, defined, no_room}
use Rattle.rx_rem_command.specs.RunReplies.{FoundRun, did, not_passed, no_memory_left, Tells}
use Rattle.rx_rem_command.proofs.CheckLemmas.{found_unread, found_faulty, found_program}

-- ---- what a program does

-- the outcome of what is checked is that of its program
pub does : (p : ProgramTree) (x : front.Judged) (turns : ℕ) (input : List ℤ) (o : Outcome) → IsCheckedOf p x → o ≡ run (program_of x.front.typed x.front.main) input turns → Does p turns input o
does p x turns input o h e = let a = h.front.accepted in
    record { names = a.names; meant = a.meant; types = x.front.typed; typed = a.typed; outcome = e ∙ ap (λ m. run (program_of x.front.typed m) input turns) h.front.main }

-- ---- what is found

-- a check that doesn't pass is a run's refusal
of_judged : (text : List ℕ) (turns : ℕ) (input : List ℤ) (p : ProgramTree) → Parses text p → (s : Status) (out err : List ℕ) → (s ≡ Done → ⊥)
    → Judged p s out err → Ran text turns input s out err
of_judged text turns input p x _ _ _ n (passed h) = absurd (n refl)
of_judged text turns input p x _ _ _ n (faulty f told c) = refused (program p x (faulty f told c))

of_check : (text : List ℕ) (turns : ℕ) (input : List ℤ) (s : Status) (out err : List ℕ) → (s ≡ Done → ⊥) → Checked text s out err
    → Ran text turns input s out err
of_check text turns input _ _ _ n (no_program f c) = refused (no_program f c)
of_check text turns input s out err n (program p x j) = of_judged text turns input p x s out err n j

found_of_check : (text : List ℕ) (turns : ℕ) (input : List ℤ) (s : Status) (out err : List ℕ) → (s ≡ Done → ⊥) → Found (Checked text) s out err
    → Found (Ran text turns input) s out err
found_of_check text turns input s out err n (defined d) = defined (of_check text turns input s out err n d)
found_of_check text turns input _ _ _ n no_room = no_room

pub not_passed_not_done : (f : CheckFault) → status_of_check f ≡ Done → ⊥
not_passed_not_done check.OutOfMemory e = cc
not_passed_not_done _ e = cc

pub unread_not_done : (f : SyntaxFault) → syntax_status f ≡ Done → ⊥
unread_not_done (syntax.Lex (lex.NotText at)) e = cc
unread_not_done (syntax.Lex (lex.BadToken at)) e = cc
unread_not_done (syntax.Lex lex.OutOfMemory) e = cc
unread_not_done (syntax.Syntax at) e = cc
unread_not_done (syntax.TooDeep at) e = cc
unread_not_done syntax.OutOfMemory e = cc

pub found_run_unread : (text : List ℕ) (turns : ℕ) (input : List ℤ) (f : SyntaxFault) → IsCause f text
    → Found (Ran text turns input) (syntax_status f) [] (syntax_line f)
found_run_unread text turns input f c =
    found_of_check text turns input (syntax_status f) [] (syntax_line f) (unread_not_done f) (found_unread text f c)

pub found_run : (text : List ℕ) (p : ProgramTree) (turns : ℕ) (input : List ℤ) (s : Status) (out err : List ℕ) → Parses text p
    → FoundRun p turns input s out err → Found (Ran text turns input) s out err
found_run text p turns input _ _ _ x (did o h d) = defined (ran p x h o d)
found_run text p turns input _ _ _ x (not_passed f c) =
    found_of_check text turns input (status_of_check f) [] (line_of_check p f) (not_passed_not_done f)
    (found_program text p (status_of_check f) [] (line_of_check p f) x (found_faulty p f c))
found_run text p turns input _ _ _ x no_memory_left = no_room

-- ---- how far it was written

pub told : (out out' err err' : Stream) (status result : Status) (outs errs : List ℕ) → Tells out out' err err' status outs errs result
    → Ending out out' err err' status outs errs result
told out out' err err' status result outs errs (inl (a, inl r)) =
    subst (λ (x : Status). Ending out out' err err' status outs errs x) (sym r.0) (whole a r.1)
told out out' err err' status result outs errs (inl (a, inr r)) =
    subst (λ (x : Status). Ending out out' err err' status outs errs x) (sym r.0) (err_cut a r.1)
told out out' err err' status result outs errs (inr (a, inl r)) =
    subst (λ (x : Status). Ending out out' err err' status outs errs x) (sym r.0) (out_cut a r.1)
told out out' err err' status result outs errs (inr (a, inr r)) =
    subst (λ (x : Status). Ending out out' err err' status outs errs x) (sym r.0) (both_cut a r.1)

-- ---- defined answers

abbrev Agree : List ℕ → Status → Status → List ℕ → List ℕ → List ℕ → List ℕ → Type 0
Agree text s t a b c d = (s ≡ t) × (a ≡ c) × AreCheckLines text b d

not_both : (NotAccepted ≡ Done) → ⊥
not_both e = cc

pub runs_agree : (text : List ℕ) (turns : ℕ) (input : List ℤ)
    → ((s t : Status) (a b c d : List ℕ) → Checked text s a b → Checked text t c d → Agree text s t a b c d)
    → ((p : ProgramTree) (o q : Outcome) → Does p turns input o → Does p turns input q → o ≡ q)
    → (s t : Status) (a b c d : List ℕ) → Ran text turns input s a b → Ran text turns input t c d → Agree text s t a b c d
runs_agree text turns input checked one _ _ a b c d (refused h) (refused k) = checked NotAccepted NotAccepted a b c d h k
runs_agree text turns input checked one _ _ a b _ _ (refused h) (ran q y k e f) =
    absurd (not_both (checked NotAccepted Done a b _ _ h (program q y (passed k))).0)
runs_agree text turns input checked one _ _ _ _ c d (ran p x h o f) (refused k) =
    absurd (not_both (checked NotAccepted Done c d _ _ k (program p x (passed h))).0)
runs_agree text turns input checked one _ _ _ _ _ _ (ran p x h o f) (ran q y k e g) =
    let same : o ≡ e = one p o e f (subst (λ r. Does r turns input e) (one_text text q p y x) g) in (
      ap (λ (w : Outcome). end_status w.end) same,
      ap (λ (w : Outcome). w.printed) same,
      inl (inl (ap (λ (w : Outcome). end_line w.end) same)),
    )

-- an accepted text has the defined answer of what its program does
pub run_defined : (C : Choices) (words : List (List ℕ)) (text : List ℕ) (turns : ℕ) (input : List ℤ) (p : ProgramTree) (o : Outcome)
    → command_of words ≡ Some (runs turns input) → Parses text p → Accepted p → Does p turns input o
    → Defined C words text (end_status o.end) o.printed (end_line o.end)
run_defined C words text turns input p o e x h d =
    subst (λ (c : Option Command). AnswersTo C c text (end_status o.end) o.printed (end_line o.end)) (sym e) (ran p x h o d)

-- another text has that of a check
pub refusal_defined : (C : Choices) (words other : List (List ℕ)) (text out err : List ℕ) (turns : ℕ) (input : List ℤ)
    → command_of words ≡ Some (runs turns input) → command_of other ≡ Some checks
    → Defined C other text NotAccepted out err → Defined C words text NotAccepted out err
refusal_defined C words other text out err turns input e k d =
    let c : Checked text NotAccepted out err = subst (λ (c : Option Command). AnswersTo C c text NotAccepted out err) k d in
    subst (λ (c : Option Command). AnswersTo C c text NotAccepted out err) (sym e) (refused c)
