-- A run that does as its plan says, and the call in its place, do the same to what both know.
use Rattle.std.proofs.Common.{◌≡◌, ◌≤◌, ℕ, Bool, true, false, ◌||◌, List, length, None, slice_get, refl, sym, ap, ◌∙◌, arith}
use Rattle.rx_tree.specs.Plain.{OptionalExpression, Statement}
use Rattle.rx_resolve_names.specs.Steps.{Inside}
use Rattle.rx_typed.specs.declared.nodes.Node.{Node}
use Rattle.rx_typed.specs.Named as named
use Rattle.rx_typed.specs.Named.{Else, Statements, some_diverges}
use Rattle.rx_typed.specs.Naming.{Cursor, of_optional, of_statements}
use Rattle.rx_hoist_extraction.specs.Run.{as_statements}
use Rattle.rx_engine_names.specs.Renaming.{Renaming}
use Rattle.rx_engine_names.specs.HandedOut.{Handing}
use Rattle.rx_engine_names.specs.HandsOver.{at_place, told_handed, told_last}
use Rattle.rx_engine_changed.specs.Beside.{IsOneToOne, Piece}
use Rattle.rx_engine_changed.specs.Deeds.{also, of_else, Deeds}
use Rattle.rx_engine_changed.specs.Deeds as deeds
use Rattle.rx_engine_changed.specs.DoAlike.{DoAlike, EndDoesAlike, HandsOnAlike, RunDoesAlike}
use Rattle.rx_engine_changed.specs.PlannedDeeds.{planned_assigned, planned_left, DoesAsPlanned, EndAsPlanned, RunAsPlanned}
use Rattle.rx_engine_changed.specs.Stages.{waits_there, InStep, Mutability}
use Rattle.rx_engine_changed.proofs.Deeds.{does_on, optional_does, statements_does, Does}
use Rattle.rx_engine_changed.proofs.GoingOn.{beyond, true_false}
use Rattle.rx_engine_changed.proofs.PlannedDeeds.{or_false, planned_diverges, planned_does, tailless, Doing}

module _ (R : Renaming) (apart : IsOneToOne R) (W : Mutability) where
  -- no variable that the second declares waits
  none_waits : {f' : Deeds} (made : List Piece) (c c' d' : Cursor) → InStep R W made c c' → Does c'.declared f' c' d' → ((m : ℕ) → f'.awaits m ≡ false) → (m : ℕ) → c'.declared ≤ m → waits_there (slice_get d'.variables m) ≡ false
  none_waits {f' = f'} made c c' d' st x awaits m h = by (waits_there (slice_get d'.variables m)) refl
    where
      away : waits_there (slice_get c'.variables m) ≡ false
      away = ap waits_there (beyond c'.variables m (let e = st.counted' in omega (arith, e, h)))

      by : (b : Bool) → waits_there (slice_get d'.variables m) ≡ b → waits_there (slice_get d'.variables m) ≡ false
      by false e = e
      by true e = absurd (true_false (sym ((x.kept (record { counted = st.counted'; above = omega arith })).awaited m e) ∙ ap (λ (b : Bool). b || f'.awaits m) away ∙ awaits m))

  alike : {G : Handing} {f f' : Deeds} (made : List Piece) (c c' d' : Cursor) → InStep R W made c c' → Does c'.declared f' c' d' → DoesAsPlanned G f c → Doing R apart f' (planned_assigned G) (planned_left G) → DoAlike R f f' c c' d'
  alike made c c' d' st x plan call = record {
    assigned = λ n m r h h' w. plan.assigned n h w ∙ sym (call.assigns n m r);
    left = λ n m r h h'. plan.left n h ∙ sym (call.leads n m r);
    alone = λ m h w. none_waits made c c' d' st x call.awaits m h;
  }

  -- without a tail
  no_tail_more : (G : Handing) {f : Deeds} → Doing R apart (also f deeds.nothing) (planned_assigned G) (planned_left G) → Doing R apart f (planned_assigned G) (planned_left G)
  no_tail_more G {f = f} h = record {
    assigns = λ n m r. sym (or_false (f.assigns m)) ∙ h.assigns n m r;
    leads = λ l k r. sym (or_false (f.leaves k)) ∙ h.leads l k r;
    awaits = λ m. sym (or_false (f.awaits m)) ∙ h.awaits m;
  }

  pub run_does : (G : Handing) (I I' : Inside) (C : Cursor → Type 0) (B : Cursor → Cursor → Type 0) (there : (c c' : Cursor) → B c c' → C c) (front run call : List Statement) → G.call.plan.value ≡ None → RunAsPlanned G I C front run → HandsOnAlike R W (told_handed G) I I' B front run call → RunDoesAlike R W (told_handed G) I I' B front run call
  run_does G I I' C B there front run call none planned handed made c c' p come st s =
      let x = planned c p (there c c' come) s.text in let H = at_place G s.text.middle.scope p.around in let a = s.told.2 in
      let y = planned_does R apart H {d = length s.made.middle.tables.vars} {later = s.told.0} {ss = (of_statements (as_statements call) c').0} {o = named.absent} a (tailless R apart H none (length s.made.middle.tables.vars)) in
      let z = planned_diverges R apart H {d = length s.made.middle.tables.vars} {later = s.told.0} {ss = (of_statements (as_statements call) c').0} {o = named.absent} a (tailless R apart H none (length s.made.middle.tables.vars)) in (
        alike {G = H} made c c' (of_statements (as_statements call) c').1 st (statements_does c'.declared (as_statements call) c') x.0 (no_tail_more H y),
        handed made c c' p come st s,
        sym (or_false (some_diverges (of_statements (as_statements call) c').0)) ∙ z.0 ∙ sym x.1,
      )

  pub end_does : (G : Handing) (I I' : Inside) (C : Node → Bool → Cursor → Type 0) (B : Node → Bool → Cursor → Cursor → Type 0) (there : (n : Node) (d : Bool) (c c' : Cursor) → B n d c c' → C n d c) (front run call : List Statement) (tail last : OptionalExpression) → EndAsPlanned G I C front run tail → EndDoesAlike R W (told_last G) I I' B front run call tail last
  end_does G I I' C B there front run call tail last planned made c c' p n d come st s =
      let t = n.site in let x = planned c p n d (there n d c c' come) s.text in let H = at_place G s.text.middle.scope p.around in let a = s.told.0.2 in
      let y = planned_does R apart H {d = length s.made.middle.tables.vars} {later = s.told.0.0} {ss = (of_statements (as_statements call) c').0} {o = (of_optional t last (of_statements (as_statements call) c').1).0} a s.told.1 in
      let z = planned_diverges R apart H {d = length s.made.middle.tables.vars} {later = s.told.0.0} {ss = (of_statements (as_statements call) c').0} {o = (of_optional t last (of_statements (as_statements call) c').1).0} a s.told.1 in (
        alike {G = H} made c c' (of_optional t last (of_statements (as_statements call) c').1).1 st (does_on c'.declared (statements_does c'.declared (as_statements call) c') (optional_does c'.declared last t (of_statements (as_statements call) c').1)) x.0 y,
        (z.0 ∙ sym x.1, λ d. z.1 d ∙ sym (x.2 d)),
      )
