-- The sheet that carries what was built: what a built answer shows of the lent sheet and of the buffer; and what is
-- written to which stream. Assumes nothing.
use Rattle.std.specs.Prelude.{Err}
use Prim.Native.Nat.{ℕ, ◌≤◌}
use mathlib.Core.Path.{◌≡◌, refl, sym, ap, subst, ◌∙◌}
use mathlib.Core.List.{List, ◌++◌, append-nil}
use native.Mathlib.Omega.{arith}
use lib.ListN.{length, take, length-take}
use lib.Seq.{length-take-le}
use Rattle.sheet.specs.Check.{first_cause, Check, Clear, Refused}
use Rattle.sheet.specs.Promise.{Writes as Promise, Answer, Written as WrittenAnswer}
use Rattle.sheet.specs.Format.{standard}
use Rattle.sheet.specs.Reader.{machine_payload, word_in}
use Rattle.sheet.specs.Writing.{Puts}
use Rattle.sheet.specs.Writing.Laws.{puts_long, puts_same}
use Rattle.sheet.specs.Promise.Laws.{writes_outcome, written_clear, fits_refused, refused_leaves, written_first}
use Rattle.sheet.specs.Promise.Laws.{puts_writes, writes_puts}
use Rattle.machine.specs.Limits.{most_machine, most_word, most_sequence}
use Rattle.machine.specs.Causes.{machine_in}
use Rattle.machine.specs.Causes.Lists.{clear_machine, payload_short}
use Rattle.build.specs.Sequence.{sequence}
use Rattle.build.specs.Building.{build_needs, connected_causes, Builds}
use Rattle.build.specs.Building.Connection.{clear_load, clear_distinguishes}
use Rattle.build.proofs.BuildingService.{connected_built}
use Rattle.report.specs.declared.output.Written.{Written}
use Rattle.report.specs.Lines.{refusal_line}
use Rattle.report.specs.Pieces.{Prints}
use Rattle.report.specs.Output.{Output, on_output, on_error, bytes_unless, Writes, Tells}
use Rattle.report.specs.Output.Laws.{unless_clear, unless_refused, writes_same}

-- ---- what building answers in a room for every sequence
pub record HoldsBuilt (s buffer : List ℕ) (n : ℕ) : Type 0 where
  pub clear : first_cause (connected_causes s) ≡ Clear
  pub machine : length (machine_payload s) ≤ most_machine standard
  pub word : length (word_in s) ≤ most_word
  pub few : n ≤ most_sequence
  pub inside : n ≤ length buffer
  pub sized : n ≡ length (take n buffer)
  pub built : take n buffer ≡ sequence (machine_in s) (word_in s)

module _ (s : List ℕ) {before after : List ℕ} {a : Answer} (room : length before ≡ most_sequence)
    (h : Builds s before after a) where
  pub built_refuses : {number place : ℕ} → a ≡ Refused number place
      → first_cause (connected_causes s) ≡ Refused number place
  built_refuses e = fits_refused (λ q. omega (arith, room, (connected_built s q).commands.few)) (writes_outcome h e)

  pub built_holds : {n : ℕ} → a ≡ WrittenAnswer n → HoldsBuilt s after n
  built_holds {n} e =
      let o = writes_outcome h e in
      let clear = (written_clear o).0 in
      let load = clear_load s clear in
      let xs : take n after ≡ sequence (machine_in s) (word_in s) =
      ap (take n) h.buffer ∙ (written_first before o).0 in
      let sized : n ≡ length (take n after) = (written_clear o).1.0 ∙ sym (ap length xs) in
      record {
        clear = clear;
        machine = payload_short build_needs s (clear_machine build_needs s load);
        word = (clear_distinguishes s clear).commands.few;
        few = omega (arith, room, (written_clear o).1.1);
        inside = omega (arith, sized, length-take n after);
        sized = sized;
        built = xs;
      }

-- ---- what is written to the streams
pub writes_parts : {before after : List ℕ} {out end : ℕ} (o : Output) → out ≡ length o.out
    → Puts before 0 (o.out ++ o.err) after end → Writes o before after (record { out = out; end = end })
writes_parts {before} {after} {out} {end} o e h =
    let xs = o.out ++ o.err in
    let low : end ≤ length after = omega (arith, h.inside, puts_long xs h) in
    record {
      out = e;
      promise = puts_writes before refl h;
      counts = (low, sym (length-take-le end after low));
    }

pub writes_output : {before after : List ℕ} {size : ℕ} (xs : List ℕ) {o : Output} {r : Written} → o ≡ on_output xs
    → r ≡ record { out = size; end = size } → Prints xs before after size → Writes o before after r
writes_output xs e f h =
    rw f (writes_same (writes_parts (on_output xs) (omega (arith, h.ends)) (puts_same (sym (append-nil xs)) h)) e)

pub writes_error : {before after : List ℕ} {size : ℕ} (xs : List ℕ) {o : Output} {r : Written} → o ≡ on_error xs
    → r ≡ record { out = 0; end = size } → Prints xs before after size → Writes o before after r
writes_error xs e f h = rw f (writes_same (writes_parts (on_error xs) refl h) e)

-- ---- what a service that writes promised, told
pub promised : {c : Check} {xs before middle after : List ℕ} (a : Answer) {r : Written} {o : Output}
    → o ≡ bytes_unless c xs → Promise c xs before middle a → (c ≡ Clear → length xs ≤ length before)
    → Tells a middle after r → Writes o before after r
promised {c} {xs} {before} (WrittenAnswer n) e h fits t =
    let clear = (written_clear (writes_outcome h refl)).0 in
    rw t.1 (writes_output xs (e ∙ unless_clear _ clear) t.0 (writes_puts before h))
promised {c} {xs} {before} {middle} {after} (Err x) {r} e h fits t =
    let o = writes_outcome h refl in
    writes_same
    (subst (λ (d : List ℕ). Writes (on_error (refusal_line x.number x.place)) d after r) (h.buffer ∙ refused_leaves before o) t)
    (e ∙ unless_refused _ (fits_refused fits o))
