-- The values of certifying's answer are small: places of refusals lie inside the longest sheet, counts at most N+1,
-- open numbers at most n·k. So the capture rig's number holds each of them in its own bits.
use Rattle.std.specs.Prelude.{Err}
use Rattle.std.specs.Prelude.{ℕ, ◌+◌, ◌≤◌, ◌≡◌, refl, false, List}
use Rattle.std.proofs.Common.{arith}
use Rattle.sheet.specs.Check.{first_cause, Clear}
use Rattle.certify.specs.Answer.{Answer, Certified, Open}
use Rattle.sheet.specs.Values.{Fits}
use Rattle.sheet.specs.Reader.{word_in, sequence_in}
use Rattle.machine.specs.Limits.{most_sequence}
use Rattle.machine.specs.Machine.{Mealy}
use Rattle.machine.specs.Machine.Laws.{proper_entries}
use Rattle.machine.specs.Causes.{machine_in}
use Rattle.machine.specs.Causes.Lists.{load_proper}
use Rattle.certify.specs.Recognition.{RecognisedNumber}
use Rattle.certify.specs.Recognition.Laws.{open_small}
use Rattle.certify.specs.Marks.{marks}
use Rattle.certify.specs.Marks.Laws.{count_most}
use Rattle.certify.specs.Certification.{sequence_needs, mark_bytes, certify_causes, certification}
use Rattle.certify.specs.Certification.{values_of}
use Rattle.certify.specs.Certification.Laws.{load_clear, marked_commands}
use Rattle.certify.specs.Certification.Bounds.{marking_small}
use Rattle.certify.proofs.MarksAgreement.{marks_length}
use Rattle.certify.proofs.CertificationContract.{number_is, certification_says}

-- ---- results, where nothing is refused
-- the recognised places are at most N+1
number_small : (M : Mealy) (w xs : List ℕ) {n : ℕ} → RecognisedNumber M w xs n → n ≤ mark_bytes xs
number_small M w xs h = omega (arith, number_is M w xs h, count_most (marks M w xs), marks_length M w xs)

-- ---- the values
pub certification_fits : (room : ℕ) (s : List ℕ) → Fits (values_of (certification room s))
certification_fits room s = go (certification room s) refl
  where
    few : {n : ℕ} → first_cause (certify_causes room s) ≡ Clear
        → RecognisedNumber (machine_in s) (word_in s) (sequence_in s) n → n ≤ most_sequence + 1
    few e h =
        omega (arith, number_small (machine_in s) (word_in s) (sequence_in s) h, (marked_commands false room s e).few)

    go : (x : Answer) → certification room s ≡ x → Fits (values_of (certification room s))
    go (Certified n) e =
        let h = ((certification_says room s).certified n).0 e in
        rw e (record { place = omega (arith, few h.clear h.number); a = omega arith; b = omega arith })
    go (Open n v) e =
        let h = ((certification_says room s).opened n v).0 e in
        let proper = load_proper (sequence_needs false) s (load_clear false room s h.clear) in
        rw e (record {
          place = omega (arith, few h.clear h.number);
          a = omega arith;
          b = omega (
            arith,
            open_small (machine_in s) (word_in s) (sequence_in s) v h.open_number,
            proper_entries (machine_in s) proper,
          );
        })
    go (Err r) e =
        rw e (record {
          place = omega (arith, (marking_small false room s r.number r.place (((certification_says room s).refused r.number r.place).0 e)).place);
          a = omega arith;
          b = omega arith;
        })
