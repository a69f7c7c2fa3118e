-- The laws of the service that rest on the length formula (specs/Building/Service.antt has the others): what an answer of
-- built shows of the sequence, and that 20,355 bytes are always enough room. An edit of the formula is refused below them.
use Rattle.std.specs.Prelude.{ℕ, ◌≤◌, ◌≡◌, refl, List, length}
use Rattle.std.proofs.Common.{◌∙◌, arith}
use Rattle.sheet.specs.Check.{first_cause, Clear}
use Rattle.sheet.specs.Promise.{Written}
use Rattle.certify.specs.Answer.{Certified as CertifiedAnswer}
use Rattle.sheet.specs.Check.Laws.{else_clear}
use Rattle.sheet.specs.Reader.{word_in, sequence_in}
use Rattle.sheet.specs.Promise.Laws.{room_clear, writing_outcome, written_clear}
use Rattle.machine.specs.Limits.{most_sequence}
use Rattle.machine.specs.Causes.{machine_in, load_causes}
use Rattle.certify.specs.Marks.{count, marks}
use Rattle.certify.specs.Certification.{certify_causes, certification}
use Rattle.certify.specs.Certification.Laws.{outcome_clear, certification_clear}
use Rattle.certify.proofs.CertificationLaws.{certified_clear}
use Rattle.build.specs.Sequence.{sequence}
use Rattle.build.specs.Sequence.Laws.{Blocks, sequence_leads}
use Rattle.build.specs.Sequence.Certified.{sequence_some, sequence_certified}
use Rattle.build.specs.Sequence.Length.{sequence_length, sequence_low, longest_below}
use Rattle.build.specs.Building.{build_needs, cause8, connected_causes, build_cause, building}
use Rattle.build.specs.Building.Connection.{clear_blocks, clear_eight, clear_proper, clear_distinguishes, all_clear}
use Rattle.build.specs.Building.Service.{BuiltSequence}

-- where no cause before 9 is present
pub connected_built : (s : List ℕ) → first_cause (connected_causes s) ≡ Clear
    → let xs = sequence (machine_in s) (word_in s) in BuiltSequence (machine_in s) (word_in s) xs (length xs)
connected_built s e =
    let M = machine_in s in
    let w = word_in s in
    let commands = (clear_distinguishes s e).commands in
    let blocks : Blocks M w = clear_blocks M w (clear_proper s e) commands (clear_eight s e) in
    let certified = sequence_certified M w blocks in
    record {
      long = refl;
      commands = record {
        some = sequence_some M w blocks;
        few = omega (arith, longest_below M w (clear_proper s e) commands.few, sequence_length M w blocks);
        low = sequence_low M w blocks;
      };
      bounded = sequence_length M w blocks;
      certified = certified;
      outcome = outcome_clear M w (sequence M w) (certified_clear M w (sequence M w) certified);
      ends = sequence_leads M w blocks;
    }

-- in a room of 20,355 bytes cause 9 is never present
pub always_fits : (room : ℕ) (s : List ℕ) → most_sequence ≤ room → first_cause (load_causes build_needs s) ≡ Clear
    → cause8 (machine_in s) (word_in s) ≡ Clear → build_cause room s ≡ Clear
always_fits room s l load eight =
    let e = all_clear s load eight in
    let fits : length (sequence (machine_in s) (word_in s)) ≤ room = omega (arith, (connected_built s e).commands.few) in
    rw (e, room_clear room _ fits) (else_clear Clear)

-- an answer of built shows all that of the sequence
pub built_sequence : (room : ℕ) (s : List ℕ) {n : ℕ} → building room s ≡ Written n
    → BuiltSequence (machine_in s) (word_in s) (sequence (machine_in s) (word_in s)) n
built_sequence room s e =
    let o = written_clear (writing_outcome e) in
    rw o.1.0 (connected_built s o.0)

-- a sheet with the same machine and word, and what is built as its sequence, is answered certified wherever
-- certifying refuses nothing
pub built_certification : (room : ℕ) (s : List ℕ) {n : ℕ} → building room s ≡ Written n
    → (marksRoom : ℕ) (with-sequence : List ℕ) → machine_in with-sequence ≡ machine_in s
    → word_in with-sequence ≡ word_in s → sequence_in with-sequence ≡ sequence (machine_in s) (word_in s)
    → first_cause (certify_causes marksRoom with-sequence) ≡ Clear
    → certification marksRoom with-sequence
    ≡ CertifiedAnswer (count (marks (machine_in s) (word_in s) (sequence (machine_in s) (word_in s))))
built_certification room s e marksRoom with-sequence me we xe clear =
    let sequence-facts = built_sequence room s e in
    certification_clear marksRoom with-sequence clear ∙ (rw (me, we, xe) sequence-facts.outcome)
