-- What a sheet is read as whose first record is the machine's of another sheet, as it is there.
use Rattle.std.specs.Prelude.{ℕ, ◌+◌, ◌≤◌, ◌≡◌, true, List, ◌∷◌, length}
use Rattle.std.proofs.Common.{sym, ap, ap₂, subst, ◌∙◌, arith}
use Rattle.sheet.specs.Check.{◌else◌, first_cause, Clear}
use Rattle.sheet.specs.declared.reader.Needs.{Needs}
use Rattle.sheet.specs.Check.Laws.{else_clear}
use Rattle.sheet.specs.Format.{standard, longest, header}
use Rattle.sheet.specs.Reader.{needed, machine_payload, word_in, sequence_in, machine_record}
use Rattle.sheet.specs.Reader.Laws.{needed_machine}
use Rattle.sheet.specs.Joining.{joined, InOrder, payload_of, has_all, record_in, fresh}
use Rattle.sheet.specs.Joining.Laws.{joined_long, content_joined, causes_joined}
use Rattle.sheet.specs.Joining.Laws.{standard_roles, kept_fresh}
use Rattle.machine.specs.Limits.{most_machine}
use Rattle.machine.specs.Causes.{machine_in, table_causes, machine_causes}
use Rattle.machine.specs.Causes.Laws.{table_anywhere}
use Rattle.machine.specs.Causes.Lists.{machine_causes_are, clear_table, kind_reads, payload_short, machine_same}

-- the sheet t carries the machine of s, and besides it the word and the sequence of these records; its machine has no
-- cause for a service that needs no role but those that have a record
pub record Keeps (s : List ℕ) (rest : List (ℕ × List ℕ)) (t : List ℕ) : Type 0 where
  pub short : length t ≤ longest
  pub payload : machine_payload t ≡ machine_payload s
  pub machine : machine_in t ≡ machine_in s
  pub word : word_in t ≡ payload_of standard.word rest
  pub sequence : sequence_in t ≡ payload_of standard.sequence rest
  pub clear : (m : Needs) → has_all (needed standard m) (fresh standard.machine (machine_payload s) ∷ rest) ≡ true
      → first_cause (machine_causes m t) ≡ Clear

pub keeps : (n : Needs) (s : List ℕ) → first_cause (machine_causes n s) ≡ Clear → (rest : List (ℕ × List ℕ))
    → InOrder standard 1 rest → header + most_machine standard + length (joined rest) ≤ longest
    → Keeps s rest (joined (record_in standard s standard.machine ∷ rest))
keeps n s load rest order fits =
    let p = machine_payload s in
    let rs = fresh standard.machine p ∷ rest in
    let t = joined rs in
    let few = payload_short n s load in
    let one = standard_roles.0.0 in
    let sorted : InOrder standard 0 rs = (omega (arith, one), omega arith, omega (arith, few), rw one order) in
    let short : length t ≤ longest = omega (arith, few, joined_long (fresh standard.machine p) rest) in
    let payload : machine_payload t ≡ p = content_joined standard rs sorted short standard.machine in
    subst (λ (r : ℕ × List ℕ). Keeps s rest (joined (r ∷ rest)))
    (sym (kept_fresh standard _ s (kind_reads n s load standard.machine (needed_machine standard n))))
    (record {
      short = short;
      payload = payload;
      machine = machine_same s t payload;
      word = content_joined standard rs sorted short standard.word;
      sequence = content_joined standard rs sorted short standard.sequence;
      clear = λ m all.
          machine_causes_are m t
          ∙ ap₂ ◌else◌ (causes_joined standard rs sorted short (needed standard m) all)
          (ap (λ (q : List ℕ). first_cause (table_causes standard (machine_record t).start q)) payload
          ∙ table_anywhere standard (machine_record s).start (machine_record t).start p (clear_table n s load))
          ∙ else_clear Clear;
    })
