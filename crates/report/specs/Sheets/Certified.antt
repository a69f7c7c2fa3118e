-- The sheet that is made from what was built is read as meant, and certifying answers certified.
use Rattle.std.specs.Prelude.{ℕ, ◌+◌, ◌≤◌, ◌≡◌, refl, false, List, [], ◌∷◌, ◌++◌, length, take}
use Rattle.std.proofs.Common.{sym, ap, ap₂, ◌∙◌, arith}
use Rattle.facts.specs.Bytes.{Bytes}
use Rattle.sheet.specs.Check.{◌else◌, first_cause, Clear}
use Rattle.sheet.specs.Promise.{Written}
use Rattle.certify.specs.Answer.{Certified}
use Rattle.sheet.specs.Check.Laws.{else_clear}
use Rattle.sheet.specs.Format.{standard, longest, end}
use Rattle.sheet.specs.Reader.{word_in, sequence_in, word_record, sequence_record}
use Rattle.sheet.specs.Reader.Laws.{needed_word}
use Rattle.sheet.specs.Promise.Laws.{room_clear, writing_outcome, written_clear}
use Rattle.sheet.specs.Joining.{bytes_of, joined, record_in, fresh}
use Rattle.sheet.specs.Joining.Laws.{joined_none, joined_long, standard_roles, kept_fresh}
use Rattle.sheet.specs.Joining.Front.{kept_front}
use Rattle.machine.specs.Causes.{machine_in, load_causes}
use Rattle.machine.specs.Causes.Lists.{distinguishes_clear, sequence_clear, loading_clear, clear_sheet, kind_reads}
use Rattle.machine.specs.Causes.Lists.{clear_machine}
use Rattle.certify.specs.Marks.{count, marks}
use Rattle.certify.specs.Certification.{sequence_needs, certification}
use Rattle.certify.specs.Certification.Laws.{marking_causes_are}
use Rattle.build.specs.Sequence.{sequence}
use Rattle.build.specs.Building.{build_needs, connected_causes, building}
use Rattle.build.specs.Building.Connection.{clear_load, clear_distinguishes}
use Rattle.build.proofs.BuildingService.{connected_built, built_sequence, built_certification}
use Rattle.report.specs.Sheets.{built_sheet}
use Rattle.report.specs.Sheets.Kept.{Keeps, keeps}

-- what the sheet with a sequence added is read as
pub record Carries (s xs t : List ℕ) : Type 0 where
  pub machine : machine_in t ≡ machine_in s
  pub word : word_in t ≡ word_in s
  pub sequence : sequence_in t ≡ xs
  pub short : length t ≤ longest
  pub clear : first_cause (load_causes (sequence_needs false) t) ≡ Clear

-- where no cause before 9 is present, the sheet that is made has the same machine and word and carries the sequence,
-- and no cause of loading is present
pub connected_carries : (s : List ℕ) → first_cause (connected_causes s) ≡ Clear
    → Carries s (sequence (machine_in s) (word_in s)) (built_sheet s)
unfolding built_sheet
connected_carries s e =
    let xs = sequence (machine_in s) (word_in s) in
    let h = (connected_built s e).commands in
    let rows = clear_machine build_needs s (clear_load s e) in
    let d = clear_distinguishes s e in
    let two = standard_roles.1.0.0 in
    let word = fresh standard.word (word_in s) in
    let last = fresh standard.sequence xs in
    let rest = word ∷ last ∷ [] in
    let long = joined_long word (last ∷ []) in
    let k : Keeps s rest (joined (record_in standard s standard.machine ∷ rest)) =
    keeps build_needs s rows rest (
      omega (arith, two),
      omega arith,
      omega (arith, d.commands.few),
      (omega (arith, two, standard_roles.1.1.0.0), omega arith, omega (arith, h.few), tt),
    )
    (omega (arith, d.commands.few, h.few, long, joined_long last [], ap length joined_none)) in
    let t = joined (record_in standard s standard.machine ∷ rest) in
    record {
      machine = k.machine;
      word = k.word;
      sequence = k.sequence;
      short = k.short;
      clear =
          loading_clear (sequence_needs false) t (k.clear (sequence_needs false) refl)
          (λ _. distinguishes_clear (machine_in t) (word_record t).start (word_in t) (rw (k.machine, k.word) d))
          (λ _. sequence_clear (machine_in t) (sequence_record t).start (sequence_in t)
          (rw (k.machine, k.sequence) h));
    }

-- so it does where a sequence was built
pub built_carries : (room : ℕ) (s : List ℕ) {n : ℕ} → building room s ≡ Written n
    → Carries s (sequence (machine_in s) (word_in s)) (built_sheet s)
built_carries room s e = connected_carries s (written_clear (writing_outcome e)).0

-- its first bytes are those of the given sheet, up to the end of the word's record
pub built_front : (room : ℕ) (s : List ℕ) {n : ℕ} → Bytes s → building room s ≡ Written n
    → built_sheet s
    ≡ take (end (word_record s)) s ++ bytes_of (fresh standard.sequence (sequence (machine_in s) (word_in s)))
unfolding built_sheet
built_front room s bytes e =
    let load = clear_machine build_needs s (clear_load s (written_clear (writing_outcome e)).0) in
    let word = kind_reads build_needs s load standard.word (needed_word standard build_needs refl) in
    let last = fresh standard.sequence (sequence (machine_in s) (word_in s)) in
    ap (λ (r : ℕ × List ℕ). joined (record_in standard s standard.machine ∷ r ∷ last ∷ []))
    (sym (kept_fresh standard _ s word))
    ∙ kept_front standard s bytes (standard.machine ∷ standard.word ∷ [])
    (standard_roles.0, (standard_roles.1.0, tt)) (clear_sheet build_needs s load) last

-- and certifying it, in a room for its marks, answers certified
pub built_sheet_certified : (room : ℕ) (s : List ℕ) {n : ℕ} → building room s ≡ Written n → (marksRoom : ℕ)
    → n + 1 ≤ marksRoom
    → certification marksRoom (built_sheet s)
    ≡ Certified (count (marks (machine_in s) (word_in s) (sequence (machine_in s) (word_in s))))
built_sheet_certified room s {n} e marksRoom enough =
    let xs = sequence (machine_in s) (word_in s) in
    let t = built_sheet s in
    let c = built_carries room s e in
    let sequence-facts = built_sequence room s e in
    let long : length (sequence_in t) + 1 ≤ marksRoom =
    omega (arith, enough, sequence-facts.long, ap length c.sequence) in
    built_certification room s e marksRoom t c.machine c.word c.sequence
    (marking_causes_are false marksRoom t
    ∙ ap₂ ◌else◌ c.clear (room_clear marksRoom (length (sequence_in t) + 1) long)
    ∙ else_clear Clear)
