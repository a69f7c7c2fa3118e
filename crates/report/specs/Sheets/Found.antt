-- The sheet that is made from the word that was found is read as meant: the machine is the same, the word is the one
-- that was found, no cause of loading is present, and building takes it or refuses it with 8 or 9.
use Rattle.std.specs.Prelude.{ℕ, ◌≤◌, ◌≡◌, refl, List, [], ◌∷◌, ◌++◌, length, take}
use Rattle.std.proofs.Common.{sym, ap, ap₂, ◌∙◌, true≢false, arith}
use Rattle.facts.specs.Bytes.{Bytes}
use Rattle.sheet.specs.Check.{◌else◌, first_cause, Check, Clear}
use Rattle.sheet.specs.Promise.{cause_to_write}
use Rattle.word.specs.Answer.{Found}
use Rattle.sheet.specs.Check.Laws.{else_clear}
use Rattle.sheet.specs.Format.{standard, longest, end}
use Rattle.sheet.specs.Reader.{word_in, machine_record}
use Rattle.sheet.specs.Joining.{bytes_of, fresh}
use Rattle.sheet.specs.Joining.Laws.{joined_none, joined_long, standard_roles}
use Rattle.sheet.specs.Joining.Front.{kept_front}
use Rattle.machine.specs.Causes.{machine_in, load_causes}
use Rattle.machine.specs.Causes.Lists.{loading_clear, clear_sheet, clear_machine}
use Rattle.build.specs.Sequence.{sequence}
use Rattle.build.specs.Building.{build_needs, cause8, build_cause}
use Rattle.build.specs.Building.Connection.{connected_causes_are}
use Rattle.word.specs.Service.{search_needs, search_causes, searching}
use Rattle.word.specs.Service.Laws.{found_passes, found_answered}
use Rattle.report.specs.Sheets.{word_sheet}
use Rattle.report.specs.Sheets.Kept.{Keeps, keeps}

-- what the sheet with the word is read as
pub record Carries (s w t : List ℕ) : Type 0 where
  pub machine : machine_in t ≡ machine_in s
  pub word : word_in t ≡ w
  pub short : length t ≤ longest
  pub clear : first_cause (load_causes build_needs t) ≡ Clear

-- where a word was found, the sheet that is made has the same machine and carries the word, and no cause of loading is
-- present
pub word_carries : (s : List ℕ) {n : ℕ} (e : searching s ≡ Found n) →
    let w = (found_answered s e).word in Carries s w (word_sheet s w)
unfolding word_sheet
word_carries s e =
    let h = found_answered s e in
    let w = h.word in
    let few = h.sought.has.commands.few in
    let k : Keeps s (fresh standard.word w ∷ []) (word_sheet s w) =
    keeps search_needs s (clear_machine search_needs s h.clear) (fresh standard.word w ∷ [])
    (omega (arith, standard_roles.1.0.0), omega arith, omega (arith, few), tt)
    (omega (arith, few, joined_long (fresh standard.word w) [], ap length joined_none)) in
    record {
      machine = k.machine;
      word = k.word;
      short = k.short;
      clear =
          loading_clear build_needs (word_sheet s w) (k.clear build_needs refl)
          (λ _. found_passes s (word_sheet s w) h.found k.payload k.word) (λ t. absurd (true≢false (sym t)));
    }

-- its first bytes are those of the given sheet, up to the end of the machine's record
pub word_front : (s w : List ℕ) → Bytes s → first_cause (search_causes s) ≡ Clear
    → word_sheet s w ≡ take (end (machine_record s)) s ++ bytes_of (fresh standard.word w)
unfolding word_sheet
word_front s w bytes e =
    kept_front standard s bytes (standard.machine ∷ []) (standard_roles.0, tt)
    (clear_sheet search_needs s (clear_machine search_needs s e)) (fresh standard.word w)

-- building succeeds on it, or refuses it with 8 or 9, as this machine and this word give them
pub word_builds : (room : ℕ) (s : List ℕ) {n : ℕ} (e : searching s ≡ Found n) →
    let w = (found_answered s e).word in
    build_cause room (word_sheet s w) ≡ cause_to_write (cause8 (machine_in s) w) room (sequence (machine_in s) w)
word_builds room s e =
    let t = word_sheet s (found_answered s e).word in
    let c = word_carries s e in
    let own = connected_causes_are t ∙ ap₂ ◌else◌ c.clear (ap₂ cause8 c.machine c.word) ∙ else_clear _ in
    ap₂ (λ (d : Check) (xs : List ℕ). cause_to_write d room xs) own (ap₂ sequence c.machine c.word)
